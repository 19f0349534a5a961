-- At rest no object is held, and no thread waits for one, where atomic functions always go on.
use Rattle.cc_core.specs.Numbers.{first_numbers}
use Rattle.law_processors.specs.Alone.{Label}
use Rattle.std.proofs.Common.{◌≡◌, ⊎_elim, ◌<◌, ℕ, List, length, true, false, Option, Some, None, refl, sym, ap, subst, ◌∙◌}
use Rattle.std.specs.FinMap as fin
use Rattle.std.specs.Option.{option_map_or}
use Rattle.std.specs.Prelude.{ℤ, slice_get}
use Rattle.std.proofs.lemmas.Option.{none-some}
use Rattle.std.proofs.lemmas.Bool.{false≢true}
use Rattle.cc_ops.specs.Values.{Ptr}
use Rattle.cc_ops.specs.Shelves.{Thing}
use Rattle.cc_core.specs.Core.{Program, function, shapes}
use Rattle.cc_core.specs.Source.{IsProgram}
use Rattle.cc_core.specs.Steps as core
use Rattle.cc_core.specs.Needs.{any_holds}
use Rattle.numbered_runs.specs.Stands.{IsShelf, IsThingAt}
use Rattle.numbered_runs.proofs.Lists.{pairwise_left}
use Rattle.core_types.specs.Types.{Types}
use Rattle.core_types.specs.Programs.{HasTypes}
use Rattle.core_types.proofs.Atomic.{rest_free}
use Rattle.law_processors.specs.Processors.{Locked, Processor, Processors}
use Rattle.law_processors.specs.Machine.{Run, IsStuck}
use Rattle.law_processors.specs.Orderly.{IsIn, held_on}
use Rattle.law_processors.specs.Whole.{first_processors, Follows}
use Rattle.law_processors.proofs.Edits.{map_at}
use Rattle.law_processors.proofs.Ordered.{OrderlyAll, run_orderly, first_orderly}
use Rattle.law_processors.proofs.Stuck.{free, none_ready, stuck_rests}
use Rattle.law_processors.proofs.Whole.{machine_begins, runs_follow}

module _ (p : Program) (y : Types) (ok : HasTypes p y) (source : IsProgram p) (main : p.main < length p.functions) (is : List ℤ)
    (many : length is ≡ length (function p p.main).shape.params) (steps : List Label) (m : Processors) (run : Run (first_processors p is) steps m)
    (stuck : IsStuck m) where
  follows : Follows p (core.start p is) (first_numbers p is) steps m
  follows = runs_follow p (first_processors p is) (core.start p is) (first_numbers p is) (machine_begins p source main is) steps m run

  at_rest : core.IsAtRest p follows.config
  at_rest = (stuck_rests p source main is steps m run stuck follows.config follows.numbers follows.after).0

  none_holds : (o : _) → any_holds (shapes p) o (fin.values follows.config.threads) ≡ false
  none_holds o = rest_free p y ok source is follows.config (many, (follows.threads, follows.run)) at_rest o

  module _ (q : ℕ) (r : Processor) (there : slice_get m.all q ≡ Some r) where
    shelf_there : slice_get follows.after.mesh.shelves q ≡ Some r.shelf
    shelf_there = sym (ap (λ ss. slice_get ss q) follows.after.runs.shelves) ∙ map_at (λ (z : Processor). z.shelf) m.all q r there

    unheld_thing : (o : ℕ) (x : Option Thing) → slice_get r.shelf.things o ≡ x → option_map_or (λ (t : Thing). t.held) x false ≡ false
    unheld_thing o None e = refl
    unheld_thing o (Some t) e =
        let stands = follows.after.of_run.stands in
        let shelf = pairwise_left (IsShelf follows.numbers (shapes p) follows.config) follows.numbers.processors follows.after.mesh.shelves stands.shelves q r.shelf shelf_there in
        let thing = pairwise_left (IsThingAt follows.numbers (shapes p) follows.config) _ r.shelf.things shelf.2.0 o t e in
        thing.2.3 ∙ none_holds (Ptr thing.0 0)

    unheld : (o : ℕ) → held_on r.shelf o ≡ false
    unheld o = unheld_thing o (slice_get r.shelf.things o) refl

    orderly : OrderlyAll m.code m.all
    orderly =
        let first = machine_begins p source main is in run_orderly (first_processors p is) first.mesh first.runs (first_orderly p is) steps m run

    unlocked : (o : ℕ) (l : Option Locked) → r.locks o ≡ l → r.locks o ≡ None
    unlocked o None e = e
    unlocked o (Some l) e = ⊎_elim
        (λ (held : held_on r.shelf o ≡ true). absurd (false≢true (sym (unheld o) ∙ held)))
        (λ z. ⊎_elim
        (λ (hand : r.hand ≡ Some l.holder). absurd (none-some l.holder (sym (free m stuck q r there) ∙ hand)))
        (λ (ready : IsIn l.holder r.ready). absurd (subst (IsIn l.holder) (none_ready m stuck q r there) ready)) z.0)
        ((orderly q r there).locks o l e)

    pub freed_at_rest : (o : ℕ) → (r.locks o ≡ None) × (held_on r.shelf o ≡ false)
    freed_at_rest o = (unlocked o (r.locks o) refl, unheld o)
