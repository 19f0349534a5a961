-- A run numbers each thread and each object once.
use Rattle.std.proofs.Common.{◌≡◌, ℕ, ◌≤◌, List, [], ◌∷◌, ◌++◌, None, refl, sym, ◌∙◌, subst, arith}
use Rattle.std.specs.Prelude.{ℤ}
use Rattle.std.specs.FinMap as fin
use Rattle.cc_core.specs.Names.{Name, name_cmp, Map}
use Rattle.cc_core.specs.Core.{Program, function, shapes}
use Rattle.cc_core.specs.Config.{Config, State, Live, Object, write_all}
use Rattle.cc_core.specs.Effects.{parameters}
use Rattle.cc_core.specs.Laws.{IsReached, NamesAreFree}
use Rattle.cc_core.specs.Numbers.{Numbers, listing, list_threads, list_objects, first_numbers, numbers_step}
use Rattle.cc_core.specs.Steps.{Change, Moves, settle, change, apply, step, start, ints}
use Rattle.cc_core.proofs.Maps.{get_other}
use Rattle.cc_core.proofs.Fresh.{not_longer, writes_none, free_reached}
use Rattle.cc_core.proofs.StepLaws.{run_joined}
use Rattle.run_numbers.specs.RunNumbers.{IsNumbered, begins, goes_on, IsListed, AreNumbered, NumbersStay}
use Rattle.run_numbers.proofs.Lists.{one_more, replaced, none_numbered, listed_empty}
use Rattle.run_numbers.proofs.Changes.{IsMet, IsJoined, IsNumberedStep, Met, Joined, numbered_step}
use Rattle.run_numbers.proofs.Free.{threads_free, effect_free, first_parameters_free, threads_numbered, objects_numbered, threads_stay, objects_stay, written_numbered}

module _ (p : Program) (t : Name) (s r : Config) (n after : Numbers) where
  module _ (free : NamesAreFree s) (m : IsMet p t s r n after) where
    abbrev pub made : Change
    made = change p t s m.l m.ask m.k m.found

    abbrev pub stepped : Map State
    stepped = fin.insert s.threads t (settle p made.thread)

    pub new_free : (j : ℕ) → m.l.threads ≤ j → fin.get stepped (j ∷ t) ≡ None
    new_free j h = get_other s.threads t (settle p made.thread) (j ∷ t) (not_longer j t) ∙ free.threads t m.l m.live j h

    met_threads : AreNumbered n.threads s.threads → AreNumbered after.threads r.threads
    met_threads are =
        let base : AreNumbered n.threads stepped = replaced n.threads s.threads are t (Live m.l) (settle p made.thread) m.live in
        let all : AreNumbered (list_threads n.threads made.new) (apply p t made s).threads =
        threads_numbered p made.new n.threads stepped base (threads_free p stepped t m.l.threads _ _ _ new_free) in
        subst (λ (a : Numbers). AreNumbered a.threads r.threads) (sym m.numbers)
        (subst (λ (c : Config). AreNumbered (list_threads n.threads made.new) c.threads) (sym m.is) all)

    abbrev pub written : Map Object
    written = write_all s.objects made.effect.writes

    pub own_free : (j : ℕ) → m.l.objects ≤ j → fin.get written (j ∷ t) ≡ None
    own_free j h = writes_none made.effect.writes s.objects (j ∷ t) (free.objects t m.l m.live j h)

    pub copy_free : fin.get written (0 ∷ m.l.threads ∷ t) ≡ None
    copy_free =
        writes_none made.effect.writes s.objects (0 ∷ m.l.threads ∷ t)
        (free.no_objects (m.l.threads ∷ t) (free.threads t m.l m.live m.l.threads (omega arith)) 0)

    met_objects : AreNumbered n.objects s.objects → AreNumbered after.objects r.objects
    met_objects are =
        let base : AreNumbered n.objects written = written_numbered made.effect.writes n.objects s.objects are in
        let all : AreNumbered (list_objects n.objects made.effect.objects) (apply p t made s).objects =
        objects_numbered made.effect.objects n.objects written base (effect_free (shapes p) t m.l m.found written own_free copy_free m.ask) in
        subst (λ (a : Numbers). AreNumbered a.objects r.objects) (sym m.numbers)
        (subst (λ (c : Config). AreNumbered (list_objects n.objects made.effect.objects) c.objects) (sym m.is) all)

  module _ (m : IsJoined p t s r n after) where
    joined_threads : AreNumbered n.threads s.threads → AreNumbered after.threads r.threads
    joined_threads are =
        let all : AreNumbered n.threads (fin.insert s.threads t (settle p m.thread)) = replaced n.threads s.threads are t (Live m.l) (settle p m.thread) m.live in
        subst (λ (a : Numbers). AreNumbered a.threads r.threads) (sym m.numbers)
        (subst (λ (c : Config). AreNumbered n.threads c.threads) (sym m.is) all)

    joined_objects : AreNumbered n.objects s.objects → AreNumbered after.objects r.objects
    joined_objects are =
        subst (λ (a : Numbers). AreNumbered a.objects r.objects) (sym m.numbers)
        (subst (λ (c : Config). AreNumbered n.objects c.objects) (sym m.is) are)

  step_threads : NamesAreFree s → IsNumberedStep p t s r n after → AreNumbered n.threads s.threads → AreNumbered after.threads r.threads
  step_threads free (Met m) are = met_threads free m are
  step_threads free (Joined m) are = joined_threads m are

  step_objects : NamesAreFree s → IsNumberedStep p t s r n after → AreNumbered n.objects s.objects → AreNumbered after.objects r.objects
  step_objects free (Met m) are = met_objects free m are
  step_objects free (Joined m) are = joined_objects m are

  threads_kept : IsNumberedStep p t s r n after → NumbersStay n.threads after.threads
  threads_kept (Met m) =
      λ q k x h. subst (λ (a : Numbers). IsListed a.threads q k x) (sym m.numbers) (threads_stay (change p t s m.l m.ask m.k m.found).new n.threads q k x h)
  threads_kept (Joined m) = λ q k x h. subst (λ (a : Numbers). IsListed a.threads q k x) (sym m.numbers) h

  objects_kept : IsNumberedStep p t s r n after → NumbersStay n.objects after.objects
  objects_kept (Met m) =
      λ q k x h. subst (λ (a : Numbers). IsListed a.objects q k x) (sym m.numbers) (objects_stay (change p t s m.l m.ask m.k m.found).effect.objects n.objects q k x h)
  objects_kept (Joined m) = λ q k x h. subst (λ (a : Numbers). IsListed a.objects q k x) (sym m.numbers) h

pub threads_stay_numbered : (p : Program) (t : Name) (s r : Config) (n : Numbers) → step p t s ≡ Moves r
    → NumbersStay n.threads (numbers_step p t s n).threads
threads_stay_numbered p t s r n e = threads_kept p t s r n (numbers_step p t s n) (numbered_step p t s r n e)

pub objects_stay_numbered : (p : Program) (t : Name) (s r : Config) (n : Numbers) → step p t s ≡ Moves r
    → NumbersStay n.objects (numbers_step p t s n).objects
objects_stay_numbered p t s r n e = objects_kept p t s r n (numbers_step p t s n) (numbered_step p t s r n e)

-- ---- runs

module _ (p : Program) (ns : List ℤ) where
  first_threads : AreNumbered (first_numbers p ns).threads (start p ns).threads
  first_threads =
      let one : AreNumbered (listing fin.empty [] []) (start p ns).threads =
      one_more fin.empty [] [] fin.empty none_numbered _ (fin.get-empty name_cmp []) in
      subst (λ (us : List Name). AreNumbered (fin.insert fin.empty [] (us ++ [] ∷ [])) (start p ns).threads) (listed_empty []) one

  first_objects_numbered : AreNumbered (first_numbers p ns).objects (start p ns).objects
  first_objects_numbered =
      objects_numbered (parameters [] 0 [] (function p p.main).shape.params (ints ns)) fin.empty fin.empty none_numbered
      (first_parameters_free [] [] (function p p.main).shape.params (ints ns))

  pub reached : (s : Config) (n : Numbers) → IsNumbered p ns s n → IsReached p ns s
  reached s n begins = ([], refl)
  reached r n' (goes_on t s n h e) =
      let before = reached s n h in
      (before.0 ++ t ∷ [], run_joined p before.0 (t ∷ []) (start p ns) s r before.1 (r, e, refl))

  pub threads_are_numbered : (s : Config) (n : Numbers) → IsNumbered p ns s n → AreNumbered n.threads s.threads
  threads_are_numbered s n begins = first_threads
  threads_are_numbered r n' (goes_on t s n h e) =
      step_threads p t s r n (numbers_step p t s n) (free_reached p ns s (reached s n h)) (numbered_step p t s r n e) (threads_are_numbered s n h)

  pub objects_are_numbered : (s : Config) (n : Numbers) → IsNumbered p ns s n → AreNumbered n.objects s.objects
  objects_are_numbered s n begins = first_objects_numbered
  objects_are_numbered r n' (goes_on t s n h e) =
      step_objects p t s r n (numbers_step p t s n) (free_reached p ns s (reached s n h)) (numbered_step p t s r n e) (objects_are_numbered s n h)
