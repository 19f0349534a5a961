-- A run by rounds is what explains its journal.
use Rattle.std.proofs.Common.{◌≡◌, ℕ, ℤ, ◌<◌, List, length, Option, Some, None, refl, sym, ap, ◌∙◌, subst, arith}
use Rattle.global_ptr.specs.declared.ends.Standing.{Standing}
use Rattle.global_ptr.specs.declared.ends.Standing.TheVariants.{Done, Blocked, Fault, Limit}
use Rattle.cc_core.specs.Config.{Config}
use Rattle.cc_core.specs.Core.{Program}
use Rattle.cc_core.specs.Source.{IsProgram}
use Rattle.cc_core.specs.Steps as core
use Rattle.cc_ops.specs.declared.number.ThreadNo.{ThreadNo}
use Rattle.effect_journal.specs.declared.entry.Entry.{Entry}
use Rattle.effect_journal.specs.declared.entry.FaultBy.{FaultBy}
use Rattle.cc_explains.specs.Places.{Place, beginning}
use Rattle.cc_explains.specs.Explains.{limit_taken, IsBy, IsEnd, Explains}
use Rattle.cc_explains.specs.Moves.{IsAtFault}
use Rattle.cc_explains.proofs.Reading.{read_explained, explained_once, one_standing, lead_made}
use Rattle.law_processors.specs.Processors.{Processors}
use Rattle.law_processors.specs.Machine.{line_of}
use Rattle.law_rounds.specs.Turn.{Note, labelled, noted}
use Rattle.law_rounds.specs.Round.{RoundEnd, Faulted, RunIs, RunFollows, FaultsBy, RestsWith, WithResult, WithLiving}
use Rattle.law_rounds.specs.Round.{StandsWith, StandsAtRest, StandsAtFault, StandsDrained, StandsAtLimit}
use Rattle.law_rounds.proofs.Limits.{run_follows}
use Rattle.law_journals.specs.Entries.{IsNamed, IsJournalOf}
use Rattle.law_journals.proofs.Read.{AllReadTo, entries_read}

module _ (p : Program) where
  stands_taken : (limit n : ℕ) (c : Config) (s : Standing) → core.Stands p limit n c s → core.Stands p (limit_taken s n) n c s
  stands_taken limit n c (Done v) h = h
  stands_taken limit n c (Blocked k) h = h
  stands_taken limit n c (Fault f) h = (h.0, omega arith)
  stands_taken limit n c (Limit k) h = (h.0 ∙ sym h.1, refl, h.2, h.3)

  module _ (a : Place) (by : Option FaultBy) where
    rest_by : (m : Processors) (s : Standing) → RestsWith m s → by ≡ None → IsBy p a s by
    rest_by m _ (WithResult left ended) e = e
    rest_by m _ (WithLiving left some) e = e

    ends_by : (limit : ℕ) (m at : Processors) (e : RoundEnd) (s : Standing) → StandsWith limit m at e s → FaultsBy p a.config a.numbers e s → IsNamed e by → IsBy p a s by
    ends_by limit m _ _ s (StandsAtRest rests) faults named = rest_by m s rests named
    ends_by limit m _ _ _ (StandsAtFault {kind = kind} {t = t}) faults named = fault_by by named
      where
        fault_by : (o : Option FaultBy) → IsNamed (Faulted kind t) o → IsBy p a (Fault (record { kind = kind; line = line_of m t })) o
        fault_by None h = absurd h
        fault_by (Some b) h = subst (λ u. IsAtFault p a u kind (line_of m t)) (number_is t b.processor b.thread h.0 h.1) faults
          where
            number_is : (u : ThreadNo) (x y : ℕ) → x ≡ u.processor → y ≡ u.thread → u ≡ record { processor = x; thread = y }
            number_is u x y d c = sym (ap (λ z. number z y) d ∙ ap (λ z. number u.processor z) c)
              where
                number : ℕ → ℕ → ThreadNo
                number z w = record { processor = z; thread = w }
    ends_by limit m at _ s (StandsDrained drains rests) faults named = rest_by at s rests named
    ends_by limit m at _ _ (StandsAtLimit drains) faults named = named

module _ (p : Program) (source : IsProgram p) (main : p.main < length p.functions) (ints : List ℤ) (seed limit : ℕ) (output : List ℕ) (s : Standing)
    (notes : List Note) (run : RunIs p ints seed limit output s notes) (entries : List Entry) (journal : IsJournalOf notes run.end s entries) where
  pub follows : RunFollows p ints limit output s notes run.end
  follows = run_follows p source main ints seed limit output s notes run

  pub all : AllReadTo p journal.before (beginning p ints) follows.run.last follows.numbers (length (labelled notes))
  all = entries_read p notes journal.before journal.each follows.placed (beginning p ints) follows.run.last follows.numbers follows.leads

  made : all.place.made ≡ length follows.run.steps
  made = let a = all.made in let b = follows.each in let c = follows.counted in omega (arith, a, b, c)

  pub ends : IsEnd p all.place s journal.by
  ends = record {
    stands =
        stands_taken p limit all.place.made all.place.config s
        (subst (λ n. core.Stands p limit n all.place.config s) (sym made) (subst (λ c. core.Stands p limit (length follows.run.steps) c s) (sym all.config) follows.run.stands));
    thread =
        ends_by p all.place journal.by limit run.last run.at run.end s run.stands
        (subst (λ n. FaultsBy p all.place.config n run.end s) (sym all.numbers) (subst (λ c. FaultsBy p c follows.numbers run.end s) (sym all.config) follows.faults))
        journal.named;
  }

  abbrev pub explained : Explains p ints entries s
  explained = read_explained p ints entries s
      (record { before = journal.before; by = journal.by; whole = journal.whole; end = all.place; read = all.read; ends = ends })

  pub reported : (other : Standing) → (x : Explains p ints entries other) → (other ≡ s) × (x.end.config.output ≡ output) × (length x.steps ≡ noted notes)
  reported other x =
      let same = explained_once p ints entries other s x explained in
      let place : x.end ≡ all.place = same.1 in
      let steps = lead_made p x.steps (beginning p ints) x.end x.run in
      let a = ap (λ (z : Place). z.made) place in
      let b = follows.counted in (
        one_standing p ints entries other s x explained,
        ap (λ (z : Place). z.config.output) place ∙ (ap (λ (c : Config). c.output) all.config ∙ follows.run.written),
        omega (arith, steps, a, made, b),
      )
