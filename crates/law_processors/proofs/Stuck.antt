-- Where the machine has no further move, nothing is ready or under way: so the run of the program is at rest.
use Rattle.law_processors.specs.Alone.{Label}
use Rattle.std.proofs.Common.{◌≡◌, ◌<◌, ℕ, ℤ, suc, ◌+◌, List, [], ◌∷◌, length, false, Option, Some, None, refl, ap, ◌∙◌, arith}
use Rattle.std.specs.Prelude.{slice_get}
use Rattle.cc_ops.specs.declared.number.ThreadNo.{ThreadNo}
use Rattle.cc_core.specs.Config.{Config}
use Rattle.cc_core.specs.Core.{Program}
use Rattle.cc_core.specs.Numbers.{Post, Numbers}
use Rattle.cc_core.specs.Source.{IsProgram}
use Rattle.cc_core.specs.Steps as core
use Rattle.law_mesh.specs.Queues.{Message}
use Rattle.law_processors.specs.Processors.{Waiter, Own, Asked, Processor, Processors, tables_of}
use Rattle.law_processors.specs.Alone.{Did, Went, Failed, served, serves}
use Rattle.law_processors.specs.Machine.{TakesUp, PutsBack, ServesFirst, ServesWoken, Makes, Delivers, ServesBadly, WakesBadly, MakesBadly, Run, made, without_ready, IsStuck}
use Rattle.law_processors.specs.Busy.{busy, busy_count, mail_count, one_more_if, waits_for_turn, all_living_in, AllFree}
use Rattle.law_processors.specs.Whole.{first_processors, StandsFor}
use Rattle.law_processors.proofs.AtRest.{at_rest, left_so}
use Rattle.law_processors.proofs.Ordered.{OrderlyAll, run_orderly, first_orderly}
use Rattle.law_processors.proofs.Whole.{machine_begins}

module _ (m : Processors) (stuck : IsStuck m) where
  pub free : AllFree m.all
  free q p there = by p.hand refl
    where
      by : (o : Option ℕ) → p.hand ≡ o → p.hand ≡ None
      by None e = e
      by (Some n) e = absurd (stuck.moves None _ (PutsBack q p n there e))

  pub none_ready : (q : ℕ) (p : Processor) → slice_get m.all q ≡ Some p → p.ready ≡ []
  none_ready q p there = by p.ready refl
    where
      woken : (t : ThreadNo) (post : Post) (ws : List Waiter) → p.ready ≡ Asked t post ∷ ws → (did : Did Processor) → serves m.code q t post (without_ready ws p) p ≡ did → ⊥
      woken t post ws e (Went step prints p') d = stuck.moves step _ (ServesWoken q p [] t post ws step prints p' there e d)
      woken t post ws e (Failed kind u) d = stuck.faults kind u (WakesBadly q p [] t post ws there e d)

      by : (ws : List Waiter) → p.ready ≡ ws → p.ready ≡ []
      by [] e = e
      by (Own n ∷ ws) e = absurd (stuck.moves None _ (TakesUp q p [] n ws there (free q p there) e))
      by (Asked t post ∷ ws) e = absurd (woken t post ws e (serves m.code q t post (without_ready ws p) p) refl)

  none_come : (q : ℕ) (p : Processor) → slice_get m.all q ≡ Some p → p.inbox ≡ []
  none_come q p there = by p.inbox refl
    where
      first : (message : Message) (rest : List Message) → p.inbox ≡ message ∷ rest → (did : Did Processor) → served m.code q p ≡ did → ⊥
      first message rest e (Went step prints p') d = stuck.moves step _ (ServesFirst q p message rest step prints p' there e d)
      first message rest e (Failed kind u) d = stuck.faults kind u (ServesBadly q p there d)

      by : (ms : List Message) → p.inbox ≡ ms → p.inbox ≡ []
      by [] e = e
      by (message ∷ rest) e = absurd (first message rest e (served m.code q p) refl)

  none_sent : (q : ℕ) (p : Processor) → slice_get m.all q ≡ Some p → p.outbox ≡ []
  none_sent q p there = by p.outbox refl
    where
      by : (ms : List Message) → p.outbox ≡ ms → p.outbox ≡ []
      by [] e = e
      by (message ∷ rest) e = absurd (stuck.moves None _ (Delivers q p [] message rest there e tt))

  none_made : m.makes ≡ []
  none_made = by m.makes refl
    where
      first : (message : Message) (rest : List Message) → m.makes ≡ message ∷ rest → (did : Did Processors) → made m ≡ did → ⊥
      first message rest e (Went step prints m') d = stuck.moves step _ (Makes message rest step prints m' e d)
      first message rest e (Failed kind u) d = stuck.faults kind u (MakesBadly d)

      by : (ms : List Message) → m.makes ≡ ms → m.makes ≡ []
      by [] e = e
      by (message ∷ rest) e = absurd (first message rest e (made m) refl)

not_busy : (p : Processor) → p.ready ≡ [] → p.inbox ≡ [] → busy p ≡ false
not_busy p a b = ap (λ ws. waits_for_turn ws p.inbox) a ∙ ap (waits_for_turn []) b

no_busy : (all : List Processor) → ((q : ℕ) (p : Processor) → slice_get all q ≡ Some p → p.ready ≡ []) → ((q : ℕ) (p : Processor) → slice_get all q ≡ Some p → p.inbox ≡ [])
    → busy_count all ≡ 0
no_busy [] a b = refl
no_busy (p ∷ ps) a b =
    ap (λ c. one_more_if c (busy_count ps)) (not_busy p (a 0 p refl) (b 0 p refl)) ∙ no_busy ps (λ q r e. a (suc q) r e) (λ q r e. b (suc q) r e)

no_mail : (all : List Processor) → ((q : ℕ) (p : Processor) → slice_get all q ≡ Some p → p.outbox ≡ []) → mail_count all ≡ 0
no_mail [] a = refl
no_mail (p ∷ ps) a =
    let e : length p.outbox ≡ 0 = ap (λ (ms : List Message). length ms) (a 0 p refl) in
    let d = no_mail ps (λ q r e. a (suc q) r e) in
    omega (arith, e, d)

pub stuck_rests : (p : Program) → IsProgram p → p.main < length p.functions → (is : List ℤ) (steps : List Label) (m : Processors) → Run (first_processors p is) steps m → IsStuck m
    → (s : Config) (k : Numbers) → StandsFor p m s k → core.IsAtRest p s × (core.threads_left s ≡ all_living_in (tables_of m.all))
stuck_rests p source main is steps m r stuck s k stands =
    let first = machine_begins p source main is in
    let orderly : OrderlyAll m.code m.all = run_orderly (first_processors p is) first.mesh first.runs (first_orderly p is) steps m r in
    let quiet : busy_count m.all + mail_count m.all ≡ 0 =
    (let a = no_busy m.all (none_ready m stuck) (none_come m stuck) in let b = no_mail m.all (none_sent m stuck) in omega (arith, a, b)) in
    (at_rest p m s k stands orderly (free m stuck) quiet (none_made m stuck), left_so p m s k stands orderly (free m stuck) quiet (none_made m stuck))
