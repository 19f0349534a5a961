-- What a thread of the machine does, by what is seen of it.
use Rattle.std.proofs.Common.{◌≡◌, ℕ, true, false, List, Option, None, Some, Result, Ok, Err, sym, ap, ◌∙◌, subst, refl}
use Rattle.std.specs.Prelude.{MatchResult, OnOk}
use Rattle.std.specs.declared.alloc.AllocError.{AllocError}
use Rattle.std.proofs.lemmas.Option.{none-some}
use Rattle.global_ptr.specs.declared.ends.FaultKind.{FaultKind}
use Rattle.cc_ops.specs.Machine.{Address, Values}
use Rattle.cc_ops.specs.declared.number.ThreadNo.{ThreadNo}
use Rattle.cc_ops.specs.Shelves.{Shelf}
use Rattle.cc_core.specs.Core.{Program}
use Rattle.cc_core.specs.Config.{Config}
use Rattle.cc_core.specs.Numbers.{Numbers}
use Rattle.cc_core.specs.Asks.{Ask, Answer}
use Rattle.cc_core.specs.Needs.{Verdict, Go, Hold, Bad}
use Rattle.cc_code.specs.Code.{Then, Move, Silent, Does, Ends, Stuck, move}
use Rattle.code_thread.specs.Moves.{Asking, seen}
use Rattle.numbered_runs.specs.Alike.{DoesAlike}
use Rattle.numbered_runs.specs.Machine.{Machine, Progress, Goes, Over, Runner, thread_in, ended_with}
use Rattle.numbered_runs.specs.Looks.{needs, check_all}
use Rattle.numbered_runs.specs.Stands.{Stands}
use Rattle.numbered_runs.specs.Steps.{Outcome, Gone, Waits, Faults, Moves, decide, join, act, act_asked, act_progress, step}
use Rattle.numbered_runs.proofs.Follow.{steps_follow}
use Rattle.cc_walk.specs.Answered.{HasEffect, Answers}
use Rattle.cc_walk.specs.Answers.{IsStep, Follows}
use Rattle.cc_walk.specs.Asking.{IsAsking}
use Rattle.cc_walk.specs.Verdicts.{is_hold}
use Rattle.cc_walk.specs.Views.{live_of}
use Rattle.cc_walk.specs.declared.effect.Effect.{Effect}
use Rattle.cc_walk.specs.declared.stop.Stop.TheVariants as stop
use Rattle.cc_walk.specs.declared.walk.Stepped.{Stepped}
use Rattle.cc_walk.specs.declared.walk.Stepped.TheVariants as stepped

-- where a thread is found that goes on
pub goes_by : (a : Option Progress) (r : Runner) → Some r ≡ live_of a → a ≡ Some (Goes r)
goes_by None r is = absurd (none-some r (sym is))
goes_by (Some (Over v)) r is = absurd (none-some r (sym is))
goes_by (Some (Goes l)) r is = let same : l ≡ r = cc in ap (λ x. Some (Goes x)) same

module _ (w : Machine) (t : ThreadNo) where
  gone_by : (a : Option Progress) → None ≡ live_of a → act_progress w t a ≡ Gone
  gone_by None is = refl
  gone_by (Some (Over v)) is = refl
  gone_by (Some (Goes r)) is = absurd (none-some r is)

  pub is_gone : None ≡ live_of (thread_in w.threads t) → step w t ≡ Gone
  unfolding step
  is_gone is = gone_by (thread_in w.threads t) is

  module _ (r : Runner) (goes : thread_in w.threads t ≡ Some (Goes r)) where
    acts : step w t ≡ act w t r (move w.code r.thread)
    unfolding step
    acts = ap (act_progress w t) goes

    waits_by : (m : Move Address) → ((line : ℕ) (q : Ask Address) → ¬ (seen m ≡ Asking line q)) → act w t r m ≡ Waits
    waits_by (Silent c) never = refl
    waits_by (Does line q k) never = absurd (never line q refl)
    waits_by (Ends v) never = refl
    waits_by Stuck never = refl

    -- where it asks nothing
    pub is_waiting : ((line : ℕ) (q : Ask Address) → ¬ (seen (move w.code r.thread) ≡ Asking line q)) → step w t ≡ Waits
    is_waiting never = acts ∙ waits_by (move w.code r.thread) never

    asks_by : (m : Move Address) (line : ℕ) (q : Ask Address) → seen m ≡ Asking line q → (k : Answer Address → Then Address) × (m ≡ Does line q k)
    asks_by (Silent c) line q see = absurd (cc)
    asks_by (Does n a k) line q see =
        let same_line : n ≡ line = cc in let same_ask : a ≡ q = cc in
        (k, ap (λ i. Does i a k) same_line ∙ ap (λ b. Does line b k) same_ask)
    asks_by (Ends v) line q see = absurd (cc)
    asks_by Stuck line q see = absurd (cc)

    -- where it is seen to ask
    pub is_asking : (line : ℕ) (q : Ask Address) → seen (move w.code r.thread) ≡ Asking line q → (k : Answer Address → Then Address) × IsAsking w t r line q k
    is_asking line q see =
        let at = asks_by (move w.code r.thread) line q see in
        (at.0, record { goes = goes; asks = at.1 })

  module _ (r : Runner) (line : ℕ) (q : Ask Address) (k : Answer Address → Then Address) (asking : IsAsking w t r line q k) where
    asked_acts : step w t ≡ act_asked w t r line q k r.asked
    asked_acts = acts r asking.goes ∙ ap (act w t r) asking.asks

    pub joins : (kid : ThreadNo) → r.asked ≡ Some kid → step w t ≡ join w t r k (ended_with (thread_in w.threads kid))
    joins kid is = asked_acts ∙ ap (act_asked w t r line q k) is

    pub decides : r.asked ≡ None → step w t ≡ decide w t r line q k (check_all w t.processor r (needs w.code.shapes q))
    decides is = asked_acts ∙ ap (act_asked w t r line q k) is

-- The machine stands for a configuration of the definition.
pub follows : (p : Program) (w : Machine) (s : Config) (n : Numbers) → Stands p w s n → (t : ThreadNo) (answer : Stepped) (after : Machine)
    → IsStep (step w t) w answer after → Follows p s n t w answer after
follows p w s n st t stepped.Moved after is = subst (DoesAlike p s n t) is (steps_follow p w s n st t)
follows p w s n st t stepped.Blocked after is =
    let does = subst (DoesAlike p s n t) is.0 (steps_follow p w s n st t) in (does.0, does.1, does.2, does.3, is.1)
follows p w s n st t stepped.Gone after is = (subst (DoesAlike p s n t) is.0 (steps_follow p w s n st t), is.1)
follows p w s n st t (stepped.Fault fault) after is =
    let does = subst (DoesAlike p s n t) is.0 (steps_follow p w s n st t) in (does.0, does.1, does.2, is.1)
follows p w s n st t stepped.Memory after is = tt

pub faults_follow : {kind : FaultKind} {line : ℕ} {after : Machine} (p : Program) (w : Machine) (s : Config) (n : Numbers) → Stands p w s n → (t : ThreadNo)
    → (step w t ≡ Faults kind line) × (after ≡ w) → Follows p s n t w (stepped.Fault (record { kind = kind; line = line })) after
faults_follow {kind} {line} {after} p w s n st t is = follows p w s n st t (stepped.Fault (record { kind = kind; line = line })) after is

-- ---- by what is answered

pub holds : (v : Verdict Address) → is_hold v ≡ true → v ≡ Hold
holds (Go found) is = absurd (cc)
holds Hold is = refl
holds (Bad kind) is = absurd (cc)

module _ (w : Machine) (q : ℕ) (r : Runner) (ask : Ask Address) (shelves : List Shelf) (output : List ℕ) where
  pub goes_on : (v : Verdict Address) → is_hold v ≡ false → (e : Effect) → Answers w q r ask v (Ok e) shelves output
      → (found : Values) × (v ≡ Go found) × HasEffect w q r ask found e shelves output
  goes_on (Go found) is e has = (found, refl, has)
  goes_on Hold is e has = absurd (cc)
  goes_on (Bad kind) is e has = absurd has

  pub stops : (v : Verdict Address) → is_hold v ≡ false → (kind : FaultKind) → Answers w q r ask v (Err (stop.Fault kind)) shelves output
      → (v ≡ Bad kind) × (shelves ≡ w.shelves) × (output ≡ w.output)
  stops (Go found) is kind same = absurd same
  stops Hold is kind same = absurd (cc)
  stops (Bad k) is kind same = (ap Bad (sym same.0), same.1, same.2)

-- A step that is made, if there is memory.
pub made_step : (made : Result (Unit {0}) AllocError) (answer : Stepped) (outcome : Outcome) (old new after : Machine)
    → MatchResult made (λ _. answer ≡ stepped.Moved) (λ _. answer ≡ stepped.Memory) → outcome ≡ Moves after → OnOk made (new ≡ after)
    → IsStep outcome old answer new
made_step (Ok done) answer outcome old new after answers does is =
    subst (λ (a : Stepped). IsStep outcome old a new) (sym answers) (does ∙ ap Moves (sym is))
made_step (Err e) answer outcome old new after answers does is = subst (λ (a : Stepped). IsStep outcome old a new) (sym answers) tt
