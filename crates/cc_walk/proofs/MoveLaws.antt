-- Which threads of a machine can move, and that they are those of the configuration that it stands for.
use Rattle.std.proofs.Common.{◌≡◌, ℕ, ◌≤◌, List, [], length, false, Option, Some, None, refl, sym, ap, ◌∙◌, subst, arith}
use Rattle.std.proofs.lemmas.Bool.{false≢true}
use Rattle.std.proofs.lemmas.Option.{none-some, same_Some, slice_get_past}
use Rattle.std.specs.Prelude.{IsTrue, ◌↔◌, not, slice_get, is_some}
use Rattle.std.specs.Option as option
use Rattle.std.specs.Option.{option_map, option_map_or, option_and_then}
use Rattle.std.specs.FinMap as fin
use Rattle.cc_ops.specs.Values as values
use Rattle.global_ptr.specs.declared.values.Value.{Value as RustValue}
use Rattle.cc_ops.specs.Machine.{Address, value_of}
use Rattle.cc_ops.specs.declared.number.ThreadNo.{ThreadNo}
use Rattle.cc_core.specs.Asks.{Ask, Answer}
use Rattle.cc_core.specs.Names.{Name}
use Rattle.cc_core.specs.Core.{Program, Shapes}
use Rattle.cc_core.specs.Config.{Config, State, Live, Ended}
use Rattle.cc_core.specs.Numbers.{Numbers}
use Rattle.cc_core.specs.Steps as core
use Rattle.cc_core.specs.Needs.{Verdict, Go, Hold, Bad}
use Rattle.cc_code.specs.Code.{Then, Move, Silent, Does, Ends, Stuck, move}
use Rattle.code_thread.specs.View.{look_of}
use Rattle.code_thread.specs.declared.ask.Ask.{Ask as RustAsk}
use Rattle.code_thread.specs.declared.ask.Look.{Look}
use Rattle.code_thread.specs.declared.ask.Look.TheVariants as look
use Rattle.code_thread.specs.Moves.{Asking, seen}
use Rattle.numbered_runs.specs.Machine.{Machine, Runner, Progress, Goes, Over, thread_in, made_in, ended_with}
use Rattle.numbered_runs.specs.Looks.{needs, check_all}
use Rattle.numbered_runs.specs.Stands.{Stands, IsThread, Alike, SameState}
use Rattle.numbered_runs.specs.Steps.{Outcome, Gone, Waits, Faults, Moves, decide, join, act_asked, act, act_progress, step}
use Rattle.numbered_runs.specs.Alike.{IsLive, DoesAlike, main_thread}
use Rattle.numbered_runs.proofs.Follow.{steps_follow}
use Rattle.numbered_runs.proofs.Naming.{one_thread_name, thread_placed, thread_at}
use Rattle.run_numbers.proofs.Processors.{root_first, main_first}
use Rattle.cc_walk.specs.Enabled.{may_move, IsMoveable, CanMove, IsMainValue}
use Rattle.cc_walk.specs.Views.{live_of}
use Rattle.cc_walk.specs.Verdicts.{is_hold}

-- ---- what is looked at

-- what asks nothing
pub asks_nothing : (h : Shapes) (l : Look) → ((line : ℕ) (q : RustAsk) → ¬ (l ≡ look.Asks line q)) → (m : Move Address)
    → look_of h l ≡ seen m → (line : ℕ) (q : Ask Address) → ¬ (seen m ≡ Asking line q)
asks_nothing h look.Silent never m looks line q asks = absurd (cc)
asks_nothing h (look.Asks line' q') never m looks line q asks = never line' q' refl
asks_nothing h (look.Ends v) never m looks line q asks = absurd (cc)
asks_nothing h look.Stuck never m looks line q asks = absurd (cc)

module _ (w : Machine) (t : ThreadNo) where
  decided : (r : Runner) (line : ℕ) (q : Ask Address) (k : Answer Address → Then Address) (v : Verdict Address)
      → may_move (decide w t r line q k v) ≡ not (is_hold v)
  decided r line q k (Go found) = refl
  decided r line q k Hold = refl
  decided r line q k (Bad kind) = refl

  joined : (r : Runner) (k : Answer Address → Then Address) (o : Option (values.Value Address)) → may_move (join w t r k o) ≡ is_some o
  joined r k None = refl
  joined r k (Some v) = refl

  progress : (a : Option Progress) (r : Runner) → live_of a ≡ Some r → act_progress w t a ≡ act w t r (move w.code r.thread)
  progress None r is = absurd (none-some r is)
  progress (Some (Over v)) r is = absurd (none-some r is)
  progress (Some (Goes l)) r is = ap (λ (x : Runner). act w t x (move w.code x.thread)) (same_Some l r is)

  gone : (a : Option Progress) → live_of a ≡ None → may_move (act_progress w t a) ≡ false
  gone None is = refl
  gone (Some (Over v)) is = refl
  gone (Some (Goes l)) is = absurd (none-some l (sym is))

  -- where no thread of the number goes on
  pub none_moves : live_of (thread_in w.threads t) ≡ None → may_move (step w t) ≡ false
  unfolding step
  none_moves is = gone (thread_in w.threads t) is

  -- thread t is r
  module _ (r : Runner) (is : live_of (thread_in w.threads t) ≡ Some r) where
    acts : step w t ≡ act w t r (move w.code r.thread)
    unfolding step
    acts = progress (thread_in w.threads t) r is

    asks : (m : Move Address) (line : ℕ) (q : Ask Address) → seen m ≡ Asking line q
        → (k : Answer Address → Then Address) × (act w t r m ≡ act_asked w t r line q k r.asked)
    asks (Silent c) line q see = absurd (cc)
    asks (Does line' q' k) line q see =
        (k, let e : line' ≡ line = cc in let f : q' ≡ q = cc in ap (λ (i : ℕ). act_asked w t r i q' k r.asked) e ∙ ap (λ (a : Ask Address). act_asked w t r line a k r.asked) f)
    asks (Ends v) line q see = absurd (cc)
    asks Stuck line q see = absurd (cc)

    quiet : (m : Move Address) → ((line : ℕ) (q : Ask Address) → ¬ (seen m ≡ Asking line q)) → may_move (act w t r m) ≡ false
    quiet (Silent c) never = refl
    quiet (Does line q k) never = absurd (never line q refl)
    quiet (Ends v) never = refl
    quiet Stuck never = refl

    pub quiet_stays : ((line : ℕ) (q : Ask Address) → ¬ (seen (move w.code r.thread) ≡ Asking line q)) → may_move (step w t) ≡ false
    quiet_stays never = ap may_move acts ∙ quiet (move w.code r.thread) never

    module _ (line : ℕ) (q : Ask Address) (see : seen (move w.code r.thread) ≡ Asking line q) where
      by_asked : (k : Answer Address → Then Address) (mine : Option ThreadNo) → r.asked ≡ mine
          → step w t ≡ act_asked w t r line q k r.asked → step w t ≡ act_asked w t r line q k mine
      by_asked k mine is e = e ∙ ap (act_asked w t r line q k) is

      pub ask_moves : r.asked ≡ None → may_move (step w t) ≡ not (is_hold (check_all w t.processor r (needs w.code.shapes q)))
      ask_moves none =
          let at = asks (move w.code r.thread) line q see in
          ap may_move (by_asked at.0 None none (acts ∙ at.1)) ∙ decided r line q at.0 (check_all w t.processor r (needs w.code.shapes q))

      pub join_moves : (kid : ThreadNo) → r.asked ≡ Some kid → may_move (step w t) ≡ is_some (ended_with (thread_in w.threads kid))
      join_moves kid some =
          let at = asks (move w.code r.thread) line q see in
          ap may_move (by_asked at.0 (Some kid) some (acts ∙ at.1)) ∙ joined r at.0 (ended_with (thread_in w.threads kid))

-- ---- the machine stands for s

module _ (p : Program) (w : Machine) (s : Config) (n : Numbers) (st : Stands p w s n) where
  still : (x : Name) (b : Option State) → fin.get s.threads x ≡ b → ¬ IsLive s x → ¬ core.CanMove (core.act_state p x s b)
  still x None is not_live can = can
  still x (Some (Ended v)) is not_live can = can
  still x (Some (Live l)) is not_live can = not_live (l, is)

  by_outcome : (t : ThreadNo) (o : Outcome) → DoesAlike p s n t o → IsTrue (may_move o) ↔ CanMove p s n t
  by_outcome t Gone alike = (
    λ never. absurd (false≢true never),
    λ can. absurd (still can.0 (fin.get s.threads can.0) refl (alike can.0 can.1) can.2),
  )
  by_outcome t Waits alike = (
    λ never. absurd (false≢true never),
    λ can.
        let same : can.0 ≡ alike.0 = one_thread_name n t can.0 alike.0 can.1 alike.1 in
        absurd (subst core.CanMove (ap (λ (x : Name). core.step p x s) same ∙ alike.3) can.2),
  )
  by_outcome t (Faults kind line) alike = (
    λ moves. (alike.0, alike.1, subst core.CanMove (sym alike.2) tt),
    λ can. refl,
  )
  by_outcome t (Moves after) alike = (
    λ moves. (alike.0, alike.2, subst core.CanMove (sym alike.3) tt),
    λ can. refl,
  )

  pub moves_alike : (t : ThreadNo) → IsMoveable w t ↔ CanMove p s n t
  moves_alike t = by_outcome t (step w t) (steps_follow p w s n st t)

  -- ---- main

  main_is : IsThread n main_thread []
  main_is = thread_placed n main_thread [] [] (root_first p st.ints s n st.run) (main_first p st.ints s n st.run)

  same_int : (v : values.Value Address) (u : values.Value Name) → Alike n v u → values.int_of v ≡ values.int_of u
  same_int values.Void values.Void same = refl
  same_int (values.Int i) (values.Int j) same = same
  same_int values.Null values.Null same = refl
  same_int (values.Ptr a i) (values.Ptr o j) same = refl
  same_int v u same = absurd same

  value_of_state : (a : Progress) (b : State) → fin.get s.threads [] ≡ Some b → SameState n p w.code [] a b
      → IsMainValue s (option_map (λ v. values.int_of v) (ended_with (Some a)))
  value_of_state (Goes r) (Live l) is same = (l, is)
  value_of_state (Over v) (Ended u) is same = (u, is, same_int v u same)
  value_of_state a b is same = absurd same

  -- main goes on in both, or has ended with the same int in both
  pub main_alike : IsMainValue s (option_map (λ v. values.int_of v) (ended_with (thread_in w.threads main_thread)))
  main_alike =
      let at = thread_at p w s n st main_thread [] main_is in
      let there = at.2 in
      subst (λ o. IsMainValue s (option_map (λ v. values.int_of v) (ended_with o))) (sym at.1)
      (value_of_state at.0 there.0 there.1 there.2)

pub is_some_value : (o : Option RustValue) → option.is_some o ≡ is_some (option_map value_of o)
is_some_value None = refl
is_some_value (Some v) = refl

-- ---- no thread of a number that was not given

past_table : (o : Option (List Progress)) (k : ℕ) → option_map_or (λ ts. length ts) o 0 ≤ k → option_and_then (λ ts. slice_get ts k) o ≡ None
past_table None k past = refl
past_table (Some ts) k past = slice_get_past ts k past

module _ (w : Machine) where
  not_there : (t : ThreadNo) → thread_in w.threads t ≡ None → ¬ IsMoveable w t
  not_there t none moves = absurd (false≢true (sym (none_moves w t (ap live_of none)) ∙ moves))

  pub past_made : (q k : ℕ) → made_in w.threads q ≤ k → (t : ThreadNo) → t.processor ≡ q → k ≤ t.thread → ¬ IsMoveable w t
  past_made q k made t on past =
      let few : made_in w.threads t.processor ≤ t.thread = subst (λ (j : ℕ). made_in w.threads j ≤ t.thread) (sym on) (omega (arith, made, past)) in
      not_there t (past_table (slice_get w.threads t.processor) t.thread few)

  pub past_processors : (q : ℕ) → length w.threads ≤ q → (t : ThreadNo) → q ≤ t.processor → ¬ IsMoveable w t
  past_processors q few t past =
      let none : slice_get w.threads t.processor ≡ None = slice_get_past w.threads t.processor (omega (arith, few, past)) in
      not_there t (ap (option_and_then (λ ts. slice_get ts t.thread)) none)
