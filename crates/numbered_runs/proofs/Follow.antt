-- Each step of a machine that stands for a configuration is the definition's.
use Rattle.std.proofs.Common.{◌≡◌, ℕ, ◌∷◌, Option, Some, None, refl, sym, ap, ◌∙◌, subst, subst₂}
use Rattle.std.proofs.lemmas.Option.{none-some, same_Some}
use Rattle.std.specs.FinMap as fin
use Rattle.global_ptr.specs.declared.ends.FaultKind.{FaultKind}
use Rattle.cc_ops.specs.Values as values
use Rattle.cc_ops.specs.Machine.{Address}
use Rattle.cc_ops.specs.declared.number.ThreadNo.{ThreadNo}
use Rattle.cc_core.specs.Names.{Name, Value}
use Rattle.cc_core.specs.Core.{Program, Term, shapes}
use Rattle.cc_core.specs.Asks.{Ask, Answer}
use Rattle.cc_core.specs.Config as core
use Rattle.cc_core.specs.Config.{Config, State, Live, Ended}
use Rattle.cc_core.specs.Needs as core-needs
use Rattle.cc_core.specs.Needs.{Verdict, Go, Hold, Bad}
use Rattle.cc_core.specs.Next.{Next, Ready, Asks, After, next}
use Rattle.cc_core.specs.Numbers.{Numbers, numbers_step}
use Rattle.cc_core.specs.Steps as steps
use Rattle.cc_code.specs.Code.{Then, Move, Silent, Does, Ends, Stuck, move}
use Rattle.code_names.specs.Same.{Told, SameAsk}
use Rattle.numbered_threads.specs.Numbered.{Naming, IsLater, GoesOnAlike, MovesAlike}
use Rattle.numbered_runs.specs.Machine.{Machine, Runner, Progress, Goes, Over, thread_in, ended_with}
use Rattle.numbered_runs.specs.Looks.{needs, check_all}
use Rattle.numbered_runs.specs.Stands.{Stands, IsThread, is_object, IsAsk, SameAsked, SameLive, SameState, IsThreadAt}
use Rattle.numbered_runs.specs.Steps.{Gone, decide, join, act_asked, act, act_progress, step}
use Rattle.numbered_runs.specs.Alike.{IsLive, DoesAlike}
use Rattle.numbered_runs.proofs.Apply.{apply_stands}
use Rattle.numbered_runs.proofs.Checks.{SameVerdict, checks_alike}
use Rattle.numbered_runs.proofs.Join.{joined_config, join_stands}
use Rattle.numbered_runs.proofs.Naming.{objects_later, thread_at, thread_of}
use Rattle.numbered_runs.proofs.Settled.{live_moves}

module _ (p : Program) (w : Machine) (s : Config) (n : Numbers) (st : Stands p w s n) where
  -- ---- a thread that has ended, or that there is not

  gone_none : (t : ThreadNo) → thread_in w.threads t ≡ None → DoesAlike p s n t Gone
  gone_none t is x named live = let at = thread_at p w s n st t x named in absurd (none-some at.0 (sym is ∙ at.1))

  ended_state : (x : Name) (v : values.Value Address) (b : State) → fin.get s.threads x ≡ Some b → SameState n p w.code x (Over v) b → IsLive s x → ⊥
  ended_state x v (Live l) there same live = same
  ended_state x v (Ended u) there same live = let no : Some (Ended u) ≡ Some (Live live.0) = sym there ∙ live.1 in cc

  gone_over : (t : ThreadNo) (v : values.Value Address) → thread_in w.threads t ≡ Some (Over v) → DoesAlike p s n t Gone
  gone_over t v is x named live =
      let at = thread_at p w s n st t x named in
      let same : at.0 ≡ Over v = same_Some at.0 (Over v) (sym at.1 ∙ is) in
      let over : IsThreadAt n p w.code s x (Over v) = subst (IsThreadAt n p w.code s x) same at.2 in
      ended_state x v over.0 over.1 over.2 live

  -- ---- thread t is r, and x is l

  module _ (t : ThreadNo) (x : Name) (named : IsThread n t x) (r : Runner) (l : core.Thread) (there : fin.get s.threads x ≡ Some (Live l))
      (live : SameLive n p w.code x r l) where
    -- They ask alike.
    module _ (line : ℕ) (q : Ask Address) (j : Answer Address → Then Address) (does : move w.code r.thread ≡ Does line q j)
        (a : Ask Name) (k : Answer Name → After Term) (asks : next p l.term ≡ Asks line a k) (same : SameAsk (Told (is_object n)) q a) where
      acts : (asked : Option ℕ) → l.asked ≡ asked → steps.step p x s ≡ steps.act p x s l (Asks line a k) asked
      acts asked is =
          ap (steps.act_state p x s) there
          ∙ (ap (λ (e : Next Value Term). steps.act p x s l e l.asked) asks ∙ ap (steps.act p x s l (Asks line a k)) is)

      -- whatever is named by then
      goes_on : (after : Naming) → IsLater (is_object n) after → GoesOnAlike p w.code after j k
      goes_on after more =
          let all : MovesAlike p w.code (is_object n) after (Asks line a k) (Does line q j) =
          subst₂ (MovesAlike p w.code (is_object n) after) asks does (live_moves p w.code n x r l live after more) in
          all.2

      -- where its needs have these verdicts
      decided : (v : Verdict Address) (u : core-needs.Verdict Name) → check_all w t.processor r (needs w.code.shapes q) ≡ v
          → core-needs.check_all (shapes p) s x l (core-needs.needs (shapes p) a) ≡ u → SameVerdict n v u → l.asked ≡ None
          → steps.step p x s ≡ steps.decide p x s l line a k u → DoesAlike p s n t (decide w t r line q j v)
      decided (Go vs) (core-needs.Go us) is are verdict none moves = (
        x,
        steps.apply p x (steps.change p x s l a k us) s,
        named,
        moves,
        apply_stands p w s n st t x r l named there none live line a k asks q j does same vs us is are verdict
            (goes_on (is_object (numbers_step p x s n)) (objects_later p x s _ n moves)),
      )
      decided Hold core-needs.Hold is are verdict none waits = (x, named, (l, there), waits)
      decided (Bad kind) (core-needs.Bad kind') is are verdict none faults =
          (x, named, faults ∙ ap (λ (f : FaultKind). steps.Faults f line) (sym verdict))
      decided v u is are verdict none e = absurd verdict

      asks_alike : l.asked ≡ None → DoesAlike p s n t (decide w t r line q j (check_all w t.processor r (needs w.code.shapes q)))
      asks_alike none = decided _ _ refl refl (checks_alike p w s n st t x r l q a named there live same) none (acts None none)

      -- the thread that it waits for
      joins : (made : ℕ) → l.asked ≡ Some made → (a' : Progress) (b : State) → fin.get s.threads (made ∷ x) ≡ Some b
          → SameState n p w.code (made ∷ x) a' b → DoesAlike p s n t (join w t r j (ended_with (Some a')))
      joins made asked (Goes r') (Live l') kid state =
          (x, named, (l, there), acts (Some made) asked ∙ ap (steps.join p x s l k) kid)
      joins made asked (Over v) (Ended u) kid state =
          let moves : steps.step p x s ≡ steps.Moves (joined_config p x s l k u) = acts (Some made) asked ∙ ap (steps.join p x s l k) kid in (
            x,
            joined_config p x s l k u,
            named,
            moves,
            join_stands p w s n st t x named r l there live j k (goes_on (is_object n) (λ b o h. h)) v u state line a asks made asked moves,
          )
      joins made asked (Goes r') (Ended u) kid state = absurd state
      joins made asked (Over v) (Live l') kid state = absurd state

      asked_alike : (mine : Option ThreadNo) (its : Option ℕ) → l.asked ≡ its → SameAsked n r.kids mine its
          → DoesAlike p s n t (act_asked w t r line q j mine)
      asked_alike None None its both = asks_alike its
      asked_alike (Some kid) (Some made) its both =
          let at = thread_at p w s n st kid (made ∷ x) (live.kids made kid both) in
          let there' = at.2 in
          subst (λ (o : Option Progress). DoesAlike p s n t (join w t r j (ended_with o))) (sym at.1)
          (joins made its at.0 there'.0 there'.1 there'.2)
      asked_alike None (Some made) its both = absurd both
      asked_alike (Some kid) None its both = absurd both

    -- by the next moves of both
    by_moves : (e : Next Value Term) (m : Move Address) → next p l.term ≡ e → move w.code r.thread ≡ m
        → MovesAlike p w.code (is_object n) (is_object n) e m → IsAsk m → DoesAlike p s n t (act w t r m)
    by_moves (Asks line' a k) (Does line q j) asks does both ask =
        let asks' : next p l.term ≡ Asks line a k = asks ∙ ap (λ (i : ℕ). Asks i a k) (sym both.0) in
        asked_alike line q j does a k asks' both.1 r.asked l.asked refl live.asked
    by_moves (Ready v) (Does line q j) asks does both ask = absurd both
    by_moves e (Silent c) asks does both ask = absurd ask
    by_moves e (Ends v) asks does both ask = absurd ask
    by_moves e Stuck asks does both ask = absurd ask

    live_alike : DoesAlike p s n t (act w t r (move w.code r.thread))
    live_alike =
        by_moves (next p l.term) (move w.code r.thread) refl refl (live_moves p w.code n x r l live (is_object n) (λ o u h. h)) live.asks

  goes_state : (t : ThreadNo) (x : Name) → IsThread n t x → (r : Runner) (b : State) → fin.get s.threads x ≡ Some b
      → SameState n p w.code x (Goes r) b → DoesAlike p s n t (act w t r (move w.code r.thread))
  goes_state t x named r (Live l) there same = live_alike t x named r l there same
  goes_state t x named r (Ended u) there same = absurd same

  goes_alike : (t : ThreadNo) (r : Runner) → thread_in w.threads t ≡ Some (Goes r) → DoesAlike p s n t (act w t r (move w.code r.thread))
  goes_alike t r is =
      let of = thread_of p w s n st t (Goes r) is in
      let at = thread_at p w s n st t of.0 of.1 in
      let same : at.0 ≡ Goes r = same_Some at.0 (Goes r) (sym at.1 ∙ is) in
      let goes : IsThreadAt n p w.code s of.0 (Goes r) = subst (IsThreadAt n p w.code s of.0) same at.2 in
      goes_state t of.0 of.1 r goes.0 goes.1 goes.2

  by_progress : (t : ThreadNo) (a : Option Progress) → thread_in w.threads t ≡ a → DoesAlike p s n t (act_progress w t a)
  by_progress t None is = gone_none t is
  by_progress t (Some (Over v)) is = gone_over t v is
  by_progress t (Some (Goes r)) is = goes_alike t r is

  pub steps_follow : (t : ThreadNo) → DoesAlike p s n t (step w t)
  unfolding step
  steps_follow t = by_progress t (thread_in w.threads t) refl
