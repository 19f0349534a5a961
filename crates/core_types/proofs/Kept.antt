-- A typed step leaves a typed configuration.
use Rattle.std.proofs.Common.{◌≡◌, ◌⊎◌, ℕ, true, List, [], ◌∷◌, Some, None, sym, ap, subst, ◌∙◌}
use Rattle.std.proofs.Common.{⊎_elim, inr}
use Rattle.std.specs.FinMap as fin
use Rattle.cc_core.specs.Names.{Name, Value, puts}
use Rattle.cc_core.specs.Core.{Term, Program}
use Rattle.cc_core.specs.Next.{Next, Ready, Asks, next}
use Rattle.cc_core.specs.Config.{Config, Thread, State, Live, Ended}
use Rattle.cc_core.specs.Steps.{settled, settle, settle_all}
use Rattle.cc_core.proofs.Maps.{IsKey, IsEntry, puts_case, puts_key}
use Rattle.cc_core.proofs.Fresh.{settled_entry, settled_key, live_settled}
use Rattle.core_types.specs.Types.{Types}
use Rattle.core_types.specs.Values.{ThreadEntry, World, Grows, Fits}
use Rattle.core_types.specs.Typing.{nowhere, HasType}
use Rattle.core_types.specs.Programs.{HasTypes}
use Rattle.core_types.specs.Runs.{InStep, IsKnown, IsWaiting, IsTypedAt}
use Rattle.core_types.proofs.Basics.{same_some, some_not_none}
use Rattle.core_types.proofs.More.{fits_more, type_more}
use Rattle.core_types.proofs.Next.{NextIs, thread_typed}

pub ended_is : (n : Next Value Term) (l : Thread) (v : Value) → settled n l ≡ Ended v → n ≡ Ready v
ended_is (Ready v) l u e = let f : Ended v ≡ Ended u = e in let g : v ≡ u = cc in ap Ready g
ended_is (Asks line q k) l u e = let f : Live l ≡ Ended u = e in cc

-- what a step makes of the thread that moved, and the threads that it makes
pub record Becomes (p : Program) (s r : Config) (t : Name) : Type 0 where
  pub after : Thread
  pub new : List (Name × Thread)
  pub threads_are : r.threads ≡ puts ((t, settle p after) ∷ settle_all p new) s.threads

-- what becomes of the thread that moved
abbrev pub IsAfter : Program → Types → World → Name → ThreadEntry → Thread → Type 0
IsAfter p y v t k z = (z.home ≡ k.home) × HasType p y v k.home nowhere z.term k.result
    × ((made : ℕ) → z.asked ≡ Some made → IsWaiting p y v t z made)

abbrev pub IsNew : Program → Types → World → Name → Thread → Type 0
IsNew p y v u m = (j : ThreadEntry) × (fin.get v.threads u ≡ Some j) × (m.home ≡ j.home) × HasType p y v j.home nowhere m.term j.result
    × (m.asked ≡ None)

pub record TypedStep (p : Program) (y : Types) (w v : World) (s r : Config) (t : Name) (g : Becomes p s r t) : Type 0 where
  pub more : Grows w v
  pub objects : InStep y v r.objects v.objects
  pub known : IsKnown r.objects v.objects
  pub entry : ThreadEntry
  pub entry_there : fin.get w.threads t ≡ Some entry
  pub after : IsAfter p y v t entry g.after
  pub new : (u : Name) (m : Thread) → IsEntry u m g.new → IsNew p y v u m
  pub entry_case : (u : Name) (j : ThreadEntry) → fin.get v.threads u ≡ Some j → (fin.get w.threads u ≡ Some j) ⊎ IsKey u g.new

module _ (p : Program) (y : Types) (ok : HasTypes p y) (w v : World) (s r : Config) (t : Name) (g : Becomes p s r t)
    (typed : IsTypedAt p y w s) (step : TypedStep p y w v s r t g) where
  -- a thread that there is then
  data Case (u : Name) (x : State) : Type 0 where
    Itself : u ≡ t → x ≡ settle p g.after → Case u x
    NewOne : (m : Thread) → IsEntry u m g.new → x ≡ settle p m → Case u x
    Older : fin.get s.threads u ≡ Some x → Case u x

  abbrev entries : List (Name × State)
  entries = (t, settle p g.after) ∷ settle_all p g.new

  of_entry : (u : Name) (x z : State) → IsEntry u z entries → z ≡ x → Case u x
  of_entry u x z h e = ⊎_elim
      (λ (a : (u ≡ t) × (z ≡ settle p g.after)). Itself a.0 (sym e ∙ a.1))
      (λ (b : IsEntry u z (settle_all p g.new)). let m = settled_entry p g.new u z b in NewOne m.0 m.1 (sym e ∙ m.2))
      h

  case : (u : Name) (x : State) → fin.get r.threads u ≡ Some x → Case u x
  case u x h =
      let f : fin.get (puts entries s.threads) u ≡ Some x = sym (ap (λ z. fin.get z u) g.threads_are) ∙ h in
      ⊎_elim
      (λ (a : fin.get (puts entries s.threads) u ≡ fin.get s.threads u). Older (sym a ∙ f))
      (λ (z : (z : State) × IsEntry u z entries × (fin.get (puts entries s.threads) u ≡ Some z)).
      of_entry u x z.0 z.1 (same_some z.0 x (sym z.2 ∙ f)))
      (puts_case entries s.threads u)

  abbrev ThreadAt : Name → Thread → Type 0
  ThreadAt u l = (k : ThreadEntry) × (fin.get v.threads u ≡ Some k) × (l.home ≡ k.home) × HasType p y v k.home nowhere l.term k.result

  thread_at : (u : Name) (l : Thread) → Case u (Live l) → ThreadAt u l
  thread_at u l (Itself e f) =
      let thread : l ≡ g.after = live_settled p g.after l (sym f) in
      subst (ThreadAt u) (sym thread)
      (step.entry, ap (fin.get v.threads) e ∙ step.more.threads t step.entry step.entry_there, step.after.0, step.after.1)
  thread_at u l (NewOne m e f) =
      let thread : l ≡ m = live_settled p m l (sym f) in
      let z = step.new u m e in
      subst (ThreadAt u) (sym thread) (z.0, z.1, z.2, z.3)
  thread_at u l (Older h) =
      let z = typed.threads u l h in
      (z.0, step.more.threads u z.0 z.1, z.2, type_more y w v step.more z.0.home p nowhere l.term z.0.result z.3)

  -- the value of a thread that ends
  ended_value : (k : ThreadEntry) (m : Thread) (x : Value) → HasType p y v k.home nowhere m.term k.result → settle p m ≡ Ended x
      → Fits y v k.home x k.result
  ended_value k m x h e =
      subst (NextIs p y ok v k.home true (λ z. Fits y v k.home z k.result) (λ z e'. HasType p y z k.home nowhere e' k.result))
      (ended_is (next p m.term) m x e) (thread_typed p y ok v k.home m.term k.result h)

  abbrev EndedAt : Name → Value → Type 0
  EndedAt u x = (k : ThreadEntry) × (fin.get v.threads u ≡ Some k) × Fits y v k.home x k.result

  ended_at : (u : Name) (x : Value) → Case u (Ended x) → EndedAt u x
  ended_at u x (Itself e f) =
      (step.entry, ap (fin.get v.threads) e ∙ step.more.threads t step.entry step.entry_there, ended_value step.entry g.after x step.after.1 (sym f))
  ended_at u x (NewOne m e f) = let z = step.new u m e in (z.0, z.1, ended_value z.0 m x z.3 (sym f))
  ended_at u x (Older h) =
      let z = typed.ended u x h in (z.0, step.more.threads u z.0 z.1, fits_more y w v step.more z.0.home x z.0.result z.2)

  there : (u : Name) (k : ThreadEntry) → fin.get v.threads u ≡ Some k → (x : State) × (fin.get r.threads u ≡ Some x)
  there u k h = ⊎_elim
      (λ (old : fin.get w.threads u ≡ Some k).
      let x = typed.kept u k old in
      ⊎_elim
      (λ (a : fin.get (puts entries s.threads) u ≡ fin.get s.threads u). (x.0, ap (λ z. fin.get z u) g.threads_are ∙ (a ∙ x.1)))
      (λ (z : (z : State) × IsEntry u z entries × (fin.get (puts entries s.threads) u ≡ Some z)).
      (z.0, ap (λ z. fin.get z u) g.threads_are ∙ z.2))
      (puts_case entries s.threads u))
      (λ (key : IsKey u g.new).
      let z = puts_key entries s.threads u (inr (settled_key p g.new u key)) in (z.0, ap (λ z. fin.get z u) g.threads_are ∙ z.2))
      (step.entry_case u k h)

  waiting_at : (u : Name) (l : Thread) (made : ℕ) → l.asked ≡ Some made → Case u (Live l) → IsWaiting p y v u l made
  waiting_at u l made h (Itself e f) =
      let thread : l ≡ g.after = live_settled p g.after l (sym f) in
      subst (λ z. IsWaiting p y v z l made) (sym e)
      (subst (λ (z : Thread). IsWaiting p y v t z made) (sym thread) (step.after.2 made (subst (λ (z : Thread). z.asked ≡ Some made) thread h)))
  waiting_at u l made h (NewOne m e f) =
      let thread : l ≡ m = live_settled p m l (sym f) in
      absurd (some_not_none made (sym (subst (λ (z : Thread). z.asked ≡ Some made) thread h) ∙ (step.new u m e).4))
  waiting_at u l made h (Older live) =
      let z = typed.waiting u l made live h in
      record {
        line = z.line;
        f = z.f;
        object = z.object;
        values = z.values;
        go = z.go;
        asks = z.asks;
        entry = z.entry;
        there = step.more.threads (made ∷ u) z.entry z.there;
        gives = z.gives;
      }

  pub kept : IsTypedAt p y v r
  kept = record {
    objects = step.objects;
    known = step.known;
    threads = λ u l h. thread_at u l (case u (Live l) h);
    ended = λ u x h. ended_at u x (case u (Ended x) h);
    kept = there;
    waiting = λ u l made h a. waiting_at u l made a (case u (Live l) h);
    main = let m = typed.main in (m.0, step.more.threads [] m.0 m.1, m.2);
  }
