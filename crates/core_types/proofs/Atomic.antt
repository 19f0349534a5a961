-- A thread that is inside an atomic function always goes on.
use Rattle.std.proofs.Common.{◌≡◌, ◌⊎◌, ℕ, Bool, true, false, List, [], ◌∷◌, Option, Some, None, refl, sym, ap, subst, ◌∙◌, ⊎_elim, inl, inr}
use Rattle.std.specs.Prelude.{◌||◌, ◌&&◌, ℤ}
use Rattle.std.specs.FinMap as fin
use Rattle.cc_ops.specs.declared.shape.FunShape.{FunShape}
use Rattle.cc_core.specs.Names.{Name, Value}
use Rattle.cc_core.specs.Core.{Term, Program, shapes, function_shape}
use Rattle.cc_core.specs.Asks.{Ask, Answer, Copies, Calls}
use Rattle.cc_core.specs.Next.{Next, Ready, Asks, After, next}
use Rattle.cc_core.specs.Config.{Config, Thread, Live}
use Rattle.cc_core.specs.Needs.{Verdict, Go, Hold, Bad, needs, check_all, same_object, is_inside, any_holds}
use Rattle.cc_core.specs.Source.{IsProgram}
use Rattle.cc_core.specs.Steps.{decide, act, act_state, step, CanMove, IsAtRest}
use Rattle.one_holder.proofs.Values.{holds_found}
use Rattle.core_types.specs.Types.{ValueType, Types}
use Rattle.core_types.specs.Values.{World}
use Rattle.core_types.specs.Typing.{nowhere, is_atomic, HasType}
use Rattle.core_types.specs.Asks.{IsAsk}
use Rattle.core_types.specs.Programs.{HasTypes, WellTyped}
use Rattle.core_types.specs.Runs.{IsTypedAt, IsReachedFrom}
use Rattle.core_types.proofs.Inside.{IsPlainProgram}
use Rattle.core_types.specs.Atomic.{Entered, IsInAtomic}
use Rattle.core_types.proofs.AskKinds.{ask_typed}
use Rattle.core_types.proofs.Calm.{AnyCalm, IsCalm, calm_thread, never_holds}
use Rattle.core_types.proofs.Cases.{IsBusy}
use Rattle.core_types.proofs.InsideRuns.{AreInsideAs, reached_inside}
use Rattle.core_types.proofs.Made.{shape_is}
use Rattle.core_types.proofs.Plain.{plain_program}
use Rattle.core_types.proofs.Start.{reached_has_types}

module _ (p : Program) (y : Types) (ok : HasTypes p y) (source : IsProgram p) (ns : List ℤ) (s : Config) (at : IsReachedFrom p ns s) where
  plain : IsPlainProgram p
  plain = plain_program p y ok source

  calm_of : (w : World) (q : Name) (gs : Entered) → IsInAtomic p gs → AnyCalm p y ok plain w q gs
  calm_of w q [] h = h
  calm_of w q (g ∷ gs) h =
      ⊎_elim (λ (a : is_atomic p g.0 ≡ true). inl (ok.atomics g.0 a)) (λ (b : IsInAtomic p gs). inr (calm_of w q gs b)) h

  same_ask : (a b : ℕ) (x z : Ask Name) (k g : Answer Name → After Term) → ◌≡◌ {A = Next Value Term} (Asks a x k) (Asks b z g) → x ≡ z
  same_ask a b x z k g e = cc

  module _ (w : World) (typed : IsTypedAt p y w s) (t : Name) (l : Thread) (live : fin.get s.threads t ≡ Some (Live l))
      (inside : IsInAtomic p l.inside) where
    all_inside : AreInsideAs p s
    all_inside = reached_inside p y ok plain ns s at

    calm : IsCalm p y ok plain w l.home (next p l.term)
    calm =
        let z = typed.threads t l live in
        calm_thread p y ok plain w l.home l.term z.0.result l.inside (subst (λ h. HasType p y w h nowhere l.term z.0.result) (sym z.2) z.3)
        (all_inside t l live).0 (calm_of w l.home l.inside inside)

    decided : (line : ℕ) (ask : Ask Name) (k : Answer Name → After Term) (us : List ValueType) → IsAsk p y w l.home false ask us
        → (v : Verdict Name) → check_all (shapes p) s t l (needs (shapes p) ask) ≡ v → CanMove (decide p t s l line ask k v)
    decided line ask k us f (Go found) e = tt
    decided line ask k us f Hold e = absurd (never_holds p y w s typed.objects t l ask us f e)
    decided line ask k us f (Bad kind) e = tt

    no_call : (made : ℕ) (line : ℕ) (ask : Ask Name) (k : Answer Name → After Term) (us : List ValueType) → IsAsk p y w l.home false ask us
        → next p l.term ≡ Asks line ask k → l.asked ≡ Some made → ⊥
    no_call made line ask k us f asks was =
        let wait = typed.waiting t l made live was in
        let call : IsAsk p y w l.home false (Calls wait.f wait.object wait.values) us =
        subst (λ a. IsAsk p y w l.home false a us) (same_ask _ _ _ _ _ _ (sym asks ∙ wait.asks)) f in
        let e : false ≡ true = call.1 in
        cc

    acts : (n : Next Value Term) → next p l.term ≡ n → IsBusy n → IsCalm p y ok plain w l.home n → (asked : Option ℕ) → l.asked ≡ asked
        → CanMove (act p t s l n asked)
    acts (Ready v) is b c asked was = absurd b
    acts (Asks line ask k) is b c None was = decided line ask k c.0 c.1 _ refl
    acts (Asks line ask k) is b c (Some made) was = absurd (no_call made line ask k c.0 c.1 is was)

    pub moves_at : CanMove (step p t s)
    moves_at =
        subst (λ x. CanMove (act_state p t s x)) (sym live)
        (acts (next p l.term) refl (all_inside t l live).1 calm l.asked refl)

pub atomic_goes_on : (p : Program) (y : Types) → HasTypes p y → IsProgram p → (ns : List ℤ) (s : Config) → IsReachedFrom p ns s
    → (t : Name) (l : Thread) → fin.get s.threads t ≡ Some (Live l) → IsInAtomic p l.inside → CanMove (step p t s)
atomic_goes_on p y ok source ns s at t l live inside =
    let c = reached_has_types p y ok ns s at in moves_at p y ok source ns s at c.0 c.1 t l live inside

pub rest_outside : (p : Program) (y : Types) → HasTypes p y → IsProgram p → (ns : List ℤ) (s : Config) → IsReachedFrom p ns s → IsAtRest p s
    → (t : Name) (l : Thread) → fin.get s.threads t ≡ Some (Live l) → IsInAtomic p l.inside → ⊥
rest_outside p y ok source ns s at rest t l live inside = subst CanMove (rest t) (atomic_goes_on p y ok source ns s at t l live inside)

-- an object is held by a thread that is inside an atomic function of it: so at rest none is held

both_true : (a b : Bool) → a && b ≡ true → a ≡ true
both_true true b e = refl
both_true false b e = e

held : (a b : Bool) → a || b ≡ true → (a ≡ true) ⊎ (b ≡ true)
held true b e = inl refl
held false b e = inr e

in_atomic : (p : Program) (o : Value) (gs : Entered) → is_inside (shapes p) o gs ≡ true → IsInAtomic p gs
in_atomic p o [] e = let z : false ≡ true = e in cc
in_atomic p o (g ∷ gs) e = ⊎_elim
    (λ (a : (function_shape (shapes p) g.0).atomic && same_object o g.1 ≡ true).
    inl (sym (ap (λ (z : FunShape). z.atomic) (shape_is p g.0)) ∙ both_true (function_shape (shapes p) g.0).atomic (same_object o g.1) a))
    (λ (b : is_inside (shapes p) o gs ≡ true). inr (in_atomic p o gs b))
    (held ((function_shape (shapes p) g.0).atomic && same_object o g.1) (is_inside (shapes p) o gs) e)

not_true : (b : Bool) → (b ≡ true → ⊥) → b ≡ false
not_true true f = absurd (f refl)
not_true false f = refl

pub rest_free : (p : Program) (y : Types) → HasTypes p y → IsProgram p → (ns : List ℤ) (s : Config) → IsReachedFrom p ns s → IsAtRest p s
    → (o : Value) → any_holds (shapes p) o (fin.values s.threads) ≡ false
rest_free p y ok source ns s at rest o = not_true (any_holds (shapes p) o (fin.values s.threads)) (λ e.
    let h = holds_found (shapes p) o s.threads e in rest_outside p y ok source ns s at rest h.0 h.1 h.2 (in_atomic p o h.1.inside h.3))

-- a read of all cells of an object never waits

copies_call_nothing : (a b f n : ℕ) (o from : Value) (vs : List Value) (k g : Answer Name → After Term)
    → ◌≡◌ {A = Next Value Term} (Asks a (Calls f o vs) k) (Asks b (Copies from n) g) → ⊥
copies_call_nothing a b f n o from vs k g e = cc

module _ (p : Program) (y : Types) (w : World) (s : Config) (typed : IsTypedAt p y w s) (t : Name) (l : Thread)
    (live : fin.get s.threads t ≡ Some (Live l)) (line : ℕ) (from : Value) (n : ℕ) (k : Answer Name → After Term)
    (asks : next p l.term ≡ Asks line (Copies from n) k) (us : List ValueType) (f : IsAsk p y w l.home false (Copies from n) us) where
  copy_decided : (v : Verdict Name) → check_all (shapes p) s t l (needs (shapes p) (Copies from n)) ≡ v
      → CanMove (decide p t s l line (Copies from n) k v)
  copy_decided (Go found) e = tt
  copy_decided Hold e = absurd (never_holds p y w s typed.objects t l (Copies from n) us f e)
  copy_decided (Bad kind) e = tt

  copy_acts : (asked : Option ℕ) → l.asked ≡ asked → CanMove (act p t s l (Asks line (Copies from n) k) asked)
  copy_acts None was = copy_decided _ refl
  copy_acts (Some made) was =
      let wait = typed.waiting t l made live was in
      absurd (copies_call_nothing wait.line line wait.f n wait.object from wait.values wait.go k (sym wait.asks ∙ asks))

  copy_moves : CanMove (step p t s)
  copy_moves =
      subst (λ x. CanMove (act_state p t s x)) (sym live)
      (subst (λ x. CanMove (act p t s l x l.asked)) (sym asks) (copy_acts l.asked refl))

pub copies_go_on : (p : Program) → WellTyped p → (ns : List ℤ) (s : Config) → IsReachedFrom p ns s → (t : Name) (l : Thread)
    → fin.get s.threads t ≡ Some (Live l) → (line : ℕ) (from : Value) (n : ℕ) (k : Answer Name → After Term)
    → next p l.term ≡ Asks line (Copies from n) k → CanMove (step p t s)
copies_go_on p ok ns s at t l live line from n k asks =
    let c = reached_has_types p ok.0 ok.1 ns s at in
    let a = ask_typed p ok.0 ok.1 c.0 s c.1 t l live line (Copies from n) k asks in
    copy_moves p ok.0 c.0 s c.1 t l live line from n k asks a.0 a.1
