-- What differs by its constructor, and what is the same inside one.
use Rattle.std.proofs.Common.{◌≡◌, ℕ, List, [], ◌∷◌, Some, None, ap}
use Rattle.global_ptr.specs.declared.ends.FaultKind.{FaultKind}
use Rattle.cc_ops.specs.Values.{Ptr, Gives, Fails}
use Rattle.cc_core.specs.Names.{Name, Value}
use Rattle.cc_core.specs.Config.{Thread, Live, Ended}
use Rattle.cc_core.specs.Needs.{Verdict, Go, Hold, Bad}

pub none_written : (w : Value × Value) → [] ≡ w ∷ [] → ⊥
none_written w e = cc

same_head : (x y : Value × Value) → x ∷ [] ≡ y ∷ [] → x ≡ y
same_head x y e = cc

pub same_place : (a v b w : Value) → ◌≡◌ {A = List (Value × Value)} ((a, v) ∷ []) ((b, w) ∷ []) → a ≡ b
same_place a v b w e = ap (λ (q : Value × Value). q.0) (same_head _ _ e)

pub same_written : (a v b w : Value) → ◌≡◌ {A = List (Value × Value)} ((a, v) ∷ []) ((b, w) ∷ []) → v ≡ w
same_written a v b w e = ap (λ (q : Value × Value). q.1) (same_head _ _ e)

pub same_object : (o q : Name) (x y : ℕ) → Ptr o x ≡ Ptr q y → o ≡ q
same_object o q x y e = cc

pub same_offset : (o q : Name) (x y : ℕ) → Ptr o x ≡ Ptr q y → x ≡ y
same_offset o q x y e = cc

pub hold_not_go : (found : List Value) → Hold ≡ Go found → ⊥
hold_not_go found e = cc

pub bad_not_go : (kind : FaultKind) (found : List Value) → Bad kind ≡ Go found → ⊥
bad_not_go kind found e = cc

pub hold_not_bad : (kind : FaultKind) → ◌≡◌ {A = Verdict Name} Hold (Bad kind) → ⊥
hold_not_bad kind e = cc

pub some_not_none : {X : Type 0} (x : X) → Some x ≡ None → ⊥
some_not_none x e = cc

pub same_some : {X : Type 0} (x y : X) → Some x ≡ Some y → x ≡ y
same_some x y e = cc

pub fails_not_gives : {X : Type 0} (kind : FaultKind) (x : X) → Fails kind ≡ Gives x → ⊥
fails_not_gives kind x e = cc

pub same_live : (l m : Thread) → Some (Live l) ≡ Some (Live m) → l ≡ m
same_live l m e = cc

pub live_not_ended : (l : Thread) (v : Value) → Some (Live l) ≡ Some (Ended v) → ⊥
live_not_ended l v e = cc
