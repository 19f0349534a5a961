-- Values, frames and threads that are the same but for names.
use Rattle.std.proofs.Common.{◌≡◌, ℕ, zero, suc, ◌+◌, List, [], ◌∷◌, Bool, true, false, refl, ap, subst, set, map}
use Rattle.std.specs.Prelude.{min, if◌then◌else◌}
use Rattle.cc_ops.specs.Values.{Value, Void, Int, Null, Ptr, Constant, VoidC, IntC, NullC, constant, int_of, is_zero, first, after_first, address_of, resized, moved, last_offset, as_kind, as_kinds, no_void, sent}
use Rattle.cc_ops.specs.Operators.{truth}
use Rattle.cc_ops.specs.declared.kind.Kind.{Kind}
use Rattle.cc_ops.specs.declared.kind.Kind.TheVariants as kind
use Rattle.cc_core.specs.Next.{variable}
use Rattle.cc_code.specs.Code.{Frame, Thread, Runs, Starting, Finished, pushed, at_place, branch_at, branches_at, returned}
use Rattle.code_names.specs.Same.{Pairwise, SameValue, SameValues, SameFrame, SameThread}

-- where more names are told to stand for the same
module _ {N M : Type 0} (R S : N → M → Type 0) (more : (a : N) (b : M) → R a b → S a b) where
  pub value_later : (v : Value N) (w : Value M) → SameValue R v w → SameValue S v w
  value_later Void Void h = h
  value_later (Int n) (Int m) h = h
  value_later Null Null h = h
  value_later (Ptr o x) (Ptr q y) h = (more o q h.0, h.1)
  value_later v w h = absurd h

  pub values_later : (vs : List (Value N)) (ws : List (Value M)) → SameValues R vs ws → SameValues S vs ws
  values_later [] [] h = tt
  values_later [] (w ∷ ws) h = absurd h
  values_later (v ∷ vs) [] h = absurd h
  values_later (v ∷ vs) (w ∷ ws) h = (value_later v w h.0, values_later vs ws h.1)

  pub frame_later : (f : Frame N) (g : Frame M) → SameFrame R f g → SameFrame S f g
  frame_later f g h = record {
    this = value_later f.this g.this h.this;
    vars = values_later f.vars g.vars h.vars;
    place = h.place;
    made = h.made;
  }

  pub frames_later : (fs : List (Frame N)) (gs : List (Frame M)) → Pairwise (SameFrame R) fs gs → Pairwise (SameFrame S) fs gs
  frames_later [] [] h = tt
  frames_later [] (g ∷ gs) h = absurd h
  frames_later (f ∷ fs) [] h = absurd h
  frames_later (f ∷ fs) (g ∷ gs) h = (frame_later f g h.0, frames_later fs gs h.1)

  pub thread_later : (c : Thread N) (d : Thread M) → SameThread R c d → SameThread S c d
  thread_later (Runs f fs ops) (Runs g gs ops') h = (frame_later f g h.0, frames_later fs gs h.1, values_later ops ops' h.2)
  thread_later (Starting f this vs) (Starting g that ws) h = (h.0, value_later this that h.1, values_later vs ws h.2)
  thread_later (Finished v) (Finished w) h = value_later v w h
  thread_later c d h = absurd h

module _ {N M : Type 0} (R : N → M → Type 0) where
  pub constant_same : (c : Constant) → SameValue R (constant c) (constant c)
  constant_same VoidC = tt
  constant_same (IntC n) = refl
  constant_same NullC = tt

  pub moved_same : (v : Value N) (w : Value M) (k : ℕ) → SameValue R v w → SameValue R (moved v k) (moved w k)
  moved_same Void Void k h = tt
  moved_same (Int n) (Int m) k h = tt
  moved_same Null Null k h = tt
  moved_same (Ptr o x) (Ptr q y) k h = (h.0, ap (λ (n : ℕ). min (n + k) last_offset) h.1)
  moved_same v w k h = absurd h

  pub int_same : (v : Value N) (w : Value M) → SameValue R v w → int_of v ≡ int_of w
  int_same Void Void h = refl
  int_same (Int n) (Int m) h = h
  int_same Null Null h = refl
  int_same (Ptr o x) (Ptr q y) h = refl
  int_same v w h = absurd h

  pub zero_same : (v : Value N) (w : Value M) → SameValue R v w → is_zero v ≡ is_zero w
  zero_same v w h = rw (int_same v w h) refl

  pub no_void_same : (v : Value N) (w : Value M) → SameValue R v w → SameValue R (no_void v) (no_void w)
  no_void_same Void Void h = tt
  no_void_same (Int n) (Int m) h = h
  no_void_same Null Null h = tt
  no_void_same (Ptr o x) (Ptr q y) h = h
  no_void_same v w h = absurd h

  pub no_voids_same : (vs : List (Value N)) (ws : List (Value M)) → SameValues R vs ws → SameValues R (map no_void vs) (map no_void ws)
  no_voids_same [] [] h = tt
  no_voids_same [] (w ∷ ws) h = absurd h
  no_voids_same (v ∷ vs) [] h = absurd h
  no_voids_same (v ∷ vs) (w ∷ ws) h = (no_void_same v w h.0, no_voids_same vs ws h.1)

  pub sent_same : (remote : Bool) (v : Value N) (w : Value M) → SameValue R v w → SameValue R (sent remote v) (sent remote w)
  sent_same false v w h = h
  sent_same true v w h = no_void_same v w h

  pub address_same : (v : Value N) (w : Value M) → SameValue R v w → SameValue R (address_of v) (address_of w)
  address_same Void Void h = tt
  address_same (Int n) (Int m) h = tt
  address_same Null Null h = tt
  address_same (Ptr o x) (Ptr q y) h = h
  address_same v w h = absurd h

  pub kind_same : (k : Kind) (v : Value N) (w : Value M) → SameValue R v w → SameValue R (as_kind k v) (as_kind k w)
  kind_same kind.Int v w h = int_same v w h
  kind_same kind.SyncInt v w h = int_same v w h
  kind_same kind.Ptr v w h = address_same v w h
  kind_same kind.SyncPtr v w h = address_same v w h

  pub first_same : (vs : List (Value N)) (ws : List (Value M)) → SameValues R vs ws → SameValue R (first vs) (first ws)
  first_same [] [] h = tt
  first_same [] (w ∷ ws) h = absurd h
  first_same (v ∷ vs) [] h = absurd h
  first_same (v ∷ vs) (w ∷ ws) h = h.0

  pub rest_same : (vs : List (Value N)) (ws : List (Value M)) → SameValues R vs ws → SameValues R (after_first vs) (after_first ws)
  rest_same [] [] h = tt
  rest_same [] (w ∷ ws) h = absurd h
  rest_same (v ∷ vs) [] h = absurd h
  rest_same (v ∷ vs) (w ∷ ws) h = h.1

  pub kinds_same : (ks : List Kind) (vs : List (Value N)) (ws : List (Value M)) → SameValues R vs ws → SameValues R (as_kinds ks vs) (as_kinds ks ws)
  kinds_same [] vs ws h = tt
  kinds_same (k ∷ ks) vs ws h =
      (kind_same k (first vs) (first ws) (first_same vs ws h), kinds_same ks (after_first vs) (after_first ws) (rest_same vs ws h))

  pub variable_same : (vs : List (Value N)) (ws : List (Value M)) (k : ℕ) → SameValues R vs ws → SameValue R (variable vs k Null) (variable ws k Null)
  variable_same [] [] k h = tt
  variable_same [] (w ∷ ws) k h = absurd h
  variable_same (v ∷ vs) [] k h = absurd h
  variable_same (v ∷ vs) (w ∷ ws) zero h = h.0
  variable_same (v ∷ vs) (w ∷ ws) (suc k) h = variable_same vs ws k h.1

  pub set_same : (vs : List (Value N)) (ws : List (Value M)) (k : ℕ) (v : Value N) (w : Value M) → SameValues R vs ws → SameValue R v w
      → SameValues R (set vs k v) (set ws k w)
  set_same [] [] k v w h e = tt
  set_same [] (y ∷ ws) k v w h e = absurd h
  set_same (x ∷ vs) [] k v w h e = absurd h
  set_same (x ∷ vs) (y ∷ ws) zero v w h e = (e, h.1)
  set_same (x ∷ vs) (y ∷ ws) (suc k) v w h e = (h.0, set_same vs ws k v w h.1 e)

  pub resized_same : (n : ℕ) (vs : List (Value N)) (ws : List (Value M)) → SameValues R vs ws → SameValues R (resized n vs) (resized n ws)
  resized_same zero vs ws h = tt
  resized_same (suc n) [] [] h = (tt, resized_same n [] [] tt)
  resized_same (suc n) [] (w ∷ ws) h = absurd h
  resized_same (suc n) (v ∷ vs) [] h = absurd h
  resized_same (suc n) (v ∷ vs) (w ∷ ws) h = (h.0, resized_same n vs ws h.1)

  pub pushed_same : (vs ops : List (Value N)) (ws ops' : List (Value M)) → SameValues R vs ws → SameValues R ops ops'
      → SameValues R (pushed vs ops) (pushed ws ops')
  pushed_same [] ops [] ops' h g = g
  pushed_same [] ops (w ∷ ws) ops' h g = absurd h
  pushed_same (v ∷ vs) ops [] ops' h g = absurd h
  pushed_same (v ∷ vs) ops (w ∷ ws) ops' h g = pushed_same vs (v ∷ ops) ws (w ∷ ops') h.1 (h.0, g)

  pub truth_same : (b : Bool) → SameValue R (truth b) (truth b)
  truth_same true = refl
  truth_same false = refl

  pub either_same : (b c : Bool) (x x' : Thread N) (y y' : Thread M) → b ≡ c → SameThread R x y → SameThread R x' y'
      → SameThread R (if b then x else x') (if c then y else y')
  either_same b c x x' y y' e h g = subst (λ (d : Bool). SameThread R (if b then x else x') (if d then y else y')) e (either b)
    where
      either : (d : Bool) → SameThread R (if d then x else x') (if d then y else y')
      either true = h
      either false = g

  pub place_same : (f : Frame N) (g : Frame M) (b c : ℕ) → SameFrame R f g → b ≡ c → SameFrame R (at_place f b) (at_place g c)
  place_same f g b c h e = record { this = h.this; vars = h.vars; place = e; made = h.made }

  pub branch_same : (this : Value N) (that : Value M) (vs : List (Value N)) (ws : List (Value M)) (to : ℕ) → SameValue R this that
      → SameValues R vs ws → SameThread R (branch_at this vs to) (branch_at that ws to)
  branch_same this that vs ws to h g = (record { this = h; vars = g; place = refl; made = refl }, tt, tt)

  pub branches_same : (this : Value N) (that : Value M) (vs : List (Value N)) (ws : List (Value M)) (tos : List ℕ) → SameValue R this that
      → SameValues R vs ws → Pairwise (SameThread R) (branches_at this vs tos) (branches_at that ws tos)
  branches_same this that vs ws [] h g = tt
  branches_same this that vs ws (to ∷ tos) h g = (branch_same this that vs ws to h g, branches_same this that vs ws tos h g)

  pub returned_same : (v : Value N) (w : Value M) (fs : List (Frame N)) (gs : List (Frame M)) (ops : List (Value N)) (ops' : List (Value M))
      → SameValue R v w → Pairwise (SameFrame R) fs gs → SameValues R ops ops' → SameThread R (returned v fs ops) (returned w gs ops')
  returned_same v w [] [] ops ops' h s t = h
  returned_same v w [] (g ∷ gs) ops ops' h s t = absurd s
  returned_same v w (f ∷ fs) [] ops ops' h s t = absurd s
  returned_same v w (f ∷ fs) (g ∷ gs) ops ops' h s t = (s.0, s.1, (h, t))
