-- Threads that are the same but for names make the same moves.
use Rattle.std.proofs.Common.{ℕ, zero, suc, List, [], ◌∷◌, Option, Some, None, Bool, true, false, refl, ap, subst, set}
use Rattle.std.specs.Prelude.{slice_get}
use Rattle.cc_ops.specs.Values.{Value, Void, Null, constant, first, after_first, is_zero, resized, moved}
use Rattle.cc_ops.specs.Classes.{all_kinds}
use Rattle.cc_ops.specs.Operators.{truth, takes}
use Rattle.cc_ops.specs.declared.shape.FunShape.{FunShape}
use Rattle.cc_core.specs.Core.{How, Alone, On, Remote, function_shape, class_shape}
use Rattle.cc_core.specs.Asks.{Answer}
use Rattle.cc_core.specs.Source.{operands, values}
use Rattle.cc_core.specs.Next.{variable, call_ask, spawn_ask, object_ask}
use Rattle.cc_code.specs.Code.{Instr, PushI, ThisI, VariableI, FieldI, DropI, JumpI, EndI, IndexI, AtI, LoadI, StoreI, OpI, TestI, AndI}
use Rattle.cc_code.specs.Code.{OrI, MakeI, SetI, BuildI, NewI, NewObjectI, CallI, SpawnI, CellsI, RetI, ForkI, EachI, JoinI, PrintI}
use Rattle.cc_code.specs.Code.{Placed, Code, Frame, Thread, Runs, Starting, Finished, Move, popped, with_popped}
use Rattle.cc_code.specs.Code.{top_one, top_two, pushed, at_place, enter_at, next_place, call_left, act}
use Rattle.cc_code.specs.Code.{fetched, move}
use Rattle.code_names.specs.Same.{Pairwise, SameValue, SameValues, SameFrame, SameThread, SameAsk, SameAnswer, SameThen, SameMove}
use Rattle.code_names.proofs.Values.{value_later, values_later, frame_later, frames_later, constant_same, moved_same, zero_same, no_voids_same, sent_same, first_same, rest_same, kinds_same, variable_same, set_same, resized_same, pushed_same, truth_same, either_same, place_same, branch_same, branches_same, returned_same}

module _ {N M : Type 0} (R S : N → M → Type 0) where
  one_same : (vs : List (Value N)) (ws : List (Value M)) (go : Value N → List (Value N) → Move N) (go' : Value M → List (Value M) → Move M)
      → SameValues R vs ws
      → ((v : Value N) (w : Value M) (ops : List (Value N)) (ops' : List (Value M)) → SameValue R v w → SameValues R ops ops' → SameMove R S (go v ops) (go' w ops'))
      → SameMove R S (top_one vs go) (top_one ws go')
  one_same [] [] go go' h k = tt
  one_same [] (w ∷ ws) go go' h k = absurd h
  one_same (v ∷ vs) [] go go' h k = absurd h
  one_same (v ∷ vs) (w ∷ ws) go go' h k = k v w vs ws h.0 h.1

  two_same : (vs : List (Value N)) (ws : List (Value M)) (go : Value N → Value N → List (Value N) → Move N)
      (go' : Value M → Value M → List (Value M) → Move M) → SameValues R vs ws
      → ((v x : Value N) (w y : Value M) (ops : List (Value N)) (ops' : List (Value M)) → SameValue R v w → SameValue R x y → SameValues R ops ops'
      → SameMove R S (go v x ops) (go' w y ops'))
      → SameMove R S (top_two vs go) (top_two ws go')
  two_same [] [] go go' h k = tt
  two_same [] (w ∷ ws) go go' h k = absurd h
  two_same (v ∷ vs) [] go go' h k = absurd h
  two_same (v ∷ []) (w ∷ []) go go' h k = tt
  two_same (v ∷ []) (w ∷ y ∷ ws) go go' h k = absurd h.1
  two_same (v ∷ x ∷ vs) (w ∷ []) go go' h k = absurd h.1
  two_same (v ∷ x ∷ vs) (w ∷ y ∷ ws) go go' h k = k x v y w vs ws h.1.0 h.0 h.1.1

  all_same : (n : ℕ) (vs got : List (Value N)) (ws got' : List (Value M)) (go : List (Value N) → List (Value N) → Move N)
      (go' : List (Value M) → List (Value M) → Move M) → SameValues R vs ws → SameValues R got got'
      → ((us ops : List (Value N)) (us' ops' : List (Value M)) → SameValues R us us' → SameValues R ops ops' → SameMove R S (go us ops) (go' us' ops'))
      → SameMove R S (with_popped (popped n vs got) go) (with_popped (popped n ws got') go')
  all_same zero vs got ws got' go go' h g k = k got vs got' ws g h
  all_same (suc n) [] got [] got' go go' h g k = tt
  all_same (suc n) [] got (w ∷ ws) got' go go' h g k = absurd h
  all_same (suc n) (v ∷ vs) got [] got' go go' h g k = absurd h
  all_same (suc n) (v ∷ vs) got (w ∷ ws) got' go go' h g k = all_same n vs (v ∷ got) ws (w ∷ got') go go' h.1 (h.0, g) k

  call_same : (shape : FunShape) (how : How) (f : ℕ) (vs : List (Value N)) (ws : List (Value M)) → SameValues R vs ws
      → SameAsk R (call_ask shape how f vs) (call_ask shape how f ws)
  call_same shape Alone f vs ws h = (refl, tt, h)
  call_same shape On f vs ws h = (refl, first_same R vs ws h, rest_same R vs ws h)
  call_same shape Remote f vs ws h =
      (refl, first_same R vs ws h, kinds_same R (all_kinds shape.params) (after_first vs) (after_first ws) (rest_same R vs ws h))

  spawn_same : (shape : FunShape) (how : How) (f : ℕ) (vs : List (Value N)) (ws : List (Value M)) → SameValues R vs ws
      → SameAsk R (spawn_ask shape how f vs) (spawn_ask shape how f ws)
  spawn_same shape Alone f vs ws h = (refl, tt, h)
  spawn_same shape On f vs ws h = (refl, first_same R vs ws h, rest_same R vs ws h)
  spawn_same shape Remote f vs ws h =
      (refl, first_same R vs ws h, kinds_same R (all_kinds shape.params) (after_first vs) (after_first ws) (rest_same R vs ws h))

  object_same : (remote : Bool) (c : ℕ) (vs : List (Value N)) (ws : List (Value M)) → SameValues R vs ws
      → SameAsk R (object_ask remote c vs) (object_ask remote c ws)
  object_same false c vs ws h = (refl, h)
  object_same true c vs ws h = (refl, no_voids_same R vs ws h)

module _ {N M : Type 0} (R S : N → M → Type 0) (more : (a : N) (b : M) → R a b → S a b) (code : Code) (f : Frame N) (g : Frame M)
    (fs : List (Frame N)) (gs : List (Frame M)) (h : SameFrame R f g) (hs : Pairwise (SameFrame R) fs gs) where
  later : SameFrame S f g
  later = frame_later R S more f g h

  all_later : Pairwise (SameFrame S) fs gs
  all_later = frames_later R S more fs gs hs

  -- behind the instruction, with these operands: now and later
  next_same : (ops : List (Value N)) (ops' : List (Value M)) → SameValues R ops ops' → SameThread R (next_place f fs ops) (next_place g gs ops')
  next_same ops ops' t = (place_same R f g (suc f.place) (suc g.place) h (ap suc h.place), hs, t)

  next_later : (ops : List (Value N)) (ops' : List (Value M)) → SameValues S ops ops' → SameThread S (next_place f fs ops) (next_place g gs ops')
  next_later ops ops' t = (place_same S f g (suc f.place) (suc g.place) later (ap suc h.place), all_later, t)

  then_next : (ops : List (Value N)) (ops' : List (Value M)) → SameValues R ops ops'
      → SameThen S (record { left = next_place f fs ops; branches = [] }) (record { left = next_place g gs ops'; branches = [] })
  then_next ops ops' t = record { left = next_later ops ops' (values_later R S more ops ops' t); branches = tt }

  then_gives : (ops : List (Value N)) (ops' : List (Value M)) → SameValues R ops ops' → (x : Answer N) (y : Answer M) → SameAnswer S x y
      → SameThen S (record { left = next_place f fs (first x.values ∷ ops); branches = [] })
      (record { left = next_place g gs (first y.values ∷ ops'); branches = [] })
  then_gives ops ops' t x y e =
      record {
        left = next_later (first x.values ∷ ops) (first y.values ∷ ops') (first_same S x.values y.values e.values, values_later R S more ops ops' t);
        branches = tt;
      }

  then_binds : (k : ℕ) (ops : List (Value N)) (ops' : List (Value M)) → SameValues R ops ops' → (x : Answer N) (y : Answer M) → SameAnswer S x y
      → SameThen S
      (record { left = Runs (record { this = f.this; vars = set f.vars k (first x.values); place = suc f.place; made = f.made }) fs ops; branches = [] })
      (record { left = Runs (record { this = g.this; vars = set g.vars k (first y.values); place = suc g.place; made = g.made }) gs ops'; branches = [] })
  then_binds k ops ops' t x y e = record {
    left = (
      record {
        this = later.this;
        vars = set_same S f.vars g.vars k (first x.values) (first y.values) later.vars (first_same S x.values y.values e.values);
        place = ap suc h.place;
        made = h.made;
      },
      all_later,
      values_later R S more ops ops' t,
    );
    branches = tt;
  }

  at_later : (to : ℕ) (ops : List (Value N)) (ops' : List (Value M)) → SameValues S ops ops'
      → SameThread S (Runs (at_place f to) fs ops) (Runs (at_place g to) gs ops')
  at_later to ops ops' t = (place_same S f g to to later refl, all_later, t)

  entered_later : (k : ℕ) (this : Value N) (that : Value M) (xs : List (Value N)) (ys : List (Value M)) → SameValue S this that
      → SameValues S xs ys → SameFrame S (enter_at code k this xs) (enter_at code k that ys)
  entered_later k this that xs ys t e =
      record { this = t; vars = resized_same S (function_shape code.shapes k).vars xs ys e; place = refl; made = refl }

  -- in a called function, over the frame that called it
  called_later : (k : ℕ) (this : Value N) (that : Value M) (xs : List (Value N)) (ys : List (Value M)) (ops : List (Value N)) (ops' : List (Value M))
      → SameValue S this that → SameValues S xs ys → SameValues R ops ops'
      → SameThread S (Runs (enter_at code k this xs) (at_place f (suc f.place) ∷ fs) ops) (Runs (enter_at code k that ys) (at_place g (suc g.place) ∷ gs) ops')
  called_later k this that xs ys ops ops' t e o = (
    entered_later k this that xs ys t e,
    (place_same S f g (suc f.place) (suc g.place) later (ap suc h.place), all_later),
    values_later R S more ops ops' o,
  )

  left_same : (how : How) (k : ℕ) (vs ops : List (Value N)) (ws ops' : List (Value M)) → SameValues R vs ws → SameValues R ops ops'
      → (xs : List (Value N)) (ys : List (Value M)) → SameValues S xs ys
      → SameThread S (call_left code how k vs xs f fs ops) (call_left code how k ws ys g gs ops')
  left_same Alone k vs ops ws ops' t o xs ys e = called_later k Void Void xs ys ops ops' tt e o
  left_same On k vs ops ws ops' t o xs ys e =
      called_later k (first vs) (first ws) xs ys ops ops' (value_later R S more (first vs) (first ws) (first_same R vs ws t)) e o
  left_same Remote k vs ops ws ops' t o xs ys e = (
    place_same S f g (suc (suc f.place)) (suc (suc g.place)) later (ap (λ (n : ℕ). suc (suc n)) h.place),
    all_later,
    (first_same S xs ys e, values_later R S more ops ops' o),
  )

  pub act_same : (ops : List (Value N)) (ops' : List (Value M)) → SameValues R ops ops' → (n : ℕ) (i : Instr)
      → SameMove R S (act code f fs ops n i) (act code g gs ops' n i)
  act_same ops ops' o n (PushI c) = next_same (constant c ∷ ops) (constant c ∷ ops') (constant_same R c, o)
  act_same ops ops' o n ThisI = next_same (f.this ∷ ops) (g.this ∷ ops') (h.this, o)
  act_same ops ops' o n (VariableI k) =
      next_same (variable f.vars k Null ∷ ops) (variable g.vars k Null ∷ ops') (variable_same R f.vars g.vars k h.vars, o)
  act_same ops ops' o n (FieldI k) =
      one_same R S ops ops' _ _ o (λ v w rest rest' s t. next_same (moved v k ∷ rest) (moved w k ∷ rest') (moved_same R v w k s, t))
  act_same ops ops' o n DropI = one_same R S ops ops' _ _ o (λ v w rest rest' s t. next_same rest rest' t)
  act_same ops ops' o n (JumpI to) = (place_same R f g to to h refl, hs, o)
  act_same ops ops' o n EndI = tt
  act_same ops ops' o n (IndexI size) =
      two_same R S ops ops' _ _ o (λ v x w y rest rest' s s' t. (refl, (s, refl, s'), then_gives rest rest' t))
  act_same ops ops' o n AtI = two_same R S ops ops' _ _ o (λ v x w y rest rest' s s' t. (refl, (s, s'), then_gives rest rest' t))
  act_same ops ops' o n (LoadI remote) = one_same R S ops ops' _ _ o (λ v w rest rest' s t. (refl, (refl, s), then_gives rest rest' t))
  act_same ops ops' o n (StoreI remote) =
      two_same R S ops ops' _ _ o (λ v x w y rest rest' s s' t. (refl, (refl, s, sent_same R remote x y s'), λ a b e. then_next rest rest' t))
  act_same ops ops' o n (OpI op) = all_same R S (takes op) ops [] ops' [] _ _ o tt (λ vs rest ws rest' s t. (refl, (refl, s), then_gives rest rest' t))
  act_same ops ops' o n (TestI to) = one_same R S ops ops' _ _ o (λ v w rest rest' s t. (
    refl,
    tt,
    λ a b e. record {
      left = either_same S (is_zero v) (is_zero w) _ _ _ _ (zero_same R v w s) (at_later to rest rest' (values_later R S more rest rest' t))
          (next_later rest rest' (values_later R S more rest rest' t));
      branches = tt;
    },
  ))
  act_same ops ops' o n (AndI to) = one_same R S ops ops' _ _ o (λ v w rest rest' s t. (
    refl,
    tt,
    λ a b e. record {
      left = either_same S (is_zero v) (is_zero w) _ _ _ _ (zero_same R v w s)
          (at_later to (truth false ∷ rest) (truth false ∷ rest') (truth_same S false, values_later R S more rest rest' t))
          (next_later rest rest' (values_later R S more rest rest' t));
      branches = tt;
    },
  ))
  act_same ops ops' o n (OrI to) = one_same R S ops ops' _ _ o (λ v w rest rest' s t. (
    refl,
    tt,
    λ a b e. record {
      left = either_same S (is_zero v) (is_zero w) _ _ _ _ (zero_same R v w s) (next_later rest rest' (values_later R S more rest rest' t))
          (at_later to (truth true ∷ rest) (truth true ∷ rest') (truth_same S true, values_later R S more rest rest' t));
      branches = tt;
    },
  ))
  act_same ops ops' o n (MakeI k kind size) = (refl, (refl, refl), then_binds k ops ops' o)
  act_same ops ops' o n (SetI k kind) = one_same R S ops ops' _ _ o (λ v w rest rest' s t. (refl, (refl, s), then_binds k rest rest' t))
  act_same ops ops' o n (BuildI k c) =
      all_same R S (class_shape code.shapes c).params ops [] ops' [] _ _ o tt (λ vs rest ws rest' s t. (refl, (refl, s), then_binds k rest rest' t))
  act_same ops ops' o n (NewI kind size) = (refl, (refl, refl), then_gives ops ops' o)
  act_same ops ops' o n (NewObjectI remote c) =
      all_same R S (class_shape code.shapes c).params ops [] ops' [] _ _ o tt
      (λ vs rest ws rest' s t. (refl, object_same R S remote c vs ws s, then_gives rest rest' t))
  act_same ops ops' o n (CallI how k) =
      all_same R S (operands code.shapes how k) ops [] ops' [] _ _ o tt (λ vs rest ws rest' s t. (
        refl,
        call_same R S (function_shape code.shapes k) how k vs ws s,
        λ a b e. record { left = left_same how k vs rest ws rest' s t a.values b.values e.values; branches = tt },
      ))
  act_same ops ops' o n (SpawnI how k) =
      all_same R S (operands code.shapes how k) ops [] ops' [] _ _ o tt
      (λ vs rest ws rest' s t. (refl, spawn_same R S (function_shape code.shapes k) how k vs ws s, λ a b e. then_next rest rest' t))
  act_same ops ops' o n (CellsI size) = one_same R S ops ops' _ _ o (λ v w rest rest' s t. (
    refl,
    (s, refl),
    λ a b e. record {
      left = next_later (pushed (resized size a.values) rest) (pushed (resized size b.values) rest') (pushed_same S (resized size a.values) rest (resized size b.values) rest' (resized_same S size a.values b.values e.values) (values_later R S more rest rest' t));
      branches = tt;
    },
  ))
  act_same ops ops' o n RetI = one_same R S ops ops' _ _ o (λ v w rest rest' s t. (
    refl,
    tt,
    λ a b e. record {
      left = returned_same S v w fs gs rest rest' (value_later R S more v w s) all_later (values_later R S more rest rest' t);
      branches = tt;
    },
  ))
  act_same ops ops' o n (ForkI targets) = (
    refl,
    refl,
    λ a b e. record {
      left = (record { this = later.this; vars = later.vars; place = ap suc h.place; made = e.made }, all_later, values_later R S more ops ops' o);
      branches = branches_same S f.this g.this f.vars g.vars targets later.this later.vars;
    },
  )
  act_same ops ops' o n (EachI to k) = (
    refl,
    variable_same R f.vars g.vars k h.vars,
    λ a b e. record {
      left = (
        record { this = later.this; vars = later.vars; place = ap suc h.place; made = rw (e.made, h.made) refl },
        all_later,
        values_later R S more ops ops' o,
      );
      branches = (
        branch_same S f.this g.this (set f.vars k (first a.values)) (set g.vars k (first b.values)) to later.this
            (set_same S f.vars g.vars k (first a.values) (first b.values) later.vars (first_same S a.values b.values e.values)),
        tt,
      );
    },
  )
  act_same ops ops' o n JoinI = (
    refl,
    h.made,
    λ a b e. record {
      left = (record { this = later.this; vars = later.vars; place = ap suc h.place; made = refl }, all_later, values_later R S more ops ops' o);
      branches = tt;
    },
  )
  act_same ops ops' o n (PrintI parts) =
      all_same R S (values parts) ops [] ops' [] _ _ o tt (λ vs rest ws rest' s t. (refl, (refl, s), λ a b e. then_next rest rest' t))

  fetched_same : (ops : List (Value N)) (ops' : List (Value M)) → SameValues R ops ops' → (i : Option Placed)
      → SameMove R S (fetched code f fs ops i) (fetched code g gs ops' i)
  fetched_same ops ops' o None = tt
  fetched_same ops ops' o (Some i) = act_same ops ops' o i.line i.instr

module _ {N M : Type 0} (R S : N → M → Type 0) (more : (a : N) (b : M) → R a b → S a b) (code : Code) where
  pub move_same : (c : Thread N) (d : Thread M) → SameThread R c d → SameMove R S (move code c) (move code d)
  move_same (Runs f fs ops) (Runs g gs ops') h =
      subst (λ (b : ℕ). SameMove R S (move code (Runs f fs ops)) (fetched code g gs ops' (slice_get code.places b))) h.0.place
      (fetched_same R S more code f g fs gs h.0 h.1 ops ops' h.2 (slice_get code.places f.place))
  move_same (Starting k this vs) (Starting k' that ws) h =
      subst (λ (j : ℕ). SameMove R S (move code (Starting k this vs)) (move code (Starting j that ws))) h.0 (
        refl,
        (refl, h.1, h.2),
        λ a b e. record {
          left = (
            record {
              this = value_later R S more this that h.1;
              vars = resized_same S (function_shape code.shapes k).vars a.values b.values e.values;
              place = refl;
              made = refl;
            },
            tt,
            tt,
          );
          branches = tt;
        },
      )
  move_same (Finished v) (Finished w) h = h
  move_same c d h = absurd h
