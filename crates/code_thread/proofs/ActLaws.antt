-- What an instruction does, by whether it finds the operands that it takes.
use Rattle.std.proofs.Common.{◌≡◌, ℕ, zero, suc, ◌<◌, ◌≤◌, List, [], ◌∷◌, ◌++◌, length, take, drop, Option, Some, None, refl, sym, ap, ◌∙◌, arith}
use Rattle.std.specs.Prelude.{reverse}
use Rattle.std.proofs.lemmas.List.{reverse-append}
use Rattle.cc_ops.specs.Values.{Value, first, second}
use Rattle.cc_ops.specs.Operators.{takes}
use Rattle.cc_core.specs.Core.{class_shape}
use Rattle.cc_core.specs.Source.{operands, values}
use Rattle.cc_code.specs.Code.{Instr, PushI, ThisI, VariableI, FieldI, DropI, JumpI, EndI, IndexI, AtI, LoadI, StoreI, OpI, TestI, AndI}
use Rattle.cc_code.specs.Code.{OrI, MakeI, SetI, BuildI, NewI, NewObjectI, CallI, SpawnI, CellsI, RetI, ForkI, EachI, JoinI, PrintI}
use Rattle.cc_code.specs.Code.{Code, Frame, Move, Stuck, popped, with_popped, top_one, top_two, act}
use Rattle.cc_code.specs.Valid.{taken}
use Rattle.code_thread.specs.Stacks.{topmost}
use Rattle.code_thread.specs.Acts.{acts_on}

module _ {N : Type 0} where
  turned : (v : Value N) (vs got : List (Value N)) → reverse vs ++ v ∷ got ≡ reverse (v ∷ vs) ++ got
  turned v vs got =
      sym (ap (λ (us : List (Value N)). us ++ got) (reverse-append (v ∷ []) vs) ∙ shifted (reverse vs))
    where
      shifted : (us : List (Value N)) → (us ++ v ∷ []) ++ got ≡ us ++ v ∷ got
      shifted [] = refl
      shifted (u ∷ us) = ap (λ (ws : List (Value N)). u ∷ ws) (shifted us)

  abbrev found : (vs rest : List (Value N)) → Option (List (Value N) × List (Value N))
  found vs rest = Some (vs, rest)

  -- so many operands are taken where there are as many
  popped_found : (n : ℕ) (ops got : List (Value N)) → n ≤ length ops → popped n ops got ≡ found (topmost n ops ++ got) (drop n ops)
  popped_found zero ops got h = refl
  popped_found (suc n) [] got h = absurd (omega (arith, h))
  popped_found (suc n) (v ∷ ops) got h =
      popped_found n ops (v ∷ got) (omega (arith, h)) ∙ ap (λ (vs : List (Value N)). found vs (drop n ops)) (turned v (take n ops) got)

  popped_wanting : (n : ℕ) (ops got : List (Value N)) → length ops < n → popped n ops got ≡ None
  popped_wanting zero ops got h = absurd (omega (arith, h))
  popped_wanting (suc n) [] got h = refl
  popped_wanting (suc n) (v ∷ ops) got h = popped_wanting n ops (v ∷ got) (omega (arith, h))

  nothing_more : (vs : List (Value N)) → vs ++ [] ≡ vs
  nothing_more [] = refl
  nothing_more (v ∷ vs) = ap (λ (ws : List (Value N)). v ∷ ws) (nothing_more vs)

  found_all : (n : ℕ) (ops : List (Value N)) (go : List (Value N) → List (Value N) → Move N) → n ≤ length ops
      → with_popped (popped n ops []) go ≡ go (topmost n ops) (drop n ops)
  found_all n ops go h =
      ap (λ (p : Option (List (Value N) × List (Value N))). with_popped p go)
      (popped_found n ops [] h ∙ ap (λ (vs : List (Value N)). found vs (drop n ops)) (nothing_more (topmost n ops)))

  wanting_all : (n : ℕ) (ops : List (Value N)) (go : List (Value N) → List (Value N) → Move N) → length ops < n
      → with_popped (popped n ops []) go ≡ Stuck
  wanting_all n ops go h = ap (λ (p : Option (List (Value N) × List (Value N))). with_popped p go) (popped_wanting n ops [] h)

  found_one : (ops : List (Value N)) (go : Value N → List (Value N) → Move N) → 1 ≤ length ops
      → top_one ops go ≡ go (first (topmost 1 ops)) (drop 1 ops)
  found_one [] go h = absurd (omega (arith, h))
  found_one (v ∷ ops) go h = refl

  wanting_one : (ops : List (Value N)) (go : Value N → List (Value N) → Move N) → length ops < 1 → top_one ops go ≡ Stuck
  wanting_one [] go h = refl
  wanting_one (v ∷ ops) go h = absurd (omega (arith, h))

  found_two : (ops : List (Value N)) (go : Value N → Value N → List (Value N) → Move N) → 2 ≤ length ops
      → top_two ops go ≡ go (first (topmost 2 ops)) (second (topmost 2 ops)) (drop 2 ops)
  found_two [] go h = absurd (omega (arith, h))
  found_two (v ∷ []) go h = absurd (omega (arith, h))
  found_two (v ∷ w ∷ ops) go h = refl

  wanting_two : (ops : List (Value N)) (go : Value N → Value N → List (Value N) → Move N) → length ops < 2 → top_two ops go ≡ Stuck
  wanting_two [] go h = refl
  wanting_two (v ∷ []) go h = refl
  wanting_two (v ∷ w ∷ ops) go h = absurd (omega (arith, h))

module _ {N : Type 0} (code : Code) (f : Frame N) (fs : List (Frame N)) (ops : List (Value N)) (n : ℕ) where
  -- an instruction that finds its operands
  pub act_found : (i : Instr) → taken code.shapes i ≤ length ops
      → act code f fs ops n i ≡ acts_on code f fs (topmost (taken code.shapes i) ops) (drop (taken code.shapes i) ops) n i
  act_found (PushI c) h = refl
  act_found ThisI h = refl
  act_found (VariableI k) h = refl
  act_found (FieldI o) h = found_one ops _ h
  act_found DropI h = found_one ops _ h
  act_found (JumpI to) h = refl
  act_found EndI h = refl
  act_found (IndexI size) h = found_two ops _ h
  act_found AtI h = found_two ops _ h
  act_found (LoadI remote) h = found_one ops _ h
  act_found (StoreI remote) h = found_two ops _ h
  act_found (OpI op) h = found_all (takes op) ops _ h
  act_found (TestI to) h = found_one ops _ h
  act_found (AndI to) h = found_one ops _ h
  act_found (OrI to) h = found_one ops _ h
  act_found (MakeI k kind size) h = refl
  act_found (SetI k kind) h = found_one ops _ h
  act_found (BuildI k c) h = found_all (class_shape code.shapes c).params ops _ h
  act_found (NewI kind size) h = refl
  act_found (NewObjectI remote c) h = found_all (class_shape code.shapes c).params ops _ h
  act_found (CallI how g) h = found_all (operands code.shapes how g) ops _ h
  act_found (SpawnI how g) h = found_all (operands code.shapes how g) ops _ h
  act_found (CellsI size) h = found_one ops _ h
  act_found RetI h = found_one ops _ h
  act_found (ForkI targets) h = refl
  act_found (EachI to k) h = refl
  act_found JoinI h = refl
  act_found (PrintI parts) h = found_all (values parts) ops _ h

  -- one whose operands are not all there
  pub act_wanting : (i : Instr) → length ops < taken code.shapes i → act code f fs ops n i ≡ Stuck
  act_wanting (FieldI o) h = wanting_one ops _ h
  act_wanting DropI h = wanting_one ops _ h
  act_wanting (IndexI size) h = wanting_two ops _ h
  act_wanting AtI h = wanting_two ops _ h
  act_wanting (LoadI remote) h = wanting_one ops _ h
  act_wanting (StoreI remote) h = wanting_two ops _ h
  act_wanting (OpI op) h = wanting_all (takes op) ops _ h
  act_wanting (TestI to) h = wanting_one ops _ h
  act_wanting (AndI to) h = wanting_one ops _ h
  act_wanting (OrI to) h = wanting_one ops _ h
  act_wanting (SetI k kind) h = wanting_one ops _ h
  act_wanting (BuildI k c) h = wanting_all (class_shape code.shapes c).params ops _ h
  act_wanting (NewObjectI remote c) h = wanting_all (class_shape code.shapes c).params ops _ h
  act_wanting (CallI how g) h = wanting_all (operands code.shapes how g) ops _ h
  act_wanting (SpawnI how g) h = wanting_all (operands code.shapes how g) ops _ h
  act_wanting (CellsI size) h = wanting_one ops _ h
  act_wanting RetI h = wanting_one ops _ h
  act_wanting (PrintI parts) h = wanting_all (values parts) ops _ h
  act_wanting i h = absurd (omega (arith, h))
