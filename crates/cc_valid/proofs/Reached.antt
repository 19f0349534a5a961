-- Where each instruction has a depth that fits it, each place is reached with that depth alone.
use Rattle.std.proofs.Common.{◌≡◌, ℕ, zero, suc, ◌+◌, ◌-◌, ◌<◌, List, [], ◌∷◌, length, map, get_or, cond, leb, Bool, true, false, Option, Some, None, refl, sym, ap, ◌∙◌, subst, arith}
use Rattle.std.specs.Prelude.{slice_get, Contains, nat_le}
use Rattle.std.proofs.lemmas.Bool.{le-leb, eq-eqb, true≢false}
use Rattle.cc_core.specs.Core.{Shapes}
use Rattle.cc_code.specs.Code.{Instr, PushI, ThisI, VariableI, FieldI, DropI, JumpI, EndI, IndexI, AtI, LoadI, StoreI, OpI, TestI, AndI}
use Rattle.cc_code.specs.Code.{OrI, MakeI, SetI, BuildI, NewI, NewObjectI, CallI, SpawnI, CellsI, RetI, ForkI, EachI, JoinI, PrintI}
use Rattle.cc_code.specs.Code.{Placed, Code}
use Rattle.cc_code.specs.Depth.{deeper, less}
use Rattle.cc_code.specs.declared.depth.Depth.{Depth}
use Rattle.cc_code.specs.declared.depth.Depth.TheVariants.{Exactly}
use Rattle.cc_code.specs.Depths.{Takes, AllZero, Flows, AllFlow, HaveDepths}
use Rattle.cc_code.specs.Valid.{Way, ways, taken, Reached, begins, follows, meet, suits, suits_at, IsBadDepth}

-- a way that leads to the place that it should, with that place's depth
abbrev Fits : (ℕ → ℕ) → Way → Type 0
Fits ds w = w.1 ≡ Exactly (ds w.0)

abbrev AllFit : (ℕ → ℕ) → List Way → Type 0
AllFit ds [] = Unit {0}
AllFit ds (w ∷ ws) = Fits ds w × AllFit ds ws

fit_at : (ds : ℕ → ℕ) (ws : List Way) (c : ℕ) (e : Depth) → AllFit ds ws → Contains ws (c, e) → e ≡ Exactly (ds c)
fit_at ds [] c e all (k, lt, is) = absurd (omega arith)
fit_at ds (w ∷ ws) c e all (zero, lt, is) =
    let to : w.0 ≡ c = ap (λ (v : Way). v.0) is in
    let at : w.1 ≡ e = ap (λ (v : Way). v.1) is in
    sym at ∙ (all.0 ∙ ap (λ n. Exactly (ds n)) to)
fit_at ds (w ∷ ws) c e all (suc k, lt, is) = fit_at ds ws c e all.1 (k, omega arith, is)

-- what is left where operands are taken
left_is : (m x : ℕ) (rest : Depth) (t : Bool) → cond t (Some (Exactly (x - m))) None ≡ Some rest → rest ≡ Exactly (x - m)
left_is m x rest true e = cc
left_is m x rest false e = cc

rest_is : (ds : ℕ → ℕ) (b m n : ℕ) (rest : Depth) → (t : Takes ds b m n) → less m (Exactly (ds b)) ≡ Some rest → rest ≡ Exactly t.0
rest_is ds b m n rest t e =
    let some : rest ≡ Exactly (ds b - m) = left_is m (ds b) rest (leb m (ds b)) e in
    let same : ds b - m ≡ t.0 = omega (arith, t.1) in
    some ∙ ap Exactly same

-- the next place has the depth that is left with what is given
on_next : (ds : ℕ → ℕ) (b m n : ℕ) (rest : Depth) → Takes ds b m n → less m (Exactly (ds b)) ≡ Some rest
    → deeper rest n ≡ Exactly (ds (suc b))
on_next ds b m n rest t e = ap (λ (r : Depth). deeper r n) (rest_is ds b m n rest t e) ∙ ap Exactly (sym t.2)

forks_fit : (ds : ℕ → ℕ) (targets : List ℕ) → AllZero ds targets → AllFit ds (map (λ to. (to, Exactly 0)) targets)
forks_fit ds [] z = tt
forks_fit ds (t ∷ ts) z = (ap Exactly (sym z.0), forks_fit ds ts z.1)

-- a branch goes on at the depth that is left, with what the target is given
goes_to : (ds : ℕ → ℕ) (b to m n k : ℕ) (rest : Depth) → (t : Takes ds b m n) → less m (Exactly (ds b)) ≡ Some rest
    → ds to ≡ t.0 + k → deeper rest k ≡ Exactly (ds to)
goes_to ds b to m n k rest t e at = ap (λ (r : Depth). deeper r k) (rest_is ds b m n rest t e) ∙ ap Exactly (sym at)

finds : (ds : ℕ → ℕ) (b m n : ℕ) → Takes ds b m n → nat_le m (ds b) ≡ true
finds ds b m n t = le-leb m (ds b) (omega (arith, t.1))

module _ (h : Shapes) (ds : ℕ → ℕ) where
  -- each way from an instruction fits
  ways_fit : (b : ℕ) (i : Instr) (rest : Depth) → Flows h ds b i → less (taken h i) (Exactly (ds b)) ≡ Some rest → AllFit ds (ways b i rest)
  ways_fit b (PushI c) rest f e = (on_next ds b _ _ rest f e, tt)
  ways_fit b ThisI rest f e = (on_next ds b _ _ rest f e, tt)
  ways_fit b (VariableI k) rest f e = (on_next ds b _ _ rest f e, tt)
  ways_fit b (FieldI o) rest f e = (on_next ds b _ _ rest f e, tt)
  ways_fit b DropI rest f e = (on_next ds b _ _ rest f e, tt)
  ways_fit b (JumpI to) rest f e =
      let same : ds b - 0 ≡ ds to = omega (arith, f) in (left_is 0 (ds b) rest (leb 0 (ds b)) e ∙ ap Exactly same, tt)
  ways_fit b EndI rest f e = tt
  ways_fit b (IndexI n) rest f e = (on_next ds b _ _ rest f e, tt)
  ways_fit b AtI rest f e = (on_next ds b _ _ rest f e, tt)
  ways_fit b (LoadI remote) rest f e = (on_next ds b _ _ rest f e, tt)
  ways_fit b (StoreI remote) rest f e = (on_next ds b _ _ rest f e, tt)
  ways_fit b (OpI op) rest f e = (on_next ds b _ _ rest f e, tt)
  ways_fit b (TestI to) rest f e =
      let same : f.0.0 ≡ ds to = omega (arith, f.0.2, f.1) in
      (on_next ds b _ _ rest f.0 e, (rest_is ds b _ _ rest f.0 e ∙ ap Exactly same, tt))
  ways_fit b (AndI to) rest f e =
      (on_next ds b _ _ rest f.0 e, (goes_to ds b to _ _ 1 rest f.0 e (omega (arith, f.0.2, f.1)), tt))
  ways_fit b (OrI to) rest f e =
      (on_next ds b _ _ rest f.0 e, (goes_to ds b to _ _ 1 rest f.0 e (omega (arith, f.0.2, f.1)), tt))
  ways_fit b (MakeI k kind n) rest f e = (on_next ds b _ _ rest f e, tt)
  ways_fit b (SetI k kind) rest f e = (on_next ds b _ _ rest f e, tt)
  ways_fit b (BuildI k c) rest f e = (on_next ds b _ _ rest f e, tt)
  ways_fit b (NewI kind n) rest f e = (on_next ds b _ _ rest f e, tt)
  ways_fit b (NewObjectI remote c) rest f e = (on_next ds b _ _ rest f e, tt)
  ways_fit b (CallI how g) rest f e = (on_next ds b _ _ rest f e, tt)
  ways_fit b (SpawnI how g) rest f e = (on_next ds b _ _ rest f e, tt)
  ways_fit b (CellsI n) rest f e = (on_next ds b _ _ rest f e, tt)
  ways_fit b RetI rest f e = tt
  ways_fit b (ForkI targets) rest f e = (on_next ds b _ _ rest f.0 e, forks_fit ds targets f.1)
  ways_fit b (EachI to k) rest f e = (on_next ds b _ _ rest f.0 e, (ap Exactly (sym f.1), tt))
  ways_fit b JoinI rest f e = (on_next ds b _ _ rest f e, tt)
  ways_fit b (PrintI parts) rest f e = (on_next ds b _ _ rest f e, tt)

  -- each instruction finds the operands that it wants
  suited : (b : ℕ) (i : Instr) → Flows h ds b i → suits h i (ds b) ≡ true
  suited b (PushI c) f = finds ds b _ _ f
  suited b ThisI f = finds ds b _ _ f
  suited b (VariableI k) f = finds ds b _ _ f
  suited b (FieldI o) f = finds ds b _ _ f
  suited b DropI f = finds ds b _ _ f
  suited b (JumpI to) f = le-leb 0 (ds b) (omega arith)
  suited b EndI f = eq-eqb (ds b) 0 f
  suited b (IndexI n) f = finds ds b _ _ f
  suited b AtI f = finds ds b _ _ f
  suited b (LoadI remote) f = finds ds b _ _ f
  suited b (StoreI remote) f = finds ds b _ _ f
  suited b (OpI op) f = finds ds b _ _ f
  suited b (TestI to) f = finds ds b _ _ f.0
  suited b (AndI to) f = finds ds b _ _ f.0
  suited b (OrI to) f = finds ds b _ _ f.0
  suited b (MakeI k kind n) f = finds ds b _ _ f
  suited b (SetI k kind) f = finds ds b _ _ f
  suited b (BuildI k c) f = finds ds b _ _ f
  suited b (NewI kind n) f = finds ds b _ _ f
  suited b (NewObjectI remote c) f = finds ds b _ _ f
  suited b (CallI how g) f = finds ds b _ _ f
  suited b (SpawnI how g) f = finds ds b _ _ f
  suited b (CellsI n) f = finds ds b _ _ f
  suited b RetI f = eq-eqb (ds b) 1 f
  suited b (ForkI targets) f = finds ds b _ _ f.0
  suited b (EachI to k) f = finds ds b _ _ f.0
  suited b JoinI f = finds ds b _ _ f
  suited b (PrintI parts) f = finds ds b _ _ f

  flows_at : (b : ℕ) (xs : List Placed) → AllFlow h ds b xs → (k : ℕ) (p : Placed) → slice_get xs k ≡ Some p → Flows h ds (b + k) p.instr
  flows_at b [] all k p is = cc
  flows_at b (x ∷ xs) all zero p is =
      let same : x ≡ p = cc in
      let here : b ≡ b + 0 = omega arith in
      subst (λ (n : ℕ). Flows h ds n p.instr) here (subst (λ (q : Placed). Flows h ds b q.instr) same all.0)
  flows_at b (x ∷ xs) all (suc k) p is =
      let here : suc b + k ≡ b + suc k = omega arith in
      subst (λ (n : ℕ). Flows h ds n p.instr) here (flows_at (suc b) xs all.1 k p is)

  zero_at : (es : List ℕ) (f : ℕ) → AllZero ds es → f < length es → ds (get_or es f 0) ≡ 0
  zero_at [] f z lt = absurd (omega arith)
  zero_at (e ∷ es) zero z lt = z.0
  zero_at (e ∷ es) (suc f) z lt = zero_at es f z.1 (omega arith)

module _ (code : Code) (ds : ℕ → ℕ) (flow : AllFlow code.shapes ds 0 code.places) (zeros : AllZero ds code.entries) where
  flows_here : (b : ℕ) (p : Placed) → slice_get code.places b ≡ Some p → Flows code.shapes ds b p.instr
  flows_here b p is =
      let here : 0 + b ≡ b = omega arith in
      subst (λ (n : ℕ). Flows code.shapes ds n p.instr) here (flows_at code.shapes ds 0 code.places flow b p is)

  reached_is : (b : ℕ) (d : Depth) → Reached code b d → d ≡ Exactly (ds b)
  reached_is b d (begins f lt) = ap Exactly (sym (zero_at code.shapes ds code.entries f zeros lt))
  reached_is c e (follows {b = b} {d = d} r l) =
      let found = subst (λ (x : Depth). less (taken code.shapes l.placed.instr) x ≡ Some l.rest) (reached_is b d r) l.finds in
      fit_at ds (ways b l.placed.instr l.rest) c e
      (ways_fit code.shapes ds b l.placed.instr l.rest (flows_here b l.placed l.stands) found) l.way
  reached_is b d (meet {d = x} {e = y} r q ne) = absurd (ne (reached_is b x r ∙ sym (reached_is b y q)))

  suited_at : (b : ℕ) (i : Option Placed) → slice_get code.places b ≡ i → suits_at code.shapes i (Exactly (ds b)) ≡ true
  suited_at b None is = refl
  suited_at b (Some p) is = suited code.shapes ds b p.instr (flows_here b p is)

  not_bad : (b : ℕ) → IsBadDepth code b → ⊥
  not_bad b (d, r, bad) =
      let good = subst (λ (x : Depth). suits_at code.shapes (slice_get code.places b) x ≡ true) (sym (reached_is b d r))
      (suited_at b (slice_get code.places b) refl) in
      true≢false (sym good ∙ bad)

pub no_bad_depth : (code : Code) → HaveDepths code → (b : ℕ) → IsBadDepth code b → ⊥
no_bad_depth code (ds, flow, zeros) b = not_bad code ds flow zeros b
