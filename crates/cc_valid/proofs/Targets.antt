-- A layout has no bad target.
use Rattle.std.proofs.Common.{◌≡◌, ℕ, suc, ◌-◌, ◌≤◌, List, [], ◌∷◌, length, get_or, Bool, true, false, Option, Some, None, refl, sym, ap, ◌∙◌, subst, arith, inl, inr}
use Rattle.std.specs.Prelude.{slice_get, if◌then◌else◌}
use Rattle.std.specs.List.{list_all}
use Rattle.std.proofs.lemmas.Bool.{lt-ltb, eq-eqb, and_from, true≢false}
use Rattle.cc_core.specs.Core.{Program, Function, no_function, shapes, function_shape}
use Rattle.cc_core.specs.Source.{IsProgram}
use Rattle.cc_code.specs.Code.{Instr, Code}
use Rattle.cc_code.specs.Layout.{entries, layout}
use Rattle.cc_code.specs.Settles.{silent_to, Settles, stops, goes}
use Rattle.cc_code.specs.Valid.{in_range, goes_on, targets_of, function_at, same_function, stays, well_aimed, IsMisaimed, IsEmptyEntry}
use Rattle.cc_code.specs.Valid.{LeadsSilently, step, steps, IsCircle, IsBadTarget}
use Rattle.cc_follows.proofs.Program.{layout_settles}
use Rattle.cc_valid.specs.Ranges.{InRange}
use Rattle.cc_valid.proofs.Aims.{Between, AllBetween, GoesBelow}
use Rattle.cc_valid.proofs.Found.{Sources, Found, begun, end_functions, layout_length, entry_below, shape_at, place_found}

sources : (p : Program) → IsProgram p → InRange p → Sources (shapes p) p.functions
sources p s r k lt = (s k lt, r k lt)

number_of : (fs : List Function) (k b : ℕ) → begun 0 fs b ≡ suc k → begun 0 fs b - 1 ≡ k
number_of fs k b is = omega (arith, is)

-- a place between the ends of the function that another one stands in is one of its function's
same : (p : Program) (b : ℕ) (i : Instr) → IsProgram p → InRange p → (x : Found (shapes p) p.functions 0 b i) → (c : ℕ)
    → Between x.low x.high c → same_function (layout p) b c ≡ true
same p b i s r x c at =
    let code = layout p in
    let size = layout_length (shapes p) p.functions (sources p s r) in
    let of_b = number_of p.functions x.number b (x.only b x.stands.0 x.stands.1) in
    let of_c = number_of p.functions x.number c (x.only c at.0 at.1) in
    and_from _ _ (lt-ltb c (length code.places) (omega (arith, at.1, x.up, size))) (eq-eqb _ _ (of_c ∙ sym of_b))

all_same : (code : Code) (b low high : ℕ) (cs : List ℕ) → ((c : ℕ) → Between low high c → same_function code b c ≡ true)
    → AllBetween low high cs → list_all (same_function code b) cs ≡ true
all_same code b low high [] go all = refl
all_same code b low high (c ∷ cs) go all = and_from _ _ (go c all.0) (all_same code b low high cs go all.1)

next_same : (code : Code) (b low high : ℕ) (on : Bool) → low ≤ b → ((c : ℕ) → Between low high c → same_function code b c ≡ true)
    → GoesBelow on high b → (if on then same_function code b (suc b) else true) ≡ true
next_same code b low high true lo go up = go (suc b) (omega (arith, lo), up)
next_same code b low high false lo go up = refl

no_misaimed : (p : Program) → IsProgram p → InRange p → (b : ℕ) → IsMisaimed (layout p) b → ⊥
no_misaimed p s r b (i, is, bad) =
    let code = layout p in
    let x = place_found (shapes p) p.functions b i (sources p s r) is in
    let go = same p b i.instr s r x in
    let number = number_of p.functions x.number b (x.only b x.stands.0 x.stands.1) in
    let shape : function_shape code.shapes (function_at code b) ≡ (get_or p.functions x.number no_function).shape =
    ap (function_shape code.shapes) number ∙ shape_at p.functions x.number in
    let ranges : in_range code.shapes (function_shape code.shapes (function_at code b)) i.instr ≡ true =
    ap (λ f. in_range code.shapes f i.instr) shape ∙ x.aims.ranges in
    let stay : stays code b i.instr ≡ true =
    and_from _ _ (next_same code b x.low x.high (goes_on i.instr) x.stands.0 go x.aims.next)
    (all_same code b x.low x.high (targets_of i.instr) go x.aims.leads) in
    let good : well_aimed code b i.instr ≡ true = and_from _ _ ranges stay in
    true≢false (sym good ∙ bad)

no_empty_entry : (p : Program) → IsProgram p → InRange p → (b : ℕ) → IsEmptyEntry (layout p) b → ⊥
no_empty_entry p s r b (f, lt, begins, ends) =
    let size = layout_length (shapes p) p.functions (sources p s r) in
    let less = entry_below (shapes p) p.functions 0 f (sources p s r) lt in
    let end : get_or (entries 0 p.functions) (suc f) (end_functions 0 p.functions) ≡ b =
    ap (get_or (entries 0 p.functions) (suc f)) (sym size) ∙ ends in
    absurd (omega (arith, less, begins, end))

-- from a place that settles silent instructions do not lead back to it

abbrev value : Option ℕ → ℕ
value None = 0
value (Some c) = c

behind_step : (code : Code) (a b c : ℕ) → LeadsSilently code a b → silent_to b (slice_get code.places b) ≡ Some c → LeadsSilently code a c
behind_step code a b c (step e) n = steps e (step n)
behind_step code a b c (steps e l) n = steps e (behind_step code _ b c l n)

round_next : (code : Code) (b c : ℕ) → LeadsSilently code b b → silent_to b (slice_get code.places b) ≡ Some c → LeadsSilently code c c
round_next code b c (step e) n =
    let same : b ≡ c = ap value (sym e ∙ n) in subst (λ (x : ℕ). LeadsSilently code x x) same (step e)
round_next code b c (steps {c = d} e l) n =
    let same : d ≡ c = ap value (sym e ∙ n) in behind_step code c b c (subst (λ (x : ℕ). LeadsSilently code x b) same l) n

no_stop : (code : Code) (b : ℕ) → LeadsSilently code b b → silent_to b (slice_get code.places b) ≡ None → ⊥
no_stop code b (step e) n = cc
no_stop code b (steps e l) n = cc

no_round : (code : Code) (b : ℕ) → Settles code b → LeadsSilently code b b → ⊥
no_round code b (stops e) l = no_stop code b l e
no_round code b (goes {c = c} e s) l = no_round code c s (round_next code b c l e)

no_circle : (p : Program) → IsProgram p → (b : ℕ) → IsCircle (layout p) b → ⊥
no_circle p s b (line, to, has, leads) = no_round (layout p) b (layout_settles p s b) leads

pub no_bad_target : (p : Program) → IsProgram p → InRange p → (b : ℕ) → IsBadTarget (layout p) b → ⊥
no_bad_target p s r b (inl empty) = no_empty_entry p s r b empty
no_bad_target p s r b (inr (inl misaimed)) = no_misaimed p s r b misaimed
no_bad_target p s r b (inr (inr circle)) = no_circle p s b circle
