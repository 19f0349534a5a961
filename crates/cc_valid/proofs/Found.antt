-- Each place of a layout stands in one function, and its instruction leads to places of this function alone.
use Rattle.std.proofs.Common.{◌≡◌, ℕ, zero, suc, ◌+◌, ◌<◌, ◌≤◌, List, [], ◌∷◌, length, map, get_or, cond, leb, Bool, false, Some, refl, ap, ◌∙◌, subst, arith}
use Rattle.std.specs.Prelude.{count_by, nat_le, slice_get}
use Rattle.std.proofs.lemmas.List.Sums.{sum_by-cons}
use Rattle.std.proofs.lemmas.Bool.{le-leb, lt-leb}
use Rattle.cc_core.specs.Core.{Function, no_function, no_shape, Shapes}
use Rattle.cc_core.specs.Source.{AreStmts}
use Rattle.cc_code.specs.Code.{Instr, Placed}
use Rattle.cc_code.specs.Layout.{end_function, NoLoop, code_stmts, code_function, code_functions, entries}
use Rattle.cc_follows.proofs.Lays.{after, ends, stmts_end}
use Rattle.cc_valid.specs.Ranges.{FunctionInRange}
use Rattle.cc_valid.proofs.Aims.{EachInstr, each_both, Aims, after_up, stmts_up, stmts_aim, plain, ends_there}

abbrev pub end_functions : ℕ → List Function → ℕ
end_functions b [] = b
end_functions b (f ∷ fs) = end_functions (end_function b f) fs

-- each function is one that the front end makes
abbrev pub Sources : Shapes → List Function → Type 0
Sources h fs = (k : ℕ) → k < length fs
    → AreStmts h false (get_or fs k no_function).body × FunctionInRange (length h.classes) (get_or fs k no_function)

-- how many functions begin at a place or before
abbrev pub begun : ℕ → List Function → ℕ → ℕ
begun b fs c = count_by (λ e. nat_le e c) (entries b fs)

-- the function that a place stands in: its number, and where it stands
pub record Found (h : Shapes) (fs : List Function) (b c : ℕ) (i : Instr) : Type 0 where
  pub number : ℕ
  pub low : ℕ
  pub high : ℕ
  pub from : b ≤ low
  pub up : high ≤ end_functions b fs
  pub only : (d : ℕ) → low ≤ d → d < high → begun b fs d ≡ suc number
  pub stands : (low ≤ c) × (c < high)
  pub aims : Aims h (get_or fs number no_function).shape low high c i

each_map : (P Q : ℕ → Instr → Type 0) (b : ℕ) (xs : List Placed)
    → ((c : ℕ) (i : Instr) → b ≤ c → c < after b xs → P c i → Q c i) → EachInstr P b xs → EachInstr Q b xs
each_map P Q b [] go all = tt
each_map P Q b (x ∷ xs) go all =
    let more : suc b ≤ after (suc b) xs = after_up (suc b) xs in
    (go b x.instr (omega arith) (omega (arith, more)) all.0, each_map P Q (suc b) xs (λ c i lo up p. go c i (omega arith) up p) all.1)

each_at : (P : ℕ → Instr → Type 0) (b : ℕ) (xs : List Placed) → EachInstr P b xs → (k : ℕ) (p : Placed) → slice_get xs k ≡ Some p
    → P (b + k) p.instr
each_at P b [] all k p is = cc
each_at P b (x ∷ xs) all zero p is =
    let same : x ≡ p = cc in
    let here : b ≡ b + 0 = omega arith in
    subst (λ (n : ℕ). P n p.instr) here (subst (λ (q : Placed). P b q.instr) same all.0)
each_at P b (x ∷ xs) all (suc k) p is =
    let here : suc b + k ≡ b + suc k = omega arith in
    subst (λ (n : ℕ). P n p.instr) here (each_at P (suc b) xs all.1 k p is)

function_up : (h : Shapes) (b : ℕ) (f : Function) → AreStmts h false f.body → b < end_function b f
function_up h b f s = let up = stmts_up h NoLoop b f.body s in omega (arith, up)

functions_up : (h : Shapes) (fs : List Function) (b : ℕ) → Sources h fs → b ≤ end_functions b fs
functions_up h [] b s = omega arith
functions_up h (f ∷ fs) b s =
    let one = function_up h b f (s 0 (omega arith)).0 in
    let more = functions_up h fs (end_function b f) (λ k lt. s (suc k) (omega arith)) in
    omega (arith, one, more)

function_end : (h : Shapes) (b : ℕ) (f : Function) → AreStmts h false f.body → after b (code_function b f) ≡ end_function b f
function_end h b f s = ends b _ _ (code_stmts f.shape.line NoLoop b f.body) _ (stmts_end h f.shape.line NoLoop b f.body s) refl

function_aims : (h : Shapes) (b : ℕ) (f : Function) → AreStmts h false f.body → FunctionInRange (length h.classes) f
    → EachInstr (Aims h f.shape b (end_function b f)) b (code_function b f)
function_aims h b f s r =
    let line = f.shape.line in
    let high = end_function b f in
    each_both (Aims h f.shape b high) b _ (code_stmts line NoLoop b f.body) _ (stmts_end h line NoLoop b f.body s)
    (stmts_aim h f.shape b high line NoLoop b f.body s r.body tt (omega arith) (omega arith)) (
      plain h f.shape b high _ _ refl refl refl (omega arith),
      (ends_there h f.shape b high _ _ refl refl refl, tt),
    )

counted_yes : (e c : ℕ) (es : List ℕ) → e ≤ c → count_by (λ x. nat_le x c) (e ∷ es) ≡ suc (count_by (λ x. nat_le x c) es)
counted_yes e c es le =
    let counted : count_by (λ x. nat_le x c) (e ∷ es) ≡ 1 + count_by (λ x. nat_le x c) es =
    sum_by-cons (λ x. cond (leb x c) 1 0) e es ∙ ap (λ (b : Bool). cond b 1 0 + count_by (λ x. nat_le x c) es) (le-leb e c le) in
    omega (arith, counted)

counted_no : (e c : ℕ) (es : List ℕ) → c < e → count_by (λ x. nat_le x c) (e ∷ es) ≡ count_by (λ x. nat_le x c) es
counted_no e c es lt =
    let counted : count_by (λ x. nat_le x c) (e ∷ es) ≡ 0 + count_by (λ x. nat_le x c) es =
    sum_by-cons (λ x. cond (leb x c) 1 0) e es ∙ ap (λ (b : Bool). cond b 1 0 + count_by (λ x. nat_le x c) es) (lt-leb e c lt) in
    omega (arith, counted)

-- before the first of some functions none of them has begun
begun_before : (h : Shapes) (fs : List Function) (b c : ℕ) → Sources h fs → c < b → begun b fs c ≡ 0
begun_before h [] b c s lt = refl
begun_before h (f ∷ fs) b c s lt =
    let one = function_up h b f (s 0 (omega arith)).0 in
    counted_no b c (entries (end_function b f) fs) lt
    ∙ begun_before h fs (end_function b f) c (λ k l. s (suc k) (omega arith)) (omega (arith, one))

-- found among the functions behind the first one
found_later : (h : Shapes) (f : Function) (fs : List Function) (b c : ℕ) (i : Instr) → b < end_function b f
    → Found h fs (end_function b f) c i → Found h (f ∷ fs) b c i
found_later h f fs b c i one r = record {
  number = suc r.number;
  low = r.low;
  high = r.high;
  from = omega (arith, one, r.from);
  up = r.up;
  only = λ d lo up. counted_yes b d (entries (end_function b f) fs) (omega (arith, one, r.from, lo)) ∙ ap suc (r.only d lo up);
  stands = r.stands;
  aims = r.aims;
}

pub functions_found : (h : Shapes) (fs : List Function) (b : ℕ) → Sources h fs → EachInstr (Found h fs b) b (code_functions b fs)
functions_found h [] b s = tt
functions_found h (f ∷ fs) b s =
    let s0 = s 0 (omega arith) in
    let high = end_function b f in
    let one = function_up h b f s0.0 in
    let at_end = function_end h b f s0.0 in
    let rest : Sources h fs = λ k lt. s (suc k) (omega arith) in
    let more = functions_up h fs high rest in
    each_both (Found h (f ∷ fs) b) b high (code_function b f) (code_functions high fs) at_end
    (each_map (Aims h f.shape b high) (Found h (f ∷ fs) b) b (code_function b f) (λ c i lo up aims. record {
      number = 0;
      low = b;
      high = high;
      from = omega arith;
      up = more;
      only = λ d from below. counted_yes b d (entries high fs) from ∙ ap suc (begun_before h fs high d rest below);
      stands = (lo, omega (arith, up, at_end));
      aims = aims;
    }) (function_aims h b f s0.0 s0.1))
    (each_map (Found h fs high) (Found h (f ∷ fs) b) high (code_functions high fs) (λ c i lo up r. found_later h f fs b c i one r)
    (functions_found h fs high rest))

-- the end of a layout
pub functions_end : (h : Shapes) (fs : List Function) (b : ℕ) → Sources h fs → after b (code_functions b fs) ≡ end_functions b fs
functions_end h [] b s = refl
functions_end h (f ∷ fs) b s =
    ends b (end_function b f) _ (code_function b f) _ (function_end h b f (s 0 (omega arith)).0)
    (functions_end h fs (end_function b f) (λ k l. s (suc k) (omega arith)))

after_length : (b : ℕ) (xs : List Placed) → after b xs ≡ b + length xs
after_length b [] = omega arith
after_length b (x ∷ xs) =
    let more = after_length (suc b) xs in
    let e : suc b + length xs ≡ b + suc (length xs) = omega arith in
    more ∙ e

pub layout_length : (h : Shapes) (fs : List Function) → Sources h fs → length (code_functions 0 fs) ≡ end_functions 0 fs
layout_length h fs s =
    let a = after_length 0 (code_functions 0 fs) in
    let e = functions_end h fs 0 s in
    omega (arith, a, e)

-- a function begins before the next one, and the last one before the end
first_entry : (fs : List Function) (b : ℕ) → get_or (entries b fs) 0 (end_functions b fs) ≡ b
first_entry [] b = refl
first_entry (f ∷ fs) b = refl

pub entry_below : (h : Shapes) (fs : List Function) (b k : ℕ) → Sources h fs → k < length (entries b fs)
    → get_or (entries b fs) k 0 < get_or (entries b fs) (suc k) (end_functions b fs)
entry_below h [] b k s lt = absurd (omega arith)
entry_below h (f ∷ fs) b zero s lt =
    let one = function_up h b f (s 0 (omega arith)).0 in
    let next = first_entry fs (end_function b f) in
    omega (arith, one, next)
entry_below h (f ∷ fs) b (suc k) s lt = entry_below h fs (end_function b f) k (λ j l. s (suc j) (omega arith)) (omega arith)

pub shape_at : (fs : List Function) (g : ℕ) → get_or (map (λ (f : Function). f.shape) fs) g no_shape ≡ (get_or fs g no_function).shape
shape_at [] g = refl
shape_at (f ∷ fs) zero = refl
shape_at (f ∷ fs) (suc g) = shape_at fs g

-- the function of a place of a layout
pub place_found : (h : Shapes) (fs : List Function) (b : ℕ) (i : Placed) → Sources h fs → slice_get (code_functions 0 fs) b ≡ Some i
    → Found h fs 0 b i.instr
place_found h fs b i s is =
    let r = each_at (Found h fs 0) 0 (code_functions 0 fs) (functions_found h fs 0 s) b i is in
    let here : 0 + b ≡ b = omega arith in
    subst (λ (c : ℕ). Found h fs 0 c i.instr) here r
