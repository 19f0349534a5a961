-- Lines, one behind the other.
use Rattle.std.proofs.Common.{◌≡◌, ℕ, suc, ◌+◌, ◌-◌, ◌<◌, ◌≤◌, List, [], ◌∷◌, ◌++◌, length, take, drop, sym, ap, ◌∙◌, arith, append_assoc, append-nil}
use Rattle.std.proofs.Math.Seq.{drop-cons}
use Rattle.std.specs.Prelude.{decimal}
use Rattle.cc_code.specs.Code.{Instr, Code}
use Rattle.stack_code.specs.View.{placed_at}
use Rattle.code_listing.specs.Listing.{instr_lines, instr_text, all_lines, function_lines}

-- the lines of the places from one to another
abbrev pub lines_between : Code → (b e : ℕ) → List ℕ
lines_between code b e = instr_lines b (take (e - b) (drop b code.places))

first_line : (code : Code) (b e : ℕ) → b < length code.places → b < e
    → lines_between code b e ≡ decimal b ++ 32 ∷ instr_text (placed_at code b).instr ++ 10 ∷ lines_between code (b + 1) e
first_line code b e lt below =
    let one : e - b ≡ suc (e - (b + 1)) = omega arith in
    let more : suc b ≡ b + 1 = omega arith in
    let split : drop b code.places ≡ placed_at code b ∷ drop (suc b) code.places = drop-cons code.places b _ lt in
    ap (λ n. instr_lines b (take n (drop b code.places))) one
    ∙ (ap (λ l. instr_lines b (take (suc (e - (b + 1))) l)) split
    ∙ ap (λ n. decimal b ++ 32 ∷ instr_text (placed_at code b).instr ++ 10 ∷ instr_lines n (take (e - (b + 1)) (drop n code.places))) more)

joined : (t d w r : List ℕ) → (t ++ d ++ 32 ∷ w ++ 10 ∷ []) ++ r ≡ t ++ (d ++ 32 ∷ w ++ 10 ∷ r)
joined t d w r = simp append_assoc

one_more : (t d w r l new all : List ℕ) → l ≡ d ++ 32 ∷ w ++ 10 ∷ r → new ≡ t ++ d ++ 32 ∷ w ++ 10 ∷ [] → t ++ l ≡ all → new ++ r ≡ all
one_more t d w r l new all first new_is so_far =
    ap (λ x. x ++ r) new_is ∙ (joined t d w r ∙ (ap (λ x. t ++ x) (sym first) ∙ so_far))

-- one line more
pub line_done : (code : Code) (b e : ℕ) (i : Instr) (text new all : List ℕ) → b < length code.places → b < e → i ≡ (placed_at code b).instr
    → new ≡ text ++ decimal b ++ 32 ∷ instr_text i ++ 10 ∷ [] → text ++ lines_between code b e ≡ all
    → new ++ lines_between code (b + 1) e ≡ all
line_done code b e i text new all lt below is new_is so_far =
    let rest = lines_between code (b + 1) e in
    let first : lines_between code b e ≡ decimal b ++ 32 ∷ instr_text i ++ 10 ∷ rest =
    first_line code b e lt below ∙ ap (λ (j : Instr). decimal b ++ 32 ∷ instr_text j ++ 10 ∷ rest) (sym is) in
    one_more text (decimal b) (instr_text i) rest (lines_between code b e) new all first new_is so_far

-- all lines are there
pub lines_end : (code : Code) (b e : ℕ) (text all : List ℕ) → e ≤ b → text ++ lines_between code b e ≡ all → text ≡ all
lines_end code b e text all le so_far =
    let none : e - b ≡ 0 = omega arith in
    sym (append-nil text) ∙ (ap (λ n. text ++ instr_lines b (take n (drop b code.places))) (sym none) ∙ so_far)

all_lines_more : (code : Code) (f n : ℕ) → f < n → all_lines code f (n - f) ≡ function_lines code f ++ all_lines code (f + 1) (n - (f + 1))
all_lines_more code f n lt =
    let one : n - f ≡ suc (n - (f + 1)) = omega arith in
    let next : suc f ≡ f + 1 = omega arith in
    ap (all_lines code f) one ∙ ap (λ g. function_lines code f ++ all_lines code g (n - (f + 1))) next

-- one function more
pub function_done : (code : Code) (f n : ℕ) (text new all : List ℕ) → f < n → new ≡ text ++ function_lines code f
    → text ++ all_lines code f (n - f) ≡ all → new ++ all_lines code (f + 1) (n - (f + 1)) ≡ all
function_done code f n text new all lt new_is so_far =
    ap (λ x. x ++ all_lines code (f + 1) (n - (f + 1))) new_is
    ∙ (append_assoc text (function_lines code f) (all_lines code (f + 1) (n - (f + 1)))
    ∙ (ap (λ x. text ++ x) (sym (all_lines_more code f n lt)) ∙ so_far))
