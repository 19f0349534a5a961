-- All functions of a program stand in its layout.
use Rattle.std.proofs.Common.{◌≡◌, ℕ, zero, suc, ◌+◌, ◌<◌, List, [], ◌∷◌, ◌++◌, length, false, Some, refl}
use Rattle.std.proofs.Common.{sym, ap, ◌∙◌, subst, arith}
use Rattle.std.specs.Prelude.{slice_get, get_or, map}
use Rattle.cc_core.specs.Core.{Function, Program, function, no_function, no_shape, Shapes, shapes}
use Rattle.cc_core.specs.Source.{AreStmts, IsProgram}
use Rattle.cc_code.specs.Code.{PushI, RetI, Placed, Code, entry}
use Rattle.cc_code.specs.Layout.{end_stmts, end_function, NoLoop, code_stmts, code_function, code_functions, entries, layout}
use Rattle.cc_code.specs.Stands.{Has, StmtsStand}
use Rattle.cc_code.specs.Agrees.{ProgramStands}
use Rattle.std.proofs.Common.{◌≤◌}
use Rattle.std.proofs.lemmas.Bool.{cases_lt}
use Rattle.std.proofs.lemmas.Option.{slice_get_past}
use Rattle.std.proofs.Common.{⊎_elim}
use Rattle.cc_code.specs.Settles.{Settles, stops, silent_to}
use Rattle.cc_follows.proofs.Settle.{Span, next, stop_at, go_at, stmts_settle}
use Rattle.cc_follows.proofs.Lays.{after, Lie, parts, ends, stmts_end, stmts_stand}

get_behind : (pre : List Placed) (x : Placed) (xs : List Placed) → slice_get (pre ++ x ∷ xs) (length pre) ≡ Some x
get_behind [] x xs = refl
get_behind (y ∷ pre) x xs = get_behind pre x xs

append_one : (pre : List Placed) (x : Placed) (xs : List Placed) → (pre ++ x ∷ []) ++ xs ≡ pre ++ x ∷ xs
append_one [] x xs = refl
append_one (y ∷ pre) x xs = ap (λ zs. y ∷ zs) (append_one pre x xs)

length_one : (pre : List Placed) (x : Placed) → length (pre ++ x ∷ []) ≡ suc (length pre)
length_one [] x = refl
length_one (y ∷ pre) x = ap suc (length_one pre x)

lies : (code : Code) (xs pre : List Placed) → code.places ≡ pre ++ xs → Lie code (length pre) xs
lies code [] pre e = tt
lies code (x ∷ xs) pre e = (
  ap (λ zs. slice_get zs (length pre)) e ∙ get_behind pre x xs,
  subst (λ n. Lie code n xs) (length_one pre x)
      (lies code xs (pre ++ x ∷ []) (e ∙ sym (append_one pre x xs))),
)

-- one function stands from a place on
record Laid (code : Code) (b : ℕ) (f : Function) : Type 0 where
  body : StmtsStand code f.shape.line NoLoop b f.body
  gives : Has code f.shape.line (end_stmts b f.body) (PushI f.default)
  leaves : Has code f.shape.line (suc (end_stmts b f.body)) RetI

at_function : (code : Code) (fs : List Function) (b g : ℕ) → g < length fs
    → ((k : ℕ) → k < length fs → AreStmts code.shapes false (get_or fs k no_function).body) → Lie code b (code_functions b fs)
    → Laid code (get_or (entries b fs) g 0) (get_or fs g no_function)
at_function code [] b g below s h = let e : g < 0 = below in absurd (omega arith)
at_function code (f ∷ fs) b zero below s h =
    let s0 : AreStmts code.shapes false f.body = s 0 below in
    let first = parts code b (end_function b f) (code_function b f) (code_functions (end_function b f) fs)
    (ends b _ _ (code_stmts f.shape.line NoLoop b f.body) _ (stmts_end code.shapes f.shape.line NoLoop b f.body s0) refl) h in
    let r = parts code b _ (code_stmts f.shape.line NoLoop b f.body) _ (stmts_end code.shapes f.shape.line NoLoop b f.body s0) first.0 in
    record { body = stmts_stand code f.shape.line NoLoop b f.body s0 r.0; gives = r.1.0; leaves = r.1.1.0 }
at_function code (f ∷ fs) b (suc g) below s h =
    let zero_below : 0 < length (f ∷ fs) = omega arith in
    let s0 : AreStmts code.shapes false f.body = s 0 zero_below in
    let first = parts code b (end_function b f) (code_function b f) (code_functions (end_function b f) fs)
    (ends b _ _ (code_stmts f.shape.line NoLoop b f.body) _ (stmts_end code.shapes f.shape.line NoLoop b f.body s0) refl) h in
    at_function code fs (end_function b f) g (omega arith) (λ k l. s (suc k) (omega arith)) first.1

shape_at : (fs : List Function) (g : ℕ) → get_or (map (λ (f : Function). f.shape) fs) g no_shape ≡ (get_or fs g no_function).shape
shape_at [] g = refl
shape_at (f ∷ fs) zero = refl
shape_at (f ∷ fs) (suc g) = shape_at fs g

length_shapes : (fs : List Function) → length (map (λ (f : Function). f.shape) fs) ≡ length fs
length_shapes [] = refl
length_shapes (f ∷ fs) = ap suc (length_shapes fs)

pub layout_stands : (p : Program) → IsProgram p → ProgramStands p (layout p)
layout_stands p s g below =
    let l : Laid (layout p) (entry (layout p) g) (function p g) = at_function (layout p) p.functions 0 g
    (subst (λ n. g < n) (length_shapes p.functions) below) s (lies (layout p) (code_functions 0 p.functions) [] refl) in
    record { shape = shape_at p.functions g; body = l.body; gives = l.gives; leaves = l.leaves }

-- silent moves come to an end at each place
abbrev end_functions : ℕ → List Function → ℕ
end_functions b [] = b
end_functions b (f ∷ fs) = end_functions (end_function b f) fs

after_length : (b : ℕ) (xs : List Placed) → after b xs ≡ b + length xs
after_length b [] = omega arith
after_length b (x ∷ xs) =
    let h = after_length (suc b) xs in
    let e : suc b + length xs ≡ b + suc (length xs) = omega arith in
    h ∙ e

abbrev pub Sources : (h : Shapes) → List Function → Type 0
Sources h fs = (k : ℕ) → k < length fs → AreStmts h false (get_or fs k no_function).body

functions_end : (h : Shapes) (fs : List Function) (b : ℕ) → Sources h fs → after b (code_functions b fs) ≡ end_functions b fs
functions_end h [] b s = refl
functions_end h (f ∷ fs) b s =
    let zero_below : 0 < length (f ∷ fs) = omega arith in
    let s0 : AreStmts h false f.body = s 0 zero_below in
    ends b (end_function b f) _ (code_function b f) _
    (ends b _ _ (code_stmts f.shape.line NoLoop b f.body) _ (stmts_end h f.shape.line NoLoop b f.body s0) refl)
    (functions_end h fs (end_function b f) (λ k l. s (suc k) (omega arith)))

functions_settle : (code : Code) (fs : List Function) (b : ℕ) → Sources code.shapes fs → Lie code b (code_functions b fs) → (c : ℕ)
    → b ≤ c → c < end_functions b fs → Settles code c
functions_settle code [] b s h c low high = absurd (omega arith)
functions_settle code (f ∷ fs) b s h c low high =
    let zero_below : 0 < length (f ∷ fs) = omega arith in
    let s0 : AreStmts code.shapes false f.body = s 0 zero_below in
    let line = f.shape.line in
    let first = parts code b (end_function b f) (code_function b f) (code_functions (end_function b f) fs)
    (ends b _ _ (code_stmts line NoLoop b f.body) _ (stmts_end code.shapes line NoLoop b f.body s0) refl) h in
    let r = parts code b _ (code_stmts line NoLoop b f.body) _ (stmts_end code.shapes line NoLoop b f.body s0) first.0 in
    let ret = stop_at code line _ _ r.1.1.0 refl in
    let span : Span code b (suc (end_stmts b f.body)) = next code b _
    (stmts_settle code f.body line NoLoop b (stmts_stand code line NoLoop b f.body s0 r.0) tt
    (go_at code line _ _ _ r.1.0 refl ret)) ret in
    ⊎_elim (λ (x : c < end_function b f). span.all c low (omega arith))
    (λ (x : end_function b f ≤ c). functions_settle code fs (end_function b f) (λ k l. s (suc k) (omega arith)) first.1 c x high)
    (cases_lt c (end_function b f))

pub layout_settles : (p : Program) → IsProgram p → (c : ℕ) → Settles (layout p) c
layout_settles p s c =
    let e = functions_end (shapes p) p.functions 0 s in
    let d = after_length 0 (code_functions 0 p.functions) in
    ⊎_elim (λ (x : c < end_functions 0 p.functions). functions_settle (layout p) p.functions 0 s
    (lies (layout p) (code_functions 0 p.functions) [] refl) c (omega arith) x)
    (λ (x : end_functions 0 p.functions ≤ c). stops
    (ap (silent_to c) (slice_get_past (code_functions 0 p.functions) c (omega (arith, e, d, x)))))
    (cases_lt c (end_functions 0 p.functions))
