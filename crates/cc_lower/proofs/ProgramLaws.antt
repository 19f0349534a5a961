-- The code that is made is the layout of a whole program.
use Rattle.std.proofs.Common.{◌≡◌, ℕ, suc, ◌<◌, List, [], ◌∷◌, ◌++◌, length, map, get_or, false, refl, sym, ap, ◌∙◌, subst, arith, append_assoc, append-nil}
use Rattle.cc_ops.specs.Classes.{ClassShape}
use Rattle.cc_ops.specs.declared.shape.FunShape.{FunShape}
use Rattle.cc_ops.specs.Shapes.{shape_of}
use Rattle.cc_ops.specs.declared.shape.ClassShape.{ClassShape as ClassShape'}
use Rattle.cc_core.specs.Core.{Function, Shapes, shapes, no_function}
use Rattle.cc_core.specs.Source.{AreStmts, IsProgram}
use Rattle.cc_core.specs.View.{function_of, program_of}
use Rattle.cc_core.specs.declared.program.Function.{Function as TextFunction}
use Rattle.cc_core.specs.declared.program.Program.{Program as TextProgram}
use Rattle.cc_code.specs.Code.{PushI, RetI, Placed, Code}
use Rattle.cc_code.specs.Layout.{placed, NoLoop, code_stmts, code_function, end_function, code_functions, entries, layout}
use Rattle.cc_code.specs.Valid.{IsValid}
use Rattle.cc_valid.specs.Ranges.{InRange}
use Rattle.cc_valid.proofs.Law.{layout_is_valid}
use Rattle.cc_follows.proofs.Lays.{after, ends, stmts_end}
use Rattle.stack_code.specs.View.{empty_code, with_function}
use Rattle.cc_lower.specs.Emitted.{put, here, emitted_stmts, emitted_function, emitted_functions, emitted_classes, with_shape}
use Rattle.cc_lower.proofs.Pieces.{behind, regroup, here_behind, last}
use Rattle.cc_lower.proofs.EmittedLaws.{stmts_is}

-- the code with these functions behind it
abbrev with_functions : Code → List Function → Code
with_functions c fs = record {
  places = c.places ++ code_functions (here c) fs;
  entries = c.entries ++ entries (here c) fs;
  shapes = record { functions = c.shapes.functions ++ map (λ (f : Function). f.shape) fs; classes = c.shapes.classes };
}

abbrev code_by : List ClassShape → List Placed → List ℕ → List FunShape → Code
code_by classes places entries functions = record { places = places; entries = entries; shapes = record { functions = functions; classes = classes } }

abbrev Sources : Shapes → List Function → Type 0
Sources h [] = Unit {0}
Sources h (f ∷ fs) = AreStmts h false f.body × Sources h fs

module _ (h : Shapes) where
  function_is : (f : Function) (c : Code) → AreStmts h false f.body → emitted_function c f ≡ behind (with_function c f.shape) (code_function (here c) f)
  function_is f c s =
      let d = with_function c f.shape in
      let line = f.shape.line in
      let body = code_stmts line NoLoop (here c) f.body in
      let ended = put (emitted_stmts d line NoLoop f.body) line (PushI f.default) in
      last d ended (body ++ placed line (PushI f.default)) line RetI
      (last d (emitted_stmts d line NoLoop f.body) body line (PushI f.default) (stmts_is h line NoLoop f.body d s))
      ∙ regroup d body (placed line (PushI f.default)) (placed line RetI)

  function_end : (f : Function) (b : ℕ) → AreStmts h false f.body → after b (code_function b f) ≡ end_function b f
  function_end f b s = ends b _ _ (code_stmts f.shape.line NoLoop b f.body) _ (stmts_end h f.shape.line NoLoop b f.body s) refl

  functions_are : (fs : List Function) (c : Code) → Sources h fs → emitted_functions c fs ≡ with_functions c fs
  functions_are [] c s =
      ap (λ l. code_by c.shapes.classes l c.entries c.shapes.functions) (sym (append-nil c.places))
      ∙ (ap (λ l. code_by c.shapes.classes (c.places ++ []) l c.shapes.functions) (sym (append-nil c.entries))
      ∙ ap (code_by c.shapes.classes (c.places ++ []) (c.entries ++ [])) (sym (append-nil c.shapes.functions)))
  functions_are (f ∷ fs) c s =
      let b = here c in
      let cf = code_function b f in
      let d = behind (with_function c f.shape) cf in
      let at : here d ≡ end_function b f = here_behind (with_function c f.shape) cf ∙ function_end f b s.0 in
      let rest = code_functions (end_function b f) fs in
      let starts = entries (end_function b f) fs in
      let names = map (λ (g : Function). g.shape) fs in
      functions_are fs (emitted_function c f) s.1
      ∙ (ap (λ x. with_functions x fs) (function_is f c s.0)
      ∙ (ap (λ (m : ℕ). code_by c.shapes.classes ((c.places ++ cf) ++ code_functions m fs) ((c.entries ++ b ∷ []) ++ entries m fs)
      ((c.shapes.functions ++ f.shape ∷ []) ++ names)) at
      ∙ (ap (λ l. code_by c.shapes.classes l ((c.entries ++ b ∷ []) ++ starts) ((c.shapes.functions ++ f.shape ∷ []) ++ names)) (append_assoc c.places cf rest)
      ∙ (ap (λ l. code_by c.shapes.classes (c.places ++ (cf ++ rest)) l ((c.shapes.functions ++ f.shape ∷ []) ++ names)) (append_assoc c.entries (b ∷ []) starts)
      ∙ ap (code_by c.shapes.classes (c.places ++ (cf ++ rest)) (c.entries ++ b ∷ starts)) (append_assoc c.shapes.functions (f.shape ∷ []) names)))))

  sources_of : (fs : List TextFunction) → ((k : ℕ) → k < length (map function_of fs) → AreStmts h false (get_or (map function_of fs) k no_function).body) → Sources h (map function_of fs)
  sources_of [] s = tt
  sources_of (f ∷ fs) s = (s 0 (omega arith), sources_of fs (λ k lt. s (suc k) (omega arith)))

classes_are : (ks : List ClassShape) (c : Code) → emitted_classes c ks ≡ record { places = c.places; entries = c.entries; shapes = record { functions = c.shapes.functions; classes = c.shapes.classes ++ ks } }
classes_are [] c =
    ap (λ l. code_by l c.places c.entries c.shapes.functions) (sym (append-nil c.shapes.classes))
classes_are (k ∷ ks) c =
    classes_are ks (with_shape c k)
    ∙ ap (λ l. code_by l c.places c.entries c.shapes.functions) (append_assoc c.shapes.classes (k ∷ []) ks)

pub lowered_is : (p : TextProgram) → IsProgram (program_of p) → emitted_functions (emitted_classes empty_code (map shape_of p.classes)) (map function_of p.functions) ≡ layout (program_of p)
lowered_is p s =
    let fs = map function_of p.functions in
    ap (λ c. emitted_functions c fs) (classes_are (map shape_of p.classes) empty_code)
    ∙ functions_are (shapes (program_of p)) fs (code_by (map shape_of p.classes) [] [] []) (sources_of (shapes (program_of p)) p.functions s)

-- the code that is made is the layout, and is valid
pub made_is : (p : TextProgram) (new middle made : Code) (ks : List ClassShape') (fs : List TextFunction) → IsProgram (program_of p)
    → new ≡ empty_code → middle ≡ emitted_classes new (map shape_of ks) → ks ≡ p.classes
    → made ≡ emitted_functions middle (map function_of fs) → fs ≡ p.functions → made ≡ layout (program_of p)
made_is p new middle made ks fs s new_is middle_is ks_is is fs_is =
    is
    ∙ (ap (λ c. emitted_functions c (map function_of fs))
    (middle_is ∙ (ap (λ c. emitted_classes c (map shape_of ks)) new_is ∙ ap (λ l. emitted_classes empty_code (map shape_of l)) ks_is))
    ∙ (ap (λ l. emitted_functions (emitted_classes empty_code (map shape_of p.classes)) (map function_of l)) fs_is ∙ lowered_is p s))

pub made_valid : (p : TextProgram) (made : Code) → IsProgram (program_of p) → InRange (program_of p) → made ≡ layout (program_of p)
    → IsValid made
made_valid p made s r is = subst IsValid (sym is) (layout_is_valid (program_of p) s r)

-- no function is begun by classes
pub no_functions : (new middle : Code) (ks : List ClassShape) → new ≡ empty_code → middle ≡ emitted_classes new ks
    → length middle.shapes.functions ≡ 0
no_functions new middle ks new_is middle_is =
    ap (λ (c : Code). length c.shapes.functions) (middle_is ∙ classes_are ks new) ∙ ap (λ (c : Code). length c.shapes.functions) new_is
