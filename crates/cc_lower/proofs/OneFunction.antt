-- Programs of one function that can be compiled: one that returns a constant, and one that leaves a loop first.
use Rattle.std.proofs.Common.{◌≡◌, ℕ, zero, suc, ◌<◌, ◌≤◌, List, [], ◌∷◌, ◌++◌, length, map, get_or, false, sym, ap, ◌∙◌, subst, arith}
use Rattle.std.specs.List.{AllByRecursion}
use Rattle.cc_ops.specs.declared.shape.ClassShape.{ClassShape}
use Rattle.cc_ops.specs.Shapes.{shape_of}
use Rattle.cc_core.specs.Core as core
use Rattle.cc_core.specs.Core.{Stmts, MoreStmts, NoStmts, Shapes, shapes, no_function}
use Rattle.cc_core.specs.Source.{AreStmts}
use Rattle.cc_core.specs.View.{constant_of, stmt_of, stmts_of, function_of, program_of}
use Rattle.cc_core.specs.declared.expression.Constant.{Constant}
use Rattle.cc_core.specs.declared.expression.Expression.{Push}
use Rattle.cc_core.specs.declared.statement.Statement.{While, Break, Return}
use Rattle.cc_core.specs.declared.program.Function.{Function}
use Rattle.cc_core.specs.declared.program.Program.{Program}
use Rattle.cc_core.proofs.ViewLaws.{push_is, while_is, break_is, return_is}
use Rattle.cc_valid.specs.Ranges.{StmtsInRange, FunctionInRange}
use Rattle.stack_code.specs.Kept.{IsFunShape, IsClassShape}
use Rattle.cc_lower.specs.Lowerable.{IsLowerable}

pub one_item : {A : Type 0} (l m : List A) (x : A) → m ≡ l ++ x ∷ [] → l ≡ [] → m ≡ x ∷ []
one_item l m x is none = is ∙ ap (λ k. k ++ x ∷ []) none

pub two_items : {A : Type 0} (l m n : List A) (x y : A) → n ≡ m ++ y ∷ [] → m ≡ l ++ x ∷ [] → l ≡ [] → n ≡ x ∷ y ∷ []
two_items l m n x y is first none = is ∙ ap (λ k. k ++ y ∷ []) (one_item l m x first none)

source_one : (h : Shapes) (f : Function) → AreStmts h false (stmts_of f.body) → (g : ℕ) → g < length (map function_of (f ∷ []))
    → AreStmts h false (get_or (map function_of (f ∷ [])) g no_function).body
source_one h f s zero lt = s
source_one h f s (suc g) lt = absurd (omega arith)

range_one : (n : ℕ) (f : Function) → FunctionInRange n (function_of f) → (g : ℕ) → g < length (map function_of (f ∷ []))
    → FunctionInRange n (get_or (map function_of (f ∷ [])) g no_function)
range_one n f s zero lt = s
range_one n f s (suc g) lt = absurd (omega arith)

-- a program of one function, whose body is a source in range
one_function : (p : Program) (f : Function) (ss : Stmts) → p.functions ≡ f ∷ [] → p.classes ≡ [] → stmts_of f.body ≡ ss
    → AreStmts (shapes (program_of p)) false ss → StmtsInRange f.shape.vars (length (map shape_of p.classes)) ss → IsFunShape f.shape
    → IsLowerable p
one_function p f ss one none is source range shape =
    let h = shapes (program_of p) in
    let n = length (map shape_of p.classes) in
    let stands : AreStmts h false (stmts_of f.body) = subst (AreStmts h false) (sym is) source in
    let ranges : FunctionInRange n (function_of f) = record {
      params = shape.variables;
      body = subst (StmtsInRange f.shape.vars n) (sym is) range;
    } in
    record {
      source = subst (λ (fs : List Function). (g : ℕ) → g < length (map function_of fs) → AreStmts h false (get_or (map function_of fs) g no_function).body)
          (sym one) (source_one h f stands);
      ranges = subst (λ (fs : List Function). (g : ℕ) → g < length (map function_of fs) → FunctionInRange n (get_or (map function_of fs) g no_function))
          (sym one) (range_one n f ranges);
      functions = subst (AllByRecursion (λ (g : Function). IsFunShape g.shape)) (sym one) (shape, tt);
      classes = subst (AllByRecursion (λ (c : ClassShape). IsClassShape (shape_of c))) (sym none) tt;
      few_functions = subst (λ (fs : List Function). length fs ≤ 65536) (sym one) (omega arith);
      few_classes = subst (λ (cs : List ClassShape). length cs ≤ 65536) (sym none) (omega arith);
    }

returned : (c : Constant) → stmts_of (Return (Push c) ∷ []) ≡ MoreStmts (core.Return (core.Push (constant_of c))) NoStmts
returned c = ap (λ s. MoreStmts s NoStmts) (return_is (Push c) ∙ ap core.Return (push_is c))

pub returns_constant : (p : Program) (f : Function) (c : Constant) → p.functions ≡ f ∷ [] → p.classes ≡ [] → f.body ≡ Return (Push c) ∷ []
    → IsFunShape f.shape → IsLowerable p
returns_constant p f c one none body shape =
    one_function p f _ one none (ap stmts_of body ∙ returned c) (tt, tt) (tt, tt) shape

left : (t : Constant) → stmt_of (While (Push t) Break) ≡ core.While (core.Push (constant_of t)) core.Break
left t = while_is (Push t) Break ∙ (ap (λ e. core.While e (stmt_of Break)) (push_is t) ∙ ap (core.While (core.Push (constant_of t))) break_is)

pub leaves_loop : (p : Program) (f : Function) (t c : Constant) → p.functions ≡ f ∷ [] → p.classes ≡ []
    → f.body ≡ While (Push t) Break ∷ Return (Push c) ∷ [] → IsFunShape f.shape → IsLowerable p
leaves_loop p f t c one none body shape =
    let is = ap (λ s. MoreStmts s (stmts_of (Return (Push c) ∷ []))) (left t)
    ∙ ap (MoreStmts (core.While (core.Push (constant_of t)) core.Break)) (returned c) in
    one_function p f _ one none (ap stmts_of body ∙ is) ((tt, tt), (tt, tt)) ((tt, tt), (tt, tt)) shape
