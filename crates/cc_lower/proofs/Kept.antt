-- What the compiler makes keeps the functions and classes that were begun.
use Rattle.std.proofs.Common.{◌≡◌, ℕ, suc, ◌+◌, ◌<◌, List, [], ◌∷◌, ◌++◌, length, map, drop, get_or, refl, sym, ap, ◌∙◌, arith, length-append}
use Rattle.std.proofs.Math.Seq.{drop-cons}
use Rattle.cc_core.specs.Core.{How, Alone, On, Remote, Term, Push, This, Variable, Member, Index, At, Load, Unary, Binary, And, Or, New}
use Rattle.cc_core.specs.Core.{NewObject, Call, Val, Body, Branch, Starts, Terms, NoTerms, MoreTerms, MoreCells, Copied, Stmt, Empty}
use Rattle.cc_core.specs.Core.{AtLine, Make, Set, Build, Assign, Drop, Print, If, IfElse, While, For, Break, Continue, Par, ParFor}
use Rattle.cc_core.specs.Core.{Spawn, Return, Block, Turn, Forks, Each, Wait, Left, Stmts, NoStmts, MoreStmts, Function, Shapes}
use Rattle.cc_core.specs.View.{function_of}
use Rattle.cc_core.specs.declared.program.Function.{Function as TextFunction}
use Rattle.cc_code.specs.Code.{Code, JumpI, EndI, TestI, AndI, OrI, CellsI, EachI, VariableI, ForkI}
use Rattle.cc_code.specs.Layout.{Loop, NoLoop, In}
use Rattle.stack_code.specs.View.{with_function, with_target}
use Rattle.cc_lower.specs.Emitted.{put, here, aim_here, put_call, count, emitted_term, emitted_terms, emitted_stmt, emitted_stmts, emitted_branches}
use Rattle.cc_lower.specs.Emitted.{for_again, for_out, while_out, emitted_while_test, emitted_for_test, emitted_start, emitted_header, emitted_function, emitted_functions}
use Rattle.std.specs.Prelude.{replicate}

abbrev Keeps : Code → Code → Type 0
Keeps c d = d.shapes ≡ c.shapes

call_keeps : (c : Code) (n : ℕ) (how : How) (f : ℕ) → Keeps c (put_call c n how f)
call_keeps c n Alone f = refl
call_keeps c n On f = refl
call_keeps c n Remote f = refl

mutual
  term_keeps : (n : ℕ) (e : Term) (c : Code) → Keeps c (emitted_term c n e)
  term_keeps n (Push k) c = refl
  term_keeps n This c = refl
  term_keeps n (Variable k) c = refl
  term_keeps n (Member e o) c = term_keeps n e c
  term_keeps n (Index x size y) c = term_keeps n y (emitted_term c n x) ∙ term_keeps n x c
  term_keeps n (At x y) c = term_keeps n y (emitted_term c n x) ∙ term_keeps n x c
  term_keeps n (Load remote e) c = term_keeps n e c
  term_keeps n (Unary op e) c = term_keeps n e c
  term_keeps n (Binary op x y) c = term_keeps n y (emitted_term c n x) ∙ term_keeps n x c
  term_keeps n (And x y) c = term_keeps n y (put (emitted_term c n x) n (AndI 0)) ∙ term_keeps n x c
  term_keeps n (Or x y) c = term_keeps n y (put (emitted_term c n x) n (OrI 0)) ∙ term_keeps n x c
  term_keeps n (New kind size) c = refl
  term_keeps n (NewObject remote k es) c = terms_keep n es c
  term_keeps n (Call how f es) c = call_keeps (emitted_terms c n es) n how f ∙ terms_keep n es c
  term_keeps n (Val v) c = refl
  term_keeps n (Body f this env ss) c = refl
  term_keeps n (Branch this env s) c = refl
  term_keeps n (Starts f this vs) c = refl

  terms_keep : (n : ℕ) (es : Terms) (c : Code) → Keeps c (emitted_terms c n es)
  terms_keep n NoTerms c = refl
  terms_keep n (MoreTerms e es) c = terms_keep n es (emitted_term c n e) ∙ term_keeps n e c
  terms_keep n (MoreCells e size es) c = terms_keep n es (put (emitted_term c n e) n (CellsI size)) ∙ term_keeps n e c
  terms_keep n (Copied vs es) c = refl

header_keeps : (n k : ℕ) (start test : Term) (line : ℕ) (value : Term) (c : Code) → Keeps c (emitted_header c n k start test line value)
header_keeps n k start test line value c =
    let loop = emitted_start c n k start in
    let tested = put (emitted_term loop n test) n (TestI 0) in
    term_keeps line value (put (put tested n (EachI 0 k)) line (VariableI k)) ∙ (term_keeps n test loop ∙ term_keeps n start c)

mutual
  stmt_keeps : (n : ℕ) (l : Loop) (s : Stmt) (c : Code) → Keeps c (emitted_stmt c n l s)
  stmt_keeps n l Empty c = refl
  stmt_keeps n l (AtLine line s) c = stmt_keeps line l s c
  stmt_keeps n l (Make k kind size) c = refl
  stmt_keeps n l (Set k kind e) c = term_keeps n e c
  stmt_keeps n l (Build k class es) c = terms_keep n es c
  stmt_keeps n l (Assign remote x y) c = term_keeps n y (emitted_term c n x) ∙ term_keeps n x c
  stmt_keeps n l (Drop e) c = term_keeps n e c
  stmt_keeps n l (Print parts es) c = terms_keep n es c
  stmt_keeps n l (If t s) c = stmt_keeps n l s (put (emitted_term c n t) n (TestI 0)) ∙ term_keeps n t c
  stmt_keeps n l (IfElse t s u) c =
      let one = emitted_term c n t in
      let two = emitted_stmt (put one n (TestI 0)) n l s in
      stmt_keeps n l u (aim_here (put two n (JumpI 0)) (here one)) ∙ (stmt_keeps n l s (put one n (TestI 0)) ∙ term_keeps n t c)
  stmt_keeps n l (While t s) c =
      let one = emitted_term c n t in
      stmt_keeps n (In (while_out (here one) s) (here c)) s (emitted_while_test c n t s) ∙ term_keeps n t c
  stmt_keeps n l (For t step s) c =
      let one = emitted_term c n t in
      let loop = In (for_out (here one) step s) (for_again (here one) s) in
      let first = emitted_for_test c n t step s in
      stmt_keeps n NoLoop step (emitted_stmt first n loop s) ∙ (stmt_keeps n loop s first ∙ term_keeps n t c)
  stmt_keeps n NoLoop Break c = refl
  stmt_keeps n (In out again) Break c = refl
  stmt_keeps n NoLoop Continue c = refl
  stmt_keeps n (In out again) Continue c = refl
  stmt_keeps n l (Par ss) c =
      let fork = put c n (ForkI (replicate (count ss) 0)) in branches_keep n (here c) 0 ss (put fork n (JumpI 0))
  stmt_keeps n l (ParFor k start test line value s) c =
      stmt_keeps 0 NoLoop s (emitted_header c n k start test line value) ∙ header_keeps n k start test line value c
  stmt_keeps n l (Spawn how f es) c = terms_keep n es c
  stmt_keeps n l (Return e) c = term_keeps n e c
  stmt_keeps n l (Block ss) c = stmts_keep n l ss c
  stmt_keeps n l (Turn s w) c = refl
  stmt_keeps n l (Forks k test line value s made now) c = refl
  stmt_keeps n l (Each k test line value s made) c = refl
  stmt_keeps n l (Wait made) c = refl
  stmt_keeps n l (Left v) c = refl

  stmts_keep : (n : ℕ) (l : Loop) (ss : Stmts) (c : Code) → Keeps c (emitted_stmts c n l ss)
  stmts_keep n l NoStmts c = refl
  stmts_keep n l (MoreStmts s ss) c = stmts_keep n l ss (emitted_stmt c n l s) ∙ stmt_keeps n l s c

  branches_keep : (n fork which : ℕ) (ss : Stmts) (c : Code) → Keeps c (emitted_branches c n fork which ss)
  branches_keep n fork which NoStmts c = refl
  branches_keep n fork which (MoreStmts s ss) c =
      let begun = with_target c fork which (here c) in
      branches_keep n fork (suc which) ss (put (emitted_stmt begun 0 NoLoop s) n EndI) ∙ stmt_keeps 0 NoLoop s begun

-- one function more
pub function_counted : (old new : Code) (f : Function) (n i : ℕ) → new ≡ emitted_function old f → length old.shapes.functions ≡ n + i
    → length new.shapes.functions ≡ n + (i + 1)
function_counted old new f n i is count =
    let kept = stmts_keep f.shape.line NoLoop f.body (with_function old f.shape) in
    let longer : length new.shapes.functions ≡ length (old.shapes.functions ++ f.shape ∷ []) =
    ap (λ (c : Code). length c.shapes.functions) is ∙ ap (λ (h : Shapes). length h.functions) kept in
    omega (arith, longer, length-append old.shapes.functions (f.shape ∷ []), count)

pub function_emitted : (fs : List TextFunction) (i : ℕ) (f : TextFunction) (old new all : Code) → i < length fs → f ≡ get_or fs i f
    → new ≡ emitted_function old (function_of f) → emitted_functions old (map function_of (drop i fs)) ≡ all
    → emitted_functions new (map function_of (drop (i + 1) fs)) ≡ all
function_emitted fs i f old new all lt is new_is so_far =
    let next : suc i ≡ i + 1 = omega arith in
    let split : drop i fs ≡ f ∷ drop (i + 1) fs =
    drop-cons fs i f lt ∙ (ap (λ x. x ∷ drop (suc i) fs) (sym is) ∙ ap (λ (k : ℕ). f ∷ drop k fs) next) in
    ap (λ c. emitted_functions c (map function_of (drop (i + 1) fs))) new_is
    ∙ (ap (λ l. emitted_functions old (map function_of l)) (sym split) ∙ so_far)
