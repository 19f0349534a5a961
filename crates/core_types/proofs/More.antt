-- What is typed in a world is typed in each world that it goes on as.
use Rattle.std.proofs.Common.{ℕ, List, [], ◌∷◌, Option, Some, None}
use Rattle.cc_ops.specs.Values.{Void, Int, Null, Ptr, Plain, Empty as EmptyCell, Full}
use Rattle.cc_core.specs.Names.{Name, Value, Cell}
use Rattle.cc_core.specs.Core.{Env, Term, Push, This, Variable, Member, Index, At}
use Rattle.cc_core.specs.Core.{Load, Unary, Binary, And, Or, New, NewObject, Call, Val, Body, Branch, Starts, Terms, NoTerms, MoreTerms}
use Rattle.cc_core.specs.Core.{MoreCells, Copied, Stmt, Empty, AtLine, Make, Set, Build, Assign, Drop, Print, If, IfElse, While, For}
use Rattle.cc_core.specs.Core.{Break, Continue, Par, ParFor, Spawn, Return, Block, Turn, Forks, Each, Wait, Left, Stmts, NoStmts}
use Rattle.cc_core.specs.Core.{MoreStmts, Program}
use Rattle.core_types.specs.Types.{ValueType, Target, CellType, Holds, Types}
use Rattle.core_types.specs.Values.{World, Grows, Fits, AllFit, IsObject, EnvFits, CellFits, Content, CellsFit, cell_type}
use Rattle.core_types.specs.Typing.{Scope, branch, HasType, HaveTypes, IsTyped, AreTyped}

module _ (y : Types) (w v : World) (g : Grows w v) (q : Name) where
  pub fits_more : (x : Value) (u : ValueType) → Fits y w q x u → Fits y v q x u
  fits_more Void u f = f
  fits_more (Int n) u f = f
  fits_more Null u f = f
  fits_more (Ptr o x) u f = (f.0, f.1, f.2, (f.3.0, g.objects o f.3.0 f.3.1, f.3.2, f.3.3))

  pub all_more : (xs : List Value) (us : List ValueType) → AllFit y w q xs us → AllFit y v q xs us
  all_more xs [] f = f
  all_more [] (u ∷ us) f = f
  all_more (x ∷ xs) (u ∷ us) f = (fits_more x u f.0, all_more xs us f.1)

  pub object_more : (c : Option ℕ) (x : Value) → IsObject y w q c x → IsObject y v q c x
  object_more None x f = f
  object_more (Some c) x f = fits_more x _ f

  pub env_more : (vars : List Target) (env : Env) → EnvFits y w q vars env → EnvFits y v q vars env
  env_more vars env f = λ k a e. fits_more _ _ (f k a e)

  pub cell_more : (c : Cell) (a : Option CellType) → CellFits y w q c a → CellFits y v q c a
  cell_more c None f = f
  cell_more (Plain x) (Some (Holds sync u)) f = (f.0, fits_more x u f.1, f.2)
  cell_more EmptyCell (Some (Holds sync u)) f = f
  cell_more (Full x) (Some (Holds sync u)) f = (f.0, fits_more x u f.1, f.2)

  pub cells_more : (k : Content) (cells : List Cell) → CellsFit y w q k cells → CellsFit y v q k cells
  cells_more k cells f = λ x c e. cell_more c (cell_type y k x) (f x c e)

  module _ (p : Program) where
    mutual
      pub type_more : (here : Scope) (e : Term) (u : ValueType) → HasType p y w q here e u → HasType p y v q here e u
      type_more here (Push c) u f = f
      type_more here This u f = f
      type_more here (Variable k) u f = f
      type_more here (Member e o) u f = (f.0, f.1, type_more here e _ f.2, f.3, f.4)
      type_more here (Index e n i) u f = (f.0, f.1, f.2, type_more here e _ f.3, type_more here i _ f.4, f.5, f.6)
      type_more here (At e i) u f = (f.0, f.1, f.2, type_more here e _ f.3, type_more here i _ f.4, f.5)
      type_more here (Load remote e) u f = (f.0, f.1, type_more here e _ f.2, f.3, f.4, f.5)
      type_more here (Unary op e) u f = (type_more here e _ f.0, f.1, f.2)
      type_more here (Binary op a b) u f = (f.0, f.1, type_more here a _ f.2, type_more here b _ f.3, f.4, f.5)
      type_more here (And a b) u f = (type_more here a _ f.0, type_more here b _ f.1, f.2)
      type_more here (Or a b) u f = (type_more here a _ f.0, type_more here b _ f.1, f.2)
      type_more here (New kind n) u f = f
      type_more here (NewObject remote c es) u f = (types_more here es _ f.0, f.1, f.2, f.3)
      type_more here (Call how k es) u f = (f.0, f.1, types_more here es _ f.2, f.3, f.4)
      type_more here (Val x) u f = fits_more x u f
      type_more here (Body k this env ss) u f =
          (object_more _ this f.0, env_more _ env f.1, stmts_more _ ss f.2, f.3, f.4)
      type_more here (Branch this env s) u f =
          (f.0, object_more _ this f.1, env_more _ env f.2, stmt_more _ s f.3, f.4, f.5)
      type_more here (Starts k this vs) u f = (object_more _ this f.0, all_more vs _ f.1, f.2, f.3)

      pub types_more : (here : Scope) (es : Terms) (us : List ValueType) → HaveTypes p y w q here es us → HaveTypes p y v q here es us
      types_more here NoTerms us f = f
      types_more here (MoreTerms e es) us f =
          (f.0, f.1, (f.2.0, type_more here e _ f.2.1, f.2.2), types_more here es _ f.3, f.4)
      types_more here (MoreCells e n es) us f = (f.0, f.1, f.2, type_more here e _ f.3, f.4, f.5, types_more here es _ f.6, f.7)
      types_more here (Copied vs es) us f = (f.0, f.1, all_more vs _ f.2, types_more here es _ f.3, f.4)

      pub stmt_more : (here : Scope) (s : Stmt) → IsTyped p y w q here s → IsTyped p y v q here s
      stmt_more here Empty f = tt
      stmt_more here (AtLine line s) f = stmt_more here s f
      stmt_more here (Make k kind n) f = f
      stmt_more here (Set k kind e) f = (f.0, f.1, f.2, (f.3.0, type_more here e _ f.3.1, f.3.2))
      stmt_more here (Build k c es) f = (f.0, types_more here es _ f.1)
      stmt_more here (Assign remote e e') f =
          (f.0, f.1, f.2, type_more here e _ f.3, (f.4.0, type_more here e' _ f.4.1, f.4.2), f.5, f.6, f.7)
      stmt_more here (Drop e) f = (f.0, type_more here e _ f.1)
      stmt_more here (Print parts es) f = types_more here es _ f
      stmt_more here (If c s) f = (type_more here c _ f.0, stmt_more here s f.1)
      stmt_more here (IfElse c s t) f = (type_more here c _ f.0, stmt_more here s f.1, stmt_more here t f.2)
      stmt_more here (While c s) f = (type_more here c _ f.0, stmt_more here s f.1)
      stmt_more here (For c step s) f = (type_more here c _ f.0, stmt_more here step f.1, stmt_more here s f.2)
      stmt_more here Break f = tt
      stmt_more here Continue f = tt
      stmt_more here (Par ss) f = (f.0, stmts_more (branch here) ss f.1)
      stmt_more here (ParFor k start test line value s) f =
          (f.0, f.1, type_more here start _ f.2, type_more here test _ f.3, type_more here value _ f.4, stmt_more (branch here) s f.5)
      stmt_more here (Spawn how k es) f = (f.0, f.1, types_more here es _ f.2, f.3)
      stmt_more here (Return e) f = (f.0, f.1, (f.2.0, type_more here e _ f.2.1, f.2.2))
      stmt_more here (Block ss) f = stmts_more here ss f
      stmt_more here (Turn s t) f = (stmt_more here s f.0, stmt_more here t f.1)
      stmt_more here (Forks k test line value s made now) f =
          (f.0, f.1, type_more here now _ f.2, type_more here test _ f.3, type_more here value _ f.4, stmt_more (branch here) s f.5)
      stmt_more here (Each k test line value s made) f =
          (f.0, f.1, type_more here test _ f.2, type_more here value _ f.3, stmt_more (branch here) s f.4)
      stmt_more here (Wait made) f = f
      stmt_more here (Left x) f = (f.0, f.1, fits_more x _ f.2)

      pub stmts_more : (here : Scope) (ss : Stmts) → AreTyped p y w q here ss → AreTyped p y v q here ss
      stmts_more here NoStmts f = tt
      stmts_more here (MoreStmts s ss) f = (stmt_more here s f.0, stmts_more here ss f.1)
