-- What an expression and a statement of a function are, where the function is read and this is the last state.
use Rattle.std.proofs.Common.{◌≡◌, ℕ, ◌<◌, Bool, false, List, [], length}
use Rattle.cc_core.specs.declared.expression.Expression.{Expression}
use Rattle.cc_core.specs.declared.statement.Statement.{Statement}
use Rattle.cc_core.specs.Core.{Term, Terms, Stmt, Stmts, Shapes}
use Rattle.cc_core.specs.Source.{IsBuilt, IsTerm, AreTerms, IsStmt, AreStmts}
use Rattle.cc_core.specs.View.{term_of, terms_of, stmt_of, stmts_of}
use Rattle.cc_scopes.specs.declared.state.State.{State}
use Rattle.cc_valid.specs.Ranges.{TermInRange, TermsInRange, StmtInRange, StmtsInRange}

-- no rule is broken
abbrev pub Clean : State → Type 0
Clean s = s.broken ≡ []

module _ (h : Shapes) (last : State) where
  -- an object of a class that there is
  abbrev pub IsMade : ℕ → Terms → Type 0
  IsMade c es = (c < length h.classes) × IsBuilt h c es

  abbrev pub TermFits : Term → Type 0
  TermFits t = IsTerm h t × TermInRange (length last.made) (length h.classes) t

  abbrev pub ExpressionFits : Expression → Type 0
  ExpressionFits e = TermFits (term_of e)

  abbrev pub ExpressionsFit : List Expression → Type 0
  ExpressionsFit es = AreTerms h (terms_of es) × TermsInRange (length last.made) (length h.classes) (terms_of es)

  -- in a loop or not: where a rule is broken, break and continue may stand anywhere
  abbrev pub StmtFits : (loop : Bool) → Stmt → Type 0
  StmtFits l s = (Clean last → IsStmt h l s) × StmtInRange (length last.made) (length h.classes) s

  abbrev pub StatementFits : (loop : Bool) → Statement → Type 0
  StatementFits l s = StmtFits l (stmt_of s)

  abbrev pub StatementsFit : (loop : Bool) → List Statement → Type 0
  StatementsFit l ss = (Clean last → AreStmts h l (stmts_of ss)) × StmtsInRange (length last.made) (length h.classes) (stmts_of ss)

-- a function's body, of so many variables
abbrev pub BodyFits : Shapes → (vars : ℕ) → Stmts → Type 0
BodyFits h vars ss = AreStmts h false ss × StmtsInRange vars (length h.classes) ss
