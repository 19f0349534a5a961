-- A function value that reads what stands within one level more.
use Rattle.std.specs.Prelude.{ℕ, Result, ◌<◌, ◌-◌}
use Rattle.std.specs.declared.alloc.Global.{Global}
use denote.Ref.{MutBor}
use Rattle.cc_tree.specs.declared.expressions.Expr.{Expr}
use Rattle.cc_grammar.specs.declared.fault.Fault.{Fault}
use Rattle.cc_grammar.specs.Lexeme.{Lexemes}
use Rattle.cc_grammar.specs.Reading.{Reader, Gives}
use Rattle.cc_grammar.specs.ReadExpressions.{expr, unary, inner_expr, inner_unary}
use Rattle.cc_expressions.specs.declared.expressions.Form.{Form}
use Rattle.cc_expressions.specs.declared.expressions.Form.TheVariants.{Whole, Unary}

-- an expression, or a unary alone
abbrev pub within : ℕ → Form → Reader Expr
within n Whole = expr n
within n Unary = unary n

pub record Nests (depth : ℕ) (pre : Global → MutBor Lexemes → ℕ → Form → Type 0)
    (post : Global → MutBor Lexemes → ℕ → Form → Result Expr Fault → MutBor Lexemes → Type 0) : Type 0 where
  pub callable : 0 < depth → (alloc : Global) (old : MutBor Lexemes) (form : Form) → pre alloc old (depth - 1) form
  pub reads : 0 < depth → (alloc : Global) (old new : MutBor Lexemes) (form : Form) (r : Result Expr Fault) → post alloc old (depth - 1) form r new
      → Gives (within (depth - 1) form old.now) r new.now

-- with one level fewer, where there is one
abbrev pub within_level : ℕ → Form → Reader Expr
within_level n Whole = inner_expr n
within_level n Unary = inner_unary n
