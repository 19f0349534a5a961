-- Expressions, places and calls.
--
-- In each line n is how many levels may still be opened. What stands within a level that the line opens is an expression or a
-- unary with one level fewer, which the lines name `expr` and `unary`.
use Rattle.std.specs.Prelude.{ℕ, zero, suc, Bool, true, false, List, [], ◌∷◌, ◌++◌, Option, Some, None}
use Rattle.cc_lexer.specs.declared.token.Keyword.TheVariants.{This, Null, New, Sync, Int}
use Rattle.cc_lexer.specs.declared.token.Mark.{Mark}
use Rattle.cc_lexer.specs.declared.token.Mark.TheVariants as m
use Rattle.cc_tree.specs.declared.expressions.UnaryOp.{UnaryOp}
use Rattle.cc_tree.specs.declared.expressions.UnaryOp.TheVariants as unary_op
use Rattle.cc_tree.specs.declared.expressions.BinaryOp.{BinaryOp}
use Rattle.cc_tree.specs.declared.expressions.BinaryOp.TheVariants as binary_op
use Rattle.cc_tree.specs.declared.expressions.Expr.{Expr}
use Rattle.cc_tree.specs.declared.expressions.ExprKind.TheVariants as e
use Rattle.cc_tree.specs.declared.expressions.Suffix.{Suffix}
use Rattle.cc_tree.specs.declared.expressions.Suffix.TheVariants as suffix
use Rattle.cc_grammar.specs.Symbol.{Symbol, word, mark, open_mark, name, number, pure, ◌>>=◌, ◌>>◌, ◌or◌, many, opt, has_word, listed, never}
use Rattle.cc_grammar.specs.Nodes.{node, chained, linked, prefixed, posted, named, member_of, args_of}

-- '.' or '->', by whether it is the second
abbrev pub dot : Symbol Bool
dot = (mark m.Dot >> pure false) or (mark m.Arrow >> pure true)

abbrev pub operator : Mark → BinaryOp → Symbol BinaryOp
operator m op = mark m >> pure op

-- operand { op operand }
abbrev pub level : Symbol BinaryOp → Symbol Expr → Symbol Expr
level op operand = do
  first ← operand
  rest ← many (do o ← op; part ← operand; pure (linked o part))
  pure (chained first rest)

module _ (n : ℕ) (expr unary : Symbol Expr) where
  -- Args := '(' [ Expr { ',' Expr } ] ')'
  unfoldable pub args : Symbol (List Expr)
  args = do
    open_mark n m.OpenParen
    xs ← listed expr
    mark m.CloseParen
    pure xs

  -- '[' Expr ']'
  unfoldable pub bracketed : Symbol Expr
  bracketed = do
    open_mark n m.OpenBracket
    x ← expr
    mark m.CloseBracket
    pure x

  -- '(' Expr ')'
  unfoldable pub paren : Symbol Expr
  paren = do
    line ← open_mark n m.OpenParen
    x ← expr
    mark m.CloseParen
    pure (node (e.Paren x) line)

  -- Tail := '[' Expr ']' | ( '.' | '->' ) NAME [ Args ]
  unfoldable pub tail : Symbol Suffix
  tail =
      (do x ← bracketed; pure (suffix.Index x))
      or (do arrow ← dot; t ← name; xs ← opt args; pure (member_of arrow t xs))

  -- Root := NAME [ Args ] | 'this' | '(' Expr ')'
  unfoldable pub root : Symbol Expr
  root =
      (do t ← name; xs ← opt args; pure (named t xs))
      or (do line ← word This; pure (node e.This line))
      or paren

  -- Prim := INT | 'NULL' | Root
  unfoldable pub prim : Symbol Expr
  prim =
      (do i ← number; pure (node (e.Int i.value) i.line))
      or (do line ← word Null; pure (node e.Null line))
      or root

  -- one of '-' '!' '*' '&', and then Unary
  unfoldable pub prefix : Mark → UnaryOp → Symbol Expr
  prefix m op = do
    line ← open_mark n m
    x ← unary
    pure (prefixed op x line)

  -- 'new' [ 'sync' ] 'int' [ '[' Expr ']' ] | 'new' NAME [ Args ]
  unfoldable pub creation : Symbol Expr
  creation =
      (do line ← word New; s ← has_word Sync; word Int; x ← opt bracketed; pure (node (e.NewInt s x) line))
      or (do line ← word New; t ← name; xs ← opt args; pure (node (e.NewClass t.text (args_of xs)) line))

  -- Prim { Tail }
  unfoldable pub postfix : Symbol Expr
  postfix = do
    x ← prim
    xs ← many tail
    pure (posted x xs)

  -- Unary := ( '-' | '!' | '*' | '&' ) Unary
  --        | 'new' [ 'sync' ] 'int' [ '[' Expr ']' ] | 'new' NAME [ Args ]
  --        | Prim { Tail }
  unfoldable pub unary_line : Symbol Expr
  unary_line =
      prefix m.Minus unary_op.Neg
      or prefix m.Not unary_op.Not
      or prefix m.Star unary_op.Deref
      or prefix m.Ampersand unary_op.Address
      or creation
      or postfix

  -- Product := Unary { ( '*' | '/' | '%' ) Unary }
  unfoldable pub product : Symbol Expr
  product = level (operator m.Star binary_op.Mul or operator m.Slash binary_op.Div or operator m.Percent binary_op.Rem) unary_line

  -- Sum := Product { ( '+' | '-' ) Product }
  unfoldable pub sum : Symbol Expr
  sum = level (operator m.Plus binary_op.Add or operator m.Minus binary_op.Sub) product

  -- Order := Sum { ( '<' | '<=' | '>' | '>=' ) Sum }
  unfoldable pub order : Symbol Expr
  order =
      level (
      operator m.Less binary_op.Lt or operator m.LessEqual binary_op.Le or operator m.Greater binary_op.Gt
      or operator m.GreaterEqual binary_op.Ge
      )
      sum

  -- Equal := Order { ( '==' | '!=' ) Order }
  unfoldable pub equal : Symbol Expr
  equal = level (operator m.Equal binary_op.Eq or operator m.NotEqual binary_op.Ne) order

  -- And := Equal { '&&' Equal }
  unfoldable pub conjunction : Symbol Expr
  conjunction = level (operator m.And binary_op.And) equal

  -- Expr := And { '||' And }
  unfoldable pub expr_line : Symbol Expr
  expr_line = level (operator m.Or binary_op.Or) conjunction

  -- NAME alone
  unfoldable pub name_alone : Symbol Expr
  name_alone = do
    t ← name
    pure (named t None)

  -- NAME Args
  unfoldable pub name_called : Symbol Expr
  name_called = do
    t ← name
    xs ← args
    pure (named t (Some xs))

  -- '[' Expr ']' | ( '.' | '->' ) NAME
  unfoldable pub place_tail : Symbol Suffix
  place_tail = (do x ← bracketed; pure (suffix.Index x)) or (do arrow ← dot; t ← name; pure (member_of arrow t None))

  -- ( '.' | '->' ) NAME Args
  unfoldable pub call_tail : Symbol Suffix
  call_tail = do
    arrow ← dot
    t ← name
    xs ← args
    pure (member_of arrow t (Some xs))

  -- Root { Tail } and a last tail
  unfoldable pub chain : Symbol Suffix → Symbol Expr
  chain last = do
    x ← root
    xs ← many tail
    l ← last
    pure (posted x (xs ++ l ∷ []))

  -- Place := '*' Unary | NAME | Root { Tail } ( '[' Expr ']' | ( '.' | '->' ) NAME )
  unfoldable pub place_line : Symbol Expr
  place_line = prefix m.Star unary_op.Deref or name_alone or chain place_tail

  -- Call := NAME Args | Root { Tail } ( '.' | '->' ) NAME Args
  unfoldable pub call_line : Symbol Expr
  call_line = name_called or chain call_tail

-- ---- within so many levels

unfoldable mutual
  pub unary : ℕ → Symbol Expr
  unary zero = unary_line zero never never
  unary (suc n) = unary_line (suc n) (expr n) (unary n)

  pub expr : ℕ → Symbol Expr
  expr zero = expr_line zero never never
  expr (suc n) = expr_line (suc n) (expr n) (unary n)

-- with one level fewer, where there is one
unfoldable pub inner_expr : ℕ → Symbol Expr
inner_expr zero = never
inner_expr (suc n) = expr n

unfoldable pub inner_unary : ℕ → Symbol Expr
inner_unary zero = never
inner_unary (suc n) = unary n

abbrev pub args_at : ℕ → Symbol (List Expr)
args_at n = args n (inner_expr n) (inner_unary n)

abbrev pub bracketed_at : ℕ → Symbol Expr
bracketed_at n = bracketed n (inner_expr n) (inner_unary n)

abbrev pub sum_at : ℕ → Symbol Expr
sum_at n = sum n (inner_expr n) (inner_unary n)

abbrev pub place : ℕ → Symbol Expr
place n = place_line n (inner_expr n) (inner_unary n)

abbrev pub call : ℕ → Symbol Expr
call n = call_line n (inner_expr n) (inner_unary n)
