-- Reading expressions, places and calls.
use Rattle.std.specs.Prelude.{ℕ, zero, suc, pos, Bool, true, false, List, [], ◌∷◌, ◌++◌, Option, Some, None}
use Rattle.cc_lexer.specs.declared.token.TokenKind.TheVariants as k
use Rattle.cc_lexer.specs.declared.token.Keyword.TheVariants.{This, Null, New, Sync, Int}
use Rattle.cc_lexer.specs.declared.token.Mark.{Mark}
use Rattle.cc_lexer.specs.declared.token.Mark.TheVariants as m
use Rattle.cc_tree.specs.declared.expressions.UnaryOp.{UnaryOp}
use Rattle.cc_tree.specs.declared.expressions.UnaryOp.TheVariants as unary_op
use Rattle.cc_tree.specs.declared.expressions.BinaryOp.{BinaryOp}
use Rattle.cc_tree.specs.declared.expressions.BinaryOp.TheVariants as binary_op
use Rattle.cc_tree.specs.declared.expressions.Expr.{Expr}
use Rattle.cc_tree.specs.declared.expressions.ExprKind.TheVariants as e
use Rattle.cc_tree.specs.declared.expressions.Suffix.{Suffix}
use Rattle.cc_tree.specs.declared.expressions.Suffix.TheVariants as suffix
use Rattle.cc_tree.specs.declared.expressions.Link.{Link}
use Rattle.cc_grammar.specs.declared.parts.Ending.{Ending}
use Rattle.cc_grammar.specs.declared.parts.Ending.TheVariants.{Place, Call, Neither}
use Rattle.cc_grammar.specs.declared.parts.Precedence.{Precedence}
use Rattle.cc_grammar.specs.declared.parts.Precedence.TheVariants.{Or, And, Equality, Order, Sum, Product}
use Rattle.cc_grammar.specs.Kinds.{Kinds, kinds}
use Rattle.cc_grammar.specs.Nodes.{node, chained, linked, prefixed, posted, named, member_of, args_of}
use Rattle.cc_grammar.specs.Endings.{ending}
use Rattle.cc_grammar.specs.Reading.{Reader, word, mark, open_mark, name, number, pure, ◌>>=◌, ◌>>◌, choose, many, opt, has_word, at_word, at_mark, at_name, at_number, refuse, too_deep}

-- ---- sets of kinds: what begins a symbol, and with what a whole one may go on

abbrev pub first_root : Kinds
first_root = kinds (k.Name ∷ k.Word This ∷ k.Mark m.OpenParen ∷ [])

abbrev pub first_prim : Kinds
first_prim = kinds (k.Int (pos 0) ∷ k.Word Null ∷ []) ++ first_root

abbrev pub first_expr : Kinds
first_expr = kinds (k.Mark m.Minus ∷ k.Mark m.Not ∷ k.Mark m.Star ∷ k.Mark m.Ampersand ∷ k.Word New ∷ []) ++ first_prim

abbrev pub first_tail : Kinds
first_tail = kinds (k.Mark m.OpenBracket ∷ k.Mark m.Dot ∷ k.Mark m.Arrow ∷ [])

-- what a unary, a sum and an expression may go on with
abbrev pub goes_unary : Kinds
goes_unary = kinds (k.Mark m.OpenParen ∷ []) ++ first_tail

abbrev pub goes_product : Kinds
goes_product = kinds (k.Mark m.Star ∷ k.Mark m.Slash ∷ k.Mark m.Percent ∷ []) ++ goes_unary

abbrev pub goes_sum : Kinds
goes_sum = kinds (k.Mark m.Plus ∷ k.Mark m.Minus ∷ []) ++ goes_product

abbrev pub goes_order : Kinds
goes_order = kinds (k.Mark m.Less ∷ k.Mark m.LessEqual ∷ k.Mark m.Greater ∷ k.Mark m.GreaterEqual ∷ []) ++ goes_sum

abbrev pub goes_equal : Kinds
goes_equal = kinds (k.Mark m.Equal ∷ k.Mark m.NotEqual ∷ []) ++ goes_order

abbrev pub goes_and : Kinds
goes_and = kinds (k.Mark m.And ∷ []) ++ goes_equal

abbrev pub goes_expr : Kinds
goes_expr = kinds (k.Mark m.Or ∷ []) ++ goes_and

-- ---- operators

unfoldable pub dot : Reader Bool
dot = choose (at_mark m.Dot) (mark m.Dot >> pure false) (mark m.Arrow >> pure true)

abbrev pub operator_by : Mark → BinaryOp → Reader BinaryOp
operator_by m op = mark m >> pure op

unfoldable pub operators : Precedence → Kinds
operators Or = at_mark m.Or
operators And = at_mark m.And
operators Equality = kinds (k.Mark m.Equal ∷ k.Mark m.NotEqual ∷ [])
operators Order = kinds (k.Mark m.Less ∷ k.Mark m.LessEqual ∷ k.Mark m.Greater ∷ k.Mark m.GreaterEqual ∷ [])
operators Sum = kinds (k.Mark m.Plus ∷ k.Mark m.Minus ∷ [])
operators Product = kinds (k.Mark m.Star ∷ k.Mark m.Slash ∷ k.Mark m.Percent ∷ [])

unfoldable pub equality_operator : Reader BinaryOp
equality_operator = choose (at_mark m.Equal) (operator_by m.Equal binary_op.Eq) (operator_by m.NotEqual binary_op.Ne)

unfoldable pub order_operator : Reader BinaryOp
order_operator =
    choose (at_mark m.Less) (operator_by m.Less binary_op.Lt)
    (choose (at_mark m.LessEqual) (operator_by m.LessEqual binary_op.Le)
    (choose (at_mark m.Greater) (operator_by m.Greater binary_op.Gt) (operator_by m.GreaterEqual binary_op.Ge)))

unfoldable pub sum_operator : Reader BinaryOp
sum_operator = choose (at_mark m.Plus) (operator_by m.Plus binary_op.Add) (operator_by m.Minus binary_op.Sub)

unfoldable pub product_operator : Reader BinaryOp
product_operator =
    choose (at_mark m.Star) (operator_by m.Star binary_op.Mul)
    (choose (at_mark m.Slash) (operator_by m.Slash binary_op.Div) (operator_by m.Percent binary_op.Rem))

unfoldable pub operator : Precedence → Reader BinaryOp
operator Or = operator_by m.Or binary_op.Or
operator And = operator_by m.And binary_op.And
operator Equality = equality_operator
operator Order = order_operator
operator Sum = sum_operator
operator Product = product_operator

-- an operator with the operand after it
unfoldable pub link : Precedence → Reader Expr → Reader Link
link p operand = do
  op ← operator p
  part ← operand
  pure (linked op part)

unfoldable pub links : Precedence → Reader Expr → Reader (List Link)
links p operand = many (operators p) (link p operand)

abbrev pub level : Precedence → Reader Expr → Reader Expr
level p operand = do
  first ← operand
  rest ← links p operand
  pure (chained first rest)

-- ---- lists

unfoldable pub after_comma : {A : Type 0} → Reader A → Reader A
after_comma p = mark m.Comma >> p

unfoldable pub commas : {A : Type 0} → Reader A → Reader (List A)
commas p = many (at_mark m.Comma) (after_comma p)

unfoldable pub listed : {A : Type 0} → Kinds → Reader A → Reader (List A)
listed first p = choose first (do x ← p; xs ← commas p; pure (x ∷ xs)) (pure [])

-- ---- how a chain goes on is told by its end

abbrev pub by_ending : {A : Type 0} → Ending → Reader A → Reader A → Reader A
by_ending Place p q = p
by_ending Call p q = q
by_ending Neither p q = refuse

-- ---- each line

module _ (n : ℕ) (expr unary : Reader Expr) where
  unfoldable pub args : Reader (List Expr)
  args = do
    open_mark n m.OpenParen
    xs ← listed first_expr expr
    mark m.CloseParen
    pure xs

  unfoldable pub maybe_args : Reader (Option (List Expr))
  maybe_args = opt (at_mark m.OpenParen) args

  unfoldable pub bracketed : Reader Expr
  bracketed = do
    open_mark n m.OpenBracket
    x ← expr
    mark m.CloseBracket
    pure x

  unfoldable pub maybe_bracketed : Reader (Option Expr)
  maybe_bracketed = opt (at_mark m.OpenBracket) bracketed

  unfoldable pub paren : Reader Expr
  paren = do
    line ← open_mark n m.OpenParen
    x ← expr
    mark m.CloseParen
    pure (node (e.Paren x) line)

  unfoldable pub index : Reader Suffix
  index = do
    x ← bracketed
    pure (suffix.Index x)

  unfoldable pub member : Reader Suffix
  member = do
    arrow ← dot
    t ← name
    xs ← maybe_args
    pure (member_of arrow t xs)

  unfoldable pub tail : Reader Suffix
  tail = choose (at_mark m.OpenBracket) index member

  unfoldable pub tails : Reader (List Suffix)
  tails = many first_tail tail

  unfoldable pub named_root : Reader Expr
  named_root = do
    t ← name
    xs ← maybe_args
    pure (named t xs)

  unfoldable pub this : Reader Expr
  this = do
    line ← word This
    pure (node e.This line)

  unfoldable pub root : Reader Expr
  root = choose at_name named_root (choose (at_word This) this paren)

  unfoldable pub literal : Reader Expr
  literal = do
    i ← number
    pure (node (e.Int i.value) i.line)

  unfoldable pub null : Reader Expr
  null = do
    line ← word Null
    pure (node e.Null line)

  unfoldable pub prim : Reader Expr
  prim = choose at_number literal (choose (at_word Null) null root)

  unfoldable pub prefix : Mark → UnaryOp → Reader Expr
  prefix m op = do
    line ← open_mark n m
    x ← unary
    pure (prefixed op x line)

  -- after `new`
  unfoldable pub new_object : ℕ → Reader Expr
  new_object line = do
    t ← name
    xs ← maybe_args
    pure (node (e.NewClass t.text (args_of xs)) line)

  unfoldable pub new_int : ℕ → Reader Expr
  new_int line = do
    once ← has_word Sync
    word Int
    x ← maybe_bracketed
    pure (node (e.NewInt once x) line)

  unfoldable pub creation : Reader Expr
  creation = do
    line ← word New
    choose (kinds (k.Word Sync ∷ k.Word Int ∷ [])) (new_int line) (new_object line)

  unfoldable pub postfix : Reader Expr
  postfix = do
    x ← prim
    xs ← tails
    pure (posted x xs)

  unfoldable pub unary_line : Reader Expr
  unary_line =
      choose (at_mark m.Minus) (prefix m.Minus unary_op.Neg)
      (choose (at_mark m.Not) (prefix m.Not unary_op.Not)
      (choose (at_mark m.Star) (prefix m.Star unary_op.Deref)
      (choose (at_mark m.Ampersand) (prefix m.Ampersand unary_op.Address)
      (choose (at_word New) creation postfix))))

  unfoldable pub product : Reader Expr
  product = level Product unary_line

  unfoldable pub sum : Reader Expr
  sum = level Sum product

  unfoldable pub order : Reader Expr
  order = level Order sum

  unfoldable pub equal : Reader Expr
  equal = level Equality order

  unfoldable pub conjunction : Reader Expr
  conjunction = level And equal

  unfoldable pub expr_line : Reader Expr
  expr_line = level Or conjunction

  -- what stands between the operators of a precedence
  unfoldable pub operand : Precedence → Reader Expr
  operand Or = conjunction
  operand And = equal
  operand Equality = order
  operand Order = sum
  operand Sum = product
  operand Product = unary_line

  -- a root with its tails, which goes on by its end
  abbrev pub chain : {A : Type 0} → (Expr → Reader A) → (Expr → Reader A) → Reader A
  chain place call = do
    x ← root
    xs ← tails
    by_ending (ending x xs) (place (posted x xs)) (call (posted x xs))

  unfoldable pub place_chain : Reader Expr
  place_chain = chain pure (λ _. refuse)

  unfoldable pub place_line : Reader Expr
  place_line = choose (at_mark m.Star) (prefix m.Star unary_op.Deref) place_chain

  unfoldable pub call_line : Reader Expr
  call_line = chain (λ _. refuse) pure

-- ---- within so many levels

unfoldable mutual
  pub unary : ℕ → Reader Expr
  unary zero = unary_line zero too_deep too_deep
  unary (suc n) = unary_line (suc n) (expr n) (unary n)

  pub expr : ℕ → Reader Expr
  expr zero = expr_line zero too_deep too_deep
  expr (suc n) = expr_line (suc n) (expr n) (unary n)

-- with one level fewer, where there is one
unfoldable pub inner_expr : ℕ → Reader Expr
inner_expr zero = too_deep
inner_expr (suc n) = expr n

unfoldable pub inner_unary : ℕ → Reader Expr
inner_unary zero = too_deep
inner_unary (suc n) = unary n

-- a line within so many levels
abbrev pub at_level : {A : Type 0} → (ℕ → Reader Expr → Reader Expr → Reader A) → ℕ → Reader A
at_level line n = line n (inner_expr n) (inner_unary n)

abbrev pub args_at : ℕ → Reader (List Expr)
args_at = at_level args

abbrev pub maybe_bracketed_at : ℕ → Reader (Option Expr)
maybe_bracketed_at = at_level maybe_bracketed

abbrev pub sum_at : ℕ → Reader Expr
sum_at = at_level sum

abbrev pub deref : ℕ → Reader Expr
deref n = prefix n (inner_expr n) (inner_unary n) m.Star unary_op.Deref

abbrev pub place : ℕ → Reader Expr
place = at_level place_line

abbrev pub call : ℕ → Reader Expr
call = at_level call_line
