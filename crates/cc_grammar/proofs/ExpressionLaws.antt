-- Each symbol of expressions is read exactly.
use Rattle.std.proofs.Common.{ℕ, zero, suc, pred, true, false, [], ◌∷◌, ◌++◌, Some, None, refl}
use Rattle.cc_lexer.specs.declared.token.TokenKind.TheVariants as k
use Rattle.cc_lexer.specs.declared.token.Keyword.TheVariants.{This, Null, New, Sync, Int}
use Rattle.cc_lexer.specs.declared.token.Mark.{Mark}
use Rattle.cc_lexer.specs.declared.token.Mark.TheVariants as m
use Rattle.cc_tree.specs.declared.expressions.UnaryOp.{UnaryOp}
use Rattle.cc_tree.specs.declared.expressions.BinaryOp.{BinaryOp}
use Rattle.cc_tree.specs.declared.expressions.Expr.{Expr}
use Rattle.cc_grammar.specs.declared.parts.Precedence.{Precedence}
use Rattle.cc_grammar.specs.declared.parts.Precedence.TheVariants.{Or, And, Equality, Order, Sum, Product}
use Rattle.cc_grammar.specs.Kinds.{Kinds, kinds, code}
use Rattle.cc_grammar.specs.Symbol.{Symbol, never as g_never, word as g_word, pure as g_pure, ◌>>=◌}
use Rattle.cc_grammar.specs.Symbol as y
use Rattle.cc_grammar.specs.Reading.{Reader, too_deep, at_mark, at_word}
use Rattle.cc_grammar.specs.Expressions as g
use Rattle.cc_grammar.specs.ReadExpressions as r
use Rattle.cc_grammar.specs.ReadExpressions.{first_root, first_prim, first_expr, first_tail, goes_unary, goes_product, goes_sum, goes_order, goes_equal, goes_and, goes_expr}
use Rattle.cc_grammar.proofs.Levels.{IsPositive}
use Rattle.cc_grammar.proofs.Rules.{Reads, word, mark, name, number, pure, seq, either, many, declared, kept, or_else, opt, has_word, nested, alone}
use Rattle.cc_grammar.proofs.Same.{Same, by_same, factor}

pub dot : {n : ℕ} → Reads n r.dot r.dot g.dot (kinds (k.Mark m.Dot ∷ k.Mark m.Arrow ∷ [])) [] false
unfolding r.dot
dot = either (kept _ (mark m.Dot)) (kept _ (mark m.Arrow)) refl

operator_by : {n : ℕ} (m : Mark) (op : BinaryOp) → Reads n (r.operator_by m op) (r.operator_by m op) (g.operator m op) (at_mark m) [] false
operator_by m op = kept _ (mark m)

module _ {n : ℕ} {o p : Reader Expr} {s : Symbol Expr} where
  pub listed : Reads n o p s first_expr goes_expr false → Reads n (r.listed first_expr o) (r.listed first_expr p) (y.listed s) first_expr (code (k.Mark m.Comma) ∷ (goes_expr ++ first_expr)) true
  unfolding r.listed r.commas r.after_comma
  listed l = declared _ _ (or_else _ (seq l (λ x. seq (many (seq (mark m.Comma) (λ _. l) refl) refl) (λ xs. pure (x ∷ xs)) refl) refl)) refl refl

module _ (n : ℕ) (oe ou re ru : Reader Expr) (ge gu : Symbol Expr) (inner : IsPositive n → Reads (pred n) oe re ge first_expr goes_expr false) (prefixed : IsPositive n → Reads (pred n) ou ru gu first_expr goes_unary false) where
  pub args : Reads n (r.args (pred n) oe ou) (r.args n re ru) (g.args n ge gu) (at_mark m.OpenParen) [] false
  unfolding r.args g.args
  args = nested n (k.Mark m.OpenParen) (λ i _. seq (listed (inner i)) (λ xs. seq (mark m.CloseParen) (λ _. pure xs) refl) refl)

  pub maybe_args : Reads n (r.maybe_args (pred n) oe ou) (r.maybe_args n re ru) (y.opt (g.args n ge gu)) (at_mark m.OpenParen) (at_mark m.OpenParen) true
  unfolding r.maybe_args
  maybe_args = opt args

  pub bracketed : Reads n (r.bracketed (pred n) oe ou) (r.bracketed n re ru) (g.bracketed n ge gu) (at_mark m.OpenBracket) [] false
  unfolding r.bracketed g.bracketed
  bracketed = nested n (k.Mark m.OpenBracket) (λ i _. seq (inner i) (λ x. seq (mark m.CloseBracket) (λ _. pure x) refl) refl)

  pub maybe_bracketed : Reads n (r.maybe_bracketed (pred n) oe ou) (r.maybe_bracketed n re ru) (y.opt (g.bracketed n ge gu)) (at_mark m.OpenBracket) (at_mark m.OpenBracket) true
  unfolding r.maybe_bracketed
  maybe_bracketed = opt bracketed

  pub paren : Reads n (r.paren (pred n) oe ou) (r.paren n re ru) (g.paren n ge gu) (at_mark m.OpenParen) [] false
  unfolding r.paren g.paren
  paren = nested n (k.Mark m.OpenParen) (λ i line. seq (inner i) (λ x. seq (mark m.CloseParen) (λ _. pure _) refl) refl)

  pub tail : Reads n (r.tail (pred n) oe ou) (r.tail n re ru) (g.tail n ge gu) first_tail (at_mark m.OpenParen) false
  unfolding r.tail r.index r.member g.tail
  tail = declared _ _ (either (kept _ bracketed) (seq dot (λ arrow. seq name (λ t. seq maybe_args (λ xs. pure _) refl) refl) refl) refl) refl refl

  pub tails : Reads n (r.tails (pred n) oe ou) (r.tails n re ru) (y.many (g.tail n ge gu)) first_tail goes_unary true
  unfolding r.tails
  tails = declared _ _ (many tail refl) refl refl

  pub root : Reads n (r.root (pred n) oe ou) (r.root n re ru) (g.root n ge gu) first_root (at_mark m.OpenParen) false
  unfolding r.root r.named_root r.this g.root
  root = declared _ _ (either (seq name (λ t. seq maybe_args (λ xs. pure _) refl) refl) (either (kept _ (word This)) paren refl) refl) refl refl

  pub prim : Reads n (r.prim (pred n) oe ou) (r.prim n re ru) (g.prim n ge gu) first_prim (at_mark m.OpenParen) false
  unfolding r.prim r.literal r.null g.prim
  prim = declared _ _ (either (kept _ number) (either (kept _ (word Null)) root refl) refl) refl refl

  pub prefix : (m : Mark) (op : UnaryOp) → Reads n (r.prefix (pred n) oe ou m op) (r.prefix n re ru m op) (g.prefix n ge gu m op) (at_mark m) goes_unary false
  unfolding r.prefix g.prefix
  prefix m op = nested n (k.Mark m) (λ i line. seq (prefixed i) (λ x. pure _) refl)

  pub creation : Reads n (r.creation (pred n) oe ou) (r.creation n re ru) (g.creation n ge gu) (at_word New) (kinds (k.Mark m.OpenBracket ∷ k.Mark m.OpenParen ∷ [])) false
  unfolding r.creation r.new_int r.new_object g.creation
  creation =
      by_same (factor (g_word New) _ _) (declared _ _ (seq (word New) (λ line.
      either (seq (has_word Sync) (λ once. seq (word Int) (λ _. seq maybe_bracketed (λ x. pure _) refl) refl) refl)
      (seq name (λ t. seq maybe_args (λ xs. pure _) refl) refl) refl) refl) refl refl)

  pub postfix : Reads n (r.postfix (pred n) oe ou) (r.postfix n re ru) (g.postfix n ge gu) first_prim goes_unary false
  unfolding r.postfix g.postfix
  postfix = declared _ _ (seq prim (λ x. seq tails (λ xs. pure _) refl) refl) refl refl

  pub unary_line : Reads n (r.unary_line (pred n) oe ou) (r.unary_line n re ru) (g.unary_line n ge gu) first_expr goes_unary false
  unfolding r.unary_line g.unary_line
  unary_line = declared _ _
      (either (prefix m.Minus _)
      (either (prefix m.Not _)
      (either (prefix m.Star _)
      (either (prefix m.Ampersand _)
      (either creation postfix refl) refl) refl) refl) refl) refl refl

  pub product : Reads n (r.product (pred n) oe ou) (r.product n re ru) (g.product n ge gu) first_expr goes_product false
  unfolding r.product r.links r.link r.operators r.operator r.product_operator g.product
  product = declared _ _ (seq unary_line (λ x. seq (many (seq
      (either (operator_by m.Star _) (either (operator_by m.Slash _) (operator_by m.Percent _) refl) refl) (λ o. seq unary_line (λ y. pure _) refl) refl) refl) (λ xs. pure _) refl) refl) refl refl

  pub sum : Reads n (r.sum (pred n) oe ou) (r.sum n re ru) (g.sum n ge gu) first_expr goes_sum false
  unfolding r.sum r.links r.link r.operators r.operator r.sum_operator g.sum
  sum = declared _ _ (seq product (λ x. seq (many (seq
      (either (operator_by m.Plus _) (operator_by m.Minus _) refl) (λ o. seq product (λ y. pure _) refl) refl) refl) (λ xs. pure _) refl) refl) refl refl

  pub order : Reads n (r.order (pred n) oe ou) (r.order n re ru) (g.order n ge gu) first_expr goes_order false
  unfolding r.order r.links r.link r.operators r.operator r.order_operator g.order
  order = declared _ _ (seq sum (λ x. seq (many (seq
      (either (operator_by m.Less _) (either (operator_by m.LessEqual _) (either (operator_by m.Greater _) (operator_by m.GreaterEqual _) refl) refl) refl) (λ o. seq sum (λ y. pure _) refl) refl) refl) (λ xs. pure _) refl) refl) refl refl

  pub equal : Reads n (r.equal (pred n) oe ou) (r.equal n re ru) (g.equal n ge gu) first_expr goes_equal false
  unfolding r.equal r.links r.link r.operators r.operator r.equality_operator g.equal
  equal = declared _ _ (seq order (λ x. seq (many (seq
      (either (operator_by m.Equal _) (operator_by m.NotEqual _) refl) (λ o. seq order (λ y. pure _) refl) refl) refl) (λ xs. pure _) refl) refl) refl refl

  pub conjunction : Reads n (r.conjunction (pred n) oe ou) (r.conjunction n re ru) (g.conjunction n ge gu) first_expr goes_and false
  unfolding r.conjunction r.links r.link r.operators r.operator g.conjunction
  conjunction = declared _ _ (seq equal (λ x. seq (many (seq (operator_by m.And _) (λ o. seq equal (λ y. pure _) refl) refl) refl) (λ xs. pure _) refl) refl) refl refl

  pub expr_line : Reads n (r.expr_line (pred n) oe ou) (r.expr_line n re ru) (g.expr_line n ge gu) first_expr goes_expr false
  unfolding r.expr_line r.links r.link r.operators r.operator g.expr_line
  expr_line = declared _ _ (seq conjunction (λ x. seq (many (seq (operator_by m.Or _) (λ o. seq conjunction (λ y. pure _) refl) refl) refl) (λ xs. pure _) refl) refl) refl refl

-- ---- within so many levels

pub none : {A : Type 0} → IsPositive zero → A
none i = absurd i

mutual
  unfolding r.unary g.unary

  pub unary : (n : ℕ) → Reads n (r.unary (pred n)) (r.unary n) (g.unary n) first_expr goes_unary false
  unary zero = unary_line zero too_deep too_deep too_deep too_deep g_never g_never none none
  unary (suc zero) = unary_line (suc zero) too_deep too_deep (r.expr zero) (r.unary zero) (g.expr zero) (g.unary zero) (λ _. alone (expr zero)) (λ _. alone (unary zero))
  unary (suc (suc n)) = unary_line (suc (suc n)) (r.expr n) (r.unary n) (r.expr (suc n)) (r.unary (suc n)) (g.expr (suc n)) (g.unary (suc n)) (λ _. expr (suc n)) (λ _. unary (suc n))

  pub expr : (n : ℕ) → Reads n (r.expr (pred n)) (r.expr n) (g.expr n) first_expr goes_expr false
  expr zero = expr_line zero too_deep too_deep too_deep too_deep g_never g_never none none
  expr (suc zero) = expr_line (suc zero) too_deep too_deep (r.expr zero) (r.unary zero) (g.expr zero) (g.unary zero) (λ _. alone (expr zero)) (λ _. alone (unary zero))
  expr (suc (suc n)) = expr_line (suc (suc n)) (r.expr n) (r.unary n) (r.expr (suc n)) (r.unary (suc n)) (g.expr (suc n)) (g.unary (suc n)) (λ _. expr (suc n)) (λ _. unary (suc n))

pub inner_expr : (n : ℕ) → IsPositive n → Reads (pred n) (r.inner_expr (pred n)) (r.inner_expr n) (g.inner_expr n) first_expr goes_expr false
unfolding r.inner_expr g.inner_expr
inner_expr zero i = absurd i
inner_expr (suc zero) i = alone (expr zero)
inner_expr (suc (suc n)) i = expr (suc n)

pub inner_unary : (n : ℕ) → IsPositive n → Reads (pred n) (r.inner_unary (pred n)) (r.inner_unary n) (g.inner_unary n) first_expr goes_unary false
unfolding r.inner_unary g.inner_unary
inner_unary zero i = absurd i
inner_unary (suc zero) i = alone (unary zero)
inner_unary (suc (suc n)) i = unary (suc n)
