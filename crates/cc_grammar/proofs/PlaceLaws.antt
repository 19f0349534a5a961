-- Places and calls are read exactly, alone and with what makes statements of them.
use Rattle.std.proofs.Common.{◌≡◌, ℕ, zero, suc, pred, Bool, true, false, List, [], ◌∷◌, ◌++◌, Some, refl}
use Rattle.cc_lexer.specs.declared.token.TokenKind.TheVariants as k
use Rattle.cc_lexer.specs.declared.token.Mark.TheVariants as m
use Rattle.cc_tree.specs.declared.expressions.Expr.{Expr}
use Rattle.cc_tree.specs.declared.expressions.UnaryOp.TheVariants as unary_op
use Rattle.cc_grammar.specs.declared.parts.Ending.{Ending}
use Rattle.cc_grammar.specs.declared.parts.Ending.TheVariants.{Place, Call, Neither}
use Rattle.cc_grammar.specs.Lexeme.{Lexemes}
use Rattle.cc_grammar.specs.Kinds.{Kinds, kinds, is_within}
use Rattle.cc_grammar.specs.Symbol.{Symbol, ◌>>=◌, ◌or◌}
use Rattle.cc_grammar.specs.Symbol as y
use Rattle.cc_grammar.specs.Nodes.{posted}
use Rattle.cc_grammar.specs.Endings.{ending}
use Rattle.cc_grammar.specs.Reading.{Reader, at_mark}
use Rattle.cc_grammar.specs.Expressions as g
use Rattle.cc_grammar.specs.ReadExpressions as r
use Rattle.cc_grammar.specs.ReadExpressions.{first_root, first_tail, goes_unary}
use Rattle.cc_grammar.proofs.Fronts.{Fronts}
use Rattle.cc_grammar.proofs.Fronts as fronts
use Rattle.cc_grammar.proofs.Rules.{Reads, name, pure, never, seq, either, maybe, declared}
use Rattle.cc_grammar.proofs.Same.{Same, same, ◌then◌, same_or, spread, whole, by_same}
use Rattle.cc_grammar.proofs.ExpressionLaws.{inner_expr, inner_unary}
use Rattle.cc_grammar.proofs.ExpressionLaws as expressions
use Rattle.cc_grammar.proofs.DeclarationLaws.{args_at}
use Rattle.cc_grammar.proofs.Chains.{by_ending, chained, places_going, calls_going}
use Rattle.cc_grammar.proofs.Chains as chains

-- whatever the end is
pub ended : {A : Type 0} {n : ℕ} {o p u q : Reader A} {s t : Symbol A} {f1 g1 f2 g2 : Kinds} {e1 e2 : Bool} (f goes : Kinds) (w : Ending) → Reads n o p s f1 g1 e1 → Reads n u q t f2 g2 e2
    → is_within f1 f ≡ true → is_within g1 goes ≡ true → is_within f2 f ≡ true → is_within g2 goes ≡ true
    → Reads n (r.by_ending w o u) (r.by_ending w p q) (by_ending w s t) f goes true
ended f goes Place l v h i j w = maybe (declared f goes l h i)
ended f goes Call l v h i j w = maybe (declared f goes v j w)
ended f goes Neither l v h i j w = maybe (declared f goes never refl refl)

module _ (n : ℕ) where
  pub root : Reads n (r.root (pred n) (r.inner_expr (pred n)) (r.inner_unary (pred n))) (r.root n (r.inner_expr n) (r.inner_unary n)) (g.root n (g.inner_expr n) (g.inner_unary n)) first_root (at_mark m.OpenParen) false
  root = expressions.root n _ _ _ _ _ _ (inner_expr n) (inner_unary n)

  pub tails : Reads n (r.tails (pred n) (r.inner_expr (pred n)) (r.inner_unary (pred n))) (r.tails n (r.inner_expr n) (r.inner_unary n)) (y.many (g.tail n (g.inner_expr n) (g.inner_unary n))) first_tail goes_unary true
  tails = expressions.tails n _ _ _ _ _ _ (inner_expr n) (inner_unary n)

  pub deref : Reads n (r.deref (pred n)) (r.deref n) (g.prefix n (g.inner_expr n) (g.inner_unary n) m.Star unary_op.Deref) (at_mark m.Star) goes_unary false
  deref = expressions.prefix n _ _ _ _ _ _ (inner_expr n) (inner_unary n) m.Star _

  tail : Fronts (g.tail n (g.inner_expr n) (g.inner_unary n))
  tail = (expressions.tail n _ _ _ _ _ _ (inner_expr n) (inner_unary n)).fronts

  abbrev pub places : Symbol Expr
  places = chains.places n (g.inner_expr n) (g.inner_unary n)

  abbrev pub calls : Symbol Expr
  calls = chains.calls n (g.inner_expr n) (g.inner_unary n)

  abbrev pub going_on : {A : Type 0} → (Expr → Symbol A) → (Expr → Symbol A) → Symbol A
  going_on kp kc = chains.going_on n (g.inner_expr n) (g.inner_unary n) kp kc

  dot : Fronts g.dot
  dot = (expressions.dot {n = n}).fronts

  places_fronts : Fronts places
  unfolding g.name_alone g.chain g.place_tail
  places_fronts =
      fronts.either (fronts.seq (fronts.token _ _) (λ t. fronts.pure _))
      (fronts.seq root.fronts (λ x. fronts.seq tails.fronts (λ xs. fronts.seq (fronts.either
      (fronts.seq (expressions.bracketed n _ _ _ _ _ _ (inner_expr n) (inner_unary n)).fronts (λ x. fronts.pure _))
      (fronts.seq dot (λ arrow. fronts.seq (fronts.token _ _) (λ t. fronts.pure _)))) (λ l. fronts.pure _))))

  calls_fronts : Fronts calls
  unfolding g.name_called g.chain g.call_tail
  calls_fronts =
      fronts.either (fronts.seq (fronts.token _ _) (λ t. fronts.seq (args_at n).fronts (λ xs. fronts.pure _)))
      (fronts.seq root.fronts (λ x. fronts.seq tails.fronts (λ xs. fronts.seq
      (fronts.seq dot (λ arrow. fronts.seq (fronts.token _ _) (λ t. fronts.seq (args_at n).fronts (λ xs. fronts.pure _)))) (λ l. fronts.pure _))))

  -- a chain that goes on by its end
  pub chained_by : {A : Type 0} (kp kc : Expr → Symbol A) → Same ((places >>= kp) or (calls >>= kc)) (going_on kp kc)
  chained_by kp kc = chained n (g.inner_expr n) (g.inner_unary n) tail.none kp kc

  place_same : Same (g.place n) (g.prefix n (g.inner_expr n) (g.inner_unary n) m.Star unary_op.Deref or going_on y.pure (λ _. y.never))
  unfolding g.place_line
  place_same = same_or (same (g.prefix n (g.inner_expr n) (g.inner_unary n) m.Star unary_op.Deref)) (whole places_fronts then places_going n (g.inner_expr n) (g.inner_unary n) tail.none y.pure calls_fronts.full)

  call_same : Same (g.call n) (going_on (λ _. y.never) y.pure)
  unfolding g.call_line
  call_same = whole calls_fronts then calls_going n (g.inner_expr n) (g.inner_unary n) tail.none y.pure places_fronts.full

  pub place : Reads n (r.place (pred n)) (r.place n) (g.place n) (at_mark m.Star ++ first_root) goes_unary false
  unfolding r.place_line r.place_chain
  place = by_same place_same (declared _ _ (either deref (seq root (λ x. seq tails (λ xs. ended [] [] (ending x xs) (pure (posted x xs)) never refl refl refl refl) refl) refl) refl) refl refl)

  pub call : Reads n (r.call (pred n)) (r.call n) (g.call n) first_root goes_unary false
  unfolding r.call_line
  call = by_same call_same (declared _ _ (seq root (λ x. seq tails (λ xs. ended [] [] (ending x xs) never (pure (posted x xs)) refl refl refl refl) refl) refl) refl refl)
