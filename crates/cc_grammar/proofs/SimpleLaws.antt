-- Simple statements are read exactly.
use Rattle.std.proofs.Common.{◌≡◌, ℕ, pred, Bool, true, false, List, [], ◌∷◌, ◌++◌, Option, Some, None, ◌⊎◌, inl, inr, refl, ◌∙◌, sym}
use Rattle.cc_lexer.specs.declared.token.TokenKind.TheVariants as k
use Rattle.cc_lexer.specs.declared.token.Keyword.TheVariants.{This}
use Rattle.cc_lexer.specs.declared.token.Mark.TheVariants as m
use Rattle.cc_tree.specs.declared.expressions.Expr.{Expr}
use Rattle.cc_tree.specs.declared.expressions.ExprKind.TheVariants as e
use Rattle.cc_tree.specs.declared.expressions.Suffix.{Suffix}
use Rattle.cc_tree.specs.declared.expressions.UnaryOp.TheVariants as unary_op
use Rattle.cc_tree.specs.declared.statements.AssignOp.{AssignOp}
use Rattle.cc_tree.specs.declared.statements.Stmt.{Stmt}
use Rattle.cc_tree.specs.declared.statements.StmtKind.TheVariants as s
use Rattle.cc_grammar.specs.declared.parts.Name.{Name}
use Rattle.cc_grammar.specs.declared.parts.Ending.TheVariants.{Place}
use Rattle.cc_grammar.specs.Lexeme.{Lexemes}
use Rattle.cc_grammar.specs.Kinds.{Kinds, kinds}
use Rattle.cc_grammar.specs.Symbol.{Symbol, ◌>>=◌, ◌>>◌, ◌or◌}
use Rattle.cc_grammar.specs.Symbol as y
use Rattle.cc_grammar.specs.Nodes.{named, node, posted, one, stated, assigned, called}
use Rattle.cc_grammar.specs.Endings.{ending, root_ending}
use Rattle.cc_grammar.specs.Reading.{Reader, at_mark}
use Rattle.cc_grammar.specs.Reading as rd
use Rattle.cc_grammar.specs.Expressions as ge
use Rattle.cc_grammar.specs.Statements as g
use Rattle.cc_grammar.specs.ReadExpressions as re
use Rattle.cc_grammar.specs.ReadExpressions.{first_root, first_tail, goes_unary, goes_expr}
use Rattle.cc_grammar.specs.ReadStatements as r
use Rattle.cc_grammar.specs.ReadStatements.{first_assign, first_count, first_simple}
use Rattle.cc_grammar.proofs.Sets.{Begins, begins_within}
use Rattle.cc_grammar.proofs.Rules.{Reads, mark, word, pure, seq, either, kept, declared}
use Rattle.cc_grammar.proofs.Same.{Same, same, ◌then◌, back, same_or, under, factor, spread, regroup, forward, nest, unit, by_same}
use Rattle.cc_grammar.proofs.Follows.{Follows, MayBeName, follows_or, follows_same, follows_seq, follows_other, follows_name}
use Rattle.cc_grammar.proofs.ExpressionLaws.{expr, inner_expr, inner_unary}
use Rattle.cc_grammar.proofs.ExpressionLaws as expressions
use Rattle.cc_grammar.proofs.DeclarationLaws.{args_at}
use Rattle.cc_grammar.proofs.PlaceLaws.{ended, root, tails, deref, places, calls, going_on, chained_by, place}
use Rattle.cc_grammar.proofs.Chains.{by_ending}
use Rattle.cc_grammar.proofs.Chains as chains

-- what follows a name with which a statement begins
abbrev pub seconds : Kinds
seconds = at_mark m.OpenParen ++ first_tail ++ first_assign ++ first_count

-- ---- what makes a place a statement

assign : {n : ℕ} → Reads n r.assign r.assign g.assign first_assign [] false
unfolding r.assign g.assign
assign =
    either (kept _ (mark m.Assign))
    (either (kept _ (mark m.PlusAssign))
    (either (kept _ (mark m.MinusAssign))
    (either (kept _ (mark m.StarAssign))
    (either (kept _ (mark m.SlashAssign)) (kept _ (mark m.PercentAssign)) refl) refl) refl) refl) refl

count : {n : ℕ} → Reads n r.count r.count g.count first_count [] false
unfolding r.count g.count
count = either (kept _ (mark m.PlusPlus)) (kept _ (mark m.MinusMinus)) refl

module _ (n : ℕ) where
  abbrev set_to : Expr → Symbol Stmt
  set_to p = g.assign >>= (λ op. ge.expr n >>= (λ x. y.pure (assigned p op x)))

  abbrev counted : Expr → Symbol Stmt
  counted p = g.count >>= (λ c. y.pure (assigned p c.0 (one c.1)))

  abbrev changed_to : Expr → Symbol Stmt
  changed_to p = set_to p or counted p

  abbrev as_call : Expr → Symbol Stmt
  as_call c = y.pure (called c)

  abbrev count_first : Symbol Stmt
  count_first = g.count >>= (λ c. ge.place n >>= (λ p. y.pure (stated (s.Assign p c.0 (one c.1)) c.1)))

  abbrev deref_place : Symbol Expr
  deref_place = ge.prefix n (ge.inner_expr n) (ge.inner_unary n) m.Star unary_op.Deref

  changed : (p : Expr) → Reads n (r.changed (pred n) p) (r.changed n p) (changed_to p) (first_assign ++ first_count) goes_expr false
  unfolding r.changed r.set_to r.counted
  changed p = declared _ _ (either (seq assign (λ op. seq (expr n) (λ x. pure _) refl) refl) (kept _ count) refl) refl refl

  -- places and calls with what goes on from them are one chain
  simple_same : Same (g.simple n) (count_first or ((deref_place >>= changed_to) or going_on n changed_to as_call))
  unfolding g.simple ge.place_line ge.call_line
  simple_same =
      back (regroup (ge.place n >>= set_to) (ge.place n >>= counted) (count_first or (ge.call n >>= as_call)))
      then same_or (factor (ge.place n) set_to counted) (same (count_first or (ge.call n >>= as_call)))
      then forward (ge.place n >>= changed_to) count_first (ge.call n >>= as_call)
      then same_or (same count_first) (
      same_or (spread deref_place (places n) changed_to) (same (calls n >>= as_call))
      then regroup (deref_place >>= changed_to) (places n >>= changed_to) (calls n >>= as_call)
      then same_or (same (deref_place >>= changed_to)) (chained_by n changed_to as_call)
      )

  -- what follows a root

  abbrev ending_reader : ℕ → Expr → List Suffix → Reader Stmt
  ending_reader n x xs = re.by_ending (ending x xs) (r.changed n (posted x xs)) (rd.pure (called (posted x xs)))

  abbrev root_reader : ℕ → Expr → Reader Stmt
  root_reader n x = rd.◌>>=◌ (re.tails n (re.inner_expr n) (re.inner_unary n)) (ending_reader n x)

  abbrev after_tails : Expr → List Suffix → Symbol Stmt
  after_tails x xs = by_ending (ending x xs) (changed_to (posted x xs)) (as_call (posted x xs))

  abbrev after_root : Expr → Symbol Stmt
  after_root x = y.many (ge.tail n (ge.inner_expr n) (ge.inner_unary n)) >>= after_tails x

  after_root_reads : (x : Expr) → Reads n (root_reader (pred n) x) (root_reader n x) (after_root x) (first_tail ++ (first_assign ++ first_count)) (goes_expr ++ goes_unary) true
  after_root_reads x = seq (tails n) (λ xs. ended (first_assign ++ first_count) goes_expr (ending x xs) (changed (posted x xs)) (pure (called (posted x xs))) refl refl refl refl) refl

  chain : Reads n (r.chain_stmt (pred n)) (r.chain_stmt n) (going_on n changed_to as_call) first_root goes_expr false
  unfolding r.chain_stmt
  chain = declared _ _ (seq (root n) after_root_reads refl) refl refl

  pub simple : Reads n (r.simple (pred n)) (r.simple n) (g.simple n) first_simple goes_expr false
  unfolding r.simple r.count_first r.deref_changed
  simple =
      by_same simple_same (declared _ _
      (either (seq count (λ c. seq (place n) (λ p. pure _) refl) refl) (either (seq (deref n) changed refl) chain refl) refl) refl refl)

  -- ---- what follows a name with which a simple statement begins

  args_may : Reads n (re.maybe_args (pred n) (re.inner_expr (pred n)) (re.inner_unary (pred n))) (re.maybe_args n (re.inner_expr n) (re.inner_unary n)) (y.opt (ge.args_at n)) (at_mark m.OpenParen) (at_mark m.OpenParen) true
  args_may = expressions.maybe_args n _ _ _ _ _ _ (inner_expr n) (inner_unary n)

  abbrev after_name : Name → Symbol Stmt
  after_name t = y.opt (ge.args_at n) >>= (λ xs. after_root (named t xs))

  name_begins : (t : Name) (m c : Lexemes) → (after_name t).front m c → (m ≡ c) ⊎ Begins seconds m
  name_begins t m c h = (seq args_may (λ xs. after_root_reads (named t xs)) refl).exact.begins m c h

  -- a root that is a place goes on
  place_goes : (x : Expr) (m b : Lexemes) (z : Stmt) → root_ending x ≡ Place → (after_root x).spells m b z → Begins seconds m
  place_goes x m b z e (m2, [], h, w) =
      let v : (changed_to x).spells m2 b z = rw e at w in
      rw h (begins_within (first_assign ++ first_count) seconds m2 refl ((changed x).exact.some refl m2 b z v))
  place_goes x m b z e (m2, l ∷ ls, (m3, h, j), w) =
      begins_within first_tail seconds m refl ((expressions.tail n _ _ _ _ _ _ (inner_expr n) (inner_unary n)).exact.some refl m m3 l h)

  name_goes : (t : Name) (m b : Lexemes) (z : Stmt) → (after_name t).spells m b z → Begins seconds m
  name_goes t a b z (a1, o, inl (a2, xs, h, (p, q)), w) = begins_within (at_mark m.OpenParen) seconds a refl ((args_at n).exact.some refl a a2 xs h)
  name_goes t a b z (a1, o, inr (p, q), w) =
      let v : (after_root (named t None)).spells a1 b z = rw (← q) at w in
      rw p (place_goes (named t None) a1 b z (chains.name_place t) v)

  going_same : Same (going_on n changed_to as_call) ((y.name >>= after_name)
      or (((y.word This >>= (λ line. y.pure (node e.This line))) or ge.paren n (ge.inner_expr n) (ge.inner_unary n)) >>= after_root))
  unfolding ge.root
  going_same =
      spread _ _ after_root then same_or (
      nest y.name _ after_root then under y.name (λ t. nest (y.opt (ge.args_at n)) _ after_root then under (y.opt (ge.args_at n)) (λ xs. unit _ after_root (λ a. (after_root_reads _).fronts.none a)))
      ) (same _)

  pub simple_follows : Follows seconds (g.simple n)
  simple_follows =
      follows_same simple_same (follows_or (follows_seq (follows_other (count {n = n}) refl)) (
      follows_or (follows_seq (follows_other (deref n) refl)) (follows_same going_same (
      follows_or (follows_name after_name name_begins name_goes) (follows_seq (follows_other
      (either {n = n} (kept _ (word This)) (expressions.paren n _ _ _ _ _ _ (inner_expr n) (inner_unary n)) refl) refl))
      ))
      ))

  pub simple_name : MayBeName (g.simple n)
  unfolding g.simple ge.place_line ge.name_alone
  simple_name t c h = inl (inl (inr (inl (inl (inr (t, refl, h))))))
