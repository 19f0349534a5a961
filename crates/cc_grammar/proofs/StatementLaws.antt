-- Each symbol of statements is read exactly.
use Rattle.std.proofs.Common.{◌≡◌, ℕ, zero, suc, pred, true, false, List, [], ◌∷◌, ◌++◌, Some, None, inl, inr, refl}
use Rattle.cc_lexer.specs.declared.token.TokenKind.TheVariants as k
use Rattle.cc_lexer.specs.declared.token.Keyword.{Keyword}
use Rattle.cc_lexer.specs.declared.token.Keyword.TheVariants.{Cout, Endl, If, Else, While, For, Par, Parfor, Spawn, Return, Break, Continue, Int}
use Rattle.cc_lexer.specs.declared.token.Mark.TheVariants as m
use Rattle.cc_tree.specs.declared.expressions.Expr.{Expr}
use Rattle.cc_tree.specs.declared.statements.Stmt.{Stmt}
use Rattle.cc_tree.specs.declared.statements.StmtKind.{StmtKind}
use Rattle.cc_tree.specs.declared.statements.StmtKind.TheVariants as s
use Rattle.cc_grammar.specs.declared.parts.Block.{Block}
use Rattle.cc_grammar.specs.Lexeme.{Lexeme, Lexemes}
use Rattle.cc_grammar.specs.Kinds.{Kinds, kinds}
use Rattle.cc_grammar.specs.Symbol.{Symbol, ◌>>=◌, ◌>>◌, ◌or◌}
use Rattle.cc_grammar.specs.Symbol as y
use Rattle.cc_grammar.specs.Nodes.{joined}
use Rattle.cc_grammar.specs.Reading.{Reader, too_deep, at_mark, at_word}
use Rattle.cc_grammar.specs.Expressions as ge
use Rattle.cc_grammar.specs.Declarations as gd
use Rattle.cc_grammar.specs.Statements as g
use Rattle.cc_grammar.specs.ReadExpressions as re
use Rattle.cc_grammar.specs.ReadExpressions.{first_expr, goes_sum, goes_expr}
use Rattle.cc_grammar.specs.ReadDeclarations.{first_words, first_var, goes_var, begins_decl}
use Rattle.cc_grammar.specs.ReadStatements as r
use Rattle.cc_grammar.specs.ReadStatements.{first_simple, first_stmt, first_entry}
use Rattle.cc_grammar.proofs.Levels.{IsPositive}
use Rattle.cc_grammar.proofs.Rules.{Reads, word, mark, name, string, pure, seq, either, many, kept, or_else, opt, declared, nearest, nested, alone}
use Rattle.cc_grammar.proofs.Same.{Same, same, ◌then◌, under, closing, closing_in, by_same}
use Rattle.cc_grammar.proofs.Follows.{Follows, MayBeName, follows_or, follows_seq, follows_other, by_second}
use Rattle.cc_grammar.proofs.ExpressionLaws.{expr, inner_expr, inner_unary, none}
use Rattle.cc_grammar.proofs.ExpressionLaws as expressions
use Rattle.cc_grammar.proofs.DeclarationLaws.{decl, decl_follows, decl_name, words_decl, second_decl, first_no_decl, second_no_decl}
use Rattle.cc_grammar.proofs.PlaceLaws.{call}
use Rattle.cc_grammar.proofs.SimpleLaws.{simple, simple_follows, simple_name, seconds}

-- ---- parts

test : (n : ℕ) → Reads n (r.test (pred n)) (r.test n) (g.test n) (at_mark m.OpenParen) [] false
unfolding r.test g.test
test n = nested n (k.Mark m.OpenParen) (λ i _. seq (inner_expr n i) (λ x. seq (mark m.CloseParen) (λ _. pure x) refl) refl)

-- an expression and the mark behind it
abbrev semicolon : ℕ → Symbol Expr
semicolon n = ge.expr n >>= (λ x. y.mark m.Semicolon >> y.pure x)

pub expr_semicolon : (n : ℕ) → Reads n (r.expr_semicolon (pred n)) (r.expr_semicolon n) (semicolon n) first_expr [] false
unfolding r.expr_semicolon
expr_semicolon n = declared _ _ (seq (expr n) (λ x. seq (mark m.Semicolon) (λ _. pure x) refl) refl) refl refl

maybe_expr : (n : ℕ) → Reads n (r.maybe_expr (pred n)) (r.maybe_expr n) (y.opt (ge.expr n)) first_expr (goes_expr ++ first_expr) true
unfolding r.maybe_expr
maybe_expr n = opt (expr n)

maybe_simple : (n : ℕ) → Reads n (r.maybe_simple (pred n)) (r.maybe_simple n) (y.opt (g.simple n)) first_simple (goes_expr ++ first_simple) true
unfolding r.maybe_simple
maybe_simple n = opt (simple n)

-- ---- printing

shift : (n : ℕ) → Reads n (r.shift (pred n)) (r.shift n) (y.mark m.LessLess >> g.out n) (at_mark m.LessLess) goes_sum false
unfolding r.shift r.out r.out_value r.out_string r.out_endl g.out
shift n =
    declared _ _ (seq (mark m.LessLess) (λ _.
    either (kept _ (expressions.sum n _ _ _ _ _ _ (inner_expr n) (inner_unary n))) (either (kept _ string) (kept _ (word Endl)) refl) refl) refl) refl refl

print : (n : ℕ) → Reads n (r.print (pred n)) (r.print n) (g.print n) (at_word Cout) [] false
unfolding r.print r.shifts g.print
print n = seq (word Cout) (λ line. seq (shift n) (λ x. seq (many (shift n) refl) (λ xs. seq (mark m.Semicolon) (λ _. pure _) refl) refl) refl) refl

-- ---- headers

beginning : (n : ℕ) → Reads n (r.beginning (pred n)) (r.beginning n) (g.beginning n) (first_words ++ first_simple) (at_mark m.Comma ++ at_mark m.OpenBracket ++ goes_var) false
unfolding r.beginning g.beginning
beginning n =
    declared _ _ (by_second first_words begins_decl (decl n) (kept _ (simple n)) (decl_follows n) (follows_seq (simple_follows n)) (decl_name n) (λ t c h. inl (simple_name n t c h))
    words_decl second_decl (λ a. first_no_decl first_simple a refl) (λ a. second_no_decl first_simple seconds a refl refl)) refl refl

header_start : (n : ℕ) → Reads n (r.header_start (pred n)) (r.header_start n) (g.maybe_beginning n >>= (λ xs. y.mark m.Semicolon >> y.pure xs)) (first_words ++ first_simple ++ at_mark m.Semicolon) [] false
unfolding r.header_start r.maybe_beginning g.maybe_beginning
header_start n = declared _ _ (seq (or_else _ (beginning n)) (λ xs. seq (mark m.Semicolon) (λ _. pure xs) refl) refl) refl refl

header_test : (n : ℕ) → Reads n (r.header_test (pred n)) (r.header_test n) (y.opt (ge.expr n) >>= (λ x. y.mark m.Semicolon >> y.pure x)) (first_expr ++ at_mark m.Semicolon) [] false
unfolding r.header_test
header_test n = declared _ _ (seq (maybe_expr n) (λ x. seq (mark m.Semicolon) (λ _. pure x) refl) refl) refl refl

header_step : (n : ℕ) → Reads n (r.header_step (pred n)) (r.header_step n) (y.opt (g.simple n) >>= (λ x. y.mark m.CloseParen >> y.pure x)) (first_simple ++ at_mark m.CloseParen) [] false
unfolding r.header_step
header_step n = declared _ _ (seq (maybe_simple n) (λ x. seq (mark m.CloseParen) (λ _. pure x) refl) refl) refl refl

header : (n : ℕ) → Reads n (r.header (pred n)) (r.header n) (g.header n) (at_mark m.OpenParen) [] false
unfolding r.header g.header g.maybe_beginning
header n =
    by_same (
    under (y.open_mark n m.OpenParen) (λ _.
    closing (g.maybe_beginning (pred n)) (y.mark m.Semicolon) _ (λ start a. inl (inr refl)) then under _ (λ start.
    closing (y.opt (ge.expr (pred n))) (y.mark m.Semicolon) _ (λ x a. inl (inr refl)) then under _ (λ x.
    closing (y.opt (g.simple (pred n))) (y.mark m.CloseParen) _ (λ step a. refl))))
    ) (nested n (k.Mark m.OpenParen) (λ _ _. seq (header_start (pred n)) (λ start. seq (header_test (pred n)) (λ x. seq (header_step (pred n)) (λ step. pure _) refl) refl) refl))

-- 'int' NAME '='
pub int_name : {n : ℕ} → Reads n r.int_name r.int_name (y.word Int >> (y.name >>= (λ t. y.mark m.Assign >> y.pure t))) (at_word Int) [] false
unfolding r.int_name
int_name = seq (word Int) (λ _. seq name (λ t. seq (mark m.Assign) (λ _. pure t) refl) refl) refl

counter_step : (n : ℕ) → Reads n (r.counter_step (pred n)) (r.counter_step n) (g.simple n >>= (λ x. y.mark m.CloseParen >> y.pure x)) first_simple [] false
unfolding r.counter_step
counter_step n = declared _ _ (seq (simple n) (λ x. seq (mark m.CloseParen) (λ _. pure x) refl) refl) refl refl

counter : (n : ℕ) → Reads n (r.counter (pred n)) (r.counter n) (g.counter n) (at_mark m.OpenParen) [] false
unfolding r.counter g.counter
counter n =
    by_same (
    under (y.open_mark n m.OpenParen) (λ _.
    closing_in (y.word Int) y.name (y.mark m.Assign) _ (λ t a. inl ((expr (pred n)).fronts.none a)) then under _ (λ t.
    closing (ge.expr (pred n)) (y.mark m.Semicolon) _ (λ start a. inl ((expr (pred n)).fronts.none a)) then under _ (λ start.
    closing (ge.expr (pred n)) (y.mark m.Semicolon) _ (λ x a. inl ((simple (pred n)).fronts.none a)) then under _ (λ x.
    closing (g.simple (pred n)) (y.mark m.CloseParen) _ (λ step a. refl)))))
    ) (nested n (k.Mark m.OpenParen) (λ _ _. seq int_name (λ t. seq (expr_semicolon (pred n)) (λ start. seq (expr_semicolon (pred n)) (λ x. seq (counter_step (pred n)) (λ step. pure _) refl) refl) refl) refl))

-- ---- statements

empty : {n : ℕ} → Reads n r.empty r.empty g.empty (at_mark m.Semicolon) [] false
unfolding r.empty g.empty
empty = kept _ (mark m.Semicolon)

plain : (n : ℕ) → Reads n (r.plain (pred n)) (r.plain n) (g.plain n) first_simple [] false
unfolding r.plain g.plain
plain n = declared _ _ (seq (simple n) (λ x. seq (mark m.Semicolon) (λ _. pure x) refl) refl) refl refl

spawned : (n : ℕ) → Reads n (r.spawned (pred n)) (r.spawned n) (g.spawned n) (at_word Spawn) [] false
unfolding r.spawned g.spawned
spawned n = seq (word Spawn) (λ line. seq (call n) (λ c. seq (mark m.Semicolon) (λ _. pure _) refl) refl) refl

returned : (n : ℕ) → Reads n (r.returned (pred n)) (r.returned n) (g.returned n) (at_word Return) [] false
unfolding r.returned g.returned
returned n = seq (word Return) (λ line. seq (maybe_expr n) (λ x. seq (mark m.Semicolon) (λ _. pure _) refl) refl) refl

jump_by : {n : ℕ} (w : Keyword) (kind : StmtKind) → Reads n (r.jump_by w kind) (r.jump_by w kind) (g.jump_by w kind) (at_word w) [] false
jump_by w kind = seq (word w) (λ line. seq (mark m.Semicolon) (λ _. pure _) refl) refl

jump : {n : ℕ} → Reads n r.jump r.jump g.jump (at_word Break ++ at_word Continue) [] false
unfolding r.jump g.jump
jump = either (jump_by Break s.Break) (jump_by Continue s.Continue) refl

-- from what stands within them
module _ (n : ℕ) (o p : Reader Stmt) (s : Symbol Stmt) (inner : IsPositive n → Reads (pred n) o p s first_stmt [] false) (inner_follows : IsPositive n → Follows seconds s) (inner_name : IsPositive n → MayBeName s) where
  entry : IsPositive n → Reads (pred n) (r.entry (pred n) o) (r.entry n p) (g.entry n s) first_entry [] false
  unfolding r.entry r.decl_entry r.stmt_entry g.entry
  entry i =
      declared _ _ (by_second first_words begins_decl (seq (decl (pred n)) (λ xs. seq (mark m.Semicolon) (λ _. pure xs) refl) refl) (kept _ (inner i))
      (follows_seq (decl_follows (pred n))) (follows_seq (inner_follows i)) (λ t c h. inl (decl_name (pred n) t c h)) (λ t c h. inl (inner_name i t c h))
      words_decl second_decl (λ a. first_no_decl first_stmt a refl) (λ a. second_no_decl first_stmt seconds a refl refl)) refl refl

  pub block : Reads n (r.block (pred n) o) (r.block n p) (g.block n s) (at_mark m.OpenBrace) [] false
  unfolding r.block r.entries g.block g.entries
  block = nested n (k.Mark m.OpenBrace) (λ i line. seq (seq (many (entry i) refl) (λ xss. pure (joined xss)) refl) (λ xs. seq (mark m.CloseBrace) (λ _. pure _) refl) refl)

  otherwise : IsPositive n → Reads (pred n) (r.otherwise (pred n) o) (r.otherwise n p) (g.otherwise n s) (at_word Else) [] true
  unfolding r.otherwise r.else_stmt g.otherwise
  otherwise i = nearest (k.Word Else) None (seq (word Else) (λ _. kept Some (inner i)) refl)

  choice : Reads n (r.choice (pred n) o) (r.choice n p) (g.choice n s) (at_word If) [] false
  unfolding r.choice g.choice
  choice = nested n (k.Word If) (λ i line. seq (test (pred n)) (λ x. seq (inner i) (λ body. seq (otherwise i) (λ other. pure _) refl) refl) refl)

  loop : Reads n (r.loop (pred n) o) (r.loop n p) (g.loop n s) (at_word While) [] false
  unfolding r.loop g.loop
  loop = nested n (k.Word While) (λ i line. seq (test (pred n)) (λ x. seq (inner i) (λ body. pure _) refl) refl)

  for_loop : Reads n (r.for_loop (pred n) o) (r.for_loop n p) (g.for_loop n s) (at_word For) [] false
  unfolding r.for_loop g.for_loop
  for_loop = nested n (k.Word For) (λ i line. seq (header (pred n)) (λ h. seq (inner i) (λ body. pure _) refl) refl)

  parallel : Reads n (r.parallel (pred n) o) (r.parallel n p) (g.parallel n s) (at_word Par) [] false
  unfolding r.parallel r.braced r.stmts g.parallel
  parallel =
      by_same (under (y.word Par) (λ line. closing_in (y.open_mark n m.OpenBrace) (y.many s) (y.mark m.CloseBrace) _ (λ xs a. refl)))
      (seq (word Par) (λ line. kept _ (nested n (k.Mark m.OpenBrace) (λ i _. seq (many (inner i) refl) (λ xs. seq (mark m.CloseBrace) (λ _. pure xs) refl) refl))) refl)

  parallel_for : Reads n (r.parallel_for (pred n) o) (r.parallel_for n p) (g.parallel_for n s) (at_word Parfor) [] false
  unfolding r.parallel_for g.parallel_for
  parallel_for = nested n (k.Word Parfor) (λ i line. seq (counter (pred n)) (λ c. seq (inner i) (λ body. pure _) refl) refl)

  block_stmt : Reads n (r.block_stmt (pred n) o) (r.block_stmt n p) (g.block_stmt n s) (at_mark m.OpenBrace) [] false
  unfolding r.block_stmt g.block_stmt
  block_stmt = kept _ block

  stmt_line : Reads n (r.stmt_line (pred n) o) (r.stmt_line n p) (g.stmt_line n s) first_stmt [] false
  unfolding r.stmt_line r.word_stmt g.stmt_line
  stmt_line =
      declared _ _ (either block_stmt (either empty (either (plain n)
      (either (print n) (either choice (either loop (either for_loop (either parallel (either parallel_for (either (spawned n) (either (returned n) jump refl) refl) refl) refl) refl) refl) refl) refl) refl) refl) refl) refl refl

  line_follows : Follows seconds (g.stmt_line n s)
  unfolding g.stmt_line g.plain
  line_follows =
      follows_or (follows_other block_stmt refl)
      (follows_or (follows_other (empty {n = n}) refl)
      (follows_or (follows_seq (simple_follows n))
      (follows_or (follows_other (print n) refl)
      (follows_or (follows_other choice refl)
      (follows_or (follows_other loop refl)
      (follows_or (follows_other for_loop refl)
      (follows_or (follows_other parallel refl)
      (follows_or (follows_other parallel_for refl)
      (follows_or (follows_other (spawned n) refl)
      (follows_or (follows_other (returned n) refl) (follows_other (jump {n = n}) refl)))))))))))

  line_name : MayBeName (g.stmt_line n s)
  unfolding g.stmt_line g.plain
  line_name t c h = inr (inr (inl (inl (simple_name n t c h))))

-- ---- within so many levels

mutual
  unfolding r.stmt g.stmt

  pub stmt : (n : ℕ) → Reads n (r.stmt (pred n)) (r.stmt n) (g.stmt n) first_stmt [] false
  stmt zero = stmt_line zero too_deep too_deep y.never none none none
  stmt (suc zero) = stmt_line (suc zero) too_deep (r.stmt zero) (g.stmt zero) (λ _. alone (stmt zero)) (λ _. stmt_follows zero) (λ _. stmt_name zero)
  stmt (suc (suc n)) = stmt_line (suc (suc n)) (r.stmt n) (r.stmt (suc n)) (g.stmt (suc n)) (λ _. stmt (suc n)) (λ _. stmt_follows (suc n)) (λ _. stmt_name (suc n))

  stmt_follows : (n : ℕ) → Follows seconds (g.stmt n)
  stmt_follows zero = line_follows zero too_deep too_deep y.never none none none
  stmt_follows (suc zero) = line_follows (suc zero) too_deep (r.stmt zero) (g.stmt zero) (λ _. alone (stmt zero)) (λ _. stmt_follows zero) (λ _. stmt_name zero)
  stmt_follows (suc (suc n)) = line_follows (suc (suc n)) (r.stmt n) (r.stmt (suc n)) (g.stmt (suc n)) (λ _. stmt (suc n)) (λ _. stmt_follows (suc n)) (λ _. stmt_name (suc n))

  stmt_name : (n : ℕ) → MayBeName (g.stmt n)
  stmt_name zero = line_name zero too_deep too_deep y.never none none none
  stmt_name (suc zero) = line_name (suc zero) too_deep (r.stmt zero) (g.stmt zero) (λ _. alone (stmt zero)) (λ _. stmt_follows zero) (λ _. stmt_name zero)
  stmt_name (suc (suc n)) = line_name (suc (suc n)) (r.stmt n) (r.stmt (suc n)) (g.stmt (suc n)) (λ _. stmt (suc n)) (λ _. stmt_follows (suc n)) (λ _. stmt_name (suc n))

inner_stmt : (n : ℕ) → IsPositive n → Reads (pred n) (r.inner_stmt (pred n)) (r.inner_stmt n) (g.inner_stmt n) first_stmt [] false
unfolding r.inner_stmt g.inner_stmt
inner_stmt zero i = absurd i
inner_stmt (suc zero) i = alone (stmt zero)
inner_stmt (suc (suc n)) i = stmt (suc n)

inner_follows : (n : ℕ) → IsPositive n → Follows seconds (g.inner_stmt n)
unfolding g.inner_stmt
inner_follows zero i = absurd i
inner_follows (suc n) i = stmt_follows n

inner_name : (n : ℕ) → IsPositive n → MayBeName (g.inner_stmt n)
unfolding g.inner_stmt
inner_name zero i = absurd i
inner_name (suc n) i = stmt_name n

pub block_at : (n : ℕ) → Reads n (r.block_at (pred n)) (r.block_at n) (g.block_at n) (at_mark m.OpenBrace) [] false
block_at n = block n _ _ _ (inner_stmt n) (inner_follows n) (inner_name n)
