-- a
use Rattle.std.proofs.Common.{◌≡◌, ℕ, pos, [], ◌∷◌, refl}
use Rattle.std.specs.Prelude.{codes}
use denote.Hole.Carrier
use Rattle.cc_lexer.specs.declared.token.TokenKind.{TokenKind}
use Rattle.cc_lexer.specs.declared.token.TokenKind.TheVariants as k
use Rattle.cc_lexer.specs.declared.token.Keyword.TheVariants as w
use Rattle.cc_lexer.specs.declared.token.Mark.TheVariants as m
use Rattle.cc_lexer.specs.Spelling.{Text}
use Rattle.cc_tree.specs.declared.declarations.Program.{Program}
use Rattle.cc_tree.specs.declared.expressions.ExprKind.{out-ExprKind}
use Rattle.cc_tree.specs.declared.expressions.Suffix.{out-Suffix}
use Rattle.cc_grammar.specs.Lexeme.{Lexeme, Lexemes}
use Rattle.cc_grammar.specs.Reading.{Answer, Good, Failed}
use Rattle.cc_grammar.specs.ReadExpressions as rx
use Rattle.cc_grammar.specs.ReadDeclarations as rd
use Rattle.cc_grammar.specs.ReadStatements as rs
use Rattle.cc_grammar.specs.ReadItems as ri
use Rattle.cc_grammar.specs.Reading as rg
use Rattle.cc_grammar.specs.Endings as en

abbrev lexeme : TokenKind → Text → ℕ → Lexeme
lexeme kind text line = record { kind = kind; text = text; line = line }

abbrev number_lexeme : ℕ → Text → ℕ → Lexeme
number_lexeme value text line = lexeme (k.Int (pos value)) text line

abbrev pub program_of : Answer Program → Program
program_of (Good p rest) = p
program_of (Failed fault rest) = record { items = [] }

module _ (cells : ℕ) (cells_text : Text) (wide : ℕ) (wide_text : Text) where
  abbrev pub tokens : Lexemes
  tokens =
      lexeme (k.Word w.Const) (codes "const") 2
      ∷ lexeme (k.Word w.Int) (codes "int") 2
      ∷ lexeme k.Name (codes "CELLS") 2
      ∷ lexeme (k.Mark m.Assign) (codes "=") 2
      ∷ number_lexeme cells cells_text 2
      ∷ lexeme (k.Mark m.Semicolon) (codes ";") 2
      ∷ lexeme (k.Word w.Const) (codes "const") 3
      ∷ lexeme (k.Word w.Int) (codes "int") 3
      ∷ lexeme k.Name (codes "WIDE") 3
      ∷ lexeme (k.Mark m.Assign) (codes "=") 3
      ∷ number_lexeme wide wide_text 3
      ∷ lexeme (k.Mark m.Semicolon) (codes ";") 3
      ∷ lexeme (k.Word w.Global) (codes "global") 4
      ∷ lexeme (k.Word w.Class) (codes "class") 4
      ∷ lexeme k.Name (codes "Cell") 4
      ∷ lexeme (k.Mark m.OpenBrace) (codes "{") 4
      ∷ lexeme (k.Word w.Public) (codes "public") 5
      ∷ lexeme (k.Mark m.Colon) (codes ":") 5
      ∷ lexeme (k.Word w.Int) (codes "int") 6
      ∷ lexeme k.Name (codes "own") 6
      ∷ lexeme (k.Mark m.Semicolon) (codes ";") 6
      ∷ lexeme k.Name (codes "Cell") 7
      ∷ lexeme (k.Mark m.Star) (codes "*") 7
      ∷ lexeme (k.Word w.Global) (codes "global") 7
      ∷ lexeme (k.Word w.Sync) (codes "sync") 7
      ∷ lexeme k.Name (codes "next") 7
      ∷ lexeme (k.Mark m.Semicolon) (codes ";") 7
      ∷ lexeme k.Name (codes "Cell") 8
      ∷ lexeme (k.Mark m.OpenParen) (codes "(") 8
      ∷ lexeme (k.Word w.Int) (codes "int") 8
      ∷ lexeme k.Name (codes "k") 8
      ∷ lexeme (k.Mark m.CloseParen) (codes ")") 8
      ∷ lexeme (k.Mark m.OpenBrace) (codes "{") 8
      ∷ lexeme k.Name (codes "own") 8
      ∷ lexeme (k.Mark m.Assign) (codes "=") 8
      ∷ lexeme k.Name (codes "k") 8
      ∷ lexeme (k.Mark m.Semicolon) (codes ";") 8
      ∷ lexeme (k.Mark m.CloseBrace) (codes "}") 8
      ∷ lexeme (k.Word w.Int) (codes "int") 9
      ∷ lexeme k.Name (codes "pass") 9
      ∷ lexeme (k.Mark m.OpenParen) (codes "(") 9
      ∷ lexeme (k.Word w.Int) (codes "int") 9
      ∷ lexeme k.Name (codes "hops") 9
      ∷ lexeme (k.Mark m.Comma) (codes ",") 9
      ∷ lexeme (k.Word w.Int) (codes "int") 9
      ∷ lexeme k.Name (codes "sum") 9
      ∷ lexeme (k.Mark m.CloseParen) (codes ")") 9
      ∷ lexeme (k.Mark m.OpenBrace) (codes "{") 9
      ∷ lexeme (k.Word w.If) (codes "if") 10
      ∷ lexeme (k.Mark m.OpenParen) (codes "(") 10
      ∷ lexeme k.Name (codes "hops") 10
      ∷ lexeme (k.Mark m.Equal) (codes "==") 10
      ∷ lexeme (k.Int (pos 0)) (codes "0") 10
      ∷ lexeme (k.Mark m.CloseParen) (codes ")") 10
      ∷ lexeme (k.Word w.Return) (codes "return") 10
      ∷ lexeme k.Name (codes "sum") 10
      ∷ lexeme (k.Mark m.Semicolon) (codes ";") 10
      ∷ lexeme (k.Word w.Return) (codes "return") 11
      ∷ lexeme k.Name (codes "next") 11
      ∷ lexeme (k.Mark m.Arrow) (codes "->") 11
      ∷ lexeme k.Name (codes "pass") 11
      ∷ lexeme (k.Mark m.OpenParen) (codes "(") 11
      ∷ lexeme k.Name (codes "hops") 11
      ∷ lexeme (k.Mark m.Minus) (codes "-") 11
      ∷ lexeme (k.Int (pos 1)) (codes "1") 11
      ∷ lexeme (k.Mark m.Comma) (codes ",") 11
      ∷ lexeme k.Name (codes "sum") 11
      ∷ lexeme (k.Mark m.Plus) (codes "+") 11
      ∷ lexeme k.Name (codes "own") 11
      ∷ lexeme (k.Mark m.CloseParen) (codes ")") 11
      ∷ lexeme (k.Mark m.Semicolon) (codes ";") 11
      ∷ lexeme (k.Mark m.CloseBrace) (codes "}") 12
      ∷ lexeme (k.Mark m.CloseBrace) (codes "}") 13
      ∷ lexeme (k.Mark m.Semicolon) (codes ";") 13
      ∷ lexeme (k.Word w.Int) (codes "int") 14
      ∷ lexeme k.Name (codes "tree") 14
      ∷ lexeme (k.Mark m.OpenParen) (codes "(") 14
      ∷ lexeme (k.Word w.Int) (codes "int") 14
      ∷ lexeme k.Name (codes "lo") 14
      ∷ lexeme (k.Mark m.Comma) (codes ",") 14
      ∷ lexeme (k.Word w.Int) (codes "int") 14
      ∷ lexeme k.Name (codes "hi") 14
      ∷ lexeme (k.Mark m.CloseParen) (codes ")") 14
      ∷ lexeme (k.Mark m.OpenBrace) (codes "{") 14
      ∷ lexeme (k.Word w.If) (codes "if") 15
      ∷ lexeme (k.Mark m.OpenParen) (codes "(") 15
      ∷ lexeme k.Name (codes "hi") 15
      ∷ lexeme (k.Mark m.Minus) (codes "-") 15
      ∷ lexeme k.Name (codes "lo") 15
      ∷ lexeme (k.Mark m.Equal) (codes "==") 15
      ∷ lexeme (k.Int (pos 1)) (codes "1") 15
      ∷ lexeme (k.Mark m.CloseParen) (codes ")") 15
      ∷ lexeme (k.Word w.Return) (codes "return") 15
      ∷ lexeme k.Name (codes "lo") 15
      ∷ lexeme (k.Mark m.Semicolon) (codes ";") 15
      ∷ lexeme (k.Word w.Int) (codes "int") 16
      ∷ lexeme k.Name (codes "mid") 16
      ∷ lexeme (k.Mark m.Assign) (codes "=") 16
      ∷ lexeme (k.Mark m.OpenParen) (codes "(") 16
      ∷ lexeme k.Name (codes "lo") 16
      ∷ lexeme (k.Mark m.Plus) (codes "+") 16
      ∷ lexeme k.Name (codes "hi") 16
      ∷ lexeme (k.Mark m.CloseParen) (codes ")") 16
      ∷ lexeme (k.Mark m.Slash) (codes "/") 16
      ∷ lexeme (k.Int (pos 2)) (codes "2") 16
      ∷ lexeme (k.Mark m.Semicolon) (codes ";") 16
      ∷ lexeme (k.Word w.Sync) (codes "sync") 17
      ∷ lexeme (k.Word w.Int) (codes "int") 17
      ∷ lexeme k.Name (codes "a") 17
      ∷ lexeme (k.Mark m.Comma) (codes ",") 17
      ∷ lexeme k.Name (codes "b") 17
      ∷ lexeme (k.Mark m.Semicolon) (codes ";") 17
      ∷ lexeme (k.Word w.Par) (codes "par") 18
      ∷ lexeme (k.Mark m.OpenBrace) (codes "{") 18
      ∷ lexeme k.Name (codes "a") 18
      ∷ lexeme (k.Mark m.Assign) (codes "=") 18
      ∷ lexeme k.Name (codes "tree") 18
      ∷ lexeme (k.Mark m.OpenParen) (codes "(") 18
      ∷ lexeme k.Name (codes "lo") 18
      ∷ lexeme (k.Mark m.Comma) (codes ",") 18
      ∷ lexeme k.Name (codes "mid") 18
      ∷ lexeme (k.Mark m.CloseParen) (codes ")") 18
      ∷ lexeme (k.Mark m.Semicolon) (codes ";") 18
      ∷ lexeme k.Name (codes "b") 18
      ∷ lexeme (k.Mark m.Assign) (codes "=") 18
      ∷ lexeme k.Name (codes "tree") 18
      ∷ lexeme (k.Mark m.OpenParen) (codes "(") 18
      ∷ lexeme k.Name (codes "mid") 18
      ∷ lexeme (k.Mark m.Comma) (codes ",") 18
      ∷ lexeme k.Name (codes "hi") 18
      ∷ lexeme (k.Mark m.CloseParen) (codes ")") 18
      ∷ lexeme (k.Mark m.Semicolon) (codes ";") 18
      ∷ lexeme (k.Mark m.CloseBrace) (codes "}") 18
      ∷ lexeme (k.Word w.Return) (codes "return") 19
      ∷ lexeme k.Name (codes "a") 19
      ∷ lexeme (k.Mark m.Plus) (codes "+") 19
      ∷ lexeme k.Name (codes "b") 19
      ∷ lexeme (k.Mark m.Semicolon) (codes ";") 19
      ∷ lexeme (k.Mark m.CloseBrace) (codes "}") 20
      ∷ lexeme (k.Word w.Int) (codes "int") 21
      ∷ lexeme k.Name (codes "main") 21
      ∷ lexeme (k.Mark m.OpenParen) (codes "(") 21
      ∷ lexeme (k.Mark m.CloseParen) (codes ")") 21
      ∷ lexeme (k.Mark m.OpenBrace) (codes "{") 21
      ∷ lexeme k.Name (codes "Cell") 22
      ∷ lexeme (k.Mark m.Star) (codes "*") 22
      ∷ lexeme (k.Word w.Global) (codes "global") 22
      ∷ lexeme k.Name (codes "c") 22
      ∷ lexeme (k.Mark m.OpenBracket) (codes "[") 22
      ∷ lexeme k.Name (codes "CELLS") 22
      ∷ lexeme (k.Mark m.CloseBracket) (codes "]") 22
      ∷ lexeme (k.Mark m.Semicolon) (codes ";") 22
      ∷ lexeme (k.Word w.For) (codes "for") 23
      ∷ lexeme (k.Mark m.OpenParen) (codes "(") 23
      ∷ lexeme (k.Word w.Int) (codes "int") 23
      ∷ lexeme k.Name (codes "i") 23
      ∷ lexeme (k.Mark m.Assign) (codes "=") 23
      ∷ lexeme (k.Int (pos 0)) (codes "0") 23
      ∷ lexeme (k.Mark m.Semicolon) (codes ";") 23
      ∷ lexeme k.Name (codes "i") 23
      ∷ lexeme (k.Mark m.Less) (codes "<") 23
      ∷ lexeme k.Name (codes "CELLS") 23
      ∷ lexeme (k.Mark m.Semicolon) (codes ";") 23
      ∷ lexeme k.Name (codes "i") 23
      ∷ lexeme (k.Mark m.PlusPlus) (codes "++") 23
      ∷ lexeme (k.Mark m.CloseParen) (codes ")") 23
      ∷ lexeme k.Name (codes "c") 23
      ∷ lexeme (k.Mark m.OpenBracket) (codes "[") 23
      ∷ lexeme k.Name (codes "i") 23
      ∷ lexeme (k.Mark m.CloseBracket) (codes "]") 23
      ∷ lexeme (k.Mark m.Assign) (codes "=") 23
      ∷ lexeme (k.Word w.New) (codes "new") 23
      ∷ lexeme k.Name (codes "Cell") 23
      ∷ lexeme (k.Mark m.OpenParen) (codes "(") 23
      ∷ lexeme k.Name (codes "i") 23
      ∷ lexeme (k.Mark m.Plus) (codes "+") 23
      ∷ lexeme (k.Int (pos 1)) (codes "1") 23
      ∷ lexeme (k.Mark m.CloseParen) (codes ")") 23
      ∷ lexeme (k.Mark m.Semicolon) (codes ";") 23
      ∷ lexeme (k.Word w.Parfor) (codes "parfor") 24
      ∷ lexeme (k.Mark m.OpenParen) (codes "(") 24
      ∷ lexeme (k.Word w.Int) (codes "int") 24
      ∷ lexeme k.Name (codes "i") 24
      ∷ lexeme (k.Mark m.Assign) (codes "=") 24
      ∷ lexeme (k.Int (pos 0)) (codes "0") 24
      ∷ lexeme (k.Mark m.Semicolon) (codes ";") 24
      ∷ lexeme k.Name (codes "i") 24
      ∷ lexeme (k.Mark m.Less) (codes "<") 24
      ∷ lexeme k.Name (codes "CELLS") 24
      ∷ lexeme (k.Mark m.Semicolon) (codes ";") 24
      ∷ lexeme k.Name (codes "i") 24
      ∷ lexeme (k.Mark m.PlusPlus) (codes "++") 24
      ∷ lexeme (k.Mark m.CloseParen) (codes ")") 24
      ∷ lexeme k.Name (codes "c") 24
      ∷ lexeme (k.Mark m.OpenBracket) (codes "[") 24
      ∷ lexeme k.Name (codes "i") 24
      ∷ lexeme (k.Mark m.CloseBracket) (codes "]") 24
      ∷ lexeme (k.Mark m.Arrow) (codes "->") 24
      ∷ lexeme k.Name (codes "next") 24
      ∷ lexeme (k.Mark m.Assign) (codes "=") 24
      ∷ lexeme k.Name (codes "c") 24
      ∷ lexeme (k.Mark m.OpenBracket) (codes "[") 24
      ∷ lexeme (k.Mark m.OpenParen) (codes "(") 24
      ∷ lexeme k.Name (codes "i") 24
      ∷ lexeme (k.Mark m.Plus) (codes "+") 24
      ∷ lexeme (k.Int (pos 1)) (codes "1") 24
      ∷ lexeme (k.Mark m.CloseParen) (codes ")") 24
      ∷ lexeme (k.Mark m.Percent) (codes "%") 24
      ∷ lexeme k.Name (codes "CELLS") 24
      ∷ lexeme (k.Mark m.CloseBracket) (codes "]") 24
      ∷ lexeme (k.Mark m.Semicolon) (codes ";") 24
      ∷ lexeme (k.Word w.Int) (codes "int") 25
      ∷ lexeme k.Name (codes "s") 25
      ∷ lexeme (k.Mark m.Assign) (codes "=") 25
      ∷ lexeme k.Name (codes "c") 25
      ∷ lexeme (k.Mark m.OpenBracket) (codes "[") 25
      ∷ lexeme (k.Int (pos 0)) (codes "0") 25
      ∷ lexeme (k.Mark m.CloseBracket) (codes "]") 25
      ∷ lexeme (k.Mark m.Arrow) (codes "->") 25
      ∷ lexeme k.Name (codes "pass") 25
      ∷ lexeme (k.Mark m.OpenParen) (codes "(") 25
      ∷ lexeme k.Name (codes "WIDE") 25
      ∷ lexeme (k.Mark m.Comma) (codes ",") 25
      ∷ lexeme (k.Int (pos 0)) (codes "0") 25
      ∷ lexeme (k.Mark m.CloseParen) (codes ")") 25
      ∷ lexeme (k.Mark m.Semicolon) (codes ";") 25
      ∷ lexeme (k.Word w.Int) (codes "int") 26
      ∷ lexeme k.Name (codes "t") 26
      ∷ lexeme (k.Mark m.Assign) (codes "=") 26
      ∷ lexeme k.Name (codes "tree") 26
      ∷ lexeme (k.Mark m.OpenParen) (codes "(") 26
      ∷ lexeme (k.Int (pos 0)) (codes "0") 26
      ∷ lexeme (k.Mark m.Comma) (codes ",") 26
      ∷ lexeme k.Name (codes "WIDE") 26
      ∷ lexeme (k.Mark m.CloseParen) (codes ")") 26
      ∷ lexeme (k.Mark m.Semicolon) (codes ";") 26
      ∷ lexeme (k.Word w.Cout) (codes "cout") 27
      ∷ lexeme (k.Mark m.LessLess) (codes "<<") 27
      ∷ lexeme k.Name (codes "s") 27
      ∷ lexeme (k.Mark m.LessLess) (codes "<<") 27
      ∷ lexeme k.Str (codes "\" \"") 27
      ∷ lexeme (k.Mark m.LessLess) (codes "<<") 27
      ∷ lexeme k.Name (codes "t") 27
      ∷ lexeme (k.Mark m.LessLess) (codes "<<") 27
      ∷ lexeme (k.Word w.Endl) (codes "endl") 27
      ∷ lexeme (k.Mark m.Semicolon) (codes ";") 27
      ∷ lexeme (k.Word w.Return) (codes "return") 28
      ∷ lexeme k.Name (codes "s") 28
      ∷ lexeme (k.Mark m.Plus) (codes "+") 28
      ∷ lexeme k.Name (codes "t") 28
      ∷ lexeme (k.Mark m.Semicolon) (codes ";") 28
      ∷ lexeme (k.Mark m.CloseBrace) (codes "}") 29
      ∷ []

  pub reads : ri.program 64 tokens ≡ Good (program_of (ri.program 64 tokens)) []
  unfolding rx.dot rx.operators rx.equality_operator rx.order_operator rx.sum_operator rx.product_operator rx.operator rx.link rx.links rx.after_comma rx.commas rx.listed rx.args rx.maybe_args rx.bracketed rx.maybe_bracketed rx.paren rx.index rx.member rx.tail rx.tails rx.named_root rx.this rx.root rx.literal rx.null rx.prim rx.prefix rx.new_object rx.new_int rx.creation rx.postfix rx.unary_line rx.product rx.sum rx.order rx.equal rx.conjunction rx.expr_line rx.operand rx.place_chain rx.place_line rx.call_line rx.unary rx.expr rx.inner_expr rx.inner_unary rd.int_spec rd.sync_spec rd.void_spec rd.named_spec rd.spec rd.global_pointer rd.sync_pointer rd.star rd.maybe_star rd.param rd.params rd.slot rd.valued rd.built rd.plain_var rd.var_end rd.var rd.decl rs.test rs.expr_semicolon rs.assign rs.count rs.set_to rs.counted rs.changed rs.count_first rs.deref_changed rs.chain_stmt rs.simple rs.maybe_simple rs.out_value rs.out_string rs.out_endl rs.out rs.shift rs.shifts rs.print rs.beginning rs.maybe_beginning rs.header_start rs.maybe_expr rs.header_test rs.header_step rs.header rs.int_name rs.counter_step rs.counter rs.empty rs.plain rs.spawned rs.returned rs.decl_entry rs.stmt_entry rs.entry rs.entries rs.block rs.block_stmt rs.else_stmt rs.otherwise rs.choice rs.loop rs.for_loop rs.stmts rs.braced rs.parallel rs.parallel_for rs.word_stmt rs.stmt_line rs.stmt rs.inner_stmt ri.function_end ri.function ri.label_word ri.label ri.build ri.atomic_method ri.field ri.fields_end ri.method_end ri.typed_member ri.plain_member ri.member ri.member_list ri.members ri.constant ri.class_word ri.global_head ri.local_head ri.class_head ri.class ri.function_item ri.item ri.items ri.program rg.token rg.opening rg.has_word rg.many_from en.root_ending en.tail_ending out-ExprKind out-Suffix Carrier.out Carrier.roll
  reads = refl
