-- Reading statements.
use Rattle.std.specs.Prelude.{ℕ, zero, suc, pred, Bool, true, List, [], ◌∷◌, ◌++◌, Option, Some, None}
use Rattle.cc_lexer.specs.declared.token.TokenKind.TheVariants as k
use Rattle.cc_lexer.specs.declared.token.Keyword.{Keyword}
use Rattle.cc_lexer.specs.declared.token.Keyword.TheVariants.{Cout, Endl, If, Else, While, For, Par, Parfor, Spawn, Return, Break, Continue, Int}
use Rattle.cc_lexer.specs.declared.token.Mark.{Mark}
use Rattle.cc_lexer.specs.declared.token.Mark.TheVariants as m
use Rattle.cc_tree.specs.declared.expressions.Expr.{Expr}
use Rattle.cc_tree.specs.declared.statements.AssignOp.{AssignOp}
use Rattle.cc_tree.specs.declared.statements.AssignOp.TheVariants as assign_op
use Rattle.cc_tree.specs.declared.statements.PrintItem.{PrintItem}
use Rattle.cc_tree.specs.declared.statements.PrintItem.TheVariants as print_item
use Rattle.cc_tree.specs.declared.statements.Stmt.{Stmt}
use Rattle.cc_tree.specs.declared.statements.StmtKind.{StmtKind}
use Rattle.cc_tree.specs.declared.statements.StmtKind.TheVariants as s
use Rattle.cc_grammar.specs.declared.parts.Name.{Name}
use Rattle.cc_grammar.specs.declared.parts.Block.{Block}
use Rattle.cc_grammar.specs.declared.parts.Header.{Header}
use Rattle.cc_grammar.specs.declared.parts.Counter.{Counter}
use Rattle.cc_grammar.specs.Kinds.{Kinds, kinds}
use Rattle.cc_grammar.specs.Nodes.{one, stated, assigned, called}
use Rattle.cc_grammar.specs.Reading.{Reader, word, mark, open_mark, open_word, name, string, pure, ◌>>=◌, ◌>>◌, choose, choose_by, opt, many, flat, at_word, at_mark, at_string, too_deep}
use Rattle.cc_grammar.specs.ReadExpressions.{expr, inner_expr, inner_unary, sum_at, place, call, deref, chain, first_root, first_expr}
use Rattle.cc_grammar.specs.ReadDeclarations.{decl, begins_decl, first_words}

-- ---- sets of kinds

abbrev pub first_assign : Kinds
first_assign =
    kinds (k.Mark m.Assign ∷ k.Mark m.PlusAssign ∷ k.Mark m.MinusAssign ∷ k.Mark m.StarAssign ∷ k.Mark m.SlashAssign ∷ k.Mark m.PercentAssign ∷ [])

abbrev pub first_count : Kinds
first_count = kinds (k.Mark m.PlusPlus ∷ k.Mark m.MinusMinus ∷ [])

abbrev pub first_simple : Kinds
first_simple = first_count ++ at_mark m.Star ++ first_root

abbrev pub first_stmt : Kinds
first_stmt =
    kinds (
    k.Mark m.OpenBrace ∷ k.Mark m.Semicolon ∷ k.Word Cout ∷ k.Word If ∷ k.Word While ∷ k.Word For ∷ k.Word Par ∷ k.Word Parfor ∷ k.Word Spawn
    ∷ k.Word Return ∷ k.Word Break ∷ k.Word Continue ∷ []
    )
    ++ first_simple

abbrev pub first_entry : Kinds
first_entry = first_words ++ first_stmt

-- ---- parts

unfoldable pub test : ℕ → Reader Expr
test n = do
  open_mark n m.OpenParen
  x ← inner_expr n
  mark m.CloseParen
  pure x

-- Expr ';'
unfoldable pub expr_semicolon : ℕ → Reader Expr
expr_semicolon n = do
  x ← expr n
  mark m.Semicolon
  pure x

-- ---- simple statements

abbrev pub assign_by : Mark → AssignOp → Reader AssignOp
assign_by m op = mark m >> pure op

unfoldable pub assign : Reader AssignOp
assign =
    choose (at_mark m.Assign) (assign_by m.Assign assign_op.Set)
    (choose (at_mark m.PlusAssign) (assign_by m.PlusAssign assign_op.Add)
    (choose (at_mark m.MinusAssign) (assign_by m.MinusAssign assign_op.Sub)
    (choose (at_mark m.StarAssign) (assign_by m.StarAssign assign_op.Mul)
    (choose (at_mark m.SlashAssign) (assign_by m.SlashAssign assign_op.Div) (assign_by m.PercentAssign assign_op.Rem)))))

abbrev pub count_by : Mark → AssignOp → Reader (AssignOp × ℕ)
count_by m op = do
  line ← mark m
  pure (op, line)

unfoldable pub count : Reader (AssignOp × ℕ)
count = choose (at_mark m.PlusPlus) (count_by m.PlusPlus assign_op.Add) (count_by m.MinusMinus assign_op.Sub)

-- what makes a place a statement
unfoldable pub set_to : ℕ → Expr → Reader Stmt
set_to n p = do
  op ← assign
  x ← expr n
  pure (assigned p op x)

unfoldable pub counted : Expr → Reader Stmt
counted p = do
  c ← count
  pure (assigned p c.0 (one c.1))

unfoldable pub changed : ℕ → Expr → Reader Stmt
changed n p = choose first_assign (set_to n p) (counted p)

unfoldable pub count_first : ℕ → Reader Stmt
count_first n = do
  c ← count
  p ← place n
  pure (stated (s.Assign p c.0 (one c.1)) c.1)

unfoldable pub deref_changed : ℕ → Reader Stmt
deref_changed n = do
  p ← deref n
  changed n p

unfoldable pub chain_stmt : ℕ → Reader Stmt
chain_stmt n = chain n (inner_expr n) (inner_unary n) (changed n) (λ c. pure (called c))

unfoldable pub simple : ℕ → Reader Stmt
simple n = choose first_count (count_first n) (choose (at_mark m.Star) (deref_changed n) (chain_stmt n))

unfoldable pub maybe_simple : ℕ → Reader (Option Stmt)
maybe_simple n = opt first_simple (simple n)

-- ---- printing

unfoldable pub out_value : ℕ → Reader PrintItem
out_value n = do
  x ← sum_at n
  pure (print_item.Value x)

unfoldable pub out_string : Reader PrintItem
out_string = do
  bytes ← string
  pure (print_item.Str bytes)

unfoldable pub out_endl : Reader PrintItem
out_endl = word Endl >> pure print_item.Endl

unfoldable pub out : ℕ → Reader PrintItem
out n = choose first_expr (out_value n) (choose at_string out_string out_endl)

-- '<<' Out
unfoldable pub shift : ℕ → Reader PrintItem
shift n = mark m.LessLess >> out n

unfoldable pub shifts : ℕ → Reader (List PrintItem)
shifts n = many (at_mark m.LessLess) (shift n)

unfoldable pub print : ℕ → Reader Stmt
print n = do
  line ← word Cout
  x ← shift n
  xs ← shifts n
  mark m.Semicolon
  pure (stated (s.Print (x ∷ xs)) line)

-- ---- headers

unfoldable pub beginning : ℕ → Reader (List Stmt)
beginning n = choose_by begins_decl (decl n) (do x ← simple n; pure (x ∷ []))

unfoldable pub maybe_beginning : ℕ → Reader (List Stmt)
maybe_beginning n = choose (first_words ++ first_simple) (beginning n) (pure [])

-- [ Decl | Simple ] ';'
unfoldable pub header_start : ℕ → Reader (List Stmt)
header_start n = do
  xs ← maybe_beginning n
  mark m.Semicolon
  pure xs

unfoldable pub maybe_expr : ℕ → Reader (Option Expr)
maybe_expr n = opt first_expr (expr n)

-- [ Expr ] ';'
unfoldable pub header_test : ℕ → Reader (Option Expr)
header_test n = do
  x ← maybe_expr n
  mark m.Semicolon
  pure x

-- [ Simple ] ')'
unfoldable pub header_step : ℕ → Reader (Option Stmt)
header_step n = do
  x ← maybe_simple n
  mark m.CloseParen
  pure x

unfoldable pub header : ℕ → Reader Header
header n = do
  open_mark n m.OpenParen
  start ← header_start (pred n)
  test ← header_test (pred n)
  step ← header_step (pred n)
  pure (record { start = start; test = test; step = step })

-- 'int' NAME '='
unfoldable pub int_name : Reader Name
int_name = do
  word Int
  t ← name
  mark m.Assign
  pure t

-- Simple ')'
unfoldable pub counter_step : ℕ → Reader Stmt
counter_step n = do
  x ← simple n
  mark m.CloseParen
  pure x

unfoldable pub counter : ℕ → Reader Counter
counter n = do
  open_mark n m.OpenParen
  t ← int_name
  start ← expr_semicolon (pred n)
  test ← expr_semicolon (pred n)
  step ← counter_step (pred n)
  pure (record { name = t.text; start = start; test = test; step = step })

-- ---- statements

unfoldable pub empty : Reader Stmt
empty = do
  line ← mark m.Semicolon
  pure (stated s.Empty line)

unfoldable pub plain : ℕ → Reader Stmt
plain n = do
  x ← simple n
  mark m.Semicolon
  pure x

unfoldable pub spawned : ℕ → Reader Stmt
spawned n = do
  line ← word Spawn
  c ← call n
  mark m.Semicolon
  pure (stated (s.Spawn c) line)

unfoldable pub returned : ℕ → Reader Stmt
returned n = do
  line ← word Return
  x ← maybe_expr n
  mark m.Semicolon
  pure (stated (s.Return x) line)

abbrev pub jump_by : Keyword → StmtKind → Reader Stmt
jump_by w kind = do
  line ← word w
  mark m.Semicolon
  pure (stated kind line)

unfoldable pub jump : Reader Stmt
jump = choose (at_word Break) (jump_by Break s.Break) (jump_by Continue s.Continue)

module _ (n : ℕ) (stmt : Reader Stmt) where
  unfoldable pub decl_entry : Reader (List Stmt)
  decl_entry = do
    xs ← decl (pred n)
    mark m.Semicolon
    pure xs

  unfoldable pub stmt_entry : Reader (List Stmt)
  stmt_entry = do
    x ← stmt
    pure (x ∷ [])

  unfoldable pub entry : Reader (List Stmt)
  entry = choose_by begins_decl decl_entry stmt_entry

  unfoldable pub entries : Reader (List Stmt)
  entries = flat first_entry entry

  unfoldable pub block : Reader Block
  block = do
    line ← open_mark n m.OpenBrace
    xs ← entries
    mark m.CloseBrace
    pure (record { body = xs; line = line })

  unfoldable pub block_stmt : Reader Stmt
  block_stmt = do
    b ← block
    pure (stated (s.Block b.body) b.line)

  unfoldable pub else_stmt : Reader (Option Stmt)
  else_stmt = do
    word Else
    x ← stmt
    pure (Some x)

  unfoldable pub otherwise : Reader (Option Stmt)
  otherwise = choose (at_word Else) else_stmt (pure None)

  unfoldable pub choice : Reader Stmt
  choice = do
    line ← open_word n If
    x ← test (pred n)
    then ← stmt
    else ← otherwise
    pure (stated (s.If x then else) line)

  unfoldable pub loop : Reader Stmt
  loop = do
    line ← open_word n While
    x ← test (pred n)
    body ← stmt
    pure (stated (s.While x body) line)

  unfoldable pub for_loop : Reader Stmt
  for_loop = do
    line ← open_word n For
    h ← header (pred n)
    body ← stmt
    pure (stated (s.For h.start h.test h.step body) line)

  unfoldable pub stmts : Reader (List Stmt)
  stmts = many first_stmt stmt

  -- '{' { Stmt } '}'
  unfoldable pub braced : Reader (List Stmt)
  braced = do
    open_mark n m.OpenBrace
    xs ← stmts
    mark m.CloseBrace
    pure xs

  unfoldable pub parallel : Reader Stmt
  parallel = do
    line ← word Par
    xs ← braced
    pure (stated (s.Par xs) line)

  unfoldable pub parallel_for : Reader Stmt
  parallel_for = do
    line ← open_word n Parfor
    c ← counter (pred n)
    body ← stmt
    pure (stated (s.ParFor c.name c.start c.test c.step body) line)

  -- the statements that begin with a keyword
  unfoldable pub word_stmt : Reader Stmt
  word_stmt =
      choose (at_word Cout) (print n)
      (choose (at_word If) choice
      (choose (at_word While) loop
      (choose (at_word For) for_loop
      (choose (at_word Par) parallel
      (choose (at_word Parfor) parallel_for
      (choose (at_word Spawn) (spawned n)
      (choose (at_word Return) (returned n) jump)))))))

  unfoldable pub stmt_line : Reader Stmt
  stmt_line = choose (at_mark m.OpenBrace) block_stmt (choose (at_mark m.Semicolon) empty (choose first_simple (plain n) word_stmt))

-- ---- within so many levels

unfoldable pub stmt : ℕ → Reader Stmt
stmt zero = stmt_line zero too_deep
stmt (suc n) = stmt_line (suc n) (stmt n)

unfoldable pub inner_stmt : ℕ → Reader Stmt
inner_stmt zero = too_deep
inner_stmt (suc n) = stmt n

abbrev pub block_at : ℕ → Reader Block
block_at n = block n (inner_stmt n)
