-- Statements.
--
-- In each line n is how many levels may still be opened. What stands within a level that the line opens is a statement with one
-- level fewer, which the lines name `stmt`.
use Rattle.std.specs.Prelude.{ℕ, zero, suc, pred, List, [], ◌∷◌, Option, Some, None}
use Rattle.cc_lexer.specs.declared.token.TokenKind.TheVariants.{Word}
use Rattle.cc_lexer.specs.declared.token.Keyword.{Keyword}
use Rattle.cc_lexer.specs.declared.token.Keyword.TheVariants.{Cout, Endl, If, Else, While, For, Par, Parfor, Spawn, Return, Break, Continue, Int}
use Rattle.cc_lexer.specs.declared.token.Mark.TheVariants as m
use Rattle.cc_tree.specs.declared.expressions.Expr.{Expr}
use Rattle.cc_tree.specs.declared.statements.AssignOp.{AssignOp}
use Rattle.cc_tree.specs.declared.statements.AssignOp.TheVariants as assign_op
use Rattle.cc_tree.specs.declared.statements.PrintItem.{PrintItem}
use Rattle.cc_tree.specs.declared.statements.PrintItem.TheVariants as print_item
use Rattle.cc_tree.specs.declared.statements.Stmt.{Stmt}
use Rattle.cc_tree.specs.declared.statements.StmtKind.{StmtKind}
use Rattle.cc_tree.specs.declared.statements.StmtKind.TheVariants as s
use Rattle.cc_lexer.specs.declared.token.Mark.{Mark}
use Rattle.cc_grammar.specs.declared.parts.Block.{Block}
use Rattle.cc_grammar.specs.declared.parts.Header.{Header}
use Rattle.cc_grammar.specs.declared.parts.Counter.{Counter}
use Rattle.cc_grammar.specs.Symbol.{Symbol, word, mark, open_mark, open_word, name, string, pure, ◌>>=◌, ◌>>◌, ◌or◌, many, before_no, never, opt}
use Rattle.cc_grammar.specs.Nodes.{one, stated, assigned, called, joined, line_of}
use Rattle.cc_grammar.specs.Expressions.{expr, inner_expr, sum_at, place, call}
use Rattle.cc_grammar.specs.Declarations.{decl}

-- '(' Expr ')'
unfoldable pub test : ℕ → Symbol Expr
test n = do
  open_mark n m.OpenParen
  x ← inner_expr n
  mark m.CloseParen
  pure x

-- ---- simple statements

abbrev pub assign_by : Mark → AssignOp → Symbol AssignOp
assign_by m op = mark m >> pure op

-- '=' | '+=' | '-=' | '*=' | '/=' | '%='
unfoldable pub assign : Symbol AssignOp
assign =
    assign_by m.Assign assign_op.Set
    or assign_by m.PlusAssign assign_op.Add
    or assign_by m.MinusAssign assign_op.Sub
    or assign_by m.StarAssign assign_op.Mul
    or assign_by m.SlashAssign assign_op.Div
    or assign_by m.PercentAssign assign_op.Rem

-- '++' | '--', with its line
unfoldable pub count : Symbol (AssignOp × ℕ)
count = (do line ← mark m.PlusPlus; pure (assign_op.Add, line)) or (do line ← mark m.MinusMinus; pure (assign_op.Sub, line))

-- Simple := Place ( '=' | '+=' | '-=' | '*=' | '/=' | '%=' ) Expr
--         | Place ( '++' | '--' ) | ( '++' | '--' ) Place | Call
unfoldable pub simple : ℕ → Symbol Stmt
simple n =
    (do p ← place n; op ← assign; x ← expr n; pure (assigned p op x))
    or (do p ← place n; c ← count; pure (assigned p c.0 (one c.1)))
    or (do c ← count; p ← place n; pure (stated (s.Assign p c.0 (one c.1)) c.1))
    or (do c ← call n; pure (called c))

-- ---- printing

-- Out := Sum | STR | 'endl'
unfoldable pub out : ℕ → Symbol PrintItem
out n =
    (do x ← sum_at n; pure (print_item.Value x))
    or (do bytes ← string; pure (print_item.Str bytes))
    or (word Endl >> pure print_item.Endl)

-- 'cout' '<<' Out { '<<' Out } ';'
unfoldable pub print : ℕ → Symbol Stmt
print n = do
  line ← word Cout
  x ← (mark m.LessLess >> out n)
  xs ← many (mark m.LessLess >> out n)
  mark m.Semicolon
  pure (stated (s.Print (x ∷ xs)) line)

-- ---- headers

-- Decl | Simple
unfoldable pub beginning : ℕ → Symbol (List Stmt)
beginning n = decl n or (do x ← simple n; pure (x ∷ []))

-- [ Decl | Simple ], with nothing for none
unfoldable pub maybe_beginning : ℕ → Symbol (List Stmt)
maybe_beginning n = beginning n or pure []

-- '(' [ Decl | Simple ] ';' [ Expr ] ';' [ Simple ] ')'
unfoldable pub header : ℕ → Symbol Header
header n = do
  open_mark n m.OpenParen
  start ← maybe_beginning (pred n)
  mark m.Semicolon
  test ← opt (expr (pred n))
  mark m.Semicolon
  step ← opt (simple (pred n))
  mark m.CloseParen
  pure (record { start = start; test = test; step = step })

-- '(' 'int' NAME '=' Expr ';' Expr ';' Simple ')'
unfoldable pub counter : ℕ → Symbol Counter
counter n = do
  open_mark n m.OpenParen
  word Int
  t ← name
  mark m.Assign
  start ← expr (pred n)
  mark m.Semicolon
  test ← expr (pred n)
  mark m.Semicolon
  step ← simple (pred n)
  mark m.CloseParen
  pure (record { name = t.text; start = start; test = test; step = step })

-- ---- statements

-- ';'
unfoldable pub empty : Symbol Stmt
empty = do
  line ← mark m.Semicolon
  pure (stated s.Empty line)

-- Simple ';'
unfoldable pub plain : ℕ → Symbol Stmt
plain n = do
  x ← simple n
  mark m.Semicolon
  pure x

-- 'spawn' Call ';'
unfoldable pub spawned : ℕ → Symbol Stmt
spawned n = do
  line ← word Spawn
  c ← call n
  mark m.Semicolon
  pure (stated (s.Spawn c) line)

-- 'return' [ Expr ] ';'
unfoldable pub returned : ℕ → Symbol Stmt
returned n = do
  line ← word Return
  x ← opt (expr n)
  mark m.Semicolon
  pure (stated (s.Return x) line)

abbrev pub jump_by : Keyword → StmtKind → Symbol Stmt
jump_by w kind = do
  line ← word w
  mark m.Semicolon
  pure (stated kind line)

-- 'break' ';' | 'continue' ';'
unfoldable pub jump : Symbol Stmt
jump = jump_by Break s.Break or jump_by Continue s.Continue

module _ (n : ℕ) (stmt : Symbol Stmt) where
  -- Decl ';' | Stmt
  unfoldable pub entry : Symbol (List Stmt)
  entry = (do xs ← decl (pred n); mark m.Semicolon; pure xs) or (do x ← stmt; pure (x ∷ []))

  -- { Decl ';' | Stmt }
  unfoldable pub entries : Symbol (List Stmt)
  entries = do
    xss ← many entry
    pure (joined xss)

  -- Block := '{' { Decl ';' | Stmt } '}'
  unfoldable pub block : Symbol Block
  block = do
    line ← open_mark n m.OpenBrace
    xs ← entries
    mark m.CloseBrace
    pure (record { body = xs; line = line })

  unfoldable pub block_stmt : Symbol Stmt
  block_stmt = do
    b ← block
    pure (stated (s.Block b.body) b.line)

  -- [ 'else' Stmt ], which belongs to the nearest 'if' without one
  unfoldable pub otherwise : Symbol (Option Stmt)
  otherwise = (word Else >> (do x ← stmt; pure (Some x))) or before_no (Word Else) None

  -- 'if' '(' Expr ')' Stmt [ 'else' Stmt ]
  unfoldable pub choice : Symbol Stmt
  choice = do
    line ← open_word n If
    x ← test (pred n)
    then ← stmt
    else ← otherwise
    pure (stated (s.If x then else) line)

  -- 'while' '(' Expr ')' Stmt
  unfoldable pub loop : Symbol Stmt
  loop = do
    line ← open_word n While
    x ← test (pred n)
    body ← stmt
    pure (stated (s.While x body) line)

  -- 'for' '(' [ Decl | Simple ] ';' [ Expr ] ';' [ Simple ] ')' Stmt
  unfoldable pub for_loop : Symbol Stmt
  for_loop = do
    line ← open_word n For
    h ← header (pred n)
    body ← stmt
    pure (stated (s.For h.start h.test h.step body) line)

  -- 'par' '{' { Stmt } '}'
  unfoldable pub parallel : Symbol Stmt
  parallel = do
    line ← word Par
    open_mark n m.OpenBrace
    xs ← many stmt
    mark m.CloseBrace
    pure (stated (s.Par xs) line)

  -- 'parfor' '(' 'int' NAME '=' Expr ';' Expr ';' Simple ')' Stmt
  unfoldable pub parallel_for : Symbol Stmt
  parallel_for = do
    line ← open_word n Parfor
    c ← counter (pred n)
    body ← stmt
    pure (stated (s.ParFor c.name c.start c.test c.step body) line)

  -- Stmt := Block | ';' | Simple ';'
  --       | 'cout' '<<' Out { '<<' Out } ';'
  --       | 'if' '(' Expr ')' Stmt [ 'else' Stmt ]
  --       | 'while' '(' Expr ')' Stmt
  --       | 'for' '(' [ Decl | Simple ] ';' [ Expr ] ';' [ Simple ] ')' Stmt
  --       | 'par' '{' { Stmt } '}'
  --       | 'parfor' '(' 'int' NAME '=' Expr ';' Expr ';' Simple ')' Stmt
  --       | 'spawn' Call ';'
  --       | 'return' [ Expr ] ';'
  --       | 'break' ';'
  --       | 'continue' ';'
  unfoldable pub stmt_line : Symbol Stmt
  stmt_line =
      block_stmt
      or empty
      or plain n
      or print n
      or choice
      or loop
      or for_loop
      or parallel
      or parallel_for
      or spawned n
      or returned n
      or jump

-- ---- within so many levels

unfoldable pub stmt : ℕ → Symbol Stmt
stmt zero = stmt_line zero never
stmt (suc n) = stmt_line (suc n) (stmt n)

-- with one level fewer, where there is one
unfoldable pub inner_stmt : ℕ → Symbol Stmt
inner_stmt zero = never
inner_stmt (suc n) = stmt n

abbrev pub block_at : ℕ → Symbol Block
block_at n = block n (inner_stmt n)
