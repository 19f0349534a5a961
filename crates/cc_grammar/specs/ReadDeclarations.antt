-- Reading types, parameters and declarations of variables.
use Rattle.std.specs.Prelude.{ℕ, Bool, true, false, ◌||◌, ◌&&◌, List, [], ◌∷◌, ◌++◌, None, Option}
use Rattle.cc_lexer.specs.declared.token.TokenKind.TheVariants as k
use Rattle.cc_lexer.specs.declared.token.Keyword.TheVariants.{Int, Sync, Void, Global}
use Rattle.cc_lexer.specs.declared.token.Mark.TheVariants as m
use Rattle.cc_tree.specs.declared.expressions.Expr.{Expr}
use Rattle.cc_tree.specs.declared.statements.Base.TheVariants as base
use Rattle.cc_tree.specs.declared.statements.Start.TheVariants as start
use Rattle.cc_tree.specs.declared.statements.Stmt.{Stmt}
use Rattle.cc_tree.specs.declared.declarations.Param.{Param}
use Rattle.cc_grammar.specs.declared.parts.Name.{Name}
use Rattle.cc_grammar.specs.declared.parts.Pointer.{Pointer}
use Rattle.cc_grammar.specs.declared.parts.Spec.{Spec}
use Rattle.cc_grammar.specs.declared.parts.Slot.{Slot}
use Rattle.cc_grammar.specs.Lexeme.{Lexemes}
use Rattle.cc_grammar.specs.Kinds.{Kinds, kinds, heads, tail_of}
use Rattle.cc_grammar.specs.Nodes.{spec_of, no_pointer, pointer, slot_of, param_of, declared}
use Rattle.cc_grammar.specs.Reading.{Reader, word, mark, open_mark, name, pure, ◌>>=◌, ◌>>◌, choose, has_word, at_word, at_mark, at_name}
use Rattle.cc_grammar.specs.ReadExpressions.{expr, args_at, maybe_bracketed_at, listed, commas, goes_expr}

-- ---- sets of kinds

-- the words that begin a type
abbrev pub first_words : Kinds
first_words = kinds (k.Word Int ∷ k.Word Sync ∷ k.Word Void ∷ [])

abbrev pub first_spec : Kinds
first_spec = first_words ++ at_name

-- what stands after a type
abbrev pub first_var : Kinds
first_var = kinds (k.Mark m.Star ∷ k.Name ∷ [])

abbrev pub goes_var : Kinds
goes_var = kinds (k.Mark m.Assign ∷ []) ++ goes_expr

-- ---- types

unfoldable pub int_spec : Reader Spec
int_spec = do
  line ← word Int
  pure (spec_of base.Int line)

unfoldable pub sync_spec : Reader Spec
sync_spec = do
  line ← word Sync
  word Int
  pure (spec_of base.SyncInt line)

unfoldable pub void_spec : Reader Spec
void_spec = do
  line ← word Void
  pure (spec_of base.Void line)

unfoldable pub named_spec : Reader Spec
named_spec = do
  t ← name
  pure (spec_of (base.Named t.text) t.line)

unfoldable pub spec : Reader Spec
spec = choose (at_word Int) int_spec (choose (at_word Sync) sync_spec (choose (at_word Void) void_spec named_spec))

unfoldable pub global_pointer : Reader Pointer
global_pointer = do
  word Global
  once ← has_word Sync
  pure (pointer true once)

unfoldable pub sync_pointer : Reader Pointer
sync_pointer = do
  word Sync
  remote ← has_word Global
  pure (pointer remote true)

unfoldable pub star : Reader Pointer
star = do
  mark m.Star
  choose (at_word Global) global_pointer (choose (at_word Sync) sync_pointer (pure (pointer false false)))

unfoldable pub maybe_star : Reader Pointer
maybe_star = choose (at_mark m.Star) star (pure no_pointer)

-- ---- parameters

unfoldable pub param : Reader Param
param = do
  b ← spec
  p ← maybe_star
  t ← name
  pure (param_of b p t)

unfoldable pub params : ℕ → Reader (List Param)
params n = do
  open_mark n m.OpenParen
  xs ← listed first_spec param
  mark m.CloseParen
  pure xs

-- ---- declarations

unfoldable pub slot : ℕ → Reader Slot
slot n = do
  p ← maybe_star
  t ← name
  length ← maybe_bracketed_at n
  pure (slot_of p t length)

unfoldable pub valued : ℕ → Spec → Pointer → Name → Reader Stmt
valued n b p t = do
  mark m.Assign
  x ← expr n
  pure (declared b (slot_of p t None) (start.Value x))

unfoldable pub built : ℕ → Spec → Pointer → Name → Reader Stmt
built n b p t = do
  xs ← args_at n
  pure (declared b (slot_of p t None) (start.Args xs))

unfoldable pub plain_var : ℕ → Spec → Pointer → Name → Reader Stmt
plain_var n b p t = do
  length ← maybe_bracketed_at n
  pure (declared b (slot_of p t length) start.Nothing)

unfoldable pub var_end : ℕ → Spec → Pointer → Name → Reader Stmt
var_end n b p t = choose (at_mark m.Assign) (valued n b p t) (choose (at_mark m.OpenParen) (built n b p t) (plain_var n b p t))

unfoldable pub var : ℕ → Spec → Reader Stmt
var n b = do
  p ← maybe_star
  t ← name
  var_end n b p t

unfoldable pub decl : ℕ → Reader (List Stmt)
decl n = do
  b ← spec
  x ← var n b
  xs ← commas (var n b)
  pure (x ∷ xs)

-- a declaration begins here: a word of a type, or a name and then a `*` or a name
abbrev pub begins_decl : Lexemes → Bool
begins_decl a = heads first_words a || (heads at_name a && heads first_var (tail_of a))
