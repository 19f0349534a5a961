-- Reading what stands at the level of the file, and within a class.
use Rattle.std.specs.Prelude.{ℕ, pred, Bool, true, false, ◌&&◌, List, [], ◌∷◌, ◌++◌, Option}
use Rattle.cc_lexer.specs.declared.token.TokenKind.TheVariants as k
use Rattle.cc_lexer.specs.declared.token.Keyword.TheVariants.{Const, Int, Global, Class, Struct, Public, Private, Atomic}
use Rattle.cc_lexer.specs.declared.token.Mark.TheVariants as m
use Rattle.cc_tree.specs.declared.declarations.Function.{Function}
use Rattle.cc_tree.specs.declared.declarations.Member.{Member}
use Rattle.cc_tree.specs.declared.declarations.Member.TheVariants as member_node
use Rattle.cc_tree.specs.declared.declarations.Item.{Item}
use Rattle.cc_tree.specs.declared.declarations.Item.TheVariants as item_node
use Rattle.cc_tree.specs.declared.declarations.Program.{Program}
use Rattle.cc_grammar.specs.declared.parts.Name.{Name}
use Rattle.cc_grammar.specs.declared.parts.Pointer.{Pointer}
use Rattle.cc_grammar.specs.declared.parts.Spec.{Spec}
use Rattle.cc_grammar.specs.Lexeme.{Lexemes}
use Rattle.cc_grammar.specs.Kinds.{Kinds, kinds, heads, tail_of}
use Rattle.cc_grammar.specs.Nodes.{slot_of, function_of, atomic_of, field_of, build_of}
use Rattle.cc_grammar.specs.Reading.{Reader, word, mark, open_mark, name, pure, ◌>>=◌, ◌>>◌, choose, choose_by, many, flat, at_word, at_mark, at_name}
use Rattle.cc_grammar.specs.ReadExpressions.{maybe_bracketed_at, commas}
use Rattle.cc_grammar.specs.ReadDeclarations.{spec, maybe_star, params, slot, first_spec}
use Rattle.cc_grammar.specs.ReadStatements.{block_at, int_name, expr_semicolon}

-- ---- sets of kinds

abbrev pub first_label : Kinds
first_label = kinds (k.Word Public ∷ k.Word Private ∷ [])

abbrev pub first_member : Kinds
first_member = first_label ++ at_word Atomic ++ first_spec

abbrev pub first_class : Kinds
first_class = kinds (k.Word Global ∷ k.Word Class ∷ k.Word Struct ∷ [])

abbrev pub first_item : Kinds
first_item = at_word Const ++ first_class ++ first_spec

-- ---- functions

-- what follows the name of a function
unfoldable pub function_end : ℕ → Spec → Pointer → Name → Reader Function
function_end n b p t = do
  xs ← params n
  body ← block_at n
  pure (function_of b p t xs body)

unfoldable pub function : ℕ → Reader Function
function n = do
  b ← spec
  p ← maybe_star
  t ← name
  function_end n b p t

-- ---- within a class

unfoldable pub label_word : Reader ℕ
label_word = choose (at_word Public) (word Public) (word Private)

unfoldable pub label : Reader (List Member)
label = do
  label_word
  mark m.Colon
  pure []

unfoldable pub build : ℕ → Reader (List Member)
build n = do
  t ← name
  xs ← params n
  body ← block_at n
  pure (build_of t xs body ∷ [])

unfoldable pub atomic_method : ℕ → Reader (List Member)
atomic_method n = do
  line ← word Atomic
  f ← function n
  pure (member_node.Func (atomic_of line f) ∷ [])

-- one more field of a line
unfoldable pub field : ℕ → Spec → Reader Member
field n b = do
  x ← slot n
  pure (field_of b x)

unfoldable pub fields_end : ℕ → Spec → Pointer → Name → Reader (List Member)
fields_end n b p t = do
  length ← maybe_bracketed_at n
  xs ← commas (field n b)
  mark m.Semicolon
  pure (field_of b (slot_of p t length) ∷ xs)

unfoldable pub method_end : ℕ → Spec → Pointer → Name → Reader (List Member)
method_end n b p t = do
  f ← function_end n b p t
  pure (member_node.Func f ∷ [])

-- a function or a line of fields, which begin alike
unfoldable pub typed_member : ℕ → Reader (List Member)
typed_member n = do
  b ← spec
  p ← maybe_star
  t ← name
  choose (at_mark m.OpenParen) (method_end n b p t) (fields_end n b p t)

-- a constructor begins here: a name and then a `(`
abbrev pub begins_build : Lexemes → Bool
begins_build a = heads at_name a && heads (at_mark m.OpenParen) (tail_of a)

unfoldable pub plain_member : ℕ → Reader (List Member)
plain_member n = choose_by begins_build (build n) (typed_member n)

unfoldable pub member : ℕ → Reader (List Member)
member n = choose first_label label (choose (at_word Atomic) (atomic_method n) (plain_member n))

unfoldable pub member_list : ℕ → Reader (List Member)
member_list n = flat first_member (member n)

unfoldable pub members : ℕ → Reader (List Member)
members n = do
  open_mark n m.OpenBrace
  xs ← member_list (pred n)
  mark m.CloseBrace
  pure xs

-- ---- items

unfoldable pub constant : ℕ → Reader Item
constant n = do
  line ← word Const
  t ← int_name
  x ← expr_semicolon n
  pure (item_node.Const t.text x line)

unfoldable pub class_word : Reader ℕ
class_word = choose (at_word Class) (word Class) (word Struct)

unfoldable pub global_head : Reader (Bool × ℕ)
global_head = do
  line ← word Global
  class_word
  pure (true, line)

unfoldable pub local_head : Reader (Bool × ℕ)
local_head = do
  line ← class_word
  pure (false, line)

unfoldable pub class_head : Reader (Bool × ℕ)
class_head = choose (at_word Global) global_head local_head

unfoldable pub class : ℕ → Reader Item
class n = do
  h ← class_head
  t ← name
  xs ← members n
  mark m.Semicolon
  pure (item_node.Class (record { name = t.text; remote = h.0; members = xs; line = h.1 }))

unfoldable pub function_item : ℕ → Reader Item
function_item n = do
  f ← function n
  pure (item_node.Func f)

unfoldable pub item : ℕ → Reader Item
item n = choose (at_word Const) (constant n) (choose first_class (class n) (function_item n))

unfoldable pub items : ℕ → Reader (List Item)
items n = many first_item (item n)

unfoldable pub program : ℕ → Reader Program
program n = do
  xs ← items n
  pure (record { items = xs })
