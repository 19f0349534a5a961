-- What stands at the level of the file, and within a class.
--
-- In each line n is how many levels may still be opened.
use Rattle.std.specs.Prelude.{ℕ, pred, Bool, true, false, List, [], ◌∷◌}
use Rattle.cc_lexer.specs.declared.token.Keyword.TheVariants.{Const, Int, Global, Class, Struct, Public, Private, Atomic}
use Rattle.cc_lexer.specs.declared.token.Mark.TheVariants as m
use Rattle.cc_tree.specs.declared.declarations.Function.{Function}
use Rattle.cc_tree.specs.declared.declarations.Member.{Member}
use Rattle.cc_tree.specs.declared.declarations.Member.TheVariants as member_node
use Rattle.cc_tree.specs.declared.declarations.Item.{Item}
use Rattle.cc_tree.specs.declared.declarations.Item.TheVariants as item_node
use Rattle.cc_grammar.specs.Symbol.{Symbol, word, mark, open_mark, name, pure, ◌>>=◌, ◌>>◌, ◌or◌, many}
use Rattle.cc_grammar.specs.Nodes.{joined, function_of, atomic_of, field_of, build_of}
use Rattle.cc_grammar.specs.Expressions.{expr}
use Rattle.cc_grammar.specs.Declarations.{spec, maybe_star, params, slot}
use Rattle.cc_grammar.specs.Statements.{block_at}

-- Spec [ Star ] NAME Params Block
unfoldable pub function : ℕ → Symbol Function
function n = do
  b ← spec
  p ← maybe_star
  t ← name
  xs ← params n
  body ← block_at n
  pure (function_of b p t xs body)

-- ---- within a class

-- ( 'public' | 'private' ) ':', which stands for no member
unfoldable pub label : Symbol (List Member)
label = do
  (word Public or word Private)
  mark m.Colon
  pure []

-- NAME Params Block
unfoldable pub build : ℕ → Symbol (List Member)
build n = do
  t ← name
  xs ← params n
  body ← block_at n
  pure (build_of t xs body ∷ [])

-- 'atomic' Spec [ Star ] NAME Params Block
unfoldable pub atomic_method : ℕ → Symbol (List Member)
atomic_method n = do
  line ← word Atomic
  f ← function n
  pure (member_node.Func (atomic_of line f) ∷ [])

-- Spec [ Star ] NAME Params Block
unfoldable pub method : ℕ → Symbol (List Member)
method n = do
  f ← function n
  pure (member_node.Func f ∷ [])

-- Spec Slot { ',' Slot } ';'
unfoldable pub fields : ℕ → Symbol (List Member)
fields n = do
  b ← spec
  x ← slot n
  xs ← many (mark m.Comma >> (do y ← slot n; pure (field_of b y)))
  mark m.Semicolon
  pure (field_of b x ∷ xs)

-- Member := ( 'public' | 'private' ) ':'
--         | NAME Params Block
--         | [ 'atomic' ] Spec [ Star ] NAME Params Block
--         | Spec Slot { ',' Slot } ';'
unfoldable pub member : ℕ → Symbol (List Member)
member n = label or build n or (atomic_method n or method n) or fields n

-- { Member }
unfoldable pub member_list : ℕ → Symbol (List Member)
member_list n = do
  xss ← many (member n)
  pure (joined xss)

-- '{' { Member } '}'
unfoldable pub members : ℕ → Symbol (List Member)
members n = do
  open_mark n m.OpenBrace
  xs ← member_list (pred n)
  mark m.CloseBrace
  pure xs

-- ---- items

-- 'const' 'int' NAME '=' Expr ';'
unfoldable pub constant : ℕ → Symbol Item
constant n = do
  line ← word Const
  word Int
  t ← name
  mark m.Assign
  x ← expr n
  mark m.Semicolon
  pure (item_node.Const t.text x line)

-- 'class' | 'struct'
unfoldable pub class_word : Symbol ℕ
class_word = word Class or word Struct

-- [ 'global' ] ( 'class' | 'struct' ), by whether it is global, with the line
unfoldable pub class_head : Symbol (Bool × ℕ)
class_head = (do line ← word Global; class_word; pure (true, line)) or (do line ← class_word; pure (false, line))

-- [ 'global' ] ( 'class' | 'struct' ) NAME '{' { Member } '}' ';'
unfoldable pub class : ℕ → Symbol Item
class n = do
  h ← class_head
  t ← name
  xs ← members n
  mark m.Semicolon
  pure (item_node.Class (record { name = t.text; remote = h.0; members = xs; line = h.1 }))

-- Item := 'const' 'int' NAME '=' Expr ';'
--       | [ 'global' ] ( 'class' | 'struct' ) NAME '{' { Member } '}' ';'
--       | Spec [ Star ] NAME Params Block
unfoldable pub item : ℕ → Symbol Item
item n = constant n or class n or (do f ← function n; pure (item_node.Func f))
