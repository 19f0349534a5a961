-- Types, parameters, and declarations of variables.
--
-- In each line n is how many levels may still be opened.
use Rattle.std.specs.Prelude.{ℕ, Bool, true, List, [], ◌∷◌, None}
use Rattle.cc_lexer.specs.declared.token.Keyword.TheVariants.{Int, Sync, Void, Global}
use Rattle.cc_lexer.specs.declared.token.Mark.TheVariants as m
use Rattle.cc_tree.specs.declared.statements.Base.TheVariants as base
use Rattle.cc_tree.specs.declared.statements.Start.TheVariants as start
use Rattle.cc_tree.specs.declared.statements.Stmt.{Stmt}
use Rattle.cc_tree.specs.declared.declarations.Param.{Param}
use Rattle.cc_grammar.specs.declared.parts.Pointer.{Pointer}
use Rattle.cc_grammar.specs.declared.parts.Spec.{Spec}
use Rattle.cc_grammar.specs.declared.parts.Slot.{Slot}
use Rattle.cc_grammar.specs.Symbol.{Symbol, word, mark, open_mark, name, pure, ◌>>=◌, ◌>>◌, ◌or◌, many, opt, has_word, listed}
use Rattle.cc_grammar.specs.Nodes.{spec_of, no_pointer, pointer, slot_of, param_of, declared}
use Rattle.cc_grammar.specs.Expressions.{expr, args_at, bracketed_at}

-- Spec := 'int' | 'sync' 'int' | 'void' | NAME
unfoldable pub spec : Symbol Spec
spec =
    (do line ← word Int; pure (spec_of base.Int line))
    or (do line ← word Sync; word Int; pure (spec_of base.SyncInt line))
    or (do line ← word Void; pure (spec_of base.Void line))
    or (do t ← name; pure (spec_of (base.Named t.text) t.line))

-- Star := '*' [ 'global' ] [ 'sync' ] | '*' 'sync' 'global'
unfoldable pub star : Symbol Pointer
star =
    (do mark m.Star; remote ← has_word Global; once ← has_word Sync; pure (pointer remote once))
    or (do mark m.Star; word Sync; word Global; pure (pointer true true))

-- [ Star ]
unfoldable pub maybe_star : Symbol Pointer
maybe_star = star or pure no_pointer

-- Param := Spec [ Star ] NAME
unfoldable pub param : Symbol Param
param = do
  b ← spec
  p ← maybe_star
  t ← name
  pure (param_of b p t)

-- Params := '(' [ Param { ',' Param } ] ')'
unfoldable pub params : ℕ → Symbol (List Param)
params n = do
  open_mark n m.OpenParen
  xs ← listed param
  mark m.CloseParen
  pure xs

-- Slot := [ Star ] NAME [ '[' Expr ']' ]
unfoldable pub slot : ℕ → Symbol Slot
slot n = do
  p ← maybe_star
  t ← name
  length ← opt (bracketed_at n)
  pure (slot_of p t length)

-- Var := Slot | [ Star ] NAME '=' Expr | [ Star ] NAME Args
unfoldable pub var : ℕ → Spec → Symbol Stmt
var n b =
    (do x ← slot n; pure (declared b x start.Nothing))
    or (do p ← maybe_star; t ← name; mark m.Assign; x ← expr n; pure (declared b (slot_of p t None) (start.Value x)))
    or (do p ← maybe_star; t ← name; xs ← args_at n; pure (declared b (slot_of p t None) (start.Args xs)))

-- Decl := Spec Var { ',' Var }
unfoldable pub decl : ℕ → Symbol (List Stmt)
decl n = do
  b ← spec
  x ← var n b
  xs ← many (mark m.Comma >> var n b)
  pure (x ∷ xs)
