-- Parts of an expression, each read in turn. `expr` reads an expression.
use Rattle.std.specs.Prelude.{ℕ, Bool, List, [], ◌∷◌, Option, Some, None}
use Rattle.cc_names.specs.Names.{class_named}
use Rattle.cc_names.specs.Table.{Name}
use Rattle.cc_tree.specs.declared.expressions.Expr.{Expr}
use Rattle.cc_tree.specs.declared.expressions.ExprKind.{ExprKind}
use Rattle.cc_tree.specs.declared.expressions.ExprKind.TheOpen.{Suffix-F}
use Rattle.cc_tree.specs.declared.expressions.Suffix.{Suffix, out-Suffix}
use Rattle.cc_tree.specs.declared.expressions.Link.{Link, out-Link}
use Rattle.cc_tree.specs.declared.expressions.UnaryOp.{UnaryOp}
use Rattle.cc_typing.specs.declared.calls.Args.{Args}
use Rattle.cc_scopes.specs.declared.typed.Operand.{Operand}
use Rattle.cc_scopes.specs.declared.typed.Place.{Place}
use Rattle.cc_scopes.specs.declared.typed.Typed.{Typed}
use Rattle.cc_scopes.specs.declared.typed.Typed.TheVariants as typed
use Rattle.cc_scopes.specs.Elab.{Elab, ◌>>=◌, pure}
use Rattle.cc_scopes.specs.Scope.{Context}
use Rattle.cc_scopes.specs.Typed.{decay}
use Rattle.cc_scopes.specs.Meaning.{meant}
use Rattle.cc_scopes.specs.Lengths.{length_of}
use Rattle.cc_operators.specs.Operators.{unary, joined}
use Rattle.cc_typing.specs.Calls.{no_args, passed, with_arg, call_named}
use Rattle.cc_typing.specs.Objects.{indexed_array, indexed_value, object_of, field_of, call_member}
use Rattle.cc_typing.specs.New.{new_cells, new_array, new_object}

abbrev pub SuffixLayer : Type 0
SuffixLayer = Suffix-F ExprKind Suffix Expr Link

module _ (expr : Context → Expr → Elab Typed) where
  -- an expression as a value
  unfoldable pub operand : Context → Expr → Elab (Option Operand)
  operand cx e = expr cx e >>= decay cx

  unfoldable pub argument : Context → Expr → Elab (Option Operand)
  argument cx e = expr cx e >>= passed cx

  abbrev pub args_from : Context → Option Args → List Expr → Elab (Option Args)
  args_from cx done [] = pure done
  args_from cx done (e ∷ es) = argument cx e >>= (λ v. args_from cx (with_arg done v) es)

  unfoldable pub args : Context → List Expr → Elab (Option Args)
  args cx = args_from cx (Some no_args)

  unfoldable pub call : Context → Name → List Expr → Elab Typed
  call cx name es = args cx es >>= (λ a s. call_named cx (meant cx name s) a s)

  -- operators of one level in a row, from the left
  abbrev pub links_from : Context → Typed → List Link → Elab Typed
  links_from cx a [] = pure a
  links_from cx a (l ∷ ls) = expr cx (out-Link l).part >>= (λ b. joined cx (out-Link l).op a b >>= (λ c. links_from cx c ls))

  unfoldable pub chain : Context → Expr → List Link → Elab Typed
  chain cx first rest = expr cx first >>= (λ a. links_from cx a rest)

  unfoldable pub prefixed : Context → UnaryOp → Expr → Elab Typed
  prefixed cx op e = expr cx e >>= unary cx op

  -- ---- new objects

  unfoldable pub new_length : Context → (sync : Bool) → Expr → Elab Typed
  new_length cx sync e = expr cx e >>= (λ t. length_of cx t >>= (λ n. pure (new_array sync n)))

  abbrev pub new_int : Context → (sync : Bool) → Option Expr → Elab Typed
  new_int cx sync None = pure (new_cells sync 1)
  new_int cx sync (Some e) = new_length cx sync e

  unfoldable pub new_class : Context → Name → List Expr → Elab Typed
  new_class cx name es = args cx es >>= new_object cx (class_named cx.names name)

  -- ---- what follows a root

  unfoldable pub index_value : Context → Typed → Expr → Elab Typed
  index_value cx t e = decay cx t >>= (λ a. operand cx e >>= (λ i. indexed_value cx a i))

  unfoldable pub index_array : Context → Place → ℕ → Expr → Elab Typed
  index_array cx p n e = operand cx e >>= (λ i. indexed_array cx p n i)

  abbrev pub index : Context → Typed → Expr → Elab Typed
  index cx (typed.Array p n) e = index_array cx p n e
  index cx t e = index_value cx t e

  unfoldable pub field : Context → Typed → (arrow : Bool) → Name → Elab Typed
  field cx t arrow name = object_of cx arrow t >>= (λ o. field_of cx name o)

  unfoldable pub call_on : Context → Typed → (arrow : Bool) → Name → List Expr → Elab Typed
  call_on cx t arrow name es = object_of cx arrow t >>= (λ o. args cx es >>= (λ a. call_member cx name o a))

  abbrev pub suffix_as : Context → Typed → SuffixLayer → Elab Typed
  suffix_as cx t (Suffix-F.Index e) = index cx t e
  suffix_as cx t (Suffix-F.Field arrow name) = field cx t arrow name
  suffix_as cx t (Suffix-F.CallOn arrow name es) = call_on cx t arrow name es

  unfoldable pub suffix : Context → Typed → Suffix → Elab Typed
  suffix cx t s = suffix_as cx t (out-Suffix s)

  abbrev pub suffixes_from : Context → Typed → List Suffix → Elab Typed
  suffixes_from cx t [] = pure t
  suffixes_from cx t (s ∷ ss) = suffix cx t s >>= (λ u. suffixes_from cx u ss)

  unfoldable pub post : Context → Expr → List Suffix → Elab Typed
  post cx e tail = expr cx e >>= (λ t. suffixes_from cx t tail)
