-- Parts of an expression, each read in turn.
use Rattle.std.proofs.Common.{ℕ, Bool, List, [], ◌∷◌, Option, Some, None}
use Rattle.cc_names.specs.Names.{class_named}
use Rattle.cc_names.specs.Table.{Name}
use Rattle.cc_tree.specs.declared.expressions.Expr.{Expr}
use Rattle.cc_tree.specs.declared.expressions.ExprKind.TheOpen.{Suffix-F}
use Rattle.cc_tree.specs.declared.expressions.Suffix.{Suffix, out-Suffix}
use Rattle.cc_tree.specs.declared.expressions.Link.{Link, out-Link}
use Rattle.cc_tree.specs.declared.expressions.UnaryOp.{UnaryOp}
use Rattle.cc_typing.specs.declared.calls.Args.{Args}
use Rattle.cc_scopes.specs.declared.typed.Place.{Place}
use Rattle.cc_scopes.specs.declared.typed.Typed.{Typed}
use Rattle.cc_scopes.specs.declared.typed.Typed.TheVariants as typed
use Rattle.cc_scopes.specs.Elab.{Elab}
use Rattle.cc_scopes.specs.Scope.{Context}
use Rattle.cc_scopes.specs.Meaning.{meant}
use Rattle.cc_typing.specs.Calls.{no_args, with_arg, call_named}
use Rattle.cc_typing.specs.New.{new_cells, new_array}
use Rattle.cc_typing.specs.Parts.{SuffixLayer, operand, argument, args_from, args, call, links_from, chain, prefixed, new_length, new_int, new_class}
use Rattle.cc_typing.specs.Parts.{index_value, index_array, index, field, call_on, suffix_as, suffix, suffixes_from, post}
use Rattle.law_sharing.proofs.Leaves.{Leaves, bind, done, looking}
use Rattle.law_sharing.proofs.ScopeLaws.{decay_leaves, length_of_leaves}
use Rattle.law_sharing.proofs.OperatorLaws.{unary_leaves, joined_leaves}
use Rattle.law_sharing.proofs.CallLaws.{passed_leaves, call_named_leaves}
use Rattle.law_sharing.proofs.ObjectLaws.{indexed_array_leaves, indexed_value_leaves, object_of_leaves, field_of_leaves, call_member_leaves}
use Rattle.law_sharing.proofs.ObjectLaws.{new_object_leaves}

module _ (cx : Context) (expr : Context → Expr → Elab Typed)
    (reads : (e : Expr) → Leaves cx.line (expr cx e)) where
  pub operand_leaves : (e : Expr) → Leaves cx.line (operand expr cx e)
  unfolding operand
  operand_leaves e = bind (reads e) (λ t. (decay_leaves cx t))

  argument_leaves : (e : Expr) → Leaves cx.line (argument expr cx e)
  unfolding argument
  argument_leaves e = bind (reads e) (λ t. (passed_leaves cx t))

  args_from_leaves : (a : Option Args) (es : List Expr) → Leaves cx.line (args_from expr cx a es)
  args_from_leaves a [] = done a
  args_from_leaves a (e ∷ es) = bind (argument_leaves e) (λ v.
      (args_from_leaves (with_arg a v) es))

  pub args_leaves : (es : List Expr) → Leaves cx.line (args expr cx es)
  unfolding args
  args_leaves es = (args_from_leaves (Some no_args) es)

  pub call_of_leaves : (text : Name) (es : List Expr) → Leaves cx.line (call expr cx text es)
  unfolding call
  call_of_leaves text es = bind (args_leaves es) (λ a. looking (λ s. call_named cx (meant cx text s) a) (λ s.
      (call_named_leaves cx (meant cx text s) a)))

  links_from_leaves : (a : Typed) (ls : List Link) → Leaves cx.line (links_from expr cx a ls)
  links_from_leaves a [] = done a
  links_from_leaves a (l ∷ ls) = bind (reads (out-Link l).part) (λ b.
      bind (joined_leaves cx (out-Link l).op a b) (λ c. (links_from_leaves c ls)))

  pub chain_leaves : (first : Expr) (rest : List Link) → Leaves cx.line (chain expr cx first rest)
  unfolding chain
  chain_leaves first rest = bind (reads first) (λ a. (links_from_leaves a rest))

  pub prefixed_leaves : (op : UnaryOp) (e : Expr) → Leaves cx.line (prefixed expr cx op e)
  unfolding prefixed
  prefixed_leaves op e = bind (reads e) (λ t. (unary_leaves cx op t))

  -- ---- new objects

  new_length_leaves : (sync : Bool) (e : Expr) → Leaves cx.line (new_length expr cx sync e)
  unfolding new_length
  new_length_leaves sync e = bind (reads e) (λ t. bind (length_of_leaves cx t) (λ k.
      done (new_array sync k)))

  pub new_int_leaves : (sync : Bool) (o : Option Expr) → Leaves cx.line (new_int expr cx sync o)
  new_int_leaves sync None = done (new_cells sync 1)
  new_int_leaves sync (Some e) = new_length_leaves sync e

  pub new_class_leaves : (text : Name) (es : List Expr) → Leaves cx.line (new_class expr cx text es)
  unfolding new_class
  new_class_leaves text es = bind (args_leaves es) (λ a. (new_object_leaves cx (class_named cx.names text) a))

  -- ---- what follows a root

  index_value_leaves : (t : Typed) (e : Expr) → Leaves cx.line (index_value expr cx t e)
  unfolding index_value
  index_value_leaves t e = bind (decay_leaves cx t) (λ a. bind (operand_leaves e) (λ i.
      (indexed_value_leaves cx a i)))

  index_array_leaves : (p : Place) (k : ℕ) (e : Expr) → Leaves cx.line (index_array expr cx p k e)
  unfolding index_array
  index_array_leaves p k e = bind (operand_leaves e) (λ i. indexed_array_leaves cx p k i)

  index_leaves : (t : Typed) (e : Expr) → Leaves cx.line (index expr cx t e)
  index_leaves (typed.Array p k) e = index_array_leaves p k e
  index_leaves typed.Broken e = index_value_leaves typed.Broken e
  index_leaves typed.Spoiled e = index_value_leaves typed.Spoiled e
  index_leaves (typed.Value v) e = index_value_leaves (typed.Value v) e
  index_leaves (typed.This class remote) e = index_value_leaves (typed.This class remote) e
  index_leaves (typed.Constant term value) e = index_value_leaves (typed.Constant term value) e
  index_leaves (typed.Place p) e = index_value_leaves (typed.Place p) e
  index_leaves (typed.Object o) e = index_value_leaves (typed.Object o) e

  field_leaves : (t : Typed) (arrow : Bool) (text : Name) → Leaves cx.line (field expr cx t arrow text)
  unfolding field
  field_leaves t arrow text = bind (object_of_leaves cx arrow t) (λ o. (field_of_leaves cx text o))

  call_on_leaves : (t : Typed) (arrow : Bool) (text : Name) (es : List Expr) → Leaves cx.line (call_on expr cx t arrow text es)
  unfolding call_on
  call_on_leaves t arrow text es = bind (object_of_leaves cx arrow t) (λ o. bind (args_leaves es) (λ a.
      (call_member_leaves cx text o a)))

  suffix_as_leaves : (t : Typed) (l : SuffixLayer) → Leaves cx.line (suffix_as expr cx t l)
  suffix_as_leaves t (Suffix-F.Index e) = index_leaves t e
  suffix_as_leaves t (Suffix-F.Field arrow text) = field_leaves t arrow text
  suffix_as_leaves t (Suffix-F.CallOn arrow text es) = call_on_leaves t arrow text es

  suffix_leaves : (t : Typed) (s : Suffix) → Leaves cx.line (suffix expr cx t s)
  unfolding suffix
  suffix_leaves t s = suffix_as_leaves t (out-Suffix s)

  suffixes_from_leaves : (t : Typed) (ss : List Suffix) → Leaves cx.line (suffixes_from expr cx t ss)
  suffixes_from_leaves t [] = done t
  suffixes_from_leaves t (s ∷ ss) = bind (suffix_leaves t s) (λ u. (suffixes_from_leaves u ss))

  pub post_leaves : (e : Expr) (tail : List Suffix) → Leaves cx.line (post expr cx e tail)
  unfolding post
  post_leaves e tail = bind (reads e) (λ t. (suffixes_from_leaves t tail))
