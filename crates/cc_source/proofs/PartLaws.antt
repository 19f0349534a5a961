-- Parts of an expression, where the expressions in it fit.
use Rattle.std.proofs.Common.{ℕ, Bool, List, [], ◌∷◌, Option, Some, None, arith}
use Rattle.cc_core.specs.Core.{Shapes}
use Rattle.cc_names.specs.Names.{class_named}
use Rattle.cc_names.specs.Table.{Name}
use Rattle.cc_tree.specs.declared.expressions.Expr.{Expr}
use Rattle.cc_tree.specs.declared.expressions.ExprKind.TheOpen.{Suffix-F}
use Rattle.cc_tree.specs.declared.expressions.Suffix.{Suffix, out-Suffix}
use Rattle.cc_tree.specs.declared.expressions.Link.{Link, out-Link}
use Rattle.cc_tree.specs.declared.expressions.UnaryOp.{UnaryOp}
use Rattle.cc_typing.specs.declared.calls.Args.{Args}
use Rattle.cc_scopes.specs.declared.state.State.{State}
use Rattle.cc_scopes.specs.declared.typed.Place.{Place}
use Rattle.cc_scopes.specs.declared.typed.Typed.{Typed}
use Rattle.cc_scopes.specs.declared.typed.Typed.TheVariants as typed
use Rattle.cc_scopes.specs.Elab.{Elab}
use Rattle.cc_scopes.specs.Scope.{Context}
use Rattle.cc_scopes.specs.Meaning.{meant}
use Rattle.cc_typing.specs.Calls.{no_args, with_arg, call_named}
use Rattle.cc_typing.specs.New.{new_cells, new_array}
use Rattle.cc_typing.specs.Parts.{SuffixLayer, operand, argument, args_from, args, call, links_from, chain, prefixed, new_length, new_int, new_class}
use Rattle.cc_typing.specs.Parts.{index_value, index_array, index, field, call_on, suffix_as, suffix, suffixes_from, post}
use Rattle.cc_source.proofs.Runs.{IfThere, given, always, bind, done, looking}
use Rattle.cc_source.proofs.Sound.{IsLength, Reads, OperandFits, TypedFits}
use Rattle.cc_source.proofs.ScopeLaws.{decay_runs, length_of_runs}
use Rattle.cc_source.proofs.OperatorLaws.{unary_runs, joined_runs}
use Rattle.cc_source.proofs.CallLaws.{ArgsFit, no_args_fit, passed_runs, with_arg_fits, call_named_runs}
use Rattle.cc_source.proofs.ObjectLaws.{indexed_array_runs, indexed_value_runs, object_of_runs, field_of_runs, call_member_runs, new_object_runs, new_array_fits}

module _ (h : Shapes) (last : State) (cx : Context) (expr : Context → Expr → Elab Typed)
    (reads : (e : Expr) → Reads h last cx (Unit {0}) (expr cx e) (TypedFits h last)) where
  pub operand_runs : (e : Expr) → Reads h last cx (Unit {0}) (operand expr cx e) (IfThere (OperandFits h last))
  unfolding operand
  operand_runs e = bind (reads e) (λ t. given (λ x. x.1) (decay_runs h last cx t))

  argument_runs : (e : Expr) → Reads h last cx (Unit {0}) (argument expr cx e) (IfThere (OperandFits h last))
  unfolding argument
  argument_runs e = bind (reads e) (λ t. given (λ x. x.1) (passed_runs h last cx t))

  args_from_runs : (a : Option Args) (es : List Expr)
      → Reads h last cx (IfThere (ArgsFit h last) a) (args_from expr cx a es) (IfThere (ArgsFit h last))
  args_from_runs a [] = done a (λ x. x)
  args_from_runs a (e ∷ es) = bind (always (argument_runs e)) (λ v.
      given (λ x. with_arg_fits h last a v x.0 x.1) (args_from_runs (with_arg a v) es))

  pub args_runs : (es : List Expr) → Reads h last cx (Unit {0}) (args expr cx es) (IfThere (ArgsFit h last))
  unfolding args
  args_runs es = given (λ x. no_args_fit h last) (args_from_runs (Some no_args) es)

  pub call_of_runs : (text : Name) (es : List Expr) → Reads h last cx (Unit {0}) (call expr cx text es) (TypedFits h last)
  unfolding call
  call_of_runs text es = bind (args_runs es) (λ a. looking (λ s. call_named cx (meant cx text s) a) (λ s.
      given (λ x. x.0.1) (call_named_runs h last cx (meant cx text s) a)))

  links_from_runs : (a : Typed) (ls : List Link) → Reads h last cx (TypedFits h last a) (links_from expr cx a ls) (TypedFits h last)
  links_from_runs a [] = done a (λ x. x)
  links_from_runs a (l ∷ ls) = bind (always (reads (out-Link l).part)) (λ b.
      bind (joined_runs h last cx (out-Link l).op a b) (λ c. given (λ x. x.1) (links_from_runs c ls)))

  pub chain_runs : (first : Expr) (rest : List Link) → Reads h last cx (Unit {0}) (chain expr cx first rest) (TypedFits h last)
  unfolding chain
  chain_runs first rest = bind (reads first) (λ a. given (λ x. x.1) (links_from_runs a rest))

  pub prefixed_runs : (op : UnaryOp) (e : Expr) → Reads h last cx (Unit {0}) (prefixed expr cx op e) (TypedFits h last)
  unfolding prefixed
  prefixed_runs op e = bind (reads e) (λ t. given (λ x. x.1) (unary_runs h last cx op t))

  -- ---- new objects

  new_length_runs : (sync : Bool) (e : Expr) → Reads h last cx (Unit {0}) (new_length expr cx sync e) (TypedFits h last)
  unfolding new_length
  new_length_runs sync e = bind (reads e) (λ t. bind (length_of_runs h last cx t) (λ k.
      done (new_array sync k) (λ x. new_array_fits h last sync k x.1)))

  pub new_int_runs : (sync : Bool) (o : Option Expr) → Reads h last cx (Unit {0}) (new_int expr cx sync o) (TypedFits h last)
  new_int_runs sync None = let one : IsLength 1 = (omega arith, omega arith) in done (new_cells sync 1) (λ x. new_array_fits h last sync (Some 1) one)
  new_int_runs sync (Some e) = new_length_runs sync e

  pub new_class_runs : (text : Name) (es : List Expr) → Reads h last cx (Unit {0}) (new_class expr cx text es) (TypedFits h last)
  unfolding new_class
  new_class_runs text es = bind (args_runs es) (λ a. given (λ x. x.1) (new_object_runs h last cx (class_named cx.names text) a))

  -- ---- what follows a root

  index_value_runs : (t : Typed) (e : Expr) → Reads h last cx (TypedFits h last t) (index_value expr cx t e) (TypedFits h last)
  unfolding index_value
  index_value_runs t e = bind (decay_runs h last cx t) (λ a. bind (always (operand_runs e)) (λ i.
      given (λ x. (x.0.1, x.1)) (indexed_value_runs h last cx a i)))

  index_array_runs : (p : Place) (k : ℕ) (e : Expr)
      → Reads h last cx (TypedFits h last (typed.Array p k)) (index_array expr cx p k e) (TypedFits h last)
  unfolding index_array
  index_array_runs p k e = bind (always (operand_runs e)) (λ i. indexed_array_runs h last cx p k i)

  index_runs : (t : Typed) (e : Expr) → Reads h last cx (TypedFits h last t) (index expr cx t e) (TypedFits h last)
  index_runs (typed.Array p k) e = index_array_runs p k e
  index_runs typed.Broken e = index_value_runs typed.Broken e
  index_runs typed.Spoiled e = index_value_runs typed.Spoiled e
  index_runs (typed.Value v) e = index_value_runs (typed.Value v) e
  index_runs (typed.This class remote) e = index_value_runs (typed.This class remote) e
  index_runs (typed.Constant term value) e = index_value_runs (typed.Constant term value) e
  index_runs (typed.Place p) e = index_value_runs (typed.Place p) e
  index_runs (typed.Object o) e = index_value_runs (typed.Object o) e

  field_runs : (t : Typed) (arrow : Bool) (text : Name) → Reads h last cx (TypedFits h last t) (field expr cx t arrow text) (TypedFits h last)
  unfolding field
  field_runs t arrow text = bind (object_of_runs h last cx arrow t) (λ o. given (λ x. x.1) (field_of_runs h last cx text o))

  call_on_runs : (t : Typed) (arrow : Bool) (text : Name) (es : List Expr)
      → Reads h last cx (TypedFits h last t) (call_on expr cx t arrow text es) (TypedFits h last)
  unfolding call_on
  call_on_runs t arrow text es = bind (object_of_runs h last cx arrow t) (λ o. bind (always (args_runs es)) (λ a.
      given (λ x. (x.0.1, x.1)) (call_member_runs h last cx text o a)))

  suffix_as_runs : (t : Typed) (l : SuffixLayer) → Reads h last cx (TypedFits h last t) (suffix_as expr cx t l) (TypedFits h last)
  suffix_as_runs t (Suffix-F.Index e) = index_runs t e
  suffix_as_runs t (Suffix-F.Field arrow text) = field_runs t arrow text
  suffix_as_runs t (Suffix-F.CallOn arrow text es) = call_on_runs t arrow text es

  suffix_runs : (t : Typed) (s : Suffix) → Reads h last cx (TypedFits h last t) (suffix expr cx t s) (TypedFits h last)
  unfolding suffix
  suffix_runs t s = suffix_as_runs t (out-Suffix s)

  suffixes_from_runs : (t : Typed) (ss : List Suffix) → Reads h last cx (TypedFits h last t) (suffixes_from expr cx t ss) (TypedFits h last)
  suffixes_from_runs t [] = done t (λ x. x)
  suffixes_from_runs t (s ∷ ss) = bind (suffix_runs t s) (λ u. given (λ x. x.1) (suffixes_from_runs u ss))

  pub post_runs : (e : Expr) (tail : List Suffix) → Reads h last cx (Unit {0}) (post expr cx e tail) (TypedFits h last)
  unfolding post
  post_runs e tail = bind (reads e) (λ t. given (λ x. x.1) (suffixes_from_runs t tail))
