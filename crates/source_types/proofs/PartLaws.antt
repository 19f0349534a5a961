-- Parts of an expression, where the expressions in it fit.
use Rattle.cc_core.specs.Core as core
use Rattle.cc_core.specs.Names as names
use Rattle.core_types.specs.Types.{Types}
use Rattle.core_types.specs.Values.{World}
use Rattle.core_types.specs.Typing.{Scope}
use Rattle.std.proofs.Common.{ℕ, Bool, List, [], ◌∷◌, Option, Some, None}
use Rattle.cc_scopes.specs.declared.state.Local.{Local}
use Rattle.cc_scopes.specs.declared.types.Declared.{Declared}
use Rattle.cc_names.specs.Names.{class_named}
use Rattle.cc_names.specs.Table.{Name}
use Rattle.cc_tree.specs.declared.expressions.Expr.{Expr}
use Rattle.cc_tree.specs.declared.expressions.ExprKind.TheOpen.{Suffix-F}
use Rattle.cc_tree.specs.declared.expressions.Suffix.{Suffix, out-Suffix}
use Rattle.cc_tree.specs.declared.expressions.Link.{Link, out-Link}
use Rattle.cc_tree.specs.declared.expressions.UnaryOp.{UnaryOp}
use Rattle.cc_typing.specs.declared.calls.Args.{Args}
use Rattle.cc_scopes.specs.declared.typed.Place.{Place}
use Rattle.cc_scopes.specs.declared.typed.Typed.{Typed}
use Rattle.cc_scopes.specs.declared.typed.Typed.TheVariants as typed
use Rattle.cc_scopes.specs.Elab.{Elab}
use Rattle.cc_scopes.specs.Scope.{Context}
use Rattle.cc_scopes.specs.Meaning.{meant}
use Rattle.cc_typing.specs.Calls.{no_args, with_arg, call_named}
use Rattle.cc_typing.specs.New.{new_cells, new_array}
use Rattle.cc_typing.specs.Parts.{SuffixLayer, operand, argument, args_from, args, call, links_from, chain, prefixed, new_length, new_int, new_class}
use Rattle.cc_typing.specs.Parts.{index_value, index_array, index, field, call_on, suffix_as, suffix, suffixes_from, post}
use Rattle.source_types.specs.Reading.{IsThere}
use Rattle.source_types.proofs.Runs.{given, always, bind, done, looking}
use Rattle.source_types.specs.Reading.{Stands, Grown}
use Rattle.source_types.proofs.Fits.{Reads, having, ArgumentFits, OperandFits, TypedFits}
use Rattle.source_types.proofs.LengthLaws.{length_of_runs}
use Rattle.source_types.proofs.ScopeLaws.{meant_fits, decay_runs}
use Rattle.source_types.proofs.OperatorLaws.{unary_runs, joined_runs}
use Rattle.source_types.proofs.CallLaws.{ArgsFit, no_args_fit, passed_runs, with_arg_fits, call_named_runs}
use Rattle.source_types.proofs.ObjectLaws.{indexed_array_runs, indexed_value_runs, object_of_runs, field_of_runs, call_member_runs, new_object_runs, new_cells_fits, new_array_fits}

module _ (program : core.Program) (y : Types) (world : World) (home : names.Name) (here : Scope) (F : Type 0) (grown : Grown) (ds : List Declared) (ls : List Local) (cx : Context) (stands : F → Stands program y here grown cx) (expr : Context → Expr → Elab Typed)
    (reads : (e : Expr) → Reads F grown ds ls (Unit {0}) (expr cx e) (TypedFits program y world home here)) where
  pub operand_runs : (e : Expr) → Reads F grown ds ls (Unit {0}) (operand expr cx e) (IsThere (OperandFits program y world home here))
  unfolding operand
  operand_runs e = bind (reads e) (λ t. given (λ x. x.1) (decay_runs program y world home here F grown ds ls cx (λ f. (stands f).waits) t))

  argument_runs : (e : Expr) → Reads F grown ds ls (Unit {0}) (argument expr cx e) (IsThere (ArgumentFits program y world home here))
  unfolding argument
  argument_runs e = bind (reads e) (λ t. given (λ x. x.1) (passed_runs program y world home here F grown ds ls cx (λ f. (stands f).waits) t))

  args_from_runs : (a : Option Args) (es : List Expr) → Reads F grown ds ls (IsThere (ArgsFit program y world home here) a) (args_from expr cx a es) (IsThere (ArgsFit program y world home here))
  args_from_runs a [] = done a (λ x. x)
  args_from_runs a (e ∷ es) = bind (always (argument_runs e)) (λ v.
      given (λ x. with_arg_fits program y world home here a v x.0 x.1) (args_from_runs (with_arg a v) es))

  pub args_runs : (es : List Expr) → Reads F grown ds ls (Unit {0}) (args expr cx es) (IsThere (ArgsFit program y world home here))
  unfolding args
  args_runs es = given (λ x. no_args_fit program y world home here) (args_from_runs (Some no_args) es)

  pub call_of_runs : (text : Name) (es : List Expr) → Reads F grown ds ls (Unit {0}) (call expr cx text es) (TypedFits program y world home here)
  unfolding call
  call_of_runs text es = bind (args_runs es) (λ a. looking (λ s. call_named cx (meant cx text s) a) (λ s.
      given (λ x. (meant_fits program y world home here grown cx (stands x.1.2) ds F text ls s x.1, x.0.1, x.1.2))
      (call_named_runs program y world home here F grown ds ls cx (λ f. (stands f).waits) stands (meant cx text s) a)))

  links_from_runs : (a : Typed) (rest : List Link) → Reads F grown ds ls (TypedFits program y world home here a) (links_from expr cx a rest) (TypedFits program y world home here)
  links_from_runs a [] = done a (λ x. x)
  links_from_runs a (l ∷ rest) = bind (always (reads (out-Link l).part)) (λ b.
      bind ((joined_runs program y world home here F grown ds ls cx (λ f. (stands f).waits) (out-Link l).op a b)) (λ c. given (λ x. x.1) (links_from_runs c rest)))

  pub chain_runs : (first : Expr) (rest : List Link) → Reads F grown ds ls (Unit {0}) (chain expr cx first rest) (TypedFits program y world home here)
  unfolding chain
  chain_runs first rest = bind (reads first) (λ a. given (λ x. x.1) (links_from_runs a rest))

  pub prefixed_runs : (op : UnaryOp) (e : Expr) → Reads F grown ds ls (Unit {0}) (prefixed expr cx op e) (TypedFits program y world home here)
  unfolding prefixed
  prefixed_runs op e = bind (reads e) (λ t. given (λ x. x.1) (unary_runs program y world home here F grown ds ls cx (λ f. (stands f).waits) op t))

  -- ---- new objects

  new_length_runs : (sync : Bool) (e : Expr) → Reads F grown ds ls (Unit {0}) (new_length expr cx sync e) (TypedFits program y world home here)
  unfolding new_length
  new_length_runs sync e = bind (reads e) (λ t. bind (given (λ x. x.1) (length_of_runs program y world home here F grown ds ls cx t)) (λ k.
      done (new_array sync k) (λ x. new_array_fits program y world home here F grown ds ls cx (λ f. (stands f).waits) sync k x.1)))

  pub new_int_runs : (sync : Bool) (o : Option Expr) → Reads F grown ds ls (Unit {0}) (new_int expr cx sync o) (TypedFits program y world home here)
  new_int_runs sync None = done (new_cells sync 1) (λ x. new_cells_fits program y world home here F grown ds ls cx (λ f. (stands f).waits) sync 1)
  new_int_runs sync (Some e) = new_length_runs sync e

  pub new_class_runs : (text : Name) (es : List Expr) → Reads F grown ds ls (Unit {0}) (new_class expr cx text es) (TypedFits program y world home here)
  unfolding new_class
  new_class_runs text es = bind (args_runs es) (λ a. having F grown ds ls (given (λ x. (x.0.1, x.1)) (new_object_runs program y world home here F grown ds ls cx (λ f. (stands f).waits) stands (class_named cx.names text) a)))

  -- ---- what follows a root

  index_value_runs : (t : Typed) (e : Expr) → Reads F grown ds ls (TypedFits program y world home here t) (index_value expr cx t e) (TypedFits program y world home here)
  unfolding index_value
  index_value_runs t e = bind (decay_runs program y world home here F grown ds ls cx (λ f. (stands f).waits) t) (λ a. bind (always (operand_runs e)) (λ i.
      given (λ x. (x.0.1, x.1)) (indexed_value_runs program y world home here F grown ds ls cx (λ f. (stands f).waits) a i)))

  index_array_runs : (p : Place) (k : ℕ) (e : Expr) → Reads F grown ds ls (TypedFits program y world home here (typed.Array p k)) (index_array expr cx p k e) (TypedFits program y world home here)
  unfolding index_array
  index_array_runs p k e = bind (always (operand_runs e)) (λ i. indexed_array_runs program y world home here F grown ds ls cx (λ f. (stands f).waits) p k i)

  index_runs : (t : Typed) (e : Expr) → Reads F grown ds ls (TypedFits program y world home here t) (index expr cx t e) (TypedFits program y world home here)
  index_runs (typed.Array p k) e = index_array_runs p k e
  index_runs typed.Broken e = index_value_runs typed.Broken e
  index_runs typed.Spoiled e = index_value_runs typed.Spoiled e
  index_runs (typed.Value v) e = index_value_runs (typed.Value v) e
  index_runs (typed.This class remote) e = index_value_runs (typed.This class remote) e
  index_runs (typed.Constant term value) e = index_value_runs (typed.Constant term value) e
  index_runs (typed.Place p) e = index_value_runs (typed.Place p) e
  index_runs (typed.Object o) e = index_value_runs (typed.Object o) e

  field_runs : (t : Typed) (arrow : Bool) (text : Name) → Reads F grown ds ls (TypedFits program y world home here t) (field expr cx t arrow text) (TypedFits program y world home here)
  unfolding field
  field_runs t arrow text = bind (object_of_runs program y world home here F grown ds ls cx (λ f. (stands f).waits) arrow t) (λ o. having F grown ds ls (given (λ x. (x.0.1, x.1)) (field_of_runs program y world home here F grown ds ls cx (λ f. (stands f).waits) stands text o)))

  call_on_runs : (t : Typed) (arrow : Bool) (text : Name) (es : List Expr) → Reads F grown ds ls (TypedFits program y world home here t) (call_on expr cx t arrow text es) (TypedFits program y world home here)
  unfolding call_on
  call_on_runs t arrow text es = bind (object_of_runs program y world home here F grown ds ls cx (λ f. (stands f).waits) arrow t) (λ o. bind (always (args_runs es)) (λ a.
      having F grown ds ls (given (λ x. (x.0.0.1, x.0.1, x.1)) (call_member_runs program y world home here F grown ds ls cx (λ f. (stands f).waits) stands text o a))))

  suffix_as_runs : (t : Typed) (l : SuffixLayer) → Reads F grown ds ls (TypedFits program y world home here t) (suffix_as expr cx t l) (TypedFits program y world home here)
  suffix_as_runs t (Suffix-F.Index e) = index_runs t e
  suffix_as_runs t (Suffix-F.Field arrow text) = field_runs t arrow text
  suffix_as_runs t (Suffix-F.CallOn arrow text es) = call_on_runs t arrow text es

  suffix_runs : (t : Typed) (s : Suffix) → Reads F grown ds ls (TypedFits program y world home here t) (suffix expr cx t s) (TypedFits program y world home here)
  unfolding suffix
  suffix_runs t s = suffix_as_runs t (out-Suffix s)

  suffixes_from_runs : (t : Typed) (ss : List Suffix) → Reads F grown ds ls (TypedFits program y world home here t) (suffixes_from expr cx t ss) (TypedFits program y world home here)
  suffixes_from_runs t [] = done t (λ x. x)
  suffixes_from_runs t (s ∷ ss) = bind (suffix_runs t s) (λ u. given (λ x. x.1) (suffixes_from_runs u ss))

  pub post_runs : (e : Expr) (tail : List Suffix) → Reads F grown ds ls (Unit {0}) (post expr cx e tail) (TypedFits program y world home here)
  unfolding post
  post_runs e tail = bind (reads e) (λ t. given (λ x. x.1) (suffixes_from_runs t tail))
