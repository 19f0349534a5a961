-- Parts of an expression, where the expressions in it fit.
use Rattle.std.proofs.Common.{ℕ, Bool, List, [], ◌∷◌, Option, Some, None}
use Rattle.cc_core.specs.Types.{FunctionTypes, Types}
use Rattle.cc_scopes.specs.declared.state.Local.{Local}
use Rattle.cc_scopes.specs.declared.types.Declared.{Declared}
use Rattle.cc_names.specs.Names.{class_named}
use Rattle.cc_names.specs.Table.{Name}
use Rattle.cc_tree.specs.declared.expressions.Expr.{Expr}
use Rattle.cc_tree.specs.declared.expressions.ExprKind.TheOpen.{Suffix-F}
use Rattle.cc_tree.specs.declared.expressions.Suffix.{Suffix, out-Suffix}
use Rattle.cc_tree.specs.declared.expressions.Link.{Link, out-Link}
use Rattle.cc_tree.specs.declared.expressions.UnaryOp.{UnaryOp}
use Rattle.cc_typing.specs.declared.calls.Args.{Args}
use Rattle.cc_scopes.specs.declared.typed.Place.{Place}
use Rattle.cc_scopes.specs.declared.typed.Typed.{Typed}
use Rattle.cc_scopes.specs.declared.typed.Typed.TheVariants as typed
use Rattle.cc_scopes.specs.Elab.{Elab}
use Rattle.cc_scopes.specs.Scope.{Context}
use Rattle.cc_scopes.specs.Meaning.{meant}
use Rattle.cc_typing.specs.Calls.{no_args, with_arg, call_named}
use Rattle.cc_typing.specs.New.{new_cells, new_array}
use Rattle.cc_typing.specs.Parts.{SuffixLayer, operand, argument, args_from, args, call, links_from, chain, prefixed, new_length, new_int, new_class}
use Rattle.cc_typing.specs.Parts.{index_value, index_array, index, field, call_on, suffix_as, suffix, suffixes_from, post}
use Rattle.cc_shared.proofs.Runs.{IsThere, given, always, gives, bind, done, looking}
use Rattle.cc_shared.proofs.Det.{Stands, Reads, having, ArgumentFits, OperandFits, TypedFits}
use Rattle.cc_shared.proofs.LengthLaws.{length_of_runs}
use Rattle.cc_shared.proofs.ScopeLaws.{meant_fits, decay_runs}
use Rattle.cc_shared.proofs.OperatorLaws.{unary_runs, joined_runs, each_typed}
use Rattle.cc_shared.proofs.CallLaws.{ArgsFit, no_args_fit, passed_runs, with_arg_fits, call_named_runs}
use Rattle.cc_shared.proofs.ObjectLaws.{indexed_array_runs, indexed_value_runs, object_of_runs, field_of_runs, call_member_runs, new_object_runs, new_cells_fits, new_array_fits}

module _ (y : Types) (main : ℕ) (here : FunctionTypes) (F : Type 0) (grown ds : List Declared) (part : ℕ) (own : List ℕ) (ls : List Local) (cx : Context) (stands : F → Stands y main here cx) (expr : Context → Expr → Elab Typed)
    (reads : (e : Expr) → Reads F grown ds part own ls (Unit {0}) (expr cx e) (TypedFits y main here part own)) where
  pub operand_runs : (e : Expr) → Reads F grown ds part own ls (Unit {0}) (operand expr cx e) (IsThere (OperandFits y main here))
  unfolding operand
  operand_runs e = bind (reads e) (λ t. given (λ x. x.1) (decay_runs y main here F grown ds part own ls cx t))

  argument_runs : (e : Expr) → Reads F grown ds part own ls (Unit {0}) (argument expr cx e) (IsThere (ArgumentFits y main here))
  unfolding argument
  argument_runs e = bind (reads e) (λ t. given (λ x. x.1) (passed_runs y main here F grown ds part own ls cx t))

  args_from_runs : (a : Option Args) (es : List Expr) → Reads F grown ds part own ls (IsThere (ArgsFit y main here) a) (args_from expr cx a es) (IsThere (ArgsFit y main here))
  args_from_runs a [] = done a (λ x. x)
  args_from_runs a (e ∷ es) = bind (always (argument_runs e)) (λ v.
      given (λ x. with_arg_fits y main here a v x.0 x.1) (args_from_runs (with_arg a v) es))

  pub args_runs : (es : List Expr) → Reads F grown ds part own ls (Unit {0}) (args expr cx es) (IsThere (ArgsFit y main here))
  unfolding args
  args_runs es = given (λ x. no_args_fit y main here) (args_from_runs (Some no_args) es)

  pub call_of_runs : (text : Name) (es : List Expr) → Reads F grown ds part own ls (Unit {0}) (call expr cx text es) (TypedFits y main here part own)
  unfolding call
  call_of_runs text es = bind (args_runs es) (λ a. looking (λ s. call_named cx (meant cx text s) a) (λ s.
      given (λ x. (meant_fits y main here cx (stands x.1.2) ds part own F text ls s x.1, x.0.1, x.1.2))
      (call_named_runs y main here F grown ds part own ls cx stands (meant cx text s) a)))

  links_from_runs : (a : Typed) (rest : List Link) → Reads F grown ds part own ls (TypedFits y main here part own a) (links_from expr cx a rest) (TypedFits y main here part own)
  links_from_runs a [] = done a (λ x. x)
  links_from_runs a (l ∷ rest) = bind (always (reads (out-Link l).part)) (λ b.
      bind (gives (each_typed y main here F grown ds part own ls cx) (joined_runs y main here F grown ds part own ls cx (out-Link l).op a b)) (λ c. given (λ x. x.1) (links_from_runs c rest)))

  pub chain_runs : (first : Expr) (rest : List Link) → Reads F grown ds part own ls (Unit {0}) (chain expr cx first rest) (TypedFits y main here part own)
  unfolding chain
  chain_runs first rest = bind (reads first) (λ a. given (λ x. x.1) (links_from_runs a rest))

  pub prefixed_runs : (op : UnaryOp) (e : Expr) → Reads F grown ds part own ls (Unit {0}) (prefixed expr cx op e) (TypedFits y main here part own)
  unfolding prefixed
  prefixed_runs op e = bind (reads e) (λ t. given (λ x. x.1) (unary_runs y main here F grown ds part own ls cx op t))

  -- ---- new objects

  new_length_runs : (sync : Bool) (e : Expr) → Reads F grown ds part own ls (Unit {0}) (new_length expr cx sync e) (TypedFits y main here part own)
  unfolding new_length
  new_length_runs sync e = bind (reads e) (λ t. bind (given (λ x. x.1) (length_of_runs y main here F grown ds part own ls cx t)) (λ k.
      done (new_array sync k) (λ x. new_array_fits y main here F grown ds part own ls cx sync k x.1)))

  pub new_int_runs : (sync : Bool) (o : Option Expr) → Reads F grown ds part own ls (Unit {0}) (new_int expr cx sync o) (TypedFits y main here part own)
  new_int_runs sync None = done (new_cells sync 1) (λ x. new_cells_fits y main here F grown ds part own ls cx sync 1)
  new_int_runs sync (Some e) = new_length_runs sync e

  pub new_class_runs : (text : Name) (es : List Expr) → Reads F grown ds part own ls (Unit {0}) (new_class expr cx text es) (TypedFits y main here part own)
  unfolding new_class
  new_class_runs text es = bind (args_runs es) (λ a. having F grown ds part own ls (given (λ x. (x.0.1, x.1)) (new_object_runs y main here F grown ds part own ls cx stands (class_named cx.names text) a)))

  -- ---- what follows a root

  index_value_runs : (t : Typed) (e : Expr) → Reads F grown ds part own ls (TypedFits y main here part own t) (index_value expr cx t e) (TypedFits y main here part own)
  unfolding index_value
  index_value_runs t e = bind (decay_runs y main here F grown ds part own ls cx t) (λ a. bind (always (operand_runs e)) (λ i.
      given (λ x. (x.0.1, x.1)) (indexed_value_runs y main here F grown ds part own ls cx a i)))

  index_array_runs : (p : Place) (k : ℕ) (e : Expr) → Reads F grown ds part own ls (TypedFits y main here part own (typed.Array p k)) (index_array expr cx p k e) (TypedFits y main here part own)
  unfolding index_array
  index_array_runs p k e = bind (always (operand_runs e)) (λ i. indexed_array_runs y main here F grown ds part own ls cx p k i)

  index_runs : (t : Typed) (e : Expr) → Reads F grown ds part own ls (TypedFits y main here part own t) (index expr cx t e) (TypedFits y main here part own)
  index_runs (typed.Array p k) e = index_array_runs p k e
  index_runs typed.Broken e = index_value_runs typed.Broken e
  index_runs typed.Spoiled e = index_value_runs typed.Spoiled e
  index_runs (typed.Value v) e = index_value_runs (typed.Value v) e
  index_runs (typed.This class remote) e = index_value_runs (typed.This class remote) e
  index_runs (typed.Constant term value) e = index_value_runs (typed.Constant term value) e
  index_runs (typed.Place p) e = index_value_runs (typed.Place p) e
  index_runs (typed.Object o) e = index_value_runs (typed.Object o) e

  field_runs : (t : Typed) (arrow : Bool) (text : Name) → Reads F grown ds part own ls (TypedFits y main here part own t) (field expr cx t arrow text) (TypedFits y main here part own)
  unfolding field
  field_runs t arrow text = bind (object_of_runs y main here F grown ds part own ls cx arrow t) (λ o. having F grown ds part own ls (given (λ x. (x.0.1, x.1)) (field_of_runs y main here F grown ds part own ls cx stands text o)))

  call_on_runs : (t : Typed) (arrow : Bool) (text : Name) (es : List Expr) → Reads F grown ds part own ls (TypedFits y main here part own t) (call_on expr cx t arrow text es) (TypedFits y main here part own)
  unfolding call_on
  call_on_runs t arrow text es = bind (object_of_runs y main here F grown ds part own ls cx arrow t) (λ o. bind (always (args_runs es)) (λ a.
      having F grown ds part own ls (given (λ x. (x.0.0.1, x.0.1, x.1)) (call_member_runs y main here F grown ds part own ls cx stands text o a))))

  suffix_as_runs : (t : Typed) (l : SuffixLayer) → Reads F grown ds part own ls (TypedFits y main here part own t) (suffix_as expr cx t l) (TypedFits y main here part own)
  suffix_as_runs t (Suffix-F.Index e) = index_runs t e
  suffix_as_runs t (Suffix-F.Field arrow text) = field_runs t arrow text
  suffix_as_runs t (Suffix-F.CallOn arrow text es) = call_on_runs t arrow text es

  suffix_runs : (t : Typed) (s : Suffix) → Reads F grown ds part own ls (TypedFits y main here part own t) (suffix expr cx t s) (TypedFits y main here part own)
  unfolding suffix
  suffix_runs t s = suffix_as_runs t (out-Suffix s)

  suffixes_from_runs : (t : Typed) (ss : List Suffix) → Reads F grown ds part own ls (TypedFits y main here part own t) (suffixes_from expr cx t ss) (TypedFits y main here part own)
  suffixes_from_runs t [] = done t (λ x. x)
  suffixes_from_runs t (s ∷ ss) = bind (suffix_runs t s) (λ u. given (λ x. x.1) (suffixes_from_runs u ss))

  pub post_runs : (e : Expr) (tail : List Suffix) → Reads F grown ds part own ls (Unit {0}) (post expr cx e tail) (TypedFits y main here part own)
  unfolding post
  post_runs e tail = bind (reads e) (λ t. given (λ x. x.1) (suffixes_from_runs t tail))
