-- Parts of an expression, where each name in it finds a variable among these.
use Rattle.std.proofs.Common.{ℕ, Bool, List, [], ◌∷◌, ◌++◌, Option, Some, None}
use Rattle.std.specs.List.{AllByRecursion}
use Rattle.cc_names.specs.Names.{class_named}
use Rattle.cc_names.specs.Table.{Name}
use Rattle.cc_tree.specs.declared.expressions.Expr.{Expr}
use Rattle.cc_tree.specs.declared.expressions.ExprKind.TheOpen.{Suffix-F}
use Rattle.cc_tree.specs.declared.expressions.Suffix.{Suffix, out-Suffix}
use Rattle.cc_tree.specs.declared.expressions.Link.{Link, out-Link}
use Rattle.cc_tree.specs.declared.expressions.UnaryOp.{UnaryOp}
use Rattle.cc_typing.specs.declared.calls.Args.{Args}
use Rattle.cc_scopes.specs.declared.state.State.{State}
use Rattle.cc_scopes.specs.declared.typed.Place.{Place}
use Rattle.cc_scopes.specs.declared.typed.Typed.{Typed}
use Rattle.cc_scopes.specs.declared.typed.Typed.TheVariants as typed
use Rattle.cc_scopes.specs.Elab.{Elab}
use Rattle.cc_scopes.specs.Scope.{Context}
use Rattle.cc_scopes.specs.Meaning.{meant}
use Rattle.cc_typing.specs.Calls.{no_args, with_arg, call_named}
use Rattle.cc_typing.specs.New.{new_cells, new_array}
use Rattle.cc_typing.specs.Parts.{SuffixLayer, operand, argument, args_from, args, call, links_from, chain, prefixed, new_length, new_int, new_class}
use Rattle.cc_typing.specs.Parts.{index_value, index_array, index, field, call_on, suffix_as, suffix, suffixes_from, post}
use Rattle.law_scopes.specs.Uses.{names_in, suffix_names, tail_names, link_names, length_names}
use Rattle.law_scopes.specs.Variables.{TypedNames}
use Rattle.law_scopes.proofs.Runs.{IfThere, given, always, bind, done, looking}
use Rattle.law_scopes.proofs.Reading.{Reads, OperandFits}
use Rattle.law_scopes.proofs.ScopeLaws.{Finds, decay_runs, length_of_runs}
use Rattle.law_scopes.proofs.OperatorLaws.{unary_runs, joined_runs}
use Rattle.law_scopes.proofs.CallLaws.{ArgsFit, no_args_fit, passed_runs, with_arg_fits, call_named_runs}
use Rattle.law_scopes.proofs.ObjectLaws.{indexed_array_runs, indexed_value_runs, object_of_runs, field_of_runs, call_member_runs, new_object_runs, new_array_fits}

-- what each of these names finds is among them
abbrev pub Covers : (ℕ → Type 0) → State → List Name → Type 0
Covers V from xs = AllByRecursion (Finds V from) xs

pub front : (V : ℕ → Type 0) (from : State) (xs ys : List Name) → Covers V from (xs ++ ys) → Covers V from xs
front V from [] ys p = tt
front V from (x ∷ xs) ys p = (p.0, front V from xs ys p.1)

pub behind : (V : ℕ → Type 0) (from : State) (xs ys : List Name) → Covers V from (xs ++ ys) → Covers V from ys
behind V from [] ys p = p
behind V from (x ∷ xs) ys p = behind V from xs ys p.1

module _ (V : ℕ → Type 0) (from : State) (cx : Context) (expr : Context → Expr → Elab Typed) (names : Expr → List Name)
    (reads : (e : Expr) → Covers V from (names e) → Reads from (Unit {0}) (expr cx e) (TypedNames V)) where
  pub operand_runs : (e : Expr) → Covers V from (names e) → Reads from (Unit {0}) (operand expr cx e) (IfThere (OperandFits V from))
  unfolding operand
  operand_runs e c = bind (reads e c) (λ t. given (λ x. x.1) (decay_runs V from cx t))

  argument_runs : (e : Expr) → Covers V from (names e) → Reads from (Unit {0}) (argument expr cx e) (IfThere (OperandFits V from))
  unfolding argument
  argument_runs e c = bind (reads e c) (λ t. given (λ x. x.1) (passed_runs V from cx t))

  args_from_runs : (a : Option Args) (es : List Expr) → Covers V from (names_in names es)
      → Reads from (IfThere (ArgsFit V from) a) (args_from expr cx a es) (IfThere (ArgsFit V from))
  args_from_runs a [] c = done a (λ x. x)
  args_from_runs a (e ∷ es) c = bind (always (argument_runs e (front V from (names e) (names_in names es) c))) (λ v.
      given (λ x. with_arg_fits V from a v x.0 x.1) (args_from_runs (with_arg a v) es (behind V from (names e) (names_in names es) c)))

  pub args_runs : (es : List Expr) → Covers V from (names_in names es) → Reads from (Unit {0}) (args expr cx es) (IfThere (ArgsFit V from))
  unfolding args
  args_runs es c = given (λ x. no_args_fit V from) (args_from_runs (Some no_args) es c)

  pub call_of_runs : (text : Name) (es : List Expr) → Covers V from (names_in names es) → Reads from (Unit {0}) (call expr cx text es) (TypedNames V)
  unfolding call
  call_of_runs text es c = bind (args_runs es c) (λ a. looking (λ s. call_named cx (meant cx text s) a) (λ s.
      given (λ x. x.0.1) (call_named_runs V from cx (meant cx text s) a)))

  links_from_runs : (a : Typed) (ls : List Link) → Covers V from (link_names names ls)
      → Reads from (TypedNames V a) (links_from expr cx a ls) (TypedNames V)
  links_from_runs a [] c = done a (λ x. x)
  links_from_runs a (l ∷ ls) c = bind (always (reads (out-Link l).part (front V from (names (out-Link l).part) (link_names names ls) c))) (λ b.
      bind (joined_runs V from cx (out-Link l).op a b) (λ d.
      given (λ x. x.1) (links_from_runs d ls (behind V from (names (out-Link l).part) (link_names names ls) c))))

  pub chain_runs : (first : Expr) (rest : List Link) → Covers V from (names first ++ link_names names rest)
      → Reads from (Unit {0}) (chain expr cx first rest) (TypedNames V)
  unfolding chain
  chain_runs first rest c = bind (reads first (front V from (names first) (link_names names rest) c)) (λ a.
      given (λ x. x.1) (links_from_runs a rest (behind V from (names first) (link_names names rest) c)))

  pub prefixed_runs : (op : UnaryOp) (e : Expr) → Covers V from (names e) → Reads from (Unit {0}) (prefixed expr cx op e) (TypedNames V)
  unfolding prefixed
  prefixed_runs op e c = bind (reads e c) (λ t. given (λ x. x.1) (unary_runs V from cx op t))

  -- ---- new objects

  new_length_runs : (sync : Bool) (e : Expr) → Covers V from (names e) → Reads from (Unit {0}) (new_length expr cx sync e) (TypedNames V)
  unfolding new_length
  new_length_runs sync e c = bind (reads e c) (λ t. bind (length_of_runs V from cx t) (λ k.
      done (new_array sync k) (λ x. new_array_fits V sync k)))

  pub new_int_runs : (sync : Bool) (o : Option Expr) → Covers V from (length_names names o)
      → Reads from (Unit {0}) (new_int expr cx sync o) (TypedNames V)
  new_int_runs sync None c = done (new_cells sync 1) (λ x. new_array_fits V sync (Some 1))
  new_int_runs sync (Some e) c = new_length_runs sync e c

  pub new_class_runs : (text : Name) (es : List Expr) → Covers V from (names_in names es)
      → Reads from (Unit {0}) (new_class expr cx text es) (TypedNames V)
  unfolding new_class
  new_class_runs text es c = bind (args_runs es c) (λ a. given (λ x. x.1) (new_object_runs V from cx (class_named cx.names text) a))

  -- ---- what follows a root

  index_value_runs : (t : Typed) (e : Expr) → Covers V from (names e) → Reads from (TypedNames V t) (index_value expr cx t e) (TypedNames V)
  unfolding index_value
  index_value_runs t e c = bind (decay_runs V from cx t) (λ a. bind (always (operand_runs e c)) (λ i.
      given (λ x. (x.0.1, x.1)) (indexed_value_runs V from cx a i)))

  index_array_runs : (p : Place) (k : ℕ) (e : Expr) → Covers V from (names e)
      → Reads from (TypedNames V (typed.Array p k)) (index_array expr cx p k e) (TypedNames V)
  unfolding index_array
  index_array_runs p k e c = bind (always (operand_runs e c)) (λ i. indexed_array_runs V from cx p k i)

  index_runs : (t : Typed) (e : Expr) → Covers V from (names e) → Reads from (TypedNames V t) (index expr cx t e) (TypedNames V)
  index_runs (typed.Array p k) e c = index_array_runs p k e c
  index_runs typed.Broken e c = index_value_runs typed.Broken e c
  index_runs typed.Spoiled e c = index_value_runs typed.Spoiled e c
  index_runs (typed.Value v) e c = index_value_runs (typed.Value v) e c
  index_runs (typed.This class remote) e c = index_value_runs (typed.This class remote) e c
  index_runs (typed.Constant term value) e c = index_value_runs (typed.Constant term value) e c
  index_runs (typed.Place p) e c = index_value_runs (typed.Place p) e c
  index_runs (typed.Object o) e c = index_value_runs (typed.Object o) e c

  field_runs : (t : Typed) (arrow : Bool) (text : Name) → Reads from (TypedNames V t) (field expr cx t arrow text) (TypedNames V)
  unfolding field
  field_runs t arrow text = bind (object_of_runs V from cx arrow t) (λ o. given (λ x. x.1) (field_of_runs V from cx text o))

  call_on_runs : (t : Typed) (arrow : Bool) (text : Name) (es : List Expr) → Covers V from (names_in names es)
      → Reads from (TypedNames V t) (call_on expr cx t arrow text es) (TypedNames V)
  unfolding call_on
  call_on_runs t arrow text es c = bind (object_of_runs V from cx arrow t) (λ o. bind (always (args_runs es c)) (λ a.
      given (λ x. (x.0.1, x.1)) (call_member_runs V from cx text o a)))

  suffix_as_runs : (t : Typed) (l : SuffixLayer) → Covers V from (suffix_names names l)
      → Reads from (TypedNames V t) (suffix_as expr cx t l) (TypedNames V)
  suffix_as_runs t (Suffix-F.Index e) c = index_runs t e c
  suffix_as_runs t (Suffix-F.Field arrow text) c = field_runs t arrow text
  suffix_as_runs t (Suffix-F.CallOn arrow text es) c = call_on_runs t arrow text es c

  suffix_runs : (t : Typed) (s : Suffix) → Covers V from (suffix_names names (out-Suffix s))
      → Reads from (TypedNames V t) (suffix expr cx t s) (TypedNames V)
  unfolding suffix
  suffix_runs t s c = suffix_as_runs t (out-Suffix s) c

  suffixes_from_runs : (t : Typed) (ss : List Suffix) → Covers V from (tail_names names ss)
      → Reads from (TypedNames V t) (suffixes_from expr cx t ss) (TypedNames V)
  suffixes_from_runs t [] c = done t (λ x. x)
  suffixes_from_runs t (s ∷ ss) c =
      bind (suffix_runs t s (front V from (suffix_names names (out-Suffix s)) (tail_names names ss) c)) (λ u.
      given (λ x. x.1) (suffixes_from_runs u ss (behind V from (suffix_names names (out-Suffix s)) (tail_names names ss) c)))

  pub post_runs : (e : Expr) (tail : List Suffix) → Covers V from (names e ++ tail_names names tail)
      → Reads from (Unit {0}) (post expr cx e tail) (TypedNames V)
  unfolding post
  post_runs e tail c = bind (reads e (front V from (names e) (tail_names names tail) c)) (λ t.
      given (λ x. x.1) (suffixes_from_runs t tail (behind V from (names e) (tail_names names tail) c)))
