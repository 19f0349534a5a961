-- What is read of an expression is what is read of its parts.
use Rattle.std.proofs.Common.{◌≡◌, ℕ, zero, suc, ◌≤◌, Bool, List, [], ◌∷◌, Option, Some, None, refl, ap, ◌∙◌, arith}
use Rattle.cc_functions.specs.Builds.{is_own_by, is_own, is_own_to}
use Rattle.cc_names.specs.Table.{Name}
use Rattle.cc_scopes.specs.declared.state.State.{State}
use Rattle.cc_scopes.specs.declared.typed.Place.{Place}
use Rattle.cc_scopes.specs.declared.typed.Typed.{Typed}
use Rattle.cc_scopes.specs.declared.typed.Typed.TheVariants as typed
use Rattle.cc_scopes.specs.Elab.{Elab, ◌>>=◌, pure}
use Rattle.cc_scopes.specs.Scope.{Context}
use Rattle.cc_tree.specs.declared.expressions.Expr.{Expr}
use Rattle.cc_tree.specs.declared.expressions.ExprKind.{ExprKind}
use Rattle.cc_tree.specs.declared.expressions.ExprKind.TheOpen.{ExprKind-F, Suffix-F}
use Rattle.cc_tree.specs.declared.expressions.Link.{Link, out-Link}
use Rattle.cc_tree.specs.declared.expressions.Suffix.{Suffix, out-Suffix}
use Rattle.cc_tree.specs.declared.expressions.UnaryOp.{UnaryOp}
use Rattle.cc_names.specs.Names.{class_named}
use Rattle.cc_operators.specs.Operators.{unary, joined}
use Rattle.cc_scopes.specs.Lengths.{length_of}
use Rattle.cc_scopes.specs.Meaning.{meant}
use Rattle.cc_scopes.specs.Typed.{decay}
use Rattle.cc_typing.specs.New.{new_array, new_object}
use Rattle.cc_typing.specs.Objects.{indexed_array, indexed_value, object_of, call_member}
use Rattle.cc_typing.specs.declared.calls.Args.{Args}
use Rattle.cc_typing.specs.Calls.{no_args, passed, with_arg, call_named}
use Rattle.cc_typing.specs.Expr.{kind, node, expr_to}
use Rattle.cc_typing.specs.Parts.{operand, argument, args_from, args, call, links_from, chain, prefixed, new_length, new_int, new_class}
use Rattle.cc_typing.specs.Parts.{index_value, index_array, index, field, call_on, suffix_as, suffix, suffixes_from, post}
use Rattle.law_depth.specs.Depth.{EachOf, IfSome, Layer, layer, TailPart, Tail, Operand, Parts, NestsTo}
use Rattle.law_depth.proofs.NestLaws.{parts_follow}

pub same_bind : {A B : Type 0} (p q : Elab A) (h k : A → Elab B) (s : State) → p s ≡ q s → ((a : A) (t : State) → h a t ≡ k a t)
    → (p >>= h) s ≡ (q >>= k) s
same_bind p q h k s first rest = ap (λ r. h r.0 r.1) first ∙ rest (q s).0 (q s).1

module _ (f g : Context → Expr → Elab Typed) (cx : Context) where
  abbrev Same : Expr → Type 0
  Same e = (s : State) → f cx e s ≡ g cx e s

  operand_same : (e : Expr) → Same e → (s : State) → operand f cx e s ≡ operand g cx e s
  unfolding operand
  operand_same e p s = ap (λ r. decay cx r.0 r.1) (p s)

  argument_same : (e : Expr) → Same e → (s : State) → argument f cx e s ≡ argument g cx e s
  unfolding argument
  argument_same e p s = ap (λ r. passed cx r.0 r.1) (p s)

  args_from_same : (a : Option Args) (es : List Expr) → EachOf Same es → (s : State) → args_from f cx a es s ≡ args_from g cx a es s
  args_from_same a [] p s = refl
  args_from_same a (e ∷ es) p s = same_bind (argument f cx e) (argument g cx e) (λ v. args_from f cx (with_arg a v) es) (λ v. args_from g cx (with_arg a v) es) s
      (argument_same e p.0 s) (λ v t. args_from_same (with_arg a v) es p.1 t)

  args_same : (es : List Expr) → EachOf Same es → (s : State) → args f cx es s ≡ args g cx es s
  unfolding args
  args_same es p s = args_from_same (Some no_args) es p s

  call_same : (text : Name) (es : List Expr) → EachOf Same es → (s : State) → call f cx text es s ≡ call g cx text es s
  unfolding call
  call_same text es p s = ap (λ r. call_named cx (meant cx text r.1) r.0 r.1) (args_same es p s)

  links_same : (a : Typed) (ls : List Link) → EachOf (Operand Same) ls → (s : State) → links_from f cx a ls s ≡ links_from g cx a ls s
  links_same a [] p s = refl
  links_same a (l ∷ ls) p s = same_bind (f cx (out-Link l).part) (g cx (out-Link l).part)
      (λ b. joined cx (out-Link l).op a b >>= (λ c. links_from f cx c ls)) (λ b. joined cx (out-Link l).op a b >>= (λ c. links_from g cx c ls)) s (p.0 s)
      (λ b t. same_bind (joined cx (out-Link l).op a b) (joined cx (out-Link l).op a b) (λ c. links_from f cx c ls) (λ c. links_from g cx c ls) t refl
      (λ c u. links_same c ls p.1 u))

  chain_same : (e : Expr) (ls : List Link) → Same e → EachOf (Operand Same) ls → (s : State) → chain f cx e ls s ≡ chain g cx e ls s
  unfolding chain
  chain_same e ls p q s = same_bind (f cx e) (g cx e) (λ a. links_from f cx a ls) (λ a. links_from g cx a ls) s (p s) (λ a t. links_same a ls q t)

  prefixed_same : (op : UnaryOp) (e : Expr) → Same e → (s : State) → prefixed f cx op e s ≡ prefixed g cx op e s
  unfolding prefixed
  prefixed_same op e p s = ap (λ r. unary cx op r.0 r.1) (p s)

  new_int_same : (sync : Bool) (o : Option Expr) → IfSome Same o → (s : State) → new_int f cx sync o s ≡ new_int g cx sync o s
  unfolding new_length
  new_int_same sync None p s = refl
  new_int_same sync (Some e) p s = ap (λ r. (length_of cx r.0 >>= (λ n. pure (new_array sync n))) r.1) (p s)

  new_class_same : (text : Name) (es : List Expr) → EachOf Same es → (s : State) → new_class f cx text es s ≡ new_class g cx text es s
  unfolding new_class
  new_class_same text es p s = ap (λ r. new_object cx (class_named cx.names text) r.0 r.1) (args_same es p s)

  -- ---- tails

  index_value_same : (t : Typed) (e : Expr) → Same e → (s : State) → index_value f cx t e s ≡ index_value g cx t e s
  unfolding index_value
  index_value_same t e p s = let u = decay cx t s in ap (λ r. indexed_value cx u.0 r.0 r.1) (operand_same e p u.1)

  index_array_same : (q : Place) (n : ℕ) (e : Expr) → Same e → (s : State) → index_array f cx q n e s ≡ index_array g cx q n e s
  unfolding index_array
  index_array_same q n e p s = ap (λ r. indexed_array cx q n r.0 r.1) (operand_same e p s)

  index_same : (t : Typed) (e : Expr) → Same e → (s : State) → index f cx t e s ≡ index g cx t e s
  index_same (typed.Array q n) e p s = index_array_same q n e p s
  index_same typed.Broken e p s = index_value_same typed.Broken e p s
  index_same typed.Spoiled e p s = index_value_same typed.Spoiled e p s
  index_same (typed.Value v) e p s = index_value_same (typed.Value v) e p s
  index_same (typed.This class remote) e p s = index_value_same (typed.This class remote) e p s
  index_same (typed.Constant term value) e p s = index_value_same (typed.Constant term value) e p s
  index_same (typed.Place q) e p s = index_value_same (typed.Place q) e p s
  index_same (typed.Object o) e p s = index_value_same (typed.Object o) e p s

  field_same : (t : Typed) (arrow : Bool) (text : Name) (s : State) → field f cx t arrow text s ≡ field g cx t arrow text s
  unfolding field
  field_same t arrow text s = refl

  call_on_same : (t : Typed) (arrow : Bool) (text : Name) (es : List Expr) → EachOf Same es → (s : State)
      → call_on f cx t arrow text es s ≡ call_on g cx t arrow text es s
  unfolding call_on
  call_on_same t arrow text es p s = let u = object_of cx arrow t s in ap (λ r. call_member cx text u.0 r.0 r.1) (args_same es p u.1)

  tail_same : (t : Typed) (w : Suffix-F ExprKind Suffix Expr Link) → TailPart Same w → (s : State) → suffix_as f cx t w s ≡ suffix_as g cx t w s
  tail_same t (Suffix-F.Index e) p s = index_same t e p s
  tail_same t (Suffix-F.Field arrow text) p s = field_same t arrow text s
  tail_same t (Suffix-F.CallOn arrow text es) p s = call_on_same t arrow text es p s

  suffix_same : (t : Typed) (x : Suffix) → Tail Same x → (s : State) → suffix f cx t x s ≡ suffix g cx t x s
  unfolding suffix
  suffix_same t x p s = tail_same t (out-Suffix x) p s

  tails_same : (t : Typed) (xs : List Suffix) → EachOf (Tail Same) xs → (s : State) → suffixes_from f cx t xs s ≡ suffixes_from g cx t xs s
  tails_same t [] p s = refl
  tails_same t (x ∷ xs) p s = same_bind (suffix f cx t x) (suffix g cx t x) (λ u. suffixes_from f cx u xs) (λ u. suffixes_from g cx u xs) s
      (suffix_same t x p.0 s) (λ u v. tails_same u xs p.1 v)

  post_same : (e : Expr) (xs : List Suffix) → Same e → EachOf (Tail Same) xs → (s : State) → post f cx e xs s ≡ post g cx e xs s
  unfolding post
  post_same e xs p q s = same_bind (f cx e) (g cx e) (λ t. suffixes_from f cx t xs) (λ t. suffixes_from g cx t xs) s (p s) (λ t u. tails_same t xs q u)

  -- ---- one level

  kind_same : (w : Layer) → Parts Same w → (s : State) → kind f cx w s ≡ kind g cx w s
  kind_same (ExprKind-F.Int n) p s = refl
  kind_same ExprKind-F.Null p s = refl
  kind_same ExprKind-F.This p s = refl
  kind_same (ExprKind-F.Name text) p s = refl
  kind_same (ExprKind-F.Call text es) p s = call_same text es p s
  kind_same (ExprKind-F.Paren e) p s = p s
  kind_same (ExprKind-F.Post e xs) p s = post_same e xs p.0 p.1 s
  kind_same (ExprKind-F.Unary op e) p s = prefixed_same op e p s
  kind_same (ExprKind-F.Chain e ls) p s = chain_same e ls p.0 p.1 s
  kind_same (ExprKind-F.NewInt sync length) p s = new_int_same sync length p s
  kind_same (ExprKind-F.NewClass text es) p s = new_class_same text es p s

  node_same : (e : Expr) → Parts Same (layer e) → (s : State) → node f cx e s ≡ node g cx e s
  unfolding node
  node_same e p s = kind_same (layer e) p s

-- ---- and so each bound

expr_same : (cx : Context) (d m : ℕ) → d ≤ m → (e : Expr) → NestsTo d e → (s : State) → expr_to m cx e s ≡ expr_to d cx e s
unfolding expr_to NestsTo
expr_same cx zero m le e p s = absurd p
expr_same cx (suc d) zero le e p s = let l : suc d ≤ 0 = le in absurd (omega (arith, l))
expr_same cx (suc d) (suc m) le e p s = node_same (expr_to m) (expr_to d) cx e
    (parts_follow (NestsTo d) (λ x. (t : State) → expr_to m cx x t ≡ expr_to d cx x t)
    (λ x q t. expr_same cx d m (let l : suc d ≤ suc m = le in omega (arith, l)) x q t) (layer e) p) s

pub expressions_same : (d m : ℕ) (cx : Context) (e : Expr) (s : State) → d ≤ m → NestsTo d e → expr_to m cx e s ≡ expr_to d cx e s
expressions_same d m cx e s le p = expr_same cx d m le e p s

-- ---- the own object

own_by : (f g : Expr → Bool) (w : Layer) → Parts (λ x. f x ≡ g x) w → is_own_by f w ≡ is_own_by g w
own_by f g (ExprKind-F.Int n) p = refl
own_by f g ExprKind-F.Null p = refl
own_by f g ExprKind-F.This p = refl
own_by f g (ExprKind-F.Name text) p = refl
own_by f g (ExprKind-F.Call text es) p = refl
own_by f g (ExprKind-F.Paren e) p = p
own_by f g (ExprKind-F.Post e xs) p = p.0
own_by f g (ExprKind-F.Unary op e) p = refl
own_by f g (ExprKind-F.Chain e ls) p = refl
own_by f g (ExprKind-F.NewInt sync length) p = refl
own_by f g (ExprKind-F.NewClass text es) p = refl

own_same : (d m : ℕ) → d ≤ m → (e : Expr) → NestsTo d e → is_own_to m e ≡ is_own_to d e
unfolding is_own_to is_own NestsTo
own_same zero m le e p = absurd p
own_same (suc d) zero le e p = let l : suc d ≤ 0 = le in absurd (omega (arith, l))
own_same (suc d) (suc m) le e p = own_by (is_own_to m) (is_own_to d) (layer e)
    (parts_follow (NestsTo d) (λ x. is_own_to m x ≡ is_own_to d x)
    (λ x q. own_same d m (let l : suc d ≤ suc m = le in omega (arith, l)) x q) (layer e) p)

pub own_the_same : (d m : ℕ) (e : Expr) → d ≤ m → NestsTo d e → is_own_to m e ≡ is_own_to d e
own_the_same d m e le p = own_same d m le e p
