-- Arguments and calls.
use Rattle.std.proofs.Common.{◌≡◌, ◌≢◌, map, ℕ, Bool, true, false, cond, List, [], ◌∷◌, ◌++◌, length, Option, Some, None, refl, sym, subst, arith}
use Rattle.std.proofs.lemmas.Bool.{eqb-true, true≢false}
use Rattle.std.proofs.lemmas.Option.{none-some}
use Rattle.std.specs.Prelude.{slice_get, get_or, not, ◌==◌, ◌&&◌, ◌||◌}
use Rattle.cc_core.specs.declared.expression.Expression.{Expression}
use Rattle.cc_core.specs.declared.expression.Expression.TheVariants as e
use Rattle.cc_core.specs.declared.expression.How.TheVariants as how
use Rattle.cc_core.specs.Types.{AnAddress, ObjectOf, FunctionTypes, Types, function_types}
use Rattle.cc_scopes.specs.declared.state.Local.{Local}
use Rattle.cc_scopes.specs.declared.types.Declared.{Declared}
use Rattle.cc_scopes.specs.declared.types.Target as pointed
use Rattle.cc_scopes.specs.declared.types.Target.TheVariants as target
use Rattle.cc_scopes.specs.Types.{accepts, same_target, is_local_pointer}
use Rattle.cc_scopes.specs.declared.tables.Class.{Class}
use Rattle.cc_names.specs.declared.declarations.FunId.{FunId}
use Rattle.cc_names.specs.declared.rule.StaticRule.{StaticRule}
use Rattle.cc_typing.specs.declared.calls.Args.{Args}
use Rattle.cc_typing.specs.declared.calls.Callee.{Callee}
use Rattle.cc_typing.specs.declared.calls.Callee.TheVariants as callee
use Rattle.cc_scopes.specs.declared.meaning.Meaning.{Meaning}
use Rattle.cc_scopes.specs.declared.meaning.Meaning.TheVariants as m
use Rattle.cc_scopes.specs.declared.tables.Signature.{Signature}
use Rattle.cc_scopes.specs.declared.typed.Operand.{Operand}
use Rattle.cc_scopes.specs.declared.typed.Typed.{Typed}
use Rattle.cc_scopes.specs.declared.typed.Typed.TheVariants as typed
use Rattle.cc_scopes.specs.declared.types.Ty.{Ty}
use Rattle.cc_scopes.specs.declared.types.Ty.TheVariants as ty
use Rattle.cc_scopes.specs.Scope.{Context}
use Rattle.cc_typing.specs.Calls.{no_args, object_passed, passed, with_arg, any_local, all_fit, args_rule, callee_rule, rule_or, call_rule, is_remote, call_term, enter, entered}
use Rattle.cc_typing.specs.Calls.{given as value_given, entered_unless, called_as, called, called_name, call_named}
use Rattle.cc_shared.proofs.Runs.{IsThere, Anything, given, gives, next, done}
use Rattle.cc_shared.proofs.Forms.{this_values, call_values, no_values, more_values}
use Rattle.cc_shared.proofs.TypesOf.{target_type, value_type, IsCellType, IsResultType, AllCellTypes}
use Rattle.cc_shared.proofs.Det.{SignatureFits, MakerFits, Stands, Reads, Values, AllValues, ArgumentBy, ArgumentFits, argument_by, OperandFits, OperandsFit, MeaningFits, TypedFits}
use Rattle.cc_shared.proofs.StateLaws.{block_runs, call_runs}
use Rattle.cc_shared.proofs.ScopeLaws.{never, decay_runs}
use Rattle.cc_shared.proofs.OperatorLaws.{left_true, right_true}

-- ---- arguments

module _ (y : Types) (main : ℕ) (here : FunctionTypes) where
  abbrev pub ArgsFit : Args → Type 0
  ArgsFit a = OperandsFit y main here a.types a.terms

  pub no_args_fit : ArgsFit no_args
  no_args_fit = tt

  one_more_operand : (ts : List Ty) (xs : List Expression) (t : Ty) (x : Expression) → OperandsFit y main here ts xs → ArgumentBy y main here t x
      → OperandsFit y main here (ts ++ t ∷ []) (xs ++ x ∷ [])
  one_more_operand [] [] t x p q = (q, tt)
  one_more_operand [] (z ∷ xs) t x p q = absurd p
  one_more_operand (u ∷ ts) [] t x p q = absurd p
  one_more_operand (u ∷ ts) (z ∷ xs) t x p q = (p.0, one_more_operand ts xs t x p.1 q)

  pub with_arg_fits : (a : Option Args) (v : Option Operand) → IsThere ArgsFit a → IsThere (ArgumentFits y main here) v → IsThere ArgsFit (with_arg a v)
  with_arg_fits None v p q = p
  with_arg_fits (Some a) None p q = q
  with_arg_fits (Some a) (Some v) p q = one_more_operand a.types a.terms v.ty v.term p q

  -- ---- a value that a place takes is one of the place's type

  pointed_value : (b : Bool) (a c : pointed.Target) (x : Expression) → (same_target a c && b) ≡ true → Values y main here x (AnAddress (target_type c))
      → Values y main here x (AnAddress (target_type a))
  pointed_value b target.Int target.Int x is v = v
  pointed_value b target.SyncInt target.SyncInt x is v = v
  pointed_value b (target.Class k) (target.Class l) x is v =
      subst (λ z. Values y main here x (AnAddress (ObjectOf z))) (sym (eqb-true k.0 l.0 (left_true (k.0 == l.0) b is))) v
  pointed_value b target.Int target.SyncInt x is v = absurd (true≢false (sym is))
  pointed_value b target.Int (target.Class l) x is v = absurd (true≢false (sym is))
  pointed_value b target.SyncInt target.Int x is v = absurd (true≢false (sym is))
  pointed_value b target.SyncInt (target.Class l) x is v = absurd (true≢false (sym is))
  pointed_value b (target.Class k) target.Int x is v = absurd (true≢false (sym is))
  pointed_value b (target.Class k) target.SyncInt x is v = absurd (true≢false (sym is))

  pub accepted : (p t : Ty) (x : Expression) → IsCellType p → accepts p t ≡ true → ArgumentBy y main here t x → Values y main here x (value_type p)
  accepted ty.Int ty.Int x known is v = v
  accepted ty.Int ty.Null x known is v = absurd (true≢false (sym is))
  accepted ty.Int ty.Void x known is v = absurd (true≢false (sym is))
  accepted ty.Int (ty.Pointer to remote) x known is v = absurd (true≢false (sym is))
  accepted ty.Int ty.Unknown x known is v = absurd (true≢false (sym is))
  accepted (ty.Pointer a remote) ty.Null x known is v = v (AnAddress (target_type a))
  accepted (ty.Pointer a remote) (ty.Pointer c other) x known is v = pointed_value (remote || not other) a c x is v
  accepted (ty.Pointer a remote) ty.Int x known is v = absurd (true≢false (sym is))
  accepted (ty.Pointer a remote) ty.Void x known is v = absurd (true≢false (sym is))
  accepted (ty.Pointer a remote) ty.Unknown x known is v = absurd (true≢false (sym is))
  accepted ty.Null t x known is v = absurd known
  accepted ty.Void t x known is v = absurd known
  accepted ty.Unknown t x known is v = absurd known

  all_accepted : (ps ts : List Ty) (xs : List Expression) → AllCellTypes ps → all_fit ps ts ≡ true → length ts ≡ length ps → OperandsFit y main here ts xs
      → AllValues y main here xs (map value_type ps)
  all_accepted [] [] [] known is same v = no_values y main here
  all_accepted [] [] (x ∷ xs) known is same v = absurd v
  all_accepted [] (t ∷ ts) xs known is same v = absurd (omega (arith, same))
  all_accepted (p ∷ ps) [] xs known is same v = absurd (omega (arith, same))
  all_accepted (p ∷ ps) (t ∷ ts) [] known is same v = absurd v
  all_accepted (p ∷ ps) (t ∷ ts) (x ∷ xs) known is same v =
      more_values y main here x xs (value_type p) (map value_type ps)
      (accepted p t x known.0 (left_true (accepts p t) (all_fit ps ts) is) v.0)
      (all_accepted ps ts xs known.1 (right_true (accepts p t) (all_fit ps ts) is) (omega (arith, same)) v.1)

-- ---- the rules of a call

counted : (k m : ℕ) (b : Bool) → (k == m) ≡ b → (x : Option StaticRule) (rule : StaticRule) → cond (not b) (Some rule) x ≡ None → (k ≡ m) × (x ≡ None)
counted k m true is x rule none = (eqb-true k m is, none)
counted k m false is x rule none = absurd (none-some rule (sym none))

fitted : (b : Bool) (rule : StaticRule) → cond (not b) (Some rule) None ≡ None → b ≡ true
fitted true rule none = refl
fitted false rule none = absurd (none-some rule (sym none))

pub args_counted : (params types : List Ty) → args_rule params types ≡ None → (length types ≡ length params) × (all_fit params types ≡ true)
unfolding args_rule
args_counted params types none =
    let c = counted (length types) (length params) (length types == length params) refl _ _ none in
    (c.0, fitted (all_fit params types) _ c.1)

first_none : (a b : Option StaticRule) → rule_or a b ≡ None → a ≡ None
first_none None b is = refl
first_none (Some rule) b is = is

second_none : (a b : Option StaticRule) → rule_or a b ≡ None → b ≡ None
second_none None b is = is
second_none (Some rule) b is = absurd (none-some rule (sym is))

behind : (b : Bool) (rule : StaticRule) (x : Option StaticRule) → cond b (Some rule) x ≡ None → (b ≡ false) × (x ≡ None)
behind true rule x none = absurd (none-some rule (sym none))
behind false rule x none = (refl, none)

not_main : (g : Signature) (remote : Bool) → callee_rule g remote ≡ None → g.is_main ≡ false
unfolding callee_rule
not_main g remote none = (behind g.is_main _ None (behind (remote && (any_local g.params || is_local_pointer g.result)) _ _ none).1).0

-- a call that breaks no rule hands over values of the types of the parameters, and is not one of main
pub call_fits : (y : Types) (main : ℕ) (here : FunctionTypes) (f : ℕ) (g : Signature) (remote : Bool) (a : Args) → SignatureFits y main f g
    → call_rule g remote a.types ≡ None → ArgsFit y main here a → AllValues y main here a.terms (function_types y f).params × (f ≢ main)
call_fits y main here f g remote a fits none v =
    let c = args_counted g.params a.types (first_none (args_rule g.params a.types) (callee_rule g remote) none) in (
      subst (λ us. AllValues y main here a.terms us) (sym fits.params) (all_accepted y main here g.params a.types a.terms fits.cells c.1 c.0 v),
      fits.called (not_main g remote (second_none (args_rule g.params a.types) (callee_rule g remote) none)),
    )

-- and so the arguments of a constructor
pub make_fits : (y : Types) (main : ℕ) (here : FunctionTypes) (c : ℕ) (k : Class) (a : Args) → MakerFits y c k
    → args_rule k.constructor a.types ≡ None → ArgsFit y main here a → AllValues y main here a.terms (get_or y.makers c [])
make_fits y main here c k a fits none v =
    let r = args_counted k.constructor a.types none in
    subst (λ us. AllValues y main here a.terms us) (sym fits.params) (all_accepted y main here k.constructor a.types a.terms fits.cells r.1 r.0 v)

-- ---- a call

module _ (y : Types) (main : ℕ) (here : FunctionTypes) (F : Type 0) (grown ds : List Declared) (part : ℕ) (own : List ℕ) (ls : List Local) (cx : Context) where
  -- an object of a class whose function f is
  abbrev pub CalleeFits : FunId → Callee → Type 0
  CalleeFits f callee.Alone = Unit {0}
  CalleeFits f (callee.On x) = (c : ℕ) × ((function_types y f.0).this ≡ Some c) × Values y main here x (AnAddress (ObjectOf c))
  CalleeFits f (callee.Remote x) = (c : ℕ) × ((function_types y f.0).this ≡ Some c) × Values y main here x (AnAddress (ObjectOf c))

  call_term_values : (f : FunId) (c : Callee) (es : List Expression) → CalleeFits f c → AllValues y main here es (function_types y f.0).params → f.0 ≢ main
      → Values y main here (call_term f c es) (function_types y f.0).result
  call_term_values f callee.Alone es p v ne = call_values y main here how.Alone f.0 es _ refl ne v
  call_term_values f (callee.On x) es p v ne =
      call_values y main here how.On f.0 (x ∷ es) (AnAddress (ObjectOf p.0) ∷ (function_types y f.0).params) (p.0, p.1, refl) ne
      (more_values y main here x es _ _ p.2 v)
  call_term_values f (callee.Remote x) es p v ne =
      call_values y main here how.Remote f.0 (x ∷ es) (AnAddress (ObjectOf p.0) ∷ (function_types y f.0).params) (p.0, p.1, refl) ne
      (more_values y main here x es _ _ p.2 v)

  -- the value of a call, and of a spawned one the call
  given_fits : (t : Ty) (x : Expression) → IsResultType t → Values y main here x (value_type t) → TypedFits y main here part own (value_given t x)
  given_fits ty.Int x known v = v
  given_fits ty.Void x known v = v
  given_fits (ty.Pointer to remote) x known v = v
  given_fits ty.Null x known v = absurd known
  given_fits ty.Unknown x known v = absurd known

  enter_runs : (f : FunId) (b : Bool) {P : Type 0} → Reads F grown ds part own ls P (enter cx f b) Anything
  enter_runs f true = block_runs F grown ds part own ls cx.line
  enter_runs f false = call_runs F grown ds part own ls f cx.line

  entered_runs : (f : FunId) (g : Signature) (c : Callee) (a : Args) → (F → SignatureFits y main f.0 g) → call_rule g (is_remote c) a.types ≡ None
      → Reads F grown ds part own ls (CalleeFits f c × ArgsFit y main here a × F) (entered cx f g.result c a.terms) (TypedFits y main here part own)
  unfolding entered
  entered_runs f g c a fits none = next (enter_runs f (is_remote c)) (done (value_given g.result (call_term f c a.terms)) (λ x.
      let fine = fits x.2 in
      let v = call_fits y main here f.0 g (is_remote c) a fine none x.1 in
      given_fits g.result _ fine.gives
      (subst (λ u. Values y main here (call_term f c a.terms) u) fine.result (call_term_values f c a.terms x.0 v.0 v.1))))

  entered_unless_runs : (r : Option StaticRule) (f : FunId) (g : Signature) (c : Callee) (a : Args) → (F → SignatureFits y main f.0 g)
      → call_rule g (is_remote c) a.types ≡ r
      → Reads F grown ds part own ls (CalleeFits f c × ArgsFit y main here a × F) (entered_unless r cx f g.result c a.terms) (TypedFits y main here part own)
  entered_unless_runs (Some rule) f g c a fits is = never F grown ds part own ls cx rule typed.Broken
  entered_unless_runs None f g c a fits is = entered_runs f g c a fits is

  module _ (stands : F → Stands y main here cx) where
    called_as_runs : (o : Option Signature) (f : FunId) (c : Callee) (a : Args) → slice_get cx.tables.functions f.0 ≡ o
        → Reads F grown ds part own ls (CalleeFits f c × ArgsFit y main here a × F) (called_as o cx f c a) (TypedFits y main here part own)
    called_as_runs None f c a is = never F grown ds part own ls cx _ typed.Broken
    called_as_runs (Some g) f c a is =
        entered_unless_runs (call_rule g (is_remote c) a.types) f g c a (λ x. (stands x).matches.functions f.0 g is) refl

    pub called_runs : (f : FunId) (c : Callee) (a : Args)
        → Reads F grown ds part own ls (CalleeFits f c × ArgsFit y main here a × F) (called cx f c a) (TypedFits y main here part own)
    called_runs f c a = called_as_runs (slice_get cx.tables.functions f.0) f c a refl

    called_name_runs : (x : Meaning) (a : Args)
        → Reads F grown ds part own ls (MeaningFits y main here ds part own x × ArgsFit y main here a × F) (called_name cx x a) (TypedFits y main here part own)
    called_name_runs (m.Variable found) a = never F grown ds part own ls cx _ typed.Broken
    called_name_runs (m.Field declared offset) a = never F grown ds part own ls cx _ typed.Broken
    called_name_runs (m.Method f) a =
        given (λ x. ((x.0.0, x.0.2, this_values y main here x.0.0 x.0.1), x.1, x.2)) (called_runs f (callee.On e.This) a)
    called_name_runs (m.Constant b z) a = never F grown ds part own ls cx _ typed.Broken
    called_name_runs (m.Function f) a = given (λ x. (tt, x.1, x.2)) (called_runs f callee.Alone a)
    called_name_runs m.Nothing a = never F grown ds part own ls cx _ typed.Broken

    pub call_named_runs : (x : Meaning) (a : Option Args)
        → Reads F grown ds part own ls (MeaningFits y main here ds part own x × IsThere (ArgsFit y main here) a × F) (call_named cx x a) (TypedFits y main here part own)
    call_named_runs x None = done typed.Spoiled (λ p. p.1)
    call_named_runs x (Some a) = called_name_runs x a

-- a value is an argument
pub argued : (y : Types) (main : ℕ) (here : FunctionTypes) (o : Option Operand) → IsThere (OperandFits y main here) o → IsThere (ArgumentFits y main here) o
argued y main here None p = p
argued y main here (Some v) p = argument_by y main here v.ty v.term p

-- an argument: an object is one of no known type
pub passed_runs : (y : Types) (main : ℕ) (here : FunctionTypes) (F : Type 0) (grown ds : List Declared) (part : ℕ) (own : List ℕ) (ls : List Local) (cx : Context) (t : Typed)
    → Reads F grown ds part own ls (TypedFits y main here part own t) (passed cx t) (IsThere (ArgumentFits y main here))
passed_runs y main here F grown ds part own ls cx (typed.Object o) = done (Some (object_passed o)) (λ x. tt)
passed_runs y main here F grown ds part own ls cx typed.Broken = gives (argued y main here) (decay_runs y main here F grown ds part own ls cx typed.Broken)
passed_runs y main here F grown ds part own ls cx typed.Spoiled = gives (argued y main here) (decay_runs y main here F grown ds part own ls cx typed.Spoiled)
passed_runs y main here F grown ds part own ls cx (typed.Value v) = gives (argued y main here) (decay_runs y main here F grown ds part own ls cx (typed.Value v))
passed_runs y main here F grown ds part own ls cx (typed.This class remote) = gives (argued y main here) (decay_runs y main here F grown ds part own ls cx (typed.This class remote))
passed_runs y main here F grown ds part own ls cx (typed.Constant term value) = gives (argued y main here) (decay_runs y main here F grown ds part own ls cx (typed.Constant term value))
passed_runs y main here F grown ds part own ls cx (typed.Place p) = gives (argued y main here) (decay_runs y main here F grown ds part own ls cx (typed.Place p))
passed_runs y main here F grown ds part own ls cx (typed.Array p k) = gives (argued y main here) (decay_runs y main here F grown ds part own ls cx (typed.Array p k))
