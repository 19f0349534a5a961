-- Arguments and calls.
use Rattle.cc_core.specs.Core as core
use Rattle.cc_core.specs.Names as names
use Rattle.core_types.specs.Types.{ValueType, AnInt, Pointer, ObjectOf, Types}
use Rattle.core_types.specs.Types.{function_types, class_types, Serves, Crosses, AllCross, ComesBack, Allowed}
use Rattle.core_types.specs.Values.{World}
use Rattle.core_types.specs.Typing.{Scope, is_atomic, Gives}
use Rattle.std.proofs.Common.{◌≡◌, map, ℕ, Bool, true, false, cond, List, [], ◌∷◌, ◌++◌, length, Option, Some, None, refl, sym, subst, arith, inl, inr, ◌⊎◌, ⊎_elim, ap, ◌∙◌}
use Rattle.std.proofs.lemmas.Bool.{eqb-true, true≢false}
use Rattle.std.proofs.lemmas.Option.{none-some}
use Rattle.std.specs.Prelude.{slice_get, not, ◌==◌, ◌&&◌, ◌||◌}
use Rattle.cc_core.specs.declared.expression.Expression.{Expression}
use Rattle.cc_core.specs.declared.expression.Expression.TheVariants as e
use Rattle.cc_core.specs.declared.expression.How.TheVariants as how
use Rattle.cc_scopes.specs.declared.state.Local.{Local}
use Rattle.cc_scopes.specs.declared.types.Declared.{Declared}
use Rattle.cc_scopes.specs.declared.types.Target as pointed
use Rattle.cc_scopes.specs.declared.types.Target.TheVariants as target
use Rattle.cc_scopes.specs.Types.{accepts, same_target, is_local_pointer}
use Rattle.cc_scopes.specs.declared.tables.Class.{Class}
use Rattle.cc_names.specs.declared.declarations.FunId.{FunId}
use Rattle.cc_names.specs.declared.rule.StaticRule.{StaticRule}
use Rattle.cc_typing.specs.declared.calls.Args.{Args}
use Rattle.cc_typing.specs.declared.calls.Callee.{Callee}
use Rattle.cc_typing.specs.declared.calls.Callee.TheVariants as callee
use Rattle.cc_scopes.specs.declared.meaning.Meaning.{Meaning}
use Rattle.cc_scopes.specs.declared.meaning.Meaning.TheVariants as m
use Rattle.cc_scopes.specs.declared.tables.Signature.{Signature}
use Rattle.cc_scopes.specs.declared.typed.Operand.{Operand}
use Rattle.cc_scopes.specs.declared.typed.Typed.{Typed}
use Rattle.cc_scopes.specs.declared.typed.Typed.TheVariants as typed
use Rattle.cc_scopes.specs.declared.types.Ty.{Ty}
use Rattle.cc_scopes.specs.declared.types.Ty.TheVariants as ty
use Rattle.cc_scopes.specs.Scope.{Context}
use Rattle.cc_typing.specs.Calls.{no_args, object_passed, passed, with_arg, any_local, all_fit, args_rule, callee_rule, rule_or, call_rule, is_remote, call_term, enter, entered}
use Rattle.cc_typing.specs.Calls.{given as value_given, entered_unless, called_as, called, called_name, call_named}
use Rattle.source_types.specs.Reading.{IsThere}
use Rattle.source_types.proofs.Runs.{given, gives, done, bind}
use Rattle.source_types.proofs.Forms.{this_values, call_values, no_values, more_values}
use Rattle.source_types.specs.TypesOf.{target_type, value_type, IsCellType, IsResultType, AllCellTypes}
use Rattle.source_types.specs.Reading.{SignatureFits, MakerFits, Stands, Grown, CalmCall}
use Rattle.source_types.proofs.Fits.{Reads, Values, AllValues, ArgumentBy, ArgumentFits, argument_by, OperandFits, OperandsFit, MeaningFits, TypedFits}
use Rattle.source_types.proofs.StateLaws.{block_runs, call_runs}
use Rattle.source_types.proofs.ScopeLaws.{never, decay_runs}
use Rattle.source_types.proofs.OperatorLaws.{left_true, right_true}

-- ---- arguments

module _ (program : core.Program) (y : Types) (world : World) (home : names.Name) (here : Scope) where
  abbrev pub ArgsFit : Args → Type 0
  ArgsFit a = OperandsFit program y world home here a.types a.terms

  pub no_args_fit : ArgsFit no_args
  no_args_fit = tt

  one_more_operand : (ts : List Ty) (xs : List Expression) (t : Ty) (x : Expression) → OperandsFit program y world home here ts xs → ArgumentBy program y world home here t x
      → OperandsFit program y world home here (ts ++ t ∷ []) (xs ++ x ∷ [])
  one_more_operand [] [] t x p q = (q, tt)
  one_more_operand [] (z ∷ xs) t x p q = absurd p
  one_more_operand (u ∷ ts) [] t x p q = absurd p
  one_more_operand (u ∷ ts) (z ∷ xs) t x p q = (p.0, one_more_operand ts xs t x p.1 q)

  pub with_arg_fits : (a : Option Args) (v : Option Operand) → IsThere ArgsFit a → IsThere (ArgumentFits program y world home here) v → IsThere ArgsFit (with_arg a v)
  with_arg_fits None v p q = p
  with_arg_fits (Some a) None p q = q
  with_arg_fits (Some a) (Some v) p q = one_more_operand a.types a.terms v.ty v.term p q

  -- ---- a value that a place takes is one of the place's type

  -- a value of one type stands where one of another is wanted
  abbrev pub Fitting : Expression → ValueType → Type 0
  Fitting x = Gives (λ u. Values program y world home here x u)

  pointed_value : (remote other : Bool) (a c : pointed.Target) (x : Expression) → (same_target a c && (remote || not other)) ≡ true
      → Values program y world home here x (Pointer other (target_type c)) → Fitting x (Pointer remote (target_type a))
  pointed_value remote other a c x is v = (
    Pointer other (target_type c),
    v,
    from remote other (right_true (same_target a c) (remote || not other) is) (same a c (left_true (same_target a c) (remote || not other) is)),
  )
    where
      same : (a c : pointed.Target) → same_target a c ≡ true → target_type a ≡ target_type c
      same target.Int target.Int is = refl
      same target.SyncInt target.SyncInt is = refl
      same (target.Class k) (target.Class l) is = ap ObjectOf (eqb-true k.0 l.0 is)
      same target.Int target.SyncInt is = absurd (true≢false (sym is))
      same target.Int (target.Class l) is = absurd (true≢false (sym is))
      same target.SyncInt target.Int is = absurd (true≢false (sym is))
      same target.SyncInt (target.Class l) is = absurd (true≢false (sym is))
      same (target.Class k) target.Int is = absurd (true≢false (sym is))
      same (target.Class k) target.SyncInt is = absurd (true≢false (sym is))

      from : (remote other : Bool) → (remote || not other) ≡ true → target_type a ≡ target_type c
          → Serves (Pointer other (target_type c)) (Pointer remote (target_type a))
      from true true is e = inl (ap (Pointer true) (sym e))
      from true false is e = inr (target_type c, refl, ap (Pointer true) e)
      from false true is e = absurd (true≢false (sym is))
      from false false is e = inl (ap (Pointer false) (sym e))

  pub accepted : (p t : Ty) (x : Expression) → IsCellType p → accepts p t ≡ true → ArgumentBy program y world home here t x → Fitting x (value_type p)
  accepted ty.Int ty.Int x known is v = (AnInt, v, inl refl)
  accepted ty.Int ty.Null x known is v = absurd (true≢false (sym is))
  accepted ty.Int ty.Void x known is v = absurd (true≢false (sym is))
  accepted ty.Int (ty.Pointer to remote) x known is v = absurd (true≢false (sym is))
  accepted ty.Int ty.Unknown x known is v = absurd (true≢false (sym is))
  accepted (ty.Pointer a remote) ty.Null x known is v = (Pointer remote (target_type a), v remote (target_type a), inl refl)
  accepted (ty.Pointer a remote) (ty.Pointer c other) x known is v = pointed_value remote other a c x is v
  accepted (ty.Pointer a remote) ty.Int x known is v = absurd (true≢false (sym is))
  accepted (ty.Pointer a remote) ty.Void x known is v = absurd (true≢false (sym is))
  accepted (ty.Pointer a remote) ty.Unknown x known is v = absurd (true≢false (sym is))
  accepted ty.Null t x known is v = absurd known
  accepted ty.Void t x known is v = absurd known
  accepted ty.Unknown t x known is v = absurd known

  all_accepted : (ps ts : List Ty) (xs : List Expression) → AllCellTypes ps → all_fit ps ts ≡ true → length ts ≡ length ps → OperandsFit program y world home here ts xs
      → AllValues program y world home here xs (map value_type ps)
  all_accepted [] [] [] known is same v = no_values program y world home here
  all_accepted [] [] (x ∷ xs) known is same v = absurd v
  all_accepted [] (t ∷ ts) xs known is same v = absurd (omega (arith, same))
  all_accepted (p ∷ ps) [] xs known is same v = absurd (omega (arith, same))
  all_accepted (p ∷ ps) (t ∷ ts) [] known is same v = absurd v
  all_accepted (p ∷ ps) (t ∷ ts) (x ∷ xs) known is same v =
      let one = accepted p t x known.0 (left_true (accepts p t) (all_fit ps ts) is) v.0 in
      more_values program y world home here x xs one.0 (value_type p) (map value_type ps) one.1 one.2
      (all_accepted ps ts xs known.1 (right_true (accepts p t) (all_fit ps ts) is) (omega (arith, same)) v.1)

-- ---- the rules of a call

counted : (k m : ℕ) (b : Bool) → (k == m) ≡ b → (x : Option StaticRule) (rule : StaticRule) → cond (not b) (Some rule) x ≡ None → (k ≡ m) × (x ≡ None)
counted k m true is x rule none = (eqb-true k m is, none)
counted k m false is x rule none = absurd (none-some rule (sym none))

fitted : (b : Bool) (rule : StaticRule) → cond (not b) (Some rule) None ≡ None → b ≡ true
fitted true rule none = refl
fitted false rule none = absurd (none-some rule (sym none))

pub args_counted : (params types : List Ty) → args_rule params types ≡ None → (length types ≡ length params) × (all_fit params types ≡ true)
unfolding args_rule
args_counted params types none =
    let c = counted (length types) (length params) (length types == length params) refl _ _ none in
    (c.0, fitted (all_fit params types) _ c.1)

first_none : (a b : Option StaticRule) → rule_or a b ≡ None → a ≡ None
first_none None b is = refl
first_none (Some rule) b is = is

second_none : (a b : Option StaticRule) → rule_or a b ≡ None → b ≡ None
second_none None b is = is
second_none (Some rule) b is = absurd (none-some rule (sym is))

behind : (b : Bool) (rule : StaticRule) (x : Option StaticRule) → cond b (Some rule) x ≡ None → (b ≡ false) × (x ≡ None)
behind true rule x none = absurd (none-some rule (sym none))
behind false rule x none = (refl, none)

-- what goes to another processor, or comes back, may cross
crosses_one : (t : Ty) → IsCellType t → is_local_pointer t ≡ false → Crosses (value_type t)
crosses_one ty.Int known is = tt
crosses_one (ty.Pointer to true) known is = refl
crosses_one (ty.Pointer to false) known is = absurd (true≢false is)
crosses_one ty.Null known is = absurd known
crosses_one ty.Void known is = absurd known
crosses_one ty.Unknown known is = absurd known

comes_one : (t : Ty) → IsResultType t → is_local_pointer t ≡ false → ComesBack (value_type t)
comes_one ty.Int known is = inr tt
comes_one (ty.Pointer to true) known is = inr refl
comes_one (ty.Pointer to false) known is = absurd (true≢false is)
comes_one ty.Void known is = inl refl
comes_one ty.Null known is = absurd known
comes_one ty.Unknown known is = absurd known

or_left : (a b : Bool) → (a || b) ≡ false → a ≡ false
or_left true b is = is
or_left false b is = refl

or_right : (a b : Bool) → (a || b) ≡ false → b ≡ false
or_right true b is = absurd (true≢false is)
or_right false b is = is

pub all_cross : (ts : List Ty) → AllCellTypes ts → any_local ts ≡ false → AllCross (map value_type ts)
all_cross [] known is = tt
all_cross (t ∷ ts) known is =
    (crosses_one t known.0 (or_left (is_local_pointer t) (any_local ts) is), all_cross ts known.1 (or_right (is_local_pointer t) (any_local ts) is))

remote_rule : (g : Signature) → callee_rule g true ≡ None → (any_local g.params ≡ false) × (is_local_pointer g.result ≡ false)
unfolding callee_rule
remote_rule g none =
    let b = (behind (any_local g.params || is_local_pointer g.result) _ _ none).0 in
    (or_left (any_local g.params) (is_local_pointer g.result) b, or_right (any_local g.params) (is_local_pointer g.result) b)

-- what a call does to where it stands
abbrev pub IsEntered : core.Program → Types → Scope → Bool → ℕ → Type 0
IsEntered program y here true f = here.waits ≡ true
IsEntered program y here false f = Allowed here.waits ((function_types y f).waits || is_atomic program f)

-- a call that breaks no rule hands over values of the types of the parameters
pub call_fits : (program : core.Program) (y : Types) (world : World) (home : names.Name) (here : Scope) (f : ℕ) (g : Signature) (remote : Bool) (a : Args) → SignatureFits y f g
    → call_rule g remote a.types ≡ None → ArgsFit program y world home here a → AllValues program y world home here a.terms (function_types y f).params
call_fits program y world home here f g remote a fits none v =
    let c = args_counted g.params a.types (first_none (args_rule g.params a.types) (callee_rule g remote) none) in
    subst (λ us. AllValues program y world home here a.terms us) (sym fits.params) (all_accepted program y world home here g.params a.types a.terms fits.cells c.1 c.0 v)

-- and through a global pointer those may cross
pub call_crosses : (y : Types) (f : ℕ) (g : Signature) (types : List Ty) → SignatureFits y f g → call_rule g true types ≡ None
    → AllCross (function_types y f).params × ComesBack (function_types y f).result
call_crosses y f g types fits none =
    let r = remote_rule g (second_none (args_rule g.params types) (callee_rule g true) none) in (
      subst AllCross (sym fits.params) (all_cross g.params fits.cells r.0),
      subst ComesBack (sym fits.result) (comes_one g.result fits.gives r.1),
    )

-- and so the arguments of a constructor
pub make_fits : (program : core.Program) (y : Types) (world : World) (home : names.Name) (here : Scope) (c : ℕ) (k : Class) (a : Args) → MakerFits y c k
    → args_rule k.constructor a.types ≡ None → ArgsFit program y world home here a → AllValues program y world home here a.terms (class_types y c).params
make_fits program y world home here c k a fits none v =
    let r = args_counted k.constructor a.types none in
    subst (λ us. AllValues program y world home here a.terms us) (sym fits.params) (all_accepted program y world home here k.constructor a.types a.terms fits.cells r.1 r.0 v)

-- ---- a call

module _ (program : core.Program) (y : Types) (world : World) (home : names.Name) (here : Scope) (F : Type 0) (grown : Grown) (ds : List Declared) (ls : List Local) (cx : Context) (same : F → grown.waits ≡ here.waits) where
  -- an object of a class whose function f is
  abbrev pub CalleeFits : FunId → Callee → Type 0
  CalleeFits f callee.Alone = (function_types y f.0).this ≡ None
  CalleeFits f (callee.On x) = (c : ℕ) × ((function_types y f.0).this ≡ Some c) × Values program y world home here x (Pointer false (ObjectOf c))
  CalleeFits f (callee.Remote x) = (c : ℕ) × ((function_types y f.0).this ≡ Some c) × Values program y world home here x (Pointer true (ObjectOf c))

  abbrev CrossesBy : Bool → ℕ → Type 0
  CrossesBy false f = Unit {0}
  CrossesBy true f = AllCross (function_types y f).params × ComesBack (function_types y f).result

  call_term_values : (f : FunId) (c : Callee) (es : List Expression) → CalleeFits f c → AllValues program y world home here es (function_types y f.0).params
      → IsEntered program y here (is_remote c) f.0 → CrossesBy (is_remote c) f.0
      → Values program y world home here (call_term f c es) (function_types y f.0).result
  call_term_values f callee.Alone es p v n k = call_values program y world home here how.Alone f.0 es _ (p, refl) v n
  call_term_values f (callee.On x) es p v n k =
      call_values program y world home here how.On f.0 (x ∷ es) (Pointer false (ObjectOf p.0) ∷ (function_types y f.0).params) (p.0, p.1, refl)
      (more_values program y world home here x es _ _ _ p.2 (inl refl) v) n
  call_term_values f (callee.Remote x) es p v n k =
      call_values program y world home here how.Remote f.0 (x ∷ es) (Pointer true (ObjectOf p.0) ∷ (function_types y f.0).params) (p.0, p.1, refl, k.0, k.1)
      (more_values program y world home here x es _ _ _ p.2 (inl refl) v) n

  -- the value of a call, and of a spawned one the call
  given_fits : (t : Ty) (x : Expression) → IsResultType t → Values program y world home here x (value_type t) → TypedFits program y world home here (value_given t x)
  given_fits ty.Int x known v = v
  given_fits ty.Void x known v = v
  given_fits (ty.Pointer to remote) x known v = v
  given_fits ty.Null x known v = absurd known
  given_fits ty.Unknown x known v = absurd known

  -- a call of function f, which is calm where it is called in a function that may not wait
  module _ (f : FunId) (calm : F → grown.calm f.0 ≡ true → CalmCall program y f.0) where
    quiet : (w b : Bool) → (w ≡ true) ⊎ (b ≡ false) → Allowed w b
    quiet w false h = tt
    quiet w true h = ⊎_elim (λ (a : w ≡ true). a) (λ (a : true ≡ false). absurd (true≢false a)) h

    enter_runs : (b : Bool) → Reads F grown ds ls F (enter cx f b) (λ u. IsEntered program y here b f.0)
    enter_runs true = record {
      run = λ s e. let r = (block_runs F grown ds ls {P = F} cx.line).run s e in
          (r.0, λ x k. let z = r.1 x k in (z.0, sym (same x) ∙ z.1));
    }
    enter_runs false = record {
      run = λ s e. let r = (call_runs F grown ds ls {P = F} f cx.line).run s e in (
        r.0,
        λ x k. let z = r.1 x k in (
          z.0,
          quiet here.waits _ (⊎_elim (λ (a : grown.waits ≡ true). inl (sym (same x) ∙ a)) (λ (a : grown.calm f.0 ≡ true). inr (calm x a)) z.1),
        ),
      );
    }

    crosses_by : (b : Bool) (g : Signature) (types : List Ty) → SignatureFits y f.0 g → call_rule g b types ≡ None → CrossesBy b f.0
    crosses_by false g types fits none = tt
    crosses_by true g types fits none = call_crosses y f.0 g types fits none

    entered_runs : (g : Signature) (c : Callee) (a : Args) → (F → SignatureFits y f.0 g) → call_rule g (is_remote c) a.types ≡ None
        → Reads F grown ds ls (CalleeFits f c × ArgsFit program y world home here a × F) (entered cx f g.result c a.terms) (TypedFits program y world home here)
    unfolding entered
    entered_runs g c a fits none = bind (given (λ x. x.2) (enter_runs (is_remote c))) (λ u. done (value_given g.result (call_term f c a.terms)) (λ x.
        let fine = fits x.0.2 in
        let v = call_fits program y world home here f.0 g (is_remote c) a fine none x.0.1 in
        given_fits g.result _ fine.gives
        (subst (λ u. Values program y world home here (call_term f c a.terms) u) fine.result
        (call_term_values f c a.terms x.0.0 v x.1 (crosses_by (is_remote c) g a.types fine none)))))

    entered_unless_runs : (r : Option StaticRule) (g : Signature) (c : Callee) (a : Args) → (F → SignatureFits y f.0 g)
        → call_rule g (is_remote c) a.types ≡ r
        → Reads F grown ds ls (CalleeFits f c × ArgsFit program y world home here a × F) (entered_unless r cx f g.result c a.terms) (TypedFits program y world home here)
    entered_unless_runs (Some rule) g c a fits is = never F grown ds ls cx rule typed.Broken
    entered_unless_runs None g c a fits is = entered_runs g c a fits is

  module _ (stands : F → Stands program y here grown cx) where
    called_as_runs : (o : Option Signature) (f : FunId) (c : Callee) (a : Args) → slice_get cx.tables.functions f.0 ≡ o
        → Reads F grown ds ls (CalleeFits f c × ArgsFit program y world home here a × F) (called_as o cx f c a) (TypedFits program y world home here)
    called_as_runs None f c a is = never F grown ds ls cx _ typed.Broken
    called_as_runs (Some g) f c a is =
        entered_unless_runs f (λ x. (stands x).calm f.0 g is) (call_rule g (is_remote c) a.types) g c a (λ x. (stands x).matches.functions f.0 g is) refl

    pub called_runs : (f : FunId) (c : Callee) (a : Args)
        → Reads F grown ds ls (CalleeFits f c × ArgsFit program y world home here a × F) (called cx f c a) (TypedFits program y world home here)
    called_runs f c a = called_as_runs (slice_get cx.tables.functions f.0) f c a refl

    called_name_runs : (x : Meaning) (a : Args)
        → Reads F grown ds ls (MeaningFits program y world home here ds x × ArgsFit program y world home here a × F) (called_name cx x a) (TypedFits program y world home here)
    called_name_runs (m.Variable found) a = never F grown ds ls cx _ typed.Broken
    called_name_runs (m.Field declared offset) a = never F grown ds ls cx _ typed.Broken
    called_name_runs (m.Method f) a =
        given (λ x. ((x.0.0, x.0.2, this_values program y world home here x.0.0 false x.0.1), x.1, x.2)) (called_runs f (callee.On e.This) a)
    called_name_runs (m.Constant b z) a = never F grown ds ls cx _ typed.Broken
    called_name_runs (m.Function f) a = given (λ x. (x.0, x.1, x.2)) (called_runs f callee.Alone a)
    called_name_runs m.Nothing a = never F grown ds ls cx _ typed.Broken

    pub call_named_runs : (x : Meaning) (a : Option Args)
        → Reads F grown ds ls (MeaningFits program y world home here ds x × IsThere (ArgsFit program y world home here) a × F) (call_named cx x a) (TypedFits program y world home here)
    call_named_runs x None = done typed.Spoiled (λ p. p.1)
    call_named_runs x (Some a) = called_name_runs x a

-- a value is an argument
pub argued : (program : core.Program) (y : Types) (world : World) (home : names.Name) (here : Scope) (o : Option Operand) → IsThere (OperandFits program y world home here) o → IsThere (ArgumentFits program y world home here) o
argued program y world home here None p = p
argued program y world home here (Some v) p = argument_by program y world home here v.ty v.term p

-- an argument: an object is one of no known type
pub passed_runs : (program : core.Program) (y : Types) (world : World) (home : names.Name) (here : Scope) (F : Type 0) (grown : Grown) (ds : List Declared) (ls : List Local) (cx : Context) (same : F → grown.waits ≡ here.waits) (t : Typed)
    → Reads F grown ds ls (TypedFits program y world home here t) (passed cx t) (IsThere (ArgumentFits program y world home here))
passed_runs program y world home here F grown ds ls cx same (typed.Object o) = done (Some (object_passed o)) (λ x. tt)
passed_runs program y world home here F grown ds ls cx same typed.Broken = gives (argued program y world home here) (decay_runs program y world home here F grown ds ls cx same typed.Broken)
passed_runs program y world home here F grown ds ls cx same typed.Spoiled = gives (argued program y world home here) (decay_runs program y world home here F grown ds ls cx same typed.Spoiled)
passed_runs program y world home here F grown ds ls cx same (typed.Value v) = gives (argued program y world home here) (decay_runs program y world home here F grown ds ls cx same (typed.Value v))
passed_runs program y world home here F grown ds ls cx same (typed.This class remote) = gives (argued program y world home here) (decay_runs program y world home here F grown ds ls cx same (typed.This class remote))
passed_runs program y world home here F grown ds ls cx same (typed.Constant term value) = gives (argued program y world home here) (decay_runs program y world home here F grown ds ls cx same (typed.Constant term value))
passed_runs program y world home here F grown ds ls cx same (typed.Place p) = gives (argued program y world home here) (decay_runs program y world home here F grown ds ls cx same (typed.Place p))
passed_runs program y world home here F grown ds ls cx same (typed.Array p k) = gives (argued program y world home here) (decay_runs program y world home here F grown ds ls cx same (typed.Array p k))
