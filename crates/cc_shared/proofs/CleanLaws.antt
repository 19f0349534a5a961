-- Readings that break no rule leave what was collected before, and what the parameters of a function are.
use Rattle.std.proofs.Common.{◌≡◌, ℕ, suc, ◌+◌, Bool, true, false, not, cond, List, [], ◌∷◌, ◌++◌, length, Option, Some, None, refl, sym, ap, subst, ◌∙◌, arith, append-nil, length-append}
use Rattle.std.specs.Prelude.{◌&&◌}
use Rattle.cc_names.specs.Names.{class_named}
use Rattle.cc_names.specs.Table.{Name}
use Rattle.cc_names.specs.declared.broken.Broken.TheVariants.{Rule}
use Rattle.cc_names.specs.declared.declarations.ClassId.{ClassId}
use Rattle.cc_names.specs.declared.rule.StaticRule.{StaticRule}
use Rattle.cc_names.specs.declared.rule.StaticRule.TheVariants as r
use Rattle.cc_declared.specs.declared.role.Role.{Role}
use Rattle.cc_declared.specs.declared.role.Role.TheVariants as role
use Rattle.cc_declared.specs.Allowed.{is_allowed}
use Rattle.cc_declared.specs.Slots.{checked, typed_as, parameter}
use Rattle.cc_declared.specs.Written.{void_type, class_or_none, written_by, written}
use Rattle.cc_elaboration.specs.Simple.{note_if}
use Rattle.cc_elaboration.specs.Statements.{at_line}
use Rattle.cc_functions.specs.Functions.{is_plain_int, param_at, param, params_from}
use Rattle.cc_scopes.specs.declared.state.Local.{Local}
use Rattle.cc_scopes.specs.declared.state.State.{State}
use Rattle.cc_scopes.specs.declared.types.Declared.{Declared}
use Rattle.cc_scopes.specs.Elab.{note}
use Rattle.cc_scopes.specs.Scope.{Context, is_here, twice, declare}
use Rattle.cc_tree.specs.declared.declarations.Param.{Param}
use Rattle.cc_tree.specs.declared.statements.Base.{Base}
use Rattle.cc_tree.specs.declared.statements.Base.TheVariants as base
use Rattle.cc_tree.specs.declared.statements.TypeName.{TypeName}
use Rattle.cc_source.proofs.Fits.{Clean}
use Rattle.cc_shared.proofs.StateLaws.{not_empty}
use Rattle.cc_shared.proofs.DeclaredLaws.{DeclaredFits, WrittenFits, int_type_fits, class_type_fits, allowed_fits}

-- ---- a type

module _ (cx : Context) where
  void_kept : (star : Bool) (s : State) → Clean (void_type star cx s).1 → (void_type star cx s).1 ≡ s
  void_kept true s e = absurd (not_empty s.broken _ e)
  void_kept false s e = refl

  class_kept : (o : Option ClassId) (t : TypeName) (s : State) → Clean (class_or_none o cx t s).1 → (class_or_none o cx t s).1 ≡ s
  class_kept None t s e = absurd (not_empty s.broken _ e)
  class_kept (Some class) t s e = refl

  written_by_kept : (b : Base) (t : TypeName) (s : State) → Clean (written_by b cx t s).1 → (written_by b cx t s).1 ≡ s
  written_by_kept base.Void t s e = void_kept t.star s e
  written_by_kept base.Int t s e = refl
  written_by_kept base.SyncInt t s e = refl
  written_by_kept (base.Named name) t s e = class_kept (class_named cx.names name) t s e

  checked_kept : (b : Bool) (d : Declared) (s : State) → Clean (checked b cx d s).1 → (checked b cx d s).1 ≡ s
  checked_kept true d s e = refl
  checked_kept false d s e = absurd (not_empty s.broken _ e)

  pub typed_kept : (role : Role) (t : TypeName) (s : State) → Clean (typed_as role cx t s).1 → (typed_as role cx t s).1 ≡ s
  unfolding typed_as
  typed_kept role t s e =
      let w = written cx t s in
      let same = checked_kept (is_allowed role cx w.0) w.0 w.1 e in
      same ∙ written_by_kept t.base t s (subst Clean same e)

  pub note_kept : (b : Bool) (rule : StaticRule) (s : State) → Clean (note_if b cx rule s).1 → (note_if b cx rule s).1 ≡ s
  note_kept true rule s e = absurd (not_empty s.broken _ e)
  note_kept false rule s e = refl

  -- ---- a variable

  twice_by : (b : Bool) (s : State) → Clean (cond b (note (Rule r.LocalTwice cx.line) s) (tt, s)).1 → (cond b (note (Rule r.LocalTwice cx.line) s) (tt, s)).1 ≡ s
  twice_by true s e = absurd (not_empty s.broken _ e)
  twice_by false s e = refl

  twice_kept : (name : Name) (s : State) → Clean (twice cx name s).1 → (twice cx name s).1 ≡ s
  unfolding twice
  twice_kept name s e = twice_by (is_here cx name s) s e

  abbrev pub newest : Name → Declared → State → Local
  newest name d s = record { name = name; number = length s.made; declared = d; part = cx.part }

  abbrev pub with_variable : Name → Declared → State → State
  with_variable name d s = record s { made = s.made ++ d ∷ []; locals = s.locals ++ newest name d s ∷ [] }

  declare_is : (name : Name) (d : Declared) (s : State) → Clean (declare cx name d s).1 → (declare cx name d s).1 ≡ with_variable name d s
  unfolding declare
  declare_is name d s e = ap (λ z. with_variable name d z) (twice_kept name s e)

  -- ---- a parameter

  pub param_at_is : (m : Bool) (p : Param) (s : State) → Clean (param_at cx m p s).1
      → (param_at cx m p s).1 ≡ with_variable p.name (param_at cx m p s).0 s
  unfolding param_at
  param_at_is m p s e =
      let d = parameter cx p.ty s in
      let n = note_if (m && not (is_plain_int d.0)) cx r.BadMain d.1 in
      let a = declare_is p.name d.0 n.1 e in
      let clean : Clean n.1 = subst Clean a e in
      let b = note_kept (m && not (is_plain_int d.0)) r.BadMain d.1 clean in
      let c = typed_kept role.Parameter p.ty s (subst Clean b clean) in
      a ∙ ap (λ z. with_variable p.name d.0 z) (b ∙ c)

-- ---- what it is

void_fits : (cx : Context) (star : Bool) (s : State) → Clean (void_type star cx s).1 → WrittenFits (void_type star cx s).0
void_fits cx true s e = absurd (not_empty s.broken _ e)
void_fits cx false s e = tt

class_fits : (cx : Context) (o : Option ClassId) (t : TypeName) (s : State) → Clean (class_or_none o cx t s).1 → WrittenFits (class_or_none o cx t s).0
class_fits cx None t s e = absurd (not_empty s.broken _ e)
class_fits cx (Some class) t s e = class_type_fits class t

written_by_fits : (cx : Context) (b : Base) (t : TypeName) (s : State) → Clean (written_by b cx t s).1 → WrittenFits (written_by b cx t s).0
written_by_fits cx base.Void t s e = void_fits cx t.star s e
written_by_fits cx base.Int t s e = int_type_fits false t
written_by_fits cx base.SyncInt t s e = int_type_fits true t
written_by_fits cx (base.Named name) t s e = class_fits cx (class_named cx.names name) t s e

checked_fits : (cx : Context) (b : Bool) (role : Role) (d : Declared) (s : State) → is_allowed role cx d ≡ b → WrittenFits d → Clean (checked b cx d s).1
    → DeclaredFits role (checked b cx d s).0
checked_fits cx true role d s is w e = allowed_fits d.shape role cx d refl is w
checked_fits cx false role d s is w e = absurd (not_empty s.broken _ e)

-- a type that breaks no rule
pub typed_fits : (cx : Context) (role : Role) (t : TypeName) (s : State) → Clean (typed_as role cx t s).1 → DeclaredFits role (typed_as role cx t s).0
unfolding typed_as
typed_fits cx role t s e =
    let w = written cx t s in
    checked_fits cx (is_allowed role cx w.0) role w.0 w.1 refl
    (written_by_fits cx t.base t s (subst Clean (checked_kept cx (is_allowed role cx w.0) w.0 w.1 e) e)) e

param_fits : (cx : Context) (m : Bool) (p : Param) (s : State) → Clean (param_at cx m p s).1 → DeclaredFits role.Parameter (param_at cx m p s).0
unfolding param_at
param_fits cx m p s e =
    let d = parameter cx p.ty s in
    let n = note_if (m && not (is_plain_int d.0)) cx r.BadMain d.1 in
    let c : Clean n.1 = subst Clean (declare_is cx p.name d.0 n.1 e) e in
    typed_fits cx role.Parameter p.ty s (subst Clean (note_kept cx (m && not (is_plain_int d.0)) r.BadMain d.1 c) c)

abbrev pub AllParameters : List Declared → Type 0
AllParameters [] = Unit {0}
AllParameters (d ∷ ds) = DeclaredFits role.Parameter d × AllParameters ds

-- ---- parameters

-- their variables, from number k on
abbrev pub AreNumbered : ℕ → ℕ → List Declared → List Local → Type 0
AreNumbered part k [] ls = ls ≡ []
AreNumbered part k (d ∷ ds) [] = ⊥
AreNumbered part k (d ∷ ds) (l ∷ ls) = (l.number ≡ k) × (l.declared ≡ d) × (l.part ≡ part) × AreNumbered part (suc k) ds ls

pub record ParamsDone (part : ℕ) (s t : State) (before after : List Declared) : Type 0 where
  pub new : List Declared
  pub variables : List Local
  pub given : after ≡ before ++ new
  pub made : t.made ≡ s.made ++ new
  pub locals : t.locals ≡ s.locals ++ variables
  pub numbered : AreNumbered part (length s.made) new variables
  pub broken : t.broken ≡ s.broken
  pub shared : t.shared ≡ s.shared

pub assoc : {A : Type 0} (xs : List A) (x : A) (ys : List A) → (xs ++ x ∷ []) ++ ys ≡ xs ++ (x ∷ ys)
assoc [] x ys = refl
assoc (z ∷ xs) x ys = ap (λ l. z ∷ l) (assoc xs x ys)

pub one_longer : {A : Type 0} (xs : List A) (x : A) → length (xs ++ x ∷ []) ≡ suc (length xs)
one_longer xs x = let l : length (xs ++ x ∷ []) ≡ length xs + 1 = length-append xs (x ∷ []) in omega (arith, l)

module _ (cx : Context) (m : Bool) where
  unfoldable pub params_done : (done : List Declared) (ps : List Param) (s : State) → Clean (params_from cx m done ps s).1
      → ParamsDone cx.part s (params_from cx m done ps s).1 done (params_from cx m done ps s).0
  params_done done [] s e = record {
    new = [];
    variables = [];
    given = sym (append-nil done);
    made = sym (append-nil s.made);
    locals = sym (append-nil s.locals);
    numbered = refl;
    broken = refl;
    shared = refl;
  }
  params_done done (p ∷ ps) s e =
      let q = param cx m p s in
      let rest = params_done (done ++ q.0 ∷ []) ps q.1 e in
      let here = param_at_is (at_line cx p.line) m p s (sym rest.broken ∙ e) in
      let made_is : q.1.made ≡ s.made ++ q.0 ∷ [] = ap (λ z. z.made) here in
      let locals_are : q.1.locals ≡ s.locals ++ newest (at_line cx p.line) p.name q.0 s ∷ [] = ap (λ z. z.locals) here in
      record {
        new = q.0 ∷ rest.new;
        variables = newest (at_line cx p.line) p.name q.0 s ∷ rest.variables;
        given = rest.given ∙ assoc done q.0 rest.new;
        made = rest.made ∙ (ap (λ l. l ++ rest.new) made_is ∙ assoc s.made q.0 rest.new);
        locals = rest.locals ∙ (ap (λ l. l ++ rest.variables) locals_are ∙ assoc s.locals (newest (at_line cx p.line) p.name q.0 s) rest.variables);
        numbered = (refl, refl, refl, subst (λ k. AreNumbered cx.part k rest.new rest.variables) (ap (λ l. length l) made_is ∙ one_longer s.made q.0) rest.numbered);
        broken = rest.broken ∙ ap (λ z. z.broken) here;
        shared = rest.shared ∙ ap (λ z. z.shared) here;
      }

  -- each is a cell of a known type
  pub params_fit : (done : List Declared) (ps : List Param) (s : State) → (e : Clean (params_from cx m done ps s).1)
      → AllParameters (params_done done ps s e).new
  unfolding params_done
  params_fit done [] s e = tt
  params_fit done (p ∷ ps) s e =
      let q = param cx m p s in
      let rest = params_done (done ++ q.0 ∷ []) ps q.1 e in
      (param_fits (at_line cx p.line) m p s (sym rest.broken ∙ e), params_fit (done ++ q.0 ∷ []) ps q.1 e)

pub param_is : (cx : Context) (m : Bool) (p : Param) (s : State) → Clean (param cx m p s).1
    → (param cx m p s).1 ≡ with_variable (at_line cx p.line) p.name (param cx m p s).0 s
param_is cx m p s e = param_at_is (at_line cx p.line) m p s e

-- and its type was clean
pub type_clean : (cx : Context) (m : Bool) (p : Param) (s : State) → Clean (param_at cx m p s).1 → Clean (parameter cx p.ty s).1
unfolding param_at
type_clean cx m p s e =
    let d = parameter cx p.ty s in
    let n = note_if (m && not (is_plain_int d.0)) cx r.BadMain d.1 in
    let c : Clean n.1 = subst Clean (declare_is cx p.name d.0 n.1 e) e in
    subst Clean (note_kept cx (m && not (is_plain_int d.0)) r.BadMain d.1 c) c

-- what a parameter is declared as
pub param_type_fits : (cx : Context) (m : Bool) (p : Param) (s : State) → Clean (param_at cx m p s).1 → DeclaredFits role.Parameter (param_at cx m p s).0
param_type_fits cx m p s e = param_fits cx m p s e
