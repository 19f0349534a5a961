-- The program that the front end leaves is determinate, where its constructors put what their classes' types say.
use Rattle.std.proofs.Common.{◌≡◌, ℕ, zero, suc, Bool, false, List, [], ◌∷◌, ◌++◌, length, map, Some, refl, sym, ap, subst, ◌∙◌, ◌⊎◌, inl, inr, ⊎_elim, append-nil}
use Rattle.std.specs.Prelude.{slice_get, get_or}
use Rattle.cc_core.specs.Core as core
use Rattle.cc_core.specs.Core.{Program, function, shapes, class_shape, no_function, no_class}
use Rattle.cc_core.specs.Effects.{numbers}
use Rattle.cc_core.specs.Types.{FunctionTypes, Types, no_types}
use Rattle.cc_core.specs.View.{function_of}
use Rattle.cc_core.specs.declared.program.Function.{Function as CoreFunction}
use Rattle.cc_one_answer.specs.Determinate.{DetStmts, AreParameters}
use Rattle.cc_ops.specs.declared.shape.ClassShape.{ClassShape}
use Rattle.cc_functions.specs.declared.done.Done.{Done}
use Rattle.cc_functions.specs.Items.{no_members, field_member, function_member, member_by, members_from as read_members, class_item}
use Rattle.cc_functions.specs.Items.{function_item, class_id, after_constant, after_class, after_function, items_from}
use Rattle.cc_names.specs.Names.{NameTables}
use Rattle.cc_scopes.specs.declared.state.State.{State}
use Rattle.cc_scopes.specs.declared.tables.Signature.{Signature}
use Rattle.cc_scopes.specs.declared.tables.Tables.{Tables}
use Rattle.cc_scopes.specs.Scope.{Context}
use Rattle.cc_tables.specs.Tables.{outside}
use Rattle.cc_tree.specs.declared.declarations.ClassDecl.{ClassDecl}
use Rattle.cc_tree.specs.declared.declarations.Item.{Item}
use Rattle.cc_tree.specs.declared.declarations.Item.TheVariants as item
use Rattle.cc_tree.specs.declared.declarations.Member.{Member}
use Rattle.cc_tree.specs.declared.declarations.Member.TheVariants as member
use Rattle.cc_shared.proofs.FunctionLaws.{FunctionFits}
use Rattle.cc_shared.proofs.ItemLaws.{AllFit, members_functions, items_functions}

assoc : {A : Type 0} (xs ys zs : List A) → (xs ++ ys) ++ zs ≡ xs ++ (ys ++ zs)
assoc [] ys zs = refl
assoc (x ∷ xs) ys zs = ap (λ l. x ∷ l) (assoc xs ys zs)

-- ---- the functions that are done are those of the items

members_done : (cx : Context) (class : ClassDecl) (d : Done) (sh : ClassShape) (ms : List Member) (s : State)
    → (read_members cx class d sh ms s).0.0.functions ≡ d.functions ++ members_functions cx class d sh ms s
unfolding field_member function_member
members_done cx class d sh [] s = sym (append-nil d.functions)
members_done cx class d sh (member.Field x ∷ ms) s =
    let w = member_by (member.Field x) cx class d sh s in members_done cx class (w.0).0 (w.0).1 ms w.1
members_done cx class d sh (member.Func f ∷ ms) s =
    let w = member_by (member.Func f) cx class d sh s in
    members_done cx class (w.0).0 (w.0).1 ms w.1 ∙ assoc d.functions (_ ∷ []) (members_functions cx class (w.0).0 (w.0).1 ms w.1)
members_done cx class d sh (member.Build name params body line ∷ ms) s =
    let w = member_by (member.Build name params body line) cx class d sh s in members_done cx class (w.0).0 (w.0).1 ms w.1

module _ (names : NameTables) (t : Tables) where
  pub items_done : (k c : ℕ) (d : Done) (xs : List Item) (s : State)
      → (items_from names t (record { constants = k; classes = c; done = d }) xs s).0.done.functions ≡ d.functions ++ items_functions names t k c d xs s
  unfolding after_constant after_class after_function class_item function_item
  items_done k c d [] s = sym (append-nil d.functions)
  items_done k c d (item.Const name value line ∷ xs) s =
      let w = after_constant names t (record { constants = k; classes = c; done = d }) value line s in items_done w.0.constants w.0.classes w.0.done xs w.1
  items_done k c d (item.Class class ∷ xs) s =
      let w = after_class names t (record { constants = k; classes = c; done = d }) class s in
      let cx = outside names t k (Some (class_id c)) class.line in
      let rest = items_functions names t w.0.constants w.0.classes w.0.done xs w.1 in
      items_done w.0.constants w.0.classes w.0.done xs w.1
      ∙ (ap (λ fs. fs ++ rest) (members_done cx class d no_members class.members s)
      ∙ assoc d.functions (members_functions cx class d no_members class.members s) rest)
  items_done k c d (item.Func f ∷ xs) s =
      let w = after_function names t (record { constants = k; classes = c; done = d }) f s in
      items_done w.0.constants w.0.classes w.0.done xs w.1 ∙ assoc d.functions (_ ∷ []) (items_functions names t w.0.constants w.0.classes w.0.done xs w.1)

-- ---- the function of a number

-- it is one of these, or there is none
pub record Found (y : Types) (main : ℕ) (gs : List Signature) (ts : List FunctionTypes) (xs : List CoreFunction) (f : ℕ) : Type 0 where
  pub signature : Signature
  pub here : CoreFunction
  pub is : slice_get gs f ≡ Some signature
  pub fits : FunctionFits y main signature.is_main (get_or ts f no_types) here
  pub stands : get_or (map function_of xs) f no_function ≡ function_of here

abbrev pub Absent : List FunctionTypes → List CoreFunction → ℕ → Type 0
Absent ts xs f = (get_or ts f no_types ≡ no_types) × (get_or (map function_of xs) f no_function ≡ no_function)

module _ (y : Types) (main : ℕ) where
  deeper : (g : Signature) (gs : List Signature) (t : FunctionTypes) (ts : List FunctionTypes) (x : CoreFunction) (xs : List CoreFunction) (f : ℕ)
      → Found y main gs ts xs f ⊎ Absent ts xs f → Found y main (g ∷ gs) (t ∷ ts) (x ∷ xs) (suc f) ⊎ Absent (t ∷ ts) (x ∷ xs) (suc f)
  deeper g gs t ts x xs f p = ⊎_elim
      (λ a. inl (record { signature = a.signature; here = a.here; is = a.is; fits = a.fits; stands = a.stands })) (λ b. inr b) p

  pub at_number : (gs : List Signature) (ts : List FunctionTypes) (xs : List CoreFunction) (f : ℕ) → AllFit y main gs ts xs
      → Found y main gs ts xs f ⊎ Absent ts xs f
  at_number [] [] [] f p = inr (refl, refl)
  at_number [] [] (x ∷ xs) f p = absurd p
  at_number [] (t ∷ ts) xs f p = absurd p
  at_number (g ∷ gs) [] xs f p = absurd p
  at_number (g ∷ gs) (t ∷ ts) [] f p = absurd p
  at_number (g ∷ gs) (t ∷ ts) (x ∷ xs) zero p = inl (record { signature = g; here = x; is = refl; fits = p.0; stands = refl })
  at_number (g ∷ gs) (t ∷ ts) (x ∷ xs) (suc f) p = deeper g gs t ts x xs f (at_number gs ts xs f p.1)

-- ---- each function, as the law has it

module _ (y : Types) (main : ℕ) (gs : List Signature) (ts : List FunctionTypes) (xs : List CoreFunction) (all : AllFit y main gs ts xs) where
  abbrev Body : Bool → FunctionTypes → core.Function → Type 0
  Body prints t x = DetStmts y main t prints (numbers 0 (length x.shape.params)) x.body

  pub body_at : (f : ℕ) (prints : Bool) → ((g : Signature) → slice_get gs f ≡ Some g → g.is_main ≡ prints)
      → Body prints (get_or ts f no_types) (get_or (map function_of xs) f no_function)
  body_at f prints same = ⊎_elim
      (λ a. subst (λ x. Body prints (get_or ts f no_types) x) (sym a.stands)
      (subst (λ b. Body b (get_or ts f no_types) (function_of a.here)) (same a.signature a.is) a.fits.body))
      (λ b. subst (λ x. Body prints (get_or ts f no_types) x) (sym b.1) tt)
      (at_number y main gs ts xs f all)

  pub parameters_at : (f : ℕ) → AreParameters (get_or ts f no_types).vars 0 (get_or (map function_of xs) f no_function).shape.params (get_or ts f no_types).params
  parameters_at f = ⊎_elim
      (λ a. subst (λ (x : core.Function). AreParameters (get_or ts f no_types).vars 0 x.shape.params (get_or ts f no_types).params) (sym a.stands) a.fits.parameters)
      (λ b. subst (λ (x : core.Function). AreParameters (get_or ts f no_types).vars 0 x.shape.params (get_or ts f no_types).params) (sym b.1)
      (ap (λ (t : FunctionTypes). t.params) b.0))
      (at_number y main gs ts xs f all)

  pub plain_at : (f : ℕ) → (get_or (map function_of xs) f no_function).shape.atomic ≡ false
  plain_at f = ⊎_elim
      (λ a. ap (λ (x : core.Function). x.shape.atomic) a.stands ∙ a.fits.not_atomic) (λ b. ap (λ (x : core.Function). x.shape.atomic) b.1)
      (at_number y main gs ts xs f all)
