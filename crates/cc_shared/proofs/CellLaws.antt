-- The cells of each class of a program are those that the tables have.
use Rattle.std.proofs.Common.{◌≡◌, ℕ, zero, suc, ◌+◌, ◌≤◌, ℤ, true, List, [], ◌∷◌, ◌++◌, map, Option, Some, None, refl, sym, ap, subst, ◌∙◌, arith, append-nil}
use Rattle.std.specs.Prelude.{slice_get, get_or, nat_lt}
use Rattle.cc_core.specs.Core.{no_class}
use Rattle.cc_core.specs.Types.{Types}
use Rattle.cc_names.specs.Declarations.{after_methods}
use Rattle.cc_names.specs.Names.{NameTables}
use Rattle.cc_one_answer.specs.Determinate.{AreRuns}
use Rattle.cc_ops.specs.Shapes.{shape_of}
use Rattle.cc_names.specs.declared.declarations.ClassId.{ClassId}
use Rattle.cc_ops.specs.declared.shape.ClassShape.{ClassShape}
use Rattle.cc_functions.specs.declared.done.Done.{Done}
use Rattle.cc_functions.specs.Items.{run_of, filled, filled_runs, no_members, field_member, function_member, member_by, members_from as read_members, class_item}
use Rattle.cc_functions.specs.Items.{function_item, class_id, after_constant, after_class, after_function, items_from}
use Rattle.cc_scopes.specs.declared.state.State.{State}
use Rattle.cc_scopes.specs.declared.tables.Class.{Class}
use Rattle.cc_scopes.specs.declared.tables.Tables.{Tables}
use Rattle.cc_scopes.specs.Meaning.{value_in}
use Rattle.cc_scopes.specs.Scope.{Context}
use Rattle.cc_tables.specs.Tables.{outside, classes_from}
use Rattle.cc_tree.specs.declared.declarations.ClassDecl.{ClassDecl}
use Rattle.cc_tree.specs.declared.declarations.Item.{Item}
use Rattle.cc_tree.specs.declared.declarations.Item.TheVariants as item
use Rattle.cc_tree.specs.declared.declarations.Member.{Member}
use Rattle.cc_tree.specs.declared.declarations.Member.TheVariants as member
use Rattle.cc_shared.proofs.Runs.{IsThere, Anything}
use Rattle.cc_shared.proofs.Det.{Matches}
use Rattle.cc_shared.proofs.Proper.{EachOf}
use Rattle.cc_shared.proofs.GrammarLaws.{ProperItem}
use Rattle.cc_shared.proofs.QuietLaws.{Quiet, items_quiet}
use Rattle.cc_shared.proofs.ItemLaws.{At, constant_count}
use Rattle.cc_shared.proofs.RunLaws.{cells_same}
use Rattle.cc_shared.proofs.TypeTables.{EntriesKnown, class_targets, fields_of, runs_match}

assoc : {A : Type 0} (xs ys zs : List A) → (xs ++ ys) ++ zs ≡ xs ++ (ys ++ zs)
assoc [] ys zs = refl
assoc (x ∷ xs) ys zs = ap (λ l. x ∷ l) (assoc xs ys zs)

-- ---- the shapes of the classes, in order

members_keep : (cx : Context) (class : ClassDecl) (d : Done) (sh : ClassShape) (ms : List Member) (s : State) → (read_members cx class d sh ms s).0.0.classes ≡ d.classes
unfolding field_member function_member
members_keep cx class d sh [] s = refl
members_keep cx class d sh (member.Field x ∷ ms) s =
    let w = member_by (member.Field x) cx class d sh s in members_keep cx class (w.0).0 (w.0).1 ms w.1
members_keep cx class d sh (member.Func f ∷ ms) s =
    let w = member_by (member.Func f) cx class d sh s in members_keep cx class (w.0).0 (w.0).1 ms w.1
members_keep cx class d sh (member.Build name params body line ∷ ms) s =
    let w = member_by (member.Build name params body line) cx class d sh s in members_keep cx class (w.0).0 (w.0).1 ms w.1

module _ (names : NameTables) (t : Tables) where
  abbrev pub items_shapes : (k c : ℕ) → Done → List Item → State → List ClassShape
  items_shapes k c d [] s = []
  items_shapes k c d (item.Const name value line ∷ xs) s =
      let w = after_constant names t (record { constants = k; classes = c; done = d }) value line s in items_shapes w.0.constants w.0.classes w.0.done xs w.1
  items_shapes k c d (item.Class class ∷ xs) s =
      let w = after_class names t (record { constants = k; classes = c; done = d }) class s in
      filled (read_members (outside names t k (Some (class_id c)) class.line) class d no_members class.members s).0.1
      ∷ items_shapes w.0.constants w.0.classes w.0.done xs w.1
  items_shapes k c d (item.Func f ∷ xs) s =
      let w = after_function names t (record { constants = k; classes = c; done = d }) f s in items_shapes w.0.constants w.0.classes w.0.done xs w.1

  pub shapes_done : (k c : ℕ) (d : Done) (xs : List Item) (s : State)
      → (items_from names t (record { constants = k; classes = c; done = d }) xs s).0.done.classes ≡ d.classes ++ items_shapes k c d xs s
  unfolding after_constant after_class after_function class_item function_item
  shapes_done k c d [] s = sym (append-nil d.classes)
  shapes_done k c d (item.Const name value line ∷ xs) s =
      let w = after_constant names t (record { constants = k; classes = c; done = d }) value line s in shapes_done w.0.constants w.0.classes w.0.done xs w.1
  shapes_done k c d (item.Class class ∷ xs) s =
      let w = after_class names t (record { constants = k; classes = c; done = d }) class s in
      let cx = outside names t k (Some (class_id c)) class.line in
      let rest = items_shapes w.0.constants w.0.classes w.0.done xs w.1 in
      shapes_done w.0.constants w.0.classes w.0.done xs w.1
      ∙ (assoc (read_members cx class d no_members class.members s).0.0.classes (filled (read_members cx class d no_members class.members s).0.1 ∷ []) rest
      ∙ ap (λ cs. cs ++ (filled (read_members cx class d no_members class.members s).0.1 ∷ rest)) (members_keep cx class d no_members class.members s))
  shapes_done k c d (item.Func f ∷ xs) s =
      let w = after_function names t (record { constants = k; classes = c; done = d }) f s in shapes_done w.0.constants w.0.classes w.0.done xs w.1

-- ---- each has the cells of its class

abbrev pub CellsOf : Class → ClassShape → Type 0
CellsOf k x = x.cells ≡ filled_runs (map run_of (fields_of k.members))

abbrev pub AllCells : List Class → List ClassShape → Type 0
AllCells [] [] = Unit {0}
AllCells [] (x ∷ xs) = ⊥
AllCells (k ∷ ks) [] = ⊥
AllCells (k ∷ ks) (x ∷ xs) = CellsOf k x × AllCells ks xs

module _ (names : NameTables) (t bare : Tables) (no_classes : bare.classes ≡ []) (same : t.constants ≡ bare.constants) (y : Types) (main : ℕ)
    (matches : Matches y main t) (total : ℕ)
    (constants : (k : ℕ) → k ≤ total → (j : ℕ) → nat_lt j k ≡ true → IsThere {A = ℤ} Anything (value_in (slice_get t.constants j))) where
  pub cells_all : (k c f : ℕ) (d : Done) (xs : List Item) (s : State) → k + constant_count xs ≤ total → EachOf ProperItem xs
      → Quiet (items_from names t (record { constants = k; classes = c; done = d }) xs s).1
      → AllCells (classes_from names bare k c f xs) (items_shapes names t k c d xs s)
  unfolding after_constant after_class after_function class_item function_item
  cells_all k c f d [] s le p q = tt
  cells_all k c f d (item.Const name value line ∷ xs) s le p q =
      let w = after_constant names t (record { constants = k; classes = c; done = d }) value line s in
      cells_all w.0.constants w.0.classes f w.0.done xs w.1 (omega (arith, le)) p.1 q
  cells_all k c f d (item.Class class ∷ xs) s le p q =
      let w = after_class names t (record { constants = k; classes = c; done = d }) class s in
      let cx = outside names t k (Some (class_id c)) class.line in
      let b = outside names bare k (Some (record { 0 = c })) class.line in
      let at : At y main cx (Some c) = record {
        matches = matches;
        this_is = λ z is. ap (λ (o : Option ClassId). elim o as (λ v. Option ℕ) [ None ↦ None | Some v ↦ Some v.0 ]) is;
        constants = constants k (omega (arith, le));
      } in
      let quiet = items_quiet names t w.0.constants w.0.classes w.0.done xs w.1 p.1 q in (
        ap filled_runs (cells_same y main cx (Some c) at tt b class
            (λ line. record { plain = record { names = refl; classes = no_classes }; known = refl; constants = λ j lt. ap (λ vs. value_in (slice_get vs j)) same })
            d no_members class.members s 0 f p.0 quiet),
        cells_all w.0.constants w.0.classes (after_methods f class.members) w.0.done xs w.1 le p.1 q,
      )
  cells_all k c f d (item.Func x ∷ xs) s le p q =
      let w = after_function names t (record { constants = k; classes = c; done = d }) x s in
      cells_all w.0.constants w.0.classes (f + 1) w.0.done xs w.1 le p.1 q

-- ---- the runs of a class by its number

module _ (y : Types) where
  pub runs_at : (ks : List Class) (xs : List ClassShape) (c n : ℕ) → AllCells ks xs
      → ((i : ℕ) (k : Class) → slice_get ks i ≡ Some k → EntriesKnown k.members × (get_or y.classes (n + i) [] ≡ class_targets k))
      → AreRuns y (n + c) 0 (get_or (map shape_of xs) c no_class).cells
  runs_at [] [] c n p f = tt
  runs_at [] (x ∷ xs) c n p f = absurd p
  runs_at (k ∷ ks) [] c n p f = absurd p
  runs_at (k ∷ ks) (x ∷ xs) zero n p f = let q = f 0 k refl in
      subst (λ rs. AreRuns y (n + 0) 0 rs) (sym p.0) (runs_match y (n + 0) k.members q.0 q.1)
  runs_at (k ∷ ks) (x ∷ xs) (suc c) n p f =
      let same : suc n + c ≡ n + suc c = omega arith in
      subst (λ m. AreRuns y m 0 (get_or (map shape_of xs) c no_class).cells) same
      (runs_at ks xs c (suc n) p.1 (λ i z is. let q = f (suc i) z is in
      let e : n + suc i ≡ suc n + i = omega arith in (q.0, ap (λ m. get_or y.classes m []) (sym e) ∙ q.1)))
