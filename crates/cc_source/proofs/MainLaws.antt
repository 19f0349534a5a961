-- The number of the function `main`, where no two declarations of a file have one name.
use Rattle.std.proofs.Common.{◌≡◌, ℕ, zero, suc, ◌+◌, Bool, true, false, cond, List, [], ◌∷◌, ◌++◌, length, Option, Some, None, refl, sym, ap, subst, ◌∙◌, arith, zero-add, add-zero, ◌⊎◌, inl, inr, ⊎_elim}
use Rattle.std.proofs.Math.Nat.{suc-add}
use Rattle.std.specs.Prelude.{slice_get, is_some, bytes_eq, codes, ◌||◌}
use Rattle.std.specs.List.{list_any}
use Rattle.std.proofs.lemmas.Option.{none-some}
use Rattle.std.proofs.lemmas.Bool.{true≢false, false≢true}
use Rattle.std.proofs.lemmas.Slice.Eq.{bytes_eq-Decides}
use Rattle.cc_names.specs.Declarations.{after_methods, file_from, file}
use Rattle.cc_names.specs.Group.{is_main}
use Rattle.cc_names.specs.Names.{names_of, as_function}
use Rattle.cc_names.specs.Table.{Name, Table, Declared, entry, with_name, once, again, twice}
use Rattle.cc_names.specs.declared.broken.Broken.TheVariants.{Rule}
use Rattle.cc_names.specs.declared.rule.StaticRule.TheVariants.{NameTwice}
use Rattle.cc_names.specs.declared.declarations.Entity.{Entity}
use Rattle.cc_names.specs.declared.declarations.Entity.TheVariants as entity
use Rattle.cc_scopes.specs.declared.tables.Signature.{Signature}
use Rattle.cc_scopes.specs.Scope.{Context}
use Rattle.cc_tree.specs.declared.declarations.Item.{Item}
use Rattle.cc_tree.specs.declared.declarations.Item.TheVariants as item
use Rattle.cc_tree.specs.declared.declarations.Member.{Member}
use Rattle.cc_tree.specs.declared.declarations.Member.TheVariants as member
use Rattle.cc_tables.specs.Tables.{signature, methods, functions_of}
use Rattle.cc_types.specs.Elaboration.{main_of, number_of}
use Rattle.cc_source.proofs.RuleLaws.{not_empty, empty_before, empty_behind}
use Rattle.cc_source.proofs.TableLaws.{some_inside}

-- ---- tables of names

named_itself : (name : Name) → bytes_eq name name ≡ true
named_itself name = (bytes_eq-Decides name name).1 refl

kept_if : {V : Type 0} (b : Bool) (w : V) (x y : Option V) (v : V) → (x ≡ Some v → y ≡ Some v) → cond b (Some w) x ≡ Some v → cond b (Some w) y ≡ Some v
kept_if true w x y v f is = is
kept_if false w x y v f is = f is

entry_kept : {V : Type 0} (table more : Table V) (name : Name) (v : V) → entry table name ≡ Some v → entry (table ++ more) name ≡ Some v
entry_kept [] more name v is = absurd (none-some v is)
entry_kept (e ∷ table) more name v is =
    kept_if (bytes_eq name e.0) e.1 (entry table name) (entry (table ++ more) name) v (entry_kept table more name v) is

added_if : {V : Type 0} (b : Bool) (w : V) (x y : Option V) (v : V) → (is_some x ≡ false → y ≡ Some v) → is_some (cond b (Some w) x) ≡ false
    → cond b (Some w) y ≡ Some v
added_if true w x y v f is = absurd (true≢false is)
added_if false w x y v f is = f is

entry_added : {V : Type 0} (table : Table V) (name : Name) (v : V) → is_some (entry table name) ≡ false → entry (table ++ (name, v) ∷ []) name ≡ Some v
entry_added [] name v is = ap (λ b. cond b (Some v) None) (named_itself name)
entry_added (e ∷ table) name v is =
    added_if (bytes_eq name e.0) e.1 (entry table name) (entry (table ++ (name, v) ∷ []) name) v (entry_added table name v) is

kept_with : {V : Type 0} (b : Bool) (table : Table V) (d : Declared V) (name : Name) (v : V) → entry table name ≡ Some v
    → entry (cond b table (table ++ (d.name, d.value) ∷ [])) name ≡ Some v
kept_with true table d name v is = is
kept_with false table d name v is = entry_kept table ((d.name, d.value) ∷ []) name v is

once_kept : {V : Type 0} (table : Table V) (ds : List (Declared V)) (name : Name) (v : V) → entry table name ≡ Some v → entry (once table ds) name ≡ Some v
once_kept table [] name v is = is
once_kept table (d ∷ ds) name v is =
    once_kept (with_name table d) ds name v (kept_with (is_some (entry table d.name)) table d name v is)

new_name : (b : Bool) (line : ℕ) → cond b (Rule NameTwice line ∷ []) [] ≡ [] → b ≡ false
new_name true line none = absurd (not_empty (Rule NameTwice line) [] none)
new_name false line none = refl

added_with : {V : Type 0} (b : Bool) (table : Table V) (d : Declared V) → b ≡ false → is_some (entry table d.name) ≡ false
    → entry (cond b table (table ++ (d.name, d.value) ∷ [])) d.name ≡ Some d.value
added_with true table d is new = absurd (true≢false is)
added_with false table d is new = entry_added table d.name d.value new

-- where no name stands twice, each stands for what it is declared as
pub stands_for : {V : Type 0} (table : Table V) (ds : List (Declared V)) (j : ℕ) (d : Declared V) → twice table ds ≡ [] → slice_get ds j ≡ Some d
    → entry (once table ds) d.name ≡ Some d.value
stands_for table [] j d none is = absurd (none-some d is)
stands_for table (x ∷ ds) zero d none is =
    let new = new_name (is_some (entry table x.name)) x.line (empty_before (again table x) (twice (with_name table x) ds) none) in
    subst (λ y. entry (once (with_name table x) ds) y.name ≡ Some y.value) (some_inside x d is)
    (once_kept (with_name table x) ds x.name x.value (added_with (is_some (entry table x.name)) table x new new))
stands_for table (x ∷ ds) (suc j) d none is =
    stands_for (with_name table x) ds j d (empty_behind (again table x) (twice (with_name table x) ds) none) is

-- ---- functions called main

-- a declaration of `main` as function i
pub record DeclaresMain (ds : List (Declared Entity)) (i : ℕ) : Type 0 where
  pub at : ℕ
  pub found : Declared Entity
  pub is : slice_get ds at ≡ Some found
  pub named : found.name ≡ codes "main"
  pub value : found.value ≡ entity.Function (record { 0 = i })

one_behind : (d : Declared Entity) (ds : List (Declared Entity)) (i : ℕ) → DeclaresMain ds i → DeclaresMain (d ∷ ds) i
one_behind d ds i m = record { at = suc m.at; found = m.found; is = m.is; named = m.named; value = m.value }

methods_are_none : (cx : Context) (ms : List Member) (i : ℕ) (g : Signature) → slice_get (methods cx ms) i ≡ Some g → g.is_main ≡ false
methods_are_none cx [] i g is = absurd (none-some g is)
methods_are_none cx (member.Field d ∷ ms) i g is = methods_are_none cx ms i g is
methods_are_none cx (member.Func f ∷ ms) zero g is = ap (λ x. x.is_main) (sym (some_inside (signature cx false f) g is))
methods_are_none cx (member.Func f ∷ ms) (suc i) g is = methods_are_none cx ms i g is
methods_are_none cx (member.Build name params body line ∷ ms) i g is = methods_are_none cx ms i g is

methods_after : (cx : Context) (f : ℕ) (ms : List Member) → after_methods f ms ≡ f + length (methods cx ms)
methods_after cx f [] = sym (add-zero f)
methods_after cx f (member.Field d ∷ ms) = methods_after cx f ms
methods_after cx f (member.Func x ∷ ms) =
    let rest : after_methods (f + 1) ms ≡ f + 1 + length (methods cx ms) = methods_after cx (f + 1) ms in omega (arith, rest)
methods_after cx f (member.Build name params body line ∷ ms) = methods_after cx f ms

-- an entry of two lists one behind the other is one of the first or of the second
in_either : {A : Type 0} (xs ys : List A) (i : ℕ) (x : A) → slice_get (xs ++ ys) i ≡ Some x
    → (slice_get xs i ≡ Some x) ⊎ ((j : ℕ) × (i ≡ length xs + j) × (slice_get ys j ≡ Some x))
in_either [] ys i x is = inr (i, sym (zero-add i), is)
in_either (y ∷ xs) ys zero x is = inl is
in_either (y ∷ xs) ys (suc i) x is = ⊎_elim (λ p. inl p)
    (λ p. let e : i ≡ length xs + p.0 = p.1 in inr (p.0, omega (arith, e), p.2)) (in_either xs ys i x is)

pub main_declared : (cx : Context) (k c f : ℕ) (xs : List Item) (i : ℕ) (g : Signature) → slice_get (functions_of cx xs) i ≡ Some g → g.is_main ≡ true
    → DeclaresMain (file_from k c f xs) (f + i)
main_declared cx k c f [] i g is main = absurd (none-some g is)
main_declared cx k c f (item.Const name value line ∷ xs) i g is main = one_behind _ _ (f + i) (main_declared cx (k + 1) c f xs i g is main)
main_declared cx k c f (item.Func x ∷ xs) zero g is main = record {
  at = 0;
  found = _;
  is = refl;
  named = (bytes_eq-Decides x.name (codes "main")).0 (ap (λ y. y.is_main) (some_inside (signature cx (bytes_eq x.name (codes "main")) x) g is) ∙ main);
  value = ap (λ n. entity.Function (record { 0 = n })) (sym (add-zero f));
}
main_declared cx k c f (item.Func x ∷ xs) (suc i) g is main =
    let same : f + 1 + i ≡ f + suc i = omega arith in
    one_behind _ _ (f + suc i) (subst (λ n. DeclaresMain (file_from k c (f + 1) xs) n) same (main_declared cx k c (f + 1) xs i g is main))
main_declared cx k c f (item.Class class ∷ xs) i g is main =
    ⊎_elim (λ p. absurd (true≢false (sym main ∙ methods_are_none cx class.members i g p)))
    (λ p. let after : after_methods f class.members ≡ f + length (methods cx class.members) = methods_after cx f class.members in
    let e : i ≡ length (methods cx class.members) + p.0 = p.1 in
    let same : after_methods f class.members + p.0 ≡ f + i = omega (arith, after, e) in
    one_behind _ _ (f + i) (subst (λ n. DeclaresMain (file_from k (c + 1) (after_methods f class.members) xs) n) same
    (main_declared cx k (c + 1) (after_methods f class.members) xs p.0 g p.2 main)))
    (in_either (methods cx class.members) (functions_of cx xs) i g is)

-- a function of an item behind some others
got_behind : {A : Type 0} (xs ys : List A) (i : ℕ) (x : A) → slice_get ys i ≡ Some x → slice_get (xs ++ ys) (length xs + i) ≡ Some x
got_behind [] ys i x is = ap (λ n. slice_get ys n) (zero-add i) ∙ is
got_behind (y ∷ xs) ys i x is = ap (λ n. slice_get (y ∷ xs ++ ys) n) (suc-add (length xs) i) ∙ got_behind xs ys i x is

or_false : (b : Bool) → (b || false) ≡ true → b ≡ true
or_false true any = refl
or_false false any = any

-- one of some functions is called main
pub record HasMain (functions : List Signature) : Type 0 where
  pub number : ℕ
  pub found : Signature
  pub is : slice_get functions number ≡ Some found
  pub main : found.is_main ≡ true

this_or_later : (gs : List Signature) (g : Signature) (later : Bool) → (later ≡ true → HasMain gs) → (g.is_main || later) ≡ true → HasMain (g ∷ gs)
this_or_later gs g true f any = let m = f refl in record { number = suc m.number; found = m.found; is = m.is; main = m.main }
this_or_later gs g false f any = record { number = 0; found = g; is = refl; main = or_false g.is_main any }

pub some_main : (cx : Context) (xs : List Item) → list_any is_main xs ≡ true → HasMain (functions_of cx xs)
some_main cx [] any = absurd (false≢true any)
some_main cx (item.Const name value line ∷ xs) any = some_main cx xs any
some_main cx (item.Class c ∷ xs) any =
    let m = some_main cx xs any in
    record {
      number = length (methods cx c.members) + m.number;
      found = m.found;
      is = got_behind (methods cx c.members) (functions_of cx xs) m.number m.found m.is;
      main = m.main;
    }
some_main cx (item.Func f ∷ xs) any =
    this_or_later (functions_of cx xs) (signature cx (bytes_eq f.name (codes "main")) f) (list_any is_main xs) (some_main cx xs) any

-- ---- the number of main

module _ (xs : List Item) (once_each : twice [] (file xs) ≡ []) (cx : Context) where
  -- a function that is called main has main's number
  pub main_has_its_number : (i : ℕ) (g : Signature) → slice_get (functions_of cx xs) i ≡ Some g → g.is_main ≡ true → main_of (names_of xs) ≡ i
  main_has_its_number i g is main =
      let m = main_declared cx 0 0 0 xs i g is main in
      let e : entry (once [] (file xs)) m.found.name ≡ Some m.found.value = stands_for [] (file xs) m.at m.found once_each m.is in
      let named : entry (once [] (file xs)) (codes "main") ≡ Some (entity.Function (record { 0 = 0 + i })) =
      ap (λ n. entry (once [] (file xs)) n) (sym m.named) ∙ (e ∙ ap (λ v. Some v) m.value) in
      ap (λ o. number_of (as_function o)) named ∙ zero-add i

  -- and none that is not
  pub other_number : list_any is_main xs ≡ true → (f : ℕ) (g : Signature) → slice_get (functions_of cx xs) f ≡ Some g → g.is_main ≡ false
      → f ≡ main_of (names_of xs) → ⊥
  other_number any f g is not_main same =
      let m = some_main cx xs any in
      let number : f ≡ m.number = same ∙ main_has_its_number m.number m.found m.is m.main in
      let got : Some m.found ≡ Some g = sym m.is ∙ (ap (λ n. slice_get (functions_of cx xs) n) (sym number) ∙ is) in
      true≢false (sym m.main ∙ (ap (λ x. x.is_main) (some_inside m.found g got) ∙ not_main))
