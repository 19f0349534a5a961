-- The tables of a program have the shapes of its core.
use Rattle.std.proofs.Common.{◌≡◌, ℕ, zero, suc, ◌+◌, ◌<◌, List, [], ◌∷◌, length, map, Option, Some, None, refl, sym, ap, subst, ◌∙◌, arith}
use Rattle.std.proofs.lemmas.List.{length-map}
use Rattle.std.specs.Prelude.{slice_get, get_or}
use Rattle.std.proofs.lemmas.Option.{none-some}
use Rattle.cc_ops.specs.Classes.{arity}
use Rattle.cc_core.specs.Core.{Shapes, no_shape, no_class}
use Rattle.cc_names.specs.Declarations.{after_methods}
use Rattle.cc_names.specs.Names.{NameTables}
use Rattle.cc_scopes.specs.declared.tables.Class.{Class}
use Rattle.cc_scopes.specs.declared.tables.Member.{Member as Entry}
use Rattle.cc_scopes.specs.declared.tables.Member.TheVariants as entry
use Rattle.cc_scopes.specs.declared.tables.Signature.{Signature}
use Rattle.cc_scopes.specs.declared.tables.Tables.{Tables}
use Rattle.cc_scopes.specs.Elab.{nothing_yet}
use Rattle.cc_scopes.specs.Scope.{Context}
use Rattle.cc_tree.specs.declared.declarations.Item.{Item}
use Rattle.cc_tree.specs.declared.declarations.Item.TheVariants as item
use Rattle.cc_tree.specs.declared.declarations.Member.{Member}
use Rattle.cc_tree.specs.declared.declarations.Member.TheVariants as member
use Rattle.cc_tree.specs.declared.statements.Decl.{Decl}
use Rattle.cc_declared.specs.Slots.{field}
use Rattle.cc_tables.specs.Tables.{constants_alone, outside, width, field_of, members_from, class_of, classes_from, functions_of, constants_of, constants_from, tables_of}
use Rattle.cc_source.proofs.Sound.{MemberHasCells, MembersHaveCells, Agree, itself}
use Rattle.cc_source.proofs.DeclaredLaws.{DeclaredFits, field_runs}
use Rattle.cc_source.proofs.CountLaws.{function_counts, first_counts, functions_counted, classes_counted}

-- ---- entries of lists

pub got_below : {A : Type 0} (xs : List A) (k : ℕ) (x : A) → slice_get xs k ≡ Some x → k < length xs
got_below [] k x is = absurd (none-some x is)
got_below (y ∷ xs) zero x is = omega arith
got_below (y ∷ xs) (suc k) x is = let rest : k < length xs = got_below xs k x is in omega (arith, rest)

pub some_inside : {A : Type 0} (x y : A) → Some x ≡ Some y → x ≡ y
some_inside {A = A} x y is = ap (λ o. elim o as (λ z. A) [ None ↦ x | Some z ↦ z ]) is

pub got_mapped : {A : Type 0} (f : A → ℕ) (xs : List A) (k : ℕ) (x : A) → slice_get xs k ≡ Some x → get_or (map f xs) k 0 ≡ f x
got_mapped f [] k x is = absurd (none-some x is)
got_mapped f (y ∷ xs) zero x is = ap f (some_inside y x is)
got_mapped f (y ∷ xs) (suc k) x is = got_mapped f xs k x is

pub mapped_or : {A : Type 0} (f : A → ℕ) (xs : List A) (k : ℕ) (d : A) → k < length xs → get_or (map f xs) k 0 ≡ f (get_or xs k d)
mapped_or f [] k d lt = let e : k < 0 = lt in absurd (omega arith)
mapped_or f (y ∷ xs) zero d lt = refl
mapped_or f (y ∷ xs) (suc k) d lt = mapped_or f xs k d (omega arith)

pub same_length : {A B : Type 0} (f : A → ℕ) (g : B → ℕ) (xs : List A) (ys : List B) → map f xs ≡ map g ys → length xs ≡ length ys
same_length f g xs ys is = sym (length-map xs f) ∙ (ap (λ ks. length ks) is ∙ length-map ys g)

-- ---- members of classes

constants_agree : (h : Shapes) (cs : List (Option _)) → Agree h (constants_alone cs)
constants_agree h cs = record {
  functions = λ f g is. absurd (none-some g is);
  classes = λ c k is. absurd (none-some k is);
  members = λ c k is. absurd (none-some k is);
}

module _ (h : Shapes) where
  field_has_cells : (cx : Context) → Agree h cx.tables → (d : Decl) → DeclaredFits (field_of cx d)
  field_has_cells cx agree d =
      let last = (field cx d nothing_yet).1 in (((field_runs h last cx d {P = Unit {0}}).run nothing_yet (itself last)).1 tt (tt, agree)).1

  members_have_cells : (cx : Context) → Agree h cx.tables → (cells f : ℕ) (ms : List Member) (i : ℕ) (m : Entry)
      → slice_get (members_from cx cells f ms) i ≡ Some m → MemberHasCells m
  members_have_cells cx agree cells f [] i m is = absurd (none-some m is)
  members_have_cells cx agree cells f (member.Field d ∷ ms) zero m is =
      subst MemberHasCells (some_inside (entry.Field (field_of cx d) cells) m is) (field_has_cells cx agree d)
  members_have_cells cx agree cells f (member.Field d ∷ ms) (suc i) m is =
      members_have_cells cx agree (cells + width (field_of cx d).shape) f ms i m is
  members_have_cells cx agree cells f (member.Func function ∷ ms) zero m is =
      subst MemberHasCells (some_inside (entry.Method (record { 0 = f })) m is) tt
  members_have_cells cx agree cells f (member.Func function ∷ ms) (suc i) m is = members_have_cells cx agree cells (f + 1) ms i m is
  members_have_cells cx agree cells f (member.Build name params body line ∷ ms) i m is = members_have_cells cx agree cells f ms i m is

  classes_have_cells : (names : NameTables) (tables : Tables) → Agree h tables → (k c f : ℕ) (xs : List Item) (i : ℕ) (class : Class)
      → slice_get (classes_from names tables k c f xs) i ≡ Some class → MembersHaveCells class
  classes_have_cells names tables agree k c f [] i class is = absurd (none-some class is)
  classes_have_cells names tables agree k c f (item.Const name value line ∷ xs) i class is =
      classes_have_cells names tables agree (k + 1) c f xs i class is
  classes_have_cells names tables agree k c f (item.Class x ∷ xs) zero class is =
      let cx = outside names tables k (Some (record { 0 = c })) x.line in
      subst MembersHaveCells (some_inside (class_of cx f x) class is) (λ i m got. members_have_cells cx agree 0 f x.members i m got)
  classes_have_cells names tables agree k c f (item.Class x ∷ xs) (suc i) class is =
      classes_have_cells names tables agree k (c + 1) (after_methods f x.members) xs i class is
  classes_have_cells names tables agree k c f (item.Func function ∷ xs) i class is =
      classes_have_cells names tables agree k c (f + 1) xs i class is

  -- ---- the tables of a program

  pub tables_agree : (names : NameTables) (xs : List Item)
      → map (λ s. arity s.params) h.functions ≡ function_counts xs → map (λ c. c.params) h.classes ≡ first_counts xs
      → Agree h (tables_of names xs)
  unfolding tables_of
  tables_agree names xs functions classes =
      let constants = constants_of names xs in
      let agree = constants_agree h (constants_from names [] xs) in
      let signatures = functions_of (outside names constants 0 None 0) xs in
      let kinds = classes_from names constants 0 0 0 xs in
      let counted = functions_counted (outside names constants 0 None 0) xs in
      let made = classes_counted names constants 0 0 0 xs in
      record {
        functions = λ f g is.
            let below : f < length signatures = got_below signatures f g is in
            let same : length h.functions ≡ length signatures = same_length _ _ h.functions signatures (functions ∙ sym counted) in
            let lt : f < length h.functions = omega (arith, below, same) in (
              lt,
              sym (mapped_or (λ s. arity s.params) h.functions f no_shape lt)
                  ∙ (ap (λ ks. get_or ks f 0) (functions ∙ sym counted) ∙ got_mapped (λ (g : Signature). length g.params) signatures f g is),
            );
        classes = λ c k is.
            let below : c < length kinds = got_below kinds c k is in
            let same : length h.classes ≡ length kinds = same_length _ _ h.classes kinds (classes ∙ sym made) in
            let lt : c < length h.classes = omega (arith, below, same) in (
              lt,
              sym (mapped_or (λ c. c.params) h.classes c no_class lt)
                  ∙ (ap (λ ks. get_or ks c 0) (classes ∙ sym made) ∙ got_mapped (λ (k : Class). length k.constructor) kinds c k is),
            );
        members = λ c k is. classes_have_cells names constants agree 0 0 0 xs c k is;
      }
