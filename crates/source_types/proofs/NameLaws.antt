-- A name of the file that stands for a function stands for one that has no object.
use Rattle.std.proofs.Common.{◌≡◌, ℕ, zero, suc, ◌+◌, Bool, true, false, cond, List, [], ◌∷◌, ◌++◌, length, Option, Some, None, refl, sym, ap, ◌∙◌, arith, append_assoc, length-append, ◌⊎◌, inl, inr, ⊎_elim}
use Rattle.std.specs.Prelude.{slice_get, get_or, is_some, bytes_eq, codes}
use Rattle.std.proofs.lemmas.Option.{none-some}
use Rattle.cc_names.specs.Declarations.{after_methods, file_from, file}
use Rattle.cc_names.specs.Names.{names_of, entity_named}
use Rattle.cc_names.specs.Table.{Name, Table, Declared, entry, with_name, once}
use Rattle.cc_names.specs.declared.declarations.Entity.{Entity}
use Rattle.cc_names.specs.declared.declarations.Entity.TheVariants as entity
use Rattle.cc_names.specs.declared.declarations.FunId.{FunId}
use Rattle.cc_scopes.specs.Scope.{Context}
use Rattle.cc_tables.specs.Tables.{signature, methods}
use Rattle.cc_tree.specs.declared.declarations.Item.{Item}
use Rattle.cc_tree.specs.declared.declarations.Item.TheVariants as item
use Rattle.core_types.specs.Types.{FunctionTypes, no_function}
use Rattle.source_types.proofs.TypeTables.{types_by, method_types, typed_functions, in_second, methods_after, methods_typed, some_inside}

-- ---- what a name stands for is declared

abbrev pub IsDeclared : {V : Type 0} → List (Declared V) → V → Type 0
IsDeclared ds v = (j : ℕ) × (d : Declared _) × (slice_get ds j ≡ Some d) × (d.value ≡ v)

first_or_later : {V : Type 0} (b : Bool) (w : V) (x y : Option V) (v : V) (P : Type 0) → (y ≡ Some v → (x ≡ Some v) ⊎ P) → cond b (Some w) y ≡ Some v
    → (cond b (Some w) x ≡ Some v) ⊎ P
first_or_later true w x y v P f is = inl is
first_or_later false w x y v P f is = f is

the_last : {V : Type 0} (b : Bool) (w v : V) → cond b (Some w) None ≡ Some v → (None ≡ Some v) ⊎ (w ≡ v)
the_last true w v is = inr (some_inside w v is)
the_last false w v is = absurd (none-some v is)

entry_added : {V : Type 0} (table : Table V) (e : Name × V) (name : Name) (v : V) → entry (table ++ e ∷ []) name ≡ Some v → (entry table name ≡ Some v) ⊎ (e.1 ≡ v)
entry_added [] e name v is = the_last (bytes_eq name e.0) e.1 v is
entry_added (x ∷ table) e name v is =
    first_or_later (bytes_eq name x.0) x.1 (entry table name) (entry (table ++ e ∷ []) name) v (e.1 ≡ v) (entry_added table e name v) is

with_declared : {V : Type 0} (b : Bool) (table : Table V) (d : Declared V) (name : Name) (v : V)
    → entry (cond b table (table ++ (d.name, d.value) ∷ [])) name ≡ Some v → (entry table name ≡ Some v) ⊎ (d.value ≡ v)
with_declared true table d name v is = inl is
with_declared false table d name v is = entry_added table (d.name, d.value) name v is

one_behind : {V : Type 0} (d : Declared V) (ds : List (Declared V)) (v : V) → IsDeclared ds v → IsDeclared (d ∷ ds) v
one_behind d ds v q = (suc q.0, q.1, q.2, q.3)

once_declared : {V : Type 0} (table : Table V) (ds : List (Declared V)) (name : Name) (v : V) → entry (once table ds) name ≡ Some v
    → (entry table name ≡ Some v) ⊎ IsDeclared ds v
once_declared table [] name v is = inl is
once_declared table (d ∷ ds) name v is = ⊎_elim
    (λ p. ⊎_elim (λ a. inl a) (λ a. inr (0, d, refl, a)) (with_declared (is_some (entry table d.name)) table d name v p))
    (λ q. inr (one_behind d ds v q)) (once_declared (with_name table d) ds name v is)

-- ---- the functions of a file

abbrev function_in : Entity → Option ℕ
function_in (entity.Function f) = Some f.0
function_in (entity.Class c) = None
function_in (entity.Constant k) = None

no_function_here : (f : FunId) (e x : Entity) → e ≡ x → x ≡ entity.Function f → function_in e ≡ None → ⊥
no_function_here f e x same is none = none-some f.0 (sym none ∙ ap function_in (same ∙ is))

module _ (cx : Context) where
  file_functions : (k c f : ℕ) (xs : List Item) (front : List FunctionTypes) → length front ≡ f → (j : ℕ) (d : Declared Entity) (n : FunId)
      → slice_get (file_from k c f xs) j ≡ Some d → d.value ≡ entity.Function n
      → (get_or (front ++ typed_functions cx c xs) n.0 no_function).this ≡ None
  file_functions k c f [] front is j d n got value = absurd (none-some d got)
  file_functions k c f (item.Const name v line ∷ xs) front is zero d n got value =
      absurd (no_function_here n (entity.Constant k) d.value (ap (λ (z : Declared Entity). z.value) (some_inside _ d got)) value refl)
  file_functions k c f (item.Const name v line ∷ xs) front is (suc j) d n got value = file_functions (k + 1) c f xs front is j d n got value
  file_functions k c f (item.Class class ∷ xs) front is zero d n got value =
      absurd (no_function_here n (entity.Class (record { 0 = c })) d.value (ap (λ (z : Declared Entity). z.value) (some_inside _ d got)) value refl)
  file_functions k c f (item.Class class ∷ xs) front is (suc j) d n got value =
      let ms = methods cx class.members in
      let ts = method_types c ms in
      let l : length (front ++ ts) ≡ length front + length ts = length-append front ts in
      let same : length ts ≡ length ms = methods_typed c ms in
      let after : after_methods f class.members ≡ f + length ms = methods_after cx f class.members in
      ap (λ zs. (get_or zs n.0 no_function).this) (sym (append_assoc front ts (typed_functions cx (c + 1) xs)))
      ∙ file_functions k (c + 1) (after_methods f class.members) xs (front ++ ts) (omega (arith, l, same, after, is)) j d n got value
  file_functions k c f (item.Func g ∷ xs) front is zero d n got value =
      let t = types_by None (signature cx (bytes_eq g.name (codes "main")) g) in
      let number : Some f ≡ Some n.0 = ap (λ (z : Declared Entity). function_in z.value) (some_inside _ d got) ∙ ap function_in value in
      let e : f ≡ n.0 = some_inside f n.0 number in
      ap (λ (z : FunctionTypes). z.this) (in_second front (t ∷ typed_functions cx c xs) n.0 0 no_function (omega (arith, e, is)))
  file_functions k c f (item.Func g ∷ xs) front is (suc j) d n got value =
      let t = types_by None (signature cx (bytes_eq g.name (codes "main")) g) in
      let l : length (front ++ t ∷ []) ≡ length front + 1 = length-append front (t ∷ []) in
      ap (λ zs. (get_or zs n.0 no_function).this) (sym (append_assoc front (t ∷ []) (typed_functions cx c xs)))
      ∙ file_functions k c (f + 1) xs (front ++ t ∷ []) (omega (arith, l, is)) j d n got value

  pub named_alone : (xs : List Item) (text : Name) (n : FunId) → entity_named (names_of xs) text ≡ Some (entity.Function n)
      → (get_or (typed_functions cx 0 xs) n.0 no_function).this ≡ None
  named_alone xs text n is = ⊎_elim (λ p. absurd (none-some _ p)) (λ q. file_functions 0 0 0 xs [] refl q.0 q.1 n q.2 q.3)
      (once_declared [] (file xs) text (entity.Function n) is)
