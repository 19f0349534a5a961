-- The types that the tables of a program give: of each function its object's class, its result and its parameters; of each class its cells
-- and what its constructor takes. The lists of variables are put in from outside.
use Rattle.std.proofs.Common.{◌≡◌, ℕ, zero, suc, ◌+◌, ◌-◌, ◌*◌, ◌<◌, ◌≤◌, Bool, true, false, List, [], ◌∷◌, ◌++◌, length, map, replicate, Option, Some, None, refl, sym, ap, subst, ◌∙◌, arith, zero-add, add-zero, append_assoc, length-append, ◌⊎◌, inl, inr, ⊎_elim}
use Rattle.std.proofs.lemmas.Bool.{false≢true}
use Rattle.std.specs.Prelude.{slice_get, get_or, bytes_eq, codes}
use Rattle.std.proofs.lemmas.Option.{none-some}
use Rattle.core_types.specs.Types.{AnInt, Target, CellType, Holds, FunctionTypes, ClassTypes, Types, no_function, no_class, class_types, member, AllCross}
use Rattle.cc_names.specs.Declarations.{after_methods}
use Rattle.cc_names.specs.Names.{NameTables}
use Rattle.cc_names.specs.declared.declarations.FunId.{FunId}
use Rattle.core_types.specs.Programs.{AreRuns}
use Rattle.cc_ops.specs.Classes.{size}
use Rattle.cc_ops.specs.Values.{last_offset}
use Rattle.cc_scopes.specs.declared.tables.Class.{Class}
use Rattle.cc_scopes.specs.declared.tables.Member.{Member as Entry}
use Rattle.cc_scopes.specs.declared.tables.Member.TheVariants as entry
use Rattle.cc_scopes.specs.declared.tables.Signature.{Signature}
use Rattle.cc_scopes.specs.declared.tables.Tables.{Tables}
use Rattle.cc_scopes.specs.declared.types.Declared.{Declared}
use Rattle.cc_scopes.specs.declared.types.Shape.{Shape}
use Rattle.cc_scopes.specs.declared.types.Shape.TheVariants as shape
use Rattle.cc_scopes.specs.Scope.{Context}
use Rattle.cc_tables.specs.Tables.{outside, width, field_of, members_from, class_of, classes_from, signature, methods, functions_of, constants_of, tables_of}
use Rattle.cc_tree.specs.declared.declarations.Item.{Item}
use Rattle.cc_tree.specs.declared.declarations.Item.TheVariants as item
use Rattle.cc_tree.specs.declared.declarations.Member.{Member}
use Rattle.cc_tree.specs.declared.declarations.Member.TheVariants as member
use Rattle.cc_functions.specs.Items.{run_of, one_int, filled_runs}
use Rattle.cc_elaboration.specs.Declarations.{cells}
use Rattle.source_types.specs.TypesOf.{value_type, FieldBy, IsCellType, IsResultType, AllCellTypes, MemberFits}
use Rattle.source_types.specs.Reading.{SignatureFits, MakerFits, Matches}
use Rattle.source_types.proofs.DeclarationLaws.{kind_sync, kind_is}

-- ---- functions

-- of a function of the class of a number, or of none
abbrev pub types_by : Option ℕ → Signature → FunctionTypes
types_by this g = record { this = this; result = value_type g.result; params = map value_type g.params; vars = []; waits = false }

abbrev pub method_types : ℕ → List Signature → List FunctionTypes
method_types c [] = []
method_types c (g ∷ gs) = types_by (Some c) g ∷ method_types c gs

-- after so many classes
abbrev pub typed_functions : Context → (classes : ℕ) → List Item → List FunctionTypes
typed_functions cx c [] = []
typed_functions cx c (item.Const name value line ∷ xs) = typed_functions cx c xs
typed_functions cx c (item.Class class ∷ xs) = method_types c (methods cx class.members) ++ typed_functions cx (c + 1) xs
typed_functions cx c (item.Func f ∷ xs) = types_by None (signature cx (bytes_eq f.name (codes "main")) f) ∷ typed_functions cx c xs

abbrev pub with_vars : List FunctionTypes → List (List Target) → List FunctionTypes
with_vars [] vss = []
with_vars (t ∷ ts) [] = t ∷ ts
with_vars (t ∷ ts) (vs ∷ vss) = record t { vars = vs } ∷ with_vars ts vss

-- ---- classes

abbrev pub cell_of : Declared → CellType
cell_of d = Holds d.sync (value_type d.ty)

-- the cells of a field
abbrev pub field_cells : Declared → List CellType
field_cells d = replicate (width d.shape) (cell_of d)

abbrev pub entry_cells : List Entry → List CellType
entry_cells [] = []
entry_cells (entry.Field d offset ∷ ms) = field_cells d ++ entry_cells ms
entry_cells (entry.Method f ∷ ms) = entry_cells ms

-- an object of a class without fields has a cell for an int
abbrev pub filled_cells : List CellType → List CellType
filled_cells [] = Holds false AnInt ∷ []
filled_cells (a ∷ more) = a ∷ more

abbrev pub types_of_class : Class → ClassTypes
types_of_class k = record { cells = filled_cells (entry_cells k.members); params = map value_type k.constructor }

-- ---- all

abbrev pub with_marks : List FunctionTypes → List Bool → List FunctionTypes
with_marks [] marks = []
with_marks (t ∷ ts) [] = t ∷ ts
with_marks (t ∷ ts) (mark ∷ marks) = record t { waits = mark } ∷ with_marks ts marks

-- marks: the functions that may wait
unfoldable pub types_of : NameTables → List Item → List (List Target) → List Bool → Types
types_of names xs vss marks = record {
  functions = with_marks (with_vars (typed_functions (outside names (constants_of names xs) 0 None 0) 0 xs) vss) marks;
  classes = map types_of_class (tables_of names xs).classes;
}

-- ---- entries of lists

pub some_inside : {A : Type 0} (x y : A) → Some x ≡ Some y → x ≡ y
some_inside {A = A} x y is = ap (λ o. elim o as (λ z. A) [ None ↦ x | Some z ↦ z ]) is

pub mapped_at : {A B : Type 0} (f : A → B) (xs : List A) (k : ℕ) (x : A) (d : B) → slice_get xs k ≡ Some x → get_or (map f xs) k d ≡ f x
mapped_at f [] k x d is = absurd (none-some x is)
mapped_at f (y ∷ xs) zero x d is = ap f (some_inside y x is)
mapped_at f (y ∷ xs) (suc k) x d is = mapped_at f xs k x d is

-- what is said of a function's types without its variables
pub record SaysOf (this : Option ℕ) (g : Signature) (t : FunctionTypes) : Type 0 where
  pub this_is : t.this ≡ this
  pub result_is : t.result ≡ value_type g.result
  pub params_are : t.params ≡ map value_type g.params

pub vars_apart : (ts : List FunctionTypes) (vss : List (List Target)) (f : ℕ) (this : Option ℕ) (g : Signature) → SaysOf this g (get_or ts f no_function)
    → SaysOf this g (get_or (with_vars ts vss) f no_function)
vars_apart [] vss f this g p = p
vars_apart (t ∷ ts) [] f this g p = p
vars_apart (t ∷ ts) (vs ∷ vss) zero this g p = record { this_is = p.this_is; result_is = p.result_is; params_are = p.params_are }
vars_apart (t ∷ ts) (vs ∷ vss) (suc f) this g p = vars_apart ts vss f this g p

pub this_kept : (ts : List FunctionTypes) (vss : List (List Target)) (f : ℕ) (this : Option ℕ) → (get_or ts f no_function).this ≡ this
    → (get_or (with_vars ts vss) f no_function).this ≡ this
this_kept [] vss f this is = is
this_kept (t ∷ ts) [] f this is = is
this_kept (t ∷ ts) (vs ∷ vss) zero this is = is
this_kept (t ∷ ts) (vs ∷ vss) (suc f) this is = this_kept ts vss f this is

pub marks_apart : (ts : List FunctionTypes) (marks : List Bool) (f : ℕ) (this : Option ℕ) (g : Signature) → SaysOf this g (get_or ts f no_function)
    → SaysOf this g (get_or (with_marks ts marks) f no_function)
marks_apart [] marks f this g p = p
marks_apart (t ∷ ts) [] f this g p = p
marks_apart (t ∷ ts) (mark ∷ marks) zero this g p = record { this_is = p.this_is; result_is = p.result_is; params_are = p.params_are }
marks_apart (t ∷ ts) (mark ∷ marks) (suc f) this g p = marks_apart ts marks f this g p

pub this_marked : (ts : List FunctionTypes) (marks : List Bool) (f : ℕ) (this : Option ℕ) → (get_or ts f no_function).this ≡ this
    → (get_or (with_marks ts marks) f no_function).this ≡ this
this_marked [] marks f this is = is
this_marked (t ∷ ts) [] f this is = is
this_marked (t ∷ ts) (mark ∷ marks) zero this is = is
this_marked (t ∷ ts) (mark ∷ marks) (suc f) this is = this_marked ts marks f this is

method_says : (c : ℕ) (gs : List Signature) (i : ℕ) (g : Signature) → slice_get gs i ≡ Some g → SaysOf (Some c) g (get_or (method_types c gs) i no_function)
method_says c [] i g is = absurd (none-some g is)
method_says c (x ∷ gs) zero g is =
    subst (λ z. SaysOf (Some c) z (types_by (Some c) x)) (some_inside x g is) (record { this_is = refl; result_is = refl; params_are = refl })
method_says c (x ∷ gs) (suc i) g is = method_says c gs i g is

pub methods_typed : (c : ℕ) (gs : List Signature) → length (method_types c gs) ≡ length gs
methods_typed c [] = refl
methods_typed c (g ∷ gs) = ap suc (methods_typed c gs)

-- an entry of the first of two lists, and of the second
pub in_first : {A : Type 0} (xs ys : List A) (i : ℕ) (d : A) → i < length xs → get_or (xs ++ ys) i d ≡ get_or xs i d
in_first [] ys i d lt = let e : i < 0 = lt in absurd (omega arith)
in_first (x ∷ xs) ys zero d lt = refl
in_first (x ∷ xs) ys (suc i) d lt = in_first xs ys i d (omega arith)

pub in_second : {A : Type 0} (xs ys : List A) (i j : ℕ) (d : A) → i ≡ length xs + j → get_or (xs ++ ys) i d ≡ get_or ys j d
in_second [] ys i j d is = ap (λ n. get_or ys n d) (is ∙ zero-add j)
in_second (x ∷ xs) ys zero j d is = let e : 0 ≡ suc (length xs) + j = is in absurd (omega (arith, e))
in_second (x ∷ xs) ys (suc i) j d is = let e : suc i ≡ suc (length xs) + j = is in in_second xs ys i j d (omega (arith, e))

pub got_below : {A : Type 0} (xs : List A) (k : ℕ) (x : A) → slice_get xs k ≡ Some x → k < length xs
got_below [] k x is = absurd (none-some x is)
got_below (y ∷ xs) zero x is = omega arith
got_below (y ∷ xs) (suc k) x is = let rest : k < length xs = got_below xs k x is in omega (arith, rest)

in_either : {A : Type 0} (xs ys : List A) (i : ℕ) (x : A) → slice_get (xs ++ ys) i ≡ Some x
    → (slice_get xs i ≡ Some x) ⊎ ((j : ℕ) × (i ≡ length xs + j) × (slice_get ys j ≡ Some x))
in_either [] ys i x is = inr (i, sym (zero-add i), is)
in_either (y ∷ xs) ys zero x is = inl is
in_either (y ∷ xs) ys (suc i) x is = ⊎_elim (λ p. inl p)
    (λ p. let e : i ≡ length xs + p.0 = p.1 in inr (p.0, omega (arith, e), p.2)) (in_either xs ys i x is)

-- each function of the tables, whatever class it is of
pub function_says : (cx : Context) (c : ℕ) (xs : List Item) (f : ℕ) (g : Signature) → slice_get (functions_of cx xs) f ≡ Some g
    → (this : Option ℕ) × SaysOf this g (get_or (typed_functions cx c xs) f no_function)
function_says cx c [] f g is = absurd (none-some g is)
function_says cx c (item.Const name value line ∷ xs) f g is = function_says cx c xs f g is
function_says cx c (item.Func x ∷ xs) zero g is = (
  None,
  subst (λ z. SaysOf None z (types_by None (signature cx (bytes_eq x.name (codes "main")) x)))
      (some_inside (signature cx (bytes_eq x.name (codes "main")) x) g is) (record { this_is = refl; result_is = refl; params_are = refl }),
)
function_says cx c (item.Func x ∷ xs) (suc f) g is = function_says cx c xs f g is
function_says cx c (item.Class class ∷ xs) f g is =
    let ms = methods cx class.members in
    let ts = method_types c ms in
    let rest = typed_functions cx (c + 1) xs in
    let same : length ts ≡ length ms = methods_typed c ms in
    ⊎_elim (λ p. let lt : f < length ms = got_below ms f g p in
    (Some c, subst (λ t. SaysOf (Some c) g t) (sym (in_first ts rest f no_function (omega (arith, lt, same)))) (method_says c ms f g p)))
    (λ p. let q = function_says cx (c + 1) xs p.0 g p.2 in
    let e : f ≡ length ms + p.0 = p.1 in
    (q.0, subst (λ t. SaysOf q.0 g t) (sym (in_second ts rest f p.0 no_function (omega (arith, e, same)))) q.1))
    (in_either ms (functions_of cx xs) f g is)

-- ---- members

pub methods_after : (cx : Context) (f : ℕ) (ms : List Member) → after_methods f ms ≡ f + length (methods cx ms)
methods_after cx f [] = sym (add-zero f)
methods_after cx f (member.Field d ∷ ms) = methods_after cx f ms
methods_after cx f (member.Func x ∷ ms) =
    let rest : after_methods (f + 1) ms ≡ f + 1 + length (methods cx ms) = methods_after cx (f + 1) ms in omega (arith, rest)
methods_after cx f (member.Build name params body line ∷ ms) = methods_after cx f ms

is_method : Entry → Bool
is_method (entry.Field d offset) = false
is_method (entry.Method x) = true

number_of : Entry → ℕ
number_of (entry.Field d offset) = 0
number_of (entry.Method x) = x.0

field_no_method : (d : Declared) (o : ℕ) (x : FunId) → entry.Field d o ≡ entry.Method x → ⊥
unfolding is_method
field_no_method d o x is = false≢true (ap is_method is)

-- a function among the members of class c, which is function f + j of the program
method_number : (cx here : Context) (cells f : ℕ) (ms : List Member) (i : ℕ) (x : FunId) → slice_get (members_from here cells f ms) i ≡ Some (entry.Method x)
    → (j : ℕ) × (x.0 ≡ f + j) × (j < length (methods cx ms))
unfolding number_of
method_number cx here cells f [] i x is = absurd (none-some _ is)
method_number cx here cells f (member.Field d ∷ ms) zero x is = absurd (field_no_method _ _ x (some_inside _ _ is))
method_number cx here cells f (member.Field d ∷ ms) (suc i) x is = method_number cx here (cells + width (field_of here d).shape) f ms i x is
method_number cx here cells f (member.Func g ∷ ms) zero x is =
    (0, sym (ap number_of (some_inside _ _ is)) ∙ sym (add-zero f), omega arith)
method_number cx here cells f (member.Func g ∷ ms) (suc i) x is =
    let q = method_number cx here cells (f + 1) ms i x is in
    let e : x.0 ≡ f + 1 + q.0 = q.1 in
    let lt : q.0 < length (methods cx ms) = q.2 in
    (suc q.0, omega (arith, e), omega (arith, lt))
method_number cx here cells f (member.Build name params body line ∷ ms) i x is = method_number cx here cells f ms i x is

method_this : (c : ℕ) (gs : List Signature) (j : ℕ) → j < length gs → (get_or (method_types c gs) j no_function).this ≡ Some c
method_this c [] j lt = let e : j < 0 = lt in absurd (omega arith)
method_this c (g ∷ gs) zero lt = refl
method_this c (g ∷ gs) (suc j) lt = method_this c gs j (omega arith)

-- the functions of a class, among all: behind `front`, which are those before
methods_this : (names : NameTables) (tables : Tables) (cx : Context) (k c f : ℕ) (xs : List Item) (front : List FunctionTypes) → length front ≡ f
    → (n : ℕ) (class : Class) (i : ℕ) (x : FunId) → slice_get (classes_from names tables k c f xs) n ≡ Some class → slice_get class.members i ≡ Some (entry.Method x)
    → (get_or (front ++ typed_functions cx c xs) x.0 no_function).this ≡ Some (c + n)
methods_this names tables cx k c f [] front is n class i x got has = absurd (none-some class got)
methods_this names tables cx k c f (item.Const name value line ∷ xs) front is n class i x got has =
    methods_this names tables cx (k + 1) c f xs front is n class i x got has
methods_this names tables cx k c f (item.Func g ∷ xs) front is n class i x got has =
    let t = types_by None (signature cx (bytes_eq g.name (codes "main")) g) in
    let l : length (front ++ t ∷ []) ≡ length front + 1 = length-append front (t ∷ []) in
    ap (λ ts. (get_or ts x.0 no_function).this) (sym (append_assoc front (t ∷ []) (typed_functions cx c xs)))
    ∙ methods_this names tables cx k c (f + 1) xs (front ++ t ∷ []) (omega (arith, l, is)) n class i x got has
methods_this names tables cx k c f (item.Class d ∷ xs) front is zero class i x got has =
    let here = outside names tables k (Some (record { 0 = c })) d.line in
    let ms = methods cx d.members in
    let rest = typed_functions cx (c + 1) xs in
    let inside : slice_get (members_from here 0 f d.members) i ≡ Some (entry.Method x) =
    subst (λ (z : Class). slice_get z.members i ≡ Some (entry.Method x)) (sym (some_inside (class_of here f d) class got)) has in
    let q = method_number cx here 0 f d.members i x inside in
    let e : x.0 ≡ f + q.0 = q.1 in
    let lt : q.0 < length ms = q.2 in
    let same : length (method_types c ms) ≡ length ms = methods_typed c ms in
    ap (λ (t : FunctionTypes). t.this) (in_second front (method_types c ms ++ rest) x.0 q.0 no_function (omega (arith, e, is)))
    ∙ (ap (λ (t : FunctionTypes). t.this) (in_first (method_types c ms) rest q.0 no_function (omega (arith, lt, same)))
    ∙ (method_this c ms q.0 lt ∙ ap (λ m. Some m) (sym (add-zero c))))
methods_this names tables cx k c f (item.Class d ∷ xs) front is (suc n) class i x got has =
    let ms = methods cx d.members in
    let ts = method_types c ms in
    let l : length (front ++ ts) ≡ length front + length ts = length-append front ts in
    let same : length ts ≡ length ms = methods_typed c ms in
    let after : after_methods f d.members ≡ f + length ms = methods_after cx f d.members in
    let sum : c + 1 + n ≡ c + suc n = omega arith in
    ap (λ ts. (get_or ts x.0 no_function).this) (sym (append_assoc front ts (typed_functions cx (c + 1) xs)))
    ∙ (methods_this names tables cx k (c + 1) (after_methods f d.members) xs (front ++ ts) (omega (arith, l, same, after, is)) n class i x got has
    ∙ ap (λ m. Some m) sum)

-- ---- fields

-- 1 to 65,536 cells, and no object
abbrev pub IsFieldShape : Shape → Type 0
IsFieldShape shape.Cell = Unit {0}
IsFieldShape (shape.Array n) = (1 ≤ n) × (n ≤ 65536)
IsFieldShape (shape.Object class) = ⊥

abbrev pub EntryKnown : Entry → Type 0
EntryKnown (entry.Field d offset) = IsCellType d.ty × IsFieldShape d.shape
EntryKnown (entry.Method f) = Unit {0}

abbrev pub EntriesKnown : List Entry → Type 0
EntriesKnown ms = (i : ℕ) (m : Entry) → slice_get ms i ≡ Some m → EntryKnown m

width_within : (s : Shape) → IsFieldShape s → (1 ≤ width s) × (width s ≤ 65536)
width_within shape.Cell p = (omega arith, omega arith)
width_within (shape.Array n) p = p
width_within (shape.Object class) p = absurd p

pub replicated : {A : Type 0} (n : ℕ) (a : A) → length (replicate n a) ≡ n
replicated zero a = refl
replicated (suc n) a = ap suc (replicated n a)

in_replicate : {A : Type 0} (n : ℕ) (a : A) (more : List A) (j : ℕ) → j < n → slice_get (replicate n a ++ more) j ≡ Some a
in_replicate zero a more j lt = let e : j < 0 = lt in absurd (omega arith)
in_replicate (suc n) a more zero lt = refl
in_replicate (suc n) a more (suc j) lt = in_replicate n a more j (omega arith)

got_behind : {A : Type 0} (xs ys : List A) (i j : ℕ) → i ≡ length xs + j → slice_get (xs ++ ys) i ≡ slice_get ys j
got_behind [] ys i j is = ap (λ n. slice_get ys n) (is ∙ zero-add j)
got_behind (x ∷ xs) ys zero j is = let e : 0 ≡ suc (length xs) + j = is in absurd (omega (arith, e))
got_behind (x ∷ xs) ys (suc i) j is = let e : suc i ≡ suc (length xs) + j = is in got_behind xs ys i j (omega (arith, e))

-- the cells of an entry stand in a list from its offset on
abbrev StandsIn : List CellType → Entry → Type 0
StandsIn ts (entry.Field d o) = (j : ℕ) → j < width d.shape → slice_get ts (o + j) ≡ Some (cell_of d)
StandsIn ts (entry.Method f) = Unit {0}

entry_stands : (here : Context) (cells f : ℕ) (ms : List Member) (front : List CellType) → length front ≡ cells → (i : ℕ) (m : Entry)
    → slice_get (members_from here cells f ms) i ≡ Some m → StandsIn (front ++ entry_cells (members_from here cells f ms)) m
entry_stands here cells f [] front is i m got = absurd (none-some m got)
entry_stands here cells f (member.Field d ∷ ms) front is zero m got =
    let t = field_of here d in
    let more = entry_cells (members_from here (cells + width t.shape) f ms) in
    let at : (j : ℕ) → j < width t.shape → slice_get (front ++ (field_cells t ++ more)) (cells + j) ≡ Some (cell_of t) =
    λ j lt. got_behind front (field_cells t ++ more) (cells + j) j (ap (λ n. n + j) (sym is)) ∙ in_replicate (width t.shape) (cell_of t) more j lt in
    subst (λ x. StandsIn (front ++ (field_cells t ++ more)) x) (some_inside (entry.Field t cells) m got) at
entry_stands here cells f (member.Field d ∷ ms) front is (suc i) m got =
    let t = field_of here d in
    let more = entry_cells (members_from here (cells + width t.shape) f ms) in
    let l : length (front ++ field_cells t) ≡ length front + length (field_cells t) = length-append front (field_cells t) in
    let w : length (field_cells t) ≡ width t.shape = replicated (width t.shape) (cell_of t) in
    subst (λ ts. StandsIn ts m) (append_assoc front (field_cells t) more)
    (entry_stands here (cells + width t.shape) f ms (front ++ field_cells t) (omega (arith, l, w, is)) i m got)
entry_stands here cells f (member.Func g ∷ ms) front is zero m got =
    subst (λ x. StandsIn (front ++ entry_cells (members_from here cells (f + 1) ms)) x) (some_inside (entry.Method (record { 0 = f })) m got) tt
entry_stands here cells f (member.Func g ∷ ms) front is (suc i) m got = entry_stands here cells (f + 1) ms front is i m got
entry_stands here cells f (member.Build name params body line ∷ ms) front is i m got = entry_stands here cells f ms front is i m got

few_cells : (ms : List Entry) → EntriesKnown ms → length (entry_cells ms) ≤ 65536 * length ms
few_cells [] known = omega arith
few_cells (entry.Field d o ∷ ms) known =
    let rest : length (entry_cells ms) ≤ 65536 * length ms = few_cells ms (λ i m got. known (suc i) m got) in
    let w : width d.shape ≤ 65536 = (width_within d.shape (known 0 (entry.Field d o) refl).1).1 in
    let l : length (field_cells d ++ entry_cells ms) ≡ length (field_cells d) + length (entry_cells ms) = length-append (field_cells d) (entry_cells ms) in
    let r : length (field_cells d) ≡ width d.shape = replicated (width d.shape) (cell_of d) in
    omega (arith, rest, w, l, r)
few_cells (entry.Method f ∷ ms) known =
    let rest : length (entry_cells ms) ≤ 65536 * length ms = few_cells ms (λ i m got. known (suc i) m got) in omega (arith, rest)

filled_kept : (ts : List CellType) (k : ℕ) (a : CellType) → slice_get ts k ≡ Some a → slice_get (filled_cells ts) k ≡ Some a
filled_kept [] k a got = absurd (none-some a got)
filled_kept (t ∷ ts) k a got = got

-- the members of each class stand at their offsets
pub members_stand : (names : NameTables) (tables : Tables) (k c f : ℕ) (xs : List Item) (n : ℕ) (class : Class) (i : ℕ) (m : Entry)
    → slice_get (classes_from names tables k c f xs) n ≡ Some class → slice_get class.members i ≡ Some m → StandsIn (entry_cells class.members) m
members_stand names tables k c f [] n class i m got has = absurd (none-some class got)
members_stand names tables k c f (item.Const name value line ∷ xs) n class i m got has = members_stand names tables (k + 1) c f xs n class i m got has
members_stand names tables k c f (item.Func g ∷ xs) n class i m got has = members_stand names tables k c (f + 1) xs n class i m got has
members_stand names tables k c f (item.Class d ∷ xs) zero class i m got has =
    let here = outside names tables k (Some (record { 0 = c })) d.line in
    let same = some_inside (class_of here f d) class got in
    let inside : slice_get (members_from here 0 f d.members) i ≡ Some m = subst (λ (z : Class). slice_get z.members i ≡ Some m) (sym same) has in
    subst (λ (z : Class). StandsIn (entry_cells z.members) m) same (entry_stands here 0 f d.members [] refl i m inside)
members_stand names tables k c f (item.Class d ∷ xs) (suc n) class i m got has =
    members_stand names tables k (c + 1) (after_methods f d.members) xs n class i m got has

-- ---- the types match the tables

-- what holds of the tables of a program that breaks no rule
pub record Known (t : Tables) : Type 0 where
  pub params : (f : ℕ) (g : Signature) → slice_get t.functions f ≡ Some g → AllCellTypes g.params
  pub results : (f : ℕ) (g : Signature) → slice_get t.functions f ≡ Some g → IsResultType g.result
  pub makers : (c : ℕ) (k : Class) → slice_get t.classes c ≡ Some k → AllCellTypes k.constructor
  pub crossing : (c : ℕ) (k : Class) → slice_get t.classes c ≡ Some k → k.remote ≡ true → AllCross (map value_type k.constructor)
  pub members : (c : ℕ) (k : Class) → slice_get t.classes c ≡ Some k → EntriesKnown k.members
  pub few : (c : ℕ) (k : Class) → slice_get t.classes c ≡ Some k → length k.members ≤ 256

module _ (y : Types) (c : ℕ) where
  field_by : (s : Shape) (d : Declared) (o total : ℕ) → IsFieldShape s → total ≤ last_offset
      → ((j : ℕ) → j < width s → (member y c (o + j) ≡ Some (cell_of d)) × (o + j < total)) → FieldBy y c s d o
  field_by shape.Cell d o total p few at =
      let q = at 0 (omega arith) in
      let lt : o + 0 < total = q.1 in
      (omega (arith, lt, few), ap (λ n. member y c n) (sym (add-zero o)) ∙ q.0)
  field_by (shape.Array n) d o total p few at =
      let some : 1 ≤ n = p.0 in
      let last : n - 1 < n = omega (arith, some) in
      let lt : o + (n - 1) < total = (at (n - 1) last).1 in
      (omega (arith, lt, few, some), λ j below. (at j below).0)
  field_by (shape.Object class) d o total p few at = absurd p

module _ (names : NameTables) (xs : List Item) (vss : List (List Target)) (marks : List Bool) (known : Known (tables_of names xs)) where
  abbrev Y : Types
  Y = types_of names xs vss marks

  signature_fits : (f : ℕ) (g : Signature) → slice_get (tables_of names xs).functions f ≡ Some g → SignatureFits Y f g
  unfolding types_of tables_of
  signature_fits f g got =
      let cx = outside names (constants_of names xs) 0 None 0 in
      let q = function_says cx 0 xs f g got in
      let s = marks_apart (with_vars (typed_functions cx 0 xs) vss) marks f q.0 g (vars_apart (typed_functions cx 0 xs) vss f q.0 g q.1) in
      record { params = s.params_are; result = s.result_is; cells = known.params f g got; gives = known.results f g got }

  pub class_is : (c : ℕ) (k : Class) → slice_get (tables_of names xs).classes c ≡ Some k → class_types Y c ≡ types_of_class k
  unfolding types_of
  class_is c k got = mapped_at types_of_class (tables_of names xs).classes c k no_class got

  maker_fits : (c : ℕ) (k : Class) → slice_get (tables_of names xs).classes c ≡ Some k → MakerFits Y c k
  maker_fits c k got = record {
    params = ap (λ (z : ClassTypes). z.params) (class_is c k got);
    cells = known.makers c k got;
    crossing = λ r. subst (λ (z : ClassTypes). AllCross z.params) (sym (class_is c k got)) (known.crossing c k got r);
  }

  entry_fits : (c : ℕ) (k : Class) → slice_get (tables_of names xs).classes c ≡ Some k → (i : ℕ) (m : Entry) → slice_get k.members i ≡ Some m
      → StandsIn (entry_cells k.members) m → MemberFits Y c m
  unfolding types_of tables_of
  entry_fits c k got i (entry.Field d o) has stands =
      let e = known.members c k got i (entry.Field d o) has in
      let few : length k.members ≤ 256 = known.few c k got in
      let within : length (entry_cells k.members) ≤ 65536 * length k.members = few_cells k.members (known.members c k got) in
      let total : length (entry_cells k.members) ≤ last_offset = omega (arith, few, within) in (
        e.0,
        field_by Y c d.shape d o (length (entry_cells k.members)) e.1 total (λ j lt. (
          ap (λ (z : ClassTypes). slice_get z.cells (o + j)) (class_is c k got) ∙ filled_kept (entry_cells k.members) (o + j) (cell_of d) (stands j lt),
          got_below (entry_cells k.members) (o + j) (cell_of d) (stands j lt),
        )),
      )
  entry_fits c k got i (entry.Method x) has stands =
      let cx = outside names (constants_of names xs) 0 None 0 in
      let this = methods_this names (constants_of names xs) cx 0 0 0 xs [] refl c k i x got has in
      this_marked (with_vars (typed_functions cx 0 xs) vss) marks x.0 (Some c)
      (this_kept (typed_functions cx 0 xs) vss x.0 (Some c) (this ∙ ap (λ n. Some n) (zero-add c)))

  pub matches : Matches Y (tables_of names xs)
  unfolding tables_of
  matches = record {
    functions = signature_fits;
    classes = maker_fits;
    members = λ c k got i m has. entry_fits c k got i m has (members_stand names (constants_of names xs) 0 0 0 xs c k i m got has);
  }

-- ---- the runs of a class

abbrev pub fields_of : List Entry → List Declared
fields_of [] = []
fields_of (entry.Field d o ∷ ms) = d ∷ fields_of ms
fields_of (entry.Method f ∷ ms) = fields_of ms

same_width : (s : Shape) → cells s ≡ width s
same_width shape.Cell = refl
same_width (shape.Array n) = refl
same_width (shape.Object class) = refl

module _ (y : Types) (c : ℕ) where
  runs_from : (ms : List Entry) (at : ℕ) (front : List CellType) → length front ≡ at → EntriesKnown ms → (class_types y c).cells ≡ front ++ entry_cells ms
      → AreRuns y c at (map run_of (fields_of ms))
  runs_from [] at front is known all = tt
  runs_from (entry.Method f ∷ ms) at front is known all = runs_from ms at front is (λ i m got. known (suc i) m got) all
  runs_from (entry.Field d o ∷ ms) at front is known all =
      let e = known 0 (entry.Field d o) refl in
      let more = entry_cells ms in
      let l : length (front ++ field_cells d) ≡ length front + length (field_cells d) = length-append front (field_cells d) in
      let w : length (field_cells d) ≡ width d.shape = replicated (width d.shape) (cell_of d) in
      let s : cells d.shape ≡ width d.shape = same_width d.shape in (
        λ j lt. (
          value_type d.ty,
          kind_is d.ty d.sync e.0,
          ap (λ ts. slice_get ts (at + j)) all
              ∙ (got_behind front (field_cells d ++ more) (at + j) j (ap (λ n. n + j) (sym is))
              ∙ (in_replicate (width d.shape) (cell_of d) more j (subst (λ n. j < n) s lt)
              ∙ ap (λ b. Some (Holds b (value_type d.ty))) (sym (kind_sync d.ty d.sync)))),
        ),
        runs_from ms (at + cells d.shape) (front ++ field_cells d) (omega (arith, l, w, is, s)) (λ i m got. known (suc i) m got)
            (all ∙ sym (append_assoc front (field_cells d) more)),
      )

filled_some : (n : ℕ) (a : CellType) (more : List CellType) → 1 ≤ n → filled_cells (replicate n a ++ more) ≡ replicate n a ++ more
filled_some zero a more some = let e : 1 ≤ 0 = some in absurd (omega arith)
filled_some (suc n) a more some = refl

-- a class has no field, or its fields fill it
some_or_none : (ms : List Entry) → EntriesKnown ms → ((fields_of ms ≡ []) × (entry_cells ms ≡ []))
    ⊎ ((filled_runs (map run_of (fields_of ms)) ≡ map run_of (fields_of ms)) × (filled_cells (entry_cells ms) ≡ entry_cells ms))
some_or_none [] known = inl (refl, refl)
some_or_none (entry.Method f ∷ ms) known = some_or_none ms (λ i m got. known (suc i) m got)
some_or_none (entry.Field d o ∷ ms) known =
    inr (refl, filled_some (width d.shape) (cell_of d) (entry_cells ms) (width_within d.shape (known 0 (entry.Field d o) refl).1).0)

module _ (y : Types) (c : ℕ) where
  one_run : (class_types y c).cells ≡ Holds false AnInt ∷ [] → AreRuns y c 0 (one_int ∷ [])
  one_run all = (
    λ j lt. (
      AnInt,
      refl,
      let none : 0 + j ≡ 0 = omega (arith, lt) in
          ap (λ ts. slice_get ts (0 + j)) all ∙ ap (λ n. slice_get (Holds false AnInt ∷ []) n) none,
    ),
    tt,
  )

  -- the runs of the class's fields, as the tables have them, have the types of the class
  pub runs_match : (ms : List Entry) → EntriesKnown ms → (class_types y c).cells ≡ filled_cells (entry_cells ms)
      → AreRuns y c 0 (filled_runs (map run_of (fields_of ms)))
  runs_match ms known all = ⊎_elim
      (λ p. subst (λ ds. AreRuns y c 0 (filled_runs (map run_of ds))) (sym p.0) (one_run (all ∙ ap filled_cells p.1)))
      (λ p. subst (λ rs. AreRuns y c 0 rs) (sym p.0) (runs_from y c ms 0 [] refl known (all ∙ p.1)))
      (some_or_none ms known)

-- ---- the size of a class

sizes_from : (ms : List Entry) → size (map run_of (fields_of ms)) ≡ length (entry_cells ms)
sizes_from [] = refl
sizes_from (entry.Method f ∷ ms) = sizes_from ms
sizes_from (entry.Field d o ∷ ms) =
    let rest : size (map run_of (fields_of ms)) ≡ length (entry_cells ms) = sizes_from ms in
    let l : length (field_cells d ++ entry_cells ms) ≡ length (field_cells d) + length (entry_cells ms) = length-append (field_cells d) (entry_cells ms) in
    let w : length (field_cells d) ≡ width d.shape = replicated (width d.shape) (cell_of d) in
    let s : cells d.shape ≡ width d.shape = same_width d.shape in
    omega (arith, rest, l, w, s)

-- an object has as many cells as its class has in the tables
pub sizes_match : (ms : List Entry) → EntriesKnown ms → length (filled_cells (entry_cells ms)) ≡ size (filled_runs (map run_of (fields_of ms)))
sizes_match ms known = ⊎_elim
    (λ p. ap (λ ts. length (filled_cells ts)) p.1 ∙ ap (λ ds. size (filled_runs (map run_of ds))) (sym p.0))
    (λ p. ap (λ (ts : List CellType). length ts) p.1 ∙ (sym (sizes_from ms) ∙ ap size (sym p.0)))
    (some_or_none ms known)
