-- What asks make has the types that their answers have.
use Rattle.std.proofs.Common.{◌≡◌, ◌≢◌, ℕ, zero, suc, ◌≤◌, Bool, true, false, List, [], ◌∷◌, ◌++◌, length, Option, Some, None, refl, sym, ap, subst, ◌∙◌}
use Rattle.std.proofs.Common.{⊎_elim, inl, inr, arith, append-nil}
use Rattle.std.specs.Prelude.{get_or, slice_get, replicate, drop, map}
use Rattle.std.specs.FinMap as fin
use Rattle.std.proofs.lemmas.List.{length-map}
use Rattle.cc_ops.specs.Values.{Void, Int, Null, Ptr, Plain, Result, Gives, Fails, first, second, int_of, fresh, started}
use Rattle.cc_ops.specs.Classes.{construct, size}
use Rattle.cc_ops.specs.Operators.{compute}
use Rattle.cc_ops.specs.Addresses.{indexed, shifted}
use Rattle.cc_ops.specs.declared.kind.Kind.{Kind}
use Rattle.cc_core.specs.Names.{Name, same_name, Map, Value, Cell, puts}
use Rattle.cc_ops.specs.declared.shape.FunShape.{FunShape}
use Rattle.cc_core.specs.Core.{Term, Starts, Program, function, Function, no_shape, no_function, Shapes, shapes, function_shape, class_shape}
use Rattle.cc_core.specs.Asks.{Ask, Reads, Writes, Copies, Indexes, Shifts, Computes, Tests, Makes, MakesWith, Builds, Enters}
use Rattle.cc_core.specs.Asks.{Leaves, ForksAll, ForksOne, Joins, Spawns, Prints, Calls, Casts, NewProcessor}
use Rattle.cc_core.specs.Config.{Config, Thread, Object, cells_of, home, home_of, put_cells, write_value, write_all}
use Rattle.cc_core.specs.Needs.{Filled, AllCells, Slots, FirstSlots, Processor, Constructs, Threads as ThreadsNeed, Go, needs, check, check_all, of_result}
use Rattle.cc_core.specs.Effects.{effect, addresses, cells_with, parameters, constructed, is_call, start_home, branch_count}
use Rattle.cc_core.proofs.Maps.{cases_name, get_same, get_other, IsKey, puts_other}
use Rattle.cc_core.proofs.Fresh.{head_of}
use Rattle.cc_ops.specs.Cells.{write_cell}
use Rattle.core_types.specs.Types.{ValueType, NoValue, AnInt, Pointer, Target, Cells, ObjectOf, MemberOf, PartOf, Holds, Types, function_types, class_types}
use Rattle.core_types.specs.Types.{is_sync, Passes, addressed, IsCell}
use Rattle.core_types.specs.Values.{Content, Row, Instance, ObjectEntry, ThreadEntry, World, Grows, IsNear, IsIn, IsWhole, Fits, AllFit, IsObject, CellFits, CellsFit}
use Rattle.core_types.specs.Typing.{nowhere, HasType}
use Rattle.core_types.specs.Asks.{IsAsk, IsRemoteCall}
use Rattle.core_types.specs.Programs.{AreKinds, IsParameter, AreParameters, HasTypes}
use Rattle.core_types.specs.Runs.{ObjectFits, InStep, IsKnown}
use Rattle.core_types.proofs.Basics.{same_some, rest_fits, leads_of, all_cross, no_pointer, no_int}
use Rattle.core_types.proofs.More.{fits_more, all_more, object_more, cells_more}
use Rattle.core_types.proofs.Found.{bad_not_go, none_found, nothing_found, known_found, indexed_fits, shifted_fits, operated, filled_fits, only_need, both_go}
use Rattle.core_types.proofs.Found.{place_of, goes, copied_fits}
use Rattle.core_types.proofs.Built.{fresh_object, one_cell, cells_with_fit, with_long, whole_same, write_long, constructed_long, started_fits, constructed_fit, write_ok}

-- what an object that begins at an address of this target consists of
abbrev pub content_of : Target → Content
content_of (Cells sync u) = Row sync u
content_of (ObjectOf c) = Instance c
content_of (MemberOf c o) = Instance c
content_of (PartOf c sync u) = Instance c

abbrev pub contents : List (List Kind) → List Target → List Content
contents [] vars = []
contents (kinds ∷ more) [] = []
contents (kinds ∷ more) (a ∷ vars) = content_of a ∷ contents more vars

-- new objects with their contents
abbrev pub known : List (Name × Object) → List Content → List (Name × ObjectEntry)
known [] ks = []
known (e ∷ es) [] = []
known (e ∷ es) (k ∷ ks) = (e.0, record { home = e.1.home; content = k }) ∷ known es ks

abbrev pub AreObjects : Types → World → List (Name × Object) → List Content → Type 0
AreObjects y w [] ks = Unit {0}
AreObjects y w (e ∷ es) [] = ⊥
AreObjects y w (e ∷ es) (k ∷ ks) = CellsFit y w e.1.home k e.1.cells × IsWhole y k e.1.cells × AreObjects y w es ks

pub known_key : (es : List (Name × Object)) (ks : List Content) (o : Name) → IsKey o (known es ks) → IsKey o es
known_key [] ks o h = h
known_key (e ∷ es) [] o h = absurd h
known_key (e ∷ es) (k ∷ ks) o h =
    ⊎_elim (λ (x : o ≡ e.0). inl x) (λ (x : IsKey o (known es ks)). inr (known_key es ks o x)) h

-- objects in step with what is known, after both are put in

pub in_step : (y : Types) (v : World) (es : List (Name × Object)) (ks : List Content) (mo : Map Object) (mt : Map ObjectEntry)
    → AreObjects y v es ks → InStep y v mo mt → InStep y v (puts es mo) (puts (known es ks) mt)
in_step y v [] ks mo mt fine h = h
in_step y v (e ∷ es) [] mo mt fine h = absurd fine
in_step y v (e ∷ es) (k ∷ ks) mo mt fine h =
    let a : ObjectEntry = record { home = e.1.home; content = k } in
    in_step y v es ks (fin.insert mo e.0 e.1) (fin.insert mt e.0 a) fine.2 (λ o b g. ⊎_elim
    (λ (q : o ≡ e.0).
    let same : a ≡ b = same_some a b (sym (get_same mt e.0 a) ∙ (ap (fin.get (fin.insert mt e.0 a)) (sym q) ∙ g)) in
    (e.1, ap (fin.get (fin.insert mo e.0 e.1)) q ∙ get_same mo e.0 e.1, subst (λ (z : ObjectEntry). ObjectFits y v z e.1) same (refl, fine.0, fine.1)))
    (λ (q : o ≢ e.0).
    let z = h o b (sym (get_other mt e.0 a o q) ∙ g) in (z.0, get_other mo e.0 e.1 o q ∙ z.1, z.2))
    (cases_name o e.0))

pub is_known : (y : Types) (v : World) (es : List (Name × Object)) (ks : List Content) (mo : Map Object) (mt : Map ObjectEntry)
    → AreObjects y v es ks → IsKnown mo mt → IsKnown (puts es mo) (puts (known es ks) mt)
is_known y v [] ks mo mt fine h = h
is_known y v (e ∷ es) [] mo mt fine h = absurd fine
is_known y v (e ∷ es) (k ∷ ks) mo mt fine h =
    let a : ObjectEntry = record { home = e.1.home; content = k } in
    is_known y v es ks (fin.insert mo e.0 e.1) (fin.insert mt e.0 a) fine.2 (λ o x g. ⊎_elim
    (λ (q : o ≡ e.0). (a, ap (fin.get (fin.insert mt e.0 a)) q ∙ get_same mt e.0 a))
    (λ (q : o ≢ e.0). let z = h o x (sym (get_other mo e.0 e.1 o q) ∙ g) in (z.0, get_other mt e.0 a o q ∙ z.1))
    (cases_name o e.0))

pub step_more : (y : Types) (w v : World) → Grows w v → (mo : Map Object) (mt : Map ObjectEntry) → InStep y w mo mt → InStep y v mo mt
step_more y w v g mo mt h = λ o e f. let z = h o e f in (z.0, z.1, (z.2.0, cells_more y w v g e.home e.content z.0.cells z.2.1, z.2.2))

-- a write

module _ (y : Types) (w : World) (q : Name) (mo : Map Object) (stored : InStep y w mo w.objects) where
  write_put : (o : Name) (x : Object) (e : ObjectEntry) (r : Result (List Cell)) → fin.get mo o ≡ Some x → fin.get w.objects o ≡ Some e → x.home ≡ e.home
      → ((cells : List Cell) → r ≡ Gives cells → CellsFit y w e.home e.content cells × IsWhole y e.content cells) → InStep y w (put_cells mo o (Some x) r) w.objects
  write_put o x e (Fails kind) there is home ok = stored
  write_put o x e (Gives cells) there is home ok = λ b d g. ⊎_elim
      (λ (r : b ≡ o).
      let same : e ≡ d = same_some e d (sym is ∙ (ap (fin.get w.objects) (sym r) ∙ g)) in (
        record { home = x.home; cells = cells },
        ap (fin.get (fin.insert mo o (record { home = x.home; cells = cells }))) r ∙ get_same mo o (record { home = x.home; cells = cells }),
        subst (λ (z : ObjectEntry). ObjectFits y w z (record { home = x.home; cells = cells })) same (home, (ok cells refl).0, (ok cells refl).1),
      ))
      (λ (r : b ≢ o).
      let z = stored b d g in (z.0, get_other mo o (record { home = x.home; cells = cells }) b r ∙ z.1, z.2))
      (cases_name b o)

  pub write_typed : (a v : Value) (remote : Bool) (t : Target) (sync : Bool) (u : ValueType) → Fits y w q a (Pointer remote t) → IsCell y t sync u
      → Passes remote u → Fits y w q v u → InStep y w (write_value mo a v) w.objects
  write_typed Void v remote t sync u f i ps g = stored
  write_typed (Int n) v remote t sync u f i ps g = stored
  write_typed Null v remote t sync u f i ps g = stored
  write_typed (Ptr o x) v remote t sync u f i ps g =
      let e = place_of y w q o x remote t sync u f i in
      let b = stored o e.0 e.1 in
      subst (λ z. InStep y w (put_cells mo o z (write_cell (cells_of z) x v)) w.objects) (sym b.1)
      (write_put o b.0 e.0 (write_cell b.0.cells x v) b.1 e.1 b.2.0
      (λ cells i. (
        write_ok y w e.0.home e.0.content b.0.cells x v sync u b.2.1 e.2 (goes y w q remote e.0.home v u e.3 ps g) cells i,
        whole_same y e.0.content b.0.cells cells (write_long b.0.cells x v cells i) b.2.2,
      )))

pub write_known : (mo : Map Object) (mt : Map ObjectEntry) (a v : Value) → IsKnown mo mt → IsKnown (write_value mo a v) mt
write_known mo mt Void v h = h
write_known mo mt (Int n) v h = h
write_known mo mt Null v h = h
write_known mo mt (Ptr o x) v h = from (fin.get mo o) refl
  where
    put : (z : Object) (r : Result (List Cell)) → fin.get mo o ≡ Some z → IsKnown (put_cells mo o (Some z) r) mt
    put z (Fails kind) e = h
    put z (Gives cells) e = λ b d g. ⊎_elim
        (λ (r : b ≡ o). h b z (ap (fin.get mo) r ∙ e))
        (λ (r : b ≢ o). h b d (sym (get_other mo o (record { home = z.home; cells = cells }) b r) ∙ g))
        (cases_name b o)

    from : (z : Option Object) → fin.get mo o ≡ z → IsKnown (put_cells mo o z (write_cell (cells_of z) x v)) mt
    from None e = h
    from (Some z) e = put z (write_cell z.cells x v) e

-- the objects of parameters

same_shape : (fs : List Function) (k : ℕ) → get_or (map (λ (f : Function). f.shape) fs) k no_shape ≡ (get_or fs k no_function).shape
same_shape [] k = refl
same_shape (f ∷ fs) zero = refl
same_shape (f ∷ fs) (suc k) = same_shape fs k

pub shape_is : (p : Program) (f : ℕ) → function_shape (shapes p) f ≡ (function p f).shape
shape_is p f = same_shape p.functions f

later_names : (t : Name) (k : ℕ) (q : Name) (params : List (List Kind)) (vs : List Value) (ks : List Content) (o : Name)
    → IsKey o (known (parameters t k q params vs) ks) → (i : ℕ) × (o ≡ i ∷ t) × (k ≤ i)
later_names t k q [] vs ks o h = absurd h
later_names t k q (kinds ∷ more) vs [] o h = absurd h
later_names t k q (kinds ∷ more) vs (a ∷ ks) o h = ⊎_elim
    (λ (e : o ≡ k ∷ t). (k, e, omega arith))
    (λ (e : IsKey o (known (parameters t (suc k) q more (drop (length kinds) vs)) ks)).
    let i = later_names t (suc k) q more (drop (length kinds) vs) ks o e in let low = i.2 in (i.0, i.1, omega (arith, low)))
    h

begins : (y : Types) (these : List ValueType) (a : Target) → IsParameter y these a → IsIn y (content_of a) 0 a
begins y these (Cells sync u) i = refl
begins y these (ObjectOf c) i = (refl, refl)
begins y these (MemberOf c o) i = absurd i
begins y these (PartOf c sync u) i = absurd i

pub made_parameters : (y : Types) (v : World) (t : Name) (k : ℕ) (q : Name) (params : List (List Kind)) (us : List ValueType) (vars : List Target)
    (vs : List Value) (m : Map ObjectEntry) → AreParameters y params us vars
    → v.objects ≡ puts (known (parameters t k q params vs) (contents params vars)) m
    → AllFit y v q (addresses (parameters t k q params vs)) (addressed params vars)
made_parameters y v t k q [] us vars vs m a e = refl
made_parameters y v t k q (kinds ∷ more) us vars vs m a e =
    let here : ObjectEntry = record { home = q; content = content_of a.0 } in
    let rest = parameters t (suc k) q more (drop (length kinds) vs) in
    let e' : v.objects ≡ puts (known rest (contents more a.3)) (fin.insert m (k ∷ t) here) =
    subst (λ z. v.objects ≡ puts (known (parameters t k q (kinds ∷ more) vs) (contents (kinds ∷ more) z)) m) a.8 e in
    let there : fin.get v.objects (k ∷ t) ≡ Some here =
    ap (λ z. fin.get z (k ∷ t)) e'
    ∙ (puts_other (known rest (contents more a.3)) (fin.insert m (k ∷ t) here) (k ∷ t) (λ h.
    let i = later_names t (suc k) q more (drop (length kinds) vs) (contents more a.3) (k ∷ t) h in
    let same = head_of k i.0 t t i.1 in let low = i.2 in absurd (omega (arith, same, low)))
    ∙ get_same m (k ∷ t) here) in
    subst (λ z. AllFit y v q (Ptr (k ∷ t) 0 ∷ addresses rest) (addressed (kinds ∷ more) z)) (sym a.8) (
      (false, a.0, refl, (here, there, begins y a.1 a.0 a.5, refl)),
      made_parameters y v t (suc k) q more a.2 a.3 (drop (length kinds) vs) (fin.insert m (k ∷ t) here) a.6 e',
    )

-- a parameter is a plain cell, or an object with the cells of the argument
parameter_fits : (y : Types) (v : World) (q : Name) (kinds : List Kind) (these more : List ValueType) (vs : List Value) (a : Target)
    → AreKinds kinds these → IsParameter y these a → AllFit y v q vs (these ++ more) → CellsFit y v q (content_of a) (cells_with kinds vs)
parameter_fits y v q kinds these more vs (Cells sync u) k i f = λ x c e.
    one x c (subst (λ z. CellFits y v q c (slice_get (map (Holds false) z) x)) i.1 (cells_with_fit y v q kinds these more vs k f x c e))
  where
    one : (x : ℕ) (c : Cell) → CellFits y v q c (slice_get (Holds false u ∷ []) x) → CellFits y v q c (Some (Holds sync u))
    one zero c h = subst (λ z. CellFits y v q c (Some (Holds z u))) (sym i.0) h
    one (suc x) c h = absurd h
parameter_fits y v q kinds these more vs (ObjectOf d) k i f = λ x c e.
    subst (λ z. CellFits y v q c (slice_get z x)) (sym i) (cells_with_fit y v q kinds these more vs k f x c e)
parameter_fits y v q kinds these more vs (MemberOf c o) k i f = absurd i
parameter_fits y v q kinds these more vs (PartOf c sync u) k i f = absurd i

parameter_whole : (y : Types) (kinds : List Kind) (these : List ValueType) (vs : List Value) (a : Target)
    → AreKinds kinds these → IsParameter y these a → IsWhole y (content_of a) (cells_with kinds vs)
parameter_whole y kinds these vs (Cells sync u) k i = tt
parameter_whole y kinds these vs (ObjectOf d) k i =
    with_long kinds these vs k ∙ (sym (length-map these (Holds false)) ∙ sym (ap length i))
parameter_whole y kinds these vs (MemberOf c o) k i = absurd i
parameter_whole y kinds these vs (PartOf c sync u) k i = absurd i

pub parameters_fit : (y : Types) (v : World) (t : Name) (k : ℕ) (q : Name) (params : List (List Kind)) (us : List ValueType) (vars : List Target)
    (vs : List Value) → AreParameters y params us vars → AllFit y v q vs us
    → AreObjects y v (parameters t k q params vs) (contents params vars)
parameters_fit y v t k q [] us vars vs a fit = tt
parameters_fit y v t k q (kinds ∷ more) us vars vs a fit =
    let f : AllFit y v q vs (a.1 ++ a.2) = subst (AllFit y v q vs) a.7 fit in
    subst (λ z. AreObjects y v (parameters t k q (kinds ∷ more) vs) (contents (kinds ∷ more) z)) (sym a.8) (
      parameter_fits y v q kinds a.1 a.2 vs a.0 a.4 a.5 f,
      parameter_whole y kinds a.1 vs a.0 a.4 a.5,
      parameters_fit y v t (suc k) q more a.2 a.3 (drop (length kinds) vs) a.6 (rest_fits y v q kinds a.1 a.2 vs a.4 f),
    )

-- the types of threads that an ask makes
abbrev pub start_result : Types → Ask Name → ValueType
start_result y (Reads remote x) = NoValue
start_result y (Writes remote x v) = NoValue
start_result y (Copies x n) = NoValue
start_result y (Indexes x n i) = NoValue
start_result y (Shifts x i) = NoValue
start_result y (Computes op vs) = NoValue
start_result y Tests = NoValue
start_result y (Makes kind n) = NoValue
start_result y (MakesWith kind v) = NoValue
start_result y (Builds c vs) = NoValue
start_result y (Enters f o vs) = NoValue
start_result y Leaves = NoValue
start_result y (ForksAll n) = NoValue
start_result y (ForksOne x) = NoValue
start_result y (Joins made) = NoValue
start_result y (Spawns f o vs) = (function_types y f).result
start_result y (Prints parts vs) = NoValue
start_result y (Calls f o vs) = (function_types y f).result
start_result y (Casts f o vs) = (function_types y f).result
start_result y (NewProcessor c vs) = NoValue

abbrev pub AreKids : Program → Types → World → ThreadEntry → List Term → Type 0
AreKids p y v k [] = Unit {0}
AreKids p y v k (e ∷ es) = HasType p y v k.home nowhere e k.result × AreKids p y v k es

module _ (p : Program) (y : Types) (ok : HasTypes p y) (w : World) (s : Config) (stored : InStep y w s.objects w.objects) (t : Name) (l : Thread) where
  abbrev q : Name
  q = l.home

  abbrev h : Shapes
  h = shapes p

  abbrev Ask' : Ask Name → List ValueType → Type 0
  Ask' = IsAsk p y w q true

  abbrev pub contents_of : (ask : Ask Name) (us : List ValueType) → Ask' ask us → List Content
  contents_of (Reads remote x) us f = []
  contents_of (Writes remote x v) us f = []
  contents_of (Copies x n) us f = []
  contents_of (Indexes x n i) us f = []
  contents_of (Shifts x i) us f = []
  contents_of (Computes op vs) us f = []
  contents_of Tests us f = []
  contents_of (Makes kind n) us f = Row (is_sync kind) f.0 ∷ []
  contents_of (MakesWith kind v) us f = Row (is_sync kind) f.0 ∷ []
  contents_of (Builds c vs) us f = Instance c ∷ []
  contents_of (Enters k o vs) us f = contents (function_shape h k).params (function_types y k).vars
  contents_of Leaves us f = []
  contents_of (ForksAll n) us f = []
  contents_of (ForksOne x) us f = Row false AnInt ∷ []
  contents_of (Joins made) us f = []
  contents_of (Spawns k o vs) us f = []
  contents_of (Prints parts vs) us f = []
  contents_of (Calls k o vs) us f = []
  contents_of (Casts k o vs) us f = []
  contents_of (NewProcessor c vs) us f = Instance c ∷ []

  -- a class's new object
  built : (c : ℕ) (vs : List Value) (home : Name) (v : World) → AllFit y v home vs (class_types y c).params
      → (r : Result (List Cell)) → construct same_name (class_shape h c) vs ≡ r → CellsFit y v home (Instance c) (constructed r)
  built c vs home v fit (Gives cells) e = constructed_fit y v home c vs fit (class_shape h c) (ok.runs c) (ok.sets c) cells e
  built c vs home v fit (Fails kind) e = λ x d g. let n : None ≡ Some d = g in cc

  -- where its constructor has no fault, it has all its cells
  whole : (c : ℕ) (vs : List Value) (r : Result (List Cell)) (a : List Value) → construct same_name (class_shape h c) vs ≡ r
      → of_result r (λ cells. []) ≡ Go a → IsWhole y (Instance c) (constructed r)
  whole c vs (Gives cells) a e g = constructed_long (class_shape h c) vs cells e ∙ sym (ok.sizes c)
  whole c vs (Fails kind) a e g = absurd (bad_not_go kind a g)

  copy_found : (x : Value) (found : List Value) → Fits y w q x (Pointer false (Cells false AnInt))
      → check_all h s t l (needs h (ForksOne x)) ≡ Go found → (v : Value) × (found ≡ v ∷ []) × Fits y w q v AnInt
  copy_found x found f e =
      let a = both_go (check h s t l (ThreadsNeed 1)) (check_all h s t l (Slots 1 ∷ Filled x ∷ [])) found e in
      let b = both_go (check h s t l (Slots 1)) (check_all h s t l (Filled x ∷ [])) a.1 a.3 in
      let fst = nothing_found h s t l (ThreadsNeed 1) tt a.0 a.2 in
      let snd = nothing_found h s t l (Slots 1) tt b.0 b.2 in
      let r = filled_fits h s t l y w q stored x false (Cells false AnInt) false AnInt f (refl, refl) tt b.1
      (only_need h s t l (Filled x) b.1 b.3) in
      (r.0, a.4 ∙ (ap (λ z. z ++ a.1) fst ∙ (b.4 ∙ (ap (λ z. z ++ b.1) snd ∙ r.1))), r.2)

  parameters_ok : (k : ℕ) → AreParameters y (function_shape h k).params (function_types y k).params (function_types y k).vars
  parameters_ok k = subst (λ (z : FunShape). AreParameters y z.params (function_types y k).params (function_types y k).vars) (sym (shape_is p k)) (ok.parameters k)

  module _ (v : World) (g : Grows w v) where
    answer_none : (found : List Value) (us : List ValueType) → found ≡ [] → us ≡ [] → AllFit y v q found us
    answer_none found us e f = subst (AllFit y v q found) (sym f) e

    answer_one : (found : List Value) (us : List ValueType) (x : Value) (u : ValueType) → found ≡ x ∷ [] → us ≡ u ∷ [] → Fits y w q x u
        → AllFit y v q found us
    answer_one found us x u e f i =
        subst (AllFit y v q found) (sym f) (subst (λ z. AllFit y v q z (u ∷ [])) (sym e) (fits_more y w v g q x u i, refl))

    there : (o : Name) (x : Object) (k : Content) → v.objects ≡ puts (known ((o, x) ∷ []) (k ∷ [])) w.objects
        → fin.get v.objects o ≡ Some (record { home = x.home; content = k })
    there o x k e = ap (λ z. fin.get z o) e ∙ get_same w.objects o (record { home = x.home; content = k })

    answer_made : (found : List Value) (us us' : List ValueType) (o : Name) (d : ObjectEntry) (remote : Bool) (a : Target)
        → fin.get v.objects o ≡ Some d → IsIn y d.content 0 a → IsNear remote d.home q → us ≡ Pointer remote a ∷ us' → AllFit y v q found us'
        → AllFit y v q (Ptr o 0 ∷ found) us
    answer_made found us us' o d remote a e i n f r =
        subst (AllFit y v q (Ptr o 0 ∷ found)) (sym f) ((remote, a, refl, (d, e, i, n)), r)

    -- an answer has the types that are told of it
    pub answer_fits : (ask : Ask Name) (us : List ValueType) (f : Ask' ask us) (found : List Value)
        → check_all h s t l (needs h ask) ≡ Go found → v.objects ≡ puts (known (effect h t l ask found).objects (contents_of ask us f)) w.objects
        → is_call ask ≡ false → AllFit y v q (addresses (effect h t l ask found).objects ++ found) us
    answer_fits (Reads remote x) us f found m e b =
        let r = filled_fits h s t l y w q stored x remote f.0 f.1 f.2 f.3 f.4 f.5 found (only_need h s t l (Filled x) found m) in
        answer_one found us r.0 f.2 r.1 f.7 r.2
    answer_fits (Writes remote x z) us f found m e b = answer_none found us (none_found h s t l (needs h (Writes remote x z)) (tt, tt) found m) f.8
    answer_fits (Copies x n) us f found m e b =
        all_more y w v g q found us (copied_fits h s t l y w q stored x n f.0 us f.1 f.2 f.3 found (only_need h s t l (AllCells x n) found m))
    answer_fits (Indexes x n i) us f found m e b =
        let r = known_found h s t l (indexed x n i) found m in
        answer_one found us r.0 _ r.2 f.6 (indexed_fits y w q x n i r.0 f.0 f.1 f.2 f.3 f.5 r.1)
    answer_fits (Shifts x i) us f found m e b =
        let r = known_found h s t l (shifted x (int_of i)) found m in
        answer_one found us r.0 _ r.2 f.5 (shifted_fits y w q x (int_of i) r.0 f.0 f.1 f.2 f.3 r.1)
    answer_fits (Computes op vs) us f found m e b =
        let r = known_found h s t l (compute same_name op vs) found m in
        let n = operated op (first vs) (second vs) r.0 r.1 in
        answer_one found us r.0 _ r.2 f.3 (subst (λ z. Fits y w q z AnInt) (sym n.1) refl)
    answer_fits Tests us f found m e b = answer_none found us (none_found h s t l [] tt found m) f
    answer_fits (Makes kind n) us f found m e b =
        let o = l.objects ∷ t in
        answer_made found us [] o _ false (Cells (is_sync kind) f.0) (there o (record { home = q; cells = replicate n (fresh kind) }) _ e) refl refl f.2
        (none_found h s t l (needs h (Makes kind n)) (tt, tt) found m)
    answer_fits (MakesWith kind x) us f found m e b =
        let o = l.objects ∷ t in
        answer_made found us [] o _ false (Cells (is_sync kind) f.0) (there o (record { home = q; cells = started kind x ∷ [] }) _ e) refl refl f.3
        (none_found h s t l (needs h (MakesWith kind x)) (tt, tt) found m)
    answer_fits (Builds c vs) us f found m e b =
        let o = l.objects ∷ t in
        answer_made found us [] o _ false (ObjectOf c)
        (there o (record { home = q; cells = constructed (construct same_name (class_shape h c) vs) }) _ e) (refl, refl) refl f.1
        (none_found h s t l (needs h (Builds c vs)) (tt, (tt, tt)) found m)
    answer_fits (Enters k o vs) us f found m e b =
        let none = none_found h s t l (needs h (Enters k o vs)) (tt, (tt, (tt, (tt, tt)))) found m in
        let objs = parameters t l.objects q (function_shape h k).params vs in
        let r = made_parameters y v t l.objects q (function_shape h k).params (function_types y k).params (function_types y k).vars vs w.objects (parameters_ok k) e in
        subst (λ z. AllFit y v q (addresses objs ++ z) us) (sym none)
        (subst (λ z. AllFit y v q z us) (sym (append-nil (addresses objs)))
        (subst (AllFit y v q (addresses objs)) (ap (λ (z : FunShape). addressed z.params (function_types y k).vars) (shape_is p k) ∙ sym f.3) r))
    answer_fits Leaves us f found m e b = answer_none found us (none_found h s t l [] tt found m) f
    answer_fits (ForksAll n) us f found m e b = answer_none found us (none_found h s t l (needs h (ForksAll n)) (tt, tt) found m) f.1
    answer_fits (ForksOne x) us f found m e b =
        let o = 0 ∷ l.threads ∷ t in
        let r = copy_found x found f.0 m in
        answer_made found us (AnInt ∷ []) o _ false (Cells false AnInt)
        (there o (record { home = q; cells = Plain (first found) ∷ [] }) _ e) refl refl f.2
        (answer_one found (AnInt ∷ []) r.0 AnInt r.1 refl r.2)
    answer_fits (Joins made) us f found m e b = answer_none found us (none_found h s t l (needs h (Joins made)) (tt, tt) found m) f.1
    answer_fits (Spawns k o vs) us f found m e b =
        answer_none found us (none_found h s t l (needs h (Spawns k o vs)) (tt, (tt, tt)) found m) f.3
    answer_fits (Prints parts vs) us f found m e b = answer_none found us (none_found h s t l [] tt found m) f.1
    answer_fits (Calls k o vs) us f found m e b = let z : true ≡ false = b in cc
    answer_fits (Casts k o vs) us f found m e b =
        answer_none found us (none_found h s t l (needs h (Casts k o vs)) (tt, (tt, tt)) found m) f.2
    answer_fits (NewProcessor c vs) us f found m e b =
        let o = l.objects ∷ t in
        answer_made found us [] o _ true (ObjectOf c)
        (there o (record { home = o; cells = constructed (construct same_name (class_shape h c) vs) }) _ e) (refl, refl) tt f.3
        (none_found h s t l (needs h (NewProcessor c vs)) (tt, (tt, (tt, tt))) found m)

    -- the objects that an ask makes have cells of their types
    pub objects_fit : (ask : Ask Name) (us : List ValueType) (f : Ask' ask us) (found : List Value)
        → check_all h s t l (needs h ask) ≡ Go found → AreObjects y v (effect h t l ask found).objects (contents_of ask us f)
    objects_fit (Reads remote x) us f found m = tt
    objects_fit (Writes remote x z) us f found m = tt
    objects_fit (Copies x n) us f found m = tt
    objects_fit (Indexes x n i) us f found m = tt
    objects_fit (Shifts x i) us f found m = tt
    objects_fit (Computes op vs) us f found m = tt
    objects_fit Tests us f found m = tt
    objects_fit (Makes kind n) us f found m = (fresh_object y v q kind n f.0 f.1, tt, tt)
    objects_fit (MakesWith kind x) us f found m =
        (one_cell y v q (is_sync kind) f.0 (started kind x) (started_fits y v q kind x f.0 f.1 (fits_more y w v g q x f.0 f.2)), tt, tt)
    objects_fit (Builds c vs) us f found m =
        let a = both_go (check h s t l (Slots (size (class_shape h c).cells))) (check_all h s t l (Constructs c vs ∷ [])) found m in
        let b = only_need h s t l (Constructs c vs) a.1 a.3 in
        (built c vs q v (all_more y w v g q vs _ f.0) _ refl, whole c vs _ a.1 refl b, tt)
    objects_fit (Enters k o vs) us f found m =
        parameters_fit y v t l.objects q (function_shape h k).params (function_types y k).params (function_types y k).vars vs (parameters_ok k)
        (all_more y w v g q vs _ f.1)
    objects_fit Leaves us f found m = tt
    objects_fit (ForksAll n) us f found m = tt
    objects_fit (ForksOne x) us f found m =
        let r = copy_found x found f.0 m in (
          one_cell y v q false AnInt (Plain (first found))
              (refl, subst (λ z. Fits y v q (first z) AnInt) (sym r.1) (fits_more y w v g q r.0 AnInt r.2), tt),
          tt,
          tt,
        )
    objects_fit (Joins made) us f found m = tt
    objects_fit (Spawns k o vs) us f found m = tt
    objects_fit (Prints parts vs) us f found m = tt
    objects_fit (Calls k o vs) us f found m = tt
    objects_fit (Casts k o vs) us f found m = tt
    objects_fit (NewProcessor c vs) us f found m =
        let first = FirstSlots (size (class_shape h c).cells) in
        let a = both_go (check h s t l Processor) (check_all h s t l (first ∷ Constructs c vs ∷ [])) found m in
        let b = both_go (check h s t l first) (check_all h s t l (Constructs c vs ∷ [])) a.1 a.3 in
        let d = only_need h s t l (Constructs c vs) b.1 b.3 in (
          built c vs (l.objects ∷ t) v (all_more y w v g (l.objects ∷ t) vs _ (all_cross y w q (l.objects ∷ t) vs _ f.1 f.0)) _ refl,
          whole c vs _ b.1 refl d,
          tt,
        )

    -- the threads that an ask makes begin with typed terms

    pub no_kids : (k : ThreadEntry) (es : List Term) → length es ≡ 0 → AreKids p y v k es
    no_kids k [] e = tt
    no_kids k (x ∷ es) e = absurd (omega (arith, e))

    object_home : (c : ℕ) (o : Value) → Fits y w q o (Pointer true (ObjectOf c)) → Fits y w (home s o) o (Pointer false (ObjectOf c))
    object_home c Void f = absurd (no_pointer true (ObjectOf c) f)
    object_home c (Int n) f = absurd (no_int true (ObjectOf c) f)
    object_home c Null f = (false, ObjectOf c, refl)
    object_home c (Ptr o x) f =
        let d = leads_of y w q o x true (ObjectOf c) f in
        let z = stored o d.0 d.1 in
        (false, ObjectOf c, refl, (d.0, d.1, d.2, sym z.2.0 ∙ sym (ap home_of z.1)))

    remote_start : (k : ℕ) (o : Value) (vs : List Value) → IsRemoteCall p y w q k o vs
        → HasType p y v (home s o) nowhere (Starts k o vs) (function_types y k).result
    remote_start k o vs f = (
      subst (λ z. IsObject y v (home s o) z o) (sym f.1) (fits_more y w v g (home s o) o (Pointer false (ObjectOf f.0)) (object_home f.0 o f.2)),
      all_more y w v g (home s o) vs _ (all_cross y w q (home s o) vs _ f.4 f.3),
      refl,
      refl,
    )

    pub kids_fit : (ask : Ask Name) (us : List ValueType) (f : Ask' ask us) (found : List Value) (branches : List Term)
        → length branches ≡ branch_count ask → AreKids p y v (record { home = q; result = NoValue }) branches
        → AreKids p y v (record { home = start_home s l ask; result = start_result y ask }) ((effect h t l ask found).starts ++ branches)
    kids_fit (Reads remote x) us f found es n a = a
    kids_fit (Writes remote x z) us f found es n a = a
    kids_fit (Copies x k) us f found es n a = a
    kids_fit (Indexes x k i) us f found es n a = a
    kids_fit (Shifts x i) us f found es n a = a
    kids_fit (Computes op vs) us f found es n a = a
    kids_fit Tests us f found es n a = a
    kids_fit (Makes kind k) us f found es n a = a
    kids_fit (MakesWith kind x) us f found es n a = a
    kids_fit (Builds c vs) us f found es n a = a
    kids_fit (Enters k o vs) us f found es n a = a
    kids_fit Leaves us f found es n a = a
    kids_fit (ForksAll k) us f found es n a = a
    kids_fit (ForksOne x) us f found es n a = a
    kids_fit (Joins made) us f found es n a = a
    kids_fit (Spawns k o vs) us f found es n a =
        ((object_more y w v g q _ o f.0, all_more y w v g q vs _ f.1, refl, refl), no_kids _ es n)
    kids_fit (Prints parts vs) us f found es n a = a
    kids_fit (Calls k o vs) us f found es n a = (remote_start k o vs f.0, no_kids _ es n)
    kids_fit (Casts k o vs) us f found es n a = (remote_start k o vs f.0, no_kids _ es n)
    kids_fit (NewProcessor c vs) us f found es n a = a

  -- what an ask writes

  pub writes_fit : (ask : Ask Name) (us : List ValueType) → Ask' ask us → (found : List Value)
      → InStep y w (write_all s.objects (effect h t l ask found).writes) w.objects
  writes_fit (Reads remote x) us f found = stored
  writes_fit (Writes remote x z) us f found = write_typed y w q s.objects stored x z remote f.0 f.1 f.2 f.3 f.4 f.6 f.5
  writes_fit (Copies x k) us f found = stored
  writes_fit (Indexes x k i) us f found = stored
  writes_fit (Shifts x i) us f found = stored
  writes_fit (Computes op vs) us f found = stored
  writes_fit Tests us f found = stored
  writes_fit (Makes kind k) us f found = stored
  writes_fit (MakesWith kind x) us f found = stored
  writes_fit (Builds c vs) us f found = stored
  writes_fit (Enters k o vs) us f found = stored
  writes_fit Leaves us f found = stored
  writes_fit (ForksAll k) us f found = stored
  writes_fit (ForksOne x) us f found = stored
  writes_fit (Joins made) us f found = stored
  writes_fit (Spawns k o vs) us f found = stored
  writes_fit (Prints parts vs) us f found = stored
  writes_fit (Calls k o vs) us f found = stored
  writes_fit (Casts k o vs) us f found = stored
  writes_fit (NewProcessor c vs) us f found = stored

pub writes_known : (mo : Map Object) (mt : Map ObjectEntry) (ws : List (Value × Value)) → IsKnown mo mt → IsKnown (write_all mo ws) mt
writes_known mo mt [] h = h
writes_known mo mt (x ∷ ws) h = writes_known (write_value mo x.0 x.1) mt ws (write_known mo mt x.0 x.1 h)
