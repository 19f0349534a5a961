-- What types say of asks.
use Rattle.std.proofs.Common.{◌≡◌, ◌⊎◌, ℕ, Bool, true, false, List, [], ◌∷◌, ◌++◌, Option, Some, None, sym, ap, subst, ◌∙◌, inl, inr}
use Rattle.std.specs.FinMap as fin
use Rattle.cc_ops.specs.Values.{Void, Int, Null, Ptr}
use Rattle.cc_ops.specs.Classes.{all_kinds, BuildExpr, Literal, Param, Apply, Both, Either, BuildExprs, NoParts, MoreParts, BuildSet}
use Rattle.cc_ops.specs.declared.kind.Kind.{Kind}
use Rattle.cc_ops.specs.declared.kind.Kind.TheVariants.{Int as IntK, SyncInt as SyncIntK, Ptr as PtrK, SyncPtr as SyncPtrK}
use Rattle.cc_ops.specs.declared.operator.Op.{Op}
use Rattle.cc_ops.specs.declared.operator.Op.TheVariants.{Neg, Not, Bool as Bool', Add, Sub, Mul, Div, Rem, Eq, Ne, Lt, Le, Gt, Ge}
use Rattle.cc_core.specs.Names.{Name, Value}
use Rattle.cc_core.specs.Core.{Program, PrintPart, Number, Text, Endl, Term, class_shape, shapes}
use Rattle.cc_core.specs.Asks.{Ask, Answer, Reads, Writes, Copies, Indexes, Shifts, Computes, Tests, Makes, MakesWith, Builds, Enters}
use Rattle.cc_core.specs.Asks.{Leaves, ForksAll, ForksOne, Joins, Spawns, Prints, Calls, Casts, NewProcessor}
use Rattle.cc_core.specs.Next.{After, Asks, next}
use Rattle.cc_core.specs.Config.{Config, Thread, Live}
use Rattle.core_types.specs.Types.{ValueType, NoValue, AnInt, Pointer, Target, ObjectOf, Types, IsKind, Crosses, AllCross, AreOperands, AreComparable, printed_types, class_types}
use Rattle.core_types.specs.Values.{World, Fits, AllFit, IsObject}
use Rattle.core_types.specs.Typing.{nowhere, HasType}
use Rattle.core_types.specs.Asks.{IsAsk}
use Rattle.core_types.specs.Programs.{AreKinds, AreParameters, IsBuilt, AreBuilt, IsSetAt, AreSets, HasTypes}
use Rattle.core_types.specs.Runs.{InStep, IsTypedAt}
use Rattle.core_types.specs.Kinds.{IsStrictBuild, AreStrictBuild, IsStrictIndex, AreStrictSets, IsInt, IsAddress, IsOfKind, AreOfKinds, IsCallee, IsOneInt, AreTwoInts, AreTwoAlike, AreFor, ArePrinted, AreValues, HasKinds, IsHere, StaysHere}
use Rattle.core_types.proofs.Basics.{no_pointer, no_int, leads_of}
use Rattle.core_types.proofs.Built.{evaluated, evaluated_all, argument_there}
use Rattle.core_types.proofs.Next.{NextIs, thread_typed}

module _ (p : Program) (y : Types) (ok : HasTypes p y) (w : World) (q : Name) where
  pub int_is : (v : Value) → Fits y w q v AnInt → IsInt v
  int_is Void f = let e : AnInt ≡ NoValue = f in cc
  int_is (Int n) f = tt
  int_is Null f = absurd (no_int f.0 f.1 (sym f.2))
  int_is (Ptr o x) f = absurd (no_int f.0 f.1 (sym f.2))

  pub address_is : (v : Value) (remote : Bool) (a : Target) → Fits y w q v (Pointer remote a) → IsAddress v
  address_is Void remote a f = absurd (no_pointer remote a f)
  address_is (Int n) remote a f = absurd (no_int remote a f)
  address_is Null remote a f = tt
  address_is (Ptr o x) remote a f = tt

  kind_is : (kind : Kind) (u : ValueType) (v : Value) → IsKind kind u → Fits y w q v u → IsOfKind kind v
  kind_is IntK u v k f = int_is v (subst (Fits y w q v) k f)
  kind_is SyncIntK u v k f = int_is v (subst (Fits y w q v) k f)
  kind_is PtrK u v k f = address_is v k.0 k.1 (subst (Fits y w q v) k.2 f)
  kind_is SyncPtrK u v k f = address_is v k.0 k.1 (subst (Fits y w q v) k.2 f)

  part_are : (kinds rest : List Kind) (these more : List ValueType) (vs : List Value) → AreKinds kinds these
      → AllFit y w q vs (these ++ more) → ((zs : List Value) → AllFit y w q zs more → AreOfKinds rest zs) → AreOfKinds (kinds ++ rest) vs
  part_are [] rest these more vs k f on = on vs (subst (λ z. AllFit y w q vs (z ++ more)) k f)
  part_are (kind ∷ kinds) rest these more [] k f on = absurd (subst (λ z. AllFit y w q [] (z ++ more)) k.5 f)
  part_are (kind ∷ kinds) rest these more (v ∷ vs) k f on =
      let g : AllFit y w q (v ∷ vs) (k.0 ∷ (k.1 ++ more)) = subst (λ z. AllFit y w q (v ∷ vs) (z ++ more)) k.5 f in
      (kind_is kind k.0 v k.2 g.0, part_are kinds rest k.1 more vs k.4 g.1 on)

  pub kinds_are : (kinds : List (List Kind)) (us : List ValueType) (vars : List Target) (vs : List Value) → AreParameters y kinds us vars
      → AllFit y w q vs us → AreOfKinds (all_kinds kinds) vs
  kinds_are [] us vars vs h f = subst (AllFit y w q vs) h f
  kinds_are (kinds ∷ more) us vars vs h f =
      part_are kinds (all_kinds more) h.1 h.2 vs h.4 (subst (AllFit y w q vs) h.7 f) (λ zs g. kinds_are more h.2 h.3 zs h.6 g)

  callee_is : (c : Option ℕ) (v : Value) → IsObject y w q c v → IsCallee v
  callee_is None v f = inl f
  callee_is (Some c) v f = inr (address_is v false (ObjectOf c) f)

  one_int : (vs : List Value) (us : List ValueType) → us ≡ AnInt ∷ [] → AllFit y w q vs us → IsOneInt vs
  one_int vs us e f = from vs (subst (AllFit y w q vs) e f)
    where
      from : (vs : List Value) → AllFit y w q vs (AnInt ∷ []) → IsOneInt vs
      from [] f = absurd f
      from (v ∷ vs) f = (v, ap (λ z. v ∷ z) f.1, int_is v f.0)

  two_ints : (vs : List Value) (us : List ValueType) → us ≡ AnInt ∷ AnInt ∷ [] → AllFit y w q vs us → AreTwoInts vs
  two_ints vs us e f = from vs (subst (AllFit y w q vs) e f)
    where
      from : (vs : List Value) → AllFit y w q vs (AnInt ∷ AnInt ∷ []) → AreTwoInts vs
      from [] f = absurd f
      from (v ∷ []) f = absurd f.1
      from (v ∷ x ∷ vs) f = (v, x, ap (λ z. v ∷ x ∷ z) f.1.1, int_is v f.0, int_is x f.1.0)

  two_alike : (vs : List Value) (us : List ValueType) (t u : ValueType) → us ≡ t ∷ u ∷ [] → AreComparable t u → AllFit y w q vs us
      → AreTwoAlike vs
  two_alike vs us NoValue u e c f = absurd c
  two_alike vs us AnInt u e c f = inl (two_ints vs us (e ∙ ap (λ z. AnInt ∷ z ∷ []) c) f)
  two_alike vs us (Pointer remote a) u e c f = inr (from vs (subst (AllFit y w q vs) (e ∙ ap (λ z. Pointer remote a ∷ z ∷ []) c.1) f))
    where
      from : (vs : List Value) → AllFit y w q vs (Pointer remote a ∷ Pointer c.0 a ∷ [])
          → (v : Value) × (x : Value) × (vs ≡ v ∷ x ∷ []) × IsAddress v × IsAddress x
      from [] f = absurd f
      from (v ∷ []) f = absurd f.1
      from (v ∷ x ∷ vs) f = (v, x, ap (λ z. v ∷ x ∷ z) f.1.1, address_is v remote a f.0, address_is x c.0 a f.1.0)

  pub operands_are : (op : Op) (vs : List Value) (us : List ValueType) → AllFit y w q vs us → AreOperands op us → AreFor op vs
  operands_are Neg vs us f e = one_int vs us e f
  operands_are Not vs us f e = one_int vs us e f
  operands_are Bool' vs us f e = one_int vs us e f
  operands_are Eq vs us f e = two_alike vs us e.0 e.1 e.2 e.3 f
  operands_are Ne vs us f e = two_alike vs us e.0 e.1 e.2 e.3 f
  operands_are Add vs us f e = two_ints vs us e f
  operands_are Sub vs us f e = two_ints vs us e f
  operands_are Mul vs us f e = two_ints vs us e f
  operands_are Div vs us f e = two_ints vs us e f
  operands_are Rem vs us f e = two_ints vs us e f
  operands_are Lt vs us f e = two_ints vs us e f
  operands_are Le vs us f e = two_ints vs us e f
  operands_are Gt vs us f e = two_ints vs us e f
  operands_are Ge vs us f e = two_ints vs us e f

  printed_are : (parts : List PrintPart) (vs : List Value) → AllFit y w q vs (printed_types parts) → ArePrinted parts vs
  printed_are [] vs f = f
  printed_are (Number ∷ parts) [] f = absurd f
  printed_are (Number ∷ parts) (v ∷ vs) f = (int_is v f.0, printed_are parts vs f.1)
  printed_are (Text bytes ∷ parts) vs f = printed_are parts vs f
  printed_are (Endl ∷ parts) vs f = printed_are parts vs f

  pub value_is : (v : Value) (u : ValueType) → Crosses u → Fits y w q v u → IsInt v ⊎ IsAddress v
  value_is Void u c f = absurd (subst Crosses f c)
  value_is (Int n) u c f = inl tt
  value_is Null u c f = inr tt
  value_is (Ptr o x) u c f = inr tt

  pub values_are : (vs : List Value) (us : List ValueType) → AllCross us → AllFit y w q vs us → AreValues vs
  values_are vs [] c f = subst AreValues (sym f) tt
  values_are [] (u ∷ us) c f = absurd f
  values_are (v ∷ vs) (u ∷ us) c f = (value_is v u c.0 f.0, values_are vs us c.1 f.1)

  -- constructors
  module _ (c : ℕ) (args : List Value) (fit : AllFit y w q args (class_types y c).params) where
    mutual
      build_strict : (b : BuildExpr) (u : ValueType) → IsBuilt (class_types y c).params b u → IsStrictBuild args b
      build_strict (Literal k) u h = tt
      build_strict (Param k) u h = argument_there y w q c args fit args (class_types y c).params k u fit h
      build_strict (Apply op es) u h =
          (builds_strict es h.0 h.1, λ vs e. operands_are op vs h.0 (evaluated_all y w q c args fit es h.0 vs h.1 e) h.2)
      build_strict (Both a b) u h = (
        build_strict a AnInt h.0,
        build_strict b AnInt h.1,
        λ v e. int_is v (evaluated y w q c args fit a AnInt v h.0 e),
        λ v e. int_is v (evaluated y w q c args fit b AnInt v h.1 e),
      )
      build_strict (Either a b) u h = (
        build_strict a AnInt h.0,
        build_strict b AnInt h.1,
        λ v e. int_is v (evaluated y w q c args fit a AnInt v h.0 e),
        λ v e. int_is v (evaluated y w q c args fit b AnInt v h.1 e),
      )

      builds_strict : (bs : BuildExprs) (us : List ValueType) → AreBuilt (class_types y c).params bs us → AreStrictBuild args bs
      builds_strict NoParts us h = tt
      builds_strict (MoreParts b bs) us h = (build_strict b h.0 h.2, builds_strict bs h.1 h.3)

    index_strict : (index : Option BuildExpr) (set : BuildSet) (u : ValueType) → IsSetAt y c index set u → IsStrictIndex args index
    index_strict None set u h = tt
    index_strict (Some b) set u h = (build_strict b AnInt h.0, λ v e. int_is v (evaluated y w q c args fit b AnInt v h.0 e))

    sets_strict : (sets : List BuildSet) → AreSets y c sets → AreStrictSets args sets
    sets_strict [] h = tt
    sets_strict (set ∷ more) h = (index_strict set.index set h.0 h.1, build_strict set.value h.2.0 h.2.1, sets_strict more h.3)

  pub kinds_of_ask : (waits : Bool) (ask : Ask Name) (us : List ValueType) → IsAsk p y w q waits ask us → HasKinds p ask
  kinds_of_ask b (Reads remote x) us f = address_is x remote f.0 f.3
  kinds_of_ask b (Writes false x v) us f = address_is x false f.0 f.3
  kinds_of_ask b (Writes true x v) us f = (address_is x true f.0 f.3, value_is v f.2 f.6 f.5)
  kinds_of_ask b (Copies x n) us f = address_is x false (ObjectOf f.0) f.1
  kinds_of_ask b (Indexes x n i) us f = (address_is x f.0 f.1 f.3, int_is i f.4)
  kinds_of_ask b (Shifts x i) us f = (address_is x f.0 _ f.3, int_is i f.4)
  kinds_of_ask b (Computes op vs) us f = operands_are op vs f.0 f.1 f.2
  kinds_of_ask b Tests us f = tt
  kinds_of_ask b (Makes kind n) us f = tt
  kinds_of_ask b (MakesWith kind v) us f = kind_is kind f.0 v f.1 f.2
  kinds_of_ask b (Builds c vs) us f = sets_strict c vs f.0 (class_shape (shapes p) c).sets (ok.sets c)
  kinds_of_ask b (Enters k o vs) us f = (callee_is _ o f.0, kinds_are _ _ _ vs (ok.parameters k) f.1)
  kinds_of_ask b Leaves us f = tt
  kinds_of_ask b (ForksAll n) us f = tt
  kinds_of_ask b (ForksOne x) us f = address_is x false _ f.0
  kinds_of_ask b (Joins made) us f = tt
  kinds_of_ask b (Spawns k o vs) us f = (callee_is _ o f.0, kinds_are _ _ _ vs (ok.parameters k) f.1)
  kinds_of_ask b (Prints parts vs) us f = printed_are parts vs f.0
  kinds_of_ask b (Calls k o vs) us f = (address_is o true _ f.0.2, kinds_are _ _ _ vs (ok.parameters k) f.0.3)
  kinds_of_ask b (Casts k o vs) us f = (address_is o true _ f.0.2, kinds_are _ _ _ vs (ok.parameters k) f.0.3)
  kinds_of_ask b (NewProcessor c vs) us f =
      (values_are vs _ f.1 f.0, sets_strict c vs f.0 (class_shape (shapes p) c).sets (ok.sets c))

  -- homes

  module _ (s : Config) (stored : InStep y w s.objects w.objects) where
    pub near_is : (v : Value) (a : Target) → Fits y w q v (Pointer false a) → IsHere s q v
    near_is Void a f = tt
    near_is (Int n) a f = tt
    near_is Null a f = tt
    near_is (Ptr o x) a f =
        let l = leads_of y w q o x false a f in
        let b = stored o l.0 l.1 in
        (b.0, b.1, b.2.0 ∙ l.3)

    object_is : (c : Option ℕ) (v : Value) → IsObject y w q c v → IsHere s q v
    object_is None v f = subst (IsHere s q) (sym f) tt
    object_is (Some c) v f = near_is v (ObjectOf c) f

    pub stays_of_ask : (waits : Bool) (ask : Ask Name) (us : List ValueType) → IsAsk p y w q waits ask us → StaysHere s q ask
    stays_of_ask b (Reads false x) us f = near_is x f.0 f.3
    stays_of_ask b (Reads true x) us f = tt
    stays_of_ask b (Writes false x v) us f = near_is x f.0 f.3
    stays_of_ask b (Writes true x v) us f = tt
    stays_of_ask b (Copies x n) us f = near_is x (ObjectOf f.0) f.1
    stays_of_ask b (Indexes x n i) us f = tt
    stays_of_ask b (Shifts x i) us f = tt
    stays_of_ask b (Computes op vs) us f = tt
    stays_of_ask b Tests us f = tt
    stays_of_ask b (Makes kind n) us f = tt
    stays_of_ask b (MakesWith kind v) us f = tt
    stays_of_ask b (Builds c vs) us f = tt
    stays_of_ask b (Enters k o vs) us f = object_is _ o f.0
    stays_of_ask b Leaves us f = tt
    stays_of_ask b (ForksAll n) us f = tt
    stays_of_ask b (ForksOne x) us f = near_is x _ f.0
    stays_of_ask b (Joins made) us f = tt
    stays_of_ask b (Spawns k o vs) us f = object_is _ o f.0
    stays_of_ask b (Prints parts vs) us f = tt
    stays_of_ask b (Calls k o vs) us f = tt
    stays_of_ask b (Casts k o vs) us f = tt
    stays_of_ask b (NewProcessor c vs) us f = tt

-- a thread's ask is typed on its processor, and after each answer of the ask's types what is left has the thread's type
pub ask_typed : (p : Program) (y : Types) → HasTypes p y → (w : World) (s : Config) → IsTypedAt p y w s → (t : Name) (l : Thread)
    → fin.get s.threads t ≡ Some (Live l) → (line : ℕ) (ask : Ask Name) (k : Answer Name → After Term) → next p l.term ≡ Asks line ask k
    → (us : List ValueType) × IsAsk p y w l.home true ask us
ask_typed p y ok w s typed t l live line ask k asks =
    let z = typed.threads t l live in
    let term = subst (λ h. HasType p y w h nowhere l.term z.0.result) (sym z.2) z.3 in
    let n = subst (NextIs p y ok w l.home true (λ x. Fits y w l.home x z.0.result) (λ v e. HasType p y v l.home nowhere e z.0.result)) asks
    (thread_typed p y ok w l.home l.term z.0.result term) in
    (n.0, n.1)
