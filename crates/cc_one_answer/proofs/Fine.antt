-- What a fine thread asks for, and what is known of the answer.
use Rattle.std.proofs.Common.{◌≡◌, ◌≢◌, ◌⊎◌, ℕ, suc, ◌+◌, ◌<◌, ◌≤◌, Bool, true, false, List, [], ◌∷◌, length, Some, subst}
use Rattle.std.proofs.Common.{⊎_elim, inl, inr, arith}
use Rattle.std.specs.Prelude.{get_or}
use Rattle.std.specs.FinMap as fin
use Rattle.cc_ops.specs.Values.{Void, Int, Null, Ptr, first, moved}
use Rattle.cc_ops.specs.declared.kind.Kind.{Kind}
use Rattle.cc_core.specs.Names.{Name, Value}
use Rattle.cc_core.specs.Core.{Term}
use Rattle.cc_core.specs.Core.{Program, Shapes, shapes, function_shape}
use Rattle.cc_core.specs.Types.{ValueType, NoValue, AnAddress, Target, Cells, ObjectOf, Types, function_types, no_types, IsAmong}
use Rattle.cc_one_answer.specs.Sorts.{Sort, Valued, NamedCell, is_sync, IsCell, ObjectType, Named, Uniform, Instance}
use Rattle.cc_one_answer.specs.Sorts.{Kin, World, Grows, IsNameIn, Fits, AllFit, HasSort}
use Rattle.cc_one_answer.specs.Owned.{IsOwnAt, IsMarked}
use Rattle.cc_one_answer.specs.Owned.{IsThis, FineTerm}
use Rattle.cc_core.specs.Asks.{Ask, Answer, Reads, Writes, Copies, Indexes, Shifts, Computes, Tests, Makes, MakesWith, Builds, Enters}
use Rattle.cc_core.specs.Asks.{Leaves, ForksAll, ForksOne, Joins, Spawns, Prints, Calls, Casts, NewProcessor}
use Rattle.cc_core.specs.Next.{Next, Ready, Asks, After, on_ready, just}
use Rattle.cc_core.specs.Effects.{branch_count, first_objects, numbers}

-- what an ask is given besides its answer: the types of the objects that it makes, that of the value that it reads, and what the threads that
-- it makes are to be
pub record Gift : Type 0 where
  pub makes : List ObjectType
  pub reads : ValueType
  pub kin : Kin

abbrev pub nowhere : ℕ → Type 0
nowhere b = ⊥

abbrev pub no_kin : Kin
no_kin = record { mark = 0; lent = []; result = NoValue }

abbrev pub gift_of : List ObjectType → ValueType → Gift
gift_of makes reads = record { makes = makes; reads = reads; kin = no_kin }

-- of a variable's cells
abbrev pub type_of : Target → ObjectType
type_of (Cells false u) = Named u
type_of (Cells true u) = Uniform true u
type_of (ObjectOf c) = Instance c

-- a new cell of this kind is of an object of this type
abbrev pub Holds : Kind → ObjectType → Type 0
Holds kind (Named u) = is_sync kind ≡ false
Holds kind (Uniform sync u) = is_sync kind ≡ sync
Holds kind (Instance c) = ⊥

abbrev pub content : ObjectType → ValueType
content (Named u) = u
content (Uniform sync u) = u
content (Instance c) = NoValue

-- the objects of parameters
abbrev pub parameter_types : List (List Kind) → List ValueType → List ObjectType
parameter_types [] us = []
parameter_types ([] ∷ more) us = []
parameter_types ((kind ∷ kinds) ∷ more) [] = []
parameter_types ((kind ∷ kinds) ∷ more) (u ∷ us) = type_of (Cells (is_sync kind) u) ∷ parameter_types more us

-- no pointer
abbrev pub IsNumber : Value → Type 0
IsNumber Void = Unit {0}
IsNumber (Int n) = Unit {0}
IsNumber Null = Unit {0}
IsNumber (Ptr o x) = ⊥

-- an address in the same object
abbrev pub IsShifted : Value → Value → Type 0
IsShifted Void v = ⊥
IsShifted (Int n) v = ⊥
IsShifted Null v = ⊥
IsShifted (Ptr o x) v = (z : ℕ) × (v ≡ Ptr o z)

-- the addresses of the objects that t makes from its object k on come first
abbrev pub AreMade : World → Name → (k : ℕ) → List ObjectType → List Value → Type 0
AreMade w t k [] vs = Unit {0}
AreMade w t k (a ∷ more) [] = ⊥
AreMade w t k (a ∷ more) (v ∷ vs) = (v ≡ Ptr (k ∷ t) 0) × (fin.get w.types (k ∷ t) ≡ Some a) × AreMade w t (suc k) more vs

tail_head : (i j : ℕ) (t : Name) → i ∷ t ≡ j ∷ t → i ≡ j
tail_head i j t e = cc

abbrev pub IsJoined : Ask Name → ℕ → Type 0
IsJoined (Reads remote a) b = ⊥
IsJoined (Writes remote a v) b = ⊥
IsJoined (Copies a n) b = ⊥
IsJoined (Indexes a n i) b = ⊥
IsJoined (Shifts a i) b = ⊥
IsJoined (Computes op vs) b = ⊥
IsJoined Tests b = ⊥
IsJoined (Makes kind n) b = ⊥
IsJoined (MakesWith kind v) b = ⊥
IsJoined (Builds c vs) b = ⊥
IsJoined (Enters f o vs) b = ⊥
IsJoined Leaves b = ⊥
IsJoined (ForksAll n) b = ⊥
IsJoined (ForksOne v) b = ⊥
IsJoined (Joins made) b = IsAmong b made
IsJoined (Spawns f o vs) b = ⊥
IsJoined (Prints parts vs) b = ⊥
IsJoined (Calls f o vs) b = ⊥
IsJoined (Casts f o vs) b = ⊥
IsJoined (NewProcessor c vs) b = ⊥

-- how many objects of its own the thread makes
abbrev pub own_of : Shapes → Ask Name → ℕ
own_of h (Reads remote a) = 0
own_of h (Writes remote a v) = 0
own_of h (Copies a n) = 0
own_of h (Indexes a n i) = 0
own_of h (Shifts a i) = 0
own_of h (Computes op vs) = 0
own_of h Tests = 0
own_of h (Makes kind n) = 1
own_of h (MakesWith kind v) = 1
own_of h (Builds c vs) = 1
own_of h (Enters f o vs) = length (function_shape h f).params
own_of h Leaves = 0
own_of h (ForksAll n) = 0
own_of h (ForksOne v) = 0
own_of h (Joins made) = 0
own_of h (Spawns f o vs) = 0
own_of h (Prints parts vs) = 0
own_of h (Calls f o vs) = 0
own_of h (Casts f o vs) = 0
own_of h (NewProcessor c vs) = 1

module _ (p : Program) (y : Types) (w : World) (t : Name) (lent : List Name) (hi m0 : ℕ) where
  abbrev pub ValuesOf : World → Gift → Ask Name → List Value → Type 0
  ValuesOf v g (Reads remote a) xs = Fits v (first xs) g.reads
  ValuesOf v g (Writes remote a b) xs = Unit {0}
  ValuesOf v g (Copies a n) xs = Unit {0}
  ValuesOf v g (Indexes a n i) xs = (j : ℕ) × (j < n) × (first xs ≡ moved a j)
  ValuesOf v g (Shifts a i) xs = IsShifted a (first xs)
  ValuesOf v g (Computes op vs) xs = IsNumber (first xs)
  ValuesOf v g Tests xs = Unit {0}
  ValuesOf v g (Makes kind n) xs = AreMade v t hi g.makes xs
  ValuesOf v g (MakesWith kind b) xs = AreMade v t hi g.makes xs
  ValuesOf v g (Builds c vs) xs = AreMade v t hi g.makes xs
  ValuesOf v g (Enters f o vs) xs = AreMade v t hi g.makes xs × (length xs ≡ length g.makes)
  ValuesOf v g Leaves xs = Unit {0}
  ValuesOf v g (ForksAll n) xs = Unit {0}
  ValuesOf v g (ForksOne b) xs = AreMade v (m0 ∷ t) 0 g.makes xs
  ValuesOf v g (Joins made) xs = Unit {0}
  ValuesOf v g (Spawns f o vs) xs = Unit {0}
  ValuesOf v g (Prints parts vs) xs = Unit {0}
  ValuesOf v g (Calls f o vs) xs = Fits v (first xs) g.reads
  ValuesOf v g (Casts f o vs) xs = Unit {0}
  ValuesOf v g (NewProcessor c vs) xs = AreMade v t hi g.makes xs

  -- an answer, in the world v that comes after
  pub record IsAnswer (v : World) (g : Gift) (q : Ask Name) (x : Answer Name) : Type 0 where
    pub values : ValuesOf v g q x.values
    pub made : x.made ≡ numbers m0 (branch_count q)
    pub kin : (b : ℕ) → IsAmong b x.made → fin.get v.kin (b ∷ t) ≡ Some g.kin

  -- t's own cell, of an object that is younger than each pending fork
  abbrev pub IsYoung : (Old : ℕ → Type 0) → Value → Type 0
  IsYoung Old a = (i x : ℕ) → a ≡ Ptr (i ∷ t) x → (b : ℕ) → Old b → IsMarked w t b i

  -- a thread that begins with a call
  abbrev pub IsStart : Gift → ℕ → Value → List Value → Type 0
  IsStart g f this vs = (f ≢ p.main) × IsThis y p.main t lent w (function_types y f) this × AllFit w vs (function_types y f).params
      × (g.kin.result ≡ (function_types y f).result) × (g.kin.lent ≡ [])

  abbrev pub HasMade : Gift → ObjectType → Type 0
  HasMade g a = g.makes ≡ a ∷ []

  abbrev pub IsFineAsk : (lo : ℕ) → (Old : ℕ → Type 0) → Gift → Ask Name → Type 0
  IsFineAsk lo Old g (Reads remote a) = (q : Sort) × (sync : Bool) × HasSort w y t lent a q × IsCell y q sync g.reads
  IsFineAsk lo Old g (Writes remote a v) = (q : Sort) × (sync : Bool) × (u : ValueType) × HasSort w y t lent a q × IsCell y q sync u × Fits w v u
      × ((sync ≡ true) ⊎ ((q ≡ NamedCell u) × IsOwnAt t lo a × IsYoung Old a))
  IsFineAsk lo Old g (Copies a n) = ⊥
  IsFineAsk lo Old g (Indexes a n i) = Unit {0}
  IsFineAsk lo Old g (Shifts a i) = Unit {0}
  IsFineAsk lo Old g (Computes op vs) = Unit {0}
  IsFineAsk lo Old g Tests = Unit {0}
  IsFineAsk lo Old g (Makes kind n) = (a : ObjectType) × HasMade g a × Holds kind a
  IsFineAsk lo Old g (MakesWith kind v) = (a : ObjectType) × HasMade g a × Holds kind a × Fits w v (content a)
  IsFineAsk lo Old g (Builds c vs) = HasMade g (Instance c) × AllFit w vs (get_or y.makers c [])
  IsFineAsk lo Old g (Enters f o vs) = (g.makes ≡ parameter_types (function_shape (shapes p) f).params (function_types y f).params) × AllFit w vs (function_types y f).params
  IsFineAsk lo Old g Leaves = Unit {0}
  IsFineAsk lo Old g (ForksAll n) = Unit {0}
  IsFineAsk lo Old g (ForksOne v) = (u : ValueType) × HasMade g (Named u) × HasSort w y t lent v (NamedCell u)
  IsFineAsk lo Old g (Joins made) = Unit {0}
  IsFineAsk lo Old g (Spawns f o vs) = IsStart g f o vs
  IsFineAsk lo Old g (Prints parts vs) = t ≡ []
  IsFineAsk lo Old g (Calls f o vs) = IsStart g f o vs × (g.reads ≡ (function_types y f).result) × ((c : ℕ) × Fits w o (AnAddress (ObjectOf c)))
  IsFineAsk lo Old g (Casts f o vs) = IsStart g f o vs × ((c : ℕ) × Fits w o (AnAddress (ObjectOf c)))
  IsFineAsk lo Old g (NewProcessor c vs) = HasMade g (Instance c) × AllFit w vs (get_or y.makers c [])

  -- the threads that t makes from its thread k on, each with `own` objects
  abbrev pub AreFineKids : World → (own : ℕ) → Kin → (k : ℕ) → List Term → Type 0
  AreFineKids v own kin k [] = Unit {0}
  AreFineKids v own kin k (e ∷ es) =
      FineTerm y p.main (k ∷ t) kin.lent v no_types 0 own e (Valued kin.result) × AreFineKids v own kin (suc k) es

  -- An ask of a term with the pending branches Old; F says that what is left is fine, and P which branches are pending in it.
  pub record IsGoodAsk {A : Type 0} (lo : ℕ) (Old : ℕ → Type 0) (F : World → ℕ → A → Type 0) (P : A → ℕ → Type 0) (q : Ask Name)
      (k : Answer Name → After A) : Type 0 where
    pub gift : Gift
    pub ask : IsFineAsk lo Old gift q
    pub fine : (v : World) (x : Answer Name) → Grows w v → IsAnswer v gift q x → F v (hi + own_of (shapes p) q) (k x).left
    pub keeps : (x : Answer Name) (b : ℕ) → Old b → P (k x).left b ⊎ IsJoined q b
    pub kids : (v : World) (x : Answer Name) → Grows w v → IsAnswer v gift q x → AreFineKids v (first_objects q) gift.kin m0 (k x).branches
    pub lends : (o : Name) (u : ValueType) → IsNameIn o gift.kin.lent → fin.get w.types o ≡ Some (Named u)
        → ((i : ℕ) × (o ≡ i ∷ t) × (i < gift.kin.mark)) ⊎ IsNameIn o lent
    pub known : (o : Name) → IsNameIn o gift.kin.lent → (a : ObjectType) × (fin.get w.types o ≡ Some a)
    pub pends : (x : Answer Name) (b : ℕ) → x.made ≡ numbers m0 (branch_count q) → IsAmong b x.made → P (k x).left b

  abbrev pub IsGood : {V A : Type 0} → (lo : ℕ) → (Old : ℕ → Type 0) → (V → Type 0) → (World → ℕ → A → Type 0) → (A → ℕ → Type 0)
      → Next V A → Type 0
  IsGood lo Old C F P (Ready v) = C v × ((b : ℕ) → Old b → ⊥)
  IsGood lo Old C F P (Asks line q k) = IsGoodAsk lo Old F P q k

  -- a part in a whole: F and P go over into it, and pending branches D of the whole itself stay, with marks up to lo
  pub record IsContext {A B : Type 0} (lo lo' : ℕ) (Old Old' D : ℕ → Type 0) (F : World → ℕ → A → Type 0) (F' : World → ℕ → B → Type 0)
      (P : A → ℕ → Type 0) (P' : B → ℕ → Type 0) (G : A → B) : Type 0 where
    pub below : lo' ≤ lo
    pub up : (v : World) (h : ℕ) (x : A) → Grows w v → hi ≤ h → F v h x → F' v h (G x)
    pub old : (b : ℕ) → Old' b → Old b ⊎ D b
    pub new : (x : A) (b : ℕ) → P x b ⊎ D b → P' (G x) b
    pub low : (b : ℕ) → D b → IsMarked w t b lo

  own_lower : (lo lo' : ℕ) → lo' ≤ lo → (a : Value) → IsOwnAt t lo a → IsOwnAt t lo' a
  own_lower lo lo' le Void h = h
  own_lower lo lo' le (Int n) h = h
  own_lower lo lo' le Null h = h
  own_lower lo lo' le (Ptr o x) h = let low = h.2 in (h.0, h.1, omega (arith, low, le))

  fine_within : (lo lo' : ℕ) (Old Old' D : ℕ → Type 0) → lo' ≤ lo → ((b : ℕ) → Old' b → Old b ⊎ D b) → ((b : ℕ) → D b → IsMarked w t b lo)
      → (g : Gift) (q : Ask Name) → IsFineAsk lo Old g q → IsFineAsk lo' Old' g q
  fine_within lo lo' Old Old' D below old low g (Reads remote a) h = h
  fine_within lo lo' Old Old' D below old low g (Writes remote a v) h = (
    h.0,
    h.1,
    h.2,
    h.3,
    h.4,
    h.5,
    ⊎_elim
        (λ (x : h.1 ≡ true). inl x)
        (λ (x : (h.0 ≡ NamedCell h.2) × IsOwnAt t lo a × IsYoung Old a). inr (
          x.0,
          own_lower lo lo' below a x.1,
          λ i z e b d. ⊎_elim
              (λ (c : Old b). x.2 i z e b c)
              (λ (c : D b).
              let m = low b c in
              let at : IsOwnAt t lo (Ptr (i ∷ t) z) = subst (IsOwnAt t lo) e x.1 in
              let same : i ≡ at.0 = tail_head i at.0 t at.1 in
              let l1 = at.2 in let l2 = m.2 in
              (m.0, m.1, omega (arith, l1, l2, same)))
              (old b d),
        ))
        h.6,
  )
  fine_within lo lo' Old Old' D below old low g (Copies a n) h = h
  fine_within lo lo' Old Old' D below old low g (Indexes a n i) h = h
  fine_within lo lo' Old Old' D below old low g (Shifts a i) h = h
  fine_within lo lo' Old Old' D below old low g (Computes op vs) h = h
  fine_within lo lo' Old Old' D below old low g Tests h = h
  fine_within lo lo' Old Old' D below old low g (Makes kind n) h = h
  fine_within lo lo' Old Old' D below old low g (MakesWith kind v) h = h
  fine_within lo lo' Old Old' D below old low g (Builds c vs) h = h
  fine_within lo lo' Old Old' D below old low g (Enters f o vs) h = h
  fine_within lo lo' Old Old' D below old low g Leaves h = h
  fine_within lo lo' Old Old' D below old low g (ForksAll n) h = h
  fine_within lo lo' Old Old' D below old low g (ForksOne v) h = h
  fine_within lo lo' Old Old' D below old low g (Joins made) h = h
  fine_within lo lo' Old Old' D below old low g (Spawns f o vs) h = h
  fine_within lo lo' Old Old' D below old low g (Prints parts vs) h = h
  fine_within lo lo' Old Old' D below old low g (Calls f o vs) h = h
  fine_within lo lo' Old Old' D below old low g (Casts f o vs) h = h
  fine_within lo lo' Old Old' D below old low g (NewProcessor c vs) h = h

  -- an ask goes up through a context; where the part has a value, `go` says what the whole does
  pub good_within : {V V' A B : Type 0} (lo lo' : ℕ) (Old Old' D : ℕ → Type 0) (C : V → Type 0) (C' : V' → Type 0)
      (F : World → ℕ → A → Type 0) (F' : World → ℕ → B → Type 0) (P : A → ℕ → Type 0) (P' : B → ℕ → Type 0) (G : A → B)
      (n : Next V A) (go : V → Next V' B) → IsContext lo lo' Old Old' D F F' P P' G → IsGood lo Old C F P n
      → ((v : V) → C v → ((b : ℕ) → Old' b → D b) → IsGood lo' Old' C' F' P' (go v)) → IsGood lo' Old' C' F' P' (on_ready n G go)
  good_within lo lo' Old Old' D C C' F F' P P' G (Ready v) go c good ready =
      ready v good.0 (λ b h. ⊎_elim (λ (x : Old b). absurd (good.1 b x)) (λ (x : D b). x) (c.old b h))
  good_within lo lo' Old Old' D C C' F F' P P' G (Asks line q k) go c good ready = record {
    gift = good.gift;
    ask = fine_within lo lo' Old Old' D c.below c.old c.low good.gift q good.ask;
    fine = λ v x grows answer. c.up v (hi + own_of (shapes p) q) (k x).left grows (omega arith) (good.fine v x grows answer);
    keeps = λ x b h. ⊎_elim
        (λ (z : Old b). ⊎_elim
        (λ (e : P (k x).left b). inl (c.new (k x).left b (inl e)))
        (λ (e : IsJoined q b). inr e)
        (good.keeps x b z))
        (λ (z : D b). inl (c.new (k x).left b (inr z)))
        (c.old b h);
    kids = good.kids;
    lends = good.lends;
    known = good.known;
    pends = λ x b made among. c.new (k x).left b (inl (good.pends x b made among));
  }

  -- a context without pending branches of its own
  abbrev pub plain : {A B : Type 0} (lo : ℕ) (Old Old' : ℕ → Type 0) (F : World → ℕ → A → Type 0) (F' : World → ℕ → B → Type 0)
      (P : A → ℕ → Type 0) (P' : B → ℕ → Type 0) (G : A → B)
      → ((v : World) (h : ℕ) (x : A) → Grows w v → hi ≤ h → F v h x → F' v h (G x)) → ((b : ℕ) → Old' b → Old b)
      → ((x : A) (b : ℕ) → P x b → P' (G x) b) → IsContext lo lo Old Old' nowhere F F' P P' G
  plain lo Old Old' F F' P P' G up old new = record {
    below = omega arith;
    up = up;
    old = λ b h. inl (old b h);
    new = λ x b h. ⊎_elim (λ (z : P x b). new x b z) (λ (z : ⊥). absurd z) h;
    low = λ b h. absurd h;
  }

  -- an ask after which nothing is pending, and that forks nothing
  pub last_ask : {A : Type 0} (lo : ℕ) (Old : ℕ → Type 0) (F : World → ℕ → A → Type 0) (P : A → ℕ → Type 0) (q : Ask Name)
      (left : Answer Name → A) (g : Gift) → g.kin.lent ≡ [] → branch_count q ≡ 0 → ((b : ℕ) → Old b → ⊥) → IsFineAsk lo Old g q
      → ((v : World) (x : Answer Name) → Grows w v → IsAnswer v g q x → F v (hi + own_of (shapes p) q) (left x))
      → IsGoodAsk lo Old F P q (λ x. just (left x))
  last_ask lo Old F P q left g no_lent no_made quiet ask fine = record {
    gift = g;
    ask = ask;
    fine = fine;
    keeps = λ x b h. absurd (quiet b h);
    kids = λ v x grows answer. tt;
    lends = λ o u h e. absurd (subst (IsNameIn o) no_lent h);
    known = λ o h. absurd (subst (IsNameIn o) no_lent h);
    pends = λ x b made h. absurd (subst (λ n. IsAmong b (numbers m0 n)) no_made (subst (IsAmong b) made h));
  }
