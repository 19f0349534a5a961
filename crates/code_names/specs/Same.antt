-- Threads of code that are the same but for the names of objects. R says which names stand for the same object.
use Rattle.std.specs.Prelude.{◌≡◌, Bool, true, List, [], ◌∷◌}
use Rattle.cc_ops.specs.Values.{Value, Void, Int, Null, Ptr}
use Rattle.cc_core.specs.Asks.{Ask, Answer, Reads, Writes, Copies, Indexes, Shifts, Computes, Tests, Makes, MakesWith, Builds, Enters}
use Rattle.cc_core.specs.Asks.{Leaves, ForksAll, ForksOne, Joins, Spawns, Prints, Calls, Casts, NewProcessor}
use Rattle.cc_code.specs.Code.{Frame, Thread, Runs, Starting, Finished, Then, Move, Silent, Does, Ends, Stuck}

-- one by one
abbrev pub Pairwise : {A B : Type 0} → (A → B → Type 0) → List A → List B → Type 0
Pairwise S [] [] = Unit {0}
Pairwise S [] (y ∷ ys) = ⊥
Pairwise S (x ∷ xs) [] = ⊥
Pairwise S (x ∷ xs) (y ∷ ys) = S x y × Pairwise S xs ys

module _ {N M : Type 0} (R : N → M → Type 0) where
  abbrev pub SameValue : Value N → Value M → Type 0
  SameValue Void Void = Unit {0}
  SameValue (Int n) (Int m) = n ≡ m
  SameValue Null Null = Unit {0}
  SameValue (Ptr o x) (Ptr q y) = R o q × (x ≡ y)
  SameValue v w = ⊥

  abbrev pub SameValues : List (Value N) → List (Value M) → Type 0
  SameValues = Pairwise SameValue

  pub record SameFrame (f : Frame N) (g : Frame M) : Type 0 where
    pub this : SameValue f.this g.this
    pub vars : SameValues f.vars g.vars
    pub place : f.place ≡ g.place
    pub made : f.made ≡ g.made

  abbrev pub SameThread : Thread N → Thread M → Type 0
  SameThread (Runs f fs ops) (Runs g gs ops') = SameFrame f g × Pairwise SameFrame fs gs × SameValues ops ops'
  SameThread (Starting f this vs) (Starting g that ws) = (f ≡ g) × SameValue this that × SameValues vs ws
  SameThread (Finished v) (Finished w) = SameValue v w
  SameThread c d = ⊥

  abbrev pub SameAsk : Ask N → Ask M → Type 0
  SameAsk (Reads r a) (Reads s b) = (r ≡ s) × SameValue a b
  SameAsk (Writes r a v) (Writes s b w) = (r ≡ s) × SameValue a b × SameValue v w
  SameAsk (Copies a n) (Copies b m) = SameValue a b × (n ≡ m)
  SameAsk (Indexes a n i) (Indexes b m j) = SameValue a b × (n ≡ m) × SameValue i j
  SameAsk (Shifts a i) (Shifts b j) = SameValue a b × SameValue i j
  SameAsk (Computes op vs) (Computes op' ws) = (op ≡ op') × SameValues vs ws
  SameAsk Tests Tests = Unit {0}
  SameAsk (Makes kind n) (Makes kind' m) = (kind ≡ kind') × (n ≡ m)
  SameAsk (MakesWith kind v) (MakesWith kind' w) = (kind ≡ kind') × SameValue v w
  SameAsk (Builds c vs) (Builds d ws) = (c ≡ d) × SameValues vs ws
  SameAsk (Enters f o vs) (Enters g q ws) = (f ≡ g) × SameValue o q × SameValues vs ws
  SameAsk Leaves Leaves = Unit {0}
  SameAsk (ForksAll n) (ForksAll m) = n ≡ m
  SameAsk (ForksOne v) (ForksOne w) = SameValue v w
  SameAsk (Joins ks) (Joins js) = ks ≡ js
  SameAsk (Spawns f o vs) (Spawns g q ws) = (f ≡ g) × SameValue o q × SameValues vs ws
  SameAsk (Prints parts vs) (Prints parts' ws) = (parts ≡ parts') × SameValues vs ws
  SameAsk (Calls f o vs) (Calls g q ws) = (f ≡ g) × SameValue o q × SameValues vs ws
  SameAsk (Casts f o vs) (Casts g q ws) = (f ≡ g) × SameValue o q × SameValues vs ws
  SameAsk (NewProcessor c vs) (NewProcessor d ws) = (c ≡ d) × SameValues vs ws
  SameAsk a b = ⊥

  pub record SameAnswer (x : Answer N) (y : Answer M) : Type 0 where
    pub values : SameValues x.values y.values
    pub made : x.made ≡ y.made

  pub record SameThen (x : Then N) (y : Then M) : Type 0 where
    pub left : SameThread x.left y.left
    pub branches : Pairwise SameThread x.branches y.branches

-- The same move: silent, the same end, or the same question, after whose same answers both go on so. By then more objects may have names,
-- as S says.
abbrev pub SameMove : {N M : Type 0} → (R S : N → M → Type 0) → Move N → Move M → Type 0
SameMove R S (Silent c) (Silent d) = SameThread R c d
SameMove R S (Ends v) (Ends w) = SameValue R v w
SameMove {N} {M} R S (Does n q j) (Does m r k) =
    (n ≡ m) × SameAsk R q r × ((x : Answer N) (y : Answer M) → SameAnswer S x y → SameThen S (j x) (k y))
SameMove R S Stuck Stuck = Unit {0}
SameMove R S a b = ⊥

-- names that are told to stand for the same
abbrev pub Told : {N M : Type 0} → (N → M → Bool) → N → M → Type 0
Told same a b = same a b ≡ true
