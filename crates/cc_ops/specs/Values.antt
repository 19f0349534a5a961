-- Values, cells and faults. N is the type of what names an object: a path in the source, numbers in the machine.
use Rattle.std.specs.Prelude.{ℕ, zero, suc, ◌+◌, min, Bool, true, false, not, ◌&&◌, int_lt, List, [], ◌∷◌, get_or, ℤ, pos}
use Rattle.global_ptr.specs.declared.ends.FaultKind.{FaultKind}
use Rattle.cc_ops.specs.declared.kind.Kind.{Kind}
use Rattle.cc_ops.specs.declared.kind.Kind.TheVariants.{Int as IntK, SyncInt as SyncIntK, Ptr as PtrK, SyncPtr as SyncPtrK}

-- nothing; an int; the null pointer; a pointer to the cell of an object at an offset
pub data Value (N : Type 0) : Type 0 where
  Void : Value N
  Int : (n : ℤ) → Value N
  Null : Value N
  Ptr : (object : N) → (offset : ℕ) → Value N

-- a value that stands in a program's text, which holds no pointer
pub data Constant : Type 0 where
  VoidC : Constant
  IntC : (n : ℤ) → Constant
  NullC : Constant

abbrev pub constant : {N : Type 0} → Constant → Value N
constant VoidC = Void
constant (IntC n) = Int n
constant NullC = Null

-- a cell that may be assigned again and again; a sync cell that is undefined still; one that has its value for ever
pub data Cell (N : Type 0) : Type 0 where
  Plain : (v : Value N) → Cell N
  Empty : Cell N
  Full : (v : Value N) → Cell N

-- a new cell: a plain one is 0 or null, a sync one is undefined
abbrev pub fresh : {N : Type 0} → Kind → Cell N
fresh IntK = Plain (Int (pos 0))
fresh SyncIntK = Empty
fresh PtrK = Plain Null
fresh SyncPtrK = Empty

-- a new cell with a start value
abbrev pub started : {N : Type 0} → Kind → Value N → Cell N
started IntK v = Plain v
started SyncIntK v = Full v
started PtrK v = Plain v
started SyncPtrK v = Full v

-- what was wanted, or the fault that came in its place
pub data Result (A : Type 0) : Type 0 where
  Gives : A → Result A
  Fails : FaultKind → Result A

-- goes on with what was wanted; the first fault counts
abbrev pub on_gives : {A B : Type 0} → Result A → (A → Result B) → Result B
on_gives (Gives a) go = go a
on_gives (Fails kind) go = Fails kind

-- where an int is wanted, a value that is none counts as 0
abbrev pub int_of : {N : Type 0} → Value N → ℤ
int_of Void = pos 0
int_of (Int n) = n
int_of Null = pos 0
int_of (Ptr o x) = pos 0

-- where an address is wanted, a value that is none counts as null
abbrev pub address_of : {N : Type 0} → Value N → Value N
address_of Void = Null
address_of (Int n) = Null
address_of Null = Null
address_of (Ptr o x) = Ptr o x

abbrev pub same_int : ℤ → ℤ → Bool
same_int a b = not (int_lt a b) && not (int_lt b a)

abbrev pub is_zero : {N : Type 0} → Value N → Bool
is_zero v = same_int (int_of v) (pos 0)

-- the first of some values and the second, void where there is none; and those after the first
abbrev pub first : {N : Type 0} → List (Value N) → Value N
first vs = get_or vs 0 Void

abbrev pub second : {N : Type 0} → List (Value N) → Value N
second vs = get_or vs 1 Void

abbrev pub after_first : {N : Type 0} → List (Value N) → List (Value N)
after_first [] = []
after_first (v ∷ vs) = vs

-- the first n values, with null for each that is missing
abbrev pub resized : {N : Type 0} → ℕ → List (Value N) → List (Value N)
resized zero vs = []
resized (suc n) [] = Null ∷ resized n []
resized (suc n) (v ∷ vs) = v ∷ resized n vs

-- an offset fits 32 bits
abbrev pub last_offset : ℕ
last_offset = 4294967295

-- an address k cells further on, at most at the last offset; null stays null
abbrev pub moved : {N : Type 0} → Value N → ℕ → Value N
moved Void k = Null
moved (Int n) k = Null
moved Null k = Null
moved (Ptr o x) k = Ptr o (min (x + k) last_offset)

-- A remote operation sends an int where one is wanted, and an address where one is wanted.
-- A program that keeps the rules of types sends its values as they are.
abbrev pub as_kind : {N : Type 0} → Kind → Value N → Value N
as_kind IntK v = Int (int_of v)
as_kind SyncIntK v = Int (int_of v)
as_kind PtrK v = address_of v
as_kind SyncPtrK v = address_of v

abbrev pub as_kinds : {N : Type 0} → List Kind → List (Value N) → List (Value N)
as_kinds [] vs = []
as_kinds (kind ∷ kinds) vs = as_kind kind (first vs) ∷ as_kinds kinds (after_first vs)

-- and, where it takes a value of any kind, never void
abbrev pub no_void : {N : Type 0} → Value N → Value N
no_void Void = Null
no_void (Int n) = Int n
no_void Null = Null
no_void (Ptr o x) = Ptr o x

-- the value that a write hands over
abbrev pub sent : {N : Type 0} → (remote : Bool) → Value N → Value N
sent false v = v
sent true v = no_void v
