-- The parts of messages, whatever they say.
use Rattle.std.specs.Prelude.{◌≡◌, ℕ, ◌-◌, List, [], ◌∷◌, length}
use Rattle.global_ptr.specs.declared.values.Value.{Value}
use Rattle.marshal.specs.Spellings.{AnyBytes, ◌▸◌, BeginsWith}
use Rattle.marshal.specs.Values.{IsValue, SpellsValue}
use Rattle.rsr_message.specs.Requests.{Format, SpellsGiven, SpellsEach, SpellsCount, SpellsList, SpellsBody}
use Rattle.rsr_message.specs.declared.kinds.Kind.{Kind}
use Rattle.rsr_message.specs.declared.kinds.Kind.TheVariants as kind
use Rattle.rsr_message.specs.declared.requests.Body.{Body}
use Rattle.rsr_message.specs.declared.requests.Body.TheVariants as body

abbrev pub kind_of : Body → Kind
kind_of (body.Call object handler args) = kind.Call
kind_of (body.Get spot) = kind.Get
kind_of (body.Put spot value) = kind.Put
kind_of (body.Make class args) = kind.Make
kind_of (body.Reply value) = kind.Reply
kind_of (body.Cast object handler args) = kind.Cast

-- the third byte of a message of the kind
abbrev pub byte_of : Kind → ℕ
byte_of kind.Call = 1
byte_of kind.Get = 2
byte_of kind.Put = 3
byte_of kind.Make = 4
byte_of kind.Reply = 5
byte_of kind.Cast = 6

-- how many bytes the numbers behind the third byte have, but for the number of a list's values
abbrev pub fields_len : Kind → ℕ
fields_len kind.Call = 18
fields_len kind.Get = 20
fields_len kind.Put = 20
fields_len kind.Make = 14
fields_len kind.Reply = 12
fields_len kind.Cast = 18

-- the first three bytes
abbrev pub IsHead : Format → Kind → List ℕ → Type 0
IsHead f k bytes = bytes ≡ 0x52 ∷ f.version ∷ byte_of k ∷ []

abbrev pub IsNothing : List ℕ → Type 0
IsNothing bytes = bytes ≡ []

-- some value but void
abbrev pub IsGiven : List ℕ → Type 0
IsGiven bytes = (value : Value) × SpellsGiven value bytes

-- so many values, one after another
pub record IsEach (n : ℕ) (bytes : List ℕ) : Type 0 where
  pub values : List Value
  pub long : length values ≡ n
  pub spelled : SpellsEach values bytes

-- the number of some list's values
abbrev pub IsCount : Format → List ℕ → Type 0
IsCount f bytes = (n : ℕ) × SpellsCount f n bytes

abbrev pub IsList : Format → List ℕ → Type 0
IsList f bytes = (values : List Value) × SpellsList f values bytes

-- what is behind the numbers
abbrev pub IsTail : Format → Kind → List ℕ → Type 0
IsTail f kind.Call = IsList f
IsTail f kind.Get = IsNothing
IsTail f kind.Put = IsGiven
IsTail f kind.Make = IsList f
IsTail f kind.Reply = IsValue
IsTail f kind.Cast = IsList f

-- a message of the kind, by its parts
abbrev pub HasShape : Format → Kind → List ℕ → Type 0
HasShape f k = IsHead f k ▸ AnyBytes (fields_len k) ▸ IsTail f k

-- whether a list stands behind the numbers
abbrev pub IsListKind : Kind → Type 0
IsListKind kind.Call = Unit {0}
IsListKind kind.Get = ⊥
IsListKind kind.Put = ⊥
IsListKind kind.Make = Unit {0}
IsListKind kind.Reply = ⊥
IsListKind kind.Cast = Unit {0}

-- a message of the kind without its head and its first three numbers
abbrev pub HasBodyShape : Kind → Format → List ℕ → Type 0
HasBodyShape k f = AnyBytes (fields_len k - 12) ▸ IsTail f k

-- a body of the kind is spelled by the bytes
pub record IsBody (f : Format) (k : Kind) (bytes : List ℕ) (b : Body) : Type 0 where
  pub kind : kind_of b ≡ k
  pub spelled : SpellsBody f b bytes

abbrev pub AreValues : List ℕ → Type 0
AreValues bytes = (values : List Value) × SpellsEach values bytes

abbrev pub BeginsWithValue : List ℕ → Type 0
BeginsWithValue bytes = (value : Value) × (len : ℕ) × BeginsWith (SpellsValue value) bytes len
