-- How requests are spelled in bytes. This project's own.
use Rattle.std.specs.Prelude.{◌≡◌, ◌≢◌, ℕ, ◌<◌, ◌≤◌, ◌^◌, List, [], ◌∷◌, length, All, FitsSigned}
use Rattle.std.specs.Int.{Width, w8, w16, w32, w64}
use Rattle.global_ptr.specs.declared.values.Addr.{Addr}
use Rattle.global_ptr.specs.declared.values.Spot.{Spot}
use Rattle.global_ptr.specs.declared.values.Value.{Value}
use Rattle.global_ptr.specs.declared.values.Value.TheVariants.{Void, Int, Null, Ptr}
use Rattle.marshal.specs.Spellings.{IsByte, IsNumber, ◌▸◌}
use Rattle.marshal.specs.Values.{SpellsValue}
use Rattle.rsr_message.specs.declared.requests.Request.{Request}
use Rattle.rsr_message.specs.declared.requests.Body.{Body}
use Rattle.rsr_message.specs.declared.requests.Body.TheVariants.{Call, Get, Put, Make, Reply, Cast}
use Rattle.rsr_message.specs.declared.versions.Version.{Version}
use Rattle.rsr_message.specs.declared.versions.Version.TheVariants.{One, Two}

-- a version of the format: the second byte of its messages, how wide the number of a list's values is, and how many values
-- a list has at most
pub record Format : Type 0 where
  pub version : ℕ
  pub count : Width
  pub most : ℕ

abbrev pub version_1 : Format
version_1 = record { version = 1; count = w8; most = 8 }

abbrev pub version_2 : Format
version_2 = record { version = 2; count = w16; most = 4096 }

abbrev pub format_of : Version → Format
format_of One = version_1
format_of Two = version_2

-- a value that is handed over: any but void
pub record SpellsGiven (value : Value) (bytes : List ℕ) : Type 0 where
  pub some : value ≢ Void
  pub spelled : SpellsValue value bytes

-- the values, one after another
abbrev pub SpellsEach : List Value → List ℕ → Type 0
SpellsEach [] = λ bytes. bytes ≡ []
SpellsEach (value ∷ values) = SpellsGiven value ▸ SpellsEach values

-- how many values a list has
pub record SpellsCount (f : Format) (n : ℕ) (bytes : List ℕ) : Type 0 where
  pub few : n ≤ f.most
  pub number : IsNumber f.count n bytes

abbrev pub SpellsList : Format → List Value → List ℕ → Type 0
SpellsList f values = SpellsCount f (length values) ▸ SpellsEach values

abbrev pub SpellsSpot : Spot → List ℕ → Type 0
SpellsSpot spot = IsNumber w32 spot.object ▸ IsNumber w32 spot.offset

-- an object, a handler and its arguments
abbrev pub SpellsCall : Format → ℕ → ℕ → List Value → List ℕ → Type 0
SpellsCall f object handler args = IsNumber w32 object ▸ IsNumber w16 handler ▸ SpellsList f args

-- the third byte of a message
abbrev pub kind_byte : Body → ℕ
kind_byte (Call object handler args) = 1
kind_byte (Get spot) = 2
kind_byte (Put spot value) = 3
kind_byte (Make class args) = 4
kind_byte (Reply value) = 5
kind_byte (Cast object handler args) = 6

-- what stands behind the ticket
abbrev pub SpellsBody : Format → Body → List ℕ → Type 0
SpellsBody f (Call object handler args) = SpellsCall f object handler args
SpellsBody f (Get spot) = SpellsSpot spot
SpellsBody f (Put spot value) = SpellsSpot spot ▸ SpellsGiven value
SpellsBody f (Make class args) = IsNumber w16 class ▸ SpellsList f args
SpellsBody f (Reply value) = SpellsValue value
SpellsBody f (Cast object handler args) = SpellsCall f object handler args

-- a request and its bytes in a version
abbrev pub Spells : Format → Request → List ℕ → Type 0
Spells f r = IsByte 0x52 ▸ IsByte f.version ▸ IsByte (kind_byte r.body) ▸ IsNumber w32 r.to ▸ IsNumber w32 r.from ▸ IsNumber w32 r.ticket ▸ SpellsBody f r.body

-- a request and its bytes in either version
pub record SpellsEither (r : Request) (bytes : List ℕ) : Type 0 where
  pub version : Version
  pub spelled : Spells (format_of version) r bytes

-- the bytes of some request, in either version
abbrev pub IsMessage : List ℕ → Type 0
IsMessage bytes = (r : Request) × SpellsEither r bytes

-- a list that the format has bytes for
pub record IsAllowedList (f : Format) (values : List Value) : Type 0 where
  pub few : length values ≤ f.most
  pub some : All (λ value. value ≢ Void) values

-- a body with few enough values, and with void in a reply alone
abbrev pub IsAllowed : Format → Body → Type 0
IsAllowed f (Call object handler args) = IsAllowedList f args
IsAllowed f (Get spot) = Unit {0}
IsAllowed f (Put spot value) = value ≢ Void
IsAllowed f (Make class args) = IsAllowedList f args
IsAllowed f (Reply value) = Unit {0}
IsAllowed f (Cast object handler args) = IsAllowedList f args

pub record FitsAddress (a : Addr) : Type 0 where
  pub processor : a.processor < 2 ^ 32
  pub object : a.object < 2 ^ 32
  pub offset : a.offset < 2 ^ 32

abbrev pub FitsValue : Value → Type 0
FitsValue Void = Unit {0}
FitsValue (Int n) = FitsSigned w64 n
FitsValue Null = Unit {0}
FitsValue (Ptr a) = FitsAddress a

pub record FitsSpot (spot : Spot) : Type 0 where
  pub object : spot.object < 2 ^ 32
  pub offset : spot.offset < 2 ^ 32

pub record FitsCall (o h : ℕ) (vs : List Value) : Type 0 where
  pub object : o < 2 ^ 32
  pub handler : h < 2 ^ 16
  pub args : All FitsValue vs

abbrev pub FitsBody : Body → Type 0
FitsBody (Call object handler args) = FitsCall object handler args
FitsBody (Get spot) = FitsSpot spot
FitsBody (Put spot value) = FitsSpot spot × FitsValue value
FitsBody (Make class args) = (class < 2 ^ 16) × All FitsValue args
FitsBody (Reply value) = FitsValue value
FitsBody (Cast object handler args) = FitsCall object handler args

-- a request whose numbers fit their fields, and whose values the format has bytes for
pub record IsProper (f : Format) (r : Request) : Type 0 where
  pub to : r.to < 2 ^ 32
  pub from : r.from < 2 ^ 32
  pub ticket : r.ticket < 2 ^ 32
  pub body : FitsBody r.body
  pub allowed : IsAllowed f r.body
