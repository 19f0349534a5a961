-- Why bytes are not read as a message.
use Rattle.std.specs.Prelude.{◌≡◌, ℕ, ◌+◌, List, Bool, false, ◌==◌, ◌||◌, ◌&&◌, nat_le, nat_lt, slice_index, if◌then◌else◌, Result, Ok, Err}
use Rattle.std.specs.Int.{byte_len}
use Rattle.marshal.specs.Spellings.{BeginsWith, IsPartial, IsWrongAt}
use Rattle.rsr_message.specs.declared.faults.MessageFault.{MessageFault}
use Rattle.rsr_message.specs.declared.faults.MessageFault.TheVariants.{Short, BadMagic, BadVersion, BadKind, BadCount, BadTag, Memory}
use Rattle.rsr_message.specs.declared.requests.Request.{Request}
use Rattle.rsr_message.specs.declared.requests.Body.{Body}
use Rattle.rsr_message.specs.declared.requests.Body.TheVariants.{Call, Get, Put, Make, Reply, Cast}
use Rattle.rsr_message.specs.Requests.{Format, version_1, version_2, SpellsEither, IsMessage}

-- whether a byte of the number of values stands at this place of a message, by its third byte
abbrev pub is_count : Format → ℕ → ℕ → Bool
is_count f kind at =
    if kind == 1 || kind == 6 then nat_le 21 at && nat_lt at (21 + byte_len f.count)
    else (if kind == 4 then nat_le 17 at && nat_lt at (17 + byte_len f.count) else false)

-- the format that the second byte of a message tells
abbrev pub format_told : ℕ → Format
format_told version = if version == 2 then version_2 else version_1

-- what is wrong where the first wrong byte of a message stands at this place
abbrev pub fault_at : Format → ℕ → ℕ → MessageFault
fault_at f kind at =
    if at == 0 then BadMagic
    else (if at == 1 then BadVersion
    else (if at == 2 then BadKind
    else (if is_count f kind at then BadCount at else BadTag at)))

-- the same, by the message's second and third byte
abbrev pub fault_of : List ℕ → ℕ → MessageFault
fault_of bytes = fault_at (format_told (slice_index bytes 1)) (slice_index bytes 2)

-- what is wrong in a list that begins at a place of a message, by the place in the list
abbrev pub list_fault : Format → ℕ → ℕ → MessageFault
list_fault f at k = if nat_lt k (byte_len f.count) then BadCount (at + k) else BadTag (at + k)

-- the first wrong byte stands at a place that has this name
pub record IsWrong (P : List ℕ → Type 0) (name : ℕ → MessageFault) (bytes : List ℕ) (fault : MessageFault) : Type 0 where
  pub at : ℕ
  pub wrong : IsWrongAt P bytes at
  pub named : fault ≡ name at

-- the bytes do not begin with a spelling of the set, and why
abbrev pub IsRefused : (List ℕ → Type 0) → (ℕ → MessageFault) → List ℕ → MessageFault → Type 0
IsRefused P name bytes Short = IsPartial P bytes
IsRefused P name bytes Memory = ⊥
IsRefused P name bytes fault = IsWrong P name bytes fault

-- the first wrong byte of a message has this name
abbrev pub IsWrongMessage : List ℕ → MessageFault → Type 0
IsWrongMessage bytes = IsWrong IsMessage (fault_of bytes) bytes

-- the bytes do not begin with a message, and why
abbrev pub IsRefusedMessage : List ℕ → MessageFault → Type 0
IsRefusedMessage bytes = IsRefused IsMessage (fault_of bytes) bytes

-- a request with a list of values, which alone takes memory
abbrev pub HasList : Body → Type 0
HasList (Call object handler args) = Unit {0}
HasList (Get spot) = ⊥
HasList (Put spot value) = ⊥
HasList (Make class args) = Unit {0}
HasList (Reply value) = ⊥
HasList (Cast object handler args) = Unit {0}

-- the bytes begin with a request that has a list
pub record BeginsWithList (bytes : List ℕ) : Type 0 where
  pub request : Request
  pub len : ℕ
  pub begins : BeginsWith (SpellsEither request) bytes len
  pub list : HasList request.body

-- why no request is read: they are less than a message, or no message has a byte where it stands, or its list finds no memory
abbrev pub IsCause : List ℕ → MessageFault → Type 0
IsCause bytes Short = IsPartial IsMessage bytes
IsCause bytes Memory = BeginsWithList bytes
IsCause bytes fault = IsWrongMessage bytes fault

-- what the bytes say of the request with which they begin
abbrev pub Decodes : List ℕ → Result (Request × ℕ) MessageFault → Type 0
Decodes bytes (Ok found) = BeginsWith (SpellsEither found.0) bytes found.1
Decodes bytes (Err fault) = IsCause bytes fault
