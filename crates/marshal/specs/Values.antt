-- How a value is spelled in bytes. This project's own.
use Rattle.std.specs.Prelude.{◌≡◌, ℕ, List, Result, Ok, Err}
use Rattle.std.specs.Int.{w32}
use Rattle.global_ptr.specs.declared.values.Addr.{Addr}
use Rattle.global_ptr.specs.declared.values.Value.{Value}
use Rattle.global_ptr.specs.declared.values.Value.TheVariants.{Void, Int, Null, Ptr}
use Rattle.marshal.specs.declared.read.ValueFault.{ValueFault}
use Rattle.marshal.specs.declared.read.ValueFault.TheVariants.{Short, BadTag}
use Rattle.marshal.specs.Spellings.{IsByte, IsNumber, IsSignedNumber, ◌▸◌, BeginsWith, IsPartial, IsWrongAt}

-- an address and its bytes: the three numbers
abbrev pub SpellsAddress : Addr → List ℕ → Type 0
SpellsAddress a = IsNumber w32 a.processor ▸ IsNumber w32 a.object ▸ IsNumber w32 a.offset

-- a value and its bytes: a tag, and behind it the number or the address
abbrev pub SpellsValue : Value → List ℕ → Type 0
SpellsValue Void = IsByte 0
SpellsValue (Int n) = IsByte 1 ▸ IsSignedNumber n
SpellsValue Null = IsByte 2
SpellsValue (Ptr a) = IsByte 3 ▸ SpellsAddress a

-- the bytes of some value
abbrev pub IsValue : List ℕ → Type 0
IsValue bytes = (value : Value) × SpellsValue value bytes

-- what the bytes say of the value with which they begin
abbrev pub Reads : List ℕ → Result (Value × ℕ) ValueFault → Type 0
Reads bytes (Ok found) = BeginsWith (SpellsValue found.0) bytes found.1
Reads bytes (Err Short) = IsPartial IsValue bytes
Reads bytes (Err (BadTag at)) = (at ≡ 0) × IsWrongAt IsValue bytes at
