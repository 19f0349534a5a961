-- What spells a request are bytes, and some of them.
use Rattle.std.proofs.Common.{◌≡◌, ℕ, suc, zero, ◌<◌, ◌^◌, List, [], ◌∷◌, ◌++◌, length, sym, ap, subst, arith}
use Rattle.std.specs.Int.{Width, w16, w32, w64, cast_unsigned}
use Rattle.std.specs.Prelude.{ℤ}
use Rattle.std.specs.List.{AllByRecursion}
use Rattle.std.proofs.Math.Facts.{Fits-of_z}
use Rattle.global_ptr.specs.declared.values.Value.{Value}
use Rattle.global_ptr.specs.declared.values.Value.TheVariants.{Void, Int, Null, Ptr}
use Rattle.marshal.specs.Spellings.{IsBytes, IsByte, IsNumber, IsSignedNumber, ◌▸◌}
use Rattle.marshal.specs.Values.{SpellsAddress, SpellsValue}
use Rattle.marshal.proofs.NumberLaws.{IsBytes-tail, IsBytes-append, any_number}
use Rattle.rsr_message.specs.declared.requests.Request.{Request}
use Rattle.rsr_message.specs.declared.requests.Body.{Body}
use Rattle.rsr_message.specs.declared.requests.Body.TheVariants.{Call, Get, Put, Make, Reply, Cast}
use Rattle.rsr_message.specs.declared.versions.Version.{Version}
use Rattle.rsr_message.specs.declared.versions.Version.TheVariants.{One, Two}
use Rattle.rsr_message.specs.Requests.{Format, format_of, SpellsGiven, SpellsEach, SpellsList, SpellsCall, SpellsBody, Spells, kind_byte}

-- a set of lists of bytes
abbrev AreBytes : (List ℕ → Type 0) → Type 0
AreBytes P = (l : List ℕ) → P l → IsBytes l

follow : (P Q : List ℕ → Type 0) → AreBytes P → AreBytes Q → AreBytes (P ▸ Q)
follow P Q p q l f = subst IsBytes (sym f.whole) (IsBytes-append f.front f.back (p f.front f.first) (q f.back f.second))

one : (byte : ℕ) → byte < 256 → AreBytes (IsByte byte)
one byte small l is = subst IsBytes (sym is) bytes
  where
    bytes : IsBytes (byte ∷ [])
    bytes zero = small
    bytes (suc i) = omega arith

number : (w : Width) (n : ℕ) → AreBytes (IsNumber w n)
number w n l is = (any_number w n l is).all

signed : (n : ℤ) → AreBytes (IsSignedNumber n)
signed n l is = (any_number w64 (cast_unsigned w64 n) l (record { fits = (Fits-of_z is.fits).fits; big_endian = is.big_endian })).all

value : (v : Value) → AreBytes (SpellsValue v)
value Void = one 0 (omega arith)
value (Int n) = follow (IsByte 1) (IsSignedNumber n) (one 1 (omega arith)) (signed n)
value Null = one 2 (omega arith)
value (Ptr a) =
    follow (IsByte 3) (SpellsAddress a) (one 3 (omega arith))
    (follow (IsNumber w32 a.processor) (IsNumber w32 a.object ▸ IsNumber w32 a.offset) (number w32 a.processor)
    (follow (IsNumber w32 a.object) (IsNumber w32 a.offset) (number w32 a.object) (number w32 a.offset)))

given : (v : Value) → AreBytes (SpellsGiven v)
given v l is = value v l is.spelled

each : (vs : List Value) → AreBytes (SpellsEach vs)
each [] l is = subst IsBytes (sym is) (λ i. omega arith)
each (v ∷ vs) l is = follow (SpellsGiven v) (SpellsEach vs) (given v) (each vs) l is

module _ (f : Format) where
  list : (vs : List Value) → AreBytes (SpellsList f vs)
  list vs l is = subst IsBytes (sym is.whole) (IsBytes-append is.front is.back (number f.count (length vs) is.front is.first.number) (each vs is.back is.second))

  call : (object handler : ℕ) (args : List Value) → AreBytes (SpellsCall f object handler args)
  call object handler args =
      follow (IsNumber w32 object) (IsNumber w16 handler ▸ SpellsList f args) (number w32 object) (follow (IsNumber w16 handler) (SpellsList f args) (number w16 handler) (list args))

  body : (b : Body) → AreBytes (SpellsBody f b)
  body (Call object handler args) = call object handler args
  body (Get spot) = follow (IsNumber w32 spot.object) (IsNumber w32 spot.offset) (number w32 spot.object) (number w32 spot.offset)
  body (Put spot v) = follow (IsNumber w32 spot.object ▸ IsNumber w32 spot.offset) (SpellsGiven v)
      (follow (IsNumber w32 spot.object) (IsNumber w32 spot.offset) (number w32 spot.object) (number w32 spot.offset)) (given v)
  body (Make class args) = follow (IsNumber w16 class) (SpellsList f args) (number w16 class) (list args)
  body (Reply v) = value v
  body (Cast object handler args) = call object handler args

  message : f.version < 256 → (r : Request) → AreBytes (Spells f r)
  message small r =
      let P : List ℕ → Type 0 = SpellsBody f r.body in
      follow (IsByte 0x52) (IsByte f.version ▸ IsByte (kind_byte r.body) ▸ IsNumber w32 r.to ▸ IsNumber w32 r.from ▸ IsNumber w32 r.ticket ▸ P) (one 0x52 (omega arith))
      (follow (IsByte f.version) (IsByte (kind_byte r.body) ▸ IsNumber w32 r.to ▸ IsNumber w32 r.from ▸ IsNumber w32 r.ticket ▸ P) (one f.version small)
      (follow (IsByte (kind_byte r.body)) (IsNumber w32 r.to ▸ IsNumber w32 r.from ▸ IsNumber w32 r.ticket ▸ P) (one (kind_byte r.body) (low r.body))
      (follow (IsNumber w32 r.to) (IsNumber w32 r.from ▸ IsNumber w32 r.ticket ▸ P) (number w32 r.to)
      (follow (IsNumber w32 r.from) (IsNumber w32 r.ticket ▸ P) (number w32 r.from)
      (follow (IsNumber w32 r.ticket) P (number w32 r.ticket) (body r.body))))))
    where
      low : (b : Body) → kind_byte b < 256
      low (Call object handler args) = omega arith
      low (Get spot) = omega arith
      low (Put spot v) = omega arith
      low (Make class args) = omega arith
      low (Reply v) = omega arith
      low (Cast object handler args) = omega arith

all_bytes : (l : List ℕ) → IsBytes l → AllByRecursion (λ b. b < 2 ^ 8) l
all_bytes [] all = tt
all_bytes (b ∷ l) all = (all 0, all_bytes l (IsBytes-tail b l all))

pub message_bytes : (v : Version) (r : Request) (l : List ℕ) → Spells (format_of v) r l → AllByRecursion (λ b. b < 2 ^ 8) l
message_bytes v r l s = all_bytes l (message (format_of v) (small v) r l s)
  where
    small : (w : Version) → (format_of w).version < 256
    small One = omega arith
    small Two = omega arith

-- a message is not empty
pub message_some : (f : Format) (r : Request) (l : List ℕ) → Spells f r l → 0 < length l
message_some f r l s =
    let first : length s.front ≡ 1 = ap length s.first in
    let parts = ap length s.whole in
    some s.front s.back l s.whole first
  where
    some : (a b l : List ℕ) → l ≡ a ++ b → length a ≡ 1 → 0 < length l
    some [] b l is long = absurd (omega arith)
    some (x ∷ a) b l is long = let long = ap length is in omega arith
