-- How long messages are.
use Rattle.std.proofs.Common.{◌≡◌, ℕ, ◌+◌, ◌*◌, ◌<◌, ◌≤◌, List, [], ◌∷◌, ◌++◌, length, ap, ◌∙◌, arith, length-append}
use Rattle.std.specs.Int.{w16, w32, byte_len}
use Rattle.global_ptr.specs.declared.values.Spot.{Spot}
use Rattle.global_ptr.specs.declared.values.Value.{Value}
use Rattle.marshal.specs.Spellings.{IsByte, IsNumber, ◌▸◌, IsPartial}
use Rattle.marshal.specs.Values.{SpellsValue}
use Rattle.marshal.proofs.NumberLaws.{length-number}
use Rattle.marshal.proofs.ValueLaws.{length-value}
use Rattle.rsr_message.specs.declared.requests.Request.{Request}
use Rattle.rsr_message.specs.declared.requests.Body.{Body}
use Rattle.rsr_message.specs.declared.requests.Body.TheVariants.{Call, Get, Put, Make, Reply, Cast}
use Rattle.rsr_message.specs.declared.versions.Version.{Version}
use Rattle.rsr_message.specs.declared.versions.Version.TheVariants.{One, Two}
use Rattle.rsr_message.specs.Requests.{Format, version_1, version_2, format_of, SpellsGiven, SpellsEach, SpellsList, SpellsSpot, SpellsCall, SpellsBody, Spells, IsMessage, kind_byte}

-- a set of lists of so many bytes at most
abbrev IsUpTo : ℕ → (List ℕ → Type 0) → Type 0
IsUpTo n P = (bytes : List ℕ) → P bytes → length bytes ≤ n

upto_follows : (m n : ℕ) (P Q : List ℕ → Type 0) → IsUpTo m P → IsUpTo n Q → IsUpTo (m + n) (P ▸ Q)
upto_follows m n P Q p q bytes f =
    let parts = ap length f.whole ∙ length-append f.front f.back in
    let front = p f.front f.first in
    let back = q f.back f.second in
    omega arith

upto_more : (m n : ℕ) (P : List ℕ → Type 0) → m ≤ n → IsUpTo m P → IsUpTo n P
upto_more m n P more p bytes s = let long = p bytes s in omega arith

upto_byte : (byte : ℕ) → IsUpTo 1 (IsByte byte)
upto_byte byte bytes s = let long : length bytes ≡ 1 = ap length s in omega arith

upto_16 : (n : ℕ) → IsUpTo 2 (IsNumber w16 n)
upto_16 n bytes s = let long = length-number w16 n bytes s in omega arith

upto_32 : (n : ℕ) → IsUpTo 4 (IsNumber w32 n)
upto_32 n bytes s = let long = length-number w32 n bytes s in omega arith

upto_value : (v : Value) → IsUpTo 13 (SpellsValue v)
upto_value v bytes s = let long = length-value v bytes s in long.1

upto_given : (v : Value) → IsUpTo 13 (SpellsGiven v)
upto_given v bytes s = upto_value v bytes s.spelled

upto_each : (vs : List Value) → IsUpTo (13 * length vs) (SpellsEach vs)
upto_each [] bytes s = let long : length bytes ≡ 0 = ap length s in omega arith
upto_each (v ∷ vs) bytes s =
    let parts = ap length s.whole ∙ length-append s.front s.back in
    let front = upto_given v s.front s.first in
    let back = upto_each vs s.back s.second in
    omega arith

upto_spot : (spot : Spot) → IsUpTo 8 (SpellsSpot spot)
upto_spot spot = upto_follows 4 4 _ _ (upto_32 spot.object) (upto_32 spot.offset)

-- how many bytes a format's longest list has, and what else a message has at most
module _ (f : Format) (n : ℕ) (most : byte_len f.count + 13 * f.most ≤ n) (other : 15 ≤ n) where
  upto_list : (vs : List Value) → IsUpTo n (SpellsList f vs)
  upto_list vs bytes s =
      let few = s.first.few in
      let count = length-number f.count (length vs) s.front s.first.number in
      let each = upto_each vs s.back s.second in
      let parts = ap length s.whole ∙ length-append s.front s.back in
      omega arith

  upto_call : (object handler : ℕ) (args : List Value) → IsUpTo (4 + (2 + n)) (SpellsCall f object handler args)
  upto_call object handler args = upto_follows 4 (2 + n) _ _ (upto_32 object) (upto_follows 2 n _ _ (upto_16 handler) (upto_list args))

  upto_body : (b : Body) → IsUpTo (4 + (2 + n)) (SpellsBody f b)
  upto_body (Call object handler args) = upto_call object handler args
  upto_body (Get spot) = upto_more 8 (4 + (2 + n)) _ (omega arith) (upto_spot spot)
  upto_body (Put spot value) = upto_more 21 (4 + (2 + n)) _ (omega arith) (upto_follows 8 13 _ _ (upto_spot spot) (upto_given value))
  upto_body (Make class args) = upto_more (2 + n) (4 + (2 + n)) _ (omega arith) (upto_follows 2 n _ _ (upto_16 class) (upto_list args))
  upto_body (Reply value) = upto_more 13 (4 + (2 + n)) _ (omega arith) (upto_value value)
  upto_body (Cast object handler args) = upto_call object handler args

  upto_message : (r : Request) (bytes : List ℕ) → Spells f r bytes → length bytes ≤ 21 + n
  upto_message r bytes s =
      let all : IsUpTo (1 + (1 + (1 + (4 + (4 + (4 + (4 + (2 + n)))))))) (Spells f r) =
      upto_follows 1 _ _ _ (upto_byte 0x52) (upto_follows 1 _ _ _ (upto_byte f.version) (upto_follows 1 _ _ _ (upto_byte (kind_byte r.body))
      (upto_follows 4 _ _ _ (upto_32 r.to) (upto_follows 4 _ _ _ (upto_32 r.from) (upto_follows 4 _ _ _ (upto_32 r.ticket) (upto_body r.body)))))) in
      let long = all bytes s in
      omega arith

-- the longest message of each version
pub length_1 : (r : Request) (bytes : List ℕ) → Spells version_1 r bytes → length bytes ≤ 126
length_1 r bytes s = upto_message version_1 105 (omega arith) (omega arith) r bytes s

pub length_2 : (r : Request) (bytes : List ℕ) → Spells version_2 r bytes → length bytes ≤ 53271
length_2 r bytes s = upto_message version_2 53250 (omega arith) (omega arith) r bytes s

length-message : (bytes : List ℕ) → IsMessage bytes → length bytes ≤ 53271
length-message bytes m = by m.1.version m.1.spelled
  where
    by : (v : Version) → Spells (format_of v) m.0 bytes → length bytes ≤ 53271
    by One s = let long = length_1 m.0 bytes s in omega arith
    by Two s = length_2 m.0 bytes s

-- less than a message has fewer bytes than the longest
pub length-partial : (bytes : List ℕ) → IsPartial IsMessage bytes → length bytes < 53271
length-partial bytes p =
    let long = length-message (bytes ++ p.missing) p.spelled in
    let parts = length-append bytes p.missing in
    let some = p.some in
    omega arith
