-- A request has one spelling at most, and only one that may be spelled has any.
use Rattle.std.proofs.Common.{◌≡◌, ◌≢◌, ℕ, suc, ◌^◌, ◌<◌, ◌≤◌, List, [], ◌∷◌, ◌++◌, length, refl, sym, ◌∙◌, arith, All}
use Rattle.std.proofs.lemmas.List.Elements.{All-nil, All-cons}
use Rattle.std.specs.Int.{Width, w16, w32, w64, to_be_bytes, cast_unsigned}
use Rattle.std.specs.Prelude.{ℤ, FitsSigned}
use mir.Val.{bits}
use Rattle.global_ptr.specs.declared.values.Addr.{Addr}
use Rattle.global_ptr.specs.declared.values.Spot.{Spot}
use Rattle.global_ptr.specs.declared.values.Value.{Value}
use Rattle.global_ptr.specs.declared.values.Value.TheVariants.{Void, Int, Null, Ptr}
use Rattle.marshal.specs.Spellings.{IsByte, IsNumber, IsSignedNumber, ◌▸◌}
use Rattle.marshal.specs.Values.{SpellsAddress, SpellsValue}
use Rattle.rsr_message.specs.declared.requests.Request.{Request}
use Rattle.rsr_message.specs.declared.requests.Body.{Body}
use Rattle.rsr_message.specs.declared.requests.Body.TheVariants.{Call, Get, Put, Make, Reply, Cast}
use Rattle.rsr_message.specs.declared.versions.Version.{Version}
use Rattle.rsr_message.specs.declared.versions.Version.TheVariants.{One, Two}
use Rattle.rsr_message.specs.Requests.{Format, SpellsGiven, SpellsEach, SpellsCount, SpellsList, SpellsSpot, SpellsCall, SpellsBody, Spells, kind_byte, IsAllowedList, IsAllowed, FitsValue, FitsSpot, FitsCall, FitsBody, IsProper, format_of}

-- a set of one list of bytes at most
abbrev IsSingle : (List ℕ → Type 0) → Type 0
IsSingle P = (s t : List ℕ) → P s → P t → s ≡ t

single_follows : (P Q : List ℕ → Type 0) → IsSingle P → IsSingle Q → IsSingle (P ▸ Q)
single_follows P Q p q s t a b = a.whole ∙ cc (p a.front b.front a.first b.first, q a.back b.back a.second b.second) ∙ sym b.whole

single_byte : (byte : ℕ) → IsSingle (IsByte byte)
single_byte byte s t a b = a ∙ sym b

single_number : (w : Width) (n : ℕ) → IsSingle (IsNumber w n)
single_number w n s t a b = a.big_endian ∙ sym b.big_endian

single_signed : (n : ℤ) → IsSingle (IsSignedNumber n)
single_signed n s t a b = a.big_endian ∙ sym b.big_endian

single_address : (a : Addr) → IsSingle (SpellsAddress a)
single_address a = single_follows _ _ (single_number w32 a.processor) (single_follows _ _ (single_number w32 a.object) (single_number w32 a.offset))

single_value : (v : Value) → IsSingle (SpellsValue v)
single_value Void = single_byte 0
single_value (Int n) = single_follows _ _ (single_byte 1) (single_signed n)
single_value Null = single_byte 2
single_value (Ptr a) = single_follows _ _ (single_byte 3) (single_address a)

single_given : (v : Value) → IsSingle (SpellsGiven v)
single_given v s t a b = single_value v s t a.spelled b.spelled

single_each : (vs : List Value) → IsSingle (SpellsEach vs)
single_each [] s t a b = a ∙ sym b
single_each (v ∷ vs) s t a b = single_follows (SpellsGiven v) (SpellsEach vs) (single_given v) (single_each vs) s t a b

module _ (f : Format) where
  single_count : (n : ℕ) → IsSingle (SpellsCount f n)
  single_count n s t a b = single_number f.count n s t a.number b.number

  single_list : (vs : List Value) → IsSingle (SpellsList f vs)
  single_list vs = single_follows _ _ (single_count (length vs)) (single_each vs)

  single_spot : (spot : Spot) → IsSingle (SpellsSpot spot)
  single_spot spot = single_follows _ _ (single_number w32 spot.object) (single_number w32 spot.offset)

  single_call : (object handler : ℕ) (args : List Value) → IsSingle (SpellsCall f object handler args)
  single_call object handler args = single_follows _ _ (single_number w32 object) (single_follows _ _ (single_number w16 handler) (single_list args))

  single_body : (b : Body) → IsSingle (SpellsBody f b)
  single_body (Call object handler args) = single_call object handler args
  single_body (Get spot) = single_spot spot
  single_body (Put spot value) = single_follows _ _ (single_spot spot) (single_given value)
  single_body (Make class args) = single_follows _ _ (single_number w16 class) (single_list args)
  single_body (Reply value) = single_value value
  single_body (Cast object handler args) = single_call object handler args

  pub single_spelling : (r : Request) → IsSingle (Spells f r)
  single_spelling r = single_follows _ _ (single_byte 0x52) (single_follows _ _ (single_byte f.version) (single_follows _ _ (single_byte (kind_byte r.body)) (single_follows _ _ (single_number w32 r.to) (single_follows _ _ (single_number w32 r.from) (single_follows _ _ (single_number w32 r.ticket) (single_body r.body))))))

  -- ---- what is spelled is proper

  each_given : (vs : List Value) (bytes : List ℕ) → SpellsEach vs bytes → All (λ value. value ≢ Void) vs
  each_given [] bytes e = All-nil (λ value. value ≢ Void)
  each_given (v ∷ vs) bytes e = All-cons (λ value. value ≢ Void) v vs e.first.some (each_given vs e.back e.second)

  allowed_list : (vs : List Value) (bytes : List ℕ) → SpellsList f vs bytes → IsAllowedList f vs
  allowed_list vs bytes l = record { few = l.first.few; some = each_given vs l.back l.second }

  allowed_body : (b : Body) (bytes : List ℕ) → SpellsBody f b bytes → IsAllowed f b
  allowed_body (Call object handler args) bytes s = allowed_list args s.second.back s.second.second
  allowed_body (Get spot) bytes s = tt
  allowed_body (Put spot value) bytes s = s.second.some
  allowed_body (Make class args) bytes s = allowed_list args s.back s.second
  allowed_body (Reply value) bytes s = tt
  allowed_body (Cast object handler args) bytes s = allowed_list args s.second.back s.second.second

  pub spelled_allowed : (r : Request) (bytes : List ℕ) → Spells f r bytes → IsAllowed f r.body
  spelled_allowed r bytes s = let body = s.second.second.second.second.second in allowed_body r.body body.back body.second

  value_fits : (v : Value) (bytes : List ℕ) → SpellsValue v bytes → FitsValue v
  value_fits Void bytes s = tt
  value_fits (Int n) bytes s = s.second.fits
  value_fits Null bytes s = tt
  value_fits (Ptr a) bytes s = let address = s.second in record { processor = address.first.fits; object = address.second.first.fits; offset = address.second.second.fits }

  each_fits : (vs : List Value) (bytes : List ℕ) → SpellsEach vs bytes → All FitsValue vs
  each_fits [] bytes e = All-nil FitsValue
  each_fits (v ∷ vs) bytes e = All-cons FitsValue v vs (value_fits v e.front e.first.spelled) (each_fits vs e.back e.second)

  spot_fits : (spot : Spot) (bytes : List ℕ) → SpellsSpot spot bytes → FitsSpot spot
  spot_fits spot bytes s = record { object = s.first.fits; offset = s.second.fits }

  call_fits : (object handler : ℕ) (args : List Value) (bytes : List ℕ) → SpellsCall f object handler args bytes → FitsCall object handler args
  call_fits object handler args bytes s = record { object = s.first.fits; handler = s.second.first.fits; args = each_fits args s.second.second.back s.second.second.second }

  body_fits : (b : Body) (bytes : List ℕ) → SpellsBody f b bytes → FitsBody b
  body_fits (Call object handler args) bytes s = call_fits object handler args bytes s
  body_fits (Get spot) bytes s = spot_fits spot bytes s
  body_fits (Put spot value) bytes s = (spot_fits spot s.front s.first, value_fits value s.back s.second.spelled)
  body_fits (Make class args) bytes s = (s.first.fits, each_fits args s.second.back s.second.second)
  body_fits (Reply value) bytes s = value_fits value bytes s
  body_fits (Cast object handler args) bytes s = call_fits object handler args bytes s

  pub spelled_proper : (r : Request) (bytes : List ℕ) → Spells f r bytes → IsProper f r
  spelled_proper r bytes s =
      let numbers = s.second.second.second in
      record {
        to = numbers.first.fits;
        from = numbers.second.first.fits;
        ticket = numbers.second.second.first.fits;
        body = body_fits r.body numbers.second.second.back numbers.second.second.second;
        allowed = spelled_allowed r bytes s;
      }

-- ---- what is proper has a spelling

abbrev Some : (List ℕ → Type 0) → Type 0
Some P = (bytes : List ℕ) × P bytes

some_follows : (P Q : List ℕ → Type 0) → Some P → Some Q → Some (P ▸ Q)
some_follows P Q p q = (p.0 ++ q.0, record { front = p.0; back = q.0; first = p.1; second = q.1; whole = refl })

some_byte : (byte : ℕ) → Some (IsByte byte)
some_byte byte = (byte ∷ [], refl)

some_number : (w : Width) (n : ℕ) → n < 2 ^ bits w → Some (IsNumber w n)
some_number w n fits = (to_be_bytes w n, record { fits = fits; big_endian = refl })

some_signed : (n : ℤ) → FitsSigned w64 n → Some (IsSignedNumber n)
some_signed n fits = (to_be_bytes w64 (cast_unsigned w64 n), record { fits = fits; big_endian = refl })

some_value : (v : Value) → FitsValue v → Some (SpellsValue v)
some_value Void fits = some_byte 0
some_value (Int n) fits = some_follows (IsByte 1) (IsSignedNumber n) (some_byte 1) (some_signed n fits)
some_value Null fits = some_byte 2
some_value (Ptr a) fits =
    some_follows (IsByte 3) (SpellsAddress a) (some_byte 3)
    (some_follows (IsNumber w32 a.processor) (IsNumber w32 a.object ▸ IsNumber w32 a.offset) (some_number w32 a.processor fits.processor)
    (some_follows (IsNumber w32 a.object) (IsNumber w32 a.offset) (some_number w32 a.object fits.object) (some_number w32 a.offset fits.offset)))

some_given : (v : Value) → v ≢ Void → FitsValue v → Some (SpellsGiven v)
some_given v some fits = let spelled = some_value v fits in (spelled.0, record { some = some; spelled = spelled.1 })

some_each : (vs : List Value) → All FitsValue vs → All (λ value. value ≢ Void) vs → Some (SpellsEach vs)
some_each [] fits some = ([], refl)
some_each (v ∷ vs) fits some =
    some_follows (SpellsGiven v) (SpellsEach vs) (some_given v (some 0 v (omega arith)) (fits 0 v (omega arith)))
    (some_each vs (λ i other within. fits (suc i) other (omega arith)) (λ i other within. some (suc i) other (omega arith)))

some_spot : (spot : Spot) → FitsSpot spot → Some (SpellsSpot spot)
some_spot spot fits = some_follows (IsNumber w32 spot.object) (IsNumber w32 spot.offset) (some_number w32 spot.object fits.object) (some_number w32 spot.offset fits.offset)

module _ (v : Version) where
  count_fits : (n : ℕ) → n ≤ (format_of v).most → n < 2 ^ bits (format_of v).count
  count_fits n few = by v few
    where
      by : (w : Version) → n ≤ (format_of w).most → n < 2 ^ bits (format_of w).count
      by One few = omega arith
      by Two few = omega arith

  some_list : (vs : List Value) → All FitsValue vs → IsAllowedList (format_of v) vs → Some (SpellsList (format_of v) vs)
  some_list vs fits allowed =
      let count = some_number (format_of v).count (length vs) (count_fits (length vs) allowed.few) in
      some_follows (SpellsCount (format_of v) (length vs)) (SpellsEach vs) (count.0, record { few = allowed.few; number = count.1 }) (some_each vs fits allowed.some)

  some_call : (object handler : ℕ) (args : List Value) → FitsCall object handler args → IsAllowedList (format_of v) args → Some (SpellsCall (format_of v) object handler args)
  some_call object handler args fits allowed =
      some_follows (IsNumber w32 object) (IsNumber w16 handler ▸ SpellsList (format_of v) args) (some_number w32 object fits.object)
      (some_follows (IsNumber w16 handler) (SpellsList (format_of v) args) (some_number w16 handler fits.handler) (some_list args fits.args allowed))

  some_body : (b : Body) → FitsBody b → IsAllowed (format_of v) b → Some (SpellsBody (format_of v) b)
  some_body (Call object handler args) fits allowed = some_call object handler args fits allowed
  some_body (Get spot) fits allowed = some_spot spot fits
  some_body (Put spot value) fits allowed = some_follows (SpellsSpot spot) (SpellsGiven value) (some_spot spot fits.0) (some_given value allowed fits.1)
  some_body (Make class args) fits allowed = some_follows (IsNumber w16 class) (SpellsList (format_of v) args) (some_number w16 class fits.0) (some_list args fits.1 allowed)
  some_body (Reply value) fits allowed = some_value value fits
  some_body (Cast object handler args) fits allowed = some_call object handler args fits allowed

  pub proper_spelled : (r : Request) → IsProper (format_of v) r → Some (Spells (format_of v) r)
  proper_spelled r p =
      let P : List ℕ → Type 0 = SpellsBody (format_of v) r.body in
      some_follows (IsByte 0x52) (IsByte (format_of v).version ▸ IsByte (kind_byte r.body) ▸ IsNumber w32 r.to ▸ IsNumber w32 r.from ▸ IsNumber w32 r.ticket ▸ P) (some_byte 0x52)
      (some_follows (IsByte (format_of v).version) (IsByte (kind_byte r.body) ▸ IsNumber w32 r.to ▸ IsNumber w32 r.from ▸ IsNumber w32 r.ticket ▸ P) (some_byte (format_of v).version)
      (some_follows (IsByte (kind_byte r.body)) (IsNumber w32 r.to ▸ IsNumber w32 r.from ▸ IsNumber w32 r.ticket ▸ P) (some_byte (kind_byte r.body))
      (some_follows (IsNumber w32 r.to) (IsNumber w32 r.from ▸ IsNumber w32 r.ticket ▸ P) (some_number w32 r.to p.to)
      (some_follows (IsNumber w32 r.from) (IsNumber w32 r.ticket ▸ P) (some_number w32 r.from p.from)
      (some_follows (IsNumber w32 r.ticket) P (some_number w32 r.ticket p.ticket) (some_body r.body p.body p.allowed))))))
