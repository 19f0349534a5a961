-- Laws of the spelling of values.
use Rattle.std.proofs.Common.{◌≡◌, ℕ, ◌+◌, ◌<◌, ◌≤◌, List, [], ◌∷◌, ◌++◌, length, take, drop, refl, sym, ◌∙◌, ap, subst, arith, Result, Ok, Err, length-append}
use Rattle.std.specs.Int.{w32, w64, from_be_bytes, cast_signed}
use Rattle.std.proofs.lemmas.List.{length-take-le, length-drop, take-append-drop, append_assoc}
use Rattle.global_ptr.specs.declared.values.Addr.{Addr}
use Rattle.global_ptr.specs.declared.values.Value.{Value}
use Rattle.global_ptr.specs.declared.values.Value.TheVariants.{Void, Int, Null, Ptr}
use Rattle.marshal.specs.declared.read.ValueFault.{ValueFault}
use Rattle.marshal.specs.declared.read.ValueFault.TheVariants.{Short, BadTag}
use Rattle.marshal.specs.Spellings.{IsBytes, AnyBytes, IsByte, IsNumber, IsSignedNumber, ◌▸◌, BeginsWith, IsPartial, IsWrongAt, IsPrefixFree}
use Rattle.marshal.specs.Values.{SpellsAddress, SpellsValue, IsValue, Reads}
use Rattle.marshal.proofs.Laws.{same_cut, one_wrong, whole_is_not_partial, wrong_is_not_partial, wrong_is_not_whole}
use Rattle.marshal.proofs.NumberLaws.{IsBytes-front, IsBytes-back, filled, length-number, length-signed, reads_back_32, one_number, one_signed, number_of_4, signed_of_8}

-- any bytes are cut anywhere
pub cut_any : (m n : ℕ) (bytes : List ℕ) → AnyBytes (m + n) bytes → (AnyBytes m ▸ AnyBytes n) bytes
cut_any m n bytes any =
    let long = any.long in
    let whole : take m bytes ++ drop m bytes ≡ bytes = take-append-drop m bytes in
    let all : IsBytes (take m bytes ++ drop m bytes) = subst IsBytes (sym whole) any.all in
    record {
      front = take m bytes;
      back = drop m bytes;
      first = record { long = length-take-le m bytes (omega arith); all = IsBytes-front (take m bytes) (drop m bytes) all };
      second = record { long = length-drop m bytes ∙ omega arith; all = IsBytes-back (take m bytes) (drop m bytes) all };
      whole = sym whole;
    }

-- any four bytes are a number
pub next_number : (n : ℕ) (bytes : List ℕ) → AnyBytes (4 + n) bytes → (number : ℕ) × (IsNumber w32 number ▸ AnyBytes n) bytes
next_number n bytes any =
    let cut = cut_any 4 n bytes any in
    (from_be_bytes w32 cut.front, record { front = cut.front; back = cut.back; first = number_of_4 cut.front cut.first; second = cut.second; whole = cut.whole })

-- any twelve bytes are an address
pub address_of : (bytes : List ℕ) → AnyBytes 12 bytes → (address : Addr) × SpellsAddress address bytes
address_of bytes any =
    let processor = next_number 8 bytes any in
    let object = next_number 4 processor.1.back processor.1.second in
    let offset = from_be_bytes w32 object.1.back in (
      record { processor = processor.0; object = object.0; offset = offset },
      record {
        front = processor.1.front;
        back = processor.1.back;
        first = processor.1.first;
        whole = processor.1.whole;
        second =
            record { front = object.1.front; back = object.1.back; first = object.1.first; whole = object.1.whole; second = number_of_4 object.1.back object.1.second };
      },
    )

pub length-follows : (P Q : List ℕ → Type 0) (m n : ℕ) → ((bytes : List ℕ) → P bytes → length bytes ≡ m) → ((bytes : List ℕ) → Q bytes → length bytes ≡ n) → (bytes : List ℕ) → (P ▸ Q) bytes → length bytes ≡ m + n
length-follows P Q m n p q bytes f =
    let front = p f.front f.first in
    let back = q f.back f.second in
    ap length f.whole ∙ length-append f.front f.back ∙ omega arith

pub length-address : (a : Addr) (bytes : List ℕ) → SpellsAddress a bytes → length bytes ≡ 12
length-address a = length-follows _ _ 4 8 (length-number w32 a.processor) (length-follows _ _ 4 4 (length-number w32 a.object) (length-number w32 a.offset))

-- a value has 1 to 13 bytes
pub length-value : (v : Value) (bytes : List ℕ) → SpellsValue v bytes → (0 < length bytes) × (length bytes ≤ 13)
length-value Void bytes p = let long : length bytes ≡ 1 = ap length p in (omega arith, omega arith)
length-value (Int n) bytes p = let long = length-follows _ _ 1 8 (λ b e. ap length e) (length-signed n) bytes p in (omega arith, omega arith)
length-value Null bytes p = let long : length bytes ≡ 1 = ap length p in (omega arith, omega arith)
length-value (Ptr a) bytes p = let long = length-follows _ _ 1 12 (λ b e. ap length e) (length-address a) bytes p in (omega arith, omega arith)

-- what one_number says, of any set of spellings of values of a type
abbrev pub IsOne : {A : Type 0} → (A → List ℕ → Type 0) → (A → List ℕ → Type 0) → Type 0
IsOne {A} P Q = (a b : A) (s t x y : List ℕ) → P a s → Q b t → s ++ x ≡ t ++ y → (a ≡ b) × (s ≡ t) × (x ≡ y)

-- two spellings that begin one list of bytes, each a front and a back, are the same where the fronts are and where the backs are
pub one_pair : {A B : Type 0} (P : A → List ℕ → Type 0) (Q : B → List ℕ → Type 0) → IsOne P P → IsOne Q Q → (a c : A) (b d : B) (s t x y : List ℕ) → (P a ▸ Q b) s → (P c ▸ Q d) t → s ++ x ≡ t ++ y → (a ≡ c) × (b ≡ d) × (s ≡ t) × (x ≡ y)
one_pair P Q one_P one_Q a c b d s t x y p q e =
    let regrouped : p.front ++ (p.back ++ x) ≡ q.front ++ (q.back ++ y) = sym (append_assoc p.front p.back x) ∙ ap (λ l. l ++ x) (sym p.whole) ∙ e ∙ ap (λ l. l ++ y) q.whole ∙ append_assoc q.front q.back y in
    let first = one_P a c _ _ _ _ p.first q.first regrouped in
    let second = one_Q b d _ _ _ _ p.second q.second first.2 in
    (first.0, second.0, p.whole ∙ cc (first.1, second.1) ∙ sym q.whole, second.2)

one_32 : IsOne (IsNumber w32) (IsNumber w32)
one_32 = one_number w32 reads_back_32

-- bytes begin with one address at most
pub one_address : IsOne SpellsAddress SpellsAddress
one_address a b s t x y p q e =
    let same = one_pair (IsNumber w32) (λ (n : ℕ × ℕ). IsNumber w32 n.0 ▸ IsNumber w32 n.1) one_32
    (λ m n s t x y p q e.
    let both = one_pair (IsNumber w32) (IsNumber w32) one_32 one_32 m.0 n.0 m.1 n.1 s t x y p q e in
    let same : ◌≡◌ {A = ℕ × ℕ} (m.0, m.1) (n.0, n.1) = cc (both.0, both.1) in
    (same, both.2, both.3))
    a.processor b.processor (a.object, a.offset) (b.object, b.offset) s t x y p q e in
    (record_of a b same.0 (ap (λ n. n.0) same.1) (ap (λ n. n.1) same.1), same.2, same.3)
  where
    record_of : (a b : Addr) → a.processor ≡ b.processor → a.object ≡ b.object → a.offset ≡ b.offset → a ≡ b
    record_of a b p o f =
        let same : ◌≡◌ {A = Addr} (record { processor = a.processor; object = a.object; offset = a.offset }) (record { processor = b.processor; object = b.object; offset = b.offset }) = cc in
        same

-- a tag, and what follows it
tagged : (tag : ℕ) (P : List ℕ → Type 0) (bytes : List ℕ) → (IsByte tag ▸ P) bytes → (rest : List ℕ) × P rest × (bytes ≡ tag ∷ rest)
tagged tag P bytes f = (f.back, f.second, f.whole ∙ ap (λ front. front ++ f.back) f.first)

-- the first byte of a value's spelling
abbrev pub tag_of : Value → ℕ
tag_of Void = 0
tag_of (Int n) = 1
tag_of Null = 2
tag_of (Ptr a) = 3

pub first_byte : (v : Value) (bytes : List ℕ) → SpellsValue v bytes → (rest : List ℕ) × (bytes ≡ tag_of v ∷ rest)
first_byte Void bytes p = ([], p)
first_byte (Int n) bytes p = let cut = tagged 1 (IsSignedNumber n) bytes p in (cut.0, cut.2)
first_byte Null bytes p = ([], p)
first_byte (Ptr a) bytes p = let cut = tagged 3 (SpellsAddress a) bytes p in (cut.0, cut.2)

same_tag : (v w : Value) (s t x y : List ℕ) → SpellsValue v s → SpellsValue w t → s ++ x ≡ t ++ y → tag_of v ≡ tag_of w
same_tag v w s t x y p q e =
    let a = first_byte v s p in
    let b = first_byte w t q in
    let both : tag_of v ∷ (a.0 ++ x) ≡ tag_of w ∷ (b.0 ++ y) = ap (λ l. l ++ x) (sym a.1) ∙ e ∙ ap (λ l. l ++ y) b.1 in
    cc

-- bytes begin with one value at most
pub one_value : IsOne SpellsValue SpellsValue
one_value Void Void s t x y p q e =
    let cut = same_cut s x t y (ap length (p ∙ sym q)) e in
    (refl, cut.0, cut.1)
one_value (Int m) (Int n) s t x y p q e =
    let a = tagged 1 (IsSignedNumber m) s p in
    let b = tagged 1 (IsSignedNumber n) t q in
    let both : 1 ∷ (a.0 ++ x) ≡ 1 ∷ (b.0 ++ y) = ap (λ l. l ++ x) (sym a.2) ∙ e ∙ ap (λ l. l ++ y) b.2 in
    let rest : a.0 ++ x ≡ b.0 ++ y = cc in
    let one = one_signed m n a.0 b.0 x y a.1 b.1 rest in
    (ap Int one.0, a.2 ∙ ap (λ l. 1 ∷ l) one.1 ∙ sym b.2, one.2)
one_value Null Null s t x y p q e =
    let cut = same_cut s x t y (ap length (p ∙ sym q)) e in
    (refl, cut.0, cut.1)
one_value (Ptr m) (Ptr n) s t x y p q e =
    let a = tagged 3 (SpellsAddress m) s p in
    let b = tagged 3 (SpellsAddress n) t q in
    let both : 3 ∷ (a.0 ++ x) ≡ 3 ∷ (b.0 ++ y) = ap (λ l. l ++ x) (sym a.2) ∙ e ∙ ap (λ l. l ++ y) b.2 in
    let rest : a.0 ++ x ≡ b.0 ++ y = cc in
    let one = one_address m n a.0 b.0 x y a.1 b.1 rest in
    (ap Ptr one.0, a.2 ∙ ap (λ l. 3 ∷ l) one.1 ∙ sym b.2, one.2)
one_value v w s t x y p q e = let same = same_tag v w s t x y p q e in absurd (omega arith)

pub IsValue-free : IsPrefixFree IsValue
IsValue-free s t x y p q e = let one = one_value p.0 q.0 s t x y p.1 q.1 e in one.1

-- nothing, and a tag without all that follows it, are less than a value
pub nothing_is_partial : IsPartial IsValue []
nothing_is_partial = record { missing = 0 ∷ []; some = omega arith; spelled = (Void, refl) }

pub number_is_partial : (rest : List ℕ) → IsBytes rest → length rest < 8 → IsPartial IsValue (1 ∷ rest)
number_is_partial rest all few =
    let more = filled 8 rest all few in
    record { missing = more.0; some = more.1; spelled = (Int (cast_signed w64 (from_be_bytes w64 (rest ++ more.0))), record { front = 1 ∷ []; back = rest ++ more.0; first = refl; second = signed_of_8 (rest ++ more.0) more.2; whole = refl }) }

pub address_is_partial : (rest : List ℕ) → IsBytes rest → length rest < 12 → IsPartial IsValue (3 ∷ rest)
address_is_partial rest all few =
    let more = filled 12 rest all few in
    let address = address_of (rest ++ more.0) more.2 in
    record { missing = more.0; some = more.1; spelled = (Ptr address.0, record { front = 3 ∷ []; back = rest ++ more.0; first = refl; second = address.1; whole = refl }) }

-- no value begins with a byte above the tags
pub no_tag_is_wrong : (byte : ℕ) (rest : List ℕ) → 3 < byte → IsWrongAt IsValue (byte ∷ rest) 0
no_tag_is_wrong byte rest above = record { before = []; byte = byte; after = rest; whole = refl; place = refl; partial = nothing_is_partial; none = λ more p. none p.0 more p.1 }
  where
    tag_is_low : (v : Value) → tag_of v ≤ 3
    tag_is_low Void = omega arith
    tag_is_low (Int n) = omega arith
    tag_is_low Null = omega arith
    tag_is_low (Ptr a) = omega arith

    none : (v : Value) (more : List ℕ) → SpellsValue v (byte ∷ more) → ⊥
    none v more p =
        let first = first_byte v (byte ∷ more) p in
        let is : byte ≡ tag_of v = cc in
        let low = tag_is_low v in
        omega arith

begins_some : (v : Value) (bytes : List ℕ) (n : ℕ) → BeginsWith (SpellsValue v) bytes n → BeginsWith IsValue bytes n
begins_some v bytes n b = record { spelling = b.spelling; rest = b.rest; spelled = (v, b.spelled); long = b.long; whole = b.whole }

-- what is read is the one answer
pub reads_value : (bytes : List ℕ) (answer : Result (Value × ℕ) ValueFault) → Reads bytes answer → (v : Value) (n : ℕ) → BeginsWith (SpellsValue v) bytes n → answer ≡ Ok (v, n)
reads_value bytes (Ok found) r v n b =
    let one = one_value found.0 v _ _ _ _ r.spelled b.spelled (sym r.whole ∙ b.whole) in
    let long : found.1 ≡ n = sym r.long ∙ ap length one.1 ∙ b.long in
    let same : ◌≡◌ {A = Value × ℕ} (found.0, found.1) (v, n) = cc (one.0, long) in
    ap Ok same
reads_value bytes (Err Short) r v n b = absurd (whole_is_not_partial IsValue IsValue-free bytes n (begins_some v bytes n b) r)
reads_value bytes (Err (BadTag at)) r v n b = absurd (wrong_is_not_whole IsValue IsValue-free bytes at n r.1 (begins_some v bytes n b))

pub reads_short : (bytes : List ℕ) (answer : Result (Value × ℕ) ValueFault) → Reads bytes answer → IsPartial IsValue bytes → answer ≡ Err Short
reads_short bytes (Ok found) r p = absurd (whole_is_not_partial IsValue IsValue-free bytes found.1 (begins_some found.0 bytes found.1 r) p)
reads_short bytes (Err Short) r p = refl
reads_short bytes (Err (BadTag at)) r p = absurd (wrong_is_not_partial IsValue bytes at r.1 p)

pub reads_wrong : (bytes : List ℕ) (answer : Result (Value × ℕ) ValueFault) → Reads bytes answer → (at : ℕ) → IsWrongAt IsValue bytes at → answer ≡ Err (BadTag at)
reads_wrong bytes (Ok found) r at w = absurd (wrong_is_not_whole IsValue IsValue-free bytes at found.1 w (begins_some found.0 bytes found.1 r))
reads_wrong bytes (Err Short) r at w = absurd (wrong_is_not_partial IsValue bytes at w r)
reads_wrong bytes (Err (BadTag place)) r at w = ap (λ k. Err (BadTag k)) (one_wrong IsValue bytes place at r.1 w)
