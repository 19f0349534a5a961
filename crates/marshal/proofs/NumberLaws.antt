-- Laws of numbers in bytes.
use Rattle.std.proofs.Common.{◌≡◌, ℕ, zero, suc, ◌-◌, ◌<◌, ◌^◌, List, [], ◌∷◌, ◌++◌, length, replicate, ℤ, refl, sym, ◌∙◌, ap, subst, arith}
use Rattle.std.specs.Int.{Width, w8, w16, w32, w64, byte_len, byte_at, bytes_high_first, to_be_bytes, from_be_bytes, cast_unsigned, cast_signed}
use Rattle.std.proofs.lemmas.List.{length-append, length-replicate}
use Rattle.std.proofs.lemmas.Nat.{be_bytes_2, be_bytes_4, be_bytes_8, from_be_bytes-to_be_bytes_2, from_be_bytes-to_be_bytes_4, from_be_bytes-to_be_bytes_8}
use Rattle.std.proofs.lemmas.Int.{to_z-of_z, of_z-to_z}
use Rattle.std.proofs.Math.Facts.{Fits-of_z, Fits-of_lt, sfits_to_z}
use mir.Val.{bits}
use Rattle.marshal.specs.Spellings.{IsBytes, AnyBytes, IsNumber, IsSignedNumber}
use Rattle.marshal.proofs.Laws.{same_cut}

pub IsBytes-tail : (b : ℕ) (bytes : List ℕ) → IsBytes (b ∷ bytes) → IsBytes bytes
IsBytes-tail b bytes all i = all (suc i)

pub IsBytes-front : (s t : List ℕ) → IsBytes (s ++ t) → IsBytes s
IsBytes-front [] t all i = omega arith
IsBytes-front (b ∷ s) t all zero = all zero
IsBytes-front (b ∷ s) t all (suc i) = IsBytes-front s t (IsBytes-tail b (s ++ t) all) i

pub IsBytes-back : (s t : List ℕ) → IsBytes (s ++ t) → IsBytes t
IsBytes-back [] t all i = all i
IsBytes-back (b ∷ s) t all i = IsBytes-back s t (IsBytes-tail b (s ++ t) all) i

pub IsBytes-append : (s t : List ℕ) → IsBytes s → IsBytes t → IsBytes (s ++ t)
IsBytes-append [] t all more i = more i
IsBytes-append (b ∷ s) t all more zero = all zero
IsBytes-append (b ∷ s) t all more (suc i) = IsBytes-append s t (IsBytes-tail b s all) more i

pub IsBytes-zeros : (n : ℕ) → IsBytes (replicate n 0)
IsBytes-zeros zero i = omega arith
IsBytes-zeros (suc n) zero = omega arith
IsBytes-zeros (suc n) (suc i) = IsBytes-zeros n i

long_high_first : (k n : ℕ) → length (bytes_high_first k n) ≡ k
long_high_first zero n = refl
long_high_first (suc k) n = ap suc (long_high_first k n)

pub length-number : (w : Width) (n : ℕ) (bytes : List ℕ) → IsNumber w n bytes → length bytes ≡ byte_len w
length-number w n bytes number = ap length number.big_endian ∙ long_high_first (byte_len w) n

pub length-signed : (n : ℤ) (bytes : List ℕ) → IsSignedNumber n bytes → length bytes ≡ 8
length-signed n bytes number = ap length number.big_endian

byte_small : (k n : ℕ) → byte_at k n < 256
byte_small zero n = omega arith
byte_small (suc k) n = omega arith

IsBytes-high_first : (k n : ℕ) → IsBytes (bytes_high_first k n)
IsBytes-high_first zero n i = omega arith
IsBytes-high_first (suc k) n zero = byte_small k n
IsBytes-high_first (suc k) n (suc i) = IsBytes-high_first k n i

-- a number has as many bytes as its width
pub any_number : (w : Width) (n : ℕ) (bytes : List ℕ) → IsNumber w n bytes → AnyBytes (byte_len w) bytes
any_number w n bytes number = record { long = length-number w n bytes number; all = subst IsBytes (sym number.big_endian) (IsBytes-high_first (byte_len w) n) }

-- a number of that width can be read from its bytes
abbrev pub ReadsBack : Width → Type 0
ReadsBack w = (n : ℕ) → n < 2 ^ bits w → from_be_bytes w (to_be_bytes w n) ≡ n

pub reads_back_8 : ReadsBack w8
reads_back_8 n fits = omega arith

pub reads_back_16 : ReadsBack w16
reads_back_16 n fits = from_be_bytes-to_be_bytes_2 n fits

pub reads_back_32 : ReadsBack w32
reads_back_32 n fits = from_be_bytes-to_be_bytes_4 n fits

-- bytes begin with one number at most
pub one_number : (w : Width) → ReadsBack w → (m n : ℕ) (s t x y : List ℕ) → IsNumber w m s → IsNumber w n t → s ++ x ≡ t ++ y → (m ≡ n) × (s ≡ t) × (x ≡ y)
one_number w back m n s t x y p q e =
    let cut = same_cut s x t y (length-number w m s p ∙ sym (length-number w n t q)) e in
    let same : m ≡ n = sym (back m p.fits) ∙ ap (from_be_bytes w) (sym p.big_endian ∙ cut.0 ∙ q.big_endian) ∙ back n q.fits in
    (same, cut.0, cut.1)

pub one_signed : (m n : ℤ) (s t x y : List ℕ) → IsSignedNumber m s → IsSignedNumber n t → s ++ x ≡ t ++ y → (m ≡ n) × (s ≡ t) × (x ≡ y)
one_signed m n s t x y p q e =
    let cut = same_cut s x t y (length-signed m s p ∙ sym (length-signed n t q)) e in
    let unsigned : cast_unsigned w64 m ≡ cast_unsigned w64 n = sym (from_be_bytes-to_be_bytes_8 _ (Fits-of_z p.fits).fits) ∙ ap (from_be_bytes w64) (sym p.big_endian ∙ cut.0 ∙ q.big_endian) ∙ from_be_bytes-to_be_bytes_8 _ (Fits-of_z q.fits).fits in
    let same : m ≡ n = sym (to_z-of_z w64 m p.fits) ∙ ap (cast_signed w64) unsigned ∙ to_z-of_z w64 n q.fits in
    (same, cut.0, cut.1)

pub number_of_2 : (bytes : List ℕ) → AnyBytes 2 bytes → IsNumber w16 (from_be_bytes w16 bytes) bytes
number_of_2 bytes any =
    let fits = any.all in
    record { fits = omega (arith, fits 0, fits 1); big_endian = sym (be_bytes_2 bytes _ any.long any.all refl) }

pub number_of_4 : (bytes : List ℕ) → AnyBytes 4 bytes → IsNumber w32 (from_be_bytes w32 bytes) bytes
number_of_4 bytes any =
    let fits = any.all in
    record { fits = omega (arith, fits 0, fits 1, fits 2, fits 3); big_endian = sym (be_bytes_4 bytes _ any.long any.all refl) }

unsigned_fits : (bytes : List ℕ) → AnyBytes 8 bytes → from_be_bytes w64 bytes < 2 ^ 64
unsigned_fits bytes any = let fits = any.all in omega (arith, fits 0, fits 1, fits 2, fits 3, fits 4, fits 5, fits 6, fits 7)

pub signed_of_8 : (bytes : List ℕ) → AnyBytes 8 bytes → IsSignedNumber (cast_signed w64 (from_be_bytes w64 bytes)) bytes
signed_of_8 bytes any =
    let small = unsigned_fits bytes any in
    record { fits = sfits_to_z (Fits-of_lt small); big_endian = sym (be_bytes_8 bytes _ any.long any.all refl) ∙ ap (to_be_bytes w64) (sym (of_z-to_z w64 _ small)) }

-- what is added to fewer bytes to have so many
pub filled : (n : ℕ) (bytes : List ℕ) → IsBytes bytes → length bytes < n → (missing : List ℕ) × (0 < length missing) × AnyBytes n (bytes ++ missing)
filled n bytes all few =
    let missing = replicate (n - length bytes) 0 in
    let long : length missing ≡ n - length bytes = length-replicate (n - length bytes) 0 in
    (missing, omega arith, record { long = length-append bytes missing ∙ omega arith; all = IsBytes-append bytes missing all (IsBytes-zeros (n - length bytes)) })
