-- Sets of byte lists, as all that spells a kind of value, and how other bytes stand to such a set.
use Rattle.std.specs.Prelude.{◌≡◌, ℕ, ◌<◌, ◌^◌, List, [], ◌∷◌, ◌++◌, length, slice_index, ℤ, FitsSigned}
use Rattle.std.specs.Int.{Width, w64, to_be_bytes, cast_unsigned}
use mir.Val.{bits}

-- each is a byte
abbrev pub IsBytes : List ℕ → Type 0
IsBytes bytes = (i : ℕ) → slice_index bytes i < 256

-- any bytes, so many
pub record AnyBytes (n : ℕ) (bytes : List ℕ) : Type 0 where
  pub long : length bytes ≡ n
  pub all : IsBytes bytes

-- the one byte
abbrev pub IsByte : ℕ → List ℕ → Type 0
IsByte byte bytes = bytes ≡ byte ∷ []

-- the number in the bytes of that width, the highest first
pub record IsNumber (w : Width) (n : ℕ) (bytes : List ℕ) : Type 0 where
  pub fits : n < 2 ^ bits w
  pub big_endian : bytes ≡ to_be_bytes w n

-- the signed number of 64 bits in two's complement, the highest byte first
pub record IsSignedNumber (n : ℤ) (bytes : List ℕ) : Type 0 where
  pub fits : FitsSigned w64 n
  pub big_endian : bytes ≡ to_be_bytes w64 (cast_unsigned w64 n)

-- a spelling of the first set, and behind it one of the second
pub record Follows (P Q : List ℕ → Type 0) (bytes : List ℕ) : Type 0 where
  pub front : List ℕ
  pub back : List ℕ
  pub first : P front
  pub second : Q back
  pub whole : bytes ≡ front ++ back

infixr 40 ◌▸◌
abbrev pub ◌▸◌ : (List ℕ → Type 0) → (List ℕ → Type 0) → List ℕ → Type 0
P ▸ Q = Follows P Q

-- the bytes are a spelling, and this rest behind it
pub record Takes (P : List ℕ → Type 0) (bytes rest : List ℕ) : Type 0 where
  pub spelling : List ℕ
  pub spelled : P spelling
  pub whole : bytes ≡ spelling ++ rest

-- the bytes begin with a spelling of that length
pub record BeginsWith (P : List ℕ → Type 0) (bytes : List ℕ) (n : ℕ) : Type 0 where
  pub spelling : List ℕ
  pub rest : List ℕ
  pub spelled : P spelling
  pub long : length spelling ≡ n
  pub whole : bytes ≡ spelling ++ rest

-- the bytes are less than a whole spelling, which more bytes would make of them
pub record IsPartial (P : List ℕ → Type 0) (bytes : List ℕ) : Type 0 where
  pub missing : List ℕ
  pub some : 0 < length missing
  pub spelled : P (bytes ++ missing)

-- the bytes before this place are less than a whole spelling, and no spelling that begins with them has this byte next
pub record IsWrongAt (P : List ℕ → Type 0) (bytes : List ℕ) (at : ℕ) : Type 0 where
  pub before : List ℕ
  pub byte : ℕ
  pub after : List ℕ
  pub whole : bytes ≡ before ++ byte ∷ after
  pub place : length before ≡ at
  pub partial : IsPartial P before
  pub none : (more : List ℕ) → P (before ++ byte ∷ more) → ⊥

-- no two spellings begin one list of bytes, so none is a proper front of another
abbrev pub IsPrefixFree : (List ℕ → Type 0) → Type 0
IsPrefixFree P = (s t x y : List ℕ) → P s → P t → s ++ x ≡ t ++ y → s ≡ t

-- a spelling of the set is put at the end
pub record Puts (P : List ℕ → Type 0) (old new : List ℕ) : Type 0 where
  pub spelling : List ℕ
  pub spelled : P spelling
  pub whole : new ≡ old ++ spelling

-- something may have been put at the end
abbrev pub Extends : List ℕ → List ℕ → Type 0
Extends old new = (more : List ℕ) × (new ≡ old ++ more)
