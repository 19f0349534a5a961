-- How a line is read: word by word, from the left.
use Rattle.std.specs.Prelude.{ℕ, ◌+◌, ◌-◌, ◌*◌, ◌^◌, ◌==◌, Bool, false, ◌&&◌, ◌||◌, nat_lt, nat_le, find, if◌then◌else◌, List, [], ◌∷◌, length, take, drop, Option, Some, None, ℤ, pos, negsuc, codes}
use Rattle.std.specs.Char.{is_ascii_digit}
use Rattle.std.specs.List.{list_all, position}
use Rattle.std.specs.Option.{option_map, option_map_or}
use Rattle.std.specs.Str.{bytes_eq}
use Rattle.std.specs.Str.Parse.{digits_value}
use Rattle.global_ptr.specs.Texts.{fault_name}
use Rattle.global_ptr.specs.declared.ends.FaultKind.{FaultKind}
use Rattle.global_ptr.specs.declared.ends.FaultKind.TheVariants.{SyncTwice, Overflow, DivideByZero, IndexOut, NullPointer, StoreFull, ThreadsFull, ProcessorsFull, CallDepth}
use Rattle.global_ptr.specs.declared.ends.Standing.{Standing}
use Rattle.global_ptr.specs.declared.ends.Standing.TheVariants.{Done, Blocked, Fault, Limit}
use Rattle.effect_journal.specs.declared.entry.Entry.{Entry}
use Rattle.effect_journal.specs.declared.entry.Entry.TheVariants.{Run, Serve, Make, End}

infixl 10 ◌>>=◌
abbrev pub ◌>>=◌ : {A B : Type 0} → Option A → (A → Option B) → Option B
None >>= f = None
(Some x) >>= f = f x

-- what stands before the first such byte, and behind it
unfoldable pub cut : ℕ → List ℕ → Option (List ℕ × List ℕ)
cut byte text = option_map (λ at. (take at text, drop (at + 1) text)) (position (λ b. b == byte) text)

-- what stands behind this word and a space
unfoldable pub after : List ℕ → List ℕ → Option (List ℕ)
after word text = do
  parts ← cut 32 text
  if bytes_eq parts.0 word then Some parts.1 else None

-- `0`, or a digit 1 to 9 and digits
unfoldable pub is_natural : List ℕ → Bool
is_natural [] = false
is_natural (d ∷ ds) = if d == 48 then length ds == 0 else list_all is_ascii_digit (d ∷ ds)

-- the natural number of 64 bits that a word spells, and of 32 bits
unfoldable pub natural_of : List ℕ → Option ℕ
natural_of word = if is_natural word && nat_lt (digits_value 10 word) (2 ^ 64) then Some (digits_value 10 word) else None

unfoldable pub short_natural_of : List ℕ → Option ℕ
short_natural_of word = do
  n ← natural_of word
  if nat_lt n (2 ^ 32) then Some n else None

-- the number of 64 bits that a word spells: a natural, or `-` and a natural that is not 0
unfoldable pub negative_of : List ℕ → Option ℤ
negative_of digits = do
  n ← natural_of digits
  if n == 0 || nat_lt (2 ^ 63) n then None else Some (negsuc (n - 1))

unfoldable pub positive_of : List ℕ → Option ℤ
positive_of word = do
  n ← natural_of word
  if nat_lt n (2 ^ 63) then Some (pos n) else None

unfoldable pub integer_of : List ℕ → Option ℤ
integer_of [] = None
integer_of (b ∷ bs) = if b == 45 then negative_of bs else positive_of (b ∷ bs)

unfoldable pub hex_value : ℕ → Option ℕ
hex_value digit =
    if nat_le 48 digit && nat_le digit 57 then Some (digit - 48)
    else (if nat_le 97 digit && nat_le digit 102 then Some (digit - 97 + 10) else None)

-- the bytes of some pairs of digits
abbrev pub unhex : List ℕ → Option (List ℕ)
unhex [] = Some []
unhex (d ∷ []) = None
unhex (high ∷ low ∷ ds) = do
  h ← hex_value high
  l ← hex_value low
  rest ← unhex ds
  Some ((16 * h + l) ∷ rest)

-- the request of at most so many bytes
unfoldable pub request_of : ℕ → List ℕ → Option (List ℕ)
request_of longest digits = if length digits == 0 || nat_lt (2 * longest) (length digits) then None else unhex digits

abbrev pub kinds : List FaultKind
kinds = SyncTwice ∷ Overflow ∷ DivideByZero ∷ IndexOut ∷ NullPointer ∷ StoreFull ∷ ThreadsFull ∷ ProcessorsFull ∷ CallDepth ∷ []

unfoldable pub kind_of : List ℕ → Option FaultKind
kind_of name = find (λ kind. bytes_eq (fault_name kind) name) kinds

-- P T K
unfoldable pub run_of : List ℕ → Option Entry
run_of text = do
  first ← cut 32 text
  second ← cut 32 first.1
  processor ← short_natural_of first.0
  thread ← short_natural_of second.0
  steps ← natural_of second.1
  if steps == 0 then None else Some (Run processor thread steps)

-- P HEX
unfoldable pub serve_of : ℕ → List ℕ → Option Entry
serve_of longest text = do
  parts ← cut 32 text
  processor ← short_natural_of parts.0
  request ← request_of longest parts.1
  Some (Serve processor request)

-- HEX
unfoldable pub make_of : ℕ → List ℕ → Option Entry
make_of longest text = do
  request ← request_of longest text
  Some (Make request)

-- KIND line L by P T
unfoldable pub fault_of : List ℕ → Option Entry
fault_of text = do
  name ← cut 32 text
  line ← after (codes "line") name.1
  place ← cut 32 line
  by ← after (codes "by") place.1
  names ← cut 32 by
  kind ← kind_of name.0
  line ← short_natural_of place.0
  processor ← short_natural_of names.0
  thread ← short_natural_of names.1
  Some (End (Fault (record { kind = kind; line = line })) (Some (record { processor = processor; thread = thread })))

-- reads what stands behind this word, and where another one stands gives the other answer
abbrev pub behind : List ℕ → (List ℕ → Option Entry) → List ℕ → Option Entry → Option Entry
behind word read text other = option_map_or read (after word text) other

abbrev pub ended : {A : Type 0} → (A → Standing) → Option A → Option Entry
ended standing o = option_map (λ x. End (standing x) None) o

-- done V, blocked K, fault KIND line L by P T, limit N
unfoldable pub end_of : List ℕ → Option Entry
end_of text =
    behind (codes "done") (λ v. ended Done (integer_of v)) text
    (behind (codes "blocked") (λ k. ended Blocked (natural_of k)) text
    (behind (codes "fault") fault_of text
    (behind (codes "limit") (λ n. ended Limit (natural_of n)) text None)))

-- run P T K, serve P HEX, make HEX, end STANDING
unfoldable pub entry_of : ℕ → List ℕ → Option Entry
entry_of longest line =
    behind (codes "run") run_of line
    (behind (codes "serve") (serve_of longest) line
    (behind (codes "make") (make_of longest) line
    (behind (codes "end") end_of line None)))
