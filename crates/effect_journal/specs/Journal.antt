-- The text of a journal: what a run did, one entry a line. This project's own.
use Rattle.std.specs.Prelude.{◌≡◌, ◌≢◌, ℕ, ◌+◌, ◌/◌, ◌%◌, ◌^◌, ◌<◌, ◌≤◌, Bool, true, false, List, [], ◌∷◌, ◌++◌, length, Option, Some, None, IsSome, IsNone, IfSome, Result, Ok, Err, FitsSigned, codes, decimal}
use Rattle.std.specs.Fmt.{signed_decimal, digit_glyph}
use Rattle.std.specs.Int.{w64}
use Rattle.std.specs.List.{AllByRecursion, join_with_byte}
use Rattle.global_ptr.specs.Texts.{fault_name}
use Rattle.global_ptr.specs.declared.ends.Standing.{Standing}
use Rattle.global_ptr.specs.declared.ends.Standing.TheVariants.{Done, Blocked, Fault, Limit}
use Rattle.effect_journal.specs.declared.entry.Entry.{Entry}
use Rattle.effect_journal.specs.declared.entry.Entry.TheVariants.{Run, Serve, Make, End}
use Rattle.effect_journal.specs.declared.entry.FaultBy.{FaultBy}
use Rattle.effect_journal.specs.declared.format.Version.{Version}
use Rattle.effect_journal.specs.declared.format.Version.TheVariants.{One, Two}
use Rattle.effect_journal.specs.declared.read.JournalFault.{JournalFault}
use Rattle.effect_journal.specs.declared.read.JournalFault.TheVariants.{Line as LineFault, NoEnd, Memory}

-- what one form of the text has of its own: its first line, and which bytes stand for a request
pub record Format : Type 1 where
  pub header : List ℕ
  pub allows : List ℕ → Type 0

-- one byte or more, and so many at most
abbrev pub IsUpTo : ℕ → List ℕ → Type 0
IsUpTo n request = (0 < length request) × (length request ≤ n)

abbrev pub longest_of : Version → ℕ
longest_of One = 126
longest_of Two = 53271

abbrev pub version_1 : Format
version_1 = record { header = codes "ccpp journal 1"; allows = IsUpTo 126 }

abbrev pub version_2 : Format
version_2 = record { header = codes "ccpp journal 2"; allows = IsUpTo 53271 }

abbrev pub format_of : Version → Format
format_of One = version_1
format_of Two = version_2

-- two lower-case digits a byte
abbrev pub hex : List ℕ → List ℕ
hex [] = []
hex (b ∷ bs) = digit_glyph false (b / 16) ∷ digit_glyph false (b % 16) ∷ hex bs

-- done V, blocked K, fault KIND line L, limit N
abbrev pub standing_words : Standing → List (List ℕ)
standing_words (Done v) = codes "done" ∷ signed_decimal v ∷ []
standing_words (Blocked k) = codes "blocked" ∷ decimal k ∷ []
standing_words (Fault fault) = codes "fault" ∷ fault_name fault.kind ∷ codes "line" ∷ decimal fault.line ∷ []
standing_words (Limit n) = codes "limit" ∷ decimal n ∷ []

-- by P T
abbrev pub by_words : Option FaultBy → List (List ℕ)
by_words None = []
by_words (Some by) = codes "by" ∷ decimal by.processor ∷ decimal by.thread ∷ []

-- run P T K, serve P HEX, make HEX, end STANDING
abbrev pub words : Entry → List (List ℕ)
words (Run processor thread steps) = codes "run" ∷ decimal processor ∷ decimal thread ∷ decimal steps ∷ []
words (Serve processor request) = codes "serve" ∷ decimal processor ∷ hex request ∷ []
words (Make request) = codes "make" ∷ hex request ∷ []
words (End standing by) = codes "end" ∷ standing_words standing ++ by_words by

-- the line of an entry: its words with single spaces between
abbrev pub line : Entry → List ℕ
line e = join_with_byte 32 (words e)

-- the lines of entries, each ended by a line feed
abbrev pub lines : List Entry → List ℕ
lines [] = []
lines (e ∷ es) = line e ++ 10 ∷ lines es

-- a thread is named exactly for a fault
abbrev pub NamesThread : Standing → Option FaultBy → Type 0
NamesThread (Done v) by = IsNone by
NamesThread (Blocked k) by = IsNone by
NamesThread (Fault fault) by = IsSome by
NamesThread (Limit n) by = IsNone by

-- the entry has a line where these requests are allowed: a run has a step or more, and its request is one of them
abbrev pub HasLine : (List ℕ → Type 0) → Entry → Type 0
HasLine allows (Run processor thread steps) = 0 < steps
HasLine allows (Serve processor request) = allows request
HasLine allows (Make request) = allows request
HasLine allows (End standing by) = NamesThread standing by

abbrev pub AreBytes : List ℕ → Type 0
AreBytes bytes = AllByRecursion (λ b. b < 2 ^ 8) bytes

abbrev pub StandingFits : Standing → Type 0
StandingFits (Done v) = FitsSigned w64 v
StandingFits (Blocked k) = k < 2 ^ 64
StandingFits (Fault fault) = fault.line < 2 ^ 32
StandingFits (Limit n) = n < 2 ^ 64

-- the numbers fit their fields
abbrev pub Fits : Entry → Type 0
Fits (Run processor thread steps) = (processor < 2 ^ 32) × (thread < 2 ^ 32) × (steps < 2 ^ 64)
Fits (Serve processor request) = (processor < 2 ^ 32) × AreBytes request
Fits (Make request) = AreBytes request
Fits (End standing by) = StandingFits standing × IfSome by (λ b. (b.processor < 2 ^ 32) × (b.thread < 2 ^ 32))

pub record IsEntry (allows : List ℕ → Type 0) (e : Entry) : Type 0 where
  pub has_line : HasLine allows e
  pub fits : Fits e

abbrev pub is_end : Entry → Bool
is_end (Run processor thread steps) = false
is_end (Serve processor request) = false
is_end (Make request) = false
is_end (End standing by) = true

-- the text begins with the header and these entries, none of them the end, each on a line of its own, and goes on with the rest
pub record Begins (format : Format) (entries : List Entry) (text rest : List ℕ) : Type 0 where
  pub spelled : text ≡ format.header ++ 10 ∷ (lines entries ++ rest)
  pub each : AllByRecursion (IsEntry format.allows) entries
  pub no_end : AllByRecursion (λ e. is_end e ≡ false) entries

-- The text is the journal of these entries: the header, a line for each entry, and the end once and last.
pub record Journal (format : Format) (entries : List Entry) (text : List ℕ) : Type 0 where
  pub before : List Entry
  pub standing : Standing
  pub by : Option FaultBy
  pub all : entries ≡ before ++ End standing by ∷ []
  pub begins : Begins format before text (line (End standing by) ++ 10 ∷ [])
  pub end : IsEntry format.allows (End standing by)

abbrev pub Lacks : ℕ → List ℕ → Type 0
Lacks byte text = AllByRecursion (λ b. b ≢ byte) text

abbrev pub AllowsNoEmpty : Format → Type 0
AllowsNoEmpty format = (request : List ℕ) → format.allows request → 0 < length request

-- The first line that is not spelled at its place, from 1.
pub data Misspelled (format : Format) (text : List ℕ) : ℕ → Type 0 where
  -- the first line is not the header
  Header : (first rest : List ℕ) → text ≡ first ++ 10 ∷ rest → Lacks 10 first → first ≢ format.header → Misspelled format text 1
  -- a later line is that of no entry
  Line : (entries : List Entry) (next rest : List ℕ) → Begins format entries text (next ++ 10 ∷ rest) → Lacks 10 next
      → ((e : Entry) → IsEntry format.allows e → next ≢ line e) → Misspelled format text (length entries + 2)
  -- bytes stand behind the end
  Behind : (entries : List Entry) (journal rest : List ℕ) → Journal format entries journal → rest ≢ [] → text ≡ journal ++ rest
      → Misspelled format text (length entries + 2)

-- The text ends before a whole end line, and each whole line is spelled at its place.
pub data Unended (format : Format) (text : List ℕ) : Type 0 where
  Empty : Lacks 10 text → Unended format text
  Open : (entries : List Entry) (rest : List ℕ) → Begins format entries text rest → Lacks 10 rest → Unended format text

-- What a text is. Want of memory says nothing of it.
abbrev pub Answers : Format → List ℕ → Result (List Entry) JournalFault → Type 0
Answers format text (Ok entries) = Journal format entries text
Answers format text (Err (LineFault line)) = Misspelled format text line
Answers format text (Err NoEnd) = Unended format text
Answers format text (Err Memory) = ⊥
