-- The journal of version 2 that says the same as one of version 1. This project's own.
use Rattle.std.specs.Prelude.{◌≡◌, ℕ, List, [], ◌∷◌, ◌++◌, Result, Ok, Err}
use Rattle.effect_journal.specs.declared.entry.Entry.{Entry}
use Rattle.effect_journal.specs.declared.entry.Entry.TheVariants.{Run, Serve, Make, End}
use Rattle.effect_journal.specs.declared.read.JournalFault.{JournalFault}
use Rattle.effect_journal.specs.Journal.{Format, version_1, version_2, IsEntry, line, Journal, Answers}
use Rattle.rsr_message.specs.declared.requests.Request.{Request}
use Rattle.rsr_message.specs.Requests.{Spells}
use Rattle.rsr_message.specs.Requests as message

-- one whole message of version 1
abbrev pub IsMessage1 : List ℕ → Type 0
IsMessage1 bytes = (request : Request) × Spells message.version_1 request bytes

-- the journals of version 1 whose requests are such messages
abbrev pub messages_1 : Format
messages_1 = record { header = version_1.header; allows = IsMessage1 }

-- one request in the bytes of version 1 and of version 2
pub record SameRequest (old new : List ℕ) : Type 0 where
  pub request : Request
  pub first : Spells message.version_1 request old
  pub second : Spells message.version_2 request new

-- one entry, its request in version 1 and in version 2
abbrev pub SameEntry : Entry → Entry → Type 0
SameEntry (Run processor thread steps) f = f ≡ Run processor thread steps
SameEntry (Serve processor old) (Serve other new) = (processor ≡ other) × SameRequest old new
SameEntry (Make old) (Make new) = SameRequest old new
SameEntry (End standing by) f = f ≡ End standing by
SameEntry e f = ⊥

abbrev pub SameEntries : List Entry → List Entry → Type 0
SameEntries [] [] = Unit {0}
SameEntries (e ∷ es) (f ∷ fs) = SameEntry e f × SameEntries es fs
SameEntries es fs = ⊥

-- the first line is that of version 1
abbrev pub IsOfVersion1 : List ℕ → Type 0
IsOfVersion1 text = (rest : List ℕ) × (text ≡ version_1.header ++ 10 ∷ rest)

-- the journal of version 2 with the same entries is answered, or the same fault
abbrev pub Rewrites : Result (List Entry) JournalFault → Result (List ℕ) JournalFault → Type 0
Rewrites (Ok es) answer = (fs : List Entry) × (new : List ℕ) × SameEntries es fs × Journal version_2 fs new × (answer ≡ Ok new)
Rewrites (Err fault) answer = answer ≡ Err fault

-- the text itself is answered, or the same fault
abbrev pub Keeps : List ℕ → Result (List Entry) JournalFault → Result (List ℕ) JournalFault → Type 0
Keeps text (Ok es) answer = answer ≡ Ok text
Keeps text (Err fault) answer = answer ≡ Err fault

-- What is answered of a text. Where its first line is that of version 1 it is read so, and each request must be a whole message of
-- version 1; any other text is read in version 2.
pub data Migrates (text : List ℕ) (answer : Result (List ℕ) JournalFault) : Type 0 where
  First : IsOfVersion1 text → (found : Result (List Entry) JournalFault) → Answers messages_1 text found → Rewrites found answer → Migrates text answer
  Other : (IsOfVersion1 text → ⊥) → (found : Result (List Entry) JournalFault) → Answers version_2 text found → Keeps text found answer → Migrates text answer

-- a text of version 1 is so rewritten
pub record Rewritten (text : List ℕ) (answer : Result (List ℕ) JournalFault) : Type 0 where
  pub found : Result (List Entry) JournalFault
  pub answers : Answers messages_1 text found
  pub rewrites : Rewrites found answer

-- the line is that of an entry of version 1, and this is the same in version 2
pub record LineMigrates (text : List ℕ) (new : Entry) : Type 0 where
  pub old : Entry
  pub spelled : text ≡ line old
  pub entry : IsEntry messages_1.allows old
  pub same : SameEntry old new
  pub allowed : IsEntry version_2.allows new
