-- What `migrate` answers.
use Rattle.std.specs.Prelude.{ℕ, List, ◌++◌, Ok, Err, codes, decimal}
use Rattle.cc_core.specs.Report.{line}
use Rattle.effect_journal.specs.declared.read.JournalFault.TheVariants.{Line, NoEnd}
use Rattle.trace_check.specs.Migration.{Migrates}
use Rattle.ccpp_top.specs.declared.status.Status.{Status}
use Rattle.ccpp_top.specs.declared.status.Status.TheVariants.{Done, No}

-- the bytes are a journal of version 2, or one of version 1 whose requests are whole messages of that version
abbrev pub IsJournal : (bytes : List ℕ) → Type 0
IsJournal bytes = (new : List ℕ) × Migrates bytes (Ok new)

-- What is answered on a file of these bytes: the journal of version 2 that says the same; where they are no journal, the first line
-- that is refused, or that they end before a whole `end` line.
pub data Migrations (bytes : List ℕ) : (text : List ℕ) → Status → Type 0 where
  migrated : {new : List ℕ} → Migrates bytes (Ok new) → Migrations bytes new Done
  no_line : (at : ℕ) → Migrates bytes (Err (Line at)) → Migrations bytes (line (codes "no line " ++ decimal at)) No
  no_end : Migrates bytes (Err NoEnd) → Migrations bytes (line (codes "no end")) No
