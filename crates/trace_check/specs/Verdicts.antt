-- What is found of a journal.
use Rattle.std.specs.Prelude.{◌≡◌, List, [], ◌∷◌, ◌++◌, false, Option, ℤ}
use Rattle.std.specs.List.{AllByRecursion}
use Rattle.global_ptr.specs.declared.ends.Standing.{Standing}
use Rattle.cc_core.specs.Core.{Program}
use Rattle.cc_explains.specs.Explains.{Explains}
use Rattle.cc_explains.specs.Unexplained.{FirstUnexplained}
use Rattle.effect_journal.specs.declared.entry.Entry.{Entry}
use Rattle.effect_journal.specs.declared.entry.Entry.TheVariants.{End}
use Rattle.effect_journal.specs.declared.entry.FaultBy.{FaultBy}
use Rattle.effect_journal.specs.Journal.{is_end}
use Rattle.trace_check.specs.declared.verdict.Verdict.{Verdict}
use Rattle.trace_check.specs.declared.verdict.Verdict.TheVariants.{Yes, No}

-- an end stands once, and last
pub record EndsOnce (entries : List Entry) : Type 0 where
  pub before : List Entry
  pub standing : Standing
  pub by : Option FaultBy
  pub whole : entries ≡ before ++ End standing by ∷ []
  pub no_end : AllByRecursion (λ e. is_end e ≡ false) before

-- a run of p from these ints explains the entries, or this is the first entry that none explains, and why
abbrev pub IsVerdict : Program → List ℤ → List Entry → Verdict → Type 0
IsVerdict p ints entries (Yes standing) = Explains p ints entries standing
IsVerdict p ints entries (No entry why) = FirstUnexplained p ints entries entry why
