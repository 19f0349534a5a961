-- What `trace` answers.
use Rattle.std.specs.Prelude.{◌≡◌, ◌≢◌, ◌⊎◌, ℕ, ℤ, List, ◌++◌, length, Option, Err, codes, decimal}
use Rattle.global_ptr.specs.declared.ends.Standing.{Standing}
use Rattle.ccpp_edge.specs.Count.{Rose}
use Rattle.ccpp_edge.specs.Shelf.{Files, HoldsIfTold, Lacks}
use Rattle.cc_core.specs.Report.{line, standing_text}
use Rattle.cc_explains.specs.declared.why.Why.{Why}
use Rattle.cc_explains.specs.declared.why.Why.TheVariants as why
use Rattle.cc_explains.specs.Explains.{Explains}
use Rattle.cc_shared.specs.OneAnswer.{core_of}
use Rattle.cc_tree.specs.declared.declarations.Program.{Program}
use Rattle.cc_types.specs.Program.{main_params}
use Rattle.effect_journal.specs.declared.entry.Entry.{Entry}
use Rattle.effect_journal.specs.declared.read.JournalFault.TheVariants.{Line, NoEnd}
use Rattle.effect_journal.specs.Journal.{Answers, Journal, version_2}
use Rattle.trace_check.specs.declared.verdict.Verdict.{Verdict}
use Rattle.trace_check.specs.declared.verdict.Verdict.TheVariants.{Yes}
use Rattle.trace_check.specs.declared.verdict.Verdict.TheVariants as verdict
use Rattle.trace_check.specs.Verdicts.{IsVerdict}
use Rattle.ccpp_source.specs.Source.{IsSource}
use Rattle.ccpp_words.specs.Words.{AskToTrace}
use Rattle.ccpp_top.specs.declared.status.Status.{Status}
use Rattle.ccpp_top.specs.declared.status.Status.TheVariants.{Done, ReadFault, No, NoFile, IntCount}
use Rattle.ccpp_top.specs.Checks.{OnSource}

-- the name of a reason
abbrev pub why_name : Why → List ℕ
why_name why.NoThread = codes "NoThread"
why_name why.OtherRequest = codes "OtherRequest"
why_name why.NotEnabled = codes "NotEnabled"
why_name why.Faults = codes "Faults"
why_name why.OtherEnd = codes "OtherEnd"

-- how a verdict is said, and with which status: the standing; or the number from 0 of the first entry that no run explains, and why
abbrev pub verdict_text : Verdict → List ℕ
verdict_text (Yes standing) = codes "yes " ++ standing_text standing
verdict_text (verdict.No entry because) = codes "no entry " ++ (decimal entry ++ (codes " " ++ why_name because))

abbrev pub verdict_status : Verdict → Status
verdict_status (Yes standing) = Done
verdict_status (verdict.No entry because) = No

-- What is said of the bytes of a journal: the verdict on its entries, as entries of a run of the program from these ints;
-- or why the bytes are no journal.
pub data Verdicts (ints : List ℤ) (program : Program) (bytes : List ℕ) : (text : List ℕ) → Status → Type 0 where
  judged : (entries : List Entry) (verdict : Verdict) → Journal version_2 entries bytes → IsVerdict (core_of program) ints entries verdict → Verdicts ints program bytes (line (verdict_text verdict)) (verdict_status verdict)
  no_line : (at : ℕ) → Answers version_2 bytes (Err (Line at)) → Verdicts ints program bytes (line (codes "no line " ++ decimal at)) No
  no_end : Answers version_2 bytes (Err NoEnd) → Verdicts ints program bytes (line (codes "no end")) No

-- held: what the shelf tells that it holds. before, after: its count of faults
module _ (held : Option Files) (before after : ℕ) where
  -- what is said of a file that is not read
  pub data Unread (name : List ℕ) : (text : List ℕ) → Status → Type 0 where
    missing : Lacks held name ⊎ Rose before after → Unread name (line (codes "no file " ++ name)) NoFile
    failed : Rose before after → Unread name (line (codes "read fault")) ReadFault

  -- What is said of a program: that `main` takes another number of ints; or, of the journal's file, that it is not read, or what is said of its bytes.
  pub data TracesProgram (journal : List ℕ) (ints : List ℤ) (program : Program) : (text : List ℕ) → Status → Type 0 where
    int_count : main_params program.items ≢ length ints → TracesProgram journal ints program (line (codes "main takes " ++ (decimal (main_params program.items) ++ (codes ", got " ++ decimal (length ints))))) IntCount
    no_journal : {text : List ℕ} {end : Status} → main_params program.items ≡ length ints → Unread journal text end → TracesProgram journal ints program text end
    traced : (bytes : List ℕ) {text : List ℕ} {end : Status} → main_params program.items ≡ length ints → HoldsIfTold held journal bytes → Verdicts ints program bytes text end → TracesProgram journal ints program text end

  -- What `trace` answers on two files: that the first is not read; why it is refused, exactly where it is no source; else what is said of its program.
  pub data Traces (file journal : List ℕ) (ints : List ℤ) : (text : List ℕ) → Status → Type 0 where
    no_program : {text : List ℕ} {end : Status} → Unread file text end → Traces file journal ints text end
    on_source : (source : List ℕ) {text : List ℕ} {end : Status} → HoldsIfTold held file source → OnSource (TracesProgram journal ints) source text end → Traces file journal ints text end

-- what is said of a program and the bytes of a journal
pub data TracesOn (ints : List ℤ) (bytes : List ℕ) (program : Program) : (text : List ℕ) → Status → Type 0 where
  other_count : main_params program.items ≢ length ints → TracesOn ints bytes program (line (codes "main takes " ++ (decimal (main_params program.items) ++ (codes ", got " ++ decimal (length ints))))) IntCount
  found : {text : List ℕ} {end : Status} → main_params program.items ≡ length ints → Verdicts ints program bytes text end → TracesOn ints bytes program text end

-- What `trace` answers on a source and a journal of these bytes.
abbrev pub TraceAnswers : (ints : List ℤ) (source bytes text : List ℕ) → Status → Type 0
TraceAnswers ints source bytes = OnSource (TracesOn ints bytes) source

-- ---- what a status says

-- the program of a source that takes as many ints
pub record TracedProgram (source : List ℕ) (ints : List ℤ) : Type 0 where
  pub program : Program
  pub is_source : IsSource source program
  pub takes : main_params program.items ≡ length ints

-- a run of it from these ints explains the journal of these bytes
abbrev pub IsExplained : (source bytes : List ℕ) → List ℤ → Type 0
IsExplained source bytes ints =
    (p : TracedProgram source ints) × (entries : List Entry) × (standing : Standing) × Journal version_2 entries bytes × Explains (core_of p.program) ints entries standing

-- the bytes are no journal, or one that no run explains
abbrev pub IsUnexplained : (source bytes : List ℕ) → List ℤ → Type 0
IsUnexplained source bytes ints =
    (p : TracedProgram source ints) × ((entries : List Entry) (standing : Standing) → Journal version_2 entries bytes → Explains (core_of p.program) ints entries standing → ⊥)

module _ (words : List (List ℕ)) (held : Option Files) where
  -- The words ask to trace, and as far as is told the first file holds bytes of which this is so.
  abbrev pub FindsTraced : ((source : List ℕ) → List ℤ → Type 0) → Type 0
  FindsTraced Is = (file : List ℕ) × (journal : List ℕ) × (ints : List ℤ) × (source : List ℕ) × AskToTrace words file journal ints × HoldsIfTold held file source × Is source ints

  -- so of both files
  abbrev pub FindsBoth : ((source bytes : List ℕ) → List ℤ → Type 0) → Type 0
  FindsBoth Is = FindsTraced (λ source ints. (name : List ℕ) × (bytes : List ℕ) × HoldsIfTold held name bytes × Is source bytes ints)

  -- they ask to trace, and one of the two files is not there, or the shelf failed
  abbrev pub MissesFile : (before after : ℕ) → Type 0
  MissesFile before after =
      (file : List ℕ) × (journal : List ℕ) × (ints : List ℤ) × AskToTrace words file journal ints × ((Lacks held file ⊎ Lacks held journal) ⊎ Rose before after)
