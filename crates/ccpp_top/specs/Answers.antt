-- What `ccpp` writes, and the status with which it ends.
use Rattle.std.specs.Prelude.{◌≡◌, ◌≢◌, ℕ, ◌⊎◌, ℤ, List, [], ◌++◌, length, Option, codes, decimal}
use Rattle.global_ptr.specs.declared.ends.Standing.{Standing}
use Rattle.ccpp_edge.specs.Count.{Rose}
use Rattle.ccpp_edge.specs.Shelf.{Files, HoldsIfTold, Lacks}
use Rattle.ccpp_edge.specs.Sink.{Appends, AppendsFront}
use Rattle.cc_core.specs.Steps.{RunsTo}
use Rattle.cc_core.specs.Report.{report, line}
use Rattle.cc_engine.specs.Report.{sharing_of}
use Rattle.cc_shared.specs.OneAnswer.{core_of}
use Rattle.cc_tree.specs.declared.declarations.Program.{Program}
use Rattle.cc_types.specs.Program.{main_params}
use Rattle.rsr_message.specs.Streams.{IsStream}
use Rattle.ccpp_source.specs.Source.{IsSource, IsNoSource}
use Rattle.ccpp_gen.specs.LoadSource.{load_source}
use Rattle.ccpp_words.specs.Words.{AskFor, AskToLoad, AskToTrace, IsWrongAt, file_of}
use Rattle.ccpp_words.specs.declared.command.Command.{Command}
use Rattle.ccpp_words.specs.declared.command.Command.TheVariants as command
use Rattle.ccpp_top.specs.declared.status.Status.{Status}
use Rattle.ccpp_top.specs.declared.status.Status.TheVariants.{Done, ProgramFault, Blocked, Limit, SourceRefused, WordsRefused, ReadFault, WriteFault, Memory, No, NoFile, IntCount}
use Rattle.ccpp_top.specs.Status.{status_of}
use Rattle.ccpp_top.specs.Checks.{OnSource, Checks, Shares, Lists}
use Rattle.ccpp_top.specs.Loads.{Loads}
use Rattle.ccpp_top.specs.Traces.{Traces, IsExplained, IsUnexplained, FindsTraced, FindsBoth, MissesFile}
use Rattle.ccpp_top.specs.Messages.{Messages}
use Rattle.ccpp_top.specs.Migrations.{Migrations, IsJournal}

-- ---- what is answered

-- What `run` says of a program, on these ints and with this step limit: that `main` takes another number of ints, exactly where it does;
-- else the report of a run of its core, whose last line is the answer of the rules of sharing.
pub data Reports (ints : List ℤ) (limit : ℕ) (program : Program) : (text : List ℕ) → Status → Type 0 where
  int_count : main_params program.items ≢ length ints → Reports ints limit program (line (codes "main takes " ++ (decimal (main_params program.items) ++ (codes ", got " ++ decimal (length ints))))) IntCount
  reported : {output : List ℕ} {end : Standing} → main_params program.items ≡ length ints → RunsTo (core_of program) ints limit output end → Reports ints limit program (report output end (sharing_of program)) (status_of end)

-- What `run` answers on a file of these bytes: why it is refused, exactly where it is no source; else what is said of its program.
abbrev pub Answers : (ints : List ℤ) (limit : ℕ) (source text : List ℕ) → Status → Type 0
Answers ints limit = OnSource (Reports ints limit)

-- What a command answers on a file of these bytes.
abbrev pub AnswersTo : Command → (bytes text : List ℕ) → Status → Type 0
AnswersTo (command.Run file steps seed ints) = Answers ints steps
AnswersTo (command.Check file) = Checks
AnswersTo (command.Share file) = Shares
AnswersTo (command.Code file) = Lists
AnswersTo (command.Message file) = Messages
AnswersTo (command.Migrate file) = Migrations

-- held: what the shelf tells that it holds. before, after: its count of faults
module _ (words : List (List ℕ)) (held : Option Files) (before after : ℕ) where
  -- What `ccpp` answers to these words.
  pub data Says : (text : List ℕ) → Status → Type 0 where
    words_refused : {place : ℕ} → IsWrongAt words place → Says (line (codes "words refused at " ++ decimal place)) WordsRefused
    answered : (command : Command) (bytes : List ℕ) {text : List ℕ} {end : Status} → AskFor words command → HoldsIfTold held (file_of command) bytes → AnswersTo command bytes text end → Says text end
    trace_answered : {file journal : List ℕ} {ints : List ℤ} {text : List ℕ} {end : Status} → AskToTrace words file journal ints → Traces held before after file journal ints text end → Says text end
    load_answered : {n : ℕ} {text : List ℕ} {end : Status} → AskToLoad words n → Loads n text end → Says text end
    no_file : (command : Command) → AskFor words command → Lacks held (file_of command) ⊎ Rose before after → Says (line (codes "no file " ++ file_of command)) NoFile
    read_fault : (command : Command) → AskFor words command → Rose before after → Says (line (codes "read fault")) ReadFault

-- ---- what the sink gains

-- exactly a text that is said, with this status
abbrev pub Gains : (said : List ℕ → Status → Type 0) → (before after : Option (List ℕ)) → Status → Type 0
Gains said before after end = (text : List ℕ) × said text end × Appends before after text

-- a front of a text that is said
abbrev pub GainsFront : (said : List ℕ → Status → Type 0) → (before after : Option (List ℕ)) → Type 0
GainsFront said before after = (text : List ℕ) × (end : Status) × said text end × AppendsFront before after text

-- ---- what a status says

-- A run of the program of this source, from these ints and within so many steps, ends with this status.
pub record RunEnds (source : List ℕ) (ints : List ℤ) (limit : ℕ) (end : Status) : Type 0 where
  pub program : Program
  pub is_source : IsSource source program
  pub takes : main_params program.items ≡ length ints
  pub output : List ℕ
  pub standing : Standing
  pub runs : RunsTo (core_of program) ints limit output standing
  pub ends : status_of standing ≡ end

-- The words ask for the load program of some size, and a run of it, within ten million steps, ends with this status.
abbrev pub LoadEnds : (words : List (List ℕ)) → Status → Type 0
LoadEnds words end = (n : ℕ) × AskToLoad words n × RunEnds (load_source n) [] 10000000 end

-- a source whose `main` takes another number of ints
abbrev pub TakesOthers : (source : List ℕ) (ints : List ℤ) → Type 0
TakesOthers source ints = (program : Program) × IsSource source program × (main_params program.items ≢ length ints)

-- The bytes are what the command is for, and it ends well.
abbrev pub IsDone : Command → (bytes : List ℕ) → Type 0
IsDone (command.Run file steps seed ints) source = RunEnds source ints steps Done
IsDone (command.Check file) source = (program : Program) × IsSource source program
IsDone (command.Share file) source = (program : Program) × IsSource source program
IsDone (command.Code file) source = (program : Program) × IsSource source program
IsDone (command.Message file) bytes = IsStream bytes
IsDone (command.Migrate file) bytes = IsJournal bytes

-- The command is for sources, and they are none.
abbrev pub IsSourceRefused : Command → (bytes : List ℕ) → Type 0
IsSourceRefused (command.Run file steps seed ints) source = IsNoSource source
IsSourceRefused (command.Check file) source = IsNoSource source
IsSourceRefused (command.Share file) source = IsNoSource source
IsSourceRefused (command.Code file) source = IsNoSource source
IsSourceRefused (command.Message file) bytes = ⊥
IsSourceRefused (command.Migrate file) bytes = ⊥

-- They are not what the command asks whether they are.
abbrev pub IsNo : Command → (bytes : List ℕ) → Type 0
IsNo (command.Run file steps seed ints) source = ⊥
IsNo (command.Check file) source = ⊥
IsNo (command.Share file) source = ⊥
IsNo (command.Code file) source = ⊥
IsNo (command.Message file) bytes = IsStream bytes → ⊥
IsNo (command.Migrate file) bytes = IsJournal bytes → ⊥

-- The words ask for a command, and as far as is told its file holds bytes of which this is so.
abbrev pub Finds : (words : List (List ℕ)) (held : Option Files) → (Command → (bytes : List ℕ) → Type 0) → Type 0
Finds words held Is = (command : Command) × (bytes : List ℕ) × AskFor words command × HoldsIfTold held (file_of command) bytes × Is command bytes

-- They ask to run a file on some ints, for at most so many steps, and as far as is told it holds bytes of which this is so.
abbrev pub FindsRun : (words : List (List ℕ)) (held : Option Files) → ((source : List ℕ) (ints : List ℤ) (limit : ℕ) → Type 0) → Type 0
FindsRun words held Is = (file : List ℕ) × (steps : ℕ) × (seed : ℕ) × (ints : List ℤ) × (source : List ℕ) × AskFor words (command.Run file steps seed ints) × HoldsIfTold held file source × Is source ints steps

-- What is so where `ccpp` ends with a status: of want of memory nothing is known.
module _ (words : List (List ℕ)) (held : Option Files) (shelf_before shelf_after sink_before sink_after : ℕ) where
  abbrev pub Cause : Status → Type 0
  Cause Done = Finds words held IsDone ⊎ (LoadEnds words Done ⊎ FindsBoth words held IsExplained)
  Cause ProgramFault = FindsRun words held (λ source ints limit. RunEnds source ints limit ProgramFault) ⊎ LoadEnds words ProgramFault
  Cause Blocked = FindsRun words held (λ source ints limit. RunEnds source ints limit Blocked) ⊎ LoadEnds words Blocked
  Cause Limit = FindsRun words held (λ source ints limit. RunEnds source ints limit Limit) ⊎ LoadEnds words Limit
  Cause SourceRefused = Finds words held IsSourceRefused ⊎ FindsTraced words held (λ source ints. IsNoSource source)
  Cause WordsRefused = (place : ℕ) × IsWrongAt words place
  Cause ReadFault = Rose shelf_before shelf_after
  Cause WriteFault = Rose sink_before sink_after
  Cause Memory = Unit {0}
  Cause No = Finds words held IsNo ⊎ FindsBoth words held IsUnexplained
  Cause NoFile = ((command : Command) × AskFor words command × (Lacks held (file_of command) ⊎ Rose shelf_before shelf_after)) ⊎ MissesFile words held shelf_before shelf_after
  Cause IntCount = FindsRun words held (λ source ints limit. TakesOthers source ints) ⊎ FindsTraced words held TakesOthers
