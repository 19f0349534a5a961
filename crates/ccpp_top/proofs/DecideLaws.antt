-- Which runs decide every run.
use Rattle.std.proofs.Common.{◌≡◌, ℕ, ℤ, List, length, refl}
use Rattle.global_ptr.specs.declared.ends.Standing.{Standing}
use Rattle.global_ptr.specs.declared.ends.Standing.TheVariants as standing
use Rattle.cc_core.specs.Report.{Determinate}
use Rattle.cc_core.specs.Steps.{RunsTo, Stands, IsAtRest}
use Rattle.cc_core.specs.Core.{Program as Core}
use Rattle.cc_core.specs.Config.{Config}
use Rattle.cc_engine.specs.Report.{shown, sharing_of}
use Rattle.cc_lexer.specs.Lexemes.{lexemes}
use Rattle.cc_shared.specs.OneAnswer.{OneRunDecides, core_of}
use Rattle.cc_shared.proofs.OneAnswerLaws.{one_run_decides}
use Rattle.cc_tree.specs.declared.declarations.Program.{Program}
use Rattle.cc_types.specs.Program.{rules_shared}
use Rattle.sharing_check.specs.declared.answer.Sharing.{Sharing as Found}
use Rattle.sharing_check.specs.declared.answer.Sharing.TheVariants as found
use Rattle.sharing_check.specs.Sharing as rules
use Rattle.sharing_check.proofs.LeastLaws.{none_shared}
use Rattle.ccpp_source.specs.Source.{IsSource}
use Rattle.ccpp_top.specs.declared.status.Status.{Status}
use Rattle.ccpp_top.specs.Status.{status_of}
use Rattle.ccpp_top.specs.Checks.{refused, said}
use Rattle.ccpp_top.specs.Answers.{Answers, Reports, int_count, reported}
use Rattle.ccpp_top.specs.Decides.{Decides, ReportsDecided, IsRest}

-- ---- a source whose report says that it is determinate shares nothing

shown_determinate : (f : Found) → shown f ≡ Determinate → f ≡ found.Determinate
shown_determinate found.Determinate is = refl
shown_determinate (found.Shared rule line) is = cc is

decides_all : (source : List ℕ) (program : Program) → IsSource source program → sharing_of program ≡ Determinate → OneRunDecides program
decides_all source program is determinate =
    let text = is.is_text in
    one_run_decides program (lexemes source text.tokens, text.spelled) is.well_formed (none_shared (rules_shared program) (shown_determinate (rules.sharing program) determinate))

-- ---- a run that comes to rest

at_rest : (p : Core) (limit n : ℕ) (s : Config) (end : Standing) → Stands p limit n s end → IsRest (status_of end) → IsAtRest p s
at_rest p limit n s (standing.Done v) stands rest = stands.0
at_rest p limit n s (standing.Blocked k) stands rest = stands.0
at_rest p limit n s (standing.Fault fault) stands rest = absurd rest
at_rest p limit n s (standing.Limit k) stands rest = absurd rest

decided : (program : Program) (ints : List ℤ) (limit : ℕ) (output : List ℕ) (end : Standing) → RunsTo (core_of program) ints limit output end → IsRest (status_of end) → OneRunDecides program → Decides (core_of program) ints limit output end
decided program ints limit output end runs rest decides = record {
  steps = runs.steps;
  last = runs.last;
  run = runs.run;
  written = runs.written;
  stands = runs.stands;
  every_run = decides ints runs.steps runs.last runs.run (at_rest (core_of program) limit (length runs.steps) runs.last end runs.stands rest);
}

of_program : (source : List ℕ) (ints : List ℤ) (limit : ℕ) (program : Program) (text : List ℕ) (end : Status) → IsSource source program → Reports ints limit program text end → IsRest end → ReportsDecided source ints limit text end
of_program source ints limit program text end is (int_count other) rest = absurd rest
of_program source ints limit program text end is (reported {output = output} {end = end'} takes runs) rest = record {
  program = program;
  is_source = is;
  output = output;
  standing = end';
  text_is = refl;
  end_is = refl;
  decides = λ determinate. decided program ints limit output end' runs rest (decides_all source program is determinate);
}

-- what `run` answers with the status of a run at rest is the report of one that decides every run
pub rests_decided : (source : List ℕ) (ints : List ℤ) (limit : ℕ) (text : List ℕ) (end : Status) → Answers ints limit source text end → IsRest end → ReportsDecided source ints limit text end
rests_decided source ints limit text end (refused why for) rest = absurd rest
rests_decided source ints limit text end (said program {text = text'} {end = end'} is says) rest = of_program source ints limit program text' end' is says rest
