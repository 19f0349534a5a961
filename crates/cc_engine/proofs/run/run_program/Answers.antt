use Rattle.std.proofs.Common.{sym, subst, ◌∙◌}
use Rattle.cc_core.specs.Numbers.{first_numbers}
use Rattle.cc_core.specs.View.{program_of}
use Rattle.cc_source.proofs.ProgramLaws.{core_is_a_program}
use Rattle.cc_types.specs.Program.{core_program}
use Rattle.core_types.specs.Runs.{IsReachedFrom}
use Rattle.core_types.proofs.Atomic.{rest_free}
use Rattle.source_types.proofs.FinalLaws.{well_typed}
use Rattle.source_types.proofs.MainParameters.{main_takes_its_parameters}
use Rattle.cc_walk.specs.Views.{machine_of}
use Rattle.cc_walk.specs.declared.walk.Walk.{Walk}
use Rattle.cc_engine.specs.Runs.{IsAfter, IsTypedRun}
use Rattle.cc_engine.proofs.RunLaws.{begun, runs_to}
use Rattle.cc_engine.proofs.run.run_program.Goals as goal

pub returns-clause-run : goal.returns-clause-run
returns-clause-run g c =
    let source = c.args.checked.now in
    let well = c.program-well_formed.ensures.well_formed in
    let p = program_of (core_program source) in
    let ns = c.args.args.now in
    let first = begun p ns (machine_of c.in_ok-walk.walk) (first_numbers p ns) c.in_ok-walk.ensures.stands in
    let start = subst (λ (w : Walk). IsAfter p ns 0 (machine_of w)) (sym c.in_ok-execution.ensures) first in
    let typed : IsTypedRun p ns = (well_typed source well, c.requires.count ∙ main_takes_its_parameters source well) in
    let end = c.in_ok-ended.ensures p ns typed start in
    runs_to p ns c.args.limit c.in_ok-ended.ended (machine_of c.to_end.new.self.walk) end c.into_output-output.result
    (c.into_output-output.ensures p ns end.steps end.after)

pub returns-clause-unheld : goal.returns-clause-unheld
returns-clause-unheld g c = λ r rest o.
    let source = c.args.checked.now in
    let well = c.program-well_formed.ensures.well_formed in
    let typed = well_typed source well in
    let many = c.requires.count ∙ main_takes_its_parameters source well in
    let reached : IsReachedFrom (program_of (core_program source)) c.args.args.now r.last = (many, (r.steps, r.run)) in
    rest_free (program_of (core_program source)) typed.0 typed.1 (core_is_a_program source well) c.args.args.now r.last reached rest o
