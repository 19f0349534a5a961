use Rattle.std.proofs.Common.{◌≡◌, map, sym, ap, ◌∙◌, subst}
use Rattle.std.proofs.lemmas.Result.{IfOk-weaker}
use Rattle.cc_ops.specs.Machine.{value_of}
use Rattle.cc_core.specs.Numbers.{first_numbers}
use Rattle.cc_core.specs.Steps.{start}
use Rattle.cc_core.specs.View.{program_of}
use Rattle.cc_lower.specs.Lowerable.{IsLowerable}
use Rattle.cc_types.specs.Program.{core_program}
use Rattle.numbered_runs.specs.Alike.{first_machine}
use Rattle.numbered_runs.specs.Stands.{Stands}
use Rattle.stack_code.specs.View.{code_of}
use Rattle.cc_walk.specs.Begins.{entering}
use Rattle.cc_walk.specs.Views.{machine_of}
use Rattle.cc_walk.specs.declared.walk.Walk.{Walk}
use Rattle.cc_walk.proofs.StartLaws.{lowerable, begins_as, begins}
use Rattle.cc_walk.proofs.walk.Walk.start.Goals as goal

pub lower-requires : goal.lower-requires
lower-requires c = subst IsLowerable (sym c.core-program.ensures) (lowerable c.args.checked.now c.program-well_formed.ensures.well_formed)

pub returns-clause-machine : goal.returns-clause-machine
returns-clause-machine c =
    let p = c.args.checked.now in
    let core = c.core-program.result.now in
    let code = code_of c.in_ok-code.code in
    let vs = map value_of c.as_slice.result.now in
    let first = begins_as p core code vs c.args.args.now c.core-program.ensures c.in_ok-code.ensures (ap (map value_of) c.as_slice.ensures ∙ c.in_ok-args.ensures) in
    IfOk-weaker c.entered.result (λ (walk : Walk). machine_of walk ≡ entering code core.main vs)
    (λ (walk : Walk). machine_of walk ≡ first_machine (program_of (core_program p)) c.args.args.now)
    (λ walk same. same ∙ first) c.entered.ensures

pub returns-clause-stands : goal.returns-clause-stands
returns-clause-stands c =
    let p = c.args.checked.now in
    let core = c.core-program.result.now in
    let code = code_of c.in_ok-code.code in
    let vs = map value_of c.as_slice.result.now in
    let first = begins_as p core code vs c.args.args.now c.core-program.ensures c.in_ok-code.ensures (ap (map value_of) c.as_slice.ensures ∙ c.in_ok-args.ensures) in
    IfOk-weaker c.entered.result (λ (walk : Walk). machine_of walk ≡ entering code core.main vs)
    (λ (walk : Walk). let s = program_of (core_program p) in Stands s (machine_of walk) (start s c.args.args.now) (first_numbers s c.args.args.now))
    (λ walk same. begins p c.program-well_formed.ensures.well_formed c.args.args.now (machine_of walk) (same ∙ first)) c.entered.ensures
