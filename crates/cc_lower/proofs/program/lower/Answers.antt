use Rattle.std.proofs.Common.{map, length, ap, ◌∙◌, subst, arith}
use Rattle.cc_ops.specs.Shapes.{shape_of}
use Rattle.stack_code.specs.View.{code_of}
use Rattle.stack_code.specs.Faults.{IsFaultOf}
use Rattle.cc_lower.proofs.ProgramLaws.{made_is, made_valid, no_functions}
use Rattle.cc_lower.proofs.program.lower.Goals as goal

pub put_functions-requires-clause-few : goal.put_functions-requires-clause-few
put_functions-requires-clause-few c =
    let none = no_functions (code_of c.new-maker.result) (code_of c.put_classes.new.maker) (map shape_of c.as_slice.result.now)
    c.new-maker.ensures c.in_ok-put_classes.ensures in
    omega (arith, none, c.requires.few_functions, ap length c.as_slice-2.ensures)

pub unreachable-requires : goal.unreachable-requires
unreachable-requires c =
    let made = made_is c.args.program.now (code_of c.new-maker.result) (code_of c.put_classes.new.maker) (code_of c.put_functions.new.maker)
    c.as_slice.result.now c.as_slice-2.result.now c.requires.source c.new-maker.ensures c.in_ok-put_classes.ensures c.as_slice.ensures
    c.in_ok-put_functions.ensures c.as_slice-2.ensures in
    let valid = made_valid c.args.program.now (code_of c.put_functions.new.maker) c.requires.source c.requires.ranges made in
    let fault = subst (IsFaultOf (code_of c.put_functions.new.maker)) c.in-Err-BadTarget.field-0-is c.in-Err-BadTarget.ensures.fault in
    (valid c.in-Err-BadTarget.field-0-0).0 fault.0

pub unreachable-requires-in-Err-BadDepth : goal.unreachable-requires-in-Err-BadDepth
unreachable-requires-in-Err-BadDepth c =
    let made = made_is c.args.program.now (code_of c.new-maker.result) (code_of c.put_classes.new.maker) (code_of c.put_functions.new.maker)
    c.as_slice.result.now c.as_slice-2.result.now c.requires.source c.new-maker.ensures c.in_ok-put_classes.ensures c.as_slice.ensures
    c.in_ok-put_functions.ensures c.as_slice-2.ensures in
    let valid = made_valid c.args.program.now (code_of c.put_functions.new.maker) c.requires.source c.requires.ranges made in
    let fault = subst (IsFaultOf (code_of c.put_functions.new.maker)) c.in-Err-BadDepth.field-0-is c.in-Err-BadDepth.ensures.fault in
    (valid c.in-Err-BadDepth.field-0-0).1 fault.0

pub returns-in-Ok : goal.returns-in-Ok
returns-in-Ok c =
    let made = made_is c.args.program.now (code_of c.new-maker.result) (code_of c.put_classes.new.maker) (code_of c.put_functions.new.maker)
    c.as_slice.result.now c.as_slice-2.result.now c.requires.source c.new-maker.ensures c.in_ok-put_classes.ensures c.as_slice.ensures
    c.in_ok-put_functions.ensures c.as_slice-2.ensures in
    c.in-Ok.ensures.code ∙ made
