use Rattle.std.proofs.Common.{arith}
use Rattle.stack_code.specs.View.{code_of, instr_of}
use Rattle.code_thread.proofs.PlaceLaws.{is_next}
use Rattle.code_thread.proofs.running.Running.instr.Goals as goal

pub returns : goal.returns
returns c =
    let code = code_of c.args.code.now in
    is_next code c.args.self.now c.place-place.result (instr_of c.at.result.now) (omega arith) c.place-place.ensures c.at.ensures
