use Rattle.stack_code.specs.View.{code_of, instr_of}
use Rattle.code_thread.specs.View.{running_of}
use Rattle.code_thread.proofs.AnswerLaws.{asks_finds, asks_on, asks_go_on, left_by}
use Rattle.code_thread.proofs.running.Running.answer_at.Goals as goal

pub returns : goal.returns
returns c = λ line asks.
    let code = code_of c.args.code.now in
    let r = c.args.self.now in
    let i = instr_of c.args.instr.now in
    let on = asks_on code r line i asks in
    left_by code r line i asks (running_of c.go_on.new.self) c.args.found.now c.args.first c.args.count
    (c.in_ok-go_on.ensures line (asks_finds code r line i asks) on (asks_go_on code r line c.args.instr.now c.in_default.not-Ret on))
