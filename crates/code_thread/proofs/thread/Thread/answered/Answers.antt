use Rattle.std.proofs.Common.{sym, ap, ◌∙◌}
use Rattle.stack_code.specs.View.{code_of, instr_of}
use Rattle.code_thread.specs.View.{ended_or}
use Rattle.code_thread.specs.Doing.{thread_of}
use Rattle.code_thread.proofs.PlaceLaws.{next_left}
use Rattle.code_thread.proofs.thread.Thread.answered.Goals as goal

pub returns-in-Some-end : goal.returns-in-Some-end
returns-in-Some-end c = λ asks.
    let runs = ap thread_of (sym c.in-Runs.is) ∙ c.self.view_is in
    let end = c.in_ok-end-in-Runs.end in
    let gone = next_left (code_of c.args.code.now) c.in-Runs.running (instr_of c.in-Some.instr.now) c.args.self.now c.in-Some.ensures runs
    c.answer_at.new.self end c.args.found.now c.args.first c.args.count c.in_ok-end-in-Runs.ensures asks in
    c.finish.ensures ∙ sym (ap (ended_or c.answer_at.new.self) c.in-Some-end.is) ∙ gone

pub returns-in_default-end : goal.returns-in_default-end
returns-in_default-end c = λ asks.
    let runs = ap thread_of (sym c.in-Runs.is) ∙ c.self.view_is in
    let end = c.in_ok-end-in-Runs.end in
    let gone = next_left (code_of c.args.code.now) c.in-Runs.running (instr_of c.in-Some.instr.now) c.args.self.now c.in-Some.ensures runs
    c.answer_at.new.self end c.args.found.now c.args.first c.args.count c.in_ok-end-in-Runs.ensures asks in
    sym (ap (ended_or c.answer_at.new.self) c.in_default-end.is) ∙ gone
