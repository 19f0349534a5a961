use Rattle.std.proofs.Common.{◌≡◌, sym, ap, ◌∙◌, subst, IfOk, OnOk, IsTrue, ◌↔◌}
use Rattle.cc_ops.specs.Machine.{Address}
use Rattle.cc_code.specs.Code.{Move, Thread, move}
use Rattle.stack_code.specs.View.{code_of, instr_of, placed_at}
use Rattle.numbered_threads.specs.Numbered.{IsSilent}
use Rattle.numbered_threads.specs.Quiet.{after_silent}
use Rattle.code_thread.specs.View.{running_of}
use Rattle.code_thread.specs.Doing.{thread_of}
use Rattle.code_thread.proofs.PlaceLaws.{next_move}
use Rattle.code_thread.proofs.thread.Thread.silent_move.Goals as goal

pub returns-clause-moved : goal.returns-clause-moved
returns-clause-moved c =
    let code = code_of c.args.code.now in
    let r = c.in-Runs.running in
    let e = next_move code r (instr_of c.in-Some.instr.now) c.args.self.now c.in-Some.ensures (ap thread_of (sym c.in-Runs.is) ∙ c.self.view_is) in
    subst (λ (m : Move Address). IfOk c.silent_move.result (λ moved. IsTrue moved ↔ IsSilent m)) e
    (c.silent_move.ensures.moved code (placed_at code r.frame.place).line)

pub returns-clause-thread : goal.returns-clause-thread
returns-clause-thread c =
    let code = code_of c.args.code.now in
    let r = c.in-Runs.running in
    let runs = ap thread_of (sym c.in-Runs.is) ∙ c.self.view_is in
    let e = next_move code r (instr_of c.in-Some.instr.now) c.args.self.now c.in-Some.ensures runs in
    subst (λ (d : Thread Address). OnOk c.silent_move.result (running_of c.silent_move.new.self ≡ after_silent (λ x. x) d (move code c.args.self.now))) runs
    (subst (λ (m : Move Address). OnOk c.silent_move.result (running_of c.silent_move.new.self ≡ after_silent (λ x. x) (running_of r) m)) e
    (c.silent_move.ensures.thread code (placed_at code r.frame.place).line))
