use Rattle.std.proofs.Common.{◌≡◌, sym, ap, ◌∙◌, subst, IfOk}
use Rattle.cc_ops.specs.Machine.{Address}
use Rattle.cc_code.specs.Code.{Move}
use Rattle.stack_code.specs.View.{code_of, instr_of, placed_at}
use Rattle.code_thread.specs.Moves.{after}
use Rattle.code_thread.specs.View.{answer_of}
use Rattle.code_thread.specs.Doing.{thread_of}
use Rattle.code_thread.proofs.PlaceLaws.{next_move}
use Rattle.code_thread.proofs.thread.Thread.branches.Goals as goal

pub returns : goal.returns
returns c = λ first count.
    let code = code_of c.args.code.now in
    let r = c.in-Runs.running in
    let e = next_move code r (instr_of c.in-Some.instr.now) c.args.self.now c.in-Some.ensures (ap thread_of (sym c.in-Runs.is) ∙ c.self.view_is) in
    subst (λ (m : Move Address). IfOk c.branches_at.result (λ branches. branches.items ≡ (after m (answer_of c.args.found.now first count)).branches)) e
    (c.branches_at.ensures code (placed_at code r.frame.place).line first count)
