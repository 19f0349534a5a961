use Rattle.std.proofs.Common.{drop, sym, ap, ◌∙◌}
use Rattle.cc_code.specs.Valid.{taken}
use Rattle.stack_code.specs.View.{code_of, instr_of}
use Rattle.code_thread.specs.Moves.{seen}
use Rattle.code_thread.specs.View.{operands_of}
use Rattle.code_thread.proofs.LookLaws.{acts_on_topmost, stuck_wanting}
use Rattle.code_thread.proofs.running.Running.look_at.Goals as goal

pub returns-in-Some : goal.returns-in-Some
returns-in-Some c =
    let code = code_of c.args.code.now in
    let r = c.args.self.now in
    let i = instr_of c.args.instr.now in
    c.look_with.ensures code r.callers (drop (taken code.shapes i) (operands_of r))
    ∙ ap seen (acts_on_topmost code r c.args.line i c.taken.result c.taken.ensures c.in-Some.args.now c.in-Some.ensures)

pub returns-in-None : goal.returns-in-None
returns-in-None c =
    sym (ap seen (stuck_wanting (code_of c.args.code.now) c.args.self.now c.args.line (instr_of c.args.instr.now) c.taken.result c.taken.ensures c.in-None.ensures))
