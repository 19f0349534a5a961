use Rattle.std.proofs.Common.{sym, ◌∙◌}
use Rattle.std.proofs.lemmas.Bool.{false≢true}
use Rattle.stack_code.specs.View.{code_of}
use Rattle.code_thread.proofs.SettleLaws.{fewer_left, same_end, at_the_end}
use Rattle.code_thread.proofs.thread.Thread.settle.Goals as goal

pub quiet-smaller : goal.quiet-smaller
quiet-smaller c =
    let moved = c.in_ok-silent_move.ensures in
    fewer_left (code_of c.args.code.now) c.quiet.self c.silent_move.new.self moved.thread c.is_valid.ensures (moved.moved.0 c.if-branch.true)

pub quiet-preserved : goal.quiet-preserved
quiet-preserved c =
    let moved = c.in_ok-silent_move.ensures in
    same_end (code_of c.args.code.now) c.quiet.self c.silent_move.new.self moved.thread c.is_valid.ensures (moved.moved.0 c.if-branch.true) ∙ c.quiet.invariant

pub returns : goal.returns
returns c =
    let moved = c.in_ok-silent_move.ensures in
    at_the_end (code_of c.args.code.now) c.quiet.self c.silent_move.new.self moved.thread
    (λ s. false≢true (sym c.if-branch.false ∙ moved.moved.1 s)) ∙ c.quiet.invariant
