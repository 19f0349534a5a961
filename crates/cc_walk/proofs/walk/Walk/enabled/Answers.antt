use Rattle.std.proofs.Common.{None, Some, ◌≤◌, length, sym, ◌∙◌, arith}
use Rattle.numbered_runs.specs.Machine.{made_in}
use Rattle.cc_walk.specs.Enabled.{IsMoveable, CanMove}
use Rattle.cc_walk.specs.Views.{machine_of}
use Rattle.cc_walk.proofs.MoveLaws.{moves_alike, past_made, past_processors}
use Rattle.cc_walk.proofs.OrderLaws.{thread_no, none_there, none_at_all, same_first}
use Rattle.cc_walk.proofs.RestLaws.{rests}
use Rattle.cc_walk.proofs.walk.Walk.enabled.Goals as goal

pub loop-processor-preserved : goal.loop-processor-preserved
loop-processor-preserved c =
    let w = machine_of c.args.self.now in
    let q = c.loop-processor.processor in
    let k = c.loop-thread.thread in
    let made : made_in w.threads q ≤ k = omega arith in
    none_there (IsMoveable w) q k c.loop-thread.invariant (past_made w q k made)

pub returns-then-can_move-clause-follows : goal.returns-then-can_move-clause-follows
returns-then-can_move-clause-follows c = λ p s n stands.
    let w = machine_of c.args.self.now in
    same_first (IsMoveable w) (CanMove p s n) (moves_alike p w s n stands) (Some (thread_no c.loop-processor.processor c.loop-thread.thread))
    (sym c.can_move.ensures ∙ c.if-can_move.true, c.loop-thread.invariant)

pub returns-clause-first : goal.returns-clause-first
returns-clause-first c =
    let w = machine_of c.args.self.now in
    let q = c.loop-processor.processor in
    let few : length w.threads ≤ q = omega arith in
    none_at_all (IsMoveable w) q c.loop-processor.invariant (past_processors w q few)

pub returns-clause-follows : goal.returns-clause-follows
returns-clause-follows c = λ p s n stands.
    let w = machine_of c.args.self.now in
    let q = c.loop-processor.processor in
    let few : length w.threads ≤ q = omega arith in
    same_first (IsMoveable w) (CanMove p s n) (moves_alike p w s n stands) None
    (none_at_all (IsMoveable w) q c.loop-processor.invariant (past_processors w q few))

pub returns-clause-rest : goal.returns-clause-rest
returns-clause-rest c = λ p s n stands none. rests p (machine_of c.args.self.now) s n stands (returns-clause-follows c p s n stands)
