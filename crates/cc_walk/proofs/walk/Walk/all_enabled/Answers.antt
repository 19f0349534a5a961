use Rattle.std.proofs.Common.{◌+◌, ◌≤◌, length, sym, ◌∙◌, subst, arith}
use Rattle.std.proofs.lemmas.Bool.{false≢true}
use Rattle.numbered_runs.specs.Machine.{made_in}
use Rattle.cc_walk.specs.Enabled.{IsMoveable, CanMove}
use Rattle.cc_walk.specs.Views.{machine_of}
use Rattle.cc_walk.proofs.MoveLaws.{moves_alike, past_made, past_processors}
use Rattle.cc_walk.proofs.OrderLaws.{thread_no, AreBefore, all_skipped, all_pushed, all_there, all_at_all, same_all}
use Rattle.cc_walk.proofs.walk.Walk.all_enabled.Goals as goal
use Rattle.cc_walk.proofs.walk.Walk.all_enabled.Goals.{then-can_move+in_ok-push, else-can_move}

pub loop-thread-preserved : goal.loop-thread-preserved
loop-thread-preserved c =
    let w = machine_of c.args.self.now in
    let q = c.loop-processor.processor in
    let k = c.loop-thread.thread in
    elim c.if-can_move.branch [
      | then-can_move+in_ok-push b ↦
          subst (AreBefore (IsMoveable w) (thread_no q (k + 1))) (sym (b.enabled-is ∙ b.in_ok-push.ensures.ok))
          (all_pushed (IsMoveable w) q k c.loop-thread.enabled c.loop-thread.invariant (sym c.can_move.ensures ∙ b.if-can_move.true))
      | else-can_move b ↦
          subst (AreBefore (IsMoveable w) (thread_no q (k + 1))) (sym b.enabled-is)
          (all_skipped (IsMoveable w) q k c.loop-thread.enabled c.loop-thread.invariant (λ moves. false≢true (b.if-can_move.ensures ∙ moves)))
    ]

pub loop-processor-preserved : goal.loop-processor-preserved
loop-processor-preserved c =
    let w = machine_of c.args.self.now in
    let q = c.loop-processor.processor in
    let k = c.loop-thread.thread in
    let made : made_in w.threads q ≤ k = omega arith in
    all_there (IsMoveable w) q k c.loop-thread.enabled c.loop-thread.invariant (past_made w q k made)

pub returns-clause-all : goal.returns-clause-all
returns-clause-all c =
    let w = machine_of c.args.self.now in
    let q = c.loop-processor.processor in
    let few : length w.threads ≤ q = omega arith in
    all_at_all (IsMoveable w) q c.loop-processor.enabled c.loop-processor.invariant (past_processors w q few)

pub returns-clause-follows : goal.returns-clause-follows
returns-clause-follows c = λ p s n stands.
    let w = machine_of c.args.self.now in
    let q = c.loop-processor.processor in
    let few : length w.threads ≤ q = omega arith in
    same_all (IsMoveable w) (CanMove p s n) (moves_alike p w s n stands) c.loop-processor.enabled
    (all_at_all (IsMoveable w) q c.loop-processor.enabled c.loop-processor.invariant (past_processors w q few))
