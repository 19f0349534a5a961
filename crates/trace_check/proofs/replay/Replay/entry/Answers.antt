use Rattle.std.proofs.Common.{ℕ, List, Some, None, IfOk, subst}
use Rattle.trace_check.specs.Replays.{ReplaysServing}
use Rattle.trace_check.proofs.replay.Replay.entry.Goals as goal

pub returns-in-Run : goal.returns-in-Run
returns-in-Run c = λ p a at. rw c.in-Run.is (c.run.ensures p a at)

pub returns-in-Serve : goal.returns-in-Serve
returns-in-Serve c = λ p a at.
    rw c.in-Serve.is
    (subst (λ (bytes : List ℕ). IfOk c.serve.result (λ why. ReplaysServing p (Some c.in-Serve.processor) bytes a why c.serve.new.self)) c.as_slice.ensures
    (c.serve.ensures p a at))

pub returns-in-Make : goal.returns-in-Make
returns-in-Make c = λ p a at.
    rw c.in-Make.is
    (subst (λ (bytes : List ℕ). IfOk c.serve-in-Make.result (λ why. ReplaysServing p None bytes a why c.serve-in-Make.new.self)) c.as_slice-in-Make.ensures
    (c.serve-in-Make.ensures p a at))
