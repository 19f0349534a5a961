use Rattle.cc_walk.proofs.answer.Asker.constructs.Goals as goal

pub returns-then-remote : goal.returns-then-remote
returns-then-remote c = λ output. rw c.if-remote.true (c.new_processor.ensures output)

pub returns : goal.returns
returns c = λ output. rw c.if-remote.false (c.builds.ensures output)
