use Rattle.std.proofs.Common.{sym}
use Rattle.cc_walk.proofs.answer.Asker.spawns.Goals as goal

pub returns-in-Alone : goal.returns-in-Alone
returns-in-Alone c = λ shelves output. rw c.in-Alone.is (c.starts.ensures shelves output)

pub returns-in-On : goal.returns-in-On
returns-in-On c = λ shelves output. rw (c.in-On.is, sym c.first_of.ensures, sym c.after_first.ensures) (c.starts-in-On.ensures shelves output)

pub returns-in-Remote : goal.returns-in-Remote
returns-in-Remote c = λ shelves output. rw c.in-Remote.is (c.remote.ensures shelves output)
