use Rattle.std.proofs.Common.{sym}
use Rattle.cc_walk.proofs.answer.Asker.calls.Goals as goal

pub returns-in-Alone : goal.returns-in-Alone
returns-in-Alone c = λ output. rw c.in-Alone.is (c.enters.ensures output)

pub returns-in-On : goal.returns-in-On
returns-in-On c = λ output. rw (c.in-On.is, sym c.first_of.ensures, sym c.after_first.ensures) (c.enters-in-On.ensures output)

pub returns-in-Remote : goal.returns-in-Remote
returns-in-Remote c = λ output. rw c.in-Remote.is (c.remote.ensures c.args.objects.now output)
