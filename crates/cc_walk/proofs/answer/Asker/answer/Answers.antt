use Rattle.cc_walk.proofs.answer.Asker.answer.Goals as goal

pub returns-in-Reads : goal.returns-in-Reads
returns-in-Reads c = rw c.in-Reads.is (c.reads.ensures c.in-Reads.field-0 c.args.output.now)

pub returns-in-Writes : goal.returns-in-Writes
returns-in-Writes c = rw c.in-Writes.is (c.writes.ensures c.in-Writes.field-0 c.args.output.now)

pub returns-in-Makes : goal.returns-in-Makes
returns-in-Makes c = rw c.in-Makes.is (c.makes.ensures c.args.output.now)

pub returns-in-MakesWith : goal.returns-in-MakesWith
returns-in-MakesWith c = rw c.in-MakesWith.is (c.makes_with.ensures c.args.output.now)

pub returns-in-Constructs : goal.returns-in-Constructs
returns-in-Constructs c = rw c.in-Constructs.is (c.constructs.ensures c.args.output.now)

pub returns-in-Calls : goal.returns-in-Calls
returns-in-Calls c = rw c.in-Calls.is (c.calls.ensures c.args.output.now)

pub returns-in-Spawns : goal.returns-in-Spawns
returns-in-Spawns c = rw c.in-Spawns.is (c.spawns.ensures c.args.objects.now c.args.output.now)

pub returns-in-Enters : goal.returns-in-Enters
returns-in-Enters c = rw c.in-Enters.is (c.enters.ensures c.args.output.now)

pub returns-in-ForksAll : goal.returns-in-ForksAll
returns-in-ForksAll c = rw c.in-ForksAll.is (c.forks_all.ensures c.args.objects.now c.args.output.now)

pub returns-in-ForksOne : goal.returns-in-ForksOne
returns-in-ForksOne c = rw c.in-ForksOne.is (c.forks_one.ensures c.args.output.now)

pub returns-in-Prints : goal.returns-in-Prints
returns-in-Prints c = rw c.in-Prints.is (c.prints.ensures c.args.objects.now)
