use Rattle.std.proofs.Common.{◌≡◌, length}
use Rattle.cc_functions.specs.Items.{items_from, start}
use Rattle.cc_functions.proofs.whole.all_items.Given as goal

abbrev pub invariant-loop-all : goal.invariant-loop-all
invariant-loop-all l = items_from l.names l.tables start l.fn.all l.fn.state ≡ items_from l.names l.tables l.so_far l.all l.state

abbrev pub decreases-loop-all : goal.decreases-loop-all
decreases-loop-all l = length l.all
