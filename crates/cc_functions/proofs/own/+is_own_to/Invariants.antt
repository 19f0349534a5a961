use Rattle.cc_functions.proofs.own.+is_own_to.Given as goal

abbrev pub decreases-is_own_to : goal.decreases-is_own_to
decreases-is_own_to l = l.depth
