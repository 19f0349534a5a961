use Rattle.cc_expressions.proofs.expressions.+within.Given as goal

abbrev pub decreases-within : goal.decreases-within
decreases-within l = l.depth
