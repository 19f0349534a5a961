use Rattle.cc_functions.proofs.builds.+built_to.Given as goal

abbrev pub decreases-built_to : goal.decreases-built_to
decreases-built_to l = l.depth
