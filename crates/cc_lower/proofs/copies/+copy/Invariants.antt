use Rattle.std.proofs.Common.{◌≡◌, ◌++◌, drop}
use Rattle.cc_ops.specs.Shapes.{exprs_of}
use Rattle.cc_lower.proofs.copies.+copy.Given as goal

abbrev pub invariant-copy_builds-loop-e : goal.invariant-copy_builds-loop-e
invariant-copy_builds-loop-e l = exprs_of (l.copy ++ drop l.e-index l.es) ≡ exprs_of l.es
