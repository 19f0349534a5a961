use Rattle.std.proofs.Common.{◌≡◌, ap, sym, arith}
use Rattle.cc_functions.specs.Builds.{built_to}
use Rattle.cc_functions.proofs.Depth.{deeper}
use Rattle.cc_functions.proofs.builds.+built_to.Goals as goal

pub returns-then-depth-eq0 : goal.returns-then-depth-eq0
unfolding built_to
returns-then-depth-eq0 t c = let none : c.args.depth ≡ 0 = omega arith in sym (ap (λ n. built_to n c.args.e.now) none)

pub returns : goal.returns
unfolding built_to
returns t c = rw (deeper (λ n. built_to n c.args.e.now) c.args.depth (omega arith)) c.built.ensures
