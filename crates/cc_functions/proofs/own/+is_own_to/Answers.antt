use Rattle.std.proofs.Common.{◌≡◌, ap, sym, arith}
use Rattle.cc_functions.specs.Builds.{is_own_to}
use Rattle.cc_functions.proofs.Depth.{deeper}
use Rattle.cc_functions.proofs.own.+is_own_to.Goals as goal

pub returns-then-depth-eq0 : goal.returns-then-depth-eq0
unfolding is_own_to
returns-then-depth-eq0 t c = let none : c.args.depth ≡ 0 = omega arith in sym (ap (λ n. is_own_to n c.args.e.now) none)

pub returns : goal.returns
unfolding is_own_to
returns t c = rw (deeper (λ n. is_own_to n c.args.e.now) c.args.depth (omega arith)) c.is_own.ensures
