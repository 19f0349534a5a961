use Rattle.std.proofs.Common.{◌≡◌, arith}
use Rattle.cc_scopes.specs.Scope.{context}
use Rattle.cc_typing.specs.Expr.{expr_to}
use Rattle.cc_typing.proofs.Depth.{deeper}
use Rattle.cc_typing.proofs.elaborator.+expr_to.Goals as goal

pub returns-then-depth-eq0 : goal.returns-then-depth-eq0
unfolding expr_to
returns-then-depth-eq0 t c = let none : c.args.depth ≡ 0 = omega arith in rw none c.broken.ensures

pub returns : goal.returns
unfolding expr_to
returns t c = rw (deeper (λ n. expr_to n (context c.args.scope.now) c.args.e.now c.args.state.now) c.args.depth (omega arith)) c.node.ensures
