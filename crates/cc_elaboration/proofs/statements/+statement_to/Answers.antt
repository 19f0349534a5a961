use Rattle.std.proofs.Common.{◌≡◌, ap, ◌∙◌, arith}
use Rattle.cc_scopes.specs.Scope.{context}
use Rattle.cc_elaboration.specs.Statements.{statement_to}
use Rattle.cc_elaboration.proofs.Depth.{deeper}
use Rattle.cc_elaboration.proofs.statements.+statement_to.Goals as goal

pub returns-then-depth-eq0 : goal.returns-then-depth-eq0
unfolding statement_to
returns-then-depth-eq0 t c = let none : c.args.depth ≡ 0 = omega arith in rw none c.too_deep.ensures

pub returns : goal.returns
unfolding statement_to
returns t c = rw (deeper (λ n. statement_to n (context c.args.scope.now) c.args.s.now c.args.state.now) c.args.depth (omega arith)) c.node.ensures
