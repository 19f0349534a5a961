use Rattle.std.proofs.Common.{◌≡◌, length}
use Rattle.cc_scopes.specs.Scope.{context}
use Rattle.cc_typing.specs.Parts.{links_from}
use Rattle.cc_typing.specs.Expr.{expr_to}
use Rattle.cc_typing.proofs.elaborator.Elaborator.links.Given as goal

abbrev pub invariant-loop-all : goal.invariant-loop-all
invariant-loop-all g l = links_from (expr_to l.self.depth) (context l.scope) l.fn.first l.fn.all l.fn.state ≡ links_from (expr_to l.self.depth) (context l.scope) l.done l.all l.state

abbrev pub decreases-loop-all : goal.decreases-loop-all
decreases-loop-all g l = length l.all
