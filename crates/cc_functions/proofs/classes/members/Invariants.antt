use Rattle.std.proofs.Common.{◌≡◌, length}
use Rattle.cc_scopes.specs.Scope.{context}
use Rattle.cc_functions.specs.Items.{members_from, no_members}
use Rattle.cc_functions.proofs.classes.members.Given as goal

abbrev pub invariant-loop-all : goal.invariant-loop-all
invariant-loop-all l = members_from (context l.scope) l.class l.fn.done no_members l.fn.all l.fn.state
    ≡ members_from (context l.scope) l.class l.so_far.0 l.so_far.1 l.all l.state

abbrev pub decreases-loop-all : goal.decreases-loop-all
decreases-loop-all l = length l.all
