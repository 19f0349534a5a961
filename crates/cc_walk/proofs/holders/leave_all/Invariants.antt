use Rattle.std.proofs.Common.{◌≡◌, length, map}
use Rattle.stack_code.specs.View.{code_of}
use Rattle.numbered_runs.specs.Effects.{leave_all}
use Rattle.cc_walk.specs.Views.{inside_of}
use Rattle.cc_walk.proofs.holders.leave_all.Given as goal

abbrev pub invariant-loop-left : goal.invariant-loop-left
invariant-loop-left l = let h = (code_of l.code).shapes in
    leave_all h (map inside_of l.inside) l.objects ≡ leave_all h (map inside_of l.initial.inside) l.initial.objects

abbrev pub decreases-loop-left : goal.decreases-loop-left
decreases-loop-left l = length l.inside
