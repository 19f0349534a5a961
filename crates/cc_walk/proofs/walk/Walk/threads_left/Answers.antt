use Rattle.std.proofs.Common.{◌∙◌}
use Rattle.cc_walk.specs.Views.{machine_of}
use Rattle.numbered_runs.proofs.Left.{left_alike}
use Rattle.cc_walk.proofs.walk.Walk.threads_left.Goals as goal

pub returns : goal.returns
returns c = λ p s n stands. c.threads_left.ensures ∙ left_alike p (machine_of c.args.self.now) s n stands
