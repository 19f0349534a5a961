use Rattle.std.proofs.Common.{◌≡◌, drop}
use Rattle.numbered_runs.specs.Looks.{all_ended}
use Rattle.cc_walk.proofs.answer.Asker.going_from.Given as goal

-- those that were passed have ended
abbrev pub invariant-loop-place : goal.invariant-loop-place
invariant-loop-place l =
    let ended = all_ended l.self.table.now l.self.live.now.kids in ended (drop l.from l.made) ≡ ended (drop l.place l.made)
