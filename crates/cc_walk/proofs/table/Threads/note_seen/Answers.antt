use Rattle.std.proofs.Common.{◌<◌, length, refl, ◌∙◌, arith}
use Rattle.cc_walk.specs.Views.{progress_of}
use Rattle.cc_walk.proofs.Places.{told_alike}
use Rattle.cc_walk.proofs.table.Threads.note_seen.Goals as goal

pub returns : goal.returns
returns c =
    let states = c.self.inside.states.items in
    let within : c.args.thread < length states = omega (arith, c.in-Some.ensures.variant.0 refl) in
    told_alike progress_of states c.args.thread c.in-Some.state.now c.note_seen.new.self within c.in-Some.ensures.value c.note_seen.ensures
    ∙ c.self.view_is
