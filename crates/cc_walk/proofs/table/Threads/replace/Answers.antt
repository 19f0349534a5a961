use Rattle.std.proofs.Common.{◌<◌, ◌≤◌, List, length, map, slice_get, refl, ap, ◌∙◌, arith, Some}
use Rattle.std.proofs.Math.ListN.{length-map}
use Rattle.cc_ops.specs.Shelves.{changed}
use Rattle.numbered_runs.specs.Machine.{Progress}
use Rattle.walk_objects.proofs.Changed.{changed_past, set_mapped}
use Rattle.cc_walk.specs.Views.{progress_of}
use Rattle.cc_walk.specs.declared.live.State.{State}
use Rattle.cc_walk.proofs.Places.{found_mapped}
use Rattle.cc_walk.proofs.table.Threads.replace.Goals as goal

pub returns-in_err-place-clause-now : goal.returns-in_err-place-clause-now
returns-in_err-place-clause-now c =
    let states = c.self.inside.states.items in
    let shown : List Progress = map progress_of states in
    let f : Progress → Progress = λ s. progress_of c.args.state in
    let past : length shown ≤ c.args.thread = grind (arith, length-map states progress_of, c.in_err-place.ensures.variant) in
    changed_past f shown c.args.thread past ∙ ap (λ v. changed v c.args.thread f) c.self.view_is

pub returns-clause-was : goal.returns-clause-was
returns-clause-was c =
    let states = c.self.inside.states.items in
    let within : c.args.thread < length states = omega (arith, c.in_ok-place.ensures.variant.0 refl) in
    ap (λ (s : State). Some (progress_of s)) c.replace.ensures.value
    ∙ found_mapped states c.args.thread c.in_ok-place.place.now within c.in_ok-place.ensures.value progress_of
    ∙ ap (λ v. slice_get v c.args.thread) c.self.view_is

pub returns-clause-now : goal.returns-clause-now
returns-clause-now c =
    let states = c.self.inside.states.items in
    let k = c.args.thread in
    let within : k < length states = omega (arith, c.in_ok-place.ensures.variant.0 refl) in
    set_mapped progress_of states k c.replace.new.dest within
    ∙ ap (λ s. changed (map progress_of states) k (λ t. progress_of s)) c.replace.ensures.after
    ∙ ap (λ v. changed v k (λ s. progress_of c.args.state)) c.self.view_is
