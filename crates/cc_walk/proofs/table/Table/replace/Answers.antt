use Rattle.std.proofs.Common.{◌<◌, ◌≤◌, List, length, slice_get, refl, ap, ◌∙◌, arith, sym}
use Rattle.std.specs.Option.{option_and_then}
use Rattle.cc_ops.specs.Shelves.{changed}
use Rattle.numbered_runs.specs.Machine.{Progress, put_thread, thread_in}
use Rattle.walk_objects.proofs.Changed.{changed_past, set_changed}
use Rattle.cc_walk.specs.Views.{progress_of}
use Rattle.cc_walk.proofs.Places.{found}
use Rattle.cc_walk.proofs.table.Table.replace.Goals as goal

pub returns-in_err-threads-clause-now : goal.returns-in_err-threads-clause-now
returns-in_err-threads-clause-now c =
    let tables = c.self.inside.processors.items in
    let p = progress_of c.args.state in
    let past : length tables ≤ c.args.t.processor = grind (arith, c.in_err-threads.ensures.variant) in
    changed_past (λ ts. changed ts c.args.t.thread (λ s. p)) tables c.args.t.processor past ∙ ap (λ v. put_thread v c.args.t p) c.self.view_is

pub returns-clause-was : goal.returns-clause-was
returns-clause-was c =
    let tables = c.self.inside.processors.items in
    let within : c.args.t.processor < length tables = omega (arith, c.in_ok-threads.ensures.variant.0 refl) in
    let threads = c.in_ok-threads.threads.now in
    c.replace.ensures.was
    ∙ sym (ap (λ o. option_and_then (λ (ts : List Progress). slice_get ts c.args.t.thread) o) (found tables c.args.t.processor threads within c.in_ok-threads.ensures.value))
    ∙ ap (λ v. thread_in v c.args.t) c.self.view_is

pub returns-clause-now : goal.returns-clause-now
returns-clause-now c =
    let tables = c.self.inside.processors.items in
    let within : c.args.t.processor < length tables = omega (arith, c.in_ok-threads.ensures.variant.0 refl) in
    let p = progress_of c.args.state in
    set_changed (λ ts. changed ts c.args.t.thread (λ s. p)) tables c.args.t.processor c.in_ok-threads.threads.now c.replace.new.self within c.in_ok-threads.ensures.value c.replace.ensures.now
    ∙ ap (λ v. put_thread v c.args.t p) c.self.view_is
