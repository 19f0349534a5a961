use Rattle.std.proofs.Common.{◌≡◌, ℕ, Option, ◌<◌, ◌++◌, ◌∷◌, [], suc, List, length, refl, sym, ap, ◌∙◌, arith, length-append}
use Rattle.std.specs.Option.{option_map_or}
use Rattle.numbered_runs.specs.Machine.{Progress, push_thread, made_in}
use Rattle.walk_objects.proofs.Changed.{set_changed}
use Rattle.cc_walk.specs.Views.{progress_of}
use Rattle.cc_walk.proofs.Places.{found, found_set}
use Rattle.cc_walk.proofs.table.Table.push.Goals as goal

pub returns-clause-thread : goal.returns-clause-thread
returns-clause-thread c =
    let tables = c.self.inside.processors.items in
    let within : c.args.processor < length tables = omega (arith, c.in-Some.ensures.variant.0 refl) in
    let p = progress_of c.args.state in
    set_changed (λ ts. ts ++ p ∷ []) tables c.args.processor c.in-Some.threads.now c.push.new.self within c.in-Some.ensures.value c.in_ok-push.ensures
    ∙ ap (λ v. push_thread v c.args.processor p) c.self.view_is

pub returns-clause-made : goal.returns-clause-made
returns-clause-made c =
    let tables = c.self.inside.processors.items in
    let q = c.args.processor in
    let within : q < length tables = omega (arith, c.in-Some.ensures.variant.0 refl) in
    let threads = c.in-Some.threads.now in
    let count : Option (List Progress) → ℕ = λ o. option_map_or (λ ts. length ts) o 0 in
    let longer : length c.push.new.self ≡ suc (length threads) =
    ap length c.in_ok-push.ensures ∙ omega (arith, length-append threads (progress_of c.args.state ∷ [])) in
    ap count (found_set tables q c.push.new.self within) ∙ longer
    ∙ ap suc (sym (ap count (found tables q threads within c.in-Some.ensures.value)))
    ∙ ap (λ v. suc (made_in v q)) c.self.view_is
