use Rattle.std.proofs.Common.{◌≢◌, sym, ◌∙◌}
use Rattle.std.proofs.lemmas.Bool.{true≢false}
use Rattle.std.proofs.lemmas.Slice.Eq.{bytes_eq-Decides}
use Rattle.effect_journal.specs.Journal.{version_1}
use Rattle.trace_check.proofs.Steps.{other_version}
use Rattle.trace_check.proofs.migration.behind_header.Goals as goal

pub returns-else-eq : goal.returns-else-eq
returns-else-eq c =
    let differ : c.in_ok-first.first.now ≢ version_1.header =
    λ same. true≢false (sym ((bytes_eq-Decides c.in_ok-first.first.now c.header.result.now).1 (same ∙ sym c.header.ensures)) ∙ (sym c.eq.ensures ∙ c.if-eq.false)) in
    other_version c.args.text.now c.in_ok-first.first.now c.in_ok-first.lines.now c.in_ok-first.ensures differ
