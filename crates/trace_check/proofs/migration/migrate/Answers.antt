use Rattle.std.proofs.Common.{⊎_elim, inl, inr}
use Rattle.trace_check.specs.Migration.{Migrates}
use Rattle.trace_check.proofs.MigrationLaws.{one_migration}
use Rattle.trace_check.proofs.migration.migrate.Goals as goal

pub returns-clause-exact : goal.returns-clause-exact
returns-clause-exact c answer h =
    ⊎_elim (λ memory. inl memory)
    (λ (found : Migrates c.args.text.now c.answer.result). inr (one_migration c.args.text.now c.answer.result answer found h))
    c.answer.ensures
