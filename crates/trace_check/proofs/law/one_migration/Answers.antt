use Rattle.trace_check.proofs.MigrationLaws.{one_migration}
use Rattle.trace_check.proofs.law.one_migration.Goals as goal

pub returns : goal.returns
returns c = one_migration
