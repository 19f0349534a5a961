use Rattle.core_types.proofs.Start.{start_has_types, step_keeps_types, reached_has_types}
use Rattle.core_types.proofs.types_are_kept.Goals as goal

pub returns-clause-begun : goal.returns-clause-begun
returns-clause-begun c = start_has_types

pub returns-clause-kept : goal.returns-clause-kept
returns-clause-kept c = step_keeps_types

pub returns-clause-reached : goal.returns-clause-reached
returns-clause-reached c = reached_has_types
