use Rattle.core_types.proofs.Atomic.{atomic_goes_on, rest_outside, rest_free}
use Rattle.core_types.proofs.atomic_functions_go_on.Goals as goal

pub returns-clause-moves : goal.returns-clause-moves
returns-clause-moves c = atomic_goes_on

pub returns-clause-outside : goal.returns-clause-outside
returns-clause-outside c = rest_outside

pub returns-clause-unheld : goal.returns-clause-unheld
returns-clause-unheld c = rest_free
