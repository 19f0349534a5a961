use Rattle.std.proofs.Common.{sym, subst}
use Rattle.cc_core.specs.Steps.{CanMove}
use Rattle.core_types.specs.Kinds.{IsInt}
use Rattle.core_types.proofs.Atomic.{atomic_goes_on}
use Rattle.core_types.proofs.Consequences.{kinds, main_int, stays}
use Rattle.wrong_programs.proofs.well_typed_programs_go_right.Goals as goal

pub returns-clause-asks : goal.returns-clause-asks
returns-clause-asks c = λ p typed wrong.
    let a = wrong.0 in wrong.1 (kinds p typed a.ints a.config a.reached a.name a.thread a.live a.line a.ask a.go a.asks)

pub returns-clause-ends : goal.returns-clause-ends
returns-clause-ends c = λ p typed wrong. wrong.5 (subst IsInt (sym (main_int p typed wrong.0 wrong.1 wrong.2 wrong.3 wrong.4).1) tt)

pub returns-clause-stays : goal.returns-clause-stays
returns-clause-stays c = λ p typed wrong.
    let a = wrong.0 in wrong.1 (stays p typed a.ints a.config a.reached a.name a.thread a.live a.line a.ask a.go a.asks)

pub returns-clause-goes_on : goal.returns-clause-goes_on
returns-clause-goes_on c = λ p typed source wrong.
    let a = wrong.0 in subst CanMove wrong.2 (atomic_goes_on p typed.0 typed.1 source a.ints a.config a.reached a.name a.thread a.live wrong.1)
