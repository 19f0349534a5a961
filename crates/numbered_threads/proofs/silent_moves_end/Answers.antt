use Rattle.std.proofs.Common.{suc, length}
use Rattle.numbered_threads.specs.Numbered.{Stands}
use Rattle.numbered_threads.specs.Quiet.{quiet_end}
use Rattle.numbered_threads.proofs.ValidLaws.{valid_code_settles}
use Rattle.numbered_threads.proofs.QuietLaws.{quiet_end_is_loud, quiet_end_goes, quiet_end_stays, kept_quietly}
use Rattle.numbered_threads.proofs.Numbered.{quiet_stands}
use Rattle.numbered_threads.proofs.silent_moves_end.Goals as goal

pub returns-clause-valid : goal.returns-clause-valid
returns-clause-valid c = valid_code_settles

pub returns-clause-loud : goal.returns-clause-loud
returns-clause-loud c = λ code settles. quiet_end_is_loud code settles

pub returns-clause-goes : goal.returns-clause-goes
returns-clause-goes c = λ code settles. quiet_end_goes code settles

pub returns-clause-stays : goal.returns-clause-stays
returns-clause-stays c = λ code. quiet_end_stays code

pub returns-clause-quiet : goal.returns-clause-quiet
unfolding quiet_end
returns-clause-quiet c = λ p code naming d t.
    kept_quietly code (λ e. Stands p code naming e t) (λ e e' stands is. quiet_stands p code naming e e' t stands is) (suc (length code.places)) d
