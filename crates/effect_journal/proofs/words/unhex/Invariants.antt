use Rattle.std.proofs.Common.{◌≡◌, length, Some, ◌++◌}
use Rattle.effect_journal.specs.Reading.{unhex, ◌>>=◌}
use Rattle.effect_journal.proofs.words.unhex.Given as goal

abbrev pub invariant-loop-rest : goal.invariant-loop-rest
invariant-loop-rest l = (unhex l.rest >>= λ more. Some (l.bytes ++ more)) ≡ unhex l.digits

abbrev pub decreases-loop-rest : goal.decreases-loop-rest
decreases-loop-rest l = length l.rest
