use Rattle.std.proofs.Common.{◌≡◌, ℕ, ◌<◌}
use Rattle.cc_code.specs.Code.{entry}
use Rattle.cc_code.specs.Valid.{end_of}
use Rattle.stack_code.specs.View.{drafted}
use Rattle.stack_code.proofs.draft.Draft.empty_entry.Given as goal

abbrev pub invariant-loop-number : goal.invariant-loop-number
invariant-loop-number l = (f : ℕ) → f < l.number → ¬ (entry (drafted l.self) f ≡ end_of (drafted l.self) f)
