use Rattle.std.proofs.Common.{◌≡◌, ℕ, true}
use Rattle.stack_code.specs.View.{drafted}
use Rattle.stack_code.specs.Circles.{IsRounding, is_round, unmarked}
use Rattle.stack_code.proofs.circles.go_round.Given as goal

abbrev pub invariant-round : goal.invariant-round
invariant-round l = record {
  rounding : IsRounding (drafted l.draft) l.rounds.items l.from l.at;
  stay : (b : ℕ) → is_round l.fn.rounds.items b ≡ true → is_round l.rounds.items b ≡ true;
}

abbrev pub decreases-round : goal.decreases-round
decreases-round l = unmarked l.rounds.items
