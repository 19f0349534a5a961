-- How a walk ends.
use Rattle.std.proofs.Common.{◌≡◌, ◌≢◌, ℕ, List, Bool, true, length, ap, inl, inr}
use Rattle.std.proofs.lemmas.Bool.{cases_lt}
use Rattle.std.proofs.lemmas.Option.{slice_get_past}
use Rattle.cc_code.specs.Code.{Code}
use Rattle.cc_code.specs.Settles.{silent_to}
use Rattle.cc_code.specs.Valid.{LeadsSilently}
use Rattle.stack_code.specs.Circles.{stops, IsMet, IsWalked, AreRounds, walk_at, is_round}
use Rattle.stack_code.proofs.CircleLaws.{walk_meets, walk_rounds}

-- at a place of another walk, or of no walk
pub met_other : (code : Code) (walked : List ℕ) (rounds : List Bool) (n at : ℕ) → IsMet code walked rounds n at → walk_at walked at ≢ n → IsWalked code walked rounds n
met_other code walked rounds n at m other =
    walk_meets code walked rounds n at m.on (elim (cases_lt at (length code.places)) [
      | inl lt ↦ m.on.ended at (m.old lt) other
      | inr out ↦ stops (ap (silent_to at) (slice_get_past code.places at out))
    ])

-- at a place of its own
pub met_same : (code : Code) (walked : List ℕ) (rounds : List Bool) (n at : ℕ) → IsMet code walked rounds n at → walk_at walked at ≡ n → LeadsSilently code at at
met_same code walked rounds n at m is = m.on.leads at is

pub met_round : (code : Code) (walked : List ℕ) (rounds rounds' : List Bool) (n at : ℕ) → IsMet code walked rounds n at → AreRounds code rounds' → ((x : ℕ) → is_round rounds x ≡ true → is_round rounds' x ≡ true) → is_round rounds' at ≡ true → IsWalked code walked rounds' n
met_round code walked rounds rounds' n at m are stay found = walk_rounds code walked rounds rounds' n at m.on are stay found
