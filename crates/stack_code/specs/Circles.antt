-- How circles of silent instructions are found: from each place the silent instructions are walked over, and a walk that comes back to a
-- place of its own has found a circle.
use Rattle.std.specs.Prelude.{◌≡◌, ◌≢◌, ◌⊎◌, ℕ, ◌+◌, ◌<◌, ◌≤◌, ◌==◌, if◌then◌else◌, Bool, true, false, List, [], ◌∷◌, length, get_or, slice_get, Option, Some, None}
use Rattle.cc_code.specs.Code.{Code, Placed, Instr, JumpI}
use Rattle.cc_code.specs.Settles.{silent_to}
use Rattle.cc_code.specs.Valid.{LeadsSilently}

-- where the instruction at a place leads, if it is silent
abbrev pub next : Code → ℕ → Option ℕ
next code b = silent_to b (slice_get code.places b)

-- whether a jump stands at a place
abbrev pub is_jump : Instr → Bool
is_jump (JumpI to) = true
is_jump i = false

abbrev pub is_jump_in : Option Placed → Bool
is_jump_in None = false
is_jump_in (Some i) = is_jump i.instr

abbrev pub is_jump_at : Code → ℕ → Bool
is_jump_at code b = is_jump_in (slice_get code.places b)

-- the number of the walk that a place was walked over in, and 0 before that
abbrev pub walk_at : List ℕ → ℕ → ℕ
walk_at walked b = get_or walked b 0

abbrev pub is_round : List Bool → ℕ → Bool
is_round rounds b = get_or rounds b false

-- silent instructions alone lead from a place to one that is not silent, or to one that is known to lie on a circle
pub data Ends (code : Code) (rounds : List Bool) : ℕ → Type 0 where
  stops : {b : ℕ} → next code b ≡ None → Ends code rounds b
  goes : {b c : ℕ} → next code b ≡ Some c → Ends code rounds c → Ends code rounds b
  known : {b : ℕ} → is_round rounds b ≡ true → Ends code rounds b

-- the places that are known to lie on a circle do, and where they lead is known, too
pub record AreRounds (code : Code) (rounds : List Bool) : Type 0 where
  pub size : length rounds ≡ length code.places
  pub sound : (b : ℕ) → is_round rounds b ≡ true → LeadsSilently code b b
  pub closed : (b c : ℕ) → is_round rounds b ≡ true → next code b ≡ Some c → is_round rounds c ≡ true

-- after so many walks
pub record IsWalked (code : Code) (walked : List ℕ) (rounds : List Bool) (walks : ℕ) : Type 0 where
  pub size : length walked ≡ length code.places
  pub circles : AreRounds code rounds
  pub numbers : (b : ℕ) → walk_at walked b ≤ walks
  pub ended : (b : ℕ) → walk_at walked b ≢ 0 → Ends code rounds b

-- in the midst of a walk with a new number, at a place
pub record IsOnWalk (code : Code) (walked : List ℕ) (rounds : List Bool) (walk at : ℕ) : Type 0 where
  pub size : length walked ≡ length code.places
  pub circles : AreRounds code rounds
  pub numbers : (b : ℕ) → walk_at walked b ≤ walk
  pub ended : (b : ℕ) → walk_at walked b ≢ 0 → walk_at walked b ≢ walk → Ends code rounds b
  pub leads : (b : ℕ) → walk_at walked b ≡ walk → LeadsSilently code b at

-- in the midst of a walk, at a place that was walked over before, or that does not stand in the code
pub record IsMet (code : Code) (walked : List ℕ) (rounds : List Bool) (walk at : ℕ) : Type 0 where
  pub on : IsOnWalk code walked rounds walk at
  pub old : (at < length code.places) → walk_at walked at ≢ 0

-- on the way round a circle that began at a place: what is marked leads to what is marked, or to this place
pub record IsRounding (code : Code) (rounds : List Bool) (from at : ℕ) : Type 0 where
  pub size : length rounds ≡ length code.places
  pub sound : (b : ℕ) → is_round rounds b ≡ true → LeadsSilently code b b
  pub nearly : (b c : ℕ) → is_round rounds b ≡ true → next code b ≡ Some c → (is_round rounds c ≡ true) ⊎ (c ≡ at)
  pub circle : LeadsSilently code at at
  pub found : (at ≡ from) ⊎ (is_round rounds from ≡ true)

-- how many places are not walked over yet, and not marked yet
abbrev pub unwalked : List ℕ → ℕ
unwalked [] = 0
unwalked (w ∷ ws) = (if w == 0 then 1 else 0) + unwalked ws

abbrev pub unmarked : List Bool → ℕ
unmarked [] = 0
unmarked (b ∷ bs) = (if b then 0 else 1) + unmarked bs
