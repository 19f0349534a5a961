-- A count of faults, which stops at the last value of a `u64`.
use Rattle.std.specs.Prelude.{◌≡◌, ◌⊎◌, ℕ, ◌+◌, ◌<◌, ◌==◌, if◌then◌else◌}

abbrev pub last_count : ℕ
last_count = 18446744073709551615

-- the count rose, or it stands at its last value, where a rise no longer shows
abbrev pub Rose : ℕ → ℕ → Type 0
Rose old new = (old < new) ⊎ (new ≡ last_count)

-- the count after one more, which stays at its last value
abbrev pub raised : ℕ → ℕ
raised count = if count == last_count then last_count else count + 1
