-- Whether an ask waits.
use Rattle.std.specs.Prelude.{Bool, true, false}
use Rattle.cc_core.specs.Needs.{Verdict, Go, Hold, Bad}

abbrev pub is_hold : {N : Type 0} → Verdict N → Bool
is_hold (Go vs) = false
is_hold Hold = true
is_hold (Bad kind) = false
