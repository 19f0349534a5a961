-- Which threads live, and for which of its branches a thread waits.
use Rattle.std.specs.Prelude.{ℕ, List, [], ◌∷◌, slice_get, Bool, true, false, ◌||◌, Option, Some, None}
use Rattle.std.specs.Option.{option_and_then}
use Rattle.cc_ops.specs.Machine.{Address}
use Rattle.cc_ops.specs.declared.number.ThreadNo.{ThreadNo}
use Rattle.cc_core.specs.Asks.{Ask, Joins}
use Rattle.cc_code.specs.Code.{Move, Silent, Does, Ends, Stuck}
use Rattle.law_mesh.specs.Spots.{Spot, Gone, spot_of}

abbrev pub is_live : Option Spot → Bool
is_live None = false
is_live (Some (Gone v)) = false
is_live (Some p) = true

-- whether one lives of these of the threads that a thread made
abbrev pub one_lives : List (List Spot) → List (Option ThreadNo) → List ℕ → Bool
one_lives spots kids [] = false
one_lives spots kids (k ∷ ks) = is_live (option_and_then (spot_of spots) (slice_get kids k)) || one_lives spots kids ks

abbrev pub joined_by : Ask Address → List ℕ
joined_by (Joins made) = made
joined_by ask = []

abbrev pub joins_of : Move Address → List ℕ
joins_of (Silent c) = []
joins_of (Does line ask k) = joined_by ask
joins_of (Ends v) = []
joins_of Stuck = []
