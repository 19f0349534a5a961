-- What follows from what a shelf tells.
use Rattle.std.proofs.Common.{◌≡◌, ℕ, List, Option, Some, None}
use Rattle.ccpp_edge.specs.Shelf.{Files, Holds, HoldsIfTold}

-- what is held under a name is what a read of it gives
pub Holds-read : (held : Option Files) (name source bytes : List ℕ) → Holds held name source → HoldsIfTold held name bytes → bytes ≡ source
Holds-read None name source bytes holds given = absurd holds
Holds-read (Some files) name source bytes holds given = cc
