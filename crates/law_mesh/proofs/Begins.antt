-- The first mesh shows the first machine of numbers.
use Rattle.std.proofs.Common.{◌≡◌, List, [], refl, ℤ}
use Rattle.cc_core.specs.Core.{Program}
use Rattle.numbered_runs.specs.Alike.{first_machine}
use Rattle.law_mesh.specs.Spots.{shown}
use Rattle.law_mesh.specs.Begins.{first_mesh}
use Rattle.law_mesh.specs.Shows.{Shows}

pub first_shown : (p : Program) (is : List ℤ) → Shows (first_mesh p is) (first_machine p is).threads
first_shown p is = ((record { kids = []; same = tt; is = refl }, tt), tt)

pub first_is : (p : Program) (is : List ℤ) → shown (first_mesh p is) (first_machine p is).threads ≡ first_machine p is
first_is p is = refl
