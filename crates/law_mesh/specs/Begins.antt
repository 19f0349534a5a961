-- Where a run begins: main is about to go on, in a function that it has entered.
use Rattle.std.specs.Prelude.{List, [], ◌∷◌, None, ℤ}
use Rattle.cc_ops.specs.Values.{Void}
use Rattle.cc_core.specs.Core.{Program}
use Rattle.cc_code.specs.Code.{Runs, enter_at}
use Rattle.cc_code.specs.Layout.{layout}
use Rattle.numbered_runs.specs.Alike.{first_shelves, first_addresses}
use Rattle.law_mesh.specs.Spots.{Fiber, Active, Mesh}

abbrev pub first_fiber : Program → List ℤ → Fiber
first_fiber p is = record { thread = Runs (enter_at (layout p) p.main Void (first_addresses p is)) [] []; kids = []; inside = (p.main, Void) ∷ [] }

abbrev pub first_mesh : Program → List ℤ → Mesh
first_mesh p is = record {
  code = layout p;
  shelves = first_shelves p is;
  spots = (Active (first_fiber p is) ∷ []) ∷ [];
  holder = λ a. None;
  output = [];
}
