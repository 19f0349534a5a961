-- The machine of code whose first thread has entered a function.
use Rattle.std.specs.Prelude.{ℕ, [], ◌∷◌, None}
use Rattle.cc_ops.specs.Values.{Void}
use Rattle.cc_ops.specs.Shelves.{no_shelf}
use Rattle.cc_ops.specs.Machine.{Values}
use Rattle.cc_core.specs.Core.{function_shape}
use Rattle.cc_code.specs.Code.{Code, Runs, enter_at}
use Rattle.numbered_runs.specs.Effects.{parameters, put_things, addresses}
use Rattle.numbered_runs.specs.Machine.{Machine, Runner}
use Rattle.numbered_runs.specs.Steps.{settle}

-- function f is entered with these addresses of its parameters
abbrev pub entered_runner : Code → (f : ℕ) → Values → Runner
entered_runner code f vs = record { thread = Runs (enter_at code f Void vs) [] []; asked = None; kids = []; inside = (f, Void) ∷ [] }

-- function f is entered with these values
abbrev pub entering : Code → (f : ℕ) → Values → Machine
entering code f vs =
    let made = parameters 0 (function_shape code.shapes f).params vs in
    record {
      code = code;
      shelves = put_things (no_shelf ∷ []) made;
      threads = (settle code (entered_runner code f (addresses (no_shelf ∷ []) made)) ∷ []) ∷ [];
      output = [];
    }
