-- A thread that asks: the machine that it is part of, and how it is answered.
use Rattle.std.specs.Prelude.{◌≡◌, ℕ, Bool, true, false, List, [], Result, Ok, Err}
use Rattle.global_ptr.specs.declared.ends.FaultKind.{FaultKind}
use Rattle.cc_ops.specs.Values.{Value}
use Rattle.cc_ops.specs.Machine.{Address}
use Rattle.cc_ops.specs.declared.shape.FunShape.{FunShape}
use Rattle.cc_ops.specs.Shelves.{Shelf}
use Rattle.cc_core.specs.Core.{Shapes, Remote}
use Rattle.cc_core.specs.Asks.{Ask}
use Rattle.cc_core.specs.Next.{call_ask, spawn_ask}
use Rattle.cc_core.specs.Needs.{Verdict, Go, Bad}
use Rattle.stack_code.specs.View.{code_of}
use Rattle.numbered_runs.specs.Machine.{Machine}
use Rattle.cc_walk.specs.Answered.{IsAnswered}
use Rattle.cc_walk.specs.Views.{runner_of}
use Rattle.cc_walk.specs.declared.answer.Asker.{Asker}
use Rattle.cc_walk.specs.declared.effect.Effect.{Effect}
use Rattle.cc_walk.specs.declared.stop.Stop.{Stop}

-- with these objects and this output
abbrev pub machine_with : Asker → List Shelf → List ℕ → Machine
machine_with a shelves output = record { code = code_of a.code.now; shelves = shelves; threads = a.table.now; output = output }

abbrev pub shapes_of : Asker → Shapes
shapes_of a = (code_of a.code.now).shapes

-- an ask that prints nothing
abbrev pub AnswersAsk : Asker → Ask Address → (old : List Shelf) → Result Effect Stop → (new : List Shelf) → Type 0
AnswersAsk a ask old result new =
    (output : List ℕ) → IsAnswered (machine_with a old output) a.processor (runner_of a.live.now) ask result new output

-- a need that finds no value is met, or is a fault
abbrev pub IsMet : Verdict Address → Result (Unit {0}) FaultKind → Type 0
IsMet verdict (Ok done) = verdict ≡ Go []
IsMet verdict (Err kind) = verdict ≡ Bad kind

-- a call or a spawn through a global pointer
abbrev pub remote_ask : (calls : Bool) → FunShape → ℕ → List (Value Address) → Ask Address
remote_ask true shape f vs = call_ask shape Remote f vs
remote_ask false shape f vs = spawn_ask shape Remote f vs
