-- Rust's parts of a walk as contracts see them.
use Rattle.std.specs.Prelude.{ℕ, map, Option, Some, None}
use Rattle.global_ptr.specs.declared.values.Value.{Value as RustValue}
use Rattle.cc_ops.specs.Values.{Value}
use Rattle.cc_ops.specs.Machine.{Address, value_of}
use Rattle.cc_code.specs.Code.{Thread, Starting}
use Rattle.stack_code.specs.View.{code_of}
use Rattle.numbered_runs.specs.Machine.{Machine, Progress, Goes, Over, Runner}
use Rattle.cc_walk.specs.declared.effect.Start.{Start}
use Rattle.cc_walk.specs.declared.live.Inside.{Inside}
use Rattle.cc_walk.specs.declared.live.Live.{Live}
use Rattle.cc_walk.specs.declared.live.State.{State}
use Rattle.cc_walk.specs.declared.live.State.TheVariants as state
use Rattle.cc_walk.specs.declared.walk.Walk.{Walk}

abbrev pub inside_of : Inside → ℕ × Value Address
inside_of e = (e.function, value_of e.object)

abbrev pub runner_of : Live → Runner
runner_of l = record { thread = l.thread; asked = l.asked; kids = l.kids; inside = map inside_of l.inside }

abbrev pub progress_of : State → Progress
progress_of (state.Live l) = Goes (runner_of l.value)
progress_of (state.Ended v) = Over (value_of v)

-- a thread that goes on, or has ended with a value
abbrev pub ended_as : Runner → Option RustValue → Progress
ended_as r None = Goes r
ended_as r (Some v) = Over (value_of v)

-- the thread, where it goes on
abbrev pub live_of : Option Progress → Option Runner
live_of None = None
live_of (Some (Goes r)) = Some r
live_of (Some (Over v)) = None

abbrev pub machine_of : Walk → Machine
machine_of w = record { code = code_of w.code; shelves = w.objects; threads = w.table; output = w.output }

-- the thread that is made for a call
abbrev pub started : Start → Thread Address
started s = Starting s.function (value_of s.this) (map value_of s.args)

-- the processor of the threads that are made: that of the thread that is made for a call, else their maker's own
abbrev pub home_of : (own : ℕ) → Option Start → ℕ
home_of own None = own
home_of own (Some s) = s.processor
