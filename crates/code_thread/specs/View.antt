-- How contracts see a thread that runs, and what one asks.
use Rattle.std.specs.Prelude.{◌≡◌, ℕ, ◌<◌, List, map, reverse, drop, length, Option, Some, None}
use Rattle.cc_ops.specs.Values.{Value}
use Rattle.global_ptr.specs.declared.values.Value.{Value as RustValue}
use Rattle.cc_ops.specs.Machine.{Address, value_of}
use Rattle.cc_core.specs.View.{how_of, part_of}
use Rattle.cc_core.specs.Core.{Shapes, function_shape}
use Rattle.cc_core.specs.Asks.{Ask, Answer, Reads, Writes, Indexes, Shifts, Computes, Tests, Makes, MakesWith, Enters, Leaves}
use Rattle.cc_core.specs.Asks.{ForksAll, ForksOne, Joins, Prints}
use Rattle.cc_core.specs.Next.{call_ask, spawn_ask, object_ask}
use Rattle.cc_core.specs.Effects.{numbers}
use Rattle.cc_code.specs.Code.{Thread, Runs, Finished, Move, act, move, Code, Instr}
use Rattle.cc_code.specs.Valid.{taken}
use Rattle.stack_code.specs.View.{placed_at}
use Rattle.code_thread.specs.Stacks.{topmost}
use Rattle.code_thread.specs.Moves.{Seen, Quiet, Asking, Ending, Nowhere}
use Rattle.code_thread.specs.Acts.{acts_on}
use Rattle.code_thread.specs.declared.ask.Ask.{Ask as RustAsk}
use Rattle.code_thread.specs.declared.ask.Ask.TheVariants as asked
use Rattle.code_thread.specs.declared.ask.Look.{Look}
use Rattle.code_thread.specs.declared.ask.Look.TheVariants as look
use Rattle.code_thread.specs.declared.running.Running.{Running}

abbrev pub operands_of : Running → List (Value Address)
operands_of r = map value_of r.operands

abbrev pub running_of : Running → Thread Address
running_of r = Runs r.frame r.callers (operands_of r)

-- what a thread asks, where the program has these shapes
abbrev pub ask_of : Shapes → RustAsk → Ask Address
ask_of h (asked.Reads remote from) = Reads remote (value_of from)
ask_of h (asked.Writes remote to v) = Writes remote (value_of to) (value_of v)
ask_of h (asked.Indexes array n index) = Indexes (value_of array) n (value_of index)
ask_of h (asked.Shifts pointer index) = Shifts (value_of pointer) (value_of index)
ask_of h (asked.Computes op vs) = Computes op (map value_of vs.now)
ask_of h asked.Tests = Tests
ask_of h (asked.Makes kind n) = Makes kind n
ask_of h (asked.MakesWith kind v) = MakesWith kind (value_of v)
ask_of h (asked.Constructs remote c vs) = object_ask remote c (map value_of vs.now)
ask_of h (asked.Calls how f vs) = call_ask (function_shape h f) (how_of how) f (map value_of vs.now)
ask_of h (asked.Spawns how f vs) = spawn_ask (function_shape h f) (how_of how) f (map value_of vs.now)
ask_of h (asked.Enters f this vs) = Enters f (value_of this) (map value_of vs.now)
ask_of h asked.Leaves = Leaves
ask_of h (asked.ForksAll n) = ForksAll n
ask_of h (asked.ForksOne v) = ForksOne (value_of v)
ask_of h (asked.Joins ks) = Joins (reverse ks.now)
ask_of h (asked.Prints parts vs) = Prints (map part_of parts.now) (map value_of vs.now)

abbrev pub look_of : Shapes → Look → Seen Address
look_of h look.Silent = Quiet
look_of h (look.Asks line q) = Asking line (ask_of h q)
look_of h (look.Ends v) = Ending (value_of v)
look_of h look.Stuck = Nowhere

-- the answer with these values and so many branches, from this number on among the threads that the thread makes
abbrev pub answer_of : (found : List RustValue) → (first count : ℕ) → Answer Address
answer_of found first count = record { values = map value_of found; made = numbers first count }

-- the instruction at the place of a thread: what it does is the thread's next move
pub record IsNext (code : Code) (r : Running) (i : Instr) : Type 0 where
  pub inside : r.frame.place < length code.places
  pub moves : act code r.frame r.callers (operands_of r) (placed_at code r.frame.place).line i ≡ move code (running_of r)

-- the move of a thread by an instruction at a line that finds its operands
abbrev pub acts : Code → Running → (line : ℕ) → Instr → Move Address
acts code r line i =
    let n = taken code.shapes i in acts_on code r.frame r.callers (topmost n (operands_of r)) (drop n (operands_of r)) line i

-- the end of a thread with a value, or the thread as it runs on
abbrev pub ended_or : Running → Option RustValue → Thread Address
ended_or r None = running_of r
ended_or r (Some v) = Finished (value_of v)
