use Rattle.std.proofs.Common.{take}
use Rattle.cc_core.specs.View.{program_of}
use Rattle.cc_explains.specs.Places.{Place, beginning}
use Rattle.cc_explains.specs.Explains.{AreRead}
use Rattle.cc_types.specs.Program.{core_program}
use Rattle.trace_check.specs.Replays.{IsAt}
use Rattle.trace_check.proofs.tracing.verdict.Given as goal

abbrev pub invariant-loop-place : goal.invariant-loop-place
invariant-loop-place l =
    let p = program_of (core_program l.checked) in (a : Place) × AreRead p (take l.place l.before) (beginning p l.args) a × IsAt p l.replay a
