use Rattle.cc_core.specs.Core.{Program}
use Rattle.cc_explains.specs.Places.{Place}
use Rattle.cc_explains.specs.Explains.{IsRead}
use Rattle.effect_journal.specs.declared.entry.Entry.TheVariants.{Run}
use Rattle.trace_check.specs.Replays.{IsAt}
use Rattle.trace_check.proofs.replay.Replay.run.Given as goal

abbrev pub invariant-loop : goal.invariant-loop
invariant-loop l =
    (p : Program) (a : Place) → IsAt p l.fn.self a → (b : Place) × IsRead p (Run l.t.processor l.t.thread l.counter) a b × IsAt p l.self b
