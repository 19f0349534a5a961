use Rattle.std.proofs.Common.{◌≡◌, ◌++◌, drop}
use Rattle.cc_blocking.specs.Rounds.{call_rules}
use Rattle.cc_blocking.proofs.rules.note_calls.Given as goal

abbrev pub invariant-loop-call : goal.invariant-loop-call
invariant-loop-call l =
    l.broken ++ call_rules l.functions l.marks (drop l.call-index l.calls) ≡ l.fn.broken ++ call_rules l.functions l.marks l.calls
