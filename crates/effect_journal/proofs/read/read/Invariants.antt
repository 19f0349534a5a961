use Rattle.std.proofs.Common.{◌≡◌, length, ◌+◌, ◌≤◌}
use Rattle.effect_journal.specs.Journal.{Begins, format_of}
use Rattle.effect_journal.proofs.read.read.Given as goal

abbrev pub invariant-loop-next : goal.invariant-loop-next
invariant-loop-next l = record {
  begins : Begins (format_of l.version) l.entries l.text l.rest;
  counted : l.line ≡ length l.entries + 1;
  within : l.line + length l.rest ≤ length l.text;
}

abbrev pub decreases-loop-next : goal.decreases-loop-next
decreases-loop-next l = length l.rest
