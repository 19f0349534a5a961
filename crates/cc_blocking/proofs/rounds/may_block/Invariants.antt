use Rattle.std.proofs.Common.{◌≡◌, ◌-◌, length}
use Rattle.cc_blocking.specs.Rounds.{rounds, may_block}
use Rattle.cc_blocking.proofs.rounds.may_block.Given as goal

abbrev pub invariant-loop : goal.invariant-loop
invariant-loop l = record {
  whole : length l.marks ≡ length l.functions;
  rounds : rounds l.functions (length l.functions - l.counter) l.marks ≡ may_block l.functions;
}
