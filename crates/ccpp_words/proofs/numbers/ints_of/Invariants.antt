use Rattle.std.proofs.Common.{◌≤◌, take}
use Rattle.ccpp_words.specs.Words.{AreInts}
use Rattle.ccpp_words.proofs.numbers.ints_of.Given as goal

-- the words before are ints, eight at most
abbrev pub invariant-loop-before : goal.invariant-loop-before
invariant-loop-before l = AreInts (take l.before l.words) l.ints × (l.before ≤ 8)
