-- A rise of a count, seen from further away.
use Rattle.std.proofs.Common.{◌≤◌, ℕ, arith}
use Rattle.ccpp_edge.specs.Count.{Rose}

-- a count that never falls and rose in between rose over the whole
pub Rose-between : (first before after last : ℕ) → first ≤ before → before ≤ after → Rose before after → after ≤ last → Rose first last
Rose-between first before after last early middle rose late = grind arith
