use Rattle.std.proofs.Common.{◌≡◌, ℕ, ◌≤◌, codes, count_by, take, drop}
use Rattle.cc_lexer.specs.Cut.{Begins, is_line_feed}
use Rattle.cc_lexer.proofs.blank.comment_end.Given as goal

abbrev pub invariant-loop-at : goal.invariant-loop-at
invariant-loop-at l = record {
  none_before : (k : ℕ) → Begins (drop k l.inside) (codes "*/") → l.at ≤ k;
  line_feeds : l.line_feeds ≡ count_by is_line_feed (take l.at l.inside);
}
