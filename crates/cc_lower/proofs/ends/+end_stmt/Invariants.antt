use Rattle.std.proofs.Common.{◌≡◌, drop}
use Rattle.cc_core.specs.View.{stmts_of}
use Rattle.cc_code.specs.Layout.{end_stmts, end_branches}
use Rattle.cc_lower.proofs.ends.+end_stmt.Given as goal

abbrev pub invariant-end_of_statements-loop-s : goal.invariant-end_of_statements-loop-s
invariant-end_of_statements-loop-s l = end_stmts l.end (stmts_of (drop l.s-index l.body)) ≡ end_stmts l.at (stmts_of l.body)

abbrev pub invariant-end_of_branches-loop-branch : goal.invariant-end_of_branches-loop-branch
invariant-end_of_branches-loop-branch l =
    end_branches l.end (stmts_of (drop l.branch-index l.branches)) ≡ end_branches l.at (stmts_of l.branches)
