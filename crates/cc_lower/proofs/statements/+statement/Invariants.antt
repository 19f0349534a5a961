use Rattle.std.proofs.Common.{◌≡◌, drop}
use Rattle.cc_core.specs.View.{stmts_of}
use Rattle.stack_code.specs.View.{code_of}
use Rattle.cc_lower.specs.Emitted.{emitted_stmts, emitted_branches, HasFunction}
use Rattle.cc_lower.specs.Exits.{loop_of}
use Rattle.cc_lower.proofs.statements.+statement.Given as goal

abbrev pub invariant-statements-loop-s : goal.invariant-statements-loop-s
invariant-statements-loop-s l = record {
  begun : HasFunction (code_of l.maker);
  lowered : emitted_stmts (code_of l.maker) l.line (loop_of l.exits) (stmts_of (drop l.s-index l.body))
      ≡ emitted_stmts (code_of l.fn.maker) l.line (loop_of l.exits) (stmts_of l.body);
}

abbrev pub invariant-put_branches-loop-branch : goal.invariant-put_branches-loop-branch
invariant-put_branches-loop-branch l = record {
  begun : HasFunction (code_of l.maker);
  lowered : emitted_branches (code_of l.maker) l.line l.fork l.which (stmts_of (drop l.branch-index l.branches))
      ≡ emitted_branches (code_of l.fn.maker) l.line l.fork 0 (stmts_of l.branches);
}
