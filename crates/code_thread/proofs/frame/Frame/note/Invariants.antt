use Rattle.std.proofs.Common.{◌≡◌, ◌-◌, ◌++◌}
use Rattle.cc_core.specs.Effects.{numbers}
use Rattle.code_thread.proofs.frame.Frame.note.Given as goal

abbrev pub invariant-loop-back : goal.invariant-loop-back
invariant-loop-back l = record {
  this : l.self-inside.this ≡ l.initial.self-inside.this;
  vars : l.self-inside.vars ≡ l.initial.self-inside.vars;
  place : l.self-inside.place ≡ l.initial.self-inside.place;
  made : l.self-inside.made ≡ numbers (l.end - l.back) l.back ++ l.initial.self-inside.made;
}
