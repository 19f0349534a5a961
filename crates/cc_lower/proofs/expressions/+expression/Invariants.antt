use Rattle.std.proofs.Common.{◌≡◌, drop}
use Rattle.cc_core.specs.View.{terms_of}
use Rattle.stack_code.specs.View.{code_of}
use Rattle.cc_lower.specs.Emitted.{emitted_terms, HasFunction}
use Rattle.cc_lower.proofs.expressions.+expression.Given as goal

abbrev pub invariant-expressions-loop-e : goal.invariant-expressions-loop-e
invariant-expressions-loop-e l = record {
  begun : HasFunction (code_of l.maker);
  lowered : emitted_terms (code_of l.maker) l.line (terms_of (drop l.e-index l.es)) ≡ emitted_terms (code_of l.fn.maker) l.line (terms_of l.es);
}
