use Rattle.std.proofs.Common.{◌≡◌, drop}
use Rattle.cc_core.specs.View.{terms_of}
use Rattle.cc_code.specs.Layout.{end_terms}
use Rattle.cc_lower.proofs.ends.+end.Given as goal

abbrev pub invariant-end_of_expressions-loop-e : goal.invariant-end_of_expressions-loop-e
invariant-end_of_expressions-loop-e l = end_terms l.end (terms_of (drop l.e-index l.es)) ≡ end_terms l.at (terms_of l.es)
