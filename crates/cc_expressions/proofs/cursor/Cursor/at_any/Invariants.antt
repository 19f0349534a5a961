use Rattle.std.proofs.Common.{◌≡◌, drop}
use Rattle.cc_grammar.specs.Kinds.{kinds, heads}
use Rattle.cc_expressions.proofs.cursor.Cursor.at_any.Given as goal

abbrev pub invariant-loop-kind : goal.invariant-loop-kind
invariant-loop-kind l = heads (kinds l.kinds) l.self ≡ heads (kinds (drop l.kind-index l.kinds)) l.self
