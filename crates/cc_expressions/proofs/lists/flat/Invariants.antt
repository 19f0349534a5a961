use Rattle.std.proofs.Common.{◌≡◌, ◌-◌, List, length}
use Rattle.cc_grammar.specs.Kinds.{kinds}
use Rattle.cc_grammar.specs.Reading.{Reader, flat_from}
use Rattle.cc_expressions.specs.Parts.{ReadsBy}
use Rattle.cc_expressions.specs.contracts.lists.flat.P-Fn as part
use Rattle.cc_expressions.proofs.RepeatLaws.{with_front}
use Rattle.cc_expressions.proofs.lists.flat.Given as goal

abbrev pub invariant-loop-turn : goal.invariant-loop-turn
invariant-loop-turn g l =
    (reader : Reader (List g.row.T.Denot)) → ReadsBy ((part.words g.row.T g.row.P g.P.Fn).post l.part) reader
    → flat_from (kinds l.first) reader (length l.fn.tokens) l.fn.tokens ≡ with_front l.found (flat_from (kinds l.first) reader (l._turn-end - l._turn) l.tokens)
