use Rattle.std.proofs.Common.{refl, arith}
use Rattle.cc_lexer.proofs.Longest.{keyword_next, name_next, long_name_next}
use Rattle.cc_lexer.proofs.word.word.Goals as goal

pub returns-in-Some : goal.returns-in-Some
returns-in-Some c = keyword_next c.args.before.now c.args.here.now c.word_length-length.result c.requires.class c.word_length-length.ensures c.in-Some.word ((c.in-Some.ensures c.in-Some.word).0 refl)

pub returns-in-None : goal.returns-in-None
returns-in-None c = rw c.place.ensures (long_name_next c.args.before.now c.args.here.now c.word_length-length.result c.requires.class c.word_length-length.ensures (λ word e. let f = (c.in-None.ensures word).1 e in cc) (omega arith))

pub returns-in-None-2 : goal.returns-in-None-2
returns-in-None-2 c = name_next c.args.before.now c.args.here.now c.word_length-length.result c.requires.class c.word_length-length.ensures (λ word e. let f = (c.in-None.ensures word).1 e in cc) (omega arith)
