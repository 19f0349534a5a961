use Rattle.cc_lexer.proofs.Longest.{digits_within, digits_number, digits_longest}
use Rattle.cc_lexer.proofs.number.number_length.Goals as goal

pub returns-else-here-eq48-clause-within : goal.returns-else-here-eq48-clause-within
returns-else-here-eq48-clause-within c = rw c.digits_length.ensures (digits_within c.args.here.now c.requires)

pub returns-else-here-eq48-clause-number : goal.returns-else-here-eq48-clause-number
returns-else-here-eq48-clause-number c = rw c.digits_length.ensures (digits_number c.args.here.now c.requires c.if-here-eq48.false)

pub returns-else-here-eq48-clause-longest : goal.returns-else-here-eq48-clause-longest
returns-else-here-eq48-clause-longest c = rw c.digits_length.ensures (digits_longest c.args.here.now c.requires)
