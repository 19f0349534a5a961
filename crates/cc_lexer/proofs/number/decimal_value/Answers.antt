use Rattle.std.proofs.Common.{arith}
use Rattle.cc_lexer.proofs.Decimals.{too_large}
use Rattle.cc_lexer.proofs.number.decimal_value.Goals as goal

pub returns-in_err-checked_mul : goal.returns-in_err-checked_mul
returns-in_err-checked_mul c = too_large c.args.digits.now c.loop-digit.digit-index _ c.from_residual.ensures c.loop-digit-test.true (omega (arith, c.in_err-checked_mul.ensures, c.loop-digit.invariant))

pub returns-in_err-value : goal.returns-in_err-value
returns-in_err-value c = too_large c.args.digits.now c.loop-digit.digit-index _ c.from_residual-in_err-value.ensures c.loop-digit-test.true (omega (arith, c.in_err-value.ensures, c.in_ok-checked_mul.ensures, c.from.ensures, c.loop-digit.invariant))
