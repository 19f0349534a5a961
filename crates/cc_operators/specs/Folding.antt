-- The values of constant expressions.
use Rattle.std.specs.Prelude.{ℤ, [], ◌∷◌, Option, Some, None}
use Rattle.std.specs.Prelude as rust
use Rattle.global_ptr.specs.declared.ends.FaultKind.{FaultKind}
use Rattle.global_ptr.specs.declared.values.Value.{Value}
use Rattle.cc_ops.specs.Machine.{Address, same_address, answer_of, value_of}
use Rattle.cc_ops.specs.Operators.{compute}
use Rattle.cc_ops.specs.Values as values
use Rattle.cc_ops.specs.Values.{Result, Gives, Fails}
use Rattle.cc_ops.specs.declared.operator.Op.{Op}
use Rattle.cc_ops.specs.declared.operator.Op.TheVariants as op

-- the int that an operator gives, and none for a fault
abbrev pub int_given : Result (values.Value Address) → Option ℤ
int_given (Gives (values.Int n)) = Some n
int_given _ = None

abbrev pub negated_value : Option ℤ → Option ℤ
negated_value None = None
negated_value (Some n) = int_given (compute same_address op.Neg (values.Int n ∷ []))

abbrev pub computed : Op → Option ℤ → Option ℤ → Option ℤ
computed o (Some a) (Some b) = int_given (compute same_address o (values.Int a ∷ values.Int b ∷ []))
computed o _ _ = None

-- how the definitions see what an operator answers
abbrev pub answer : rust.Result Value FaultKind → Result (values.Value Address)
answer = answer_of value_of
