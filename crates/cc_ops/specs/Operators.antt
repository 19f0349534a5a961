-- The fourteen operators. An int has 64 bits and a sign; a result beyond that is a fault.
use Rattle.std.specs.Prelude.{ℕ, ◌^◌, Bool, true, false, not, ◌&&◌, ◌==◌, if◌then◌else◌, List, ℤ, pos, neg_ℤ, ◌+ℤ◌, ◌-ℤ◌, ◌*ℤ◌}
use Rattle.std.specs.Prelude.{int_lt, int_le, int_div, int_rem}
use Rattle.cc_ops.specs.Values.{Value, Void, Int, Null, Ptr, int_of, same_int, is_zero, first, second, Result, Gives, Fails, on_gives}
use Rattle.global_ptr.specs.declared.ends.FaultKind.TheVariants.{Overflow, DivideByZero}
use Rattle.cc_ops.specs.declared.operator.Op.{Op}
use Rattle.cc_ops.specs.declared.operator.Op.TheVariants.{Neg, Not, Bool as Bool', Add, Sub, Mul, Div, Rem, Eq, Ne, Lt, Le, Gt, Ge}

-- the number of its operands
abbrev pub takes : Op → ℕ
takes Neg = 1
takes Not = 1
takes Bool' = 1
takes Add = 2
takes Sub = 2
takes Mul = 2
takes Div = 2
takes Rem = 2
takes Eq = 2
takes Ne = 2
takes Lt = 2
takes Le = 2
takes Gt = 2
takes Ge = 2

abbrev pub fits : ℤ → Bool
fits n = int_le (neg_ℤ (pos (2 ^ 63))) n && int_lt n (pos (2 ^ 63))

abbrev pub number : {N : Type 0} → ℤ → Result (Value N)
number n = if fits n then Gives (Int n) else Fails Overflow

abbrev pub truth : {N : Type 0} → Bool → Value N
truth true = Int (pos 1)
truth false = Int (pos 0)

-- a value as 0 or 1; a fault stays
abbrev pub truth_of : {N : Type 0} → Result (Value N) → Result (Value N)
truth_of r = on_gives r (λ v. Gives (truth (not (is_zero v))))

-- cut towards zero
abbrev pub quotient : {N : Type 0} → ℤ → ℤ → Result (Value N)
quotient a b = if same_int b (pos 0) then Fails DivideByZero else number (int_div a b)

-- with the dividend's sign
abbrev pub remainder : {N : Type 0} → ℤ → ℤ → Result (Value N)
remainder a b = if same_int b (pos 0) then Fails DivideByZero else number (int_rem a b)

-- where `same` compares the names of objects
abbrev pub same_value : {N : Type 0} → (same : N → N → Bool) → Value N → Value N → Bool
same_value same Void Void = true
same_value same Null Null = true
same_value same (Int a) (Int b) = same_int a b
same_value same (Ptr o x) (Ptr p y) = same o p && (x == y)
same_value same v w = false

-- the value of an operator at its operands v and w, or its fault; one that takes one operand looks at v
abbrev pub operate : {N : Type 0} → (same : N → N → Bool) → Op → (v w : Value N) → Result (Value N)
operate same Neg v w = number (neg_ℤ (int_of v))
operate same Not v w = Gives (truth (is_zero v))
operate same Bool' v w = Gives (truth (not (is_zero v)))
operate same Add v w = number (int_of v +ℤ int_of w)
operate same Sub v w = number (int_of v -ℤ int_of w)
operate same Mul v w = number (int_of v *ℤ int_of w)
operate same Div v w = quotient (int_of v) (int_of w)
operate same Rem v w = remainder (int_of v) (int_of w)
operate same Eq v w = Gives (truth (same_value same v w))
operate same Ne v w = Gives (truth (not (same_value same v w)))
operate same Lt v w = Gives (truth (int_lt (int_of v) (int_of w)))
operate same Le v w = Gives (truth (int_le (int_of v) (int_of w)))
operate same Gt v w = Gives (truth (int_lt (int_of w) (int_of v)))
operate same Ge v w = Gives (truth (int_le (int_of w) (int_of v)))

-- at a list of operands
abbrev pub compute : {N : Type 0} → (same : N → N → Bool) → Op → List (Value N) → Result (Value N)
compute same op vs = operate same op (first vs) (second vs)
