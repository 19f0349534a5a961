-- The lengths of arrays, and the values of named constants.
use Rattle.std.specs.Prelude.{ℕ, ℤ, pos, ◌||◌, if◌then◌else◌, int_lt, Option, Some, None}
use Rattle.cc_names.specs.declared.broken.Broken.{Broken}
use Rattle.cc_names.specs.declared.broken.Broken.TheVariants.{Rule, Limit}
use Rattle.cc_names.specs.declared.rule.StaticRule.TheVariants as r
use Rattle.cc_names.specs.declared.rule.StaticLimit.TheVariants.{ArrayLength}
use Rattle.cc_scopes.specs.declared.typed.Typed.{Typed}
use Rattle.cc_scopes.specs.declared.typed.Typed.TheVariants as typed
use Rattle.cc_scopes.specs.Elab.{Elab, ◌>>◌, pure, note}
use Rattle.cc_scopes.specs.Scope.{Context}

-- ---- the length that an expression gives, and none where a rule is broken

-- not made of literals, constants declared before, and - + * / %, or a fault
abbrev pub bad_constant : Context → Broken
bad_constant cx = Rule r.BadConst cx.line

abbrev pub no_length : Broken → Elab (Option ℕ)
no_length b = note b >> pure None

abbrev pub natural : ℤ → ℕ
natural (pos n) = n
natural _ = 0

-- 1 to 65,536
unfoldable pub length_in_range : Context → ℤ → Elab (Option ℕ)
length_in_range cx n = if int_lt n (pos 1) || int_lt (pos 65536) n then no_length (Limit ArrayLength cx.line) else pure (Some (natural n))

abbrev pub value_length : Context → Option ℤ → Elab (Option ℕ)
value_length cx None = no_length (bad_constant cx)
value_length cx (Some n) = length_in_range cx n

abbrev pub length_of : Context → Typed → Elab (Option ℕ)
length_of cx typed.Broken = no_length (bad_constant cx)
length_of cx typed.Spoiled = pure None
length_of cx (typed.Value v) = no_length (bad_constant cx)
length_of cx (typed.This class remote) = no_length (bad_constant cx)
length_of cx (typed.Constant term value) = value_length cx value
length_of cx (typed.Place p) = no_length (bad_constant cx)
length_of cx (typed.Array p n) = no_length (bad_constant cx)
length_of cx (typed.Object o) = no_length (bad_constant cx)

-- ---- the value of a named constant, and none where a rule is broken

abbrev pub no_value : Context → Elab (Option ℤ)
no_value cx = note (bad_constant cx) >> pure None

abbrev pub value_or_fault : Context → Option ℤ → Elab (Option ℤ)
value_or_fault cx None = no_value cx
value_or_fault cx (Some n) = pure (Some n)

abbrev pub constant_of : Context → Typed → Elab (Option ℤ)
constant_of cx typed.Broken = no_value cx
constant_of cx typed.Spoiled = pure None
constant_of cx (typed.Value v) = no_value cx
constant_of cx (typed.This class remote) = no_value cx
constant_of cx (typed.Constant term value) = value_or_fault cx value
constant_of cx (typed.Place p) = no_value cx
constant_of cx (typed.Array p n) = no_value cx
constant_of cx (typed.Object o) = no_value cx
