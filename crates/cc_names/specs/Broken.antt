-- Which of several broken rules is answered.
use Rattle.std.specs.Prelude.{◌≡◌, ℕ, Bool, false, ◌==◌, nat_lt, if◌then◌else◌, List, [], ◌∷◌, All, Contains, Option, Some, None, Result, Ok, Err}
use Rattle.cc_names.specs.declared.broken.Broken.{Broken}
use Rattle.cc_names.specs.declared.broken.Broken.TheVariants.{Rule, Limit}
use Rattle.cc_names.specs.declared.broken.TypeFault.{TypeFault}
use Rattle.cc_names.specs.declared.broken.TypeFault.TheVariants as fault
use Rattle.cc_names.specs.Rules.{rule_number, limit_number}

abbrev pub line_of : Broken → ℕ
line_of (Rule rule line) = line
line_of (Limit which line) = line

abbrev pub number_of : Broken → ℕ
number_of (Rule rule line) = rule_number rule
number_of (Limit which line) = limit_number which

-- by the line, and at one line by the number
unfoldable pub is_before : Broken → Broken → Bool
is_before a b = if line_of a == line_of b then nat_lt (number_of a) (number_of b) else nat_lt (line_of a) (line_of b)

abbrev pub earlier : Option Broken → Broken → Option Broken
earlier None next = Some next
earlier (Some other) next = Some (if is_before next other then next else other)

abbrev pub least_from : Option Broken → List Broken → Option Broken
least_from found [] = found
least_from found (next ∷ more) = least_from (earlier found next) more

-- the one that is answered, and none where no rule is broken
abbrev pub least : List Broken → Option Broken
least = least_from None

-- that is: it is broken, and no other broken one is before it
abbrev pub IsLeast : List Broken → Option Broken → Type 0
IsLeast broken None = broken ≡ []
IsLeast broken (Some first) = Contains broken first × All (λ other. is_before other first ≡ false) broken

abbrev pub fault_of : Broken → TypeFault
fault_of (Rule rule line) = fault.Rule rule line
fault_of (Limit which line) = fault.Limit which line

-- what a call answers that refuses a program exactly where a rule is broken, and else makes `wanted` of it. Memory is free
abbrev pub Answers : {A : Type 0} → (broken : List Broken) → (wanted : A) → Result A TypeFault → Type 0
Answers broken wanted (Ok made) = (broken ≡ []) × (made ≡ wanted)
Answers broken wanted (Err (fault.Rule rule line)) = least broken ≡ Some (Rule rule line)
Answers broken wanted (Err (fault.Limit which line)) = least broken ≡ Some (Limit which line)
Answers broken wanted (Err fault.Memory) = Unit {0}
