-- The broken rule that stands first.
use Rattle.std.specs.Prelude.{◌≡◌, ◌⊎◌, ◌↔◌, ◌<◌, List, Contains, Result, Ok, Err}
use Rattle.cc_names.specs.Broken.{line_of, number_of}
use Rattle.cc_names.specs.declared.broken.Broken.{Broken}
use Rattle.cc_names.specs.declared.broken.Broken.TheVariants.{Rule, Limit}
use Rattle.cc_names.specs.declared.broken.TypeFault.{TypeFault}
use Rattle.cc_names.specs.declared.broken.TypeFault.TheVariants as fault

-- at an earlier line, or at the same line with a lower number in the table of static rules
abbrev pub StandsBefore : Broken → Broken → Type 0
StandsBefore a b = (line_of a < line_of b) ⊎ ((line_of a ≡ line_of b) × (number_of a < number_of b))

-- it is broken, and it stands before every other one that is
abbrev pub IsFirst : List Broken → Broken → Type 0
IsFirst broken first = Contains broken first × ((other : Broken) → Contains broken other → (other ≡ first) ⊎ StandsBefore first other)

abbrev pub NoneIsBroken : List Broken → Type 0
NoneIsBroken broken = (other : Broken) → Contains broken other → ⊥

-- a program is accepted where no rule is broken, and else the first one is named. Memory may be wanting at any time
abbrev pub NamesFirst : {A : Type 0} → (broken : List Broken) → (wanted : A) → Result A TypeFault → Type 0
NamesFirst broken wanted (Ok made) = NoneIsBroken broken × (made ≡ wanted)
NamesFirst broken wanted (Err (fault.Rule rule line)) = IsFirst broken (Rule rule line)
NamesFirst broken wanted (Err (fault.Limit which line)) = IsFirst broken (Limit which line)
NamesFirst broken wanted (Err fault.Memory) = Unit {0}

-- the same rules are broken at the same lines
abbrev pub SameRules : List Broken → List Broken → Type 0
SameRules found others = (b : Broken) → Contains found b ↔ Contains others b
