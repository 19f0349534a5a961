-- Which functions may block, and the atomic functions that break a rule by it.
use Rattle.std.specs.Prelude.{ℕ, zero, suc, ◌+◌, Bool, true, false, ◌||◌, List, [], ◌∷◌, ◌++◌, map, replicate, length, Option, Some, None, slice_get}
use Rattle.std.specs.List.{list_any}
use Rattle.cc_blocking.specs.declared.conduct.Conduct.{Conduct}
use Rattle.cc_names.specs.declared.broken.Broken.{Broken}
use Rattle.cc_names.specs.declared.broken.Broken.TheVariants.{Rule}
use Rattle.cc_names.specs.declared.rule.StaticRule.TheVariants.{AtomicBody}
use Rattle.cc_scopes.specs.declared.state.Call.{Call}

abbrev pub atomic_in : Option Conduct → Bool
atomic_in None = false
atomic_in (Some conduct) = conduct.atomic

abbrev pub is_atomic : List Conduct → ℕ → Bool
is_atomic functions f = atomic_in (slice_get functions f)

abbrev pub mark_in : Option Bool → Bool
mark_in None = false
mark_in (Some mark) = mark

abbrev pub is_marked : List Bool → ℕ → Bool
is_marked marks f = mark_in (slice_get marks f)

-- a call that an atomic function may not make, where so many are known to block
abbrev pub is_blocking : List Conduct → List Bool → Call → Bool
is_blocking functions marks c = is_atomic functions c.function.0 || is_marked marks c.function.0

abbrev pub calls_blocking : List Conduct → List Bool → List Call → Bool
calls_blocking functions marks calls = list_any (is_blocking functions marks) calls

abbrev pub any_line : List ℕ → Bool
any_line [] = false
any_line (line ∷ more) = true

abbrev pub blocks : List Conduct → List Bool → Conduct → Bool
blocks functions marks conduct = any_line conduct.blocks || calls_blocking functions marks conduct.calls

-- ---- a round: what is known to block, and what blocks by what is known

abbrev pub grown_from : List Conduct → List Bool → List Bool → List Conduct → List Bool
grown_from functions known [] left = []
grown_from functions known (mark ∷ marks) [] = []
grown_from functions known (mark ∷ marks) (conduct ∷ left) = (mark || blocks functions known conduct) ∷ grown_from functions known marks left

unfoldable pub grown : List Conduct → List Bool → List Bool
grown functions marks = grown_from functions marks marks functions

-- how many are not marked
abbrev pub unmarked : List Bool → ℕ
unmarked [] = 0
unmarked (true ∷ marks) = unmarked marks
unmarked (false ∷ marks) = 1 + unmarked marks

abbrev pub rounds : List Conduct → ℕ → List Bool → List Bool
rounds functions zero marks = marks
rounds functions (suc n) marks = rounds functions n (grown functions marks)

-- as many rounds as there are functions
unfoldable pub may_block : List Conduct → List Bool
may_block functions = rounds functions (length functions) (replicate (length functions) false)

-- ---- the rules that atomic functions break

abbrev pub rule_at : ℕ → Broken
rule_at line = Rule AtomicBody line

abbrev pub rule_if : Bool → ℕ → List Broken
rule_if true line = rule_at line ∷ []
rule_if false line = []

abbrev pub call_rules : List Conduct → List Bool → List Call → List Broken
call_rules functions marks [] = []
call_rules functions marks (c ∷ cs) = rule_if (is_blocking functions marks c) c.line ++ call_rules functions marks cs

abbrev pub body_rules : List Conduct → List Bool → Conduct → List Broken
body_rules functions marks conduct = map rule_at conduct.blocks ++ call_rules functions marks conduct.calls

abbrev pub function_rules : (atomic : Bool) → List Conduct → List Bool → Conduct → List Broken
function_rules true functions marks conduct = body_rules functions marks conduct
function_rules false functions marks conduct = []

abbrev pub rules_from : List Conduct → List Bool → List Conduct → List Broken
rules_from functions marks [] = []
rules_from functions marks (conduct ∷ left) = function_rules conduct.atomic functions marks conduct ++ rules_from functions marks left

-- where so many functions may block
abbrev pub atomic_rules : List Conduct → List Bool → List Broken
atomic_rules functions marks = rules_from functions marks functions
