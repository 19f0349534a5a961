-- A reading that leaves the variables in scope, and makes none.
use Rattle.std.proofs.Common.{◌≡◌, ℕ}
use Rattle.cc_scopes.specs.declared.state.State.{State}
use Rattle.cc_scopes.specs.declared.typed.Operand.{Operand}
use Rattle.cc_scopes.specs.Elab.{Elab}
use Rattle.law_scopes.specs.Variables.{Names}
use Rattle.law_scopes.proofs.Runs.{Runs, Anything}

-- the variables in scope and those made so far are these
abbrev pub Keeps : State → State → Type 0
Keeps from s = (s.locals ≡ from.locals) × (s.made ≡ from.made)

abbrev pub Reads : State → {A : Type 0} → Type 0 → Elab A → (A → Type 0) → Type 0
Reads from P p Q = Runs Anything (Keeps from) P p Q

abbrev pub OperandFits : (ℕ → Type 0) → State → Operand → Type 0
OperandFits V from v = Names V v.term
