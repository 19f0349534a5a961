-- What is collected while a function is read, and the steps that collect it.
use Rattle.std.specs.Prelude.{ℕ, ◌≡◌, [], ◌∷◌, ◌++◌, take, Bool, true, false, Result, Ok, Err}
use Rattle.std.specs.declared.alloc.AllocError.{AllocError}
use Rattle.cc_names.specs.declared.broken.Broken.{Broken}
use Rattle.cc_names.specs.declared.declarations.FunId.{FunId}
use Rattle.cc_scopes.specs.declared.sharing.ShareRule.{ShareRule}
use Rattle.cc_scopes.specs.declared.state.State.{State}

-- what reads something: it gives an A, and adds to the state
abbrev pub Elab : Type 0 → Type 0
Elab A = State → A × State

infixl 10 ◌>>=◌
abbrev pub ◌>>=◌ : {A B : Type 0} → Elab A → (A → Elab B) → Elab B
p >>= f = λ s. let r = p s in f r.0 r.1

infixl 10 ◌>>◌
abbrev pub ◌>>◌ : {A B : Type 0} → Elab A → Elab B → Elab B
p >> q = p >>= (λ _. q)

abbrev pub pure : {A : Type 0} → A → Elab A
pure a = λ s. (a, s)

-- a static rule or a limit is broken
abbrev pub note : Broken → Elab (Unit {0})
note broken = λ s. (tt, record s { broken = s.broken ++ broken ∷ [] })

-- a rule of sharing is broken
abbrev pub share : ShareRule → ℕ → Elab (Unit {0})
share rule line = λ s. (tt, record s { shared = s.shared ++ record { rule = rule; line = line } ∷ [] })

-- something is done that an atomic function may not do
abbrev pub block : ℕ → Elab (Unit {0})
block line = λ s. (tt, record s { blocks = s.blocks ++ line ∷ [] })

abbrev pub block_if : Bool → ℕ → Elab (Unit {0})
block_if true line = block line
block_if false line = pure tt

-- a function is called on this processor
abbrev pub call : FunId → ℕ → Elab (Unit {0})
call function line = λ s. (tt, record s { calls = s.calls ++ record { function = function; line = line } ∷ [] })

-- a scope ends: the variables from this place on are no longer in it
abbrev pub leave : ℕ → Elab (Unit {0})
leave start = λ s. (tt, record s { locals = take start s.locals })

-- nothing is collected yet
abbrev pub nothing_yet : State
nothing_yet = record { locals = []; made = []; broken = []; shared = []; blocks = []; calls = [] }

-- what is found, whatever is collected
abbrev pub silently : {A : Type 0} → Elab A → A
silently p = (p nothing_yet).0

-- ---- what a function ensures: the outcome, unless memory is wanting

abbrev pub Gives : {A : Type 0} → A × State → Result A AllocError → State → Type 0
Gives outcome (Ok a) new = outcome ≡ (a, new)
Gives outcome (Err e) new = Unit {0}
