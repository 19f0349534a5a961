-- The functions that do what an atomic function may not do, themselves or by a call.
use Rattle.std.specs.Prelude.{ℕ, ◌≡◌, ◌↔◌, Bool, true, List, ◌∷◌, length, Some, slice_get}
use Rattle.cc_blocking.specs.declared.conduct.Conduct.{Conduct}
use Rattle.cc_scopes.specs.declared.state.Call.{Call}

-- function f does this
abbrev pub Does : List Conduct → ℕ → Conduct → Type 0
Does functions f conduct = slice_get functions f ≡ Some conduct

-- a call among those of a function
abbrev pub Calls : Conduct → Call → Type 0
Calls conduct c = (k : ℕ) × (slice_get conduct.calls k ≡ Some c)

-- The functions that may block: those of which some line does what an atomic function may not, those that call an atomic function,
-- and those that call one that may block.
pub data MayBlock (functions : List Conduct) : ℕ → Type 0 where
  itself : (f : ℕ) (conduct : Conduct) (line : ℕ) (more : List ℕ) → Does functions f conduct → conduct.blocks ≡ line ∷ more
      → MayBlock functions f
  atomic_call : (f : ℕ) (conduct : Conduct) (c : Call) (callee : Conduct) → Does functions f conduct → Calls conduct c
      → Does functions c.function.0 callee → callee.atomic ≡ true → MayBlock functions f
  blocking_call : (f : ℕ) (conduct : Conduct) (c : Call) → Does functions f conduct → Calls conduct c
      → MayBlock functions c.function.0 → MayBlock functions f

-- marks of the functions, each true exactly where the function may block
pub record AreMarks (functions : List Conduct) (marks : List Bool) : Type 0 where
  pub whole : length marks ≡ length functions
  pub exact : (f : ℕ) → (slice_get marks f ≡ Some true) ↔ MayBlock functions f
