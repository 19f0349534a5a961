-- The steps that collect, and the variables in scope.
use Rattle.std.proofs.Common.{◌≡◌, ℕ, ◌+◌, Bool, true, false, List, [], ◌∷◌, ◌++◌, length, Option, Some, None, ap, arith, length-append}
use Rattle.std.specs.Prelude.{bytes_eq}
use Rattle.cc_names.specs.Table.{Name}
use Rattle.cc_names.specs.declared.broken.Broken.{Broken}
use Rattle.cc_names.specs.declared.declarations.FunId.{FunId}
use Rattle.cc_scopes.specs.declared.scope.Found.{Found}
use Rattle.cc_scopes.specs.declared.sharing.ShareRule.{ShareRule}
use Rattle.cc_scopes.specs.declared.state.Local.{Local}
use Rattle.cc_scopes.specs.declared.types.Declared.{Declared}
use Rattle.cc_scopes.specs.Elab.{note, share, block, block_if, call}
use Rattle.cc_scopes.specs.Scope.{found_as, later, variable_from, variable}
use Rattle.cc_shared.proofs.Runs.{Anything, either}
use Rattle.cc_shared.proofs.Det.{FoundFits, LocalsFit, Reads}

-- a list that ends in something is not empty
pub not_empty : {A : Type 0} (xs : List A) (x : A) → xs ++ x ∷ [] ≡ [] → ⊥
not_empty xs x is =
    let a : length (xs ++ x ∷ []) ≡ length xs + 1 = length-append xs (x ∷ []) in
    let b : length (xs ++ x ∷ []) ≡ 0 = ap (λ ys. length ys) is in
    omega (arith, a, b)

-- ---- the variables in scope

-- where there is one
abbrev pub IfThere : {A : Type 0} → (A → Type 0) → Option A → Type 0
IfThere Q None = Unit {0}
IfThere Q (Some a) = Q a

module _ (ds : List Declared) (part : ℕ) (own : List ℕ) where
  found_from : (name : Name) (f : Option Found) (ls : List Local) → IfThere (FoundFits ds part own) f → LocalsFit ds part own ls
      → IfThere (FoundFits ds part own) (variable_from name f ls)
  found_from name f [] p a = p
  found_from name f (l ∷ ls) p a =
      found_from name (later name f l) ls (either (IfThere (FoundFits ds part own)) (bytes_eq l.name name) (Some (found_as l)) f a.0 p) a.1

  pub found_fits : (name : Name) (ls : List Local) → LocalsFit ds part own ls → IfThere (FoundFits ds part own) (variable name ls)
  found_fits name ls a = found_from name None ls tt a

-- ---- what collects, whatever is known before. Nothing is known of what breaks a rule, since none is broken

module _ (F : Type 0) (grown ds : List Declared) (part : ℕ) (own : List ℕ) (ls : List Local) {P : Type 0} where
  pub note_runs : (b : Broken) {Q : Unit {0} → Type 0} → Reads F grown ds part own ls P (note b) Q
  note_runs b = record { run = λ s e. absurd (not_empty s.broken b e.0) }

  pub share_runs : (rule : ShareRule) (line : ℕ) {Q : Unit {0} → Type 0} → Reads F grown ds part own ls P (share rule line) Q
  share_runs rule line = record { run = λ s e. absurd (not_empty s.shared (record { rule = rule; line = line }) e.1) }

  pub block_runs : (line : ℕ) → Reads F grown ds part own ls P (block line) Anything
  block_runs line = record { run = λ s e. (e, λ x k. (k, tt)) }

  pub block_if_runs : (b : Bool) (line : ℕ) → Reads F grown ds part own ls P (block_if b line) Anything
  block_if_runs true line = record { run = λ s e. (e, λ x k. (k, tt)) }
  block_if_runs false line = record { run = λ s e. (e, λ x k. (k, tt)) }

  pub call_runs : (f : FunId) (line : ℕ) → Reads F grown ds part own ls P (call f line) Anything
  call_runs f line = record { run = λ s e. (e, λ x k. (k, tt)) }
