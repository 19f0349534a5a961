-- The steps that collect, and the variables in scope.
use Rattle.cc_scopes.specs.declared.state.Call.{Call}
use Rattle.core_types.specs.Types.{Allowed}
use Rattle.std.proofs.Common.{◌≡◌, ℕ, ◌+◌, Bool, true, false, List, [], ◌∷◌, ◌++◌, length, Option, Some, None, ap, arith, length-append, inl, inr, ◌⊎◌, ⊎_elim}
use Rattle.std.specs.Prelude.{bytes_eq}
use Rattle.cc_names.specs.Table.{Name}
use Rattle.cc_names.specs.declared.broken.Broken.{Broken}
use Rattle.cc_names.specs.declared.declarations.FunId.{FunId}
use Rattle.cc_scopes.specs.declared.scope.Found.{Found}
use Rattle.cc_scopes.specs.declared.sharing.ShareRule.{ShareRule}
use Rattle.cc_scopes.specs.declared.state.Local.{Local}
use Rattle.cc_scopes.specs.declared.types.Declared.{Declared}
use Rattle.cc_scopes.specs.Elab.{note, share, block, block_if, call}
use Rattle.cc_scopes.specs.Scope.{found_as, later, variable_from, variable}
use Rattle.source_types.specs.Reading.{Anything}
use Rattle.source_types.proofs.Runs.{either}
use Rattle.source_types.specs.Reading.{FoundFits, LocalsFit, Grown, IsCalm, AllCalls}
use Rattle.source_types.proofs.Fits.{Reads}

-- a list that ends in something is not empty
pub not_empty : {A : Type 0} (xs : List A) (x : A) → xs ++ x ∷ [] ≡ [] → ⊥
not_empty xs x is =
    let a : length (xs ++ x ∷ []) ≡ length xs + 1 = length-append xs (x ∷ []) in
    let b : length (xs ++ x ∷ []) ≡ 0 = ap (λ ys. length ys) is in
    omega (arith, a, b)

-- ---- the variables in scope

-- where there is one
abbrev pub IfThere : {A : Type 0} → (A → Type 0) → Option A → Type 0
IfThere Q None = Unit {0}
IfThere Q (Some a) = Q a

module _ (ds : List Declared) where
  found_from : (name : Name) (f : Option Found) (ls : List Local) → IfThere (FoundFits ds) f → LocalsFit ds ls
      → IfThere (FoundFits ds) (variable_from name f ls)
  found_from name f [] p a = p
  found_from name f (l ∷ ls) p a =
      found_from name (later name f l) ls (either (IfThere (FoundFits ds)) (bytes_eq l.name name) (Some (found_as l)) f a.0 p) a.1

  pub found_fits : (name : Name) (ls : List Local) → LocalsFit ds ls → IfThere (FoundFits ds) (variable name ls)
  found_fits name ls a = found_from name None ls tt a

-- calls of which each is calm
all_before : (calm : ℕ → Bool) (cs : List Call) (c : Call) → AllCalls calm (cs ++ c ∷ []) → AllCalls calm cs × (calm c.function.0 ≡ true)
all_before calm [] c h = (tt, h.0)
all_before calm (d ∷ cs) c h = let r = all_before calm cs c h.1 in ((h.0, r.0), r.1)

-- ---- what collects, whatever is known before. Nothing is known of what breaks a rule, since none is broken

module _ (F : Type 0) (grown : Grown) (ds : List Declared) (ls : List Local) {P : Type 0} where
  pub note_runs : (b : Broken) {Q : Unit {0} → Type 0} → Reads F grown ds ls P (note b) Q
  note_runs b = record { run = λ s e. absurd (not_empty s.broken b e.0) }

  pub share_runs : (rule : ShareRule) (line : ℕ) → Reads F grown ds ls P (share rule line) Anything
  share_runs rule line = record { run = λ s e. (e, λ x k. (k, tt)) }

  -- what blocks is done only where the function may wait
  pub block_runs : (line : ℕ) → Reads F grown ds ls P (block line) (λ u. grown.waits ≡ true)
  block_runs line = record {
    run = λ s e.
        let w : grown.waits ≡ true = ⊎_elim (λ (a : grown.waits ≡ true). a)
        (λ (b : (s.blocks ++ line ∷ [] ≡ []) × AllCalls grown.calm s.calls). absurd (not_empty s.blocks line b.0)) e.1 in
        ((e.0, inl w, e.2, e.3), λ x k. (k, w));
  }

  pub block_if_runs : (b : Bool) (line : ℕ) → Reads F grown ds ls P (block_if b line) (λ u. Allowed grown.waits b)
  block_if_runs true line = block_runs line
  block_if_runs false line = record { run = λ s e. (e, λ x k. (k, tt)) }

  pub call_runs : (f : FunId) (line : ℕ) → Reads F grown ds ls P (call f line) (λ u. (grown.waits ≡ true) ⊎ (grown.calm f.0 ≡ true))
  call_runs f line = record {
    run = λ s e.
        let w : IsCalm grown s × ((grown.waits ≡ true) ⊎ (grown.calm f.0 ≡ true)) = ⊎_elim
        (λ (a : grown.waits ≡ true). (inl a, inl a))
        (λ (b : (s.blocks ≡ []) × AllCalls grown.calm (s.calls ++ record { function = f; line = line } ∷ [])).
        let r = all_before grown.calm s.calls (record { function = f; line = line }) b.1 in (inr (b.0, r.0), inr r.1)) e.1 in
        ((e.0, w.0, e.2, e.3), λ x k. (k, w.1));
  }
