-- The steps that collect, and the variables in scope.
use Rattle.std.proofs.Common.{◌≡◌, ℕ, zero, suc, ◌+◌, ◌<◌, ◌≤◌, Bool, true, false, cond, List, [], ◌∷◌, ◌++◌, length, take, Option, Some, None, arith, length-append}
use Rattle.std.specs.Prelude.{bytes_eq}
use Rattle.cc_core.specs.Core.{Shapes}
use Rattle.cc_names.specs.Table.{Name}
use Rattle.cc_names.specs.declared.broken.Broken.{Broken}
use Rattle.cc_names.specs.declared.broken.Broken.TheVariants.{Rule}
use Rattle.cc_names.specs.declared.rule.StaticRule.TheVariants.{LocalTwice}
use Rattle.cc_names.specs.declared.declarations.FunId.{FunId}
use Rattle.cc_scopes.specs.declared.scope.Found.{Found}
use Rattle.cc_scopes.specs.declared.sharing.ShareRule.{ShareRule}
use Rattle.cc_scopes.specs.declared.state.Local.{Local}
use Rattle.cc_scopes.specs.declared.state.State.{State}
use Rattle.cc_scopes.specs.declared.types.Declared.{Declared}
use Rattle.cc_scopes.specs.Elab.{note, share, block, block_if, call, leave}
use Rattle.cc_scopes.specs.Scope.{Context, found_as, later, variable_from, variable, is_here, twice, bring, number, declare}
use Rattle.cc_source.proofs.Runs.{IfThere, Anything, gives, bind, next, done, either}
use Rattle.cc_source.proofs.RuleLaws.{not_empty, empty_before, empty_behind}
use Rattle.cc_source.proofs.Fits.{Clean}
use Rattle.cc_source.proofs.Sound.{HasCells, FoundFits, LocalsFit, Reads}

-- ---- the variables in scope

pub locals_one_more : (last : State) (ls : List Local) (l : Local) → LocalsFit last ls → l.number < length last.made → HasCells l.declared.shape
    → LocalsFit last (ls ++ l ∷ [])
locals_one_more last [] l a p q = (p, q, tt)
locals_one_more last (x ∷ ls) l a p q = (a.0, a.1, locals_one_more last ls l a.2 p q)

pub locals_taken : (last : State) (k : ℕ) (ls : List Local) → LocalsFit last ls → LocalsFit last (take k ls)
locals_taken last zero ls a = tt
locals_taken last (suc k) [] a = tt
locals_taken last (suc k) (l ∷ ls) a = (a.0, a.1, locals_taken last k ls a.2)

found_from : (last : State) (name : Name) (f : Option Found) (ls : List Local) → IfThere (FoundFits last) f → LocalsFit last ls
    → IfThere (FoundFits last) (variable_from name f ls)
found_from last name f [] p a = p
found_from last name f (l ∷ ls) p a =
    found_from last name (later name f l) ls (either (IfThere (FoundFits last)) (bytes_eq l.name name) (Some (found_as l)) f (a.0, a.1) p) a.2

pub found_fits : (last : State) (name : Name) (ls : List Local) → LocalsFit last ls → IfThere (FoundFits last) (variable name ls)
found_fits last name ls a = found_from last name None ls tt a

-- ---- what collects, whatever is known before

more_made : (n : ℕ) (ds : List Declared) (d : Declared) → length (ds ++ d ∷ []) ≤ n → length ds < n
more_made n ds d le = let l : length (ds ++ d ∷ []) ≡ length ds + 1 = length-append ds (d ∷ []) in omega (arith, l, le)

fewer_made : (n : ℕ) (ds : List Declared) (d : Declared) → length (ds ++ d ∷ []) ≤ n → length ds ≤ n
fewer_made n ds d le = let l : length (ds ++ d ∷ []) ≡ length ds + 1 = length-append ds (d ∷ []) in omega (arith, l, le)

module _ (h : Shapes) (last : State) (cx : Context) {P : Type 0} where
  -- a rule that is noted is broken in the end
  pub note_runs : (b : Broken) → Reads h last cx P (note b) (λ u. Clean last → ⊥)
  note_runs b = record {
    run = λ s e. (
      (e.0, λ c. empty_before s.broken (b ∷ []) (e.1 c)),
      λ x k. (k, λ c. not_empty b [] (empty_behind s.broken (b ∷ []) (e.1 c))),
    );
  }

  pub share_runs : (rule : ShareRule) (line : ℕ) → Reads h last cx P (share rule line) Anything
  share_runs rule line = record { run = λ s e. (e, λ x k. (k, tt)) }

  pub block_runs : (line : ℕ) → Reads h last cx P (block line) Anything
  block_runs line = record { run = λ s e. (e, λ x k. (k, tt)) }

  pub block_if_runs : (b : Bool) (line : ℕ) → Reads h last cx P (block_if b line) Anything
  block_if_runs true line = record { run = λ s e. (e, λ x k. (k, tt)) }
  block_if_runs false line = record { run = λ s e. (e, λ x k. (k, tt)) }

  pub call_runs : (f : FunId) (line : ℕ) → Reads h last cx P (call f line) Anything
  call_runs f line = record { run = λ s e. (e, λ x k. (k, tt)) }

  pub leave_runs : (start : ℕ) → Reads h last cx P (leave start) Anything
  leave_runs start = record { run = λ s e. (e, λ x k. ((locals_taken last start s.locals k.0, k.1), tt)) }

  noted_or_not : (b : Bool) (x : Broken) → Reads h last cx P (λ s. cond b (note x s) (tt, s)) Anything
  noted_or_not true x = gives (λ u f. tt) (note_runs x)
  noted_or_not false x = done tt (λ p. tt)

  pub twice_runs : (name : Name) → Reads h last cx P (twice cx name) Anything
  unfolding twice
  twice_runs name = record { run = λ s e. (noted_or_not (is_here cx name s) (Rule LocalTwice cx.line)).run s e }

  pub bring_runs : (name : Name) (k : ℕ) (d : Declared) → (P → k < length last.made) → (P → HasCells d.shape)
      → Reads h last cx P (bring cx name k d) Anything
  bring_runs name k d p q = record {
    run = λ s e. (
      e,
      λ x a.
          ((locals_one_more last s.locals (record { name = name; number = k; declared = d; part = cx.part }) a.0 (p x) (q x), a.1), tt),
    );
  }

  pub number_runs : (d : Declared) → Reads h last cx P (number d) (λ k. k < length last.made)
  number_runs d = record { run = λ s e. ((fewer_made (length last.made) s.made d e.0, e.1), λ x k. (k, more_made (length last.made) s.made d e.0)) }

-- a new variable is among the function's
pub declare_runs : (h : Shapes) (last : State) (cx : Context) {P : Type 0} (name : Name) (d : Declared) → (P → HasCells d.shape)
    → Reads h last cx P (declare cx name d) (λ k. k < length last.made)
unfolding declare
declare_runs h last cx name d p = next (twice_runs h last cx name) (bind (number_runs h last cx d) (λ k.
    next (bring_runs h last cx name k d (λ x. x.1) (λ x. p x.0)) (done k (λ x. x.1))))
