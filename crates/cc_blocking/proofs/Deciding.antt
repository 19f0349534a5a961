-- The rounds mark exactly the functions that may block.
use Rattle.std.proofs.Common.{◌≡◌, ℕ, zero, suc, ◌⊎◌, inl, inr, Bool, true, false, ◌||◌, List, [], ◌∷◌, length, replicate, Option, Some, None, slice_get, refl, sym, ap, ◌∙◌, arith}
use Rattle.cc_blocking.specs.declared.conduct.Conduct.{Conduct}
use Rattle.cc_blocking.specs.Conduct.{Does, Calls, MayBlock, itself, atomic_call, blocking_call, AreMarks}
use Rattle.cc_blocking.specs.Rounds.{atomic_in, is_atomic, mark_in, is_marked, is_blocking, any_line, calls_blocking, blocks, grown_from, grown, rounds, may_block}
use Rattle.cc_blocking.proofs.Bools.{or-cases, or-left, or-right, any-means, any-from}
use Rattle.cc_blocking.proofs.RoundLaws.{length-rounds, length-none, settles, none-unmarked}
use Rattle.cc_scopes.specs.declared.state.Call.{Call}

abbrev Marks : List Conduct → List Bool → Type 0
Marks functions marks = (f : ℕ) → slice_get marks f ≡ Some true → MayBlock functions f

-- ---- only those that may

at-grown_by : (a b : Bool) → Some (a || b) ≡ Some true → (Some a ≡ Some true) ⊎ (b ≡ true)
at-grown_by true b h = inl refl
at-grown_by false true h = inr refl
at-grown_by false false h = inl h

at-grown : (functions : List Conduct) (known marks : List Bool) (left : List Conduct) (k : ℕ) → slice_get (grown_from functions known marks left) k ≡ Some true
    → (slice_get marks k ≡ Some true) ⊎ ((conduct : Conduct) × (slice_get left k ≡ Some conduct) × (blocks functions known conduct ≡ true))
at-grown functions known [] left k h = cc
at-grown functions known (mark ∷ marks) [] k h = cc
at-grown functions known (mark ∷ marks) (conduct ∷ left) zero h =
    elim (at-grown_by mark (blocks functions known conduct) h) [ inl old ↦ inl old | inr now ↦ inr (conduct, refl, now) ]
at-grown functions known (mark ∷ marks) (conduct ∷ left) (suc k) h = at-grown functions known marks left k h

any-line : (lines : List ℕ) → any_line lines ≡ true → (line : ℕ) × (more : List ℕ) × (lines ≡ line ∷ more)
any-line [] h = cc
any-line (line ∷ more) h = (line, more, refl)

atomic-conduct : (conduct : Option Conduct) → atomic_in conduct ≡ true → (found : Conduct) × (conduct ≡ Some found) × (found.atomic ≡ true)
atomic-conduct None h = cc
atomic-conduct (Some conduct) h = (conduct, refl, h)

marked : (mark : Option Bool) → mark_in mark ≡ true → mark ≡ Some true
marked None h = cc
marked (Some mark) h = cc

by-call : (functions : List Conduct) (known : List Bool) → Marks functions known → (f : ℕ) (conduct : Conduct) (c : Call) → Does functions f conduct → Calls conduct c
    → is_blocking functions known c ≡ true → MayBlock functions f
by-call functions known all f conduct c at among h =
    elim (or-cases (is_atomic functions c.function.0) (is_marked known c.function.0) h) [
      | inl atomic ↦ let callee = atomic-conduct (slice_get functions c.function.0) atomic in atomic_call f conduct c callee.0 at among callee.1 callee.2
      | inr mark ↦ blocking_call f conduct c at among (all c.function.0 (marked (slice_get known c.function.0) mark))
    ]

by-conduct : (functions : List Conduct) (known : List Bool) → Marks functions known → (f : ℕ) (conduct : Conduct) → Does functions f conduct → blocks functions known conduct ≡ true → MayBlock functions f
by-conduct functions known all f conduct at h =
    elim (or-cases (any_line conduct.blocks) (calls_blocking functions known conduct.calls) h) [
      | inl lines ↦ let found = any-line conduct.blocks lines in itself f conduct found.0 found.1 at found.2
      | inr calls ↦ let found = any-means (is_blocking functions known) conduct.calls calls in by-call functions known all f conduct found.0 at found.1 found.2
    ]

by-round : (functions : List Conduct) (marks : List Bool) → Marks functions marks → Marks functions (grown functions marks)
unfolding grown
by-round functions marks all f h =
    elim (at-grown functions marks marks functions f h) [ inl old ↦ all f old | inr found ↦ by-conduct functions marks all f found.0 found.1 found.2 ]

by-rounds : (functions : List Conduct) (n : ℕ) (marks : List Bool) → Marks functions marks → Marks functions (rounds functions n marks)
by-rounds functions zero marks all = all
by-rounds functions (suc n) marks all = by-rounds functions n (grown functions marks) (by-round functions marks all)

none-at : (n f : ℕ) → slice_get (replicate n false) f ≡ Some true → ⊥
none-at zero f h = cc
none-at (suc n) zero h = cc
none-at (suc n) (suc f) h = none-at n f h

none : (functions : List Conduct) (n : ℕ) → Marks functions (replicate n false)
none functions n f h = absurd (none-at n f h)

-- ---- all of those

at-conduct : (functions : List Conduct) (known marks : List Bool) (left : List Conduct) (k : ℕ) (conduct : Conduct) → length marks ≡ length left → slice_get left k ≡ Some conduct
    → blocks functions known conduct ≡ true → slice_get (grown_from functions known marks left) k ≡ Some true
at-conduct functions known marks [] k conduct e at h = cc
at-conduct functions known [] (r ∷ left) k conduct e at h = absurd (omega (arith, e))
at-conduct functions known (mark ∷ marks) (r ∷ left) zero conduct e at h =
    let same : r ≡ conduct = cc in ap Some (or-right mark (blocks functions known r) (rw same h))
at-conduct functions known (mark ∷ marks) (r ∷ left) (suc k) conduct e at h = at-conduct functions known marks left k conduct (omega (arith, e)) at h

some-line : (lines : List ℕ) (line : ℕ) (more : List ℕ) → lines ≡ line ∷ more → any_line lines ≡ true
some-line [] line more e = cc
some-line (x ∷ xs) line more e = refl

blocks-by-call : (functions : List Conduct) (known : List Bool) (conduct : Conduct) (c : Call) → Calls conduct c → is_blocking functions known c ≡ true → blocks functions known conduct ≡ true
blocks-by-call functions known conduct c among h =
    or-right (any_line conduct.blocks) (calls_blocking functions known conduct.calls) (any-from (is_blocking functions known) conduct.calls among.0 c among.1 h)

closed : (functions : List Conduct) (marks : List Bool) → length marks ≡ length functions → grown functions marks ≡ marks
    → (f : ℕ) (conduct : Conduct) → Does functions f conduct → blocks functions marks conduct ≡ true → slice_get marks f ≡ Some true
unfolding grown
closed functions marks e settled f conduct at h =
    ap (λ m. slice_get m f) (sym settled) ∙ at-conduct functions marks marks functions f conduct e at h

atomic-some : (conduct : Option Conduct) (found : Conduct) → conduct ≡ Some found → found.atomic ≡ true → atomic_in conduct ≡ true
atomic-some conduct found e h = rw e h

mark-some : (mark : Option Bool) → mark ≡ Some true → mark_in mark ≡ true
mark-some mark e = rw e refl

all : (functions : List Conduct) (marks : List Bool) → length marks ≡ length functions → grown functions marks ≡ marks → (f : ℕ) → MayBlock functions f → slice_get marks f ≡ Some true
all functions marks e settled _ (itself f conduct line more at lines) =
    closed functions marks e settled f conduct at
    (or-left (any_line conduct.blocks) (calls_blocking functions marks conduct.calls) (some-line conduct.blocks line more lines))
all functions marks e settled _ (atomic_call f conduct c callee at among found atomic) =
    closed functions marks e settled f conduct at (blocks-by-call functions marks conduct c among
    (or-left (is_atomic functions c.function.0) (is_marked marks c.function.0) (atomic-some (slice_get functions c.function.0) callee found atomic)))
all functions marks e settled _ (blocking_call f conduct c at among may) =
    closed functions marks e settled f conduct at (blocks-by-call functions marks conduct c among
    (or-right (is_atomic functions c.function.0) (is_marked marks c.function.0)
    (mark-some (slice_get marks c.function.0) (all functions marks e settled c.function.0 may))))

-- ---- both

pub decides : (functions : List Conduct) → AreMarks functions (may_block functions)
unfolding may_block
decides functions =
    let start = replicate (length functions) false in
    let whole : length (may_block functions) ≡ length functions = length-rounds functions (length functions) start (length-none (length functions)) in
    let settled : grown functions (may_block functions) ≡ may_block functions =
    settles functions start (length-none (length functions)) (none-unmarked (length functions)) in
    record {
      whole = whole;
      exact = λ f. (by-rounds functions (length functions) start (none functions (length functions)) f, all functions (may_block functions) whole settled f);
    }
