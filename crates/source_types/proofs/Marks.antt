-- Functions that are not marked do nothing that blocks, and atomic functions that break no rule are not marked.
use Rattle.std.proofs.Common.{◌≡◌, ℕ, zero, suc, Bool, true, false, ◌||◌, List, [], ◌∷◌, map, Option, Some, None, refl, sym, ap, ◌∙◌, inl, inr}
use Rattle.std.specs.Prelude.{slice_get}
use Rattle.std.proofs.lemmas.Bool.{true≢false, false≢true}
use Rattle.std.proofs.lemmas.Option.{none-some}
use Rattle.cc_blocking.specs.Conduct.{Does, MayBlock, itself, atomic_call, blocking_call}
use Rattle.cc_blocking.specs.Rounds.{atomic_in, is_atomic, mark_in, is_marked, is_blocking, may_block, rule_at, rule_if, call_rules, function_rules, rules_from}
use Rattle.cc_blocking.specs.declared.conduct.Conduct.{Conduct}
use Rattle.cc_blocking.proofs.Deciding.{decides}
use Rattle.cc_scopes.specs.declared.state.Call.{Call}
use Rattle.cc_source.proofs.RuleLaws.{not_empty, empty_before, empty_behind}
use Rattle.source_types.specs.Reading.{AllCalls}
use Rattle.source_types.proofs.FunctionLaws.{IsCalmConduct}
use Rattle.source_types.proofs.TypeTables.{some_inside}

atomic_there : (o : Option Conduct) → atomic_in o ≡ true → (c : Conduct) × (o ≡ Some c) × (c.atomic ≡ true)
atomic_there None is = absurd (false≢true is)
atomic_there (Some c) is = (c, refl, is)

mark_there : (o : Option Bool) → mark_in o ≡ true → o ≡ Some true
mark_there None is = absurd (false≢true is)
mark_there (Some mark) is = ap Some is

pub must_be_false : (b : Bool) → (b ≡ true → ⊥) → b ≡ false
must_be_false true f = absurd (f refl)
must_be_false false f = refl

module _ (cs : List Conduct) where
  abbrev marks : List Bool
  marks = may_block cs

  pub blocks_marked : (f : ℕ) → MayBlock cs f → is_marked marks f ≡ true
  blocks_marked f may = ap mark_in (((decides cs).exact f).1 may)

  pub marked_blocks : (f : ℕ) → is_marked marks f ≡ true → MayBlock cs f
  marked_blocks f is = ((decides cs).exact f).0 (mark_there (slice_get marks f) is)

  -- ---- what is not marked

  all_calls : (calm : ℕ → Bool) (calls : List Call) → ((k : ℕ) (x : Call) → slice_get calls k ≡ Some x → calm x.function.0 ≡ true) → AllCalls calm calls
  all_calls calm [] f = tt
  all_calls calm (x ∷ calls) f = (f 0 x refl, all_calls calm calls (λ k z is. f (suc k) z is))

  module _ (calm : ℕ → Bool) (says : (f : ℕ) → is_marked marks f ≡ false → is_atomic cs f ≡ false → calm f ≡ true) (f : ℕ) (c : Conduct) (does : Does cs f c)
      (unmarked : is_marked marks f ≡ false) where
    never : MayBlock cs f → ⊥
    never may = true≢false (sym (blocks_marked f may) ∙ unmarked)

    no_blocks : (lines : List ℕ) → c.blocks ≡ lines → c.blocks ≡ []
    no_blocks [] is = is
    no_blocks (line ∷ more) is = absurd (never (itself f c line more does is))

    calm_call : (k : ℕ) (x : Call) → slice_get c.calls k ≡ Some x → calm x.function.0 ≡ true
    calm_call k x is = says x.function.0
        (must_be_false (is_marked marks x.function.0) (λ m. never (blocking_call f c x does (k, is) (marked_blocks x.function.0 m))))
        (must_be_false (is_atomic cs x.function.0) (λ a. let callee = atomic_there (slice_get cs x.function.0) a in
        never (atomic_call f c x callee.0 does (k, is) callee.1 callee.2)))

  calm_by : (calm : ℕ → Bool) → ((f : ℕ) → is_marked marks f ≡ false → is_atomic cs f ≡ false → calm f ≡ true) → (f : ℕ) (c : Conduct) → Does cs f c
      → (b : Bool) → is_marked marks f ≡ b → IsCalmConduct calm b c
  calm_by calm says f c does true is = inl refl
  calm_by calm says f c does false is = inr (no_blocks calm says f c does is c.blocks refl, all_calls calm c.calls (calm_call calm says f c does is))

  pub calm_conduct : (calm : ℕ → Bool) → ((f : ℕ) → is_marked marks f ≡ false → is_atomic cs f ≡ false → calm f ≡ true) → (f : ℕ) (c : Conduct) → Does cs f c
      → IsCalmConduct calm (is_marked marks f) c
  calm_conduct calm says f c does = calm_by calm says f c does (is_marked marks f) refl

  -- ---- atomic functions

  rules_at : (left : List Conduct) (f : ℕ) (c : Conduct) → rules_from cs marks left ≡ [] → slice_get left f ≡ Some c → function_rules c.atomic cs marks c ≡ []
  rules_at [] f c none is = absurd (none-some c is)
  rules_at (x ∷ left) zero c none is = ap (λ (z : Conduct). function_rules z.atomic cs marks z) (sym (some_inside x c is))
      ∙ empty_before (function_rules x.atomic cs marks x) (rules_from cs marks left) none
  rules_at (x ∷ left) (suc f) c none is = rules_at left f c (empty_behind (function_rules x.atomic cs marks x) (rules_from cs marks left) none) is

  no_rule : (b : Bool) (line : ℕ) → rule_if b line ≡ [] → b ≡ false
  no_rule true line none = absurd (not_empty (rule_at line) [] none)
  no_rule false line none = refl

  calls_at : (calls : List Call) (k : ℕ) (x : Call) → call_rules cs marks calls ≡ [] → slice_get calls k ≡ Some x → is_blocking cs marks x ≡ false
  calls_at [] k x none is = absurd (none-some x is)
  calls_at (z ∷ calls) zero x none is = ap (is_blocking cs marks) (sym (some_inside z x is))
      ∙ no_rule (is_blocking cs marks z) z.line (empty_before (rule_if (is_blocking cs marks z) z.line) (call_rules cs marks calls) none)
  calls_at (z ∷ calls) (suc k) x none is = calls_at calls k x (empty_behind (rule_if (is_blocking cs marks z) z.line) (call_rules cs marks calls) none) is

  or_left : (a b : Bool) → a ≡ true → (a || b) ≡ true
  or_left true b is = refl
  or_left false b is = absurd (false≢true is)

  or_right : (a b : Bool) → b ≡ true → (a || b) ≡ true
  or_right true b is = refl
  or_right false b is = is

  no_lines : (lines : List ℕ) (line : ℕ) (more : List ℕ) → map rule_at lines ≡ [] → lines ≡ line ∷ more → ⊥
  no_lines [] line more none is = not_empty line more (sym is)
  no_lines (x ∷ lines) line more none is = not_empty (rule_at x) (map rule_at lines) none

  same_conduct : (f : ℕ) (c d : Conduct) → slice_get cs f ≡ Some c → slice_get cs f ≡ Some d → d ≡ c
  same_conduct f c d p q = some_inside d c (sym q ∙ p)

  never_blocks : (f : ℕ) (c : Conduct) → slice_get cs f ≡ Some c → map rule_at c.blocks ≡ [] → call_rules cs marks c.calls ≡ [] → MayBlock cs f → ⊥
  never_blocks _ c got lines calls (itself f d line more does is) =
      no_lines c.blocks line more lines (ap (λ (z : Conduct). z.blocks) (sym (same_conduct f c d got does)) ∙ is)
  never_blocks _ c got lines calls (atomic_call f d x callee does among found atomic) =
      let at = ap (λ (z : Conduct). slice_get z.calls among.0) (sym (same_conduct f c d got does)) ∙ among.1 in
      let none = calls_at c.calls among.0 x calls at in
      true≢false (sym (or_left (is_atomic cs x.function.0) (is_marked marks x.function.0) (ap atomic_in found ∙ atomic)) ∙ none)
  never_blocks _ c got lines calls (blocking_call f d x does among may) =
      let at = ap (λ (z : Conduct). slice_get z.calls among.0) (sym (same_conduct f c d got does)) ∙ among.1 in
      let none = calls_at c.calls among.0 x calls at in
      true≢false (sym (or_right (is_atomic cs x.function.0) (is_marked marks x.function.0) (blocks_marked x.function.0 may)) ∙ none)

  atomic_by : (b : Bool) (f : ℕ) (c : Conduct) → slice_get cs f ≡ Some c → b ≡ true → function_rules b cs marks c ≡ [] → MayBlock cs f → ⊥
  atomic_by true f c got is none may = never_blocks f c got (empty_before (map rule_at c.blocks) (call_rules cs marks c.calls) none)
      (empty_behind (map rule_at c.blocks) (call_rules cs marks c.calls) none) may
  atomic_by false f c got is none may = false≢true is

  pub atomic_unmarked : rules_from cs marks cs ≡ [] → (f : ℕ) (c : Conduct) → slice_get cs f ≡ Some c → c.atomic ≡ true → is_marked marks f ≡ false
  atomic_unmarked none f c got is = must_be_false (is_marked marks f)
      (λ m. atomic_by c.atomic f c got is (rules_at cs f c none got) (marked_blocks f m))
