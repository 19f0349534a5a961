-- Whether a run may end so.
use Rattle.std.proofs.Common.{[], ◌≡◌, ◌≢◌, ◌↔◌, ◌≤◌, ◌<◌, ℕ, Bool, true, false, not, ◌==◌, ◌&&◌, ltb, IsTrue, is_some, Option, Some, None, ℤ, int_eq, refl, sym, ap, ◌∙◌, subst, arith}
use Rattle.std.specs.Option.{option_eq}
use Rattle.std.specs.FinMap as fin
use Rattle.std.proofs.lemmas.Bool.{true≢false, eqb-true, eq-eqb, ltb-true}
use Rattle.std.proofs.lemmas.Bool.Decides.{Decides-int_eq}
use denote.Enum.Declared.{tag_of}
use Rattle.global_ptr.specs.contracts.ends.FaultKind as kinds
use Rattle.global_ptr.specs.declared.ends.FaultKind.{FaultKind}
use Rattle.global_ptr.specs.declared.ends.FaultKind.TheVariants as kind
use Rattle.global_ptr.specs.declared.ends.ProgFault.{ProgFault}
use Rattle.global_ptr.specs.declared.ends.Standing.TheVariants as standing
use Rattle.cc_ops.specs.Values.{Int}
use Rattle.cc_core.specs.Names.{Name}
use Rattle.cc_core.specs.Core.{Program}
use Rattle.cc_core.specs.Config.{State, Ended}
use Rattle.cc_core.specs.Steps as core
use Rattle.cc_explains.specs.Places.{Place}
use Rattle.cc_explains.specs.Explains.{IsEnd}
use Rattle.cc_explains.proofs.Failing.{lives, one_name}
use Rattle.cc_walk.specs.Answers.{Follows}
use Rattle.cc_walk.specs.Enabled.{IsFirst, CanMove, IsMainInt}
use Rattle.cc_walk.specs.declared.walk.Stepped.{Stepped}
use Rattle.cc_walk.specs.declared.walk.Stepped.TheVariants as stepped
use Rattle.effect_journal.specs.declared.entry.FaultBy.{FaultBy}
use Rattle.cc_ops.specs.declared.number.ThreadNo.{ThreadNo}
use Rattle.numbered_runs.specs.Machine.{Machine}
use Rattle.numbered_runs.specs.Stands.{IsThread}
use Rattle.trace_check.specs.Replays.{TellsRest}

-- ---- two faults are compared

abbrev fault_of : FaultKind → ℕ → ProgFault
fault_of kind line = record { kind = kind; line = line }

abbrev equal : ProgFault → ProgFault → Bool
equal f g = (tag_of kinds.the_type f.kind == tag_of kinds.the_type g.kind) && (f.line == g.line)

same_fault : (k j : FaultKind) (l m : ℕ) → equal (fault_of k l) (fault_of j m) ≡ true → fault_of k l ≡ fault_of j m
same_fault kind.SyncTwice kind.SyncTwice l m t = ap (fault_of kind.SyncTwice) (eqb-true l m t)
same_fault kind.Overflow kind.Overflow l m t = ap (fault_of kind.Overflow) (eqb-true l m t)
same_fault kind.DivideByZero kind.DivideByZero l m t = ap (fault_of kind.DivideByZero) (eqb-true l m t)
same_fault kind.IndexOut kind.IndexOut l m t = ap (fault_of kind.IndexOut) (eqb-true l m t)
same_fault kind.NullPointer kind.NullPointer l m t = ap (fault_of kind.NullPointer) (eqb-true l m t)
same_fault kind.StoreFull kind.StoreFull l m t = ap (fault_of kind.StoreFull) (eqb-true l m t)
same_fault kind.ThreadsFull kind.ThreadsFull l m t = ap (fault_of kind.ThreadsFull) (eqb-true l m t)
same_fault kind.ProcessorsFull kind.ProcessorsFull l m t = ap (fault_of kind.ProcessorsFull) (eqb-true l m t)
same_fault kind.CallDepth kind.CallDepth l m t = ap (fault_of kind.CallDepth) (eqb-true l m t)
same_fault k j l m t = absurd (true≢false (sym t))

itself : (k : FaultKind) (l : ℕ) → equal (fault_of k l) (fault_of k l) ≡ true
itself kind.SyncTwice l = eq-eqb l l refl
itself kind.Overflow l = eq-eqb l l refl
itself kind.DivideByZero l = eq-eqb l l refl
itself kind.IndexOut l = eq-eqb l l refl
itself kind.NullPointer l = eq-eqb l l refl
itself kind.StoreFull l = eq-eqb l l refl
itself kind.ThreadsFull l = eq-eqb l l refl
itself kind.ProcessorsFull l = eq-eqb l l refl
itself kind.CallDepth l = eq-eqb l l refl

same_move : (f g : ProgFault) → core.Faults f.kind f.line ≡ core.Faults g.kind g.line → f ≡ g
same_move f g both =
    let same_kind : f.kind ≡ g.kind = cc in
    let same_line : f.line ≡ g.line = cc in
    ap (λ (k : FaultKind). fault_of k f.line) same_kind ∙ ap (fault_of g.kind) same_line

-- what `==` says of two faults
pub told_same : (f g : ProgFault) (r : Bool) → r ≡ equal f g → (r ≡ true → f ≡ g) × (f ≡ g → r ≡ true)
told_same f g r eq = (
  λ t. same_fault f.kind g.kind f.line g.line (sym eq ∙ t),
  λ same. eq ∙ (ap (equal f) (sym same) ∙ itself f.kind f.line),
)

-- false tells of nothing that holds
pub nothing : {A : Type 0} → ¬ A → IsTrue false ↔ A
nothing none = (λ h. absurd (true≢false (sym h)), λ x. absurd (none x))

module _ (p : Program) (a : Place) where
  pub tells_rest : (o : Option ThreadNo) → IsFirst (CanMove p a.config a.numbers) o → (o ≡ None → core.IsAtRest p a.config) → (b : Bool)
      → is_some o ≡ not b → TellsRest p a b
  tells_rest None first rest true is = rest refl
  tells_rest None first rest false is = absurd (true≢false (sym is))
  tells_rest (Some t) first rest true is = absurd (true≢false is)
  tells_rest (Some t) first rest false is = (first.0.0, first.0.2)

  -- where a thread can move the run is not at rest
  moves_on : TellsRest p a false → ¬ core.IsAtRest p a.config
  moves_on (x, can) rest = subst core.CanMove (rest x) can

  at_rest : (b : Bool) → b ≡ true → TellsRest p a b → core.IsAtRest p a.config
  at_rest b is h = subst (TellsRest p a) is h

  -- ---- done

  pub not_done : (v : ℤ) (b : Bool) → b ≡ false → TellsRest p a b → IsTrue false ↔ IsEnd p a (standing.Done v) None
  not_done v b is h = nothing (λ e. moves_on (subst (TellsRest p a) is h) e.stands.0)

  pub some_left : (v : ℤ) (left : ℕ) → left ≡ core.threads_left a.config → left ≢ 0 → IsTrue (left == 0) ↔ IsEnd p a (standing.Done v) None
  some_left v left is some = (λ t. absurd (some (eqb-true left 0 t)), λ e. absurd (some (is ∙ e.stands.1)))

  module _ (v : ℤ) (b : Bool) (is : b ≡ true) (h : TellsRest p a b) (left : ℕ) (is_left : left ≡ core.threads_left a.config) (none_left : left ≡ 0) where
    done : fin.get a.config.threads [] ≡ Some (Ended (Int v)) → IsEnd p a (standing.Done v) None
    done ended = record { stands = (at_rest b is h, sym is_left ∙ none_left, ended); thread = refl }

    ended_with : (i : ℤ) → fin.get a.config.threads [] ≡ Some (Ended (Int i)) → fin.get a.config.threads [] ≡ Some (Ended (Int v)) → i ≡ v
    ended_with i mine its = let both : ◌≡◌ {A = Option State} (Some (Ended (Int i))) (Some (Ended (Int v))) = sym mine ∙ its in cc

    pub is_done : (o : Option ℤ) → IsMainInt a.config o → (r : Bool) → r ≡ option_eq int_eq o (Some v)
        → IsTrue r ↔ IsEnd p a (standing.Done v) None
    is_done None main r eq = (λ t. absurd (true≢false (sym t ∙ eq)), λ e. absurd (main v e.stands.2))
    is_done (Some i) main r eq = (
      λ t. done (subst (λ (n : ℤ). fin.get a.config.threads [] ≡ Some (Ended (Int n))) ((Decides-int_eq i v).0 (sym eq ∙ t)) main),
      λ e. eq ∙ (Decides-int_eq i v).1 (ended_with i main e.stands.2),
    )

  -- ---- blocked

  pub not_blocked : (k : ℕ) (b : Bool) → b ≡ false → TellsRest p a b → IsTrue false ↔ IsEnd p a (standing.Blocked k) None
  not_blocked k b is h = nothing (λ e. moves_on (subst (TellsRest p a) is h) e.stands.0)

  pub none_blocked : (k : ℕ) → k ≤ 0 → IsTrue (ltb 0 k) ↔ IsEnd p a (standing.Blocked k) None
  none_blocked k none = (
    λ t. let some = ltb-true 0 k t in absurd (omega (arith, none, some)),
    λ e. let some = e.stands.2 in absurd (omega (arith, none, some)),
  )

  pub is_blocked : (k : ℕ) (b : Bool) → b ≡ true → TellsRest p a b → (left : ℕ) → left ≡ core.threads_left a.config → 0 < k
      → IsTrue (left == k) ↔ IsEnd p a (standing.Blocked k) None
  is_blocked k b is h left is_left some = (
    λ t. record { stands = (at_rest b is h, sym is_left ∙ eqb-true left k t, omega (arith, some)); thread = refl },
    λ e. eq-eqb left k (is_left ∙ e.stands.1),
  )

  -- ---- a limit

  pub is_limit : (k made : ℕ) → made ≡ a.made → k ≡ made → (b : Bool) → TellsRest p a b → IsTrue (not b) ↔ IsEnd p a (standing.Limit k) None
  is_limit k made is same true h = nothing (λ e. moves_on (e.stands.2, e.stands.3) h)
  is_limit k made is same false h = (λ t. record { stands = (same ∙ is, refl, h.0, h.1); thread = refl }, λ e. refl)

  pub other_count : (k made : ℕ) → made ≡ a.made → k ≢ made → IsTrue false ↔ IsEnd p a (standing.Limit k) None
  other_count k made is other = nothing (λ e. other (e.stands.0 ∙ sym is))

  -- ---- a fault

  module _ (by : FaultBy) (fault : ProgFault) (old new : Machine) where
    pub is_fault : (found : ProgFault)
        → Follows p a.config a.numbers (record { processor = by.processor; thread = by.thread }) old (stepped.Fault found) new → (r : Bool)
        → (r ≡ true → found ≡ fault) × (found ≡ fault → r ≡ true) → IsTrue r ↔ IsEnd p a (standing.Fault fault) (Some by)
    is_fault found (x, named, faults, kept) r eq = (
      λ t. let same : found ≡ fault = eq.0 t in
          let here : core.step p x a.config ≡ core.Faults fault.kind fault.line =
          subst (λ (f : ProgFault). core.step p x a.config ≡ core.Faults f.kind f.line) same faults in
          record { stands = ((x, here), omega arith); thread = (x, named, here) },
      λ e. let there = e.thread in
          let name : x ≡ there.0 = one_name a (record { processor = by.processor; thread = by.thread }) x there.0 named there.1 in
          let both : core.Faults found.kind found.line ≡ core.Faults fault.kind fault.line =
          sym faults ∙ (ap (λ (z : Name). core.step p z a.config) name ∙ there.2) in
          eq.1 (same_move found fault both),
    )

    -- no other move is that fault
    pub no_fault : (result : Stepped)
        → Follows p a.config a.numbers (record { processor = by.processor; thread = by.thread }) old result new
        → ((f : ProgFault) → result ≢ stepped.Fault f) → result ≢ stepped.Memory → IsTrue false ↔ IsEnd p a (standing.Fault fault) (Some by)
    no_fault result follows other memory = nothing (λ e. from result follows other memory e.thread.0 e.thread.1 e.thread.2)
      where
        from : (r : Stepped) → Follows p a.config a.numbers (record { processor = by.processor; thread = by.thread }) old r new
            → ((f : ProgFault) → r ≢ stepped.Fault f) → r ≢ stepped.Memory → (y : Name)
            → IsThread a.numbers (record { processor = by.processor; thread = by.thread }) y
            → core.step p y a.config ≡ core.Faults fault.kind fault.line → ⊥
        from stepped.Moved (x, r, named, moves, stands) other memory y its faults =
            let name : x ≡ y = one_name a (record { processor = by.processor; thread = by.thread }) x y named its in
            let both : core.Moves r ≡ core.Faults fault.kind fault.line = sym moves ∙ (ap (λ (z : Name). core.step p z a.config) name ∙ faults) in
            cc
        from stepped.Blocked (x, named, live, waits, same) other memory y its faults =
            let name : x ≡ y = one_name a (record { processor = by.processor; thread = by.thread }) x y named its in
            let both : core.Waits ≡ core.Faults fault.kind fault.line = sym waits ∙ (ap (λ (z : Name). core.step p z a.config) name ∙ faults) in
            cc
        from stepped.Gone (none, same) other memory y its faults = none y its (lives p y a.config (subst core.CanMove (sym faults) tt))
        from (stepped.Fault f) follows other memory y its faults = other f refl
        from stepped.Memory follows other memory y its faults = memory refl
