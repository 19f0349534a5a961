-- A run that comes to rest is done, with an int, or blocked.
use Rattle.std.proofs.Common.{◌≡◌, ◌⊎◌, ℕ, zero, suc, [], List, Some, refl, ap, ◌∙◌, inl, inr, arith}
use Rattle.std.specs.Prelude.{ℤ}
use Rattle.std.specs.FinMap as fin
use Rattle.global_ptr.specs.declared.ends.Standing.TheVariants.{Done, Blocked}
use Rattle.cc_ops.specs.Values.{Void}
use Rattle.cc_core.specs.Names.{Value}
use Rattle.cc_core.specs.Core.{Program}
use Rattle.cc_core.specs.Config.{Config, State, Live, Ended}
use Rattle.cc_core.specs.Steps.{threads_left, Stands, IsAtRest}
use Rattle.one_holder.proofs.Values.{live_replaced}
use Rattle.core_types.specs.Programs.{WellTyped}
use Rattle.core_types.specs.Runs.{IsReachedFrom}
use Rattle.core_types.proofs.Start.{reached_has_types, main_is_int}

module _ (p : Program) (ok : WellTyped p) (ns : List ℤ) (s : Config) (at : IsReachedFrom p ns s) (rest : IsAtRest p s) (limit n : ℕ) where
  abbrev HasStanding : Type 0
  HasStanding = ((v : ℤ) × Stands p limit n s (Done v)) ⊎ ((k : ℕ) × Stands p limit n s (Blocked k))

  -- where no thread is left, main has ended
  main_ended : (x : State) → fin.get s.threads [] ≡ Some x → threads_left s ≡ 0 → (v : Value) × (x ≡ Ended v)
  main_ended (Live l) there none =
      let counted = live_replaced s.threads [] (Ended Void) (Live l) there in
      absurd (omega (arith, counted, none))
  main_ended (Ended v) there none = (v, refl)

  none_left : threads_left s ≡ 0 → HasStanding
  none_left none =
      let typed = reached_has_types p ok.0 ok.1 ns s at in
      let main = typed.1.main in
      let there = typed.1.kept [] main.0 main.1 in
      let ended = main_ended there.0 there.1 none in
      let with_value = there.1 ∙ ap Some ended.1 in
      let int = main_is_int p ok.0 ok.1 ns s ended.0 at with_value in
      inl (int.0, (rest, none, with_value ∙ ap (λ v. Some (Ended v)) int.1))

  some_left : (k : ℕ) → threads_left s ≡ k → HasStanding
  some_left zero e = none_left e
  some_left (suc k) e = inr (suc k, (rest, e, omega arith))

  pub stands : HasStanding
  stands = some_left (threads_left s) refl
