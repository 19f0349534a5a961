-- How a run goes on, and how it ends.
use Rattle.std.proofs.Common.{◌≡◌, ◌≤◌, ◌<◌, ℕ, suc, List, [], ◌∷◌, ◌++◌, Some, refl, sym, subst, ◌∙◌, ◌⊎◌, ⊎_elim, arith}
use Rattle.std.proofs.lemmas.List.{length_push}
use Rattle.std.specs.Prelude.{ℤ}
use Rattle.std.specs.FinMap as fin
use Rattle.cc_ops.specs.Values.{Int}
use Rattle.cc_ops.specs.declared.number.ThreadNo.{ThreadNo}
use Rattle.global_ptr.specs.declared.ends.ProgFault.{ProgFault}
use Rattle.global_ptr.specs.declared.ends.Standing.{Standing}
use Rattle.global_ptr.specs.declared.ends.Standing.TheVariants as standing
use Rattle.cc_core.specs.Config.{Ended}
use Rattle.cc_core.specs.Core.{Program}
use Rattle.cc_core.specs.Numbers.{Numbers, numbers_step}
use Rattle.cc_core.specs.Steps as core
use Rattle.cc_core.specs.Steps.{Run, RunsTo, HasFault, IsAtRest, start}
use Rattle.cc_core.proofs.StepLaws.{run_joined}
use Rattle.core_types.proofs.Rest.{stands as stands_typed}
use Rattle.numbered_runs.specs.Machine.{Machine}
use Rattle.numbered_runs.specs.Stands.{Stands}
use Rattle.cc_walk.specs.Answers.{Follows}
use Rattle.cc_walk.specs.Enabled.{IsFirst, CanMove}
use Rattle.cc_walk.specs.declared.walk.Stepped.TheVariants as stepped
use Rattle.cc_engine.specs.Runs.{IsAfter, Advances, IsEnded, IsTypedRun}
use Rattle.cc_engine.specs.declared.execution.Advance.TheVariants as advance

module _ (p : Program) (ns : List ℤ) where
  pub begun : (w : Machine) (n : Numbers) → Stands p w (start p ns) n → IsAfter p ns 0 w
  begun w n stands = record { names = []; last = start p ns; numbers = n; run = refl; count = refl; stands = stands }

  pub goes_on : (k : ℕ) (w now : Machine) (a : IsAfter p ns k w) (t : ThreadNo) → Follows p a.last a.numbers t w stepped.Moved now
      → IsAfter p ns (suc k) now
  goes_on k w now a t moved = record {
    names = a.names ++ moved.0 ∷ [];
    last = moved.1;
    numbers = numbers_step p moved.0 a.last a.numbers;
    run = run_joined p a.names (moved.0 ∷ []) (start p ns) a.last moved.1 a.run (moved.1, moved.3, refl);
    count = let longer = length_push a.names moved.0 in let count = a.count in omega (arith, longer, count);
    stands = moved.4;
  }

  -- after its steps, in a machine that is the same
  abbrev pub kept : (k : ℕ) (w now : Machine) → now ≡ w → IsAfter p ns k w → IsAfter p ns k now
  kept k w now same a = record {
    names = a.names;
    last = a.last;
    numbers = a.numbers;
    run = a.run;
    count = a.count;
    stands = subst (λ (x : Machine). Stands p x a.last a.numbers) (sym same) a.stands;
  }

  pub meets : (k : ℕ) (w now : Machine) (a : IsAfter p ns k w) (t : ThreadNo) (fault : ProgFault)
      → Follows p a.last a.numbers t w (stepped.Fault fault) now → Advances p ns k (advance.Fault fault) now
  meets k w now a t fault met = (kept k w now met.3 a, (met.0, met.2))

  module _ (limit k : ℕ) (w : Machine) where
    pub at_fault : (fault : ProgFault) → k < limit → Advances p ns k (advance.Fault fault) w → IsEnded p ns limit (standing.Fault fault) w
    at_fault fault less met = record { steps = k; after = met.0; within = omega (arith, less); stands = (met.1, less) }

    pub at_rest : (e : Standing) (a : IsAfter p ns k w) → k ≤ limit → core.Stands p limit k a.last e → IsEnded p ns limit e w
    at_rest e a within stands = record { steps = k; after = a; within = within; stands = stands }

  -- a run of a well-typed program that rests is done or blocked: blocked, where threads are left or main has ended with no int
  module _ (typed : IsTypedRun p ns) (k : ℕ) (w : Machine) (a : IsAfter p ns k w) (rest : IsAtRest p a.last) (limit : ℕ) where
    done_or_blocked : ((v : ℤ) × core.Stands p limit k a.last (standing.Done v)) ⊎ ((left : ℕ) × core.Stands p limit k a.last (standing.Blocked left))
    done_or_blocked = stands_typed p typed.0 ns a.last (typed.1, (a.names, a.run)) rest limit k

    pub is_blocked : (left : ℕ) → left ≡ core.threads_left a.last
        → ((v : ℤ) → left ≡ 0 → fin.get a.last.threads [] ≡ Some (Ended (Int v)) → ⊥) → core.Stands p limit k a.last (standing.Blocked left)
    is_blocked left same unfinished = ⊎_elim
        (λ d. absurd (unfinished d.0 (same ∙ d.1.1) d.1.2))
        (λ b. (rest, sym same, subst (λ n. 1 ≤ n) (sym (same ∙ b.1.1)) b.1.2))
        done_or_blocked

  pub at_limit : (limit : ℕ) (w : Machine) (a : IsAfter p ns limit w) (t : ThreadNo) → IsFirst (CanMove p a.last a.numbers) (Some t)
      → IsEnded p ns limit (standing.Limit limit) w
  at_limit limit w a t first = record {
    steps = limit;
    after = a;
    within = omega arith;
    stands = (refl, refl, first.0.0, first.0.2);
  }

  -- the run that has ended, with what it has printed
  pub runs_to : (limit : ℕ) (e : Standing) (w : Machine) (ended : IsEnded p ns limit e w) (output : List ℕ) → output ≡ ended.after.last.output
      → RunsTo p ns limit output e
  runs_to limit e w ended output is =
      let a = ended.after in
      let count = a.count in
      record {
        steps = a.names;
        last = a.last;
        run = a.run;
        within = let within = ended.within in omega (arith, count, within);
        written = sym is;
        stands = subst (λ (k : ℕ). core.Stands p limit k a.last e) (sym count) ended.stands;
      }
