-- Where no thread of a number can move, the run rests; and what main has ended with.
use Rattle.std.proofs.Common.{◌≡◌, [], Option, None, Some, refl, sym, ap, ◌∙◌, subst}
use Rattle.std.specs.Prelude.{ℤ}
use Rattle.std.specs.FinMap as fin
use Rattle.cc_ops.specs.Values as values
use Rattle.cc_ops.specs.Machine.{Address, value_of}
use Rattle.global_ptr.specs.declared.values.Value.{Value as RustValue}
use Rattle.global_ptr.specs.declared.values.Value.TheVariants as machine
use Rattle.cc_core.specs.Names.{Name}
use Rattle.cc_core.specs.Core.{Program}
use Rattle.cc_core.specs.Config.{Config, Thread, State, Live, Ended}
use Rattle.cc_core.specs.Numbers.{Numbers}
use Rattle.cc_core.specs.Steps as core
use Rattle.cc_ops.specs.declared.number.ThreadNo.{ThreadNo}
use Rattle.numbered_runs.specs.Machine.{Machine, Progress, Goes, Over, thread_in, ended_with}
use Rattle.numbered_runs.specs.Stands.{Stands, IsThread, Alike, SameState}
use Rattle.numbered_runs.specs.Alike.{main_thread}
use Rattle.numbered_runs.proofs.Naming.{thread_placed, thread_at}
use Rattle.run_numbers.proofs.Numbers.{threads_are_numbered}
use Rattle.run_numbers.proofs.Processors.{root_first, main_first, thread_is_housed}
use Rattle.cc_walk.specs.Enabled.{CanMove, IsFirst, IsMainInt}

-- the int that a value is
abbrev pub int_in : Option (values.Value Address) → Option ℤ
int_in None = None
int_in (Some values.Void) = None
int_in (Some (values.Int i)) = Some i
int_in (Some values.Null) = None
int_in (Some (values.Ptr a x)) = None

pub no_int : (v : RustValue) → ((i : ℤ) → ¬ (v ≡ machine.Int i)) → int_in (Some (value_of v)) ≡ None
no_int machine.Void other = refl
no_int (machine.Int i) other = absurd (other i refl)
no_int machine.Null other = refl
no_int (machine.Ptr a) other = refl

module _ (p : Program) (w : Machine) (s : Config) (n : Numbers) (st : Stands p w s n) where
  -- each thread that lives has a number
  numbered : (x : Name) (l : Thread) → fin.get s.threads x ≡ Some (Live l) → (t : ThreadNo) × IsThread n t x
  numbered x l is =
      let at = (threads_are_numbered p st.ints s n st.run).numbered x (Live l) is in
      let house = thread_is_housed p st.ints s n st.run at.0 at.1 x at.2 in
      let t : ThreadNo = record { processor = house.0; thread = at.1 } in
      (t, thread_placed n t at.0 x house.1 at.2)

  waits_by : (x : Name) (o : core.Outcome) → ¬ core.CanMove o → o ≡ core.Waits
  waits_by x core.Waits never = refl
  waits_by x (core.Faults kind line) never = absurd (never tt)
  waits_by x (core.Moves r) never = absurd (never tt)

  still : IsFirst (CanMove p s n) None → (x : Name) (b : Option State) → fin.get s.threads x ≡ b → core.step p x s ≡ core.Waits
  still none x None is = ap (core.act_state p x s) is
  still none x (Some (Ended v)) is = ap (core.act_state p x s) is
  still none x (Some (Live l)) is =
      let at = numbered x l is in
      waits_by x (core.step p x s) (λ can. none at.0 (x, at.1, can))

  pub rests : IsFirst (CanMove p s n) None → core.IsAtRest p s
  rests none x = still none x (fin.get s.threads x) refl

  -- ---- main

  main_is : IsThread n main_thread []
  main_is = thread_placed n main_thread [] [] (root_first p st.ints s n st.run) (main_first p st.ints s n st.run)

  ended_int : (v : values.Value Address) (u : values.Value Name) → Alike n v u → fin.get s.threads [] ≡ Some (Ended u) → IsMainInt s (int_in (Some v))
  ended_int values.Void values.Void same is = λ i also. absurd (cc)
  ended_int (values.Int i) (values.Int j) same is = is ∙ ap (λ k. Some (Ended (values.Int k))) (sym same)
  ended_int values.Null values.Null same is = λ i also. absurd (cc)
  ended_int (values.Ptr a x) (values.Ptr o y) same is = λ i also. absurd (cc)
  ended_int v u same is = absurd same

  int_of_state : (a : Progress) (b : State) → fin.get s.threads [] ≡ Some b → SameState n p w.code [] a b → IsMainInt s (int_in (ended_with (Some a)))
  int_of_state (Goes r) (Live l) is same = λ i also. absurd (cc)
  int_of_state (Over v) (Ended u) is same = ended_int v u same is
  int_of_state a b is same = absurd same

  -- main has ended with an int in the machine exactly where it has in the configuration
  pub main_int_alike : IsMainInt s (int_in (ended_with (thread_in w.threads main_thread)))
  main_int_alike =
      let at = thread_at p w s n st main_thread [] main_is in
      let there = at.2 in
      subst (λ o. IsMainInt s (int_in (ended_with o))) (sym at.1) (int_of_state at.0 there.0 there.1 there.2)
