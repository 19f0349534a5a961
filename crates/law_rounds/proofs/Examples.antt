-- The runs of small programs compute.
use Rattle.std.proofs.Common.{◌≡◌, ℕ, zero, suc, ◌<◌, length, arith, pos, List, [], ◌∷◌, ◌++◌, Some, None, refl, sym, ap, subst}
use Rattle.std.specs.Prelude.{◌-◌, min, slice_get, get_or}
use Rattle.global_ptr.specs.declared.ends.Standing.TheVariants.{Done}
use Rattle.numbered_threads.specs.Quiet.{quiet_end}
use Rattle.law_processors.specs.Processors.{Ended, tables_of, Processor, Processors, with_processor, printing}
use Rattle.law_processors.specs.Busy.{busy_count, all_living_in}
use Rattle.law_processors.specs.Whole.{root, first_processors}
use Rattle.cc_ops.specs.Values.{Int, Ptr}
use Rattle.cc_core.specs.Numbers.{Make}
use Rattle.cc_core.specs.Numbers as posts
use Rattle.numbered_runs.specs.Alike.{main_thread}
use Rattle.law_mesh.specs.Spots.{item_in}
use Rattle.law_mesh.specs.Queues.{Asks}
use Rattle.law_rounds.specs.Turn.{Note, Made, Ran, Served, Turning, Idle, Closed, begin, ticks, noted}
use Rattle.law_rounds.specs.Round.{RoundEnd, turns_in, words_of, Unfinished, More, Due, due, quota_of, zeros, TurnOf, Turns, AllTaken, TakesTurn, RoundDone, noting, after_turns, RoundIs, Rest, Last, StandsAtRest, WithResult, RunIs}
use Rattle.law_rounds.specs.Examples.{prints_once, notes_once, forks_two, notes_two, calls_elsewhere, notes_elsewhere}

-- a round in which processor q, which is p, alone takes a turn: one of so many ticks, that ends idle
module _ (left : ℕ) (m : Processors) (q : ℕ) (p : Processor) (n : ℕ) where
  abbrev pub turn : Turning
  turn = ticks m.code q 0 n (begin p (quota_of left (busy_count m.all)) 0)

  abbrev pub after : Processors
  after = printing turn.prints (with_processor m q turn.proc)

  abbrev pub its_notes : List Note
  its_notes = turn.notes ++ []

  abbrev pub done : RoundDone
  done = noting its_notes (after_turns None (left - noted its_notes) after)

  abbrev the_words : List ℕ
  the_words = zeros (min (busy_count m.all) left)

  abbrev the_due : Due
  the_due = record { place = q; word = 0 }

  pub one_turn : slice_get m.all q ≡ Some p → turn.phase ≡ Closed Idle → due m.all (min (busy_count m.all) left) the_words 0 ≡ the_due ∷ []
      → RoundIs the_words left m done.mesh done.notes done.end
  one_turn there closed dues = record { middle = after; first = its_notes; fault = None; turns = turns; is = refl }
    where
      taken : TurnOf m (quota_of left (busy_count m.all)) the_due after turn.notes Idle
      taken = record {
        before = p;
        there = there;
        after = turn.proc;
        prints = turn.prints;
        turn = record {
          count = n;
          left = turn.quota;
          state = turn.state;
          is = ap (λ x. record { proc = turn.proc; prints = turn.prints; notes = turn.notes; quota = turn.quota; state = turn.state; phase = x }) closed;
        };
        is = refl;
      }

      turns : Turns (quota_of left (busy_count m.all)) (due m.all (min (busy_count m.all) left) the_words 0) m after its_notes None
      turns = subst (λ ds. Turns (quota_of left (busy_count m.all)) ds m after its_notes None) (sym dues) (TakesTurn taken tt AllTaken)

pub runs_once : RunIs prints_once [] 0 100 (10 ∷ []) (Done (pos 5)) notes_once
unfolding quiet_end
runs_once =
    let m = first_processors prints_once [] in
    let p = root prints_once [] in record {
      last = (done 100 m 0 p 7).mesh;
      at = (done 100 m 0 p 7).mesh;
      end = Rest;
      rounds = Last tt (one_turn 100 m 0 p 7 refl refl refl);
      stands = StandsAtRest (WithResult refl refl);
      prints = refl;
    }

pub runs_two : RunIs forks_two [] 0 100 (10 ∷ 10 ∷ []) (Done (pos 5)) notes_two
unfolding quiet_end
runs_two =
    let m = first_processors forks_two [] in
    let p = root forks_two [] in record {
      last = (done 100 m 0 p 26).mesh;
      at = (done 100 m 0 p 26).mesh;
      end = Rest;
      rounds = Last tt (one_turn 100 m 0 p 26 refl refl refl);
      stands = StandsAtRest (WithResult refl refl);
      prints = refl;
    }

-- processor q of the machine, where it is there
processor_at : Processors → (q : ℕ) → Processor
processor_at m q = get_or m.all q (root calls_elsewhere [])

found : (all : List Processor) (q : ℕ) (none : Processor) → q < length all → slice_get all q ≡ Some (get_or all q none)
found [] q none lt = absurd (omega (arith, lt))
found (p ∷ all) zero none lt = refl
found (p ∷ all) (suc q) none lt = found all q none (omega (arith, lt))

there : (m : Processors) (q : ℕ) → q < length m.all → slice_get m.all q ≡ Some (processor_at m q)
unfolding processor_at
there m q lt = found m.all q (root calls_elsewhere []) lt

-- the machine after a round in which processor q alone takes a turn
next : (left : ℕ) → Processors → (q : ℕ) → Processors
next left m q = (done left m q (processor_at m q) 24).mesh

first : Processors
first = next 100 (first_processors calls_elsewhere []) 0

second : Processors
second = next 99 first 0

third : Processors
third = next 97 second 1

fourth : Processors
fourth = next 93 third 0

round_first : RoundIs (0 ∷ []) 100 (first_processors calls_elsewhere []) first (Made (Asks (record { processor = 0; thread = 0 }) (Make 0 [])) ∷ []) (Unfinished 99)
unfolding quiet_end processor_at next first
round_first = one_turn 100 (first_processors calls_elsewhere []) 0 (processor_at (first_processors calls_elsewhere []) 0) 24 refl refl refl

round_second : RoundIs (0 ∷ []) 99 first second (Ran (record { processor = 0; thread = 0 }) 2 ∷ []) (Unfinished 97)
unfolding quiet_end processor_at next first second
round_second = one_turn 99 first 0 (processor_at first 0) 24 (there first 0 (omega arith)) refl refl

round_third : RoundIs (0 ∷ []) 97 second third
    (Served 1 (Asks (record { processor = 0; thread = 0 }) (posts.Call 1 (Ptr (record { processor = 1; object = 0 }) 0) []))
    ∷ Ran (record { processor = 1; thread = 0 }) 3 ∷ []) (Unfinished 93)
unfolding quiet_end processor_at next first second third
round_third = one_turn 97 second 1 (processor_at second 1) 24 (there second 1 (omega arith)) refl refl

round_fourth : RoundIs (0 ∷ []) 93 third fourth (Ran (record { processor = 0; thread = 0 }) 2 ∷ []) Rest
unfolding quiet_end processor_at next first second third fourth
round_fourth = one_turn 93 third 0 (processor_at third 0) 24 (there third 0 (omega arith)) refl refl

-- one processor is busy
busy_first : turns_in (first_processors calls_elsewhere []) 100 ≡ 1
busy_first = refl

busy_second : turns_in first 99 ≡ 1
unfolding quiet_end processor_at next first
busy_second = refl

busy_third : turns_in second 97 ≡ 1
unfolding quiet_end processor_at next first second
busy_third = refl

busy_fourth : turns_in third 93 ≡ 1
unfolding quiet_end processor_at next first second third
busy_fourth = refl

none_left : all_living_in (tables_of fourth.all) ≡ 0
unfolding quiet_end processor_at next first second third fourth
none_left = refl

with_five : item_in (tables_of fourth.all) main_thread ≡ Some (Ended (Int (pos 5)))
unfolding quiet_end processor_at next first second third fourth
with_five = refl

printed : 10 ∷ [] ≡ fourth.output
unfolding quiet_end processor_at next first second third fourth
printed = refl

-- a round whose words are zeros, as many as turns are taken
zeros_for : (left : ℕ) (m m' : Processors) (notes : List Note) (e : RoundEnd) → turns_in m left ≡ 1 → RoundIs (0 ∷ []) left m m' notes e
    → RoundIs (words_of 0 0 (turns_in m left)).0 left m m' notes e
zeros_for left m m' notes e one round = subst (λ n. RoundIs (words_of 0 0 n).0 left m m' notes e) (sym one) round

pub runs_elsewhere : RunIs calls_elsewhere [] 0 100 (10 ∷ []) (Done (pos 5)) notes_elsewhere
runs_elsewhere = record {
  last = fourth;
  at = fourth;
  end = Rest;
  rounds = More (zeros_for 100 (first_processors calls_elsewhere []) first _ _ busy_first round_first)
      (More (zeros_for 99 first second _ _ busy_second round_second)
      (More (zeros_for 97 second third _ _ busy_third round_third)
      (Last tt (zeros_for 93 third fourth _ _ busy_fourth round_fourth))));
  stands = StandsAtRest (WithResult none_left with_five);
  prints = printed;
}
