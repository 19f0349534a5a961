-- A thread that takes the value of the thread that it asked.
use Rattle.std.proofs.Common.{◌≡◌, ℕ, List, [], ◌∷◌, Bool, Some, None, refl, sym, ap, ◌∙◌, subst}
use Rattle.std.specs.FinMap as fin
use Rattle.cc_ops.specs.Values as values
use Rattle.cc_ops.specs.Values.{Ptr}
use Rattle.cc_ops.specs.Machine.{Address}
use Rattle.cc_ops.specs.declared.number.ThreadNo.{ThreadNo}
use Rattle.cc_ops.specs.Shelves.{Shelf}
use Rattle.cc_core.specs.Names.{Name, Value}
use Rattle.cc_core.specs.Core.{Program, Term, shapes}
use Rattle.cc_core.specs.Asks.{Ask, Answer}
use Rattle.cc_core.specs.Config as core
use Rattle.cc_core.specs.Config.{Config, Live, Ended}
use Rattle.cc_core.specs.Needs.{any_holds}
use Rattle.cc_core.specs.Next.{Next, Asks, After, next}
use Rattle.cc_core.specs.Numbers.{Numbers, after_change, of_next, changes, numbers_step}
use Rattle.cc_core.specs.Steps as steps
use Rattle.cc_core.proofs.Maps.{get_same, get_other}
use Rattle.cc_code.specs.Code.{Code, Then}
use Rattle.cc_code.specs.Settles.{Settles}
use Rattle.cc_follows.proofs.Program.{layout_settles}
use Rattle.code_names.specs.Same.{SameAnswer, Told}
use Rattle.numbered_threads.specs.Numbered.{GoesOnAlike}
use Rattle.run_numbers.specs.RunNumbers.{IsNumbered, goes_on}
use Rattle.run_numbers.proofs.Numbers.{reached}
use Rattle.one_holder.proofs.Law.{one_holder}
use Rattle.numbered_runs.specs.Machine.{Machine, Runner}
use Rattle.numbered_runs.specs.Stands.{Stands, IsThread, is_object, Alike, SameLive, SameState, IsThreadAt}
use Rattle.numbered_runs.specs.Steps.{resumed, joined}
use Rattle.numbered_runs.proofs.Held.{by_it, alone, freed_is, held_with}
use Rattle.numbered_runs.proofs.Holding.{Held, held_freed, held_same, freed_alike}
use Rattle.numbered_runs.proofs.Naming.{thread_place}
use Rattle.numbered_runs.proofs.Objects.{threads_once, objects_once}
use Rattle.numbered_runs.proofs.Settled.{SameRest, settled_alike}
use Rattle.numbered_runs.proofs.Threads.{Tables, thread_put}

-- thread x, which is l, after the join of a remote call that has ended with u, and the configuration
abbrev pub joined_thread : core.Thread → (Answer Name → After Term) → Value → core.Thread
joined_thread l k u = record l { term = (k (record { values = u ∷ []; made = [] })).left; asked = None }

abbrev pub joined_config : Program → Name → Config → core.Thread → (Answer Name → After Term) → Value → Config
joined_config p x s l k u = record s { threads = fin.insert s.threads x (steps.settle p (joined_thread l k u)) }

module _ (p : Program) (w : Machine) (s : Config) (n : Numbers) (st : Stands p w s n) (t : ThreadNo) (x : Name) (named : IsThread n t x)
    (r : Runner) (l : core.Thread) (there : fin.get s.threads x ≡ Some (Live l)) (live : SameLive n p w.code x r l)
    (j : Answer Address → Then Address) (k : Answer Name → After Term) (goes : GoesOnAlike p w.code (is_object n) j k)
    (v : values.Value Address) (u : Value) (same : Alike n v u) where
  abbrev after : Config
  after = joined_config p x s l k u

  abbrev runner : Runner
  runner = record { thread = (j (record { values = v ∷ []; made = [] })).left; asked = None; kids = r.kids; inside = r.inside }

  -- ---- the thread goes on alike

  state_alike : SameState n p w.code x (resumed w r j v) (steps.settle p (joined_thread l k u))
  state_alike =
      let answers : SameAnswer (Told (is_object n)) (record { values = v ∷ []; made = [] }) (record { values = u ∷ []; made = [] }) =
      record { values = (same, tt); made = refl } in
      let rest : SameRest n x runner (joined_thread l k u) = record { asked = tt; made = live.made; kids = live.kids; inside = live.inside } in
      let settles : (b : ℕ) → Settles w.code b = subst (λ (c : Code). (b : ℕ) → Settles c b) (sym st.code) (layout_settles p st.source) in
      settled_alike p w.code settles n x runner (joined_thread l k u) rest (goes _ _ answers).0

  -- ---- the threads

  threads_stand : Tables (IsThreadAt n p w.code after) n.processors n.threads (joined w t r j v).threads
  threads_stand =
      let place = thread_place n t x named in
      thread_put (IsThreadAt n p w.code s) (IsThreadAt n p w.code after) n.processors n.threads (threads_once p st.ints s n st.run) t x place.0 place.1 place.2
      (resumed w r j v)
      (steps.settle p (joined_thread l k u), get_same s.threads x (steps.settle p (joined_thread l k u)), state_alike)
      (λ y a ne at. (at.0, get_other s.threads x (steps.settle p (joined_thread l k u)) y ne ∙ at.1, at.2))
      w.threads st.threads

  -- ---- the objects: where the thread has ended, it holds none

  abbrev held_in : Config → Name → Bool
  held_in c o = any_holds (shapes p) (Ptr o 0) (fin.values c.threads)

  abbrev HeldBy : (Name → Bool) → List Shelf → Type 0
  HeldBy = Held (shapes p) n s.objects s.slots_made (objects_once p st.ints s n st.run)

  abbrev now_held : Name → Bool
  now_held = held_freed (shapes p) (steps.settle p (joined_thread l k u)) l.inside (held_in s)

  held_is : (o : Name) → now_held o ≡ held_in after o
  held_is o =
      let one = one_holder p st.ints s (reached p st.ints s n st.run) in
      freed_is (shapes p) s x l there one o p (joined_thread l k u) l.inside refl (alone (shapes p) s x l there one o) (held_in s)
      (by_it (shapes p) s x l there one o)
      ∙ sym (held_with (shapes p) (Ptr o 0) s.threads x (steps.settle p (joined_thread l k u)))

  shelves_stand : HeldBy (held_in after) (joined w t r j v).shelves
  shelves_stand =
      held_same (shapes p) n s.objects s.slots_made (objects_once p st.ints s n st.run) now_held (held_in after) (joined w t r j v).shelves held_is
      (freed_alike (shapes p) n s.objects s.slots_made (objects_once p st.ints s n st.run) r.inside l.inside live.inside (held_in s) w.shelves st.shelves p w.code
      (ap (λ (c : Code). c.shapes) st.code) x (resumed w r j v) (steps.settle p (joined_thread l k u)) state_alike)

  -- ---- no number changes

  module _ (line : ℕ) (a : Ask Name) (asks : next p l.term ≡ Asks line a k) (made : ℕ) (asked : l.asked ≡ Some made)
      (moves : steps.step p x s ≡ steps.Moves after) where
    as_before : numbers_step p x s n ≡ n
    as_before =
        ap (λ b. after_change n (changes p x s b)) there
        ∙ (ap (λ (e : Next Value Term). after_change n (of_next p x s l e l.asked)) asks
        ∙ ap (λ b. after_change n (of_next p x s l (Asks line a k) b)) asked)

    pub join_stands : Stands p (joined w t r j v) after (numbers_step p x s n)
    join_stands =
        let stands : Stands p (joined w t r j v) after n = record {
          source = st.source;
          code = st.code;
          ints = st.ints;
          run = subst (IsNumbered p st.ints after) as_before (goes_on x s n st.run moves);
          output = st.output;
          processors = st.processors;
          threads = threads_stand;
          shelves = shelves_stand;
        } in
        subst (Stands p (joined w t r j v) after) (sym as_before) stands
