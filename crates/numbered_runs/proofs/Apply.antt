-- After the step of a thread that asks and goes on the machine stands for what follows.
use Rattle.std.proofs.Common.{◌≡◌, ◌⊎◌, inl, inr, ⊎_elim, ℕ, zero, suc, ◌+◌, Bool, true, false, List, [], ◌∷◌, ◌++◌, length, slice_get, Some, None, refl, sym, ap, ◌∙◌, subst, length-append, arith}
use Rattle.std.specs.Prelude.{if◌then◌else◌}
use Rattle.std.specs.FinMap as fin
use Rattle.cc_ops.specs.Values.{Ptr}
use Rattle.cc_ops.specs.Machine.{Address, Values}
use Rattle.cc_ops.specs.declared.number.ThreadNo.{ThreadNo}
use Rattle.cc_ops.specs.Shelves.{Shelf}
use Rattle.cc_core.specs.Names.{Name, Value}
use Rattle.cc_core.specs.Core.{Program, Term, shapes}
use Rattle.cc_core.specs.Asks.{Ask, Answer}
use Rattle.cc_core.specs.Config as config
use Rattle.cc_core.specs.Config.{Config, State, Live}
use Rattle.cc_core.specs.Effects as core
use Rattle.cc_core.specs.Effects.{numbers, first_objects, is_call, branch_count}
use Rattle.cc_core.specs.Laws.{NamesAreFree}
use Rattle.cc_core.specs.Needs as needs
use Rattle.cc_core.specs.Needs.{any_holds, Go}
use Rattle.cc_core.specs.Next.{Next, Asks, After, next}
use Rattle.cc_core.specs.Numbers.{Numbers, numbers_after, after_change, changes, of_next, of_verdict, new_processors, numbers_step}
use Rattle.cc_core.specs.Steps as steps
use Rattle.cc_core.specs.Steps.{Change, grown}
use Rattle.cc_core.proofs.Fresh.{free_reached, length-new_threads}
use Rattle.cc_code.specs.Code.{Code, Thread, Then, Does, move}
use Rattle.cc_code.specs.Agrees.{ProgramStands}
use Rattle.cc_code.specs.Settles.{Settles}
use Rattle.cc_follows.proofs.Program.{layout_stands, layout_settles}
use Rattle.code_names.specs.Same.{Pairwise, Told, SameValues, SameAsk, SameAnswer}
use Rattle.numbered_threads.specs.Numbered.{IsLater, GoesOnAlike}
use Rattle.numbered_threads.specs.Numbered.{Stands as Follows}
use Rattle.numbered_threads.proofs.Numbered.{later_stands}
use Rattle.run_numbers.specs.RunNumbers.{IsNumbered, goes_on}
use Rattle.run_numbers.proofs.Changes.{IsMet}
use Rattle.run_numbers.proofs.Free.{AllFree, threads_free, effect_free}
use Rattle.run_numbers.proofs.Numbers.{new_free, own_free, copy_free, reached}
use Rattle.run_numbers.proofs.Processors.{one_number, processors_are_counted}
use Rattle.one_holder.specs.Holders.{HasOneHolder, IsInsideOnce}
use Rattle.one_holder.proofs.Law.{one_holder, once}
use Rattle.one_holder.proofs.Moves.{inside_after}
use Rattle.numbered_runs.specs.Machine.{Machine, Runner, made_in}
use Rattle.numbered_runs.specs.Looks as machine
use Rattle.numbered_runs.specs.Looks.{check_all}
use Rattle.numbered_runs.specs.Effects.{Effect, held_after, put_things}
use Rattle.numbered_runs.specs.Stands.{Stands, IsThread, is_object, Alike, SameLive, SameState, IsThreadAt}
use Rattle.numbered_runs.specs.Steps.{its_effect, ground, its_answer, follows, its_new, new_home, tables, new_numbers, itself, apply, numbers_on}
use Rattle.numbered_runs.proofs.Asks.{CallsWithin, SameEffect, effect_alike}
use Rattle.numbered_runs.proofs.Callees.{calls_within}
use Rattle.numbered_runs.proofs.Held.{new_hold_nothing, held_with, alone_after, next_is, freed_is}
use Rattle.numbered_runs.proofs.Holding.{Held, held_next, held_freed, held_same, held_after_alike, freed_alike}
use Rattle.numbered_runs.proofs.Lists.{get_in_front, pairwise_append, pairwise_length}
use Rattle.numbered_runs.proofs.Makes.{held_before, alike_later, objects_after, addresses_after}
use Rattle.numbered_runs.proofs.Naming.{objects_later, threads_later, thread_place}
use Rattle.numbered_runs.proofs.Objects.{threads_once, objects_once}
use Rattle.numbered_runs.proofs.Settled.{settled_alike}
use Rattle.numbered_runs.proofs.Starts.{insides_later, all_follow_later, new_kids, threads_after}
use Rattle.numbered_runs.proofs.Threads.{Tables}
use Rattle.numbered_runs.proofs.Turns.{SameTurn, SameHolding, Entered, Left, Stayed, one_call, turn_alike}
use Rattle.code_names.proofs.Values.{values_later}

-- ---- lists

get_appended : {A : Type 0} (xs ys : List A) (m : ℕ) (u : A) → slice_get (xs ++ ys) m ≡ Some u
    → (slice_get xs m ≡ Some u) ⊎ ((k : ℕ) × (length xs + k ≡ m) × (slice_get ys k ≡ Some u))
get_appended [] ys m u h = let e : 0 + m ≡ m = omega arith in inr (m, e, h)
get_appended (x ∷ xs) ys zero u h = inl h
get_appended (x ∷ xs) ys (suc m) u h = ⊎_elim
    (λ (a : slice_get xs m ≡ Some u). inl a)
    (λ (b : (k : ℕ) × (length xs + k ≡ m) × (slice_get ys k ≡ Some u)). let e : suc (length xs) + b.0 ≡ suc m = omega (arith, b.1) in inr (b.0, e, b.2))
    (get_appended xs ys m u h)

get_behind : {A : Type 0} (xs : List A) (y : A) (ys : List A) → slice_get (xs ++ y ∷ ys) (length xs) ≡ Some y
get_behind [] y ys = refl
get_behind (x ∷ xs) y ys = get_behind xs y ys

length_numbers_on : (i k : ℕ) (cs : List (Thread Address)) → length (numbers_on i k cs) ≡ length cs
length_numbers_on i k [] = refl
length_numbers_on i k (c ∷ cs) = ap suc (length_numbers_on i (suc k) cs)

holding_later : (n after : Numbers) → IsLater (is_object n) (is_object after) → (q : Ask Address) (a : Ask Name) → SameHolding n q a
    → SameHolding after q a
holding_later n after later q a (Entered f o vs u us is are alike) = Entered f o vs u us is are (alike_later n after later o u alike)
holding_later n after later q a (Left is are) = Left is are
holding_later n after later q a (Stayed mine its) = Stayed mine its

-- thread x, which is l, asks a and goes on; by numbers it is thread t, which is r, and asks q
module _ (p : Program) (w : Machine) (s : Config) (n : Numbers) (st : Stands p w s n) (t : ThreadNo) (x : Name) (r : Runner) (l : config.Thread)
    (named : IsThread n t x) (live : fin.get s.threads x ≡ Some (Live l)) (none : l.asked ≡ None) (same : SameLive n p w.code x r l)
    (line : ℕ) (a : Ask Name) (k : Answer Name → After Term) (asks : next p l.term ≡ Asks line a k)
    (q : Ask Address) (j : Answer Address → Then Address) (does : move w.code r.thread ≡ Does line q j) (alike : SameAsk (Told (is_object n)) q a)
    (vs : Values) (us : List Value) (met : needs.check_all (shapes p) s x l (needs.needs (shapes p) a) ≡ needs.Go us)
    (found : SameValues (Told (is_object n)) vs us) where
  -- ---- the step by names

  abbrev d : core.Effect
  d = core.effect (shapes p) x l a us

  abbrev c : Change
  c = steps.change p x s l a k us

  abbrev s' : Config
  s' = steps.apply p x c s

  abbrev after : Numbers
  after = numbers_after n c.new d.objects

  moves : steps.step p x s ≡ steps.Moves s'
  moves =
      ap (steps.act_state p x s) live
      ∙ (ap (λ (e : Next Value Term). steps.act p x s l e l.asked) asks
      ∙ (ap (steps.act p x s l (Asks line a k)) none ∙ ap (steps.decide p x s l line a k) met))

  pub numbers_are : numbers_step p x s n ≡ after
  numbers_are =
      ap (λ o. after_change n (changes p x s o)) live
      ∙ (ap (λ (e : Next Value Term). after_change n (of_next p x s l e l.asked)) asks
      ∙ (ap (λ o. after_change n (of_next p x s l (Asks line a k) o)) none ∙ ap (λ v. after_change n (of_verdict p x s l a k v)) met))

  run : IsNumbered p st.ints s' after
  run = subst (λ m. IsNumbered p st.ints s' m) numbers_are (goes_on x s n st.run moves)

  later : IsLater (is_object n) (is_object after)
  later = subst (λ m. IsLater (is_object n) (is_object m)) numbers_are (objects_later p x s s' n moves)

  more_threads : (u : ThreadNo) (y : Name) → IsThread n u y → IsThread after u y
  more_threads = subst (λ m. (u : ThreadNo) (y : Name) → IsThread n u y → IsThread m u y) numbers_are (threads_later p x s s' n moves)

  free : NamesAreFree s
  free = free_reached p st.ints s (reached p st.ints s n st.run)

  abbrev is_met : IsMet p x s s' n after
  is_met = record { l = l; live = live; ask = a; k = k; found = us; is = refl; numbers = refl }

  -- ---- the step by numbers is alike

  abbrev e : Effect
  e = its_effect w t r q j vs

  shapes_are : w.code.shapes ≡ shapes p
  shapes_are = ap (λ (b : Code). b.shapes) st.code

  stands : ProgramStands p w.code
  stands = subst (ProgramStands p) (sym st.code) (layout_stands p st.source)

  settles : (b : ℕ) → Settles w.code b
  settles = subst (λ (code : Code). (b : ℕ) → Settles code b) (sym st.code) (layout_settles p st.source)

  within : CallsWithin (length w.code.shapes.functions) q
  within =
      subst (λ (code : Code). move code r.thread ≡ Does line q j → CallsWithin (length code.shapes.functions) q) (sym st.code)
      (calls_within p st.source r.thread line q j) does

  effects : SameEffect p w.code s n e d
  effects = effect_alike p w s n st t x l named live r same.inside stands shapes_are vs us found q a alike within

  turn : SameTurn s n t.processor l q a
  turn = turn_alike p w s n st t x l named live q a alike

  all_free : AllFree (config.write_all s.objects d.writes) d.objects
  all_free =
      effect_free (shapes p) x l us (config.write_all s.objects d.writes) (own_free p x s s' n after free is_met)
      (copy_free p x s s' n after free is_met) a

  only : (i m : ℕ) (o : Name) → slice_get after.processors i ≡ Some o → slice_get after.processors m ≡ Some o → i ≡ m
  only = one_number p st.ints s' after run

  abbrev y : Answer Name
  y = core.answer l a d us

  numbers_alike : (h i m o : ℕ) → h ≡ m → i ≡ o → numbers h i ≡ numbers m o
  numbers_alike h i m o f g = ap (λ b. numbers b i) f ∙ ap (λ b. numbers m b) g

  answers : SameAnswer (Told (is_object after)) (its_answer w t r q j vs) y
  answers = record {
    values = pairwise_append (Alike after) _ vs (core.addresses d.objects) us
        (addresses_after p w s n st e d effects after later refl refl only all_free)
        (values_later (Told (is_object n)) (Told (is_object after)) later vs us found);
    made = numbers_alike (length r.kids) (branch_count q) l.threads (core.branch_count a) same.made turn.branches;
  }

  -- ---- the threads, where what follows the answer goes on alike

  module _ (goes : GoesOnAlike p w.code (is_object after) j k) where
    abbrev home : Name
    home = core.start_home s l a

    abbrev terms : List Term
    terms = d.starts ++ (k y).branches

    abbrev cs : List (Thread Address)
    cs = its_new w t r q j vs

    abbrev i : ℕ
    i = new_home w t r q j vs

    -- the thread after the step
    abbrev state : State
    state = steps.settle p c.thread

    goes_alike : Follows p w.code (is_object after) (follows w t r q j vs).left (k y).left
        × Pairwise (Follows p w.code (is_object after)) (follows w t r q j vs).branches (k y).branches
    goes_alike = goes (its_answer w t r q j vs) y answers

    all_follow : Pairwise (Follows p w.code (is_object after)) cs terms
    all_follow =
        pairwise_append (Follows p w.code (is_object after)) e.starts (follows w t r q j vs).branches d.starts (k y).branches
        (all_follow_later n after later p w.code e.starts d.starts effects.starts) goes_alike.1

    here : slice_get after.processors i ≡ Some home
    here = get_in_front n.processors (new_processors d.objects) home i turn.home

    new_are_free : AllFree (fin.insert s.threads x state) (steps.settle_all p c.new)
    new_are_free =
        threads_free p (fin.insert s.threads x state) x l.threads home (first_objects a) terms (new_free p x s s' n after free is_met)

    abbrev its_numbers : List ThreadNo
    its_numbers = new_numbers w t r q j vs

    kids_after : (m : ℕ) (u : ThreadNo) → slice_get its_numbers m ≡ Some u → IsThread after u ((l.threads + m) ∷ x)
    kids_after =
        new_kids p w s n st t x after later more_threads (new_processors d.objects) refl e.processors effects.processors (threads_once p st.ints s' after run) settles i
        (first_objects a) l.threads home here terms cs all_follow refl state new_are_free

    all_kids : (m : ℕ) (u : ThreadNo) → slice_get (r.kids ++ its_numbers) m ≡ Some u → IsThread after u (m ∷ x)
    all_kids m u at = ⊎_elim
        (λ (old : slice_get r.kids m ≡ Some u). more_threads u (m ∷ x) (same.kids m u old))
        (λ (new : (b : ℕ) × (length r.kids + b ≡ m) × (slice_get its_numbers b ≡ Some u)).
        let number : l.threads + new.0 ≡ m = ap (λ h. h + new.0) (sym same.made) ∙ new.1 in
        subst (λ h. IsThread after u (h ∷ x)) number (kids_after new.0 u new.2))
        (get_appended r.kids its_numbers m u at)

    many_kids : length (r.kids ++ its_numbers) ≡ l.threads + length c.new
    many_kids =
        let both : length (r.kids ++ its_numbers) ≡ length r.kids + length its_numbers = length-append r.kids its_numbers in
        let mine : length its_numbers ≡ length cs = length_numbers_on i _ cs in
        let its : length c.new ≡ length terms = length-new_threads x l.threads home (first_objects a) terms in
        let alike : length cs ≡ length terms = pairwise_length (Follows p w.code (is_object after)) cs terms all_follow in
        let before : length r.kids ≡ l.threads = same.made in
        omega (arith, both, mine, its, alike, before)

    -- ---- the thread itself: it stays at a remote call, or goes on

    abbrev first_new : ThreadNo
    first_new = record { processor = i; thread = made_in (tables w t r q j vs) i }

    -- the thread that was made for a call is the first of the new ones
    first_kid : is_call q ≡ true → slice_get (r.kids ++ its_numbers) l.threads ≡ Some first_new
    first_kid calls =
        let one = one_call w t.processor r vs q calls in
        let first : slice_get (r.kids ++ numbers_on i (made_in (tables w t r q j vs) i) (one.0 ∷ (follows w t r q j vs).branches)) (length r.kids) ≡ Some first_new =
        get_behind r.kids first_new (numbers_on i (suc (made_in (tables w t r q j vs) i)) (follows w t r q j vs).branches) in
        subst (λ m. slice_get (r.kids ++ its_numbers) m ≡ Some first_new) same.made
        (subst (λ starts. slice_get (r.kids ++ numbers_on i (made_in (tables w t r q j vs) i) (starts ++ (follows w t r q j vs).branches)) (length r.kids)
        ≡ Some first_new) (sym one.1) first)

    abbrev at_call : config.Thread
    at_call = grown l l.term (Some l.threads) c.new d

    abbrev going_on : config.Thread
    going_on = grown l (k y).left None c.new d

    stays : is_call q ≡ true → SameState after p w.code x (itself w t r q j vs true) (steps.settle p at_call)
    stays calls =
        subst (λ (b : Next Value Term). SameState after p w.code x (itself w t r q j vs true) (steps.settled b at_call)) (sym asks) (record {
          thread = later_stands p w.code (is_object n) (is_object after) later r.thread l.term same.thread;
          asks = same.asks;
          asked = first_kid calls;
          made = many_kids;
          kids = all_kids;
          inside = insides_later n after later e.inside d.inside effects.inside;
        })

    leaves_it : SameState after p w.code x (itself w t r q j vs false) (steps.settle p going_on)
    leaves_it =
        settled_alike p w.code settles after x
        (record { thread = (follows w t r q j vs).left; asked = None; kids = r.kids ++ its_numbers; inside = e.inside }) going_on
        (record { asked = tt; made = many_kids; kids = all_kids; inside = insides_later n after later e.inside d.inside effects.inside })
        goes_alike.0

    either : (b : Bool) → is_call q ≡ b
        → SameState after p w.code x (itself w t r q j vs b) (steps.settle p (if b then at_call else going_on))
    either true calls = stays calls
    either false calls = leaves_it

    state_alike : SameState after p w.code x (itself w t r q j vs (is_call q)) state
    state_alike =
        subst (λ b. SameState after p w.code x (itself w t r q j vs (is_call q)) (steps.settle p (if b then at_call else going_on))) turn.calls
        (either (is_call q) refl)

    threads_stand : Tables (IsThreadAt after p w.code s') after.processors after.threads (apply w t r q j vs).threads
    threads_stand =
        let place = thread_place after t x (more_threads t x named) in
        threads_after p w s n st t x after later more_threads (new_processors d.objects) refl e.processors effects.processors (threads_once p st.ints s' after run) settles i
        (first_objects a) l.threads home here terms cs all_follow refl state new_are_free place.0 place.1 place.2
        (itself w t r q j vs (is_call q)) state_alike

    -- ---- the objects

    abbrev before : Name → Bool
    before = held_before p w s n st e d effects after later refl refl only all_free

    abbrev Noted : (Name → Bool) → List Shelf → Type 0
    Noted = Held (shapes p) after s'.objects s'.slots_made (objects_once p st.ints s' after run)

    entered : Noted (held_next (shapes p) l.inside a before) (held_after w.code.shapes r.inside q (put_things (ground w t r q j vs) e.objects))
    entered =
        subst (λ h. Noted (held_next (shapes p) l.inside a before) (held_after h r.inside q (put_things (ground w t r q j vs) e.objects))) (sym shapes_are)
        (held_after_alike (shapes p) after s'.objects s'.slots_made (objects_once p st.ints s' after run) r.inside l.inside
        (insides_later n after later r.inside l.inside same.inside) before (put_things (ground w t r q j vs) e.objects)
        (objects_after p w s n st e d effects after later refl refl only all_free) q a (holding_later n after later q a turn.holding))

    ended : Noted (held_freed (shapes p) state d.inside (held_next (shapes p) l.inside a before)) (apply w t r q j vs).shelves
    ended =
        freed_alike (shapes p) after s'.objects s'.slots_made (objects_once p st.ints s' after run) e.inside d.inside
        (insides_later n after later e.inside d.inside effects.inside) (held_next (shapes p) l.inside a before)
        (held_after w.code.shapes r.inside q (put_things (ground w t r q j vs) e.objects)) entered p w.code shapes_are x
        (itself w t r q j vs (is_call q)) state state_alike

    one : HasOneHolder (shapes p) s
    one = one_holder p st.ints s (reached p st.ints s n st.run)

    once_inside : IsInsideOnce (shapes p) l.inside
    once_inside = once p st.ints s (reached p st.ints s n st.run) x l live

    either_inside : (b : Bool) → (if b then at_call else going_on).inside ≡ d.inside
    either_inside true = refl
    either_inside false = refl

    -- what is noted is so
    held_is : (o : Name) → held_freed (shapes p) state d.inside (held_next (shapes p) l.inside a before) o
        ≡ any_holds (shapes p) (Ptr o 0) (fin.values s'.threads)
    held_is o =
        freed_is (shapes p) s x l live one o p c.thread d.inside (either_inside (core.is_call a))
        (alone_after (shapes p) s x l live one o d.inside (inside_after (shapes p) s x l a us met)) (held_next (shapes p) l.inside a before)
        (next_is (shapes p) s x l live one o once_inside before refl a us)
        ∙ sym (new_hold_nothing (shapes p) (Ptr o 0) p x l.threads home (first_objects a) terms (fin.insert s.threads x state) new_are_free
        ∙ held_with (shapes p) (Ptr o 0) s.threads x state)

    shelves_stand : Noted (λ o. any_holds (shapes p) (Ptr o 0) (fin.values s'.threads)) (apply w t r q j vs).shelves
    shelves_stand =
        held_same (shapes p) after s'.objects s'.slots_made (objects_once p st.ints s' after run) (held_freed (shapes p) state d.inside (held_next (shapes p) l.inside a before))
        (λ o. any_holds (shapes p) (Ptr o 0) (fin.values s'.threads)) (apply w t r q j vs).shelves held_is ended

    stands_after : Stands p (apply w t r q j vs) s' after
    stands_after = record {
      source = st.source;
      code = st.code;
      ints = st.ints;
      run = run;
      output = ap (λ out. out ++ e.prints) st.output ∙ ap (λ out. s.output ++ out) effects.prints;
      processors = processors_are_counted p st.ints s' after run;
      threads = threads_stand;
      shelves = shelves_stand;
    }

-- the same at the numbers after the step
pub apply_stands : (p : Program) (w : Machine) (s : Config) (n : Numbers) → Stands p w s n → (t : ThreadNo) (x : Name) (r : Runner)
    (l : config.Thread) → IsThread n t x → fin.get s.threads x ≡ Some (Live l) → l.asked ≡ None → SameLive n p w.code x r l
    → (line : ℕ) (a : Ask Name) (k : Answer Name → After Term) → next p l.term ≡ Asks line a k
    → (q : Ask Address) (j : Answer Address → Then Address) → move w.code r.thread ≡ Does line q j → SameAsk (Told (is_object n)) q a
    → (vs : Values) (us : List Value) → check_all w t.processor r (machine.needs w.code.shapes q) ≡ Go vs
    → needs.check_all (shapes p) s x l (needs.needs (shapes p) a) ≡ needs.Go us → SameValues (Told (is_object n)) vs us
    → GoesOnAlike p w.code (is_object (numbers_step p x s n)) j k
    → Stands p (apply w t r q j vs) (steps.apply p x (steps.change p x s l a k us) s) (numbers_step p x s n)
apply_stands p w s n st t x r l named live none same line a k asks q j does alike vs us mine met found goes =
    let are = numbers_are p w s n st t x r l named live none same line a k asks q j does alike vs us met found in
    subst (λ m. Stands p (apply w t r q j vs) (steps.apply p x (steps.change p x s l a k us) s) m) (sym are)
    (stands_after p w s n st t x r l named live none same line a k asks q j does alike vs us met found
    (subst (λ m. GoesOnAlike p w.code (is_object m) j k) are goes))
