-- Each thread and each object is numbered on its own processor.
use Rattle.std.proofs.Common.{◌≡◌, ◌≢◌, ⊎_elim, ℕ, Bool, true, false, List, [], ◌∷◌, ◌++◌, length, Option, Some, None, refl, sym, ap, ◌∙◌, subst}
use Rattle.std.specs.Prelude.{ℤ, if◌then◌else◌}
use Rattle.std.specs.FinMap as fin
use Rattle.cc_ops.specs.Values.{Void, Int, Null, Ptr, Result, Gives, Fails}
use Rattle.cc_core.specs.Names.{Name, name_cmp, Map, Value, Cell, puts}
use Rattle.cc_core.specs.Core.{Term, Program, function, shapes}
use Rattle.cc_core.specs.Asks.{Ask, Answer}
use Rattle.cc_core.specs.Next.{Next, Ready, Asks, After, next, entered}
use Rattle.cc_core.specs.Config.{Config, Thread, State, Live, Ended, Object, put_cells, write_value, write_all}
use Rattle.cc_core.specs.Effects.{Effect, effect, answer, addresses, parameters, start_home, first_objects, is_call}
use Rattle.cc_core.specs.Laws.{NamesAreFree}
use Rattle.cc_core.specs.Numbers.{Numbers, listed, listing, list_threads, list_objects, first_numbers, numbers_step}
use Rattle.cc_core.specs.Steps.{Change, settled, settle, settle_all, new_threads, grown, changed, change, apply, start, ints}
use Rattle.cc_core.proofs.Maps.{cases_name, get_same, get_other}
use Rattle.cc_core.proofs.Fresh.{free_reached}
use Rattle.run_numbers.specs.RunNumbers.{IsNumbered, begins, goes_on, IsListed, AreNumbered}
use Rattle.run_numbers.proofs.Lists.{case, one_more, replaced, none_numbered, listed_empty}
use Rattle.run_numbers.proofs.Changes.{IsNumberedStep, Met, Joined, numbered_step}
use Rattle.run_numbers.proofs.Free.{AllFree, threads_free, effect_free, first_parameters_free, written_numbered}
use Rattle.run_numbers.proofs.Numbers.{new_free, own_free, copy_free, reached, threads_are_numbered, objects_are_numbered}

-- IsAt says on which processor a thing is
module _ {X : Type 0} (IsAt : X → Name → Type 0) where
  abbrev pub AtHome : Map (List Name) → Map X → Type 0
  AtHome lists things = (q : Name) (k : ℕ) (x : Name) (a : X) → IsListed lists q k x → fin.get things x ≡ Some a → IsAt a q

  some_same : (a b : X) → Some a ≡ Some b → a ≡ b
  some_same a b e = cc

  one_home : (lists : Map (List Name)) (things : Map X) (home x : Name) (a : X) → AtHome lists things → IsAt a home
      → fin.get things x ≡ None → ((q : Name) (k : ℕ) → IsListed lists q k x → ⊥)
      → AtHome (listing lists home x) (fin.insert things x a)
  one_home lists things home x a are at free unlisted q k y b h g = ⊎_elim
      (λ (o : IsListed lists q k y).
      let other : y ≢ x = λ e. unlisted q k (subst (λ (u : Name). IsListed lists q k u) e o) in
      are q k y b o (sym (get_other things x a y other) ∙ g))
      (λ (n : (q ≡ home) × (k ≡ length (listed lists home)) × (y ≡ x)).
      let same : a ≡ b = some_same a b (sym (get_same things x a) ∙ (sym (ap (fin.get (fin.insert things x a)) n.2) ∙ g)) in
      subst (λ (u : Name). IsAt b u) (sym n.0) (subst (λ (c : X). IsAt c home) same at))
      (case lists home x q k y h)

unlisted : {X : Type 0} (lists : Map (List Name)) (things : Map X) → AreNumbered lists things → (x : Name) → fin.get things x ≡ None
    → (q : Name) (k : ℕ) → IsListed lists q k x → ⊥
unlisted lists things are x free q k h =
    let there = are.named q k x h in
    let both : None ≡ Some there.0 = sym free ∙ there.1 in
    cc

-- ---- threads

abbrev ThreadAt : State → Name → Type 0
ThreadAt (Live l) q = l.home ≡ q
ThreadAt (Ended v) q = Unit {0}

settled_at : (p : Program) (l : Thread) → ThreadAt (settle p l) l.home
settled_at p l = from (next p l.term)
  where
    from : (n : Next Value Term) → ThreadAt (settled n l) l.home
    from (Ready v) = tt
    from (Asks line ask k) = refl

threads_home : (p : Program) (es : List (Name × Thread)) (lists : Map (List Name)) (things : Map State) → AreNumbered lists things
    → AllFree things (settle_all p es) → AtHome ThreadAt lists things → AtHome ThreadAt (list_threads lists es) (puts (settle_all p es) things)
threads_home p [] lists things are free at = at
threads_home p (e ∷ es) lists things are free at =
    threads_home p es (listing lists e.1.home e.0) (fin.insert things e.0 (settle p e.1))
    (one_more lists e.1.home e.0 things are (settle p e.1) free.0) free.1
    (one_home ThreadAt lists things e.1.home e.0 (settle p e.1) at (settled_at p e.1) free.0 (unlisted lists things are e.0 free.0))

-- a thread goes on where it is
stays_home : (lists : Map (List Name)) (things : Map State) (t : Name) (l : Thread) (after : State) → fin.get things t ≡ Some (Live l)
    → ThreadAt after l.home → AtHome ThreadAt lists things → AtHome ThreadAt lists (fin.insert things t after)
stays_home lists things t l after live there at q k y b h g = ⊎_elim
    (λ (e : y ≡ t).
    let same : after ≡ b = some_same ThreadAt after b (sym (get_same things t after) ∙ (sym (ap (fin.get (fin.insert things t after)) e) ∙ g)) in
    let home : l.home ≡ q = at q k t (Live l) (subst (λ (u : Name). IsListed lists q k u) e h) live in
    subst (λ (c : State). ThreadAt c q) same (subst (λ (u : Name). ThreadAt after u) home there))
    (λ (ne : y ≢ t). at q k y b h (sym (get_other things t after y ne) ∙ g))
    (cases_name y t)

-- ---- objects

abbrev ObjectAt : Object → Name → Type 0
ObjectAt b q = b.home ≡ q

objects_home : (es : List (Name × Object)) (lists : Map (List Name)) (things : Map Object) → AreNumbered lists things → AllFree things es
    → AtHome ObjectAt lists things → AtHome ObjectAt (list_objects lists es) (puts es things)
objects_home [] lists things are free at = at
objects_home (e ∷ es) lists things are free at =
    objects_home es (listing lists e.1.home e.0) (fin.insert things e.0 e.1) (one_more lists e.1.home e.0 things are e.1 free.0) free.1
    (one_home ObjectAt lists things e.1.home e.0 e.1 at refl free.0 (unlisted lists things are e.0 free.0))

put_home : (m : Map Object) (lists : Map (List Name)) (o : Name) (x : Option Object) (cells : Result (List Cell)) → fin.get m o ≡ x
    → AtHome ObjectAt lists m → AtHome ObjectAt lists (put_cells m o x cells)
put_home m lists o None cells is at = at
put_home m lists o (Some x) (Fails kind) is at = at
put_home m lists o (Some x) (Gives cells) is at =
    let new : Object = record { home = x.home; cells = cells } in
    λ q k y b h g. ⊎_elim
    (λ (e : y ≡ o).
    let same : new ≡ b = some_same ObjectAt new b (sym (get_same m o new) ∙ (sym (ap (fin.get (fin.insert m o new)) e) ∙ g)) in
    let home : x.home ≡ q = at q k o x (subst (λ (u : Name). IsListed lists q k u) e h) is in
    subst (λ (c : Object). c.home ≡ q) same home)
    (λ (ne : y ≢ o). at q k y b h (sym (get_other m o new y ne) ∙ g))
    (cases_name y o)

write_home : (m : Map Object) (lists : Map (List Name)) (to v : Value) → AtHome ObjectAt lists m → AtHome ObjectAt lists (write_value m to v)
write_home m lists Void v at = at
write_home m lists (Int n) v at = at
write_home m lists Null v at = at
write_home m lists (Ptr o x) v at = put_home m lists o (fin.get m o) _ refl at

writes_home : (ws : List (Value × Value)) (m : Map Object) (lists : Map (List Name)) → AtHome ObjectAt lists m
    → AtHome ObjectAt lists (write_all m ws)
writes_home [] m lists at = at
writes_home (w ∷ ws) m lists at = writes_home ws (write_value m w.0 w.1) lists (write_home m lists w.0 w.1 at)

-- ---- steps

either_home : (b : Bool) (u v : Thread) (q : Name) → u.home ≡ q → v.home ≡ q → (if b then u else v).home ≡ q
either_home true u v q h g = h
either_home false u v q h g = g

changed_home : (t : Name) (l : Thread) (ask : Ask Name) (x : After Term) (q : Name) (e : Effect) → (changed t l ask x q e).thread.home ≡ l.home
changed_home t l ask x q e =
    let new = new_threads t l.threads q (first_objects ask) (e.starts ++ x.branches) in
    either_home (is_call ask) (grown l l.term (Some l.threads) new e) (grown l x.left None new e) l.home refl refl

met_home : (p : Program) (t : Name) (s : Config) (l : Thread) (ask : Ask Name) (k : Answer Name → After Term) (found : List Value)
    → (change p t s l ask k found).thread.home ≡ l.home
met_home p t s l ask k found =
    let e = effect (shapes p) t l ask found in
    changed_home t l ask (k (answer l ask e found)) (start_home s l ask) e

module _ (p : Program) (t : Name) (s r : Config) (n after : Numbers) (free : NamesAreFree s) where
  step_threads_home : IsNumberedStep p t s r n after → AreNumbered n.threads s.threads → AtHome ThreadAt n.threads s.threads
      → AtHome ThreadAt after.threads r.threads
  step_threads_home (Met m) are at =
      let c : Change = change p t s m.l m.ask m.k m.found in
      let things : Map State = fin.insert s.threads t (settle p c.thread) in
      let base : AreNumbered n.threads things = replaced n.threads s.threads are t (Live m.l) (settle p c.thread) m.live in
      let home : c.thread.home ≡ m.l.home = met_home p t s m.l m.ask m.k m.found in
      let there : ThreadAt (settle p c.thread) m.l.home = subst (λ (u : Name). ThreadAt (settle p c.thread) u) home (settled_at p c.thread) in
      let kept : AtHome ThreadAt n.threads things = stays_home n.threads s.threads t m.l (settle p c.thread) m.live there at in
      let all : AtHome ThreadAt (list_threads n.threads c.new) (apply p t c s).threads =
      threads_home p c.new n.threads things base
      (threads_free p things t m.l.threads _ _ _ (new_free p t s r n after free m)) kept in
      subst (λ (a : Numbers). AtHome ThreadAt a.threads r.threads) (sym m.numbers)
      (subst (λ (d : Config). AtHome ThreadAt (list_threads n.threads c.new) d.threads) (sym m.is) all)
  step_threads_home (Joined m) are at =
      let there : ThreadAt (settle p m.thread) m.l.home = subst (λ (u : Name). ThreadAt (settle p m.thread) u) m.home (settled_at p m.thread) in
      let all : AtHome ThreadAt n.threads (fin.insert s.threads t (settle p m.thread)) =
      stays_home n.threads s.threads t m.l (settle p m.thread) m.live there at in
      subst (λ (a : Numbers). AtHome ThreadAt a.threads r.threads) (sym m.numbers)
      (subst (λ (d : Config). AtHome ThreadAt n.threads d.threads) (sym m.is) all)

  step_objects_home : IsNumberedStep p t s r n after → AreNumbered n.objects s.objects → AtHome ObjectAt n.objects s.objects
      → AtHome ObjectAt after.objects r.objects
  step_objects_home (Met m) are at =
      let c : Change = change p t s m.l m.ask m.k m.found in
      let things : Map Object = write_all s.objects c.effect.writes in
      let base : AreNumbered n.objects things = written_numbered c.effect.writes n.objects s.objects are in
      let all : AtHome ObjectAt (list_objects n.objects c.effect.objects) (apply p t c s).objects =
      objects_home c.effect.objects n.objects things base
      (effect_free (shapes p) t m.l m.found things (own_free p t s r n after free m) (copy_free p t s r n after free m) m.ask)
      (writes_home c.effect.writes s.objects n.objects at) in
      subst (λ (a : Numbers). AtHome ObjectAt a.objects r.objects) (sym m.numbers)
      (subst (λ (d : Config). AtHome ObjectAt (list_objects n.objects c.effect.objects) d.objects) (sym m.is) all)
  step_objects_home (Joined m) are at =
      subst (λ (a : Numbers). AtHome ObjectAt a.objects r.objects) (sym m.numbers)
      (subst (λ (d : Config). AtHome ObjectAt n.objects d.objects) (sym m.is) at)

-- ---- runs

nowhere : {X : Type 0} (IsAt : X → Name → Type 0) → AtHome IsAt fin.empty fin.empty
nowhere {X} IsAt = λ q k x a h g. absurd (unlisted {X = X} fin.empty fin.empty none_numbered x (fin.get-empty name_cmp x) q k h)

module _ (p : Program) (ns : List ℤ) where
  abbrev first_made : List (Name × Object)
  first_made = parameters [] 0 [] (function p p.main).shape.params (ints ns)

  -- the thread of main, as it begins
  abbrev first : Thread
  first = record {
    home = [];
    term = entered p p.main Void (addresses first_made);
    asked = None;
    threads = 0;
    objects = length first_made;
    inside = (p.main, Void) ∷ [];
  }

  first_threads_home : AtHome ThreadAt (first_numbers p ns).threads (start p ns).threads
  first_threads_home =
      let one : AtHome ThreadAt (listing fin.empty [] []) (start p ns).threads =
      one_home ThreadAt fin.empty fin.empty [] [] (settle p first) (nowhere ThreadAt) (settled_at p first) (fin.get-empty name_cmp [])
      (unlisted {X = State} fin.empty fin.empty none_numbered [] (fin.get-empty name_cmp [])) in
      subst (λ (us : List Name). AtHome ThreadAt (fin.insert fin.empty [] (us ++ [] ∷ [])) (start p ns).threads) (listed_empty []) one

  first_objects_home : AtHome ObjectAt (first_numbers p ns).objects (start p ns).objects
  first_objects_home =
      objects_home first_made fin.empty fin.empty none_numbered (first_parameters_free [] [] (function p p.main).shape.params (ints ns)) (nowhere ObjectAt)

  threads_at_home : (s : Config) (n : Numbers) → IsNumbered p ns s n → AtHome ThreadAt n.threads s.threads
  threads_at_home s n begins = first_threads_home
  threads_at_home r n' (goes_on t s n h e) =
      step_threads_home p t s r n (numbers_step p t s n) (free_reached p ns s (reached p ns s n h)) (numbered_step p t s r n e)
      (threads_are_numbered p ns s n h) (threads_at_home s n h)

  objects_at_home : (s : Config) (n : Numbers) → IsNumbered p ns s n → AtHome ObjectAt n.objects s.objects
  objects_at_home s n begins = first_objects_home
  objects_at_home r n' (goes_on t s n h e) =
      step_objects_home p t s r n (numbers_step p t s n) (free_reached p ns s (reached p ns s n h)) (numbered_step p t s r n e)
      (objects_are_numbered p ns s n h) (objects_at_home s n h)

  pub live_at_home : (s : Config) (n : Numbers) → IsNumbered p ns s n → (q : Name) (k : ℕ) (x : Name) (l : Thread)
      → IsListed n.threads q k x → fin.get s.threads x ≡ Some (Live l) → l.home ≡ q
  live_at_home s n h q k x l at there = threads_at_home s n h q k x (Live l) at there

  pub made_at_home : (s : Config) (n : Numbers) → IsNumbered p ns s n → (q : Name) (k : ℕ) (o : Name) (b : Object)
      → IsListed n.objects q k o → fin.get s.objects o ≡ Some b → b.home ≡ q
  made_at_home s n h q k o b at there = objects_at_home s n h q k o b at there
