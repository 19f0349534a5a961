-- A run numbers its processors one to one, and all that there is is on one of them.
use Rattle.std.proofs.Common.{◌≡◌, ◌≢◌, inl, inr, ⊎_elim, ℕ, zero, suc, ◌+◌, Bool, true, false, List, [], ◌∷◌, ◌++◌, length, drop, Option, Some, None, refl, sym, ap, ◌∙◌, subst, append-nil, arith}
use Rattle.std.proofs.lemmas.Bool.{cases_Bool}
use Rattle.std.proofs.lemmas.List.{length_push}
use Rattle.std.specs.Prelude.{slice_get, if◌then◌else◌, ℤ}
use Rattle.std.specs.FinMap as fin
use Rattle.cc_ops.specs.Values.{Void, Int, Null, Ptr}
use Rattle.cc_ops.specs.declared.kind.Kind.{Kind}
use Rattle.cc_core.specs.Names.{Name, same_name, Map, Value, Cell}
use Rattle.cc_core.specs.Core.{Program, Shapes, Term, function, shapes}
use Rattle.cc_core.specs.Asks.{Ask, Makes, MakesWith, Builds, Enters, ForksOne, Calls, Casts, NewProcessor}
use Rattle.cc_core.specs.Config.{Config, Thread, Live, Object, home, home_of, write_all}
use Rattle.cc_core.specs.Effects.{Effect, effect, answer, parameters, start_home, first_objects}
use Rattle.cc_core.specs.Laws.{NamesAreFree}
use Rattle.cc_core.specs.Numbers.{Numbers, listed, listing, list_threads, list_objects, new_processors, first_numbers, numbers_step}
use Rattle.cc_core.specs.Steps.{Change, Moves, change, new_threads, step, start, ints}
use Rattle.cc_core.proofs.NameLaws.{told_same, told_itself}
use Rattle.cc_core.proofs.Maps.{get_same, IsKey, puts_key}
use Rattle.cc_core.proofs.Fresh.{IsNewObject, Own, Copy, new_object_is, free_reached}
use Rattle.run_numbers.specs.RunNumbers.{IsNumbered, begins, goes_on, IsListed, AreNumbered}
use Rattle.run_numbers.proofs.Lists.{names_in, pushed_case, pushed_old, pushed_new, case, listed_empty}
use Rattle.run_numbers.proofs.Changes.{IsMet, IsJoined, IsNumberedStep, Met, Joined, numbered_step}
use Rattle.run_numbers.proofs.Numbers.{reached, threads_are_numbered, objects_are_numbered, threads_stay_numbered, objects_stay_numbered}
use Rattle.run_numbers.proofs.Homes.{live_at_home, made_at_home}

-- ---- names

told_other : (a b : Name) → a ≢ b → same_name a b ≡ false
told_other a b ne = ⊎_elim
    (λ (e : same_name a b ≡ true). absurd (ne (told_same a b e)))
    (λ (e : same_name a b ≡ false). e)
    (cases_Bool (same_name a b))

not_root : (k : ℕ) (t : Name) → k ∷ t ≢ []
not_root k t e = cc

-- ---- the objects that a step makes, and where

abbrev AllAt : Name → List (Name × Object) → Type 0
AllAt q [] = Unit {0}
AllAt q (e ∷ es) = (e.1.home ≡ q) × AllAt q es

-- all on processor q; or one, x, on a processor of its own
data IsMade (x q : Name) (e : Effect) : Type 0 where
  Here : AllAt q e.objects → e.processors ≡ 0 → IsMade x q e
  Apart : (cells : List Cell) → e.objects ≡ (x, record { home = x; cells = cells }) ∷ [] → e.processors ≡ 1 → IsMade x q e

parameters_at : (t : Name) (k : ℕ) (q : Name) (kinds : List (List Kind)) (vs : List Value) → AllAt q (parameters t k q kinds vs)
parameters_at t k q [] vs = tt
parameters_at t k q (ks ∷ more) vs = (refl, parameters_at t (suc k) q more (drop (length ks) vs))

is_made : (h : Shapes) (t : Name) (l : Thread) (ask : Ask Name) (found : List Value) → IsMade (l.objects ∷ t) l.home (effect h t l ask found)
is_made h t l (Makes kind n) found = Here (refl, tt) refl
is_made h t l (MakesWith kind v) found = Here (refl, tt) refl
is_made h t l (Builds c vs) found = Here (refl, tt) refl
is_made h t l (Enters f this vs) found = Here (parameters_at t l.objects l.home _ vs) refl
is_made h t l (ForksOne v) found = Here (refl, tt) refl
is_made h t l (NewProcessor c vs) found = Apart _ refl refl
is_made h t l ask found = Here tt refl

no_new_processors : (q : Name) (es : List (Name × Object)) → AllAt q es → ((o : Name) → IsKey o es → o ≢ q) → new_processors es ≡ []
no_new_processors q [] at other = refl
no_new_processors q (e ∷ es) at other =
    ap (λ (b : Bool). if b then e.0 ∷ new_processors es else new_processors es)
    (ap (same_name e.0) at.0 ∙ told_other e.0 q (other e.0 (inl refl)))
    ∙ no_new_processors q es at.1 (λ o k. other o (inr k))

one_new_processor : (x : Name) (cells : List Cell) → new_processors ((x, record { home = x; cells = cells }) ∷ []) ≡ x ∷ []
one_new_processor x cells = ap (λ (b : Bool). if b then x ∷ [] else []) (told_itself x)

-- ---- the processors of a run

abbrev IsIn : List Name → Name → Type 0
IsIn processors q = (k : ℕ) × (slice_get processors k ≡ Some q)

-- each list is that of a processor
abbrev AreIn : List Name → Map (List Name) → Type 0
AreIn processors lists = (q : Name) (k : ℕ) (x : Name) → IsListed lists q k x → IsIn processors q

-- the names of so many processors, the root first, where these objects are made
record AreProcessors (processors : List Name) (objects : Map Object) (many : ℕ) : Type 0 where
  root : slice_get processors 0 ≡ Some []
  founded : (k : ℕ) (q : Name) → slice_get processors k ≡ Some q → q ≢ [] → (b : Object) × (fin.get objects q ≡ Some b)
  once : (j k : ℕ) (q : Name) → slice_get processors j ≡ Some q → slice_get processors k ≡ Some q → j ≡ k
  counted : many ≡ length processors

abbrev Persist : Map Object → Map Object → Type 0
Persist before after = (q : Name) (a : Object) → fin.get before q ≡ Some a → (b : Object) × (fin.get after q ≡ Some b)

processors_kept : (processors : List Name) (before after : Map Object) (many : ℕ) → Persist before after
    → AreProcessors processors before many → AreProcessors processors after many
processors_kept processors before after many persist are = record {
  root = are.root;
  founded = λ k q h ne. let b = are.founded k q h ne in persist q b.0 b.1;
  once = are.once;
  counted = are.counted;
}

module _ (processors : List Name) (x : Name) where
  more_in : (q : Name) → IsIn processors q → IsIn (processors ++ x ∷ []) q
  more_in q h = (h.0, pushed_old processors (x ∷ []) q h.0 h.1)

  one_processor_more : (before after : Map Object) (many : ℕ) → Persist before after → ¬ IsIn processors x
      → (b : Object) × (fin.get after x ≡ Some b) → AreProcessors processors before many
      → AreProcessors (processors ++ x ∷ []) after (many + 1)
  one_processor_more before after many persist new made are = record {
    root = pushed_old processors (x ∷ []) [] 0 are.root;
    founded = λ k q h ne. ⊎_elim
        (λ (o : slice_get processors k ≡ Some q). let b = are.founded k q o ne in persist q b.0 b.1)
        (λ (b : (k ≡ length processors) × (q ≡ x)). subst (λ (u : Name). (c : Object) × (fin.get after u ≡ Some c)) (sym b.1) made)
        (pushed_case processors x q k h);
    once = λ j k q h g. ⊎_elim
        (λ (o : slice_get processors j ≡ Some q). ⊎_elim
        (λ (u : slice_get processors k ≡ Some q). are.once j k q o u)
        (λ (b : (k ≡ length processors) × (q ≡ x)). absurd (new (j, o ∙ ap (λ (u : Name). Some u) b.1)))
        (pushed_case processors x q k g))
        (λ (b : (j ≡ length processors) × (q ≡ x)). ⊎_elim
        (λ (u : slice_get processors k ≡ Some q). absurd (new (k, u ∙ ap (λ (u : Name). Some u) b.1)))
        (λ (c : (k ≡ length processors) × (q ≡ x)). b.0 ∙ sym c.0)
        (pushed_case processors x q k g))
        (pushed_case processors x q j h);
    counted = ap (λ (k : ℕ). k + 1) are.counted ∙ sym (length_push processors x);
  }

one_in : (processors : List Name) (lists : Map (List Name)) (q x : Name) → AreIn processors lists → IsIn processors q
    → AreIn processors (listing lists q x)
one_in processors lists q x are there r k y h = ⊎_elim
    (λ (o : IsListed lists r k y). are r k y o)
    (λ (b : (r ≡ q) × (k ≡ length (listed lists q)) × (y ≡ x)). subst (λ (u : Name). IsIn processors u) (sym b.0) there)
    (case lists q x r k y h)

threads_in : (processors : List Name) (lists : Map (List Name)) (t : Name) (k : ℕ) (q : Name) (own : ℕ) (terms : List Term)
    → AreIn processors lists → IsIn processors q → AreIn processors (list_threads lists (new_threads t k q own terms))
threads_in processors lists t k q own [] are there = are
threads_in processors lists t k q own (term ∷ terms) are there =
    threads_in processors (listing lists q (k ∷ t)) t (suc k) q own terms (one_in processors lists q (k ∷ t) are there) there

objects_in : (processors : List Name) (lists : Map (List Name)) (q : Name) (es : List (Name × Object)) → AllAt q es
    → AreIn processors lists → IsIn processors q → AreIn processors (list_objects lists es)
objects_in processors lists q [] at are there = are
objects_in processors lists q (e ∷ es) at are there =
    objects_in processors (listing lists e.1.home e.0) q es at.1
    (one_in processors lists e.1.home e.0 are (subst (λ (u : Name). IsIn processors u) (sym at.0) there)) there

-- all threads and objects are on the processors
record AllIsHoused (s : Config) (n : Numbers) : Type 0 where
  are : AreProcessors n.processors s.objects s.processors
  threads : AreIn n.processors n.threads
  objects : AreIn n.processors n.objects

-- ---- a step

module _ (p : Program) (t : Name) (s r : Config) (n after : Numbers) (free : NamesAreFree s) (all : AllIsHoused s n)
    (threads : AreNumbered n.threads s.threads) (objects : AreNumbered n.objects s.objects)
    (threads_home : (q : Name) (k : ℕ) (x : Name) (l : Thread) → IsListed n.threads q k x → fin.get s.threads x ≡ Some (Live l) → l.home ≡ q)
    (objects_home : (q : Name) (k : ℕ) (o : Name) (b : Object) → IsListed n.objects q k o → fin.get s.objects o ≡ Some b → b.home ≡ q)
    (persist : Persist s.objects r.objects) where
  object_home : (o : Option Object) → ((b : Object) → o ≡ Some b → IsIn n.processors b.home) → IsIn n.processors (home_of o)
  object_home None at = (0, all.are.root)
  object_home (Some b) at = at b refl

  home_in : (v : Value) → IsIn n.processors (home s v)
  home_in Void = (0, all.are.root)
  home_in (Int k) = (0, all.are.root)
  home_in Null = (0, all.are.root)
  home_in (Ptr o x) = object_home (fin.get s.objects o) (λ b h.
      let w = objects.numbered o b h in
      subst (λ (u : Name). IsIn n.processors u) (sym (objects_home w.0 w.1 o b w.2 h)) (all.objects w.0 w.1 o w.2))

  thread_home : (l : Thread) → fin.get s.threads t ≡ Some (Live l) → IsIn n.processors l.home
  thread_home l live =
      let w = threads.numbered t (Live l) live in
      subst (λ (u : Name). IsIn n.processors u) (sym (threads_home w.0 w.1 t l w.2 live)) (all.threads w.0 w.1 t w.2)

  start_in : (l : Thread) (ask : Ask Name) → IsIn n.processors l.home → IsIn n.processors (start_home s l ask)
  start_in l (Calls f o vs) own = home_in o
  start_in l (Casts f o vs) own = home_in o
  start_in l ask own = own

  -- the name of an object that is made is that of no processor
  no_processor : (o : Name) → fin.get s.objects o ≡ None → o ≢ [] → ¬ IsIn n.processors o
  no_processor o none ne there =
      let b = all.are.founded there.0 o there.1 ne in
      let both : None ≡ Some b.0 = sym none ∙ b.1 in
      cc

  module _ (m : IsMet p t s r n after) where
    abbrev made : Change
    made = change p t s m.l m.ask m.k m.found

    new_object : (o : Name) → IsNewObject t m.l m.ask made.effect.own o → ¬ IsIn n.processors o
    new_object o (Own i) = no_processor o
        (subst (λ (u : Name). fin.get s.objects u ≡ None) (sym i.named) (free.objects t m.l m.live i.number i.low))
        (λ e. not_root i.number t (sym i.named ∙ e))
    new_object o (Copy c) = no_processor o
        (subst (λ (u : Name). fin.get s.objects u ≡ None) (sym c.named)
        (free.no_objects (m.l.threads ∷ t) (free.threads t m.l m.live m.l.threads (omega arith)) 0))
        (λ e. not_root 0 (m.l.threads ∷ t) (sym c.named ∙ e))

    not_numbered : (o : Name) → IsKey o made.effect.objects → ¬ IsIn n.processors o
    not_numbered o key = new_object o (new_object_is (shapes p) t m.l m.ask m.found o key)

    own_home : IsIn n.processors m.l.home
    own_home = thread_home m.l m.live

    processors_are : after.processors ≡ n.processors ++ new_processors made.effect.objects
    processors_are = ap (λ (a : Numbers). a.processors) m.numbers

    many_are : r.processors ≡ s.processors + made.effect.processors
    many_are = ap (λ (c : Config). c.processors) m.is

    threads_are : (ps : List Name) → ((q : Name) → IsIn n.processors q → IsIn ps q) → AreIn ps after.threads
    threads_are ps more =
        subst (λ (a : Numbers). AreIn ps a.threads) (sym m.numbers)
        (threads_in ps n.threads t m.l.threads (start_home s m.l m.ask) (first_objects m.ask)
        (made.effect.starts ++ (m.k (answer m.l m.ask made.effect m.found)).branches)
        (λ q k x h. more q (all.threads q k x h)) (more (start_home s m.l m.ask) (start_in m.l m.ask own_home)))

    met_housed : IsMade (m.l.objects ∷ t) m.l.home made.effect → AllIsHoused r after
    met_housed (Here at none) =
        let same : after.processors ≡ n.processors =
        processors_are ∙ (ap (λ (ps : List Name). n.processors ++ ps) (no_new_processors m.l.home made.effect.objects at other) ∙ append-nil n.processors) in
        let many : r.processors ≡ s.processors = omega (arith, many_are, none) in
        record {
          are = subst (λ (ps : List Name). AreProcessors ps r.objects r.processors) (sym same)
              (subst (λ (k : ℕ). AreProcessors n.processors r.objects k) (sym many)
              (processors_kept n.processors s.objects r.objects s.processors persist all.are));
          threads = subst (λ (ps : List Name). AreIn ps after.threads) (sym same) (threads_are n.processors (λ q h. h));
          objects = subst (λ (ps : List Name). AreIn ps after.objects) (sym same)
              (subst (λ (a : Numbers). AreIn n.processors a.objects) (sym m.numbers)
              (objects_in n.processors n.objects m.l.home made.effect.objects at all.objects own_home));
        }
      where
        other : (o : Name) → IsKey o made.effect.objects → o ≢ m.l.home
        other o key e = not_numbered o key (subst (λ (u : Name). IsIn n.processors u) (sym e) own_home)
    met_housed (Apart cells is one) =
        let x : Name = m.l.objects ∷ t in
        let ps : List Name = n.processors ++ x ∷ [] in
        let b : Object = record { home = x; cells = cells } in
        let more : after.processors ≡ ps =
        processors_are ∙ ap (λ (qs : List Name). n.processors ++ qs) (ap (λ (es : List (Name × Object)). new_processors es) is ∙ one_new_processor x cells) in
        let many : r.processors ≡ s.processors + 1 = omega (arith, many_are, one) in
        let key : IsKey x made.effect.objects = subst (λ (es : List (Name × Object)). IsKey x es) (sym is) (inl refl) in
        let put = puts_key made.effect.objects (write_all s.objects made.effect.writes) x key in
        let there : (c : Object) × (fin.get r.objects x ≡ Some c) = (put.0, ap (λ (c : Config). fin.get c.objects x) m.is ∙ put.2) in
        let older : AreIn ps n.objects = λ q k o h. more_in n.processors x q (all.objects q k o h) in
        let newest : IsIn ps x = (length n.processors, pushed_new n.processors x) in
        record {
          are = subst (λ (qs : List Name). AreProcessors qs r.objects r.processors) (sym more)
              (subst (λ (k : ℕ). AreProcessors ps r.objects k) (sym many)
              (one_processor_more n.processors x s.objects r.objects s.processors persist (not_numbered x key) there all.are));
          threads = subst (λ (qs : List Name). AreIn qs after.threads) (sym more) (threads_are ps (more_in n.processors x));
          objects = subst (λ (qs : List Name). AreIn qs after.objects) (sym more)
              (subst (λ (a : Numbers). AreIn ps a.objects) (sym m.numbers)
              (subst (λ (es : List (Name × Object)). AreIn ps (list_objects n.objects es)) (sym is) (one_in ps n.objects x x older newest)));
        }

  joined_housed : IsJoined p t s r n after → AllIsHoused r after
  joined_housed m =
      subst (λ (a : Numbers). AllIsHoused r a) (sym m.numbers)
      (subst (λ (c : Config). AllIsHoused c n) (sym m.is) (record { are = all.are; threads = all.threads; objects = all.objects }))

  step_housed : IsNumberedStep p t s r n after → AllIsHoused r after
  step_housed (Met m) = met_housed m (is_made (shapes p) t m.l m.ask m.found)
  step_housed (Joined m) = joined_housed m

-- ---- runs

parameters_not_root : (t : Name) (k : ℕ) (q : Name) (kinds : List (List Kind)) (vs : List Value) (o : Name) → IsKey o (parameters t k q kinds vs)
    → o ≢ []
parameters_not_root t k q [] vs o h = absurd h
parameters_not_root t k q (ks ∷ more) vs o h = ⊎_elim
    (λ (a : o ≡ k ∷ t). λ e. not_root k t (sym a ∙ e))
    (λ (b : IsKey o (parameters t (suc k) q more (drop (length ks) vs))). parameters_not_root t (suc k) q more (drop (length ks) vs) o b)
    h

nothing_in : (processors : List Name) → AreIn processors fin.empty
nothing_in processors q k x h = let f : None ≡ Some x = sym (ap (λ (us : List Name). slice_get us k) (listed_empty q)) ∙ h in cc

root_alone : (objects : Map Object) → AreProcessors ([] ∷ []) objects 1
root_alone objects = record {
  root = refl;
  founded = λ k q h ne. absurd (ne (only k q h).1);
  once = λ j k q h g. (only j q h).0 ∙ sym (only k q g).0;
  counted = refl;
}
  where
    only : (k : ℕ) (q : Name) → slice_get ([] ∷ []) k ≡ Some q → (k ≡ 0) × (q ≡ [])
    only zero q h = let e : q ≡ [] = cc in (refl, e)
    only (suc k) q h = let f : None ≡ Some q = h in cc

module _ (p : Program) (ns : List ℤ) where
  abbrev first_made : List (Name × Object)
  first_made = parameters [] 0 [] (function p p.main).shape.params (ints ns)

  first_housed : AllIsHoused (start p ns) (first_numbers p ns)
  first_housed =
      let kinds : List (List Kind) = (function p p.main).shape.params in
      let at : AllAt [] first_made = parameters_at [] 0 [] kinds (ints ns) in
      let none : new_processors first_made ≡ [] = no_new_processors [] first_made at (parameters_not_root [] 0 [] kinds (ints ns)) in
      let same : (first_numbers p ns).processors ≡ [] ∷ [] = ap (λ (qs : List Name). [] ∷ qs) none in
      let root : IsIn ([] ∷ []) [] = (0, refl) in
      record {
        are = subst (λ (qs : List Name). AreProcessors qs (start p ns).objects 1) (sym same) (root_alone (start p ns).objects);
        threads = subst (λ (qs : List Name). AreIn qs (first_numbers p ns).threads) (sym same)
            (subst (λ (us : List Name). AreIn ([] ∷ []) (fin.insert fin.empty [] (us ++ [] ∷ []))) (listed_empty [])
            (one_in ([] ∷ []) fin.empty [] [] (nothing_in ([] ∷ [])) root));
        objects = subst (λ (qs : List Name). AreIn qs (first_numbers p ns).objects) (sym same)
            (objects_in ([] ∷ []) fin.empty [] first_made at (nothing_in ([] ∷ [])) root);
      }

  all_is_housed : (s : Config) (n : Numbers) → IsNumbered p ns s n → AllIsHoused s n
  all_is_housed s n begins = first_housed
  all_is_housed r n' (goes_on t s n h e) =
      let after : Numbers = numbers_step p t s n in
      let objects : AreNumbered n.objects s.objects = objects_are_numbered p ns s n h in
      let later : AreNumbered after.objects r.objects = objects_are_numbered p ns r after (goes_on t s n h e) in
      let persist : Persist s.objects r.objects = λ q a there.
      let w = objects.numbered q a there in
      later.named w.0 w.1 q (objects_stay_numbered p t s r n e w.0 w.1 q w.2) in
      step_housed p t s r n after (free_reached p ns s (reached p ns s n h)) (all_is_housed s n h) (threads_are_numbered p ns s n h) objects
      (live_at_home p ns s n h) (made_at_home p ns s n h) persist (numbered_step p t s r n e)

  module _ (s : Config) (n : Numbers) (h : IsNumbered p ns s n) where
    pub one_number : (j k : ℕ) (q : Name) → slice_get n.processors j ≡ Some q → slice_get n.processors k ≡ Some q → j ≡ k
    one_number = (all_is_housed s n h).are.once

    pub root_first : slice_get n.processors 0 ≡ Some []
    root_first = (all_is_housed s n h).are.root

    pub object_founds : (k : ℕ) (q : Name) → slice_get n.processors k ≡ Some q → q ≢ [] → (b : Object) × (fin.get s.objects q ≡ Some b)
    object_founds = (all_is_housed s n h).are.founded

    pub processors_are_counted : s.processors ≡ length n.processors
    processors_are_counted = (all_is_housed s n h).are.counted

    pub thread_is_housed : (q : Name) (k : ℕ) (x : Name) → IsListed n.threads q k x → (j : ℕ) × (slice_get n.processors j ≡ Some q)
    thread_is_housed = (all_is_housed s n h).threads

    pub object_is_housed : (q : Name) (k : ℕ) (o : Name) → IsListed n.objects q k o → (j : ℕ) × (slice_get n.processors j ≡ Some q)
    object_is_housed = (all_is_housed s n h).objects

  pub main_first : (s : Config) (n : Numbers) → IsNumbered p ns s n → IsListed n.threads [] 0 []
  main_first s n begins = ap (λ (us : List Name). slice_get us 0) (listed_root ([] ∷ []))
    where
      listed_root : (us : List Name) → listed (fin.insert fin.empty [] us) [] ≡ us
      listed_root us = ap (λ (o : Option (List Name)). names_in o) (get_same fin.empty [] us)
  main_first r n' (goes_on t s n h e) = threads_stay_numbered p t s r n e [] 0 [] (main_first s n h)

pub processors_stay_numbered : (p : Program) (t : Name) (s r : Config) (n : Numbers) → step p t s ≡ Moves r
    → (k : ℕ) (q : Name) → slice_get n.processors k ≡ Some q → slice_get (numbers_step p t s n).processors k ≡ Some q
processors_stay_numbered p t s r n e k q h = kept (numbered_step p t s r n e)
  where
    kept : IsNumberedStep p t s r n (numbers_step p t s n) → slice_get (numbers_step p t s n).processors k ≡ Some q
    kept (Met m) = subst (λ (a : Numbers). slice_get a.processors k ≡ Some q) (sym m.numbers) (pushed_old n.processors _ q k h)
    kept (Joined m) = subst (λ (a : Numbers). slice_get a.processors k ≡ Some q) (sym m.numbers) h
