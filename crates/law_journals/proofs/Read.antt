-- The steps of a run that are noted are those that the entries name.
use Rattle.std.proofs.Common.{◌≡◌, ℕ, zero, suc, ◌+◌, List, [], ◌∷◌, ◌++◌, length, map, replicate, Option, Some, None, refl, sym, ap, ◌∙◌, subst, arith}
use Rattle.std.specs.List.{AllByRecursion}
use Rattle.std.specs.Option.{option_and_then}
use Rattle.std.specs.FinMap as fin
use Rattle.std.proofs.lemmas.Option.{none-some, same_Some}
use Rattle.cc_ops.specs.Values.{Ptr}
use Rattle.cc_ops.specs.declared.number.ThreadNo.{ThreadNo}
use Rattle.cc_ops.specs.Shelves.{home_in}
use Rattle.cc_core.specs.Config.{Config}
use Rattle.cc_core.specs.Core.{Program}
use Rattle.cc_core.specs.Numbers.{Numbers, Post, Get, Put, Call, Cast, Make, posts}
use Rattle.code_names.specs.Same.{Pairwise}
use Rattle.numbered_runs.specs.Stands.{IsThread}
use Rattle.effect_journal.specs.declared.entry.Entry.{Entry}
use Rattle.effect_journal.specs.declared.entry.Entry.TheVariants as entry
use Rattle.rsr_message.specs.declared.requests.Request.{Request}
use Rattle.rsr_message.specs.declared.requests.Body.{Body}
use Rattle.rsr_message.specs.declared.requests.Body.TheVariants as body
use Rattle.cc_walk.specs.Posted.{Says, IsFrom, IsPosted}
use Rattle.cc_explains.specs.Places.{Place, Step, behind, Lead}
use Rattle.cc_explains.specs.Moves.{posted_at, asker, IsMake, IsServedAt}
use Rattle.cc_explains.specs.Explains.{IsOwnStep, IsServing, IsRead, AreRead}
use Rattle.law_mesh.specs.Moves as mesh
use Rattle.law_mesh.specs.Queues.{Asks, target}
use Rattle.law_mesh.specs.Source.{IsStep, Leads}
use Rattle.law_processors.specs.Alone.{Label, OwnStep}
use Rattle.law_processors.specs.Follow.{step_of, IsPlaced}
use Rattle.law_rounds.specs.Turn.{Note, Ran, Served, Made, labels_in, labelled}
use Rattle.law_journals.specs.Entries.{AreBytes, IsEntryOf}

-- ---- a run in two parts

record Parts (p : Program) (xs ys : List mesh.Step) (s : Config) (n : Numbers) (r : Config) (k : Numbers) : Type 0 where
  config : Config
  numbers : Numbers
  first : Leads p xs s n config numbers
  second : Leads p ys config numbers r k

parts : (p : Program) (xs ys : List mesh.Step) (s : Config) (n : Numbers) (r : Config) (k : Numbers) → Leads p (xs ++ ys) s n r k → Parts p xs ys s n r k
parts p [] ys s n r k h = record { config = s; numbers = n; first = (refl, refl); second = h }
parts p (x ∷ xs) ys s n r k h =
    let later = parts p xs ys h.0 h.1 r k h.3 in
    record { config = later.config; numbers = later.numbers; first = (h.0, h.1, h.2, later.first); second = later.second }

mapped : (xs ys : List Label) → map step_of (xs ++ ys) ≡ map step_of xs ++ map step_of ys
mapped [] ys = refl
mapped (x ∷ xs) ys = ap (λ ls. step_of x ∷ ls) (mapped xs ys)

first_placed : (xs ys : List Label) → AllByRecursion IsPlaced (xs ++ ys) → AllByRecursion IsPlaced xs
first_placed [] ys h = tt
first_placed (x ∷ xs) ys h = (h.0, first_placed xs ys h.1)

then_placed : (xs ys : List Label) → AllByRecursion IsPlaced (xs ++ ys) → AllByRecursion IsPlaced ys
then_placed [] ys h = h
then_placed (x ∷ xs) ys h = then_placed xs ys h.1

-- ---- one step

module _ (p : Program) (a : Place) (l : mesh.Step) (r : Config) (k : Numbers) (step : IsStep p a.config a.numbers l r k) where
  abbrev its_step : Step
  its_step = record { place = a; thread = step.name }

  abbrev next : Place
  next = behind p step.name a r

  numbered : next.numbers ≡ k
  numbered = sym step.numbers

  posts_so : posted_at p a l.thread ≡ l.post
  posts_so =
      ap (λ o. posts p a.config a.numbers (option_and_then (λ x. fin.get a.config.threads x) o)) step.thread
      ∙ step.posted

same_asker : (t : ThreadNo) (r : Request) → r.from ≡ t.processor → r.ticket ≡ t.thread → asker r ≡ t
same_asker t r e d = ap (λ q. number q r.ticket) e ∙ ap (λ n. number t.processor n) d
  where
    number : ℕ → ℕ → ThreadNo
    number q n = record { processor = q; thread = n }

-- ---- what a request asks for, and where it is served

served_at : (q : ℕ) (post : Post) (to : ℕ) (b : Body) → Says post to b → target post ≡ Some q → (¬ IsMake b) × (to ≡ q)
served_at q (Get (Ptr a x)) to (body.Get spot) says on = (λ h. h, says.0 ∙ same_Some a.processor q on)
served_at q (Put (Ptr a x) v) to (body.Put spot w) says on = (λ h. h, says.0 ∙ same_Some a.processor q on)
served_at q (Call f (Ptr a x) vs) to (body.Call object handler args) says on = (λ h. h, says.0 ∙ same_Some a.processor q on)
served_at q (Cast f (Ptr a x) vs) to (body.Cast object handler args) says on = (λ h. h, says.0 ∙ same_Some a.processor q on)
served_at q (Make class vs) to b says on = absurd (none-some q on)
served_at q post to b says on = absurd says

served_by_none : (post : Post) (to : ℕ) (b : Body) → Says post to b → target post ≡ None → IsMake b
served_by_none (Make class vs) to (body.Make c args) says on = tt
served_by_none (Get a) to b says on = absurd (none-some (home_in a) (sym on))
served_by_none (Put a v) to b says on = absurd (none-some (home_in a) (sym on))
served_by_none (Call f o vs) to b says on = absurd (none-some (home_in o) (sym on))
served_by_none (Cast f o vs) to b says on = absurd (none-some (home_in o) (sym on))
served_by_none post to b says on = absurd says

-- ---- an entry

pub record ReadsTo (p : Program) (e : Entry) (a : Place) (r : Config) (k : Numbers) (steps : ℕ) : Type 0 where
  pub place : Place
  pub read : IsRead p e a place
  pub config : place.config ≡ r
  pub numbers : place.numbers ≡ k
  pub made : place.made ≡ a.made + steps

module _ (p : Program) where
  own_steps : (t : ThreadNo) (n : ℕ) (a : Place) (r : Config) (k : Numbers) → Leads p (map step_of (replicate n (OwnStep t))) a.config a.numbers r k
      → (b : Place) × (ms : List Step) × Lead p ms a b × (length ms ≡ n) × AllByRecursion (IsOwnStep p t) ms × (b.config ≡ r) × (b.numbers ≡ k) × (b.made ≡ a.made + n)
  own_steps t zero a r k h = (a, [], refl, refl, tt, h.0, h.1, omega arith)
  own_steps t (suc n) a r k h =
      let step = h.2 in
      let b : Place = behind p step.name a h.0 in
      let later = own_steps t n b r k (subst (λ z. Leads p (map step_of (replicate n (OwnStep t))) h.0 z r k) step.numbers h.3) in
      let made = later.7 in (
        later.0,
        record { place = a; thread = step.name } ∷ later.1,
        (refl, h.0, step.steps, later.2),
        ap suc later.3,
        (record { thread = step.thread; own = posts_so p a (step_of (OwnStep t)) h.0 h.1 step }, later.4),
        later.5,
        later.6,
        omega (arith, made),
      )

  one_served : (at : Option ℕ) (t : ThreadNo) (post : Post) (bytes : List ℕ) → AreBytes t post bytes → ((x : Request) → IsFrom t post x → IsServedAt at x)
      → (a : Place) (r : Config) (k : Numbers) → Leads p (mesh.served_step t post ∷ []) a.config a.numbers r k
      → (m : Step) × (b : Place) × Lead p (m ∷ []) a b × IsServing p at bytes m × (b.config ≡ r) × (b.numbers ≡ k) × (b.made ≡ a.made + 1)
  one_served at t post bytes is placed a r k h =
      let step = h.2 in
      let x : Request = is.request in
      let same : asker x ≡ t = same_asker t x is.from.processor is.from.thread in
      let posted : posted_at p a (asker x) ≡ Some post = ap (posted_at p a) same ∙ posts_so p a (mesh.served_step t post) h.0 h.1 step in (
        record { place = a; thread = step.name },
        behind p step.name a h.0,
        (refl, h.0, step.steps, refl),
        record {
          request = x;
          is = record {
            spelled = is.spelled;
            asked = subst (λ o. IsPosted (asker x) o (Some x)) (sym posted) (record { processor = refl; thread = refl; says = is.from.says });
            served = placed x is.from;
          };
          thread = subst (λ u. IsThread a.numbers u step.name) (sym same) step.thread;
        },
        h.3.0,
        sym step.numbers ∙ h.3.1,
        omega arith,
      )

  entry_read : (note : Note) (e : Entry) → IsEntryOf note e → AllByRecursion IsPlaced (labels_in note) → (a : Place) (r : Config) (k : Numbers)
      → Leads p (map step_of (labels_in note)) a.config a.numbers r k → ReadsTo p e a r k (length (labels_in note))
  entry_read (Ran t n) (entry.Run q i steps) is placed a r k h =
      let o = own_steps t n a r k h in
      record {
        place = o.0;
        read = (o.1, o.2, (o.3 ∙ sym is.2, subst (λ u. AllByRecursion (IsOwnStep p u) o.1) (number_is t q i is.0 is.1) o.4));
        config = o.5;
        numbers = o.6;
        made = o.7 ∙ ap (λ z. a.made + z) (sym (replicated n t));
      }
    where
      number_is : (u : ThreadNo) (x y : ℕ) → x ≡ u.processor → y ≡ u.thread → u ≡ record { processor = x; thread = y }
      number_is u x y d c = sym (ap (λ z. number z y) d ∙ ap (λ z. number u.processor z) c)
        where
          number : ℕ → ℕ → ThreadNo
          number z w = record { processor = z; thread = w }

      replicated : (m : ℕ) (u : ThreadNo) → length (replicate m (OwnStep u)) ≡ m
      replicated zero u = refl
      replicated (suc m) u = ap suc (replicated m u)
  entry_read (Served q (Asks t post)) (entry.Serve at bytes) is placed a r k h =
      let o = one_served (Some q) t post bytes is.1 (λ x from. served_at q post x.to x.body from.says placed.0) a r k h in
      record {
        place = o.1;
        read = (o.0 ∷ [], o.2, (o.0, refl, subst (λ z. IsServing p (Some z) bytes o.0) (sym is.0) o.3));
        config = o.4;
        numbers = o.5;
        made = o.6;
      }
  entry_read (Made (Asks t post)) (entry.Make bytes) is placed a r k h =
      let o = one_served None t post bytes is (λ x from. served_by_none post x.to x.body from.says placed.0) a r k h in
      record { place = o.1; read = (o.0 ∷ [], o.2, (o.0, refl, o.3)); config = o.4; numbers = o.5; made = o.6 }
  entry_read note e is placed a r k h = absurd is

  pub record AllReadTo (entries : List Entry) (a : Place) (r : Config) (k : Numbers) (steps : ℕ) : Type 0 where
    pub place : Place
    pub read : AreRead p entries a place
    pub config : place.config ≡ r
    pub numbers : place.numbers ≡ k
    pub made : place.made ≡ a.made + steps

  length_append : (xs ys : List Label) → length (xs ++ ys) ≡ length xs + length ys
  length_append [] ys = omega arith
  length_append (x ∷ xs) ys = let e = length_append xs ys in omega arith

  pub entries_read : (notes : List Note) (entries : List Entry) → Pairwise IsEntryOf notes entries → AllByRecursion IsPlaced (labelled notes)
      → (a : Place) (r : Config) (k : Numbers) → Leads p (map step_of (labelled notes)) a.config a.numbers r k
      → AllReadTo entries a r k (length (labelled notes))
  entries_read [] [] each placed a r k h = record { place = a; read = refl; config = h.0; numbers = h.1; made = omega arith }
  entries_read [] (e ∷ es) each placed a r k h = absurd each
  entries_read (note ∷ notes) [] each placed a r k h = absurd each
  entries_read (note ∷ notes) (e ∷ es) each placed a r k h =
      let cut = parts p (map step_of (labels_in note)) (map step_of (labelled notes)) a.config a.numbers r k
      (subst (λ ls. Leads p ls a.config a.numbers r k) (mapped (labels_in note) (labelled notes)) h) in
      let one = entry_read note e each.0 (first_placed (labels_in note) (labelled notes) placed) a cut.config cut.numbers cut.first in
      let later = entries_read notes es each.1 (then_placed (labels_in note) (labelled notes) placed) one.place r k
      (subst (λ z. Leads p (map step_of (labelled notes)) one.place.config z r k) (sym one.numbers)
      (subst (λ z. Leads p (map step_of (labelled notes)) z cut.numbers r k) (sym one.config) cut.second)) in
      record {
        place = later.place;
        read = (one.place, one.read, later.read);
        config = later.config;
        numbers = later.numbers;
        made = let c = length_append (labels_in note) (labelled notes) in omega (arith, one.made, later.made, c);
      }
