-- What a step makes of the machine that a mesh shows is shown by what it makes of the mesh.
use Rattle.std.proofs.Common.{◌≡◌, ℕ, List, [], ◌∷◌, ◌++◌, length, Bool, true, false, Option, Some, None, refl, sym, ap, ◌∙◌, subst}
use Rattle.cc_ops.specs.Values.{Value}
use Rattle.cc_ops.specs.Machine.{Address, Values}
use Rattle.cc_ops.specs.declared.number.ThreadNo.{ThreadNo}
use Rattle.cc_ops.specs.Shelves.{Shelf}
use Rattle.cc_core.specs.Asks.{Ask, Answer}
use Rattle.cc_core.specs.Asks.{Reads, Writes, Copies, Indexes, Shifts, Computes, Tests, Makes, MakesWith, Builds, Enters, Leaves}
use Rattle.cc_core.specs.Asks.{ForksAll, ForksOne, Joins, Spawns, Prints, Calls, Casts, NewProcessor}
use Rattle.cc_core.specs.Effects.{numbers, branch_count, is_call}
use Rattle.cc_code.specs.Code.{Code, Thread, Then}
use Rattle.code_names.specs.Same.{Pairwise}
use Rattle.numbered_runs.specs.Machine.{Machine, Runner, Progress, Goes, Over, thread_in, put_thread, made_in, ended_with}
use Rattle.numbered_runs.specs.Effects.{Effect, effect, start_home, write_all, more_shelves, put_things, addresses, held_after}
use Rattle.numbered_runs.specs.Steps.{settle, freed, settle_all, more_tables, push_all, numbers_on, apply, itself}
use Rattle.numbered_runs.proofs.Lists.{pairwise_append, pairwise_length, pairwise_kept}
use Rattle.law_mesh.specs.Spots.{Fiber, Spot, Active, Parked, Posted, Delayed, Answered, Calling, Called, Gone, Mesh, shown, runs, item_in, made_of}
use Rattle.law_mesh.specs.Moves.{new_spots, known, effect_of, more_lists, push_items, stepped, gone_on}
use Rattle.law_mesh.specs.Shows.{IsKid, Alike, Shows}
use Rattle.law_mesh.proofs.Lists.{both_put, both_more, both_pushed, same_made, stays_more, stays_pushed, stays_put}
use Rattle.law_mesh.proofs.Settle.{freed_alike}

-- an effect depends on the code, the objects, and what the thread is inside
effect_alike : (m : Mesh) (threads : List (List Progress)) (q : ℕ) (f : Fiber) (kids : List ThreadNo) (ask : Ask Address) (found : Values)
    → effect (shown m threads) q (runs f None kids) ask found ≡ effect_of m q f ask found
effect_alike m threads q f kids (Reads remote a) found = refl
effect_alike m threads q f kids (Writes remote a v) found = refl
effect_alike m threads q f kids (Copies a n) found = refl
effect_alike m threads q f kids (Indexes a n i) found = refl
effect_alike m threads q f kids (Shifts a i) found = refl
effect_alike m threads q f kids (Computes op vs) found = refl
effect_alike m threads q f kids Tests found = refl
effect_alike m threads q f kids (Makes kind n) found = refl
effect_alike m threads q f kids (MakesWith kind v) found = refl
effect_alike m threads q f kids (Builds c vs) found = refl
effect_alike m threads q f kids (Enters g o vs) found = refl
effect_alike m threads q f kids Leaves found = refl
effect_alike m threads q f kids (ForksAll n) found = refl
effect_alike m threads q f kids (ForksOne v) found = refl
effect_alike m threads q f kids (Joins made) found = refl
effect_alike m threads q f kids (Spawns g o vs) found = refl
effect_alike m threads q f kids (Prints parts vs) found = refl
effect_alike m threads q f kids (Calls g o vs) found = refl
effect_alike m threads q f kids (Casts g o vs) found = refl
effect_alike m threads q f kids (NewProcessor c vs) found = refl

-- what has ended has ended with the same
abbrev pub StayOver : List (List Progress) → List (List Progress) → Type 0
StayOver threads threads' = (u : ThreadNo) (v : Value Address) → ended_with (thread_in threads u) ≡ Some v → ended_with (thread_in threads' u) ≡ Some v

over_is : (x : Option Progress) (v : Value Address) → ended_with x ≡ Some v → x ≡ Some (Over v)
over_is None v e = let f : None ≡ Some v = e in cc
over_is (Some (Goes r)) v e = let f : None ≡ Some v = e in cc
over_is (Some (Over u)) v e = let f : Some u ≡ Some v = e in cc

-- a thread that goes on is changed, and more are made
pub stay_over : (threads : List (List Progress)) (t : ThreadNo) (r : Runner) (x : Progress) (n h : ℕ) (new : List Progress)
    → thread_in threads t ≡ Some (Goes r) → StayOver threads (put_thread (push_all (more_tables n threads) h new) t x)
stay_over threads t r x n h new at u v over =
    let is : thread_in threads u ≡ Some (Over v) = over_is (thread_in threads u) v over in
    let more : item_in (push_items (more_lists n threads) h new) u ≡ Some (Over v) =
    stays_pushed h new (more_lists n threads) u (Over v) (stays_more n threads u (Over v) is) in
    ap ended_with (stays_put (push_items (more_lists n threads) h new) u t (Over v) x more
    (λ e. let no : Some (Goes r) ≡ Some (Over v) = sym at ∙ (ap (thread_in threads) (sym e) ∙ is) in let bad : Goes r ≡ Over v = cc in absurd (cc)))

module _ (code : Code) (threads threads' : List (List Progress)) (stay : StayOver threads threads') where
  still_alike : (p : Spot) (x : Progress) → Alike code threads p x → Alike code threads' p x
  still_alike (Active f) x h = h
  still_alike (Parked r f) x h = h
  still_alike (Posted f) x h = h
  still_alike (Delayed a o f) x h = h
  still_alike (Answered vs f) x h = h
  still_alike (Calling kid f) x h = h
  still_alike (Called kid v f) x h = (h.0, stay kid v h.1)
  still_alike (Gone v) x h = h

  pub all_still_alike : (spots : List (List Spot)) (table : List (List Progress)) → Pairwise (Pairwise (Alike code threads)) spots table
      → Pairwise (Pairwise (Alike code threads')) spots table
  all_still_alike spots table h =
      pairwise_kept (Pairwise (Alike code threads)) (Pairwise (Alike code threads')) spots table
      (λ i ps xs _ _ g. pairwise_kept (Alike code threads) (Alike code threads') ps xs (λ j p x _ _ s. still_alike p x s) g) h

known_same : (ts : List ThreadNo) → Pairwise IsKid (known ts) ts
known_same [] = tt
known_same (t ∷ ts) = (refl, known_same ts)

pub new_alike : (code : Code) (threads : List (List Progress)) (cs : List (Thread Address)) → Pairwise (Alike code threads) (new_spots cs) (settle_all code cs)
new_alike code threads [] = tt
new_alike code threads (c ∷ cs) = (record { kids = []; same = tt; is = refl }, new_alike code threads cs)

module _ (m : Mesh) (threads : List (List Progress)) (shows : Shows m threads) (t : ThreadNo) (f : Fiber) (kids : List ThreadNo)
    (same : Pairwise IsKid f.kids kids) (at : thread_in threads t ≡ Some (Goes (runs f None kids)))
    (ask : Ask Address) (k : Answer Address → Then Address) (found : Values) where
  -- ---- the parts of the step, by its effect and the number of threads that were made before

  abbrev pub ground_by : Effect → List Shelf
  ground_by e = more_shelves e.processors (write_all m.shelves e.writes)

  abbrev pub then_by : Effect → ℕ → Then Address
  then_by e n = k (record { values = addresses (ground_by e) e.objects ++ found; made = numbers n (branch_count ask) })

  abbrev pub new_by : Effect → ℕ → List (Thread Address)
  new_by e n = e.starts ++ (then_by e n).branches

  abbrev pub home : ℕ
  home = start_home t.processor ask

  abbrev pub numbers_by : Effect → ℕ → List ThreadNo
  numbers_by e n = numbers_on home (made_in (more_tables e.processors threads) home) (new_by e n)

  abbrev pub itself_by : Bool → Effect → ℕ → Progress
  itself_by true e n = Goes (record {
    thread = f.thread;
    asked = Some (record { processor = home; thread = made_in (more_tables e.processors threads) home });
    kids = kids ++ numbers_by e n;
    inside = e.inside;
  })
  itself_by false e n = settle m.code (record { thread = (then_by e n).left; asked = None; kids = kids ++ numbers_by e n; inside = e.inside })

  abbrev pub held_by : Effect → List Shelf
  held_by e = held_after m.code.shapes f.inside ask (put_things (ground_by e) e.objects)

  abbrev pub machine_by : Progress → Effect → ℕ → Machine
  machine_by x e n = record {
    code = m.code;
    shelves = freed m.code x e.inside (held_by e);
    threads = put_thread (push_all (more_tables e.processors threads) home (settle_all m.code (new_by e n))) t x;
    output = m.output ++ e.prints;
  }

  -- the effect of the mesh
  abbrev pub its : Effect
  its = effect_of m t.processor f ask found

  abbrev pub made : ℕ
  made = length f.kids

  itself_is : (b : Bool) → itself (shown m threads) t (runs f None kids) ask k found b
      ≡ itself_by b (effect (shown m threads) t.processor (runs f None kids) ask found) (length kids)
  itself_is true = refl
  itself_is false = refl

  apply_with : (b : Bool) → is_call ask ≡ b → apply (shown m threads) t (runs f None kids) ask k found
      ≡ (let e = effect (shown m threads) t.processor (runs f None kids) ask found in machine_by (itself_by b e (length kids)) e (length kids))
  apply_with b call =
      let e : Effect = effect (shown m threads) t.processor (runs f None kids) ask found in
      ap (λ x. machine_by x e (length kids)) (itself_is (is_call ask) ∙ ap (λ c. itself_by c e (length kids)) call)

  pub apply_is : (b : Bool) → is_call ask ≡ b → apply (shown m threads) t (runs f None kids) ask k found ≡ machine_by (itself_by b its made) its made
  apply_is b call =
      apply_with b call
      ∙ (ap (λ e. machine_by (itself_by b e (length kids)) e (length kids)) (effect_alike m threads t.processor f kids ask found)
      ∙ ap (λ n. machine_by (itself_by b its n) its n) (sym (pairwise_length IsKid f.kids kids same)))

  -- ---- the threads

  tables_alike : Pairwise (Pairwise (Alike m.code threads)) (more_lists its.processors m.spots) (more_tables its.processors threads)
  tables_alike = both_more (Alike m.code threads) its.processors m.spots threads shows

  pub next_alike : made_of (more_lists its.processors m.spots) home ≡ made_in (more_tables its.processors threads) home
  next_alike = same_made (Alike m.code threads) (more_lists its.processors m.spots) (more_tables its.processors threads) tables_alike home

  abbrev pub after : Progress → List (List Progress)
  after x = put_thread (push_all (more_tables its.processors threads) home (settle_all m.code (new_by its made))) t x

  -- Whatever the thread has become, the others are shown, and it is where its own spot is alike.
  pub threads_alike : (p : Spot) (x : Progress) → Alike m.code (after x) p x
      → Pairwise (Pairwise (Alike m.code (after x))) (stepped m t.processor f ask k found its t p).spots (after x)
  threads_alike p x alike =
      let stay : StayOver threads (after x) = stay_over threads t (runs f None kids) x its.processors home (settle_all m.code (new_by its made)) at in
      both_put (Alike m.code (after x)) _ _ t p x alike
      (both_pushed (Alike m.code (after x)) home _ _ (new_alike m.code (after x) (new_by its made)) _ _
      (all_still_alike m.code threads (after x) stay _ _ tables_alike))

  -- ---- it goes on

  abbrev pub gone : Progress
  gone = itself_by false its made

  pub goes_on : (x : List (List Progress)) → Alike m.code x (Active (gone_on m t.processor f ask k found its)) gone
  goes_on x = record {
    kids = kids ++ numbers_by its made;
    same = pairwise_append IsKid f.kids _ kids _ same (subst (λ n. Pairwise IsKid (known (numbers_on home n (new_by its made))) (numbers_by its made))
        (sym next_alike) (known_same (numbers_by its made)));
    is = refl;
  }

  -- the machine after the step
  pub stepped_is : (p : Spot) → is_call ask ≡ false
      → apply (shown m threads) t (runs f None kids) ask k found ≡ shown (stepped m t.processor f ask k found its t p) (after gone)
  stepped_is p call =
      apply_is false call
      ∙ ap (λ shelves. record { code = m.code; shelves = shelves; threads = after gone; output = m.output ++ its.prints })
      (freed_alike m.code (then_by its made).left None None (kids ++ numbers_by its made) [] its.inside its.inside its.inside (held_by its))
