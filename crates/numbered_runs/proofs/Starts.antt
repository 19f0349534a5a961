-- The threads after a step: one goes on or has ended, others begin, and all that were there stay as they are.
use Rattle.std.proofs.Common.{◌≡◌, ◌≢◌, ⊎_elim, ℕ, suc, ◌+◌, List, [], ◌∷◌, ◌++◌, slice_get, Option, Some, None, refl, sym, ◌∙◌, subst, append-nil}
use Rattle.std.proofs.lemmas.Option.{none-some}
use Rattle.std.specs.FinMap as fin
use Rattle.cc_ops.specs.Values as values
use Rattle.cc_ops.specs.Machine.{Address}
use Rattle.cc_ops.specs.declared.number.ThreadNo.{ThreadNo}
use Rattle.cc_core.specs.Names.{Name, Map, Value, puts}
use Rattle.cc_core.specs.Core.{Program, Term}
use Rattle.cc_core.specs.Config as core
use Rattle.cc_core.specs.Config.{Config, State, Live, Ended}
use Rattle.cc_core.specs.Numbers.{Numbers, list_threads}
use Rattle.cc_core.specs.Steps as steps
use Rattle.cc_core.specs.Steps.{new_threads}
use Rattle.cc_core.proofs.Maps.{get_same, get_other}
use Rattle.cc_code.specs.Code.{Code, Thread}
use Rattle.cc_code.specs.Settles.{Settles}
use Rattle.code_names.specs.Same.{Pairwise}
use Rattle.numbered_threads.specs.Numbered.{IsLater}
use Rattle.numbered_threads.specs.Numbered.{Stands as Follows}
use Rattle.numbered_threads.proofs.Numbered.{later_stands}
use Rattle.run_numbers.specs.RunNumbers.{IsListed}
use Rattle.run_numbers.proofs.Free.{AllFree}
use Rattle.numbered_runs.specs.Machine.{Machine, Progress, Goes, Over, put_thread, made_in}
use Rattle.numbered_runs.specs.Stands.{Stands, is_object, IsThread, SameInside, SameAsked, SameState, IsThreadAt}
use Rattle.numbered_runs.specs.Steps.{settle, new_runner, settle_all, more_tables, push_all, numbers_on}
use Rattle.numbered_runs.proofs.Lists.{pairwise_kept, pairwise_length}
use Rattle.numbered_runs.proofs.Objects.{AreOnce}
use Rattle.numbered_runs.proofs.Threads.{Tables, tables_kept, thread_put, one_table_more, many_made, IsNew, threads_pushed, kids_numbered}
use Rattle.numbered_runs.proofs.Asks.{SameProcessors}
use Rattle.numbered_runs.proofs.Makes.{alike_later}
use Rattle.numbered_runs.proofs.News.{AllThere, still_there, all_there, no_threads}
use Rattle.numbered_runs.proofs.Settled.{settled_alike}

-- ---- threads that are alike stay so, where more has numbers

module _ (n after : Numbers) (later : IsLater (is_object n) (is_object after)) where
  pub asked_later : (kids : List ThreadNo) (a : Option ThreadNo) (b : Option ℕ) → SameAsked n kids a b → SameAsked after kids a b
  asked_later kids None None h = tt
  asked_later kids (Some t) (Some k) h = h
  asked_later kids a b h = absurd h

  pub insides_later : (es : List (ℕ × values.Value Address)) (ds : List (ℕ × Value)) → Pairwise (SameInside n) es ds
      → Pairwise (SameInside after) es ds
  insides_later es ds =
      pairwise_kept (SameInside n) (SameInside after) es ds (λ k e d _ _ h. (h.0, alike_later n after later e.1 d.1 h.1))

  pub all_follow_later : (p : Program) (code : Code) (cs : List (Thread Address)) (terms : List Term) → Pairwise (Follows p code (is_object n)) cs terms
      → Pairwise (Follows p code (is_object after)) cs terms
  all_follow_later p code cs terms =
      pairwise_kept (Follows p code (is_object n)) (Follows p code (is_object after)) cs terms
      (λ k c term _ _ h. later_stands p code (is_object n) (is_object after) later c term h)

  state_later : (threads_later : (t : ThreadNo) (y : Name) → IsThread n t y → IsThread after t y) (p : Program) (code : Code) (y : Name)
      (a : Progress) (b : State) → SameState n p code y a b → SameState after p code y a b
  state_later threads_later p code y (Goes r) (Live l) h = record {
    thread = later_stands p code (is_object n) (is_object after) later r.thread l.term h.thread;
    asks = h.asks;
    asked = asked_later r.kids r.asked l.asked h.asked;
    made = h.made;
    kids = λ k t e. threads_later t (k ∷ y) (h.kids k t e);
    inside = insides_later r.inside l.inside h.inside;
  }
  state_later threads_later p code y (Over v) (Ended u) h = alike_later n after later v u h
  state_later threads_later p code y a b h = absurd h

-- ---- threads after a step of thread t, which is x

module _ (p : Program) (w : Machine) (s : Config) (n : Numbers) (st : Stands p w s n) (t : ThreadNo) (x : Name) (after : Numbers)
    (later : IsLater (is_object n) (is_object after)) (threads_later : (u : ThreadNo) (y : Name) → IsThread n u y → IsThread after u y)
    (names : List Name) (processors_are : after.processors ≡ n.processors ++ names) (many : ℕ) (grown : SameProcessors s many names)
    (once : AreOnce after.processors after.threads) (settles : (b : ℕ) → Settles w.code b)
    (i own number : ℕ) (q : Name) (here : slice_get after.processors i ≡ Some q) (terms : List Term) (cs : List (Thread Address))
    (follow : Pairwise (Follows p w.code (is_object after)) cs terms)
    (threads_are : after.threads ≡ list_threads n.threads (new_threads x number q own terms))
    (state : State) (free : AllFree (fin.insert s.threads x state) (steps.settle_all p (new_threads x number q own terms))) where
  abbrev new : List (Name × core.Thread)
  new = new_threads x number q own terms

  abbrev with_it : Map State
  with_it = fin.insert s.threads x state

  abbrev pub threads_now : Map State
  threads_now = puts (steps.settle_all p new) with_it

  abbrev pub Now : Name → Progress → Type 0
  Now y a = (b : State) × (fin.get threads_now y ≡ Some b) × SameState after p w.code y a b

  -- of all but the thread itself
  abbrev Others : Name → Progress → Type 0
  Others y a = y ≢ x → Now y a

  kept : Tables Others n.processors n.threads w.threads
  kept =
      tables_kept (IsThreadAt n p w.code s) Others n.processors n.threads w.threads
      (λ r k y a at h ne. (
        h.0,
        still_there (steps.settle_all p new) with_it free y h.0 (get_other s.threads x state y ne ∙ h.1),
        state_later n after later threads_later p w.code y a h.0 h.2,
      )) st.threads

  with_more : (k : ℕ) (qs : List Name) → SameProcessors s k qs → Tables Others (n.processors ++ qs) n.threads (more_tables k w.threads)
  with_more k qs same = ⊎_elim
      (λ (none : (k ≡ 0) × (qs ≡ [])).
      subst (λ us. Tables Others (n.processors ++ us) n.threads (more_tables k w.threads)) (sym none.1)
      (subst (λ j. Tables Others (n.processors ++ []) n.threads (more_tables j w.threads)) (sym none.0)
      (subst (λ us. Tables Others us n.threads w.threads) (sym (append-nil n.processors)) kept)))
      (λ (one : (u : Name) × (k ≡ 1) × (qs ≡ u ∷ []) × (u ≢ []) × (fin.get s.objects u ≡ None)).
      subst (λ us. Tables Others (n.processors ++ us) n.threads (more_tables k w.threads)) (sym one.2)
      (subst (λ j. Tables Others (n.processors ++ one.0 ∷ []) n.threads (more_tables j w.threads)) (sym one.1)
      (one_table_more Others n.processors n.threads w.threads one.0 (no_threads p w s n st one.0 one.3 one.4) kept)))
      same

  abbrev tables' : List (List Progress)
  tables' = more_tables many w.threads

  on_tables : Tables Others after.processors n.threads tables'
  on_tables = subst (λ us. Tables Others us n.threads tables') (sym processors_are) (with_more many names grown)

  -- ---- the numbers of what is made

  pub new_kids : (k : ℕ) (u : ThreadNo) → slice_get (numbers_on i (made_in tables' i) cs) k ≡ Some u → IsThread after u ((number + k) ∷ x)
  new_kids =
      kids_numbered after i q x here own terms cs (pairwise_length (Follows p w.code (is_object after)) cs terms follow) number (made_in tables' i) n.threads
      (many_made Others after.processors n.threads tables' i q here on_tables) threads_are

  -- ---- threads that begin

  begins : (y : Name) (term : Term) (c : Thread Address) → Follows p w.code (is_object after) c term
      → SameState after p w.code y (settle w.code (new_runner c))
      (steps.settle p (record { home = q; term = term; asked = None; threads = 0; objects = own; inside = [] }))
  begins y term c follows =
      settled_alike p w.code settles after y (new_runner c) (record { home = q; term = term; asked = None; threads = 0; objects = own; inside = [] })
      (record { asked = tt; made = refl; kids = λ k u e. absurd (none-some u e); inside = tt }) follows

  all_begin : (j : ℕ) (ts : List Term) (ds : List (Thread Address)) → Pairwise (Follows p w.code (is_object after)) ds ts
      → AllThere threads_now (steps.settle_all p (new_threads x j q own ts))
      → Pairwise (IsNew Others q) (new_threads x j q own ts) (settle_all w.code ds)
  all_begin j [] [] follows there = tt
  all_begin j [] (d ∷ ds) follows there = absurd follows
  all_begin j (term ∷ ts) [] follows there = absurd follows
  all_begin j (term ∷ ts) (d ∷ ds) follows there = (
    (refl, λ ne. (_, there.0, begins (j ∷ x) term d follows.0)),
    all_begin (suc j) ts ds follows.1 there.1,
  )

  pushed : Tables Others after.processors after.threads (push_all tables' i (settle_all w.code cs))
  pushed =
      subst (λ m. Tables Others after.processors m (push_all tables' i (settle_all w.code cs))) (sym threads_are)
      (threads_pushed Others after.processors once.one_processor i q here new (settle_all w.code cs) n.threads tables'
      (all_begin number terms cs follow (all_there (steps.settle_all p new) with_it free)) on_tables)

  -- ---- and the thread itself

  pub threads_after : (home : Name) → slice_get after.processors t.processor ≡ Some home → IsListed after.threads home t.thread x → (b : Progress)
      → SameState after p w.code x b state → Tables Now after.processors after.threads (put_thread (push_all tables' i (settle_all w.code cs)) t b)
  threads_after home at listed_there b same =
      thread_put Others Now after.processors after.threads once t x home at listed_there b
      (state, still_there (steps.settle_all p new) with_it free x state (get_same s.threads x state), same)
      (λ u a ne h. h ne) (push_all tables' i (settle_all w.code cs)) pushed
