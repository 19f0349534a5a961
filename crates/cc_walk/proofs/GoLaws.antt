-- How a thread goes on behind a step, put together from its parts.
use Rattle.std.proofs.Common.{◌≡◌, ℕ, true, false, List, [], ◌∷◌, ◌++◌, length, map, Option, Some, None, refl, sym, ap, ◌∙◌, subst}
use Rattle.std.specs.Prelude.{option_to_list}
use Rattle.global_ptr.specs.declared.values.Value.{Value as RustValue}
use Rattle.cc_ops.specs.Values.{Value, Void}
use Rattle.cc_ops.specs.Machine.{Address, value_of, Values}
use Rattle.cc_ops.specs.declared.number.ThreadNo.{ThreadNo}
use Rattle.cc_ops.specs.Shelves.{Shelf}
use Rattle.cc_core.specs.Asks as asks
use Rattle.cc_core.specs.Asks.{Ask, Answer}
use Rattle.cc_core.specs.Effects.{numbers, is_call}
use Rattle.cc_code.specs.Code.{Thread, Then, Starting, move}
use Rattle.code_thread.specs.Moves.{IsAsk, after}
use Rattle.code_thread.specs.View.{answer_of}
use Rattle.numbered_runs.specs.Machine.{Machine, Progress, Goes, Over, Runner, thread_in, put_thread, made_in}
use Rattle.numbered_runs.specs.Effects.{effect, start_home}
use Rattle.numbered_runs.specs.Steps.{its_effect, its_answer, its_new, new_home, new_numbers, tables, itself, freed, apply, settle, settle_all, push_all, more_tables, numbers_on}
use Rattle.cc_walk.specs.Answered.{IsStarted, HasEffect, values_of, inside_after}
use Rattle.cc_walk.specs.Asking.{IsAsking}
use Rattle.cc_walk.specs.Views.{home_of, live_of, started}
use Rattle.cc_walk.specs.declared.effect.Start.{Start}
use Rattle.cc_walk.specs.declared.effect.Effect.{Effect}
use Rattle.cc_walk.proofs.Kept.{stays_made}
use Rattle.cc_walk.proofs.StepLaws.{is_ask, then_is, put_twice}

-- What starts no thread makes its threads at home.
home_alone : (w : Machine) (q : ℕ) (r : Runner) (ask : Ask Address) (found : Values) → (effect w q r ask found).starts ≡ [] → q ≡ start_home q ask
home_alone w q r (asks.Calls f o vs) found none = let some : Starting f o vs ∷ [] ≡ [] = none in cc
home_alone w q r (asks.Casts f o vs) found none = let some : Starting f o vs ∷ [] ≡ [] = none in cc
home_alone w q r ask found none = refl

module _ (w : Machine) (t : ThreadNo) (r : Runner) (line : ℕ) (ask : Ask Address) (k : Answer Address → Then Address) (found : Values)
    (asking : IsAsking w t r line ask k) (e : Effect) (objects : List Shelf) (text : List ℕ) (has : HasEffect w t.processor r ask found e objects text) where
  home_by : (start : Option Start) → IsStarted (start_home t.processor ask) start (effect w t.processor r ask found).starts
      → home_of t.processor start ≡ start_home t.processor ask
  home_by None none = home_alone w t.processor r ask found none
  home_by (Some s) is = is.0

  home_is : home_of t.processor e.start ≡ new_home w t r ask k found
  home_is = home_by e.start has.starts

  starts_by : (start : Option Start) → IsStarted (start_home t.processor ask) start (effect w t.processor r ask found).starts
      → map started (option_to_list start) ≡ (effect w t.processor r ask found).starts
  starts_by None none = sym none
  starts_by (Some s) is = sym (is.1)

  answer_is : (vs : List RustValue) (first : ℕ) → map value_of vs ≡ values_of e.found → first ≡ length r.kids
      → answer_of vs first e.branches ≡ its_answer w t r ask k found
  answer_is vs first same counted =
      let answer : Values → List ℕ → Answer Address = λ values made. record { values = values; made = made } in
      ap (λ values. answer values (numbers first e.branches)) (same ∙ has.values)
      ∙ ap (answer (its_answer w t r ask k found).values) (ap (λ n. numbers n e.branches) counted ∙ ap (numbers (length r.kids)) has.branches)

  -- the threads that are made
  new_is : (vs : List RustValue) (new : List (Thread Address)) → map value_of vs ≡ values_of e.found
      → new ≡ map started (option_to_list e.start) ++ (after (move w.code r.thread) (answer_of vs (length r.kids) e.branches)).branches
      → new ≡ its_new w t r ask k found
  new_is vs new same is =
      let starts = map started (option_to_list e.start) in
      is ∙ ap (λ (a : Then Address). starts ++ a.branches) (then_is w t r line ask k asking (answer_of vs (length r.kids) e.branches) ∙ ap k (answer_is vs (length r.kids) same refl))
      ∙ ap (λ ts. ts ++ (k (its_answer w t r ask k found)).branches) (starts_by e.start has.starts)

  tables_is : (now : List (List Progress)) → now ≡ more_tables e.processors w.threads → now ≡ tables w t r ask k found
  tables_is now is = is ∙ ap (λ n. more_tables n w.threads) has.processors

  -- what is left after the answer
  left_is : (vs : List RustValue) (first : ℕ) (c : Thread Address) → map value_of vs ≡ values_of e.found → first ≡ length r.kids
      → c ≡ (after (move w.code r.thread) (answer_of vs first e.branches)).left → c ≡ (k (its_answer w t r ask k found)).left
  left_is vs first c same counted is =
      is ∙ ap (λ (a : Then Address). a.left) (then_is w t r line ask k asking (answer_of vs first e.branches) ∙ ap k (answer_is vs first same counted))

  -- the threads after others were made, and their numbers
  module _ (now : List (List Progress)) (home : ℕ) (new : List (Thread Address)) (grown : now ≡ tables w t r ask k found)
      (homed : home ≡ new_home w t r ask k found) (made : new ≡ its_new w t r ask k found) where
    pushed_is : push_all now home (settle_all w.code new)
        ≡ push_all (tables w t r ask k found) (new_home w t r ask k found) (settle_all w.code (its_new w t r ask k found))
    pushed_is = cc (grown, homed, made)

    kids_are : numbers_on home (made_in now home) new ≡ new_numbers w t r ask k found
    kids_are = cc (grown, homed, made)

    next_is : (next : ThreadNo) → next ≡ record { processor = home; thread = made_in now home }
        → next ≡ record { processor = new_home w t r ask k found; thread = made_in (tables w t r ask k found) (new_home w t r ask k found) }
    next_is next is = cc (is, grown, homed)

  -- The thread as f, after its kids and the function that it enters or leaves are noted.
  module _ (f : Runner) (kids : List ThreadNo)
      (noted : f ≡ record { thread = r.thread; asked = r.asked; kids = r.kids ++ kids; inside = inside_after e.entry r.inside })
      (numbered : kids ≡ new_numbers w t r ask k found) where
    inside_is : f.inside ≡ (its_effect w t r ask k found).inside
    inside_is = ap (λ (x : Runner). x.inside) noted ∙ has.inside

    kids_is : f.kids ≡ r.kids ++ new_numbers w t r ask k found
    kids_is = ap (λ (x : Runner). x.kids) noted ∙ ap (λ ts. r.kids ++ ts) numbered

    thread_is : f.thread ≡ r.thread
    thread_is = ap (λ (x : Runner). x.thread) noted

    -- It stands at a remote call.
    calling_is : (next : ThreadNo) → e.calls ≡ true
        → next ≡ record { processor = new_home w t r ask k found; thread = made_in (tables w t r ask k found) (new_home w t r ask k found) }
        → Goes (record { thread = f.thread; asked = Some next; kids = f.kids; inside = f.inside }) ≡ itself w t r ask k found e.calls
    calling_is next calls is =
        let goes : Thread Address → ThreadNo → List ThreadNo → List (ℕ × Value Address) → Progress = λ c n ts es.
        Goes (record { thread = c; asked = Some n; kids = ts; inside = es }) in
        let itself_is : itself w t r ask k found e.calls ≡ itself w t r ask k found true = ap (itself w t r ask k found) calls in
        cc (thread_is, is, kids_is, inside_is, itself_is)

    -- It goes on after its silent moves.
    going_is : (vs : List RustValue) (first : ℕ) (c : Thread Address) → map value_of vs ≡ values_of e.found → first ≡ length r.kids → e.calls ≡ false
        → r.asked ≡ None → (IsAsk (move w.code f.thread) → c ≡ (after (move w.code f.thread) (answer_of vs first e.branches)).left)
        → settle w.code (record { thread = c; asked = f.asked; kids = f.kids; inside = f.inside }) ≡ itself w t r ask k found e.calls
    going_is vs first c same counted calls unasked left =
        let on : Thread Address → Option ThreadNo → List ThreadNo → List (ℕ × Value Address) → Progress = λ d n ts es.
        settle w.code (record { thread = d; asked = n; kids = ts; inside = es }) in
        let at : IsAsk (move w.code f.thread) = subst (λ d. IsAsk (move w.code d)) (sym thread_is) (is_ask w t r line ask k asking) in
        let gone : c ≡ (k (its_answer w t r ask k found)).left =
        left_is vs first c same counted (left at ∙ ap (λ d. (after (move w.code d) (answer_of vs first e.branches)).left) thread_is) in
        let free : f.asked ≡ None = ap (λ (x : Runner). x.asked) noted ∙ unasked in
        ap (λ d. on d f.asked f.kids f.inside) gone
        ∙ ap (λ n. on (k (its_answer w t r ask k found)).left n f.kids f.inside) free
        ∙ ap (λ ts. on (k (its_answer w t r ask k found)).left None ts f.inside) kids_is
        ∙ ap (on (k (its_answer w t r ask k found)).left None (r.kids ++ new_numbers w t r ask k found)) inside_is
        ∙ sym (ap (itself w t r ask k found) calls)

  -- The machine s has put the thread back, as x.
  applied_is : (made out : List (List Progress)) (y x : Progress) (inside : List (ℕ × Value Address)) (s : Machine)
      → made ≡ push_all (tables w t r ask k found) (new_home w t r ask k found) (settle_all w.code (its_new w t r ask k found))
      → out ≡ put_thread made t y
      → inside ≡ (its_effect w t r ask k found).inside
      → x ≡ itself w t r ask k found e.calls
      → s ≡ record { code = w.code; shelves = freed w.code x inside objects; threads = put_thread out t x; output = text }
      → s ≡ apply w t r ask k found
  applied_is made out y x inside s pushed away within is put =
      let p : x ≡ itself w t r ask k found (is_call ask) = is ∙ ap (itself w t r ask k found) has.calls in
      let twice = put_twice made t y x in
      cc (put, away, twice, pushed, within, p, has.shelves, has.output)

  -- What Rust's parts of a step do: `vs` are the values found; `new` threads are made at `home` on the tables `now`, which are `made` then,
  -- with the numbers `kids`; the thread `l` is taken out of them, and f is that thread after its kids and its function are noted.
  module _ (unasked : r.asked ≡ None) (vs : List RustValue) (home : ℕ) (new : List (Thread Address)) (now made out : List (List Progress))
      (kids : List ThreadNo) (l f : Runner)
      (valued : map value_of vs ≡ values_of e.found)
      (homed : home ≡ home_of t.processor e.start)
      (forked : new ≡ map started (option_to_list e.start) ++ (after (move w.code r.thread) (answer_of vs (length r.kids) e.branches)).branches)
      (grown : now ≡ more_tables e.processors w.threads)
      (pushed : made ≡ push_all now home (settle_all w.code new))
      (numbered : kids ≡ numbers_on home (made_in now home) new)
      (taken : Some l ≡ live_of (thread_in made t))
      (away : out ≡ put_thread made t (Over Void))
      (noted : f ≡ record { thread = l.thread; asked = l.asked; kids = l.kids ++ kids; inside = inside_after e.entry l.inside }) where
    same : l ≡ r
    same =
        let there : thread_in made t ≡ Some (Goes r) =
        ap (λ ts. thread_in ts t) (pushed ∙ ap (λ ts. push_all ts home (settle_all w.code new)) grown)
        ∙ stays_made t (Goes r) e.processors home (settle_all w.code new) w.threads asking.goes in
        let is : Some l ≡ Some r = taken ∙ ap live_of there in
        cc

    at_home : home ≡ new_home w t r ask k found
    at_home = homed ∙ home_is

    all_new : new ≡ its_new w t r ask k found
    all_new = new_is vs new valued forked

    all_tables : now ≡ tables w t r ask k found
    all_tables = tables_is now grown

    all_made : made ≡ push_all (tables w t r ask k found) (new_home w t r ask k found) (settle_all w.code (its_new w t r ask k found))
    all_made = pushed ∙ pushed_is now home new all_tables at_home all_new

    all_kids : kids ≡ new_numbers w t r ask k found
    all_kids = numbered ∙ kids_are now home new all_tables at_home all_new

    noted_on : f ≡ record { thread = r.thread; asked = r.asked; kids = r.kids ++ kids; inside = inside_after e.entry r.inside }
    noted_on =
        noted ∙ ap (λ (x : Runner). let y : Runner = record { thread = x.thread; asked = x.asked; kids = x.kids ++ kids; inside = inside_after e.entry x.inside } in y) same

    pub calls_apply : (next : ThreadNo) → next ≡ record { processor = home; thread = made_in now home } → e.calls ≡ true → (s : Machine)
        → s ≡ record {
          code = w.code;
          shelves = objects;
          output = text;
          threads = put_thread out t (Goes (record { thread = f.thread; asked = Some next; kids = f.kids; inside = f.inside }));
        }
        → s ≡ apply w t r ask k found
    calls_apply next is calls s put =
        applied_is made out (Over Void) (Goes (record { thread = f.thread; asked = Some next; kids = f.kids; inside = f.inside })) f.inside s
        all_made away (inside_is f kids noted_on all_kids)
        (calling_is f kids noted_on all_kids next calls (next_is now home new all_tables at_home all_new next is)) put

    pub goes_apply : (us : List RustValue) → map value_of us ≡ values_of e.found → (first : ℕ) → first ≡ length l.kids → e.calls ≡ false → (c : Thread Address)
        → (IsAsk (move w.code f.thread) → c ≡ (after (move w.code f.thread) (answer_of us first e.branches)).left) → (s : Machine)
        → (let x = settle w.code (record { thread = c; asked = f.asked; kids = f.kids; inside = f.inside }) in s ≡ record {
          code = w.code;
          shelves = freed w.code x f.inside objects;
          threads = put_thread out t x;
          output = text;
        })
        → s ≡ apply w t r ask k found
    goes_apply us sees first counted calls c left s put =
        applied_is made out (Over Void) (settle w.code (record { thread = c; asked = f.asked; kids = f.kids; inside = f.inside })) f.inside s
        all_made away (inside_is f kids noted_on all_kids)
        (going_is f kids noted_on all_kids us first c sees (counted ∙ ap (λ (x : Runner). length x.kids) same) calls unasked left) put
