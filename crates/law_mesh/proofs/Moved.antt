-- Each move of a mesh leaves the machine that it shows, or is the step of a thread of it; and its faults are the machine's.
use Rattle.std.proofs.Common.{◌≡◌, ℕ, List, [], ◌∷◌, ◌++◌, length, Bool, true, false, Option, Some, None, refl, sym, ap, ◌∙◌, subst}
use Rattle.std.proofs.lemmas.Option.{same_Some}
use Rattle.std.specs.Prelude.{is_some, if◌then◌else◌}
use Rattle.global_ptr.specs.declared.ends.FaultKind.{FaultKind}
use Rattle.cc_ops.specs.Values.{Value}
use Rattle.cc_ops.specs.Machine.{Address, Values}
use Rattle.cc_ops.specs.declared.number.ThreadNo.{ThreadNo}
use Rattle.cc_core.specs.Asks.{Ask, Answer}
use Rattle.cc_core.specs.Effects.{numbers, is_call}
use Rattle.cc_code.specs.Code.{Code, Then, Does, move}
use Rattle.cc_code.specs.Settles.{Settles}
use Rattle.code_names.specs.Same.{Pairwise}
use Rattle.numbered_runs.specs.Machine.{Runner, Progress, Goes, thread_in, put_thread, made_in, ended_with}
use Rattle.numbered_runs.specs.Looks.{needs, check_all}
use Rattle.numbered_runs.specs.Effects.{Effect, start_home}
use Rattle.numbered_runs.specs.Stands.{IsAsk}
use Rattle.numbered_runs.specs.Steps.{settle, freed, step, act, act_progress, decide, join, joined, resumed, numbers_on, more_tables}
use Rattle.numbered_runs.specs.Steps as numbered
use Rattle.numbered_runs.proofs.Lists.{pairwise_append}
use Rattle.law_mesh.specs.Spots.{Fiber, Reason, Cell, Lock, Branches, Spot, Active, Parked, Posted, Delayed, Answered, Calling, Called, Gone, Mesh}
use Rattle.law_mesh.specs.Spots.{shown, runs, item_in, verdict, answered, answered_by, with_stranger, strangers, made_of}
use Rattle.law_mesh.specs.Moves.{more_lists, AsksFor, effect_of, stepped, gone_on, values_given, acted, served, call_served, with_value, taken, with_spot}
use Rattle.law_mesh.specs.Moves.{Moves, GoesSilently, Finishes, Acts, Parks, Rouses, Wakes, Holds, Sends, Serves, ServesCall, Delays, ResumesGet, Comes, Tells, Takes}
use Rattle.law_mesh.specs.Moves.{FaultsAt, ActsBadly, ServedBadly, Step, own_step, served_step}
use Rattle.cc_core.specs.Numbers.{Post}
use Rattle.cc_core.specs.Needs.{Verdict, Go, Bad}
use Rattle.numbered_runs.specs.Posts.{posted, posts, move_posts}
use Rattle.law_mesh.specs.Shows.{IsKid, GoesOn, StandsAt, Alike, Shows, IsShown, IsPosted}
use Rattle.law_mesh.proofs.Apply.{apply_is, stepped_is, threads_alike, goes_on, next_alike, gone, after, itself_by, numbers_by, stay_over, all_still_alike}
use Rattle.law_mesh.proofs.Away.{IsPlain, away_plain, call_plain}
use Rattle.law_mesh.proofs.Branches.{ForksNone, moves_fork_none}
use Rattle.law_mesh.proofs.Lists.{item_right, left_put, left_mapped, both_put}
use Rattle.law_mesh.specs.Queues.{OfCell, same_queue, woken}
use Rattle.law_mesh.proofs.Settle.{Asks, does, it_asks, settle_asks, settle_ends, settle_goes, freed_alike, step_is}
use Rattle.law_mesh.proofs.Verdict.{Agrees, verdict_alike}

pub waits_at : (code : Code) (r : Reason) (f : Fiber) → AsksFor code r f → IsAsk (move code f.thread)
waits_at code (Cell a x) f (line, remote, k, e) = it_asks (move code f.thread) _ _ _ e
waits_at code (Lock o) f (line, g, x, vs, k, e, atomic) = it_asks (move code f.thread) _ _ _ e
waits_at code Branches f (line, joined, k, e) = it_asks (move code f.thread) _ _ _ e

module _ (m : Mesh) (threads : List (List Progress)) (shows : Shows m threads) where
  abbrev pub Here : ThreadNo → Spot → Type 0
  Here t p = (x : Progress) × (thread_in threads t ≡ Some x) × Alike m.code threads p x

  pub here : (t : ThreadNo) (p : Spot) → item_in m.spots t ≡ Some p → Here t p
  here t p at = item_right (Alike m.code threads) m.spots threads shows t p at

  -- the mesh alone changes
  unseen : (t : ThreadNo) (p : Spot) → Here t p → IsShown m threads None (with_spot m t p)
  unseen t p h = record {
    threads' = threads;
    follows = refl;
    shows = left_put (Alike m.code threads) m.spots threads t p
        (λ y at. subst (λ z. Alike m.code threads p z) (same_Some h.0 y (sym h.1 ∙ at)) h.2) shows;
  }

  other : (t : ThreadNo) (p q : Spot) → item_in m.spots t ≡ Some p → ((x : Progress) → Alike m.code threads p x → Alike m.code threads q x)
      → IsShown m threads None (with_spot m t q)
  other t p q at keeps = let h = here t p at in unseen t q (h.0, h.1, keeps h.0 h.2)

  -- ---- a thread that asks

  stands : (f : Fiber) (line : ℕ) (ask : Ask Address) (k : Answer Address → Then Address) → move m.code f.thread ≡ Does line ask k → (x : Progress)
      → GoesOn m.code f x → StandsAt m.code None f x
  stands f line ask k asks x g = record {
    kids = g.kids;
    same = g.same;
    is = g.is ∙ settle_asks m.code (runs f None g.kids) line ask k asks;
    asks = it_asks (move m.code f.thread) line ask k asks;
  }

  pub decided : (t : ThreadNo) (f : Fiber) (kids : List ThreadNo) (line : ℕ) (ask : Ask Address) (k : Answer Address → Then Address)
      → move m.code f.thread ≡ Does line ask k → thread_in threads t ≡ Some (Goes (runs f None kids))
      → (v : Verdict Address) → check_all (shown m threads) t.processor (runs f None kids) (needs m.code.shapes ask) ≡ v
      → step (shown m threads) t ≡ decide (shown m threads) t (runs f None kids) line ask k v
  decided t f kids line ask k asks at v e =
      step_is (shown m threads) t (Goes (runs f None kids)) at
      ∙ (ap (act (shown m threads) t (runs f None kids)) asks
      ∙ ap (decide (shown m threads) t (runs f None kids) line ask k) e)

  module _ (t : ThreadNo) (f : Fiber) (line : ℕ) (ask : Ask Address) (k : Answer Address → Then Address) (asks : move m.code f.thread ≡ Does line ask k)
      (x : Progress) (there : thread_in threads t ≡ Some x) (at : StandsAt m.code None f x) where
    goes : thread_in threads t ≡ Some (Goes (runs f None at.kids))
    goes = there ∙ ap (λ y. Some y) at.is

    agrees : (v : Verdict Address) → verdict m t.processor f ask ≡ v → Agrees v (check_all (shown m threads) t.processor (runs f None at.kids) (needs m.code.shapes ask))
    agrees v e = subst (λ u. Agrees u (check_all (shown m threads) t.processor (runs f None at.kids) (needs m.code.shapes ask))) e
        (verdict_alike m threads shows t.processor f at.kids at.same ask)

    pub faulty : (kind : FaultKind) → verdict m t.processor f ask ≡ Bad kind → step (shown m threads) t ≡ numbered.Faults kind line
    faulty kind e = decided t f at.kids line ask k asks goes (Bad kind) (agrees (Bad kind) e)

    module _ (found : Values) (go : verdict m t.processor f ask ≡ Go found) where
      steps : step (shown m threads) t ≡ numbered.Moves (numbered.apply (shown m threads) t (runs f None at.kids) ask k found)
      steps = decided t f at.kids line ask k asks goes (Go found) (agrees (Go found) go)

      abbrev effect : Effect
      effect = effect_of m t.processor f ask found

      abbrev behind : Progress
      behind = gone m threads shows t f at.kids at.same goes ask k found

      abbrev threads-then : Progress → List (List Progress)
      threads-then = after m threads shows t f at.kids at.same goes ask k found

      stepped_so : (post : Option Post) (p : Spot) → is_call ask ≡ false → Alike m.code (threads-then behind) p behind
          → IsShown m threads (Some (record { thread = t; post = post })) (stepped m t.processor f ask k found effect t p)
      stepped_so post p call alike = record {
        threads' = threads-then behind;
        follows = steps ∙ ap numbered.Moves (stepped_is m threads shows t f at.kids at.same goes ask k found p call);
        shows = threads_alike m threads shows t f at.kids at.same goes ask k found p behind alike;
      }

      pub acts_so : is_call ask ≡ false → IsShown m threads (Some (own_step t)) (acted m t f ask k found)
      acts_so call = stepped_so None (Active (gone_on m t.processor f ask k found effect)) call
          (goes_on m threads shows t f at.kids at.same goes ask k found (threads-then behind))

      module _ (more : List (Option ThreadNo)) (plain : IsPlain m t.processor f ask found more) where
        forks_none : (x : Answer Address) → (k x).branches ≡ []
        forks_none = subst ForksNone asks (moves_fork_none m.code f.thread) plain.none

        new_kids : Pairwise IsKid (f.kids ++ more) (at.kids ++ numbers_by m threads shows t f at.kids at.same goes ask k found effect (length f.kids))
        new_kids = pairwise_append IsKid f.kids more at.kids _ at.same
            (subst (λ bs. Pairwise IsKid more (numbers_on (start_home t.processor ask)
            (made_in (more_tables effect.processors threads) (start_home t.processor ask)) (effect.starts ++ bs)))
            (sym (forks_none _)) (plain.kids _ _))

      pub serves_so : (post : Post) → posted ask ≡ Some post → is_call ask ≡ false → IsShown m threads (Some (served_step t post)) (served m t f ask k found)
      serves_so post away call =
          let plain : IsPlain m t.processor f ask found (strangers ask) = away_plain m t.processor f found ask (ap is_some away) call in
          let vs : Values = values_given m t.processor f ask k found effect in
          stepped_so (Some post) (Answered vs f) call
          (subst (λ mv. GoesOn m.code (answered_by f vs mv) behind) (sym asks) (record {
            kids = at.kids ++ numbers_by m threads shows t f at.kids at.same goes ask k found effect (length f.kids);
            same = new_kids (strangers ask) plain;
            is = let all : List ThreadNo = at.kids ++ numbers_by m threads shows t f at.kids at.same goes ask k found effect (length f.kids) in
                ap (λ n. settle m.code (record {
                  thread = (k (record { values = vs; made = numbers (length f.kids) n })).left;
                  asked = None;
                  kids = all;
                  inside = effect.inside;
                })) plain.branches
                ∙ ap (λ inside. settle m.code (record { thread = (k (record { values = vs; made = [] })).left; asked = None; kids = all; inside = inside })) plain.inside;
          }))

      pub calls_so : (post : Post) → is_call ask ≡ true → IsShown m threads (Some (served_step t post)) (call_served m t f ask k found)
      calls_so post call =
          let plain : IsPlain m t.processor f ask found (None ∷ []) = call_plain m t.processor f found ask call in
          let x : Progress = itself_by m threads shows t f at.kids at.same goes ask k found true effect (length f.kids) in
          let h : ℕ = start_home t.processor ask in
          let kid : ThreadNo = record { processor = h; thread = made_of (more_lists effect.processors m.spots) h } in
          let all : List ThreadNo = at.kids ++ numbers_by m threads shows t f at.kids at.same goes ask k found effect (length f.kids) in
          record {
            threads' = threads-then x;
            follows = steps ∙ ap numbered.Moves (apply_is m threads shows t f at.kids at.same goes ask k found true call);
            shows = threads_alike m threads shows t f at.kids at.same goes ask k found (Calling kid f) x (record {
              kids = all;
              same = new_kids (None ∷ []) plain;
              is = ap (λ n. Goes (record { thread = f.thread; asked = Some (record { processor = h; thread = n }); kids = all; inside = effect.inside }))
                  (sym (next_alike m threads shows t f at.kids at.same goes ask k found))
                  ∙ ap (λ inside. Goes (record { thread = f.thread; asked = Some kid; kids = all; inside = inside })) plain.inside;
              asks = it_asks (move m.code f.thread) line ask k asks;
            });
          }

  -- ---- the value of a call is taken

  taken_so : (t : ThreadNo) (f : Fiber) (kid : ThreadNo) (v : Value Address) → Here t (Called kid v f) → IsShown m threads (Some (own_step t)) (taken m t f v)
  taken_so t f kid v (x, there, (at, over)) =
      let a : Asks (move m.code f.thread) = does (move m.code f.thread) at.asks in
      let r : Runner = runs (with_stranger f) (Some kid) at.kids in
      let y : Progress = resumed (shown m threads) r a.goes v in
      let goes : thread_in threads t ≡ Some (Goes r) = there ∙ ap (λ z. Some z) at.is in
      let left : (a.goes (record { values = v ∷ []; made = [] })).left ≡ (answered m.code f (v ∷ [])).thread =
      ap (λ mv. (answered_by f (v ∷ []) mv).thread) (sym a.is) in
      let is : y ≡ settle m.code (runs (with_value m.code f v) None at.kids) =
      ap (λ c. settle m.code (record { thread = c; asked = None; kids = at.kids; inside = f.inside })) left in
      record {
        threads' = put_thread threads t y;
        follows =
            step_is (shown m threads) t (Goes r) goes
            ∙ (ap (act (shown m threads) t r) a.is
            ∙ (ap (join (shown m threads) t r a.goes) over
            ∙ ap (λ shelves. numbered.Moves (record { code = m.code; shelves = shelves; threads = put_thread threads t y; output = m.output }))
            (ap (λ z. freed m.code z f.inside m.shelves) is
            ∙ freed_alike m.code (with_value m.code f v).thread None None at.kids [] f.inside f.inside f.inside m.shelves)));
        shows = both_put (Alike m.code (put_thread threads t y)) m.spots threads t (Active (with_value m.code f v)) y
            (record { kids = at.kids; same = at.same; is = is })
            (all_still_alike m.code threads (put_thread threads t y) (stay_over threads t r y 0 0 [] goes) m.spots threads shows);
      }

  told_so : (t : ThreadNo) (f : Fiber) (kid : ThreadNo) (v : Value Address) → Here t (Calling kid f) → Here kid (Gone v)
      → IsShown m threads None (with_spot m t (Called kid v f))
  told_so t f kid v (x, there, at) (y, ended, over) =
      unseen t (Called kid v f) (x, there, (at, ap ended_with (ended ∙ ap (λ z. Some z) over)))

  waits_so : (t : ThreadNo) (f : Fiber) (r : Reason) → AsksFor m.code r f → Here t (Active f) → IsShown m threads None (with_spot m t (Parked r f))
  waits_so t f r for (x, there, g) =
      let a : Asks (move m.code f.thread) = does (move m.code f.thread) (waits_at m.code r f for) in
      unseen t (Parked r f) (x, there, (stands f a.line a.ask a.goes a.is x g, for))

  pub roused_so : (f : Fiber) (x : Progress) → StandsAt m.code None f x → GoesOn m.code f x
  roused_so f x at =
      let a : Asks (move m.code f.thread) = does (move m.code f.thread) at.asks in
      record { kids = at.kids; same = at.same; is = at.is ∙ sym (settle_asks m.code (runs f None at.kids) a.line a.ask a.goes a.is) }

  woken_so : (a : Address) (o : ℕ) (p : Spot) (x : Progress) → Alike m.code threads p x → Alike m.code threads (woken a o p) x
  woken_so a o (Active f) x g = g
  woken_so a o (Parked (Cell b y) f) x g = by (same_queue (OfCell b y) (OfCell a o))
    where
      by : (c : Bool) → Alike m.code threads (if c then Active f else Parked (Cell b y) f) x
      by true = roused_so f x g.0
      by false = g
  woken_so a o (Parked (Lock b) f) x g = g
  woken_so a o (Parked Branches f) x g = g
  woken_so a o (Posted f) x g = g
  woken_so a o (Delayed b y f) x g = by (same_queue (OfCell b y) (OfCell a o))
    where
      by : (c : Bool) → Alike m.code threads (if c then Posted f else Delayed b y f) x
      by true = g.0
      by false = g
  woken_so a o (Answered vs f) x g = g
  woken_so a o (Calling kid f) x g = g
  woken_so a o (Called kid v f) x g = g
  woken_so a o (Gone v) x g = g

  module _ (settles : (b : ℕ) → Settles m.code b) where
    pub move_shown : (l : Option Step) (m' : Mesh) → Moves m l m' → IsShown m threads l m'
    move_shown _ _ (GoesSilently t f c at e) = other t (Active f) _ at (λ x g. record {
      kids = g.kids;
      same = g.same;
      is = g.is ∙ settle_goes m.code settles (runs f None g.kids) c e;
    })
    move_shown _ _ (Finishes t f v at e) = other t (Active f) _ at (λ x g. g.is ∙ settle_ends m.code (runs f None g.kids) v e)
    move_shown _ _ (Acts t f line ask k found asking own call go) =
        let h = here t (Active f) asking.at in
        acts_so t f line ask k asking.asks h.0 h.1 (stands f line ask k asking.asks h.0 h.2) found go call
    move_shown _ _ (Parks t f r at for) = waits_so t f r for (here t (Active f) at)
    move_shown _ _ (Rouses t f r at) = other t (Parked r f) _ at (λ x g. roused_so f x g.0)
    move_shown _ _ (Wakes a o) = record {
      threads' = threads;
      follows = refl;
      shows = left_mapped (Alike m.code threads) (woken a o) (woken_so a o) m.spots threads shows;
    }
    move_shown _ _ (Holds h) = record { threads' = threads; follows = refl; shows = shows }
    move_shown _ _ (Sends t f line ask k asking away) = other t (Active f) _ asking.at (λ x g. stands f line ask k asking.asks x g)
    move_shown _ _ (Serves t f line ask k found post asking away call go) =
        let h = here t (Posted f) asking.at in serves_so t f line ask k asking.asks h.0 h.1 h.2 found go post away call
    move_shown _ _ (ServesCall t f line ask k found post asking away call go) =
        let h = here t (Posted f) asking.at in calls_so t f line ask k asking.asks h.0 h.1 h.2 found go post call
    move_shown _ _ (Delays t f a o at for) = other t (Posted f) _ at (λ x g. (g, for))
    move_shown _ _ (ResumesGet t f a o at) = other t (Delayed a o f) _ at (λ x g. g.0)
    move_shown _ _ (Comes t f vs at) = other t (Answered vs f) _ at (λ x g. g)
    move_shown _ _ (Tells t f kid v at ended) = told_so t f kid v (here t (Calling kid f) at) (here kid (Gone v) ended)
    move_shown _ _ (Takes t f kid v at) = taken_so t f kid v (here t (Called kid v f) at)

  -- ---- what a step posts

  stood : (asked : Option ThreadNo) (f : Fiber) (x : Progress) (t : ThreadNo) → thread_in threads t ≡ Some x → StandsAt m.code asked f x
      → posts m.code (thread_in threads t) ≡ move_posts (move m.code f.thread) asked
  stood asked f x t there at = ap (posts m.code) (there ∙ ap (λ z. Some z) at.is)

  pub move_posted : (l : Option Step) (m' : Mesh) → Moves m l m' → IsPosted m.code threads l
  move_posted _ _ (GoesSilently t f c at e) = tt
  move_posted _ _ (Finishes t f v at e) = tt
  move_posted _ _ (Acts t f line ask k found asking own call go) =
      let h = here t (Active f) asking.at in
      stood None f h.0 t h.1 (stands f line ask k asking.asks h.0 h.2) ∙ (ap (λ mv. move_posts mv None) asking.asks ∙ own)
  move_posted _ _ (Parks t f r at for) = tt
  move_posted _ _ (Rouses t f r at) = tt
  move_posted _ _ (Wakes a o) = tt
  move_posted _ _ (Holds h) = tt
  move_posted _ _ (Sends t f line ask k asking away) = tt
  move_posted _ _ (Serves t f line ask k found post asking away call go) =
      let h = here t (Posted f) asking.at in stood None f h.0 t h.1 h.2 ∙ (ap (λ mv. move_posts mv None) asking.asks ∙ away)
  move_posted _ _ (ServesCall t f line ask k found post asking away call go) =
      let h = here t (Posted f) asking.at in stood None f h.0 t h.1 h.2 ∙ (ap (λ mv. move_posts mv None) asking.asks ∙ away)
  move_posted _ _ (Delays t f a o at for) = tt
  move_posted _ _ (ResumesGet t f a o at) = tt
  move_posted _ _ (Comes t f vs at) = tt
  move_posted _ _ (Tells t f kid v at ended) = tt
  move_posted _ _ (Takes t f kid v at) =
      let h = here t (Called kid v f) at in
      let a : Asks (move m.code f.thread) = does (move m.code f.thread) h.2.0.asks in
      stood (Some kid) (with_stranger f) h.0 t h.1 h.2.0 ∙ ap (λ mv. move_posts mv (Some kid)) a.is

  pub fault_shown : (t : ThreadNo) (kind : FaultKind) (line : ℕ) → FaultsAt m t kind line → step (shown m threads) t ≡ numbered.Faults kind line
  fault_shown t kind line (ActsBadly f ask k asking bad) =
      let h = here t (Active f) asking.at in
      faulty t f line ask k asking.asks h.0 h.1 (stands f line ask k asking.asks h.0 h.2) kind bad
  fault_shown t kind line (ServedBadly f ask k asking bad) =
      let h = here t (Posted f) asking.at in faulty t f line ask k asking.asks h.0 h.1 h.2 kind bad
