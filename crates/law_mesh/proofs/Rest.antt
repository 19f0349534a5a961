-- Where a mesh is idle, no thread of the machine that it shows can move, and as many go on.
use Rattle.std.proofs.Common.{◌≡◌, inl, inr, ⊎_elim, ℕ, suc, ◌+◌, List, [], ◌∷◌, Bool, true, false, ◌&&◌, Option, Some, None, refl, sym, ap, ◌∙◌}
use Rattle.std.specs.Prelude.{slice_get, if◌then◌else◌, is_some}
use Rattle.std.specs.Option.{option_and_then}
use Rattle.cc_ops.specs.Values.{Value, Ptr, Empty}
use Rattle.cc_ops.specs.Machine.{Address}
use Rattle.cc_core.specs.Asks.{Ask, Answer, Reads, Enters, Joins}
use Rattle.cc_core.specs.Core.{function_shape}
use Rattle.cc_core.specs.Needs.{Verdict, Go, Hold, and_also, read, Deeper, Slots}
use Rattle.cc_ops.specs.Classes.{arity}
use Rattle.cc_ops.specs.declared.number.ThreadNo.{ThreadNo}
use Rattle.cc_ops.specs.Shelves.{cell_in, is_held}
use Rattle.cc_code.specs.Code.{Then, Does, move}
use Rattle.code_names.specs.Same.{Pairwise}
use Rattle.numbered_runs.specs.Machine.{Runner, Progress, Goes, Over, thread_in, ended_with, going, all_going}
use Rattle.numbered_runs.specs.Looks.{needs, check_all, has_ended, all_ended}
use Rattle.numbered_runs.specs.Steps.{act, join}
use Rattle.numbered_runs.proofs.Lists.{pairwise_right}
use Rattle.law_mesh.specs.Spots.{Fiber, Cell, Lock, Branches, Spot, Active, Parked, Delayed, Calling, Gone, Mesh, shown, runs, item_in, with_stranger}
use Rattle.law_mesh.specs.Moves.{AsksFor}
use Rattle.law_mesh.specs.Rest.{IsStill, IsLive, Lives, OneLives, StillWaits, InOrder, IsIdle, living, all_living}
use Rattle.law_mesh.specs.Shows.{IsKid, StandsAt, Alike, Shows, CannotMove}
use Rattle.law_mesh.proofs.Lists.{item_left, item_right}
use Rattle.law_mesh.proofs.Moved.{decided}
use Rattle.law_mesh.proofs.Settle.{Asks, does, step_is, step_gone}

module _ (m : Mesh) (threads : List (List Progress)) (shows : Shows m threads) where
  module _ (t : ThreadNo) (f : Fiber) (x : Progress) (there : thread_in threads t ≡ Some x) (at : StandsAt m.code None f x) where
    held_up : (line : ℕ) (ask : Ask Address) (k : Answer Address → Then Address) → move m.code f.thread ≡ Does line ask k
        → check_all (shown m threads) t.processor (runs f None at.kids) (needs m.code.shapes ask) ≡ Hold → CannotMove (shown m threads) t
    held_up line ask k asks e =
        inl (decided m threads shows t f at.kids line ask k asks (there ∙ ap (λ y. Some y) at.is) Hold e)

    at_cell : (a : Address) (o : ℕ) → AsksFor m.code (Cell a o) f → cell_in m.shelves a o ≡ Some Empty → CannotMove (shown m threads) t
    at_cell a o (line, remote, k, asks) empty =
        held_up line (Reads remote (Ptr a o)) k asks (ap (λ c. and_also (read c) (Go [])) empty)

    at_lock : (o : Address) → AsksFor m.code (Lock o) f → is_held m.shelves (Ptr o 0) ≡ true → CannotMove (shown m threads) t
    at_lock o (line, g, i, vs, k, asks, atomic) held =
        held_up line (Enters g (Ptr o i) vs) k asks
        (ap (λ b. and_also (Go []) (and_also (if b && is_held m.shelves (Ptr o i) then Hold else Go []) (rest g))) atomic
        ∙ ap (λ b. and_also (Go []) (and_also (if b then Hold else Go []) (rest g))) held)
      where
        rest : ℕ → Verdict Address
        rest g = check_all (shown m threads) t.processor (runs f None at.kids) (Deeper ∷ Slots (arity (function_shape m.code.shapes g).params) ∷ [])

  module _ (order : InOrder m) (idle : IsIdle m) where
    lives_on : (t : ThreadNo) → Lives m t → ended_with (thread_in threads t) ≡ None
    lives_on t (p, at, live) =
        let h = item_right (Alike m.code threads) m.spots threads shows t p at in
        ap ended_with h.1 ∙ at_spot p h.0 (idle t p at) live h.2
      where
        at_spot : (s : Spot) (x : Progress) → IsStill s → IsLive s → Alike m.code threads s x → ended_with (Some x) ≡ None
        at_spot (Parked r f) x still live h = ap (λ y. ended_with (Some y)) h.0.is
        at_spot (Delayed a o f) x still live h = ap (λ y. ended_with (Some y)) h.0.is
        at_spot (Calling kid f) x still live h = ap (λ y. ended_with (Some y)) h.is
        at_spot (Gone v) x still live h = absurd live
        at_spot s x still live h = absurd still

    -- a branch that lives has not ended
    kid_goes : (f : Fiber) (kids : List ThreadNo) → Pairwise IsKid f.kids kids → (k : ℕ) (u : ThreadNo) → slice_get f.kids k ≡ Some (Some u)
        → Lives m u → has_ended threads kids k ≡ false
    kid_goes f kids same k u at live =
        let r = pairwise_right IsKid f.kids kids same k (Some u) at in
        ap (λ o. is_some (ended_with (option_and_then (thread_in threads) o))) (r.1 ∙ ap (λ v. Some v) (sym r.2))
        ∙ ap (λ o. is_some o) (lives_on u live)

    first_false : (a b : Bool) → a ≡ false → a && b ≡ false
    first_false true b e = let no : true ≡ false = e in cc
    first_false false b e = refl

    last_false : (a b : Bool) → b ≡ false → a && b ≡ false
    last_false true b e = e
    last_false false b e = refl

    not_all : (f : Fiber) (kids : List ThreadNo) → Pairwise IsKid f.kids kids → (made : List ℕ) → OneLives m f.kids made
        → all_ended threads kids made ≡ false
    not_all f kids same [] one = absurd one
    not_all f kids same (k ∷ ks) one = ⊎_elim
        (λ (l : (u : ThreadNo) × (slice_get f.kids k ≡ Some (Some u)) × Lives m u).
        first_false (has_ended threads kids k) (all_ended threads kids ks) (kid_goes f kids same k l.0 l.1 l.2))
        (λ (more : OneLives m f.kids ks). last_false (has_ended threads kids k) (all_ended threads kids ks) (not_all f kids same ks more))
        one

    held_at_rest : (o : Address) (i : ThreadNo) → m.holder o ≡ Some i → is_held m.shelves (Ptr o 0) ≡ true
    held_at_rest o i h = ⊎_elim
        (λ (held : is_held m.shelves (Ptr o 0) ≡ true). held)
        (λ (going : (f : Fiber) × (item_in m.spots i ≡ Some (Active f)) × AsksFor m.code (Lock o) f). absurd (idle i (Active going.0) going.1))
        (order.holds o i h)

    called_waits : (t : ThreadNo) (f : Fiber) (kid : ThreadNo) (x : Progress) → thread_in threads t ≡ Some x
        → StandsAt m.code (Some kid) (with_stranger f) x → Lives m kid → CannotMove (shown m threads) t
    called_waits t f kid x there at live =
        let a : Asks (move m.code f.thread) = does (move m.code f.thread) at.asks in
        let r : Runner = runs (with_stranger f) (Some kid) at.kids in
        inl (step_is (shown m threads) t (Goes r) (there ∙ ap (λ y. Some y) at.is)
        ∙ (ap (act (shown m threads) t r) a.is ∙ ap (join (shown m threads) t r a.goes) (lives_on kid live)))

    stuck_at : (t : ThreadNo) (x : Progress) → thread_in threads t ≡ Some x → (s : Spot) → IsStill s → StillWaits m s → Alike m.code threads s x
        → CannotMove (shown m threads) t
    stuck_at t x there (Parked (Cell a o) f) still waits h = at_cell t f x there h.0 a o h.1 waits
    stuck_at t x there (Parked (Lock o) f) still waits h = at_lock t f x there h.0 o h.1 (held_at_rest o waits.0 waits.1)
    stuck_at t x there (Parked Branches f) still waits h =
        held_up t f x there h.0 waits.line (Joins waits.made) waits.goes waits.asks
        (ap (λ b. and_also (if b then Go [] else Hold) (Go [])) (not_all f h.0.kids h.0.same waits.made waits.lives))
    stuck_at t x there (Delayed a o f) still waits h = at_cell t f x there h.0 a o h.1 waits
    stuck_at t x there (Calling kid f) still waits h = called_waits t f kid x there h waits
    stuck_at t x there (Gone v) still waits h = inr (step_is (shown m threads) t (Over v) (there ∙ ap (λ y. Some y) h))
    stuck_at t x there s still waits h = absurd still

    by_progress : (t : ThreadNo) (o : Option Progress) → thread_in threads t ≡ o → CannotMove (shown m threads) t
    by_progress t None e = inr (step_gone (shown m threads) t e)
    by_progress t (Some x) e =
        let h = item_left (Alike m.code threads) m.spots threads shows t x e in
        stuck_at t x e h.0 (idle t h.0 h.1) (order.waits t h.0 h.1) h.2

    pub none_moves : (t : ThreadNo) → CannotMove (shown m threads) t
    none_moves t = by_progress t (thread_in threads t) refl

    -- ---- as many go on

    one_counted : (s : Spot) (x : Progress) → IsStill s → Alike m.code threads s x → (ps : List Spot) (xs : List Progress) → going xs ≡ living ps
        → going (x ∷ xs) ≡ living (s ∷ ps)
    one_counted (Parked r f) x still h ps xs e = ap (λ y. going (y ∷ xs)) h.0.is ∙ ap suc e
    one_counted (Delayed a o f) x still h ps xs e = ap (λ y. going (y ∷ xs)) h.0.is ∙ ap suc e
    one_counted (Calling kid f) x still h ps xs e = ap (λ y. going (y ∷ xs)) h.is ∙ ap suc e
    one_counted (Gone v) x still h ps xs e = ap (λ y. going (y ∷ xs)) h ∙ e
    one_counted s x still h ps xs e = absurd still

    row_counted : (ps : List Spot) (xs : List Progress) → Pairwise (Alike m.code threads) ps xs
        → ((i : ℕ) (p : Spot) → slice_get ps i ≡ Some p → IsStill p) → going xs ≡ living ps
    row_counted [] [] h still = refl
    row_counted [] (x ∷ xs) h still = absurd h
    row_counted (p ∷ ps) [] h still = absurd h
    row_counted (p ∷ ps) (x ∷ xs) h still =
        one_counted p x (still 0 p refl) h.0 ps xs (row_counted ps xs h.1 (λ i s e. still (suc i) s e))

    rows_counted : (us : List (List Spot)) (vs : List (List Progress)) → Pairwise (Pairwise (Alike m.code threads)) us vs
        → ((t : ThreadNo) (p : Spot) → item_in us t ≡ Some p → IsStill p) → all_going vs ≡ all_living us
    rows_counted [] [] h still = refl
    rows_counted [] (v ∷ vs) h still = absurd h
    rows_counted (u ∷ us) [] h still = absurd h
    rows_counted (u ∷ us) (v ∷ vs) h still =
        ap (λ n. n + all_going vs) (row_counted u v h.0 (λ i p e. still (record { processor = 0; thread = i }) p e))
        ∙ ap (λ n. living u + n) (rows_counted us vs h.1 (λ t p e. still (record { processor = suc t.processor; thread = t.thread }) p e))

    pub all_counted : all_going threads ≡ all_living m.spots
    all_counted = rows_counted m.spots threads shows idle

  -- the value of a thread that has ended
  pub end_shown : (t : ThreadNo) (v : Value Address) → item_in m.spots t ≡ Some (Gone v) → ended_with (thread_in threads t) ≡ Some v
  end_shown t v at =
      let h = item_right (Alike m.code threads) m.spots threads shows t (Gone v) at in
      ap ended_with h.1 ∙ ap (λ y. ended_with (Some y)) h.2
