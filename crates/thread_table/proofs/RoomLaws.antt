-- A list with room for the threads that are not in it keeps room.
use Rattle.std.proofs.Common.{◌≡◌, ◌≢◌, ℕ, zero, suc, ◌+◌, ◌≤◌, ◌==◌, ◌&&◌, not, Bool, true, false, cond, List, [], ◌∷◌, ◌++◌, length, get_or, set, is_some, Option, Some, None, refl, sym, ◌∙◌, ap, subst, ⊎_elim, zero-add, add-zero, arith}
use Rattle.std.specs.List.{slice_get, list_any, remove}
use Rattle.std.specs.Option.{option_map}
use Rattle.std.proofs.lemmas.Bool.{cases_eq, true≢false, eq-eqb, ne_eqb, or_left, or_right, or_cases}
use Rattle.std.proofs.lemmas.List.{length-set}
use Rattle.std.proofs.lemmas.Option.{none-some, same_Some}
use Rattle.std.proofs.lemmas.List.Folds.{list_any-append}
use Rattle.global_ptr.specs.ReadyList.{ReadyList, Takes}
use Rattle.global_ptr.specs.declared.values.Waiter.{Waiter}
use Rattle.global_ptr.specs.declared.values.Waiter.TheVariants.{Thread, Asked}
use Rattle.global_ptr.specs.declared.values.Value.{Value}
use Rattle.thread_table.specs.declared.frame.Asker.{Asker}
use Rattle.thread_table.specs.declared.frame.Frame.{Frame}
use Rattle.thread_table.specs.LiveThread.{LiveThread, new_thread, in_innermost, one_more, picked}
use Rattle.thread_table.specs.Numbers.{thread_at}
use Rattle.thread_table.specs.Table.{Table, changed, is_thread, away_from, away, HasRoom, without, forked, parent_of, spawned, picked_in}

-- each live thread lived before
abbrev pub LiveBefore : Table → Table → Type 0
LiveBefore old new = (i : ℕ) → is_some (get_or new i None) ≡ true → is_some (get_or old i None) ≡ true

abbrev pub has : List Waiter → ℕ → Bool
has ws n = list_any (is_thread n) ws

-- whether a thread lives and is not in a list, as a number
abbrev pub bit : Bool → Bool → ℕ
bit lives listed = cond (lives && not listed) 1 0

fewer_bit : (x y : Bool) (ws vs : Bool) → (y ≡ true → x ≡ true) → (ws ≡ true → vs ≡ true) → bit y vs ≤ bit x ws
fewer_bit x false ws vs lives kept = omega arith
fewer_bit x true ws true lives kept = omega arith
fewer_bit true true false false lives kept = omega arith
fewer_bit true true true false lives kept = absurd (true≢false (sym (kept refl)))
fewer_bit false true ws false lives kept = absurd (true≢false (sym (lives refl)))

bit_le : (x : Bool) (ws vs : Bool) → bit x vs ≤ bit x ws + 1
bit_le false ws vs = omega arith
bit_le true ws true = omega arith
bit_le true ws false = omega arith

fewer_away : (n : ℕ) (xs ys : Table) (ws vs : List Waiter) → length ys ≡ length xs → LiveBefore xs ys
    → ((i : ℕ) → n ≤ i → has ws i ≡ true → has vs i ≡ true) → away_from n ys vs ≤ away_from n xs ws
fewer_away n [] [] ws vs same lives kept = omega arith
fewer_away n (x ∷ xs) [] ws vs same lives kept = omega arith
fewer_away n [] (y ∷ ys) ws vs same lives kept = absurd (omega arith)
fewer_away n (x ∷ xs) (y ∷ ys) ws vs same lives kept =
    omega (
      arith,
      fewer_bit (is_some x) (is_some y) (has ws n) (has vs n) (lives 0) (kept n (omega arith)),
      fewer_away (suc n) xs ys ws vs (omega arith) (λ i. lives (suc i)) (λ i above. kept i (omega arith)),
    )

-- at most one thread more is away where at most one left the list
one_more_away : (n : ℕ) (xs : Table) (ws vs : List Waiter) (k : ℕ) → ((i : ℕ) → i ≢ k → has ws i ≡ true → has vs i ≡ true)
    → away_from n xs vs ≤ away_from n xs ws + 1
one_more_away n [] ws vs k kept = omega arith
one_more_away n (x ∷ xs) ws vs k kept = ⊎_elim
    (λ (same : n ≡ k).
    omega (
      arith,
      bit_le (is_some x) (has ws n) (has vs n),
      fewer_away (suc n) xs xs ws vs refl (λ i is. is) (λ i above. kept i (λ here. omega arith)),
    ))
    (λ (differs : n ≢ k).
    omega (arith, fewer_bit (is_some x) (is_some x) (has ws n) (has vs n) (λ is. is) (kept n differs), one_more_away (suc n) xs ws vs k kept))
    (cases_eq n k)

-- ---- tables

pub live_changed : (xs : Table) (n i : ℕ) (f : LiveThread → LiveThread) → is_some (get_or (set xs n (option_map f (get_or xs n None))) i None) ≡ is_some (get_or xs i None)
live_changed [] n i f = refl
live_changed (None ∷ xs) zero zero f = refl
live_changed (Some t ∷ xs) zero zero f = refl
live_changed (x ∷ xs) zero (suc i) f = refl
live_changed (x ∷ xs) (suc n) zero f = refl
live_changed (x ∷ xs) (suc n) (suc i) f = live_changed xs n i f

live_without : (xs : Table) (n : ℕ) → LiveBefore xs (without xs n)
live_without [] n i is = is
live_without (x ∷ xs) zero zero is = absurd (true≢false (sym is))
live_without (x ∷ xs) zero (suc i) is = is
live_without (x ∷ xs) (suc n) zero is = is
live_without (x ∷ xs) (suc n) (suc i) is = live_without xs n i is

pub fewer-changed : (table : Table) (n : ℕ) (f : LiveThread → LiveThread) (ws vs : List Waiter) → ((i : ℕ) → has ws i ≡ true → has vs i ≡ true)
    → away (changed table n f) vs ≤ away table ws
fewer-changed table n f ws vs kept =
    fewer_away 0 table (changed table n f) ws vs (length-set table n (option_map f (thread_at table n))) (λ i is. sym (live_changed table n i f) ∙ is) (λ i above. kept i)

fewer-without : (table : Table) (n : ℕ) (ws : List Waiter) → away (without table n) ws ≤ away table ws
fewer-without table n ws = fewer_away 0 table (without table n) ws ws (length-set table n None) (live_without table n) (λ i above is. is)

-- ---- a new thread, which stands last in both

away-push : (n : ℕ) (xs : Table) (t : LiveThread) (ws : List Waiter) → has ws (n + length xs) ≡ true → away_from n (xs ++ Some t ∷ []) ws ≡ away_from n xs ws
away-push n [] t ws listed =
    let last : has ws n ≡ true = rw add-zero at listed in omega (arith, ap {B = ℕ} (bit true) last)
away-push n (x ∷ xs) t ws listed =
    let next : n + suc (length xs) ≡ suc n + length xs = omega arith in
    ap (λ rest. bit (is_some x) (has ws n) + rest) (away-push (suc n) xs t ws (subst (λ i. has ws i ≡ true) next listed))

kept-push : (ws : List Waiter) (w : Waiter) (i : ℕ) → has ws i ≡ true → has (ws ++ w ∷ []) i ≡ true
kept-push ws w i is = list_any-append (is_thread i) ws (w ∷ []) ∙ or_left (has ws i) (has (w ∷ []) i) is

listed-push : (ws : List Waiter) (n : ℕ) → has (ws ++ Thread n ∷ []) n ≡ true
listed-push ws n = list_any-append (is_thread n) ws (Thread n ∷ []) ∙ or_right (has ws n) (has (Thread n ∷ []) n) (or_left (n == n) false (eq-eqb n n refl))

pub length-forked : (table : Table) (parent : Option ℕ) → length (forked table parent) ≡ length table
length-forked table None = refl
length-forked table (Some p) = length-set table p (option_map (in_innermost (one_more (length table))) (thread_at table p))

fewer-forked : (table : Table) (parent : Option ℕ) (ws vs : List Waiter) → ((i : ℕ) → has ws i ≡ true → has vs i ≡ true) → away (forked table parent) vs ≤ away table ws
fewer-forked table None ws vs kept = fewer_away 0 table table ws vs refl (λ i is. is) (λ i above. kept i)
fewer-forked table (Some p) ws vs kept = fewer-changed table p (in_innermost (one_more (length table))) ws vs kept

pub HasRoom-spawned : (table : Table) (frame : Frame) (args : List Value) (parent : Option ℕ) (asker : Option Asker) (old new : ReadyList)
    → new.waiters ≡ old.waiters ++ Thread (length table) ∷ [] → new.spare ≡ old.spare → (more : ℕ) → HasRoom table old more
    → HasRoom (spawned table frame args parent asker) new more
HasRoom-spawned table frame args parent asker old new waiters spare more room =
    let ws = old.waiters ++ Thread (length table) ∷ [] in
    let listed : has ws (0 + length (forked table parent)) ≡ true =
    subst (λ i. has ws i ≡ true) (sym (zero-add (length (forked table parent)) ∙ length-forked table parent)) (listed-push old.waiters (length table)) in
    record {
      kept = rw (waiters, spare) (omega (
        arith,
        room.kept,
        away-push 0 (forked table parent) (new_thread frame args (parent_of table parent) asker) ws listed,
        fewer-forked table parent old.waiters ws (λ i. kept-push old.waiters (Thread (length table)) i),
      ));
    }

-- ---- a waiter that is taken out

kept-remove : (ws : List Waiter) (place i : ℕ) (w : Waiter) → slice_get ws place ≡ Some w → is_thread i w ≡ false → has ws i ≡ true → has (remove ws place) i ≡ true
kept-remove [] place i w at other is = absurd (none-some w at)
kept-remove (x ∷ ws) zero i w at other is = ⊎_elim
    (λ (here : is_thread i x ≡ true). absurd (true≢false (sym here ∙ ap (is_thread i) (same_Some x w at) ∙ other)))
    (λ (there : has ws i ≡ true). there) (or_cases (is_thread i x) (has ws i) is)
kept-remove (x ∷ ws) (suc place) i w at other is = ⊎_elim
    (λ (here : is_thread i x ≡ true). or_left (is_thread i x) (has (remove ws place) i) here)
    (λ (there : has ws i ≡ true). or_right (is_thread i x) (has (remove ws place) i) (kept-remove ws place i w at other there))
    (or_cases (is_thread i x) (has ws i) is)

fewer-picked : (table : Table) (ws : List Waiter) (place : ℕ) (w : Waiter) → slice_get ws place ≡ Some w → away (picked_in table (Some w)) (remove ws place) ≤ away table ws + 1
fewer-picked table ws place (Thread k) at =
    omega (
      arith,
      fewer-changed table k picked (remove ws place) (remove ws place) (λ i is. is),
      one_more_away 0 table ws (remove ws place) k (λ i differs. kept-remove ws place i (Thread k) at (ne_eqb k i (λ same. differs (sym same)))),
    )
fewer-picked table ws place (Asked from ticket spot) at =
    omega (arith, fewer_away 0 table table ws (remove ws place) refl (λ i is. is) (λ i above. kept-remove ws place i (Asked from ticket spot) at refl))

pub HasRoom-picked : (table : Table) (old new : ReadyList) (place : ℕ) (w : Waiter) → slice_get old.waiters place ≡ Some w → Takes old new place
    → (more : ℕ) → HasRoom table old more → HasRoom (picked_in table (Some w)) new more
HasRoom-picked table old new place w at takes more room = record { kept = rw (takes.waiters, takes.spare) (omega (arith, room.kept, fewer-picked table old.waiters place w at)) }

-- ---- a thread that ends

pub HasRoom-without : (table : Table) (n : ℕ) (ready : ReadyList) (more : ℕ) → HasRoom table ready more → HasRoom (without table n) ready more
HasRoom-without table n ready more room = record { kept = omega (arith, room.kept, fewer-without table n ready.waiters) }

pub HasRoom-changed : (table : Table) (n : ℕ) (f : LiveThread → LiveThread) (ready : ReadyList) (more : ℕ) → HasRoom table ready more → HasRoom (changed table n f) ready more
HasRoom-changed table n f ready more room =
    record { kept = omega (arith, room.kept, fewer-changed table n f ready.waiters ready.waiters (λ i is. is)) }
