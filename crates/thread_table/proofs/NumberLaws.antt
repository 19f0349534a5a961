-- Keys show threads, whatever is changed, made or taken out.
use Rattle.std.proofs.Common.{◌≡◌, ◌≢◌, ◌⊎◌, ℕ, ◌+◌, ◌<◌, ◌≤◌, Bool, cond, List, [], ◌∷◌, ◌++◌, length, get_or, set, count_by, is_some, Option, Some, None, IsSome, refl, sym, ◌∙◌, ap, subst, inl, inr, ⊎_elim, arith}
use Rattle.std.proofs.lemmas.Bool.{cases_eq, cases_lt, le-ltb, true≢false}
use Rattle.std.proofs.lemmas.List.{same_lists, get_or-map, get_or_past, get_or-set_same, get_or-set_other, length-set, length-map, map-append, get_or_append_left, get_or_push, length_push}
use Rattle.std.proofs.lemmas.List.Sums.{sum_by-set, sum_by-append}
use Rattle.std.proofs.lemmas.Option.{none-some}
use Rattle.slab.specs.Slab.{Slab, get, Updates, slab_len, with_value}
use Rattle.slab.proofs.SlabLemmas.{Updates-with_value, ContainsKey-within}
use Rattle.thread_table.specs.LiveThread.{LiveThread}
use Rattle.thread_table.specs.Numbers.{Numbers, thread_at, gone, shown, room_for, IsKept}

-- how many of a list pass, after a write
pub count-set : {A : Type 0} (p : A → Bool) (xs : List A) (n : ℕ) (y d : A) → n < length xs
    → count_by p (set xs n y) + cond (p (get_or xs n d)) 1 0 ≡ count_by p xs + cond (p y) 1 0
count-set p xs n y d within = sum_by-set (λ x. cond (p x) 1 0) xs n y d within

pub count-push : {A : Type 0} (p : A → Bool) (xs : List A) (y : A) → count_by p (xs ++ y ∷ []) ≡ count_by p xs + cond (p y) 1 0
count-push p xs y = sum_by-append (λ x. cond (p x) 1 0) xs (y ∷ []) ∙ omega arith

pub found : {A : Type 0} (o : Option A) → IsSome o → (x : A) × (o ≡ Some x)
found None h = absurd (true≢false (sym h))
found (Some x) h = (x, refl)

-- a number with a thread is one that was made
pub within_threads : (threads : List (Option LiveThread)) (n : ℕ) (t : LiveThread) → thread_at threads n ≡ Some t → n < length threads
within_threads threads n t is = ⊎_elim (λ (within : n < length threads). within)
    (λ (past : length threads ≤ n). absurd (none-some t (sym (get_or_past threads n None past) ∙ is))) (cases_lt n (length threads))

-- where there is room, the next key is none of ended threads
pub room_free : (len capacity : ℕ) (live : Slab LiveThread) → 1 ≤ room_for len capacity live → live.vacant_key ≢ gone
room_free len capacity live room same = absurd (omega (arith, room, rw (le-ltb live.vacant_key gone (omega arith)) at room))

length-shown : (keys : List ℕ) (live : Slab LiveThread) → length (shown keys live) ≡ length keys
length-shown keys live = length-map keys (get live)

module _ (keys : List ℕ) (live : Slab LiveThread) where
  pub shown_at : (n : ℕ) → n < length keys → thread_at (shown keys live) n ≡ get live (get_or keys n 0)
  shown_at n within = get_or-map (get live) keys n 0 None within

  -- a thread that is shown lies under its number's key
  pub under_key : (n : ℕ) (t : LiveThread) → thread_at (shown keys live) n ≡ Some t → (n < length keys) × (get live (get_or keys n 0) ≡ Some t)
  under_key n t is =
      let within : n < length keys = subst (λ m. n < m) (length-shown keys live) (within_threads (shown keys live) n t is) in
      (within, sym (shown_at n within) ∙ is)

  -- one number shows another thread, or none, where the keys of all others show what they did
  pub shown_set : (keys' : List ℕ) (live' : Slab LiveThread) (n : ℕ) (x : Option LiveThread) → length keys' ≡ length keys → n < length keys
      → get live' (get_or keys' n 0) ≡ x → ((m : ℕ) → m < length keys → m ≢ n → get live' (get_or keys' m 0) ≡ get live (get_or keys m 0))
      → shown keys' live' ≡ set (shown keys live) n x
  shown_set keys' live' n x same_length within here others =
      same_lists (shown keys' live') (set (shown keys live) n x)
      (length-shown keys' live' ∙ same_length ∙ sym (length-shown keys live) ∙ sym (length-set (shown keys live) n x))
      (λ m d inside. at_place m d (subst (λ k. m < k) (length-shown keys' live' ∙ same_length) inside) (cases_eq m n))
    where
      at_place : (m : ℕ) (d : Option LiveThread) → m < length keys → (m ≡ n) ⊎ (m ≢ n) → get_or (shown keys' live') m d ≡ get_or (set (shown keys live) n x) m d
      at_place m d inside (inl same) =
          get_or-map (get live') keys' m 0 d (omega arith) ∙ ap (λ k. get live' (get_or keys' k 0)) same ∙ here
          ∙ sym (ap (λ k. get_or (set (shown keys live) n x) k d) same ∙ get_or-set_same (shown keys live) n x d (omega (arith, length-shown keys live)))
      at_place m d inside (inr differs) =
          get_or-map (get live') keys' m 0 d (omega arith) ∙ others m inside differs
          ∙ sym (get_or-set_other (shown keys live) n m x d differs ∙ get_or-map (get live) keys m 0 d inside)

-- how many live, after one is replaced or has ended
count_replaced : (threads : List (Option LiveThread)) (n : ℕ) (t w : LiveThread) → thread_at threads n ≡ Some t → count_by is_some (set threads n (Some w)) ≡ count_by is_some threads
count_replaced threads n t w is =
    omega (arith, count-set is_some threads n (Some w) None (within_threads threads n t is), ap {B = ℕ} (λ o. cond (is_some o) 1 0) is)

count_ended : (threads : List (Option LiveThread)) (n : ℕ) (t : LiveThread) → thread_at threads n ≡ Some t → count_by is_some (set threads n None) + 1 ≡ count_by is_some threads
count_ended threads n t is =
    omega (arith, count-set is_some threads n None None (within_threads threads n t is), ap {B = ℕ} (λ o. cond (is_some o) 1 0) is)

module _ (keys : List ℕ) (live : Slab LiveThread) (h : IsKept keys live) (n : ℕ) (t : LiveThread) (is : thread_at (shown keys live) n ≡ Some t) where
  -- the key of a live thread is no ended one's, and no other number's
  not_gone : get_or keys n 0 ≢ gone
  not_gone same = none-some t (sym h.ended ∙ ap (get live) (sym same) ∙ (under_key keys live n t is).1)

  others_differ : (m : ℕ) → m < length keys → m ≢ n → get_or keys m 0 ≢ get_or keys n 0
  others_differ m inside differs same =
      differs (sym (h.own n m (under_key keys live n t is).0 inside not_gone (sym same)))

  -- the thread is another one now
  pub shown-updates : (live' : Slab LiveThread) (x : Option LiveThread) → Updates live live' (get_or keys n 0) x → shown keys live' ≡ set (shown keys live) n x
  shown-updates live' x updates =
      shown_set keys live keys live' n x refl (under_key keys live n t is).0 updates.changed (λ m inside differs. updates.others (get_or keys m 0) (others_differ m inside differs))

  pub IsKept-updates : (live' : Slab LiveThread) (w : LiveThread) → Updates live live' (get_or keys n 0) (Some w) → slab_len live' ≡ slab_len live → IsKept keys live'
  IsKept-updates live' w updates same_count = record {
    ended = updates.others gone (λ same. not_gone (sym same)) ∙ h.ended;
    kept = λ m inside used. ⊎_elim
        (λ same. subst (λ k. IsSome (get live' k)) (sym same) (rw updates.changed refl))
        (λ differs. rw (updates.others (get_or keys m 0) differs) (h.kept m inside used)) (cases_eq (get_or keys m 0) (get_or keys n 0));
    own = h.own;
    counted = same_count ∙ h.counted ∙ sym (ap (count_by is_some) (shown-updates live' (Some w) updates) ∙ count_replaced (shown keys live) n t w is);
  }

  -- a write through the thread that is lent
  contains : IsSome (get live (get_or keys n 0))
  contains = rw (under_key keys live n t is).1 refl

  pub slab_len-with_value : (w : LiveThread) → slab_len (with_value live (get_or keys n 0) w) ≡ slab_len live
  slab_len-with_value w =
      omega (
        arith,
        count-set is_some live.slots (get_or keys n 0) (Some w) None (ContainsKey-within live (get_or keys n 0) contains),
        ap {B = ℕ} (λ o. cond (is_some o) 1 0) (under_key keys live n t is).1,
      )

  pub IsKept-with_value : (w : LiveThread) → IsKept keys (with_value live (get_or keys n 0) w)
  IsKept-with_value w = IsKept-updates (with_value live (get_or keys n 0) w) w (Updates-with_value live (get_or keys n 0) w contains) (slab_len-with_value w)

  pub shown-with_value : (w : LiveThread) → shown keys (with_value live (get_or keys n 0) w) ≡ set (shown keys live) n (Some w)
  shown-with_value w = shown-updates (with_value live (get_or keys n 0) w) (Some w) (Updates-with_value live (get_or keys n 0) w contains)

  pub view-with_value : (len capacity : ℕ) (w : LiveThread) → ◌≡◌ {A = Numbers}
      (record { threads = shown keys (with_value live (get_or keys n 0) w); room = room_for len capacity (with_value live (get_or keys n 0) w) })
      (record { threads = set (shown keys live) n (Some w); room = room_for len capacity live })
  view-with_value len capacity w = rw (shown-with_value w, slab_len-with_value w) refl

  -- the thread has ended
  pub shown-removes : (live' : Slab LiveThread) → Updates live live' (get_or keys n 0) None → shown (set keys n gone) live' ≡ set (shown keys live) n None
  shown-removes live' updates =
      let within = (under_key keys live n t is).0 in
      shown_set keys live (set keys n gone) live' n None (length-set keys n gone) within
      (rw (get_or-set_same keys n gone 0 within) (updates.others gone (λ same. not_gone (sym same)) ∙ h.ended))
      (λ m inside differs. rw (get_or-set_other keys n m gone 0 differs) (updates.others (get_or keys m 0) (others_differ m inside differs)))

  -- a key that is used behind it is that of another number
  used_behind : (m : ℕ) → get_or (set keys n gone) m 0 ≢ gone → (m ≢ n) × (get_or (set keys n gone) m 0 ≡ get_or keys m 0)
  used_behind m used =
      let differs : m ≢ n = λ same. used (ap (λ k. get_or (set keys n gone) k 0) same ∙ get_or-set_same keys n gone 0 (under_key keys live n t is).0) in
      (differs, get_or-set_other keys n m gone 0 differs)

  pub IsKept-removes : (live' : Slab LiveThread) → Updates live live' (get_or keys n 0) None → slab_len live' + 1 ≡ slab_len live → IsKept (set keys n gone) live'
  IsKept-removes live' updates count = record {
    ended = updates.others gone (λ same. not_gone (sym same)) ∙ h.ended;
    kept = λ m inside used.
        let q = used_behind m used in let made : m < length keys = subst (λ k. m < k) (length-set keys n gone) inside in
        rw (q.1, updates.others (get_or keys m 0) (others_differ m made q.0)) (h.kept m made (λ same. used (q.1 ∙ same)));
    own = λ m k inside inside' used same.
        let q = used_behind m used in
        let r = used_behind k (λ e. used (same ∙ e)) in
        h.own m k (subst (λ i. m < i) (length-set keys n gone) inside) (subst (λ i. k < i) (length-set keys n gone) inside') (λ e. used (q.1 ∙ e)) (sym q.1 ∙ same ∙ r.1);
    counted = omega (arith, count, h.counted, ap (count_by is_some) (shown-removes live' updates), count_ended (shown keys live) n t is);
  }

module _ (keys : List ℕ) (live live' : Slab LiveThread) (h : IsKept keys live) (key : ℕ) (t : LiveThread) (vacant : get live key ≡ None) (free : key ≢ gone) (updates : Updates live live' key (Some t)) where
  -- the new key is none of those before
  new_key : (m : ℕ) → m < length keys → get_or keys m 0 ≢ key
  new_key m inside same =
      let used : get_or keys m 0 ≢ gone = λ e. free (sym same ∙ e) in
      true≢false (sym (h.kept m inside used) ∙ ap (λ k. is_some (get live k)) same ∙ ap is_some vacant)

  shown_before : shown keys live' ≡ shown keys live
  shown_before = same_lists (shown keys live') (shown keys live) (length-shown keys live' ∙ sym (length-shown keys live)) (λ m d inside.
      let made : m < length keys = subst (λ k. m < k) (length-shown keys live') inside in
      get_or-map (get live') keys m 0 d made ∙ updates.others (get_or keys m 0) (new_key m made) ∙ sym (get_or-map (get live) keys m 0 d made))

  pub shown-inserts : shown (keys ++ key ∷ []) live' ≡ shown keys live ++ Some t ∷ []
  shown-inserts = map-append (get live') keys (key ∷ []) ∙ ap (λ xs. xs ++ get live' key ∷ []) shown_before ∙ ap (λ x. shown keys live ++ x ∷ []) updates.changed

  -- a number is one of those before, or the new one
  abbrev Made : ℕ → Type 0
  Made m = ((m < length keys) × (get_or (keys ++ key ∷ []) m 0 ≡ get_or keys m 0)) ⊎ ((m ≡ length keys) × (get_or (keys ++ key ∷ []) m 0 ≡ key))

  before_or_new : (m : ℕ) → m < length (keys ++ key ∷ []) → Made m
  before_or_new m inside = ⊎_elim (λ (made : m < length keys). inl (made, get_or_append_left keys (key ∷ []) 0 m made))
      (λ (past : length keys ≤ m).
      let last : m ≡ length keys = omega (arith, length_push keys key, inside) in
      inr (last, get_or_push keys key 0 m (sym last))) (cases_lt m (length keys))

  one_number : (m k : ℕ) → get_or (keys ++ key ∷ []) m 0 ≢ gone → get_or (keys ++ key ∷ []) m 0 ≡ get_or (keys ++ key ∷ []) k 0 → Made m → Made k → m ≡ k
  one_number m k used same (inl q) (inl r) = h.own m k q.0 r.0 (λ e. used (q.1 ∙ e)) (sym q.1 ∙ same ∙ r.1)
  one_number m k used same (inl q) (inr r) = absurd (new_key m q.0 (sym q.1 ∙ same ∙ r.1))
  one_number m k used same (inr q) (inl r) = absurd (new_key k r.0 (sym r.1 ∙ sym same ∙ q.1))
  one_number m k used same (inr q) (inr r) = q.0 ∙ sym r.0

  pub IsKept-inserts : slab_len live' ≡ slab_len live + 1 → IsKept (keys ++ key ∷ []) live'
  IsKept-inserts count = record {
    ended = updates.others gone (λ same. free (sym same)) ∙ h.ended;
    kept = λ m inside used. ⊎_elim
        (λ q. rw (q.1, updates.others (get_or keys m 0) (new_key m q.0)) (h.kept m q.0 (λ same. used (q.1 ∙ same))))
        (λ q. rw (q.1, updates.changed) refl) (before_or_new m inside);
    own = λ m k inside inside' used same. one_number m k used same (before_or_new m inside) (before_or_new k inside');
    counted = omega (arith, count, h.counted, ap (count_by is_some) shown-inserts, count-push is_some (shown keys live) (Some t));
  }
