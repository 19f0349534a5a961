-- What a change of one processor is for the lists of all.
use Rattle.std.proofs.Common.{◌≡◌, ℕ, zero, suc, List, [], ◌∷◌, ◌++◌, map, Bool, true, false, ◌&&◌, Option, Some, None, refl, sym, ap, ◌∙◌, subst}
use Rattle.std.specs.Prelude.{if◌then◌else◌, slice_get, nat_eq}
use Rattle.std.specs.Option.{option_map_or}
use Rattle.std.proofs.lemmas.Option.{none-some, same_Some}
use Rattle.std.proofs.lemmas.Bool.{false≢true}
use Rattle.cc_ops.specs.Machine.{Address}
use Rattle.cc_ops.specs.Shelves.{Shelf, changed}
use Rattle.cc_code.specs.Code.{Code}
use Rattle.numbered_runs.proofs.Lists.{get_changed, get_unchanged}
use Rattle.law_mesh.specs.Spots.{Spot, item_in, put_item}
use Rattle.law_mesh.specs.Queues.{Queue, Hand, Ready, OfCell, OfLock, Inbox, Outbox, Makes, Message, Item, Itself, Mail, owner, Queues, Hold, MayLie, of_thread, lies_in, same_queue, put_queue, pulled, pushed, carried, poured}
use Rattle.law_processors.specs.Processors.{Waiter, Entry, Locked, Processor, Processors, waiter_item, hand_items, lock_items, of_processor, lists, with_processor}
use Rattle.law_processors.specs.Alone.{put_entry, put_hand, put_shelf, be_ready, send, put_waiters, park, wake, put_lock}
use Rattle.law_mesh.proofs.Queues.{same_number, number_itself, carry, drop_out}

-- lists that are the same one by one
abbrev pub SameLists : Queues → Queues → Type 0
SameLists q r = (k : Queue) → q k ≡ r k

pub same_hold : (code : Code) (q r : Queues) (spots : List (List Spot)) → SameLists q r → Hold code q spots → Hold code r spots
same_hold code q r spots same h = record { lies = h.lies; each = λ t k. subst (λ xs. of_thread t xs ≡ lies_in (h.lies t) k) (same k) (h.each t k); fits = h.fits }

pub same_put : (q r : Queues) → SameLists q r → (l : Queue) (xs ys : List Item) → xs ≡ ys → SameLists (put_queue q l xs) (put_queue r l ys)
same_put q r same l xs ys e k = by (same_queue k l)
  where
    by : (b : Bool) → (if b then xs else q k) ≡ (if b then ys else r k)
    by true = e
    by false = same k

pub same_pushed : (q r : Queues) → SameLists q r → (l : Queue) (y : Item) → SameLists (pushed q l y) (pushed r l y)
same_pushed q r same l y = same_put q r same l (q l ++ y ∷ []) (r l ++ y ∷ []) (ap (λ xs. xs ++ y ∷ []) (same l))

module _ {A B : Type 0} (f : A → B) where
  pub map_changed : (xs : List A) (i : ℕ) (x : A) → map f (changed xs i (λ o. x)) ≡ changed (map f xs) i (λ o. f x)
  map_changed [] i x = refl
  map_changed (y ∷ ys) zero x = refl
  map_changed (y ∷ ys) (suc i) x = ap (λ zs. f y ∷ zs) (map_changed ys i x)

  pub map_append : (xs ys : List A) → map f (xs ++ ys) ≡ map f xs ++ map f ys
  map_append [] ys = refl
  map_append (x ∷ xs) ys = ap (λ zs. f x ∷ zs) (map_append xs ys)

  pub map_at : (xs : List A) (i : ℕ) (x : A) → slice_get xs i ≡ Some x → slice_get (map f xs) i ≡ Some (f x)
  map_at [] i x e = absurd (none-some x e)
  map_at (y ∷ ys) zero x e = ap (λ u. Some (f u)) (same_Some y x e)
  map_at (y ∷ ys) (suc i) x e = map_at ys i x e

-- what stays
pub kept : (all : List Processor) (q i : ℕ) (p p' : Processor) (f : Processor → List Item) → f p' ≡ f p
    → of_processor (changed all q (λ o. p')) i f ≡ of_processor (changed all q (λ o. p)) i f
kept [] q i p p' f same = refl
kept (z ∷ zs) zero zero p p' f same = same
kept (z ∷ zs) zero (suc i) p p' f same = refl
kept (z ∷ zs) (suc q) zero p p' f same = refl
kept (z ∷ zs) (suc q) (suc i) p p' f same = kept zs q i p p' f same

-- two processors with the same lists
pub same_fields : (m : Processors) (q : ℕ) (p p' : Processor) → p'.hand ≡ p.hand → p'.ready ≡ p.ready → p'.cells ≡ p.cells → p'.locks ≡ p.locks
    → p'.inbox ≡ p.inbox → p'.outbox ≡ p.outbox → SameLists (lists (with_processor m q p)) (lists (with_processor m q p'))
same_fields m q p p' a b c d e f (Hand j) = sym (kept m.all q j p p' _ (ap (hand_items j) a))
same_fields m q p p' a b c d e f (Ready j) = sym (kept m.all q j p p' _ (ap (map (waiter_item j)) b))
same_fields m q p p' a b c d e f (OfCell z x) = sym (kept m.all q z.processor p p' _ (ap (λ (ws : (object x : ℕ) → List Waiter). map (waiter_item z.processor) (ws z.object x)) c))
same_fields m q p p' a b c d e f (OfLock z) = sym (kept m.all q z.processor p p' _ (ap (λ (ls : (object : ℕ) → Option Locked). lock_items z.processor (ls z.object)) d))
same_fields m q p p' a b c d e f (Inbox j) = sym (kept m.all q j p p' _ (ap (map Mail) e))
same_fields m q p p' a b c d e f (Outbox j) = sym (kept m.all q j p p' _ (ap (map Mail) f))
same_fields m q p p' a b c d e f Makes = refl

module _ (m : Processors) (q : ℕ) (p0 : Processor) (there : slice_get m.all q ≡ Some p0) where
  abbrev pub at : Processor → Processors
  at p = with_processor m q p

  pub at_place : (p : Processor) → slice_get (changed m.all q (λ o. p)) q ≡ Some p
  at_place p = get_changed m.all q (λ o. p) p0 there

  pub here : (p : Processor) (f : Processor → List Item) → of_processor (changed m.all q (λ o. p)) q f ≡ f p
  here p f = ap (λ o. option_map_or f o []) (at_place p)

  -- the one list of its kind that changes
  one : (F : ℕ → Processor → List Item) (p p' : Processor) (j : ℕ) (ys : List Item) → F q p' ≡ ys
      → of_processor (changed m.all q (λ o. p')) j (F j) ≡ (if nat_eq j q then ys else of_processor (changed m.all q (λ o. p)) j (F j))
  one F p p' j ys e = by (nat_eq j q) refl
    where
      by : (b : Bool) → nat_eq j q ≡ b → of_processor (changed m.all q (λ o. p')) j (F j) ≡ (if b then ys else of_processor (changed m.all q (λ o. p)) j (F j))
      by true d = ap (λ i. of_processor (changed m.all q (λ o. p')) i (F i)) (same_number j q d) ∙ (here p' (F q) ∙ e)
      by false d =
          let apart : j ≡ q → ⊥ = λ c. absurd (false≢true (sym d ∙ subst (λ i. nat_eq i q ≡ true) (sym c) (number_itself q))) in
          ap (λ o. option_map_or (F j) o []) (get_unchanged m.all q (λ o. p') j apart ∙ sym (get_unchanged m.all q (λ o. p) j apart))

  -- ---- nothing but other things changes

  pub entry_lists : (n : ℕ) (e : Entry) (p : Processor) → SameLists (lists (at p)) (lists (at (put_entry n e p)))
  entry_lists n e p = same_fields m q p (put_entry n e p) refl refl refl refl refl refl

  pub shelf_lists : (s : Shelf) (p : Processor) → SameLists (lists (at p)) (lists (at (put_shelf s p)))
  shelf_lists s p = same_fields m q p (put_shelf s p) refl refl refl refl refl refl

  -- ---- one list changes

  pub hand_lists : (h : Option ℕ) (p : Processor) → SameLists (put_queue (lists (at p)) (Hand q) (hand_items q h)) (lists (at (put_hand h p)))
  hand_lists h p (Hand j) = sym (one (λ i r. hand_items i r.hand) p (put_hand h p) j (hand_items q h) refl)
  hand_lists h p (Ready j) = sym (kept m.all q j p (put_hand h p) _ refl)
  hand_lists h p (OfCell a x) = sym (kept m.all q a.processor p (put_hand h p) _ refl)
  hand_lists h p (OfLock a) = sym (kept m.all q a.processor p (put_hand h p) _ refl)
  hand_lists h p (Inbox j) = sym (kept m.all q j p (put_hand h p) _ refl)
  hand_lists h p (Outbox j) = sym (kept m.all q j p (put_hand h p) _ refl)
  hand_lists h p Makes = refl

  abbrev pub with_ready : List Waiter → Processor → Processor
  with_ready ws p = record p { ready = ws }

  pub ready_lists : (ws : List Waiter) (p : Processor) → SameLists (put_queue (lists (at p)) (Ready q) (map (waiter_item q) ws)) (lists (at (with_ready ws p)))
  ready_lists ws p (Hand j) = sym (kept m.all q j p (with_ready ws p) _ refl)
  ready_lists ws p (Ready j) = sym (one (λ i r. map (waiter_item i) r.ready) p (with_ready ws p) j (map (waiter_item q) ws) refl)
  ready_lists ws p (OfCell a x) = sym (kept m.all q a.processor p (with_ready ws p) _ refl)
  ready_lists ws p (OfLock a) = sym (kept m.all q a.processor p (with_ready ws p) _ refl)
  ready_lists ws p (Inbox j) = sym (kept m.all q j p (with_ready ws p) _ refl)
  ready_lists ws p (Outbox j) = sym (kept m.all q j p (with_ready ws p) _ refl)
  ready_lists ws p Makes = refl

  abbrev pub with_inbox : List Message → Processor → Processor
  with_inbox ms p = record p { inbox = ms }

  pub inbox_lists : (ms : List Message) (p : Processor) → SameLists (put_queue (lists (at p)) (Inbox q) (map Mail ms)) (lists (at (with_inbox ms p)))
  inbox_lists ms p (Hand j) = sym (kept m.all q j p (with_inbox ms p) _ refl)
  inbox_lists ms p (Ready j) = sym (kept m.all q j p (with_inbox ms p) _ refl)
  inbox_lists ms p (OfCell a x) = sym (kept m.all q a.processor p (with_inbox ms p) _ refl)
  inbox_lists ms p (OfLock a) = sym (kept m.all q a.processor p (with_inbox ms p) _ refl)
  inbox_lists ms p (Inbox j) = sym (one (λ i r. map Mail r.inbox) p (with_inbox ms p) j (map Mail ms) refl)
  inbox_lists ms p (Outbox j) = sym (kept m.all q j p (with_inbox ms p) _ refl)
  inbox_lists ms p Makes = refl

  abbrev pub with_outbox : List Message → Processor → Processor
  with_outbox ms p = record p { outbox = ms }

  pub outbox_lists : (ms : List Message) (p : Processor) → SameLists (put_queue (lists (at p)) (Outbox q) (map Mail ms)) (lists (at (with_outbox ms p)))
  outbox_lists ms p (Hand j) = sym (kept m.all q j p (with_outbox ms p) _ refl)
  outbox_lists ms p (Ready j) = sym (kept m.all q j p (with_outbox ms p) _ refl)
  outbox_lists ms p (OfCell a x) = sym (kept m.all q a.processor p (with_outbox ms p) _ refl)
  outbox_lists ms p (OfLock a) = sym (kept m.all q a.processor p (with_outbox ms p) _ refl)
  outbox_lists ms p (Inbox j) = sym (kept m.all q j p (with_outbox ms p) _ refl)
  outbox_lists ms p (Outbox j) = sym (one (λ i r. map Mail r.outbox) p (with_outbox ms p) j (map Mail ms) refl)
  outbox_lists ms p Makes = refl

  abbrev pub with_waiters : (object x : ℕ) → List Waiter → Processor → Processor
  with_waiters o x ws p = record p { cells = put_waiters o x ws p.cells }

  abbrev pub place : (object : ℕ) → Address
  place o = record { processor = q; object = o }

  pub cell_lists : (o x : ℕ) (ws : List Waiter) (p : Processor)
      → SameLists (put_queue (lists (at p)) (OfCell (record { processor = q; object = o }) x) (map (waiter_item q) ws)) (lists (at (with_waiters o x ws p)))
  cell_lists o x ws p (Hand j) = sym (kept m.all q j p (with_waiters o x ws p) _ refl)
  cell_lists o x ws p (Ready j) = sym (kept m.all q j p (with_waiters o x ws p) _ refl)
  cell_lists o x ws p (OfCell a y) = by (nat_eq a.object o) refl (nat_eq y x) refl
    where
      F : ℕ → Processor → List Item
      F i r = map (waiter_item i) (r.cells a.object y)

      p' : Processor
      p' = with_waiters o x ws p

      old : (nat_eq a.object o && nat_eq y x) ≡ false → F a.processor (with_waiters o x ws p) ≡ F a.processor p
      old e = ap (λ b. map (waiter_item a.processor) (if b then ws else p.cells a.object y)) e

      off : (b : Bool) → b && false ≡ false
      off true = refl
      off false = refl

      off2 : (b c : Bool) → (b && false) && c ≡ false
      off2 true c = refl
      off2 false c = refl

      on : (c : Bool) (us vs : List Item) → (if (c && true) && true then us else vs) ≡ (if c then us else vs)
      on true us vs = refl
      on false us vs = refl

      by : (b : Bool) → nat_eq a.object o ≡ b → (c : Bool) → nat_eq y x ≡ c
          → (if (nat_eq a.processor q && nat_eq a.object o) && nat_eq y x then map (waiter_item q) ws else lists (at p) (OfCell a y)) ≡ lists (at (with_waiters o x ws p)) (OfCell a y)
      by true d true e =
          ap (λ b. if (nat_eq a.processor q && b) && nat_eq y x then map (waiter_item q) ws else lists (at p) (OfCell a y)) d
          ∙ (ap (λ c. if (nat_eq a.processor q && true) && c then map (waiter_item q) ws else lists (at p) (OfCell a y)) e
          ∙ (on (nat_eq a.processor q) (map (waiter_item q) ws) (lists (at p) (OfCell a y))
          ∙ sym (one (λ i r. map (waiter_item i) (r.cells a.object y)) p (with_waiters o x ws p) a.processor (map (waiter_item q) ws)
          (ap (λ b. map (waiter_item q) (if b && nat_eq y x then ws else p.cells a.object y)) d ∙ ap (λ c. map (waiter_item q) (if c then ws else p.cells a.object y)) e))))
      by true d false e =
          ap (λ c. if (nat_eq a.processor q && nat_eq a.object o) && c then map (waiter_item q) ws else lists (at p) (OfCell a y)) e
          ∙ (ap (λ b. if b then map (waiter_item q) ws else lists (at p) (OfCell a y)) (off (nat_eq a.processor q && nat_eq a.object o))
          ∙ sym (kept m.all q a.processor p (with_waiters o x ws p) _ (old (ap (λ c. nat_eq a.object o && c) e ∙ off (nat_eq a.object o)))))
      by false d c e =
          ap (λ b. if (nat_eq a.processor q && b) && nat_eq y x then map (waiter_item q) ws else lists (at p) (OfCell a y)) d
          ∙ (ap (λ b. if b then map (waiter_item q) ws else lists (at p) (OfCell a y)) (off2 (nat_eq a.processor q) (nat_eq y x))
          ∙ sym (kept m.all q a.processor p (with_waiters o x ws p) _ (old (ap (λ b. b && nat_eq y x) d))))
  cell_lists o x ws p (OfLock a) = sym (kept m.all q a.processor p (with_waiters o x ws p) _ refl)
  cell_lists o x ws p (Inbox j) = sym (kept m.all q j p (with_waiters o x ws p) _ refl)
  cell_lists o x ws p (Outbox j) = sym (kept m.all q j p (with_waiters o x ws p) _ refl)
  cell_lists o x ws p Makes = refl

  pub lock_lists : (o : ℕ) (l : Option Locked) (p : Processor)
      → SameLists (put_queue (lists (at p)) (OfLock (record { processor = q; object = o })) (lock_items q l)) (lists (at (put_lock o l p)))
  lock_lists o l p (Hand j) = sym (kept m.all q j p (put_lock o l p) _ refl)
  lock_lists o l p (Ready j) = sym (kept m.all q j p (put_lock o l p) _ refl)
  lock_lists o l p (OfCell a y) = sym (kept m.all q a.processor p (put_lock o l p) _ refl)
  lock_lists o l p (OfLock a) = by (nat_eq a.object o) refl
    where
      off : (b : Bool) → b && false ≡ false
      off true = refl
      off false = refl

      on : (c : Bool) (us vs : List Item) → (if c && true then us else vs) ≡ (if c then us else vs)
      on true us vs = refl
      on false us vs = refl

      by : (b : Bool) → nat_eq a.object o ≡ b
          → (if nat_eq a.processor q && nat_eq a.object o then lock_items q l else lists (at p) (OfLock a)) ≡ lists (at (put_lock o l p)) (OfLock a)
      by true d =
          ap (λ b. if nat_eq a.processor q && b then lock_items q l else lists (at p) (OfLock a)) d
          ∙ (on (nat_eq a.processor q) (lock_items q l) (lists (at p) (OfLock a))
          ∙ sym (one (λ i r. lock_items i (r.locks a.object)) p (put_lock o l p) a.processor (lock_items q l)
          (ap (λ b. lock_items q (if b then l else p.locks a.object)) d)))
      by false d =
          ap (λ b. if nat_eq a.processor q && b then lock_items q l else lists (at p) (OfLock a)) d
          ∙ (ap (λ b. if b then lock_items q l else lists (at p) (OfLock a)) (off (nat_eq a.processor q))
          ∙ sym (kept m.all q a.processor p (put_lock o l p) _ (ap (λ b. lock_items a.processor (if b then l else p.locks a.object)) d)))
  lock_lists o l p (Inbox j) = sym (kept m.all q j p (put_lock o l p) _ refl)
  lock_lists o l p (Outbox j) = sym (kept m.all q j p (put_lock o l p) _ refl)
  lock_lists o l p Makes = refl

  -- ---- what is taken out of a list and put at the back of one

  pub pushes_ready : (w : Waiter) (p : Processor) → SameLists (pushed (lists (at p)) (Ready q) (waiter_item q w)) (lists (at (be_ready w p)))
  pushes_ready w p k =
      same_put (lists (at p)) (lists (at p)) (λ i. refl) (Ready q) _ (map (waiter_item q) (p.ready ++ w ∷ []))
      (ap (λ xs. xs ++ waiter_item q w ∷ []) (here p (λ r. map (waiter_item q) r.ready)) ∙ sym (map_append (waiter_item q) p.ready (w ∷ []))) k
      ∙ ready_lists (p.ready ++ w ∷ []) p k

  pub pushes_out : (message : Message) (p : Processor) → SameLists (pushed (lists (at p)) (Outbox q) (Mail message)) (lists (at (send message p)))
  pushes_out message p k =
      same_put (lists (at p)) (lists (at p)) (λ i. refl) (Outbox q) _ (map Mail (p.outbox ++ message ∷ []))
      (ap (λ xs. xs ++ Mail message ∷ []) (here p (λ r. map Mail r.outbox)) ∙ sym (map_append Mail p.outbox (message ∷ []))) k
      ∙ outbox_lists (p.outbox ++ message ∷ []) p k

  pub pushes_in : (message : Message) (p : Processor) → SameLists (pushed (lists (at p)) (Inbox q) (Mail message)) (lists (at (with_inbox (p.inbox ++ message ∷ []) p)))
  pushes_in message p k =
      same_put (lists (at p)) (lists (at p)) (λ i. refl) (Inbox q) _ (map Mail (p.inbox ++ message ∷ []))
      (ap (λ xs. xs ++ Mail message ∷ []) (here p (λ r. map Mail r.inbox)) ∙ sym (map_append Mail p.inbox (message ∷ []))) k
      ∙ inbox_lists (p.inbox ++ message ∷ []) p k

  pub pushes_cell : (o x : ℕ) (w : Waiter) (p : Processor)
      → SameLists (pushed (lists (at p)) (OfCell (record { processor = q; object = o }) x) (waiter_item q w)) (lists (at (park o x w p)))
  pushes_cell o x w p k =
      same_put (lists (at p)) (lists (at p)) (λ i. refl) (OfCell (record { processor = q; object = o }) x) _ (map (waiter_item q) (p.cells o x ++ w ∷ []))
      (ap (λ xs. xs ++ waiter_item q w ∷ []) (here p (λ r. map (waiter_item q) (r.cells o x))) ∙ sym (map_append (waiter_item q) (p.cells o x) (w ∷ []))) k
      ∙ cell_lists o x (p.cells o x ++ w ∷ []) p k

  pub pushes_lock : (o : ℕ) (l : Locked) (i : ℕ) (n : ℕ) (p : Processor) → p.locks o ≡ Some l
      → SameLists (pushed (lists (at p)) (OfLock (record { processor = q; object = o })) (Itself (record { processor = q; thread = n })))
      (lists (at (put_lock o (Some (record { holder = i; waiters = l.waiters ++ n ∷ [] })) p)))
  pushes_lock o l i n p e k =
      same_put (lists (at p)) (lists (at p)) (λ i. refl) (OfLock (record { processor = q; object = o })) _ (lock_items q (Some (record { holder = i; waiters = l.waiters ++ n ∷ [] })))
      (ap (λ xs. xs ++ Itself (record { processor = q; thread = n }) ∷ []) (here p (λ r. lock_items q (r.locks o)) ∙ ap (lock_items q) e)
      ∙ sym (map_append (λ z. Itself (record { processor = q; thread = z })) l.waiters (n ∷ []))) k
      ∙ lock_lists o (Some (record { holder = i; waiters = l.waiters ++ n ∷ [] })) p k

  pub pushes_hand : (n : ℕ) (p : Processor) → p.hand ≡ None
      → SameLists (pushed (lists (at p)) (Hand q) (Itself (record { processor = q; thread = n }))) (lists (at (put_hand (Some n) p)))
  pushes_hand n p e k =
      same_put (lists (at p)) (lists (at p)) (λ i. refl) (Hand q) _ (hand_items q (Some n))
      (ap (λ xs. xs ++ Itself (record { processor = q; thread = n }) ∷ []) (here p (λ r. hand_items q r.hand) ∙ ap (hand_items q) e)) k
      ∙ hand_lists (Some n) p k

  pub pours : (o x : ℕ) (p : Processor) → SameLists (poured (lists (at p)) (record { processor = q; object = o }) x) (lists (at (wake o x p)))
  pours o x p k =
      same_put (put_queue (lists (at p)) (Ready q) (lists (at p) (Ready q) ++ lists (at p) (OfCell (record { processor = q; object = o }) x)))
      (lists (at (with_ready (p.ready ++ p.cells o x) p)))
      (λ i. same_put (lists (at p)) (lists (at p)) (λ j. refl) (Ready q) _ (map (waiter_item q) (p.ready ++ p.cells o x))
      (ap (λ xs. xs ++ lists (at p) (OfCell (record { processor = q; object = o }) x)) (here p (λ r. map (waiter_item q) r.ready))
      ∙ (ap (λ ys. map (waiter_item q) p.ready ++ ys) (here p (λ r. map (waiter_item q) (r.cells o x))) ∙ sym (map_append (waiter_item q) p.ready (p.cells o x)))) i
      ∙ ready_lists (p.ready ++ p.cells o x) p i)
      (OfCell (record { processor = q; object = o }) x) [] [] refl k
      ∙ cell_lists o x [] (with_ready (p.ready ++ p.cells o x) p) k

  -- where an item stands in a list
  pub in_hand_now : (n : ℕ) (p : Processor) → p.hand ≡ Some n → lists (at p) (Hand q) ≡ [] ++ Itself (record { processor = q; thread = n }) ∷ []
  in_hand_now n p e = here p (λ r. hand_items q r.hand) ∙ ap (hand_items q) e

  pub in_ready_now : (front : List Waiter) (w : Waiter) (back : List Waiter) (p : Processor) → p.ready ≡ front ++ w ∷ back
      → lists (at p) (Ready q) ≡ map (waiter_item q) front ++ waiter_item q w ∷ map (waiter_item q) back
  in_ready_now front w back p e = here p (λ r. map (waiter_item q) r.ready) ∙ (ap (map (waiter_item q)) e ∙ map_append (waiter_item q) front (w ∷ back))

  pub in_inbox_now : (message : Message) (rest : List Message) (p : Processor) → p.inbox ≡ message ∷ rest
      → lists (at p) (Inbox q) ≡ [] ++ Mail message ∷ map Mail rest
  in_inbox_now message rest p e = here p (λ r. map Mail r.inbox) ∙ ap (map Mail) e

  pub in_outbox_now : (front : List Message) (message : Message) (back : List Message) (p : Processor) → p.outbox ≡ front ++ message ∷ back
      → lists (at p) (Outbox q) ≡ map Mail front ++ Mail message ∷ map Mail back
  in_outbox_now front message back p e = here p (λ r. map Mail r.outbox) ∙ (ap (map Mail) e ∙ map_append Mail front (message ∷ back))

  pub pulls_ready : (front : List Waiter) (w : Waiter) (back : List Waiter) (p : Processor)
      → SameLists (pulled (lists (at p)) (Ready q) (map (waiter_item q) front) (map (waiter_item q) back)) (lists (at (with_ready (front ++ back) p)))
  pulls_ready front w back p k =
      same_put (lists (at p)) (lists (at p)) (λ i. refl) (Ready q) _ (map (waiter_item q) (front ++ back)) (sym (map_append (waiter_item q) front back)) k
      ∙ ready_lists (front ++ back) p k

  pub pulls_out : (front back : List Message) (p : Processor)
      → SameLists (pulled (lists (at p)) (Outbox q) (map Mail front) (map Mail back)) (lists (at (with_outbox (front ++ back) p)))
  pulls_out front back p k =
      same_put (lists (at p)) (lists (at p)) (λ i. refl) (Outbox q) _ (map Mail (front ++ back)) (sym (map_append Mail front back)) k
      ∙ outbox_lists (front ++ back) p k

-- ---- what holds for lists that change so

-- one item out of a list, and one into a list
abbrev pub Pulls : Processors → Processors → Queue → (front back : List Item) → Type 0
Pulls m m' k front back = SameLists (pulled (lists m) k front back) (lists m')

abbrev pub Pushes : Processors → Processors → Queue → Item → Type 0
Pushes m m' l y = SameLists (pushed (lists m) l y) (lists m')

module _ (code : Code) (m : Processors) (spots : List (List Spot)) (hold : Hold code (lists m) spots) (k : Queue) (front back : List Item) (x : Item)
    (at : lists m k ≡ front ++ x ∷ back) (p : Spot) (stands : item_in spots (owner x) ≡ Some p) where
  pub carried_over : (m1 m2 : Processors) → Pulls m m1 k front back → (l : Queue) (y : Item) → Pushes m1 m2 l y → owner y ≡ owner x
      → (p' : Spot) → MayLie code (owner x) p' (Some (l, y)) → Hold code (lists m2) (put_item spots (owner x) p')
  carried_over m1 m2 pulls l y pushes own p' may =
      same_hold code (carried (lists m) k front back l y) (lists m2) (put_item spots (owner x) p')
      (λ i. same_pushed (pulled (lists m) k front back) (lists m1) pulls l y i ∙ pushes i)
      (carry code (lists m) spots hold k front back x at l y own p p' stands may)

  pub taken_out : (m1 : Processors) → Pulls m m1 k front back → (p' : Spot) → MayLie code (owner x) p' None
      → Hold code (lists m1) (put_item spots (owner x) p')
  taken_out m1 pulls p' may =
      same_hold code (pulled (lists m) k front back) (lists m1) (put_item spots (owner x) p') pulls
      (drop_out code (lists m) spots hold k front back x at p p' stands may)
