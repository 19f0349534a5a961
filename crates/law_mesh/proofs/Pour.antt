-- A write wakes all that wait for the cell.
use Rattle.std.proofs.Common.{◌≡◌, inl, inr, ⊎_elim, ℕ, List, [], ◌∷◌, ◌++◌, Bool, true, false, Option, Some, None, refl, sym, ap, ◌∙◌, subst}
use Rattle.std.specs.Prelude.{if◌then◌else◌, map}
use Rattle.std.proofs.lemmas.Option.{none-some}
use Rattle.std.proofs.lemmas.Bool.{false≢true}
use Rattle.cc_ops.specs.Machine.{Address}
use Rattle.cc_ops.specs.declared.number.ThreadNo.{ThreadNo}
use Rattle.law_mesh.specs.Spots.{Cell, Lock, Branches, Spot, Active, Parked, Posted, Delayed, Answered, Calling, Called, Gone, item_in}
use Rattle.cc_ops.specs.Values.{Ptr}
use Rattle.cc_core.specs.Numbers.{Post, Get}
use Rattle.cc_code.specs.Code.{Code}
use Rattle.law_mesh.specs.Queues.{Queue, Hand, Ready, OfCell, OfLock, Inbox, Outbox, Makes, Asks, Answers, Item, Itself, Mail, same_queue, Queues, of_thread, lies_in, GoesAt, AsksAt, AnswersAt, MayLie, FitsAt, Hold, poured, woken}
use Rattle.law_mesh.proofs.Lists.{item_mapped, item_has}
use Rattle.law_mesh.proofs.Queues.{one_queue, queue_itself, of_append}

module _ (code : Code) (queues : Queues) (spots : List (List Spot)) (hold : Hold code queues spots) (a : Address) (x : ℕ) where
  abbrev c : Queue
  c = OfCell a x

  abbrev r : Queue
  r = Ready a.processor

  abbrev goes : Option (Queue × Item) → Option (Queue × Item)
  goes None = None
  goes (Some e) = if same_queue e.0 (OfCell a x) then Some (Ready a.processor, e.1) else Some e

  -- ---- the lists

  swapped : (k l : Queue) → same_queue k l ≡ false → same_queue l k ≡ false
  swapped k l e = by (same_queue l k) refl
    where
      by : (b : Bool) → same_queue l k ≡ b → same_queue l k ≡ false
      by true f = absurd (false≢true (sym e ∙ subst (λ z. same_queue k z ≡ true) (sym (one_queue l k f)) (queue_itself k)))
      by false f = f

  in_both : (l : Option (Queue × Item)) → lies_in l r ++ lies_in l c ≡ lies_in (goes l) r
  in_both None = refl
  in_both (Some (Ready q, y)) = after (same_queue r (Ready q))
    where
      after : (b : Bool) → (if b then y ∷ [] else []) ++ [] ≡ (if b then y ∷ [] else [])
      after true = refl
      after false = refl
  in_both (Some (Hand q, y)) = refl
  in_both (Some (OfCell b o, y)) = by (same_queue (OfCell b o) c) refl
    where
      by : (z : Bool) → same_queue (OfCell b o) c ≡ z → [] ++ (if same_queue c (OfCell b o) then y ∷ [] else []) ≡ lies_in (if z then Some (r, y) else Some (OfCell b o, y)) r
      by true e =
          ap (λ w. if w then y ∷ [] else []) (subst (λ k. same_queue c k ≡ true) (sym (one_queue (OfCell b o) c e)) (queue_itself c))
          ∙ ap (λ w. if w then y ∷ [] else []) (sym (queue_itself r))
      by false e = ap (λ w. if w then y ∷ [] else []) (swapped (OfCell b o) c e)
  in_both (Some (OfLock b, y)) = refl
  in_both (Some (Inbox q, y)) = refl
  in_both (Some (Outbox q, y)) = refl
  in_both (Some (Makes, y)) = refl

  in_none : (l : Option (Queue × Item)) → [] ≡ lies_in (goes l) c
  in_none None = refl
  in_none (Some e) = by (same_queue e.0 c) refl
    where
      by : (z : Bool) → same_queue e.0 c ≡ z → [] ≡ lies_in (if z then Some (r, e.1) else Some e) c
      by true s = refl
      by false s = ap (λ w. if w then e.1 ∷ [] else []) (sym (swapped e.0 c s))

  in_same : (k : Queue) → same_queue k c ≡ false → same_queue k r ≡ false → (l : Option (Queue × Item)) → lies_in l k ≡ lies_in (goes l) k
  in_same k not_c not_r None = refl
  in_same k not_c not_r (Some e) = by (same_queue e.0 c) refl
    where
      by : (z : Bool) → same_queue e.0 c ≡ z → (if same_queue k e.0 then e.1 ∷ [] else []) ≡ lies_in (if z then Some (r, e.1) else Some e) k
      by true s =
          ap (λ w. if w then e.1 ∷ [] else []) (subst (λ i. same_queue k i ≡ false) (sym (one_queue e.0 c s)) not_c)
          ∙ ap (λ w. if w then e.1 ∷ [] else []) (sym not_r)
      by false s = refl

  each_poured : (t : ThreadNo) (k : Queue) → of_thread t (poured queues a x k) ≡ lies_in (goes (hold.lies t)) k
  each_poured t k = by (same_queue k c) refl (same_queue k r) refl
    where
      by : (y : Bool) → same_queue k c ≡ y → (z : Bool) → same_queue k r ≡ z
          → of_thread t (if y then [] else (if z then queues r ++ queues c else queues k)) ≡ lies_in (goes (hold.lies t)) k
      by true e z f = in_none (hold.lies t) ∙ ap (lies_in (goes (hold.lies t))) (sym (one_queue k c e))
      by false e true f =
          of_append t (queues r) (queues c)
          ∙ (ap (λ zs. zs ++ of_thread t (queues c)) (hold.each t r)
          ∙ (ap (λ zs. lies_in (hold.lies t) r ++ zs) (hold.each t c)
          ∙ (in_both (hold.lies t) ∙ ap (lies_in (goes (hold.lies t))) (sym (one_queue k r f)))))
      by false e false f = hold.each t k ∙ in_same k e f (hold.lies t)

  -- ---- the threads

  goes_not : (k : Queue) (y : Item) → same_queue k c ≡ false → goes (Some (k, y)) ≡ Some (k, y)
  goes_not k y e = ap (λ z. if z then Some (r, y) else Some (k, y)) e

  goes_there : (y : Item) (k : Queue) → same_queue k c ≡ true → goes (Some (k, y)) ≡ Some (r, y)
  goes_there y k e = ap (λ z. if z then Some (r, y) else Some (k, y)) e

  goes_not_c : (q : ℕ) (k : Queue) → GoesAt q k → same_queue k c ≡ false
  goes_not_c q (Hand p) b = refl
  goes_not_c q (Ready p) b = refl
  goes_not_c q (OfCell i o) b = absurd b
  goes_not_c q (OfLock i) b = refl
  goes_not_c q (Inbox p) b = refl
  goes_not_c q (Outbox p) b = refl
  goes_not_c q Makes b = refl

  asks_not : (post : Post) (k : Queue) → AsksAt post k → same_queue k c ≡ false
  asks_not post (Hand p) b = refl
  asks_not post (Ready p) b = refl
  asks_not post (OfCell i o) b = absurd b
  asks_not post (OfLock i) b = refl
  asks_not post (Inbox p) b = refl
  asks_not post (Outbox p) b = refl
  asks_not post Makes b = refl

  answers_not : (q : ℕ) (k : Queue) → AnswersAt q k → same_queue k c ≡ false
  answers_not q (Hand p) b = refl
  answers_not q (Ready p) b = refl
  answers_not q (OfCell i o) b = absurd b
  answers_not q (OfLock i) b = refl
  answers_not q (Inbox p) b = refl
  answers_not q (Outbox p) b = refl
  answers_not q Makes b = refl

  cell_place : (b : Address) (o : ℕ) → same_queue (OfCell b o) c ≡ true → b.processor ≡ a.processor
  cell_place b o e = let f : OfCell b o ≡ OfCell a x = one_queue (OfCell b o) c e in let g : b ≡ a = cc in ap (λ (z : Address). z.processor) g

  place_is : (b : Address) (o : ℕ) → same_queue (OfCell b o) c ≡ true → b ≡ a
  place_is b o e = let f : OfCell b o ≡ OfCell a x = one_queue (OfCell b o) c e in cc

  fits_woken : (t : ThreadNo) (p : Spot) (l : Option (Queue × Item)) → MayLie code t p l → MayLie code t (woken a x p) (goes l)
  fits_woken t (Active f) l h = (h.0, h.1, ap goes h.2 ∙ goes_not h.0 (Itself t) (goes_not_c t.processor h.0 h.1))
  fits_woken t (Parked (Cell b o) f) l h = by (same_queue (OfCell b o) c) refl
    where
      by : (z : Bool) → same_queue (OfCell b o) c ≡ z → MayLie code t (if z then Active f else Parked (Cell b o) f) (goes l)
      by true e = (r, sym (h.0 ∙ cell_place b o e), ap goes h.1 ∙ goes_there (Itself t) (OfCell b o) e)
      by false e = (h.0, ap goes h.1 ∙ goes_not (OfCell b o) (Itself t) e)
  fits_woken t (Parked (Lock b) f) l h = (h.0, h.1, ap goes h.2)
  fits_woken t (Parked Branches f) l h = ap goes h
  fits_woken t (Posted f) l h = (h.0, h.1, h.2, h.3, ap goes h.4 ∙ goes_not h.0 (Mail (Asks t h.1)) (asks_not h.1 h.0 h.2))
  fits_woken t (Delayed b o f) l h = by (same_queue (OfCell b o) c) refl
    where
      by : (z : Bool) → same_queue (OfCell b o) c ≡ z → MayLie code t (if z then Posted f else Delayed b o f) (goes l)
      by true e = (r, Get (Ptr b o), ap (λ (i : Address). Some i.processor) (place_is b o e), h.0, ap goes h.1 ∙ goes_there (Mail (Asks t (Get (Ptr b o)))) (OfCell b o) e)
      by false e = (h.0, ap goes h.1 ∙ goes_not (OfCell b o) (Mail (Asks t (Get (Ptr b o)))) e)
  fits_woken t (Answered vs f) l h = (h.0, h.1, h.2, h.3, ap goes h.4 ∙ goes_not h.0 (Mail (Answers t h.1)) (answers_not t.processor h.0 h.2))
  fits_woken t (Calling kid f) l h = (h.0, ap goes h.1)
  fits_woken t (Called kid v f) l h = (
    h.0,
    ⊎_elim
        (λ (e : (k : Queue) × GoesAt t.processor k × (l ≡ Some (k, Itself t))). inl (e.0, e.1, ap goes e.2 ∙ goes_not e.0 (Itself t) (goes_not_c t.processor e.0 e.1)))
        (λ (e : (k : Queue) × AnswersAt t.processor k × (l ≡ Some (k, Mail (Answers t v)))).
        inr (e.0, e.1, ap goes e.2 ∙ goes_not e.0 (Mail (Answers t v)) (answers_not t.processor e.0 e.1)))
        h.1,
  )
  fits_woken t (Gone v) l h = ap goes h

  fits_all : (t : ThreadNo) → FitsAt code t (item_in (map (map (woken a x)) spots) t) (goes (hold.lies t))
  fits_all t = by (item_in (map (map (woken a x)) spots) t) refl (item_in spots t) refl
    where
      by : (o : Option Spot) → item_in (map (map (woken a x)) spots) t ≡ o → (u : Option Spot) → item_in spots t ≡ u → FitsAt code t o (goes (hold.lies t))
      by None e None f = ap goes (subst (λ z. FitsAt code t z (hold.lies t)) f (hold.fits t))
      by None e (Some p) f = absurd (none-some (woken a x p) (sym e ∙ item_has (woken a x) spots t p f))
      by (Some p') e u f =
          let m = item_mapped (woken a x) spots t p' e in
          subst (λ z. MayLie code t z (goes (hold.lies t))) (sym m.2)
          (fits_woken t m.0 (hold.lies t) (subst (λ z. FitsAt code t z (hold.lies t)) m.1 (hold.fits t)))

  pub pour : Hold code (poured queues a x) (map (map (woken a x)) spots)
  pour = record { lies = λ t. goes (hold.lies t); each = each_poured; fits = fits_all }
