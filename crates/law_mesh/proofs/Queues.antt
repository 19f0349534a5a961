-- Lists that hold the threads of a mesh: a thread is taken out of one and put into another.
use Rattle.std.proofs.Common.{◌≡◌, ⊎_elim, ℕ, List, [], ◌∷◌, ◌++◌, length, Bool, true, false, ◌&&◌, Option, Some, None, refl, sym, ap, ◌∙◌, subst, arith}
use Rattle.std.specs.Prelude.{nat_eq, if◌then◌else◌, slice_get}
use Rattle.std.specs.Option.{option_and_then}
use Rattle.std.proofs.lemmas.Option.{none-some, same_Some}
use Rattle.law_mesh.specs.Moves.{push_item}
use Rattle.std.proofs.lemmas.Bool.{false≢true}
use Rattle.std.proofs.lemmas.Bool.Decides.{nat_tests}
use Rattle.cc_ops.specs.Values.{Value}
use Rattle.cc_ops.specs.Machine.{Address, Values}
use Rattle.cc_ops.specs.declared.number.ThreadNo.{ThreadNo}
use Rattle.law_mesh.specs.Spots.{Fiber, Cell, Lock, Branches, Spot, Active, Parked, Posted, Delayed, Answered, Calling, Called, Gone, item_in, put_item}
use Rattle.law_mesh.specs.Rest.{IsStill}
use Rattle.law_mesh.specs.Queues.{Queue, Hand, Ready, OfCell, OfLock, Inbox, Outbox, Makes, Message, Asks, Answers, Item, Itself, Mail, owner, same_thread, same_place, same_queue, Queues, of_thread, lies_in, IsBusy, GoesAt, AsksAt, AnswersAt, AsksBy, IsAnswered, CallsAway, GoesLater, MayLie, FitsAt, Hold, pulled, pushed, carried, AreIdle}
use Rattle.cc_core.specs.Numbers.{Post}
use Rattle.cc_code.specs.Code.{Code}
use Rattle.law_mesh.proofs.Lists.{put_found, put_elsewhere, push_found, push_elsewhere}

-- ---- sameness

pub same_number : (a b : ℕ) → nat_eq a b ≡ true → a ≡ b
same_number a b h = grind (arith, nat_tests)

pub number_itself : (a : ℕ) → nat_eq a a ≡ true
number_itself a = grind (arith, nat_tests)

both_true : (a b : Bool) → a && b ≡ true → (a ≡ true) × (b ≡ true)
both_true true b h = (refl, h)
both_true false b h = absurd (false≢true h)

and_true : (a b : Bool) → a ≡ true → b ≡ true → a && b ≡ true
and_true a b e f = ap (λ c. c && b) e ∙ f

pub thread_itself : (t : ThreadNo) → same_thread t t ≡ true
thread_itself t = and_true _ _ (number_itself t.processor) (number_itself t.thread)

pub one_thread : (t u : ThreadNo) → same_thread t u ≡ true → t ≡ u
one_thread t u h =
    let b = both_true (nat_eq t.processor u.processor) (nat_eq t.thread u.thread) h in
    let f : ℕ → ℕ → ThreadNo = λ q k. record { processor = q; thread = k } in
    ap (λ q. f q t.thread) (same_number t.processor u.processor b.0) ∙ ap (f u.processor) (same_number t.thread u.thread b.1)

pub place_itself : (a : Address) → same_place a a ≡ true
place_itself a = and_true _ _ (number_itself a.processor) (number_itself a.object)

pub one_place : (a b : Address) → same_place a b ≡ true → a ≡ b
one_place a b h =
    let c = both_true (nat_eq a.processor b.processor) (nat_eq a.object b.object) h in
    let f : ℕ → ℕ → Address = λ q k. record { processor = q; object = k } in
    ap (λ q. f q a.object) (same_number a.processor b.processor c.0) ∙ ap (f b.processor) (same_number a.object b.object c.1)

pub queue_itself : (k : Queue) → same_queue k k ≡ true
queue_itself (Hand q) = number_itself q
queue_itself (Ready q) = number_itself q
queue_itself (OfCell a x) = and_true _ _ (place_itself a) (number_itself x)
queue_itself (OfLock a) = place_itself a
queue_itself (Inbox q) = number_itself q
queue_itself (Outbox q) = number_itself q
queue_itself Makes = refl

pub one_queue : (k l : Queue) → same_queue k l ≡ true → k ≡ l
one_queue (Hand q) (Hand p) h = ap Hand (same_number q p h)
one_queue (Ready q) (Ready p) h = ap Ready (same_number q p h)
one_queue (OfCell a x) (OfCell b y) h =
    let c = both_true (same_place a b) (nat_eq x y) h in ap (λ z. OfCell z x) (one_place a b c.0) ∙ ap (OfCell b) (same_number x y c.1)
one_queue (OfLock a) (OfLock b) h = ap OfLock (one_place a b h)
one_queue (Inbox q) (Inbox p) h = ap Inbox (same_number q p h)
one_queue (Outbox q) (Outbox p) h = ap Outbox (same_number q p h)
one_queue Makes Makes h = refl
one_queue k l h = absurd (false≢true h)

-- ---- what a list has of a thread

if_append : (b : Bool) (x : Item) (xs ys : List Item) → (if b then x ∷ (xs ++ ys) else xs ++ ys) ≡ (if b then x ∷ xs else xs) ++ ys
if_append true x xs ys = refl
if_append false x xs ys = refl

pub of_append : (t : ThreadNo) (xs ys : List Item) → of_thread t (xs ++ ys) ≡ of_thread t xs ++ of_thread t ys
of_append t [] ys = refl
of_append t (x ∷ xs) ys =
    ap (λ zs. if same_thread t (owner x) then x ∷ zs else zs) (of_append t xs ys) ∙ if_append (same_thread t (owner x)) x (of_thread t xs) (of_thread t ys)

append_none : (xs : List Item) → xs ++ [] ≡ xs
append_none [] = refl
append_none (x ∷ xs) = ap (λ ys. x ∷ ys) (append_none xs)

-- the one item of a list that is in two parts
alone : (x y : Item) (xs ys : List Item) → xs ++ x ∷ ys ≡ y ∷ [] → (xs ++ ys ≡ []) × (x ≡ y)
alone x y [] [] e = let f : x ∷ [] ≡ y ∷ [] = e in (refl, cc)
alone x y [] (z ∷ zs) e = let f : x ∷ (z ∷ zs) ≡ y ∷ [] = e in absurd (cc)
alone x y (u ∷ []) ys e = let f : u ∷ (x ∷ ys) ≡ y ∷ [] = e in absurd (cc)
alone x y (u ∷ (v ∷ us)) ys e = let f : u ∷ (v ∷ (us ++ x ∷ ys)) ≡ y ∷ [] = e in absurd (cc)

not_none : (x : Item) (xs ys : List Item) → xs ++ x ∷ ys ≡ [] → ⊥
not_none x [] ys e = let f : x ∷ ys ≡ [] = e in cc
not_none x (u ∷ us) ys e = let f : u ∷ (us ++ x ∷ ys) ≡ [] = e in cc

module _ (code : Code) (queues : Queues) (spots : List (List Spot)) (hold : Hold code queues spots) where
  -- where an item stands, its thread lies, and nothing else of that thread is in the list
  pub taken : (k : Queue) (front back : List Item) (x : Item) → queues k ≡ front ++ x ∷ back
      → (hold.lies (owner x) ≡ Some (k, x)) × (of_thread (owner x) (front ++ back) ≡ [])
  taken k front back x at = find (hold.lies (owner x)) refl
    where
      t : ThreadNo
      t = owner x

      parts : of_thread (owner x) front ++ x ∷ of_thread (owner x) back ≡ lies_in (hold.lies (owner x)) k
      parts =
          sym (ap (of_thread (owner x)) at ∙ (of_append (owner x) front (x ∷ back)
          ∙ ap (λ b. of_thread (owner x) front ++ (if b then x ∷ of_thread (owner x) back else of_thread (owner x) back)) (thread_itself (owner x))))
          ∙ hold.each (owner x) k

      there : (e : Queue × Item) (b : Bool) → same_queue k e.0 ≡ b → of_thread (owner x) front ++ x ∷ of_thread (owner x) back ≡ (if b then e.1 ∷ [] else [])
          → hold.lies (owner x) ≡ Some e → (hold.lies (owner x) ≡ Some (k, x)) × (of_thread (owner x) (front ++ back) ≡ [])
      there e true s p l =
          let a = alone x e.1 (of_thread (owner x) front) (of_thread (owner x) back) p in
          let pair : Queue → Item → Option (Queue × Item) = λ r y. Some (r, y) in
          (l ∙ (ap (λ r. pair r e.1) (sym (one_queue k e.0 s)) ∙ ap (pair k) (sym a.1)), of_append (owner x) front back ∙ a.0)
      there e false s p l = absurd (not_none x _ _ p)

      find : (l : Option (Queue × Item)) → hold.lies (owner x) ≡ l → (hold.lies (owner x) ≡ Some (k, x)) × (of_thread (owner x) (front ++ back) ≡ [])
      find None l = absurd (not_none x _ _ (parts ∙ ap (λ o. lies_in o k) l))
      find (Some e) l = there e (same_queue k e.0) refl (parts ∙ ap (λ o. lies_in o k) l) l

  -- thread t stands at another spot, and lies so; of the others the lists have what they had
  pub moved : (queues' : Queues) (t : ThreadNo) (p p' : Spot) (l : Option (Queue × Item)) → item_in spots t ≡ Some p → MayLie code t p' l
      → ((k : Queue) → of_thread t (queues' k) ≡ lies_in l k)
      → ((u : ThreadNo) → same_thread u t ≡ false → (k : Queue) → of_thread u (queues' k) ≡ of_thread u (queues k))
      → Hold code queues' (put_item spots t p')
  moved queues' t p p' l at may mine others = record {
    lies = λ u. if same_thread u t then l else hold.lies u;
    each = λ u k. each_by u k (same_thread u t) refl;
    fits = λ u. fits_by u (same_thread u t) refl;
  }
    where
      each_by : (u : ThreadNo) (k : Queue) (b : Bool) → same_thread u t ≡ b → of_thread u (queues' k) ≡ lies_in (if b then l else hold.lies u) k
      each_by u k true e = subst (λ v. of_thread v (queues' k) ≡ lies_in l k) (sym (one_thread u t e)) (mine k)
      each_by u k false e = others u e k ∙ hold.each u k

      fits_by : (u : ThreadNo) (b : Bool) → same_thread u t ≡ b → FitsAt code u (item_in (put_item spots t p') u) (if b then l else hold.lies u)
      fits_by u true e =
          subst (λ v. FitsAt code v (item_in (put_item spots t p') v) l) (sym (one_thread u t e))
          (subst (λ o. FitsAt code t o l) (sym (put_found spots t p p' at)) may)
      fits_by u false e =
          let apart : u ≡ t → ⊥ = λ d. absurd (false≢true (sym e ∙ subst (λ v. same_thread v t ≡ true) (sym d) (thread_itself t))) in
          subst (λ o. FitsAt code u o (hold.lies u)) (sym (put_elsewhere spots t u p' apart)) (hold.fits u)

  -- it stands at another spot, and lies where it lay
  pub stay_at : (t : ThreadNo) (p p' : Spot) → item_in spots t ≡ Some p → MayLie code t p' (hold.lies t) → Hold code queues (put_item spots t p')
  stay_at t p p' at may = moved queues t p p' (hold.lies t) at may (hold.each t) (λ u apart k. refl)

  pub stay : (t : ThreadNo) (p p' : Spot) → item_in spots t ≡ Some p → ((l : Option (Queue × Item)) → MayLie code t p l → MayLie code t p' l)
      → Hold code queues (put_item spots t p')
  stay t p p' at may = moved queues t p p' (hold.lies t) at (may (hold.lies t) (subst (λ o. FitsAt code t o (hold.lies t)) at (hold.fits t)))
      (hold.each t) (λ u apart k. refl)

  -- what lay nowhere goes to the back of a list
  pub emerge : (t : ThreadNo) (p p' : Spot) (l : Queue) (y : Item) → owner y ≡ t → item_in spots t ≡ Some p → hold.lies t ≡ None
      → MayLie code t p' (Some (l, y)) → Hold code (pushed queues l y) (put_item spots t p')
  emerge t p p' l y own at none may = moved (pushed queues l y) t p p' (Some (l, y)) at may mine others
    where
      none_of : (k : Queue) → of_thread t (queues k) ≡ []
      none_of k = hold.each t k ∙ ap (λ o. lies_in o k) none

      one : of_thread t (y ∷ []) ≡ y ∷ []
      one = ap (λ b. if b then y ∷ [] else []) (subst (λ z. same_thread t z ≡ true) (sym own) (thread_itself t))

      mine : (k : Queue) → of_thread t (pushed queues l y k) ≡ lies_in (Some (l, y)) k
      mine k = by (same_queue k l)
        where
          by : (b : Bool) → of_thread t (if b then queues l ++ y ∷ [] else queues k) ≡ (if b then y ∷ [] else [])
          by true = of_append t (queues l) (y ∷ []) ∙ (ap (λ zs. zs ++ of_thread t (y ∷ [])) (none_of l) ∙ one)
          by false = none_of k

      others : (u : ThreadNo) → same_thread u t ≡ false → (k : Queue) → of_thread u (pushed queues l y k) ≡ of_thread u (queues k)
      others u apart k = by (same_queue k l) refl
        where
          not_mine : of_thread u (y ∷ []) ≡ []
          not_mine = ap (λ b. if b then y ∷ [] else []) (subst (λ z. same_thread u z ≡ false) (sym own) apart)

          by : (b : Bool) → same_queue k l ≡ b → of_thread u (if b then queues l ++ y ∷ [] else queues k) ≡ of_thread u (queues k)
          by true e = of_append u (queues l) (y ∷ []) ∙ (ap (λ zs. of_thread u (queues l) ++ zs) not_mine
              ∙ (append_none (of_thread u (queues l)) ∙ ap (λ z. of_thread u (queues z)) (sym (one_queue k l e))))
          by false e = refl

  -- ---- from one list to another

  module _ (k : Queue) (front back : List Item) (x : Item) (at : queues k ≡ front ++ x ∷ back) where
    t : ThreadNo
    t = owner x

    out_mine : (i : Queue) → of_thread (owner x) (pulled queues k front back i) ≡ []
    out_mine i = by (same_queue i k) refl
      where
        by : (b : Bool) → same_queue i k ≡ b → of_thread (owner x) (if b then front ++ back else queues i) ≡ []
        by true e = (taken k front back x at).1
        by false e =
            hold.each (owner x) i ∙ (ap (λ l. lies_in l i) (taken k front back x at).0 ∙ ap (λ b. if b then x ∷ [] else []) e)

    out_other : (u : ThreadNo) → same_thread u (owner x) ≡ false → (i : Queue) → of_thread u (pulled queues k front back i) ≡ of_thread u (queues i)
    out_other u apart i = by (same_queue i k) refl
      where
        same : of_thread u (front ++ back) ≡ of_thread u (front ++ x ∷ back)
        same =
            of_append u front back
            ∙ (ap (λ b. of_thread u front ++ (if b then x ∷ of_thread u back else of_thread u back)) (sym apart)
            ∙ sym (of_append u front (x ∷ back)))

        by : (b : Bool) → same_queue i k ≡ b → of_thread u (if b then front ++ back else queues i) ≡ of_thread u (queues i)
        by true e = same ∙ (ap (of_thread u) (sym at) ∙ ap (λ z. of_thread u (queues z)) (sym (one_queue i k e)))
        by false e = refl

    module _ (l : Queue) (y : Item) (own : owner y ≡ owner x) where
      rest : Queues
      rest = pulled queues k front back

      in_mine : (i : Queue) → of_thread (owner x) (carried queues k front back l y i) ≡ lies_in (Some (l, y)) i
      in_mine i = by (same_queue i l) refl
        where
          one : of_thread (owner x) (y ∷ []) ≡ y ∷ []
          one = ap (λ b. if b then y ∷ [] else []) (subst (λ z. same_thread (owner x) z ≡ true) (sym own) (thread_itself (owner x)))

          by : (b : Bool) → same_queue i l ≡ b → of_thread (owner x) (if b then pulled queues k front back l ++ y ∷ [] else pulled queues k front back i)
              ≡ (if b then y ∷ [] else [])
          by true e = of_append (owner x) (pulled queues k front back l) (y ∷ []) ∙ (ap (λ zs. zs ++ of_thread (owner x) (y ∷ [])) (out_mine l) ∙ one)
          by false e = out_mine i

      in_other : (u : ThreadNo) → same_thread u (owner x) ≡ false → (i : Queue)
          → of_thread u (carried queues k front back l y i) ≡ of_thread u (queues i)
      in_other u apart i = by (same_queue i l) refl
        where
          none : of_thread u (y ∷ []) ≡ []
          none = ap (λ b. if b then y ∷ [] else []) (subst (λ z. same_thread u z ≡ false) (sym own) apart)

          by : (b : Bool) → same_queue i l ≡ b → of_thread u (if b then pulled queues k front back l ++ y ∷ [] else pulled queues k front back i)
              ≡ of_thread u (queues i)
          by true e =
              of_append u (pulled queues k front back l) (y ∷ [])
              ∙ (ap (λ zs. of_thread u (pulled queues k front back l) ++ zs) none
              ∙ (append_none (of_thread u (pulled queues k front back l))
              ∙ (out_other u apart l ∙ ap (λ z. of_thread u (queues z)) (sym (one_queue i l e)))))
          by false e = out_other u apart i

      -- Parking, posting, delivery, an answer, its arrival: each carries one item.
      pub carry : (p p' : Spot) → item_in spots (owner x) ≡ Some p → MayLie code (owner x) p' (Some (l, y))
          → Hold code (carried queues k front back l y) (put_item spots (owner x) p')
      carry p p' stands may =
          moved (carried queues k front back l y) (owner x) p p' (Some (l, y)) stands may in_mine in_other

    -- It waits in no list: at a join, or for the end of the thread of its call; or it has ended.
    pub drop_out : (p p' : Spot) → item_in spots (owner x) ≡ Some p → MayLie code (owner x) p' None
        → Hold code (pulled queues k front back) (put_item spots (owner x) p')
    drop_out p p' stands may = moved (pulled queues k front back) (owner x) p p' None stands may out_mine out_other

  -- ---- what it is that stands in a list

  module _ (k : Queue) (front back : List Item) where
    pub data IsReady (t : ThreadNo) : Type 0 where
      IsActive : (f : Fiber) → item_in spots t ≡ Some (Active f) → GoesAt t.processor k → IsReady t
      HasValue : (f : Fiber) (kid : ThreadNo) (v : Value Address) → item_in spots t ≡ Some (Called kid v f) → GoesAt t.processor k → CallsAway code f → IsReady t
      WaitsFor : (a : Address) (x : ℕ) (f : Fiber) → item_in spots t ≡ Some (Parked (Cell a x) f) → k ≡ OfCell a x → t.processor ≡ a.processor → IsReady t
      WaitsIn : (a : Address) (f : Fiber) → item_in spots t ≡ Some (Parked (Lock a) f) → k ≡ OfLock a → t.processor ≡ a.processor → GoesLater code a f → IsReady t

    pub data IsAsking (t : ThreadNo) (post : Post) : Type 0 where
      IsPosted : (f : Fiber) → item_in spots t ≡ Some (Posted f) → AsksBy code post f → AsksAt post k → IsAsking t post
      IsDelayed : (a : Address) (x : ℕ) (f : Fiber) → item_in spots t ≡ Some (Delayed a x f) → k ≡ OfCell a x → IsAsking t post

    pub data IsAnswer (t : ThreadNo) (v : Value Address) : Type 0 where
      IsGiven : (vs : Values) (f : Fiber) → item_in spots t ≡ Some (Answered vs f) → IsAnswered code v vs f → AnswersAt t.processor k → IsAnswer t v
      IsResult : (kid : ThreadNo) (f : Fiber) → item_in spots t ≡ Some (Called kid v f) → CallsAway code f → AnswersAt t.processor k → IsAnswer t v

    module _ (y : Item) (at : queues k ≡ front ++ y ∷ back) where
      lies : hold.lies (owner y) ≡ Some (k, y)
      lies = (taken k front back y at).0

      none : hold.lies (owner y) ≡ None → ⊥
      none e = none-some (k, y) (sym e ∙ lies)

      pair : (d : Queue × Item) → hold.lies (owner y) ≡ Some d → d ≡ (k, y)
      pair d e = same_Some d (k, y) (sym e ∙ lies)

      queue_is : (l : Queue) (z : Item) → hold.lies (owner y) ≡ Some (l, z) → l ≡ k
      queue_is l z e = ap (λ (d : Queue × Item). d.0) (pair (l, z) e)

      item_is : (l : Queue) (z : Item) → hold.lies (owner y) ≡ Some (l, z) → z ≡ y
      item_is l z e = ap (λ (d : Queue × Item). d.1) (pair (l, z) e)

    no_mail : (t : ThreadNo) (m : Message) → Mail m ≡ Itself t → ⊥
    no_mail t m e = cc

    no_asks : (t u : ThreadNo) (post : Post) (v : Value Address) → Mail (Asks t post) ≡ Mail (Answers u v) → ⊥
    no_asks t u post v e = let d : Asks t post ≡ Answers u v = cc in cc

    post_is : (t u : ThreadNo) (post other : Post) → Mail (Asks t post) ≡ Mail (Asks u other) → post ≡ other
    post_is t u post other e = let d : Asks t post ≡ Asks u other = cc in cc

    value_is : (t u : ThreadNo) (v w : Value Address) → Mail (Answers t v) ≡ Mail (Answers u w) → v ≡ w
    value_is t u v w e = let d : Answers t v ≡ Answers u w = cc in cc

    -- a thread
    pub ready_is : (t : ThreadNo) → queues k ≡ front ++ Itself t ∷ back → IsReady t
    ready_is t at = by (item_in spots t) refl (hold.fits t)
      where
        by : (o : Option Spot) → item_in spots t ≡ o → FitsAt code t o (hold.lies t) → IsReady t
        by None e fits = absurd (none (Itself t) at fits)
        by (Some (Active f)) e fits = IsActive f e (subst (GoesAt t.processor) (queue_is (Itself t) at fits.0 (Itself t) fits.2) fits.1)
        by (Some (Parked (Cell a x) f)) e fits = WaitsFor a x f e (sym (queue_is (Itself t) at (OfCell a x) (Itself t) fits.1)) fits.0
        by (Some (Parked (Lock a) f)) e fits = WaitsIn a f e (sym (queue_is (Itself t) at (OfLock a) (Itself t) fits.2)) fits.0 fits.1
        by (Some (Parked Branches f)) e fits = absurd (none (Itself t) at fits)
        by (Some (Posted f)) e fits = absurd (no_mail t (Asks t fits.1) (item_is (Itself t) at fits.0 (Mail (Asks t fits.1)) fits.4))
        by (Some (Delayed a x f)) e fits = absurd (no_mail t _ (item_is (Itself t) at (OfCell a x) _ fits.1))
        by (Some (Answered vs f)) e fits = absurd (no_mail t (Answers t fits.1) (item_is (Itself t) at fits.0 (Mail (Answers t fits.1)) fits.4))
        by (Some (Calling kid f)) e fits = absurd (none (Itself t) at fits.1)
        by (Some (Called kid v f)) e fits = ⊎_elim
            (λ (g : (l : Queue) × GoesAt t.processor l × (hold.lies t ≡ Some (l, Itself t))).
            HasValue f kid v e (subst (GoesAt t.processor) (queue_is (Itself t) at g.0 (Itself t) g.2) g.1) fits.0)
            (λ (g : (l : Queue) × AnswersAt t.processor l × (hold.lies t ≡ Some (l, Mail (Answers t v)))).
            absurd (no_mail t (Answers t v) (item_is (Itself t) at g.0 (Mail (Answers t v)) g.2)))
            fits.1
        by (Some (Gone v)) e fits = absurd (none (Itself t) at fits)

    -- a request
    pub asking_is : (t : ThreadNo) (post : Post) → queues k ≡ front ++ Mail (Asks t post) ∷ back → IsAsking t post
    asking_is t post at = by (item_in spots t) refl (hold.fits t)
      where
        y : Item
        y = Mail (Asks t post)

        by : (o : Option Spot) → item_in spots t ≡ o → FitsAt code t o (hold.lies t) → IsAsking t post
        by None e fits = absurd (none (Mail (Asks t post)) at fits)
        by (Some (Active f)) e fits = absurd (no_mail t (Asks t post) (sym (item_is (Mail (Asks t post)) at fits.0 (Itself t) fits.2)))
        by (Some (Parked (Cell a x) f)) e fits = absurd (no_mail t (Asks t post) (sym (item_is (Mail (Asks t post)) at (OfCell a x) (Itself t) fits.1)))
        by (Some (Parked (Lock a) f)) e fits = absurd (no_mail t (Asks t post) (sym (item_is (Mail (Asks t post)) at (OfLock a) (Itself t) fits.2)))
        by (Some (Parked Branches f)) e fits = absurd (none (Mail (Asks t post)) at fits)
        by (Some (Posted f)) e fits =
            let same : fits.1 ≡ post = post_is t t fits.1 post (item_is (Mail (Asks t post)) at fits.0 (Mail (Asks t fits.1)) fits.4) in
            IsPosted f e (subst (λ z. AsksBy code z f) same fits.3)
            (subst (λ z. AsksAt z k) same (subst (AsksAt fits.1) (queue_is (Mail (Asks t post)) at fits.0 (Mail (Asks t fits.1)) fits.4) fits.2))
        by (Some (Delayed a x f)) e fits = IsDelayed a x f e (sym (queue_is (Mail (Asks t post)) at (OfCell a x) _ fits.1))
        by (Some (Answered vs f)) e fits = absurd (no_asks t t post fits.1 (sym (item_is (Mail (Asks t post)) at fits.0 (Mail (Answers t fits.1)) fits.4)))
        by (Some (Calling kid f)) e fits = absurd (none (Mail (Asks t post)) at fits.1)
        by (Some (Called kid v f)) e fits = ⊎_elim
            (λ (g : (l : Queue) × GoesAt t.processor l × (hold.lies t ≡ Some (l, Itself t))).
            absurd (no_mail t (Asks t post) (sym (item_is (Mail (Asks t post)) at g.0 (Itself t) g.2))))
            (λ (g : (l : Queue) × AnswersAt t.processor l × (hold.lies t ≡ Some (l, Mail (Answers t v)))).
            absurd (no_asks t t post v (sym (item_is (Mail (Asks t post)) at g.0 (Mail (Answers t v)) g.2))))
            fits.1
        by (Some (Gone v)) e fits = absurd (none (Mail (Asks t post)) at fits)

    -- an answer
    pub answer_is : (t : ThreadNo) (v : Value Address) → queues k ≡ front ++ Mail (Answers t v) ∷ back → IsAnswer t v
    answer_is t v at = by (item_in spots t) refl (hold.fits t)
      where
        by : (o : Option Spot) → item_in spots t ≡ o → FitsAt code t o (hold.lies t) → IsAnswer t v
        by None e fits = absurd (none (Mail (Answers t v)) at fits)
        by (Some (Active f)) e fits = absurd (no_mail t (Answers t v) (sym (item_is (Mail (Answers t v)) at fits.0 (Itself t) fits.2)))
        by (Some (Parked (Cell a x) f)) e fits = absurd (no_mail t (Answers t v) (sym (item_is (Mail (Answers t v)) at (OfCell a x) (Itself t) fits.1)))
        by (Some (Parked (Lock a) f)) e fits = absurd (no_mail t (Answers t v) (sym (item_is (Mail (Answers t v)) at (OfLock a) (Itself t) fits.2)))
        by (Some (Parked Branches f)) e fits = absurd (none (Mail (Answers t v)) at fits)
        by (Some (Posted f)) e fits = absurd (no_asks t t fits.1 v (item_is (Mail (Answers t v)) at fits.0 (Mail (Asks t fits.1)) fits.4))
        by (Some (Delayed a x f)) e fits = absurd (no_asks t t _ v (item_is (Mail (Answers t v)) at (OfCell a x) _ fits.1))
        by (Some (Answered vs f)) e fits =
            let same : fits.1 ≡ v = value_is t t fits.1 v (item_is (Mail (Answers t v)) at fits.0 (Mail (Answers t fits.1)) fits.4) in
            IsGiven vs f e (subst (λ z. IsAnswered code z vs f) same fits.3)
            (subst (AnswersAt t.processor) (queue_is (Mail (Answers t v)) at fits.0 (Mail (Answers t fits.1)) fits.4) fits.2)
        by (Some (Calling kid f)) e fits = absurd (none (Mail (Answers t v)) at fits.1)
        by (Some (Called kid w f)) e fits = ⊎_elim
            (λ (g : (l : Queue) × GoesAt t.processor l × (hold.lies t ≡ Some (l, Itself t))).
            absurd (no_mail t (Answers t v) (sym (item_is (Mail (Answers t v)) at g.0 (Itself t) g.2))))
            (λ (g : (l : Queue) × AnswersAt t.processor l × (hold.lies t ≡ Some (l, Mail (Answers t w)))).
            let same : w ≡ v = value_is t t w v (item_is (Mail (Answers t v)) at g.0 (Mail (Answers t w)) g.2) in
            IsResult kid f (e ∙ ap (λ z. Some (Called kid z f)) same) fits.0
            (subst (AnswersAt t.processor) (queue_is (Mail (Answers t v)) at g.0 (Mail (Answers t w)) g.2) g.1))
            fits.1
        by (Some (Gone w)) e fits = absurd (none (Mail (Answers t v)) at fits)

  -- ---- an idle mesh

  lies_found : (t : ThreadNo) (k : Queue) (x : Item) → hold.lies t ≡ Some (k, x) → queues k ≡ [] → ⊥
  lies_found t k x lies empty =
      let one : x ∷ [] ≡ [] =
      ap (λ b. if b then x ∷ [] else []) (sym (queue_itself k)) ∙ (ap (λ l. lies_in l k) (sym lies) ∙ (sym (hold.each t k) ∙ ap (of_thread t) empty)) in
      cc

  goes_busy : (q : ℕ) (k : Queue) → GoesAt q k → IsBusy k
  goes_busy q (Hand p) b = tt
  goes_busy q (Ready p) b = tt
  goes_busy q (OfCell a x) b = absurd b
  goes_busy q (OfLock a) b = absurd b
  goes_busy q (Inbox p) b = tt
  goes_busy q (Outbox p) b = tt
  goes_busy q Makes b = tt

  asks_busy : (post : Post) (k : Queue) → AsksAt post k → IsBusy k
  asks_busy post (Hand p) b = tt
  asks_busy post (Ready p) b = tt
  asks_busy post (OfCell a x) b = absurd b
  asks_busy post (OfLock a) b = absurd b
  asks_busy post (Inbox p) b = tt
  asks_busy post (Outbox p) b = tt
  asks_busy post Makes b = tt

  answers_busy : (q : ℕ) (k : Queue) → AnswersAt q k → IsBusy k
  answers_busy q (Hand p) b = tt
  answers_busy q (Ready p) b = tt
  answers_busy q (OfCell a x) b = absurd b
  answers_busy q (OfLock a) b = absurd b
  answers_busy q (Inbox p) b = tt
  answers_busy q (Outbox p) b = tt
  answers_busy q Makes b = tt

  module _ (idle : AreIdle queues) where
    still : (t : ThreadNo) (p : Spot) → MayLie code t p (hold.lies t) → IsStill p
    still t (Active f) l = absurd (lies_found t l.0 (Itself t) l.2 (idle l.0 (goes_busy t.processor l.0 l.1)))
    still t (Parked r f) l = tt
    still t (Posted f) l = absurd (lies_found t l.0 (Mail (Asks t l.1)) l.4 (idle l.0 (asks_busy l.1 l.0 l.2)))
    still t (Delayed a x f) l = tt
    still t (Answered vs f) l = absurd (lies_found t l.0 (Mail (Answers t l.1)) l.4 (idle l.0 (answers_busy t.processor l.0 l.2)))
    still t (Calling kid f) l = tt
    still t (Called kid v f) l = ⊎_elim
        (λ (e : (k : Queue) × GoesAt t.processor k × (hold.lies t ≡ Some (k, Itself t))).
        absurd (lies_found t e.0 (Itself t) e.2 (idle e.0 (goes_busy t.processor e.0 e.1))))
        (λ (e : (k : Queue) × AnswersAt t.processor k × (hold.lies t ≡ Some (k, Mail (Answers t v)))).
        absurd (lies_found t e.0 (Mail (Answers t v)) e.2 (idle e.0 (answers_busy t.processor e.0 e.1))))
        l.1
    still t (Gone v) l = tt

    pub all_still : (t : ThreadNo) (p : Spot) → item_in spots t ≡ Some p → IsStill p
    all_still t p e = still t p (subst (λ o. FitsAt code t o (hold.lies t)) e (hold.fits t))

-- A thread that is made goes to the back of the ready list of its processor.
module _ (code : Code) (queues : Queues) (spots : List (List Spot)) (hold : Hold code queues spots) (q : ℕ) (row : List Spot) (at : slice_get spots q ≡ Some row) where
  abbrev newest : ThreadNo
  newest = record { processor = q; thread = length row }

  abbrev there : Option (Queue × Item)
  there = Some (Ready q, Itself newest)

  was_none : item_in spots newest ≡ None
  was_none = ap (λ o. option_and_then (λ (ps : List Spot). slice_get ps (length row)) o) at ∙ past row
    where
      past : (ps : List Spot) → slice_get ps (length ps) ≡ None
      past [] = refl
      past (p ∷ ps) = past ps

  nowhere : hold.lies newest ≡ None
  nowhere = subst (λ o. FitsAt code newest o (hold.lies newest)) was_none (hold.fits newest)

  pub appear : (f : Fiber) → Hold code (pushed queues (Ready q) (Itself newest)) (push_item spots q (Active f))
  appear f = record {
    lies = λ u. if same_thread u newest then there else hold.lies u;
    each = λ u k. each_by u k (same_thread u newest) refl (same_queue k (Ready q)) refl;
    fits = λ u. fits_by u (same_thread u newest) refl;
  }
    where
      none_of : (k : Queue) → of_thread newest (queues k) ≡ []
      none_of k = hold.each newest k ∙ ap (λ l. lies_in l k) nowhere

      each_by : (u : ThreadNo) (k : Queue) (b : Bool) → same_thread u newest ≡ b → (c : Bool) → same_queue k (Ready q) ≡ c
          → of_thread u (if c then queues (Ready q) ++ Itself newest ∷ [] else queues k) ≡ lies_in (if b then there else hold.lies u) k
      each_by u k true e true s =
          of_append u (queues (Ready q)) (Itself newest ∷ [])
          ∙ (ap (λ b. of_thread u (queues (Ready q)) ++ (if b then Itself newest ∷ [] else [])) e
          ∙ (ap (λ zs. zs ++ Itself newest ∷ []) (ap (λ v. of_thread v (queues (Ready q))) (one_thread u newest e) ∙ none_of (Ready q))
          ∙ ap (λ b. if b then Itself newest ∷ [] else []) (sym s)))
      each_by u k true e false s =
          ap (λ v. of_thread v (queues k)) (one_thread u newest e) ∙ (none_of k ∙ ap (λ b. if b then Itself newest ∷ [] else []) (sym s))
      each_by u k false e true s =
          of_append u (queues (Ready q)) (Itself newest ∷ [])
          ∙ (ap (λ b. of_thread u (queues (Ready q)) ++ (if b then Itself newest ∷ [] else [])) e
          ∙ (append_none (of_thread u (queues (Ready q)))
          ∙ (hold.each u (Ready q) ∙ ap (lies_in (hold.lies u)) (sym (one_queue k (Ready q) s)))))
      each_by u k false e false s = hold.each u k

      fits_by : (u : ThreadNo) (b : Bool) → same_thread u newest ≡ b → FitsAt code u (item_in (push_item spots q (Active f)) u) (if b then there else hold.lies u)
      fits_by u true e =
          subst (λ v. FitsAt code v (item_in (push_item spots q (Active f)) v) there) (sym (one_thread u newest e))
          (subst (λ o. FitsAt code newest o there) (sym (push_found spots q row at (Active f))) (Ready q, refl, refl))
      fits_by u false e =
          let apart : u ≡ newest → ⊥ = λ d. absurd (false≢true (sym e ∙ subst (λ v. same_thread v newest ≡ true) (sym d) (thread_itself newest))) in
          subst (λ o. FitsAt code u o (hold.lies u)) (sym (push_elsewhere spots q row at (Active f) u apart)) (hold.fits u)
