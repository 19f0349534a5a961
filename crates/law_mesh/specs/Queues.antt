-- Where the threads of a mesh stand in lists: each in one list at most, once.
use Rattle.std.specs.Prelude.{◌≡◌, ◌⊎◌, ℕ, List, [], ◌∷◌, ◌++◌, Bool, true, false, ◌&&◌, nat_eq, if◌then◌else◌, Option, Some, None}
use Rattle.cc_ops.specs.Values.{Value, Void, Int, Null, Ptr}
use Rattle.cc_ops.specs.Machine.{Address, Values}
use Rattle.cc_ops.specs.declared.number.ThreadNo.{ThreadNo}
use Rattle.cc_ops.specs.Shelves.{home_in}
use Rattle.cc_core.specs.Asks.{Ask, Answer, Writes, Casts, Enters}
use Rattle.cc_core.specs.Core.{Shapes, function_shape}
use Rattle.cc_core.specs.Numbers.{Post, Get, Put, Call, Cast, Make}
use Rattle.cc_core.specs.Effects.{is_call}
use Rattle.cc_code.specs.Code.{Code, Then, Does, move}
use Rattle.numbered_runs.specs.Posts.{move_posts}
use Rattle.law_mesh.specs.Spots.{Fiber, Cell, Lock, Branches, Spot, Active, Parked, Posted, Delayed, Answered, Calling, Called, Gone, item_in}

-- The lists of a processor: the thread in its hand, who is ready, who waits for a cell or an object, the inbox, the outbox. Requests for new processors
-- (Makes) wait in one list for all.
pub data Queue : Type 0 where
  Hand : (q : ℕ) → Queue
  Ready : (q : ℕ) → Queue
  OfCell : Address → (x : ℕ) → Queue
  OfLock : Address → Queue
  Inbox : (q : ℕ) → Queue
  Outbox : (q : ℕ) → Queue
  Makes : Queue

-- what a thread asks by a request; the answer to that
pub data Message : Type 0 where
  Asks : (asker : ThreadNo) → Post → Message
  Answers : (asker : ThreadNo) → Value Address → Message

abbrev pub asker : Message → ThreadNo
asker (Asks t post) = t
asker (Answers t v) = t

pub data Item : Type 0 where
  Itself : ThreadNo → Item
  Mail : Message → Item

abbrev pub owner : Item → ThreadNo
owner (Itself t) = t
owner (Mail m) = asker m

abbrev pub same_thread : ThreadNo → ThreadNo → Bool
same_thread t u = nat_eq t.processor u.processor && nat_eq t.thread u.thread

abbrev pub same_place : Address → Address → Bool
same_place a b = nat_eq a.processor b.processor && nat_eq a.object b.object

abbrev pub same_queue : Queue → Queue → Bool
same_queue (Hand q) (Hand p) = nat_eq q p
same_queue (Ready q) (Ready p) = nat_eq q p
same_queue (OfCell a x) (OfCell b y) = same_place a b && nat_eq x y
same_queue (OfLock a) (OfLock b) = same_place a b
same_queue (Inbox q) (Inbox p) = nat_eq q p
same_queue (Outbox q) (Outbox p) = nat_eq q p
same_queue Makes Makes = true
same_queue l k = false

abbrev pub Queues : Type 0
Queues = Queue → List Item

abbrev pub put_queue : Queues → Queue → List Item → Queues
put_queue queues l xs k = if same_queue k l then xs else queues k

-- what a list has of a thread
abbrev pub of_thread : ThreadNo → List Item → List Item
of_thread t [] = []
of_thread t (x ∷ xs) = if same_thread t (owner x) then x ∷ of_thread t xs else of_thread t xs

-- in one list, as one item; or nowhere
abbrev pub lies_in : Option (Queue × Item) → Queue → List Item
lies_in None k = []
lies_in (Some e) k = if same_queue k e.0 then e.1 ∷ [] else []

-- a processor is busy while such a list has an item
abbrev pub IsBusy : Queue → Type 0
IsBusy (OfCell a x) = ⊥
IsBusy (OfLock a) = ⊥
IsBusy l = Unit {0}

-- ---- where a thread may lie that stands at a spot

-- the processor that serves a request; none serves a Make, which the machine does as a whole
abbrev pub target : Post → Option ℕ
target (Get a) = Some (home_in a)
target (Put a v) = Some (home_in a)
target (Call f o vs) = Some (home_in o)
target (Cast f o vs) = Some (home_in o)
target (Make c vs) = None

-- a thread that goes on, on processor q
abbrev pub GoesAt : (q : ℕ) → Queue → Type 0
GoesAt q (Hand p) = p ≡ q
GoesAt q (Ready p) = p ≡ q
GoesAt q l = ⊥

-- a request: under way, come, or a Get that was woken
abbrev pub AsksAt : Post → Queue → Type 0
AsksAt post (Ready q) = target post ≡ Some q
AsksAt post (Inbox q) = target post ≡ Some q
AsksAt post (Outbox q) = Unit {0}
AsksAt post Makes = target post ≡ None
AsksAt post l = ⊥

-- an answer to a thread of processor q: under way, or come
abbrev pub AnswersAt : (q : ℕ) → Queue → Type 0
AnswersAt q (Inbox p) = p ≡ q
AnswersAt q (Outbox p) = Unit {0}
AnswersAt q l = ⊥

-- a function of an object that only one thread at a time is inside
abbrev pub holds : Shapes → (f : ℕ) → Value Address → Bool
holds h f Void = false
holds h f (Int n) = false
holds h f Null = false
holds h f (Ptr a x) = (function_shape h f).atomic

abbrev pub holds_none : Shapes → List (ℕ × Value Address) → Bool
holds_none h [] = true
holds_none h (e ∷ es) = if holds h e.0 e.1 then false else holds_none h es

module _ (code : Code) where
  -- what a thread asks by a request it asks outside of all atomic functions
  pub record AsksBy (post : Post) (f : Fiber) : Type 0 where
    pub posts : move_posts (move code f.thread) None ≡ Some post
    pub free : holds_none code.shapes f.inside ≡ true

  -- A write and a cast take nothing of the Reply.
  abbrev pub taken_values : Ask Address → Value Address → Values
  taken_values (Writes remote a w) v = []
  taken_values (Casts f o vs) v = []
  taken_values ask v = v ∷ []

  pub record IsAnswered (v : Value Address) (vs : Values) (f : Fiber) : Type 0 where
    pub line : ℕ
    pub ask : Ask Address
    pub goes : Answer Address → Then Address
    pub asks : move code f.thread ≡ Does line ask goes
    pub plain : is_call ask ≡ false
    pub values : vs ≡ taken_values ask v

  -- it asked for a call elsewhere
  pub record CallsAway (f : Fiber) : Type 0 where
    pub line : ℕ
    pub ask : Ask Address
    pub goes : Answer Address → Then Address
    pub asks : move code f.thread ≡ Does line ask goes
    pub call : is_call ask ≡ true
    pub free : holds_none code.shapes f.inside ≡ true

  -- it asks to go into an atomic function of this object
  pub record GoesLater (o : Address) (f : Fiber) : Type 0 where
    pub line : ℕ
    pub function : ℕ
    pub cell : ℕ
    pub values : Values
    pub next : Answer Address → Then Address
    pub asks : move code f.thread ≡ Does line (Enters function (Ptr o cell) values) next
    pub atomic : (function_shape code.shapes function).atomic ≡ true

  abbrev pub MayLie : ThreadNo → Spot → Option (Queue × Item) → Type 0
  MayLie t (Active f) l = (k : Queue) × GoesAt t.processor k × (l ≡ Some (k, Itself t))
  MayLie t (Parked (Cell a x) f) l = (t.processor ≡ a.processor) × (l ≡ Some (OfCell a x, Itself t))
  MayLie t (Parked (Lock a) f) l = (t.processor ≡ a.processor) × GoesLater a f × (l ≡ Some (OfLock a, Itself t))
  MayLie t (Parked Branches f) l = l ≡ None
  MayLie t (Posted f) l = (k : Queue) × (post : Post) × AsksAt post k × AsksBy post f × (l ≡ Some (k, Mail (Asks t post)))
  MayLie t (Delayed a x f) l = AsksBy (Get (Ptr a x)) f × (l ≡ Some (OfCell a x, Mail (Asks t (Get (Ptr a x)))))
  MayLie t (Answered vs f) l = (k : Queue) × (v : Value Address) × AnswersAt t.processor k × IsAnswered v vs f × (l ≡ Some (k, Mail (Answers t v)))
  MayLie t (Calling kid f) l = CallsAway f × (l ≡ None)
  MayLie t (Called kid v f) l = CallsAway f × (((k : Queue) × GoesAt t.processor k × (l ≡ Some (k, Itself t)))
      ⊎ ((k : Queue) × AnswersAt t.processor k × (l ≡ Some (k, Mail (Answers t v)))))
  MayLie t (Gone v) l = l ≡ None

  abbrev pub FitsAt : ThreadNo → Option Spot → Option (Queue × Item) → Type 0
  FitsAt t None l = l ≡ None
  FitsAt t (Some p) l = MayLie t p l

-- the lists hold the threads as they stand
pub record Hold (code : Code) (queues : Queues) (spots : List (List Spot)) : Type 0 where
  pub lies : ThreadNo → Option (Queue × Item)
  pub each : (t : ThreadNo) (k : Queue) → of_thread t (queues k) ≡ lies_in (lies t) k
  pub fits : (t : ThreadNo) → FitsAt code t (item_in spots t) (lies t)

-- one item out of a list, and one to the back of a list
abbrev pub pulled : Queues → Queue → (front back : List Item) → Queues
pulled queues k front back = put_queue queues k (front ++ back)

abbrev pub pushed : Queues → Queue → Item → Queues
pushed queues k y = put_queue queues k (queues k ++ y ∷ [])

abbrev pub carried : Queues → (k : Queue) (front back : List Item) → (l : Queue) → Item → Queues
carried queues k front back l y = pushed (pulled queues k front back) l y

-- no waiter is ready, no message is in a box, and no Make waits
abbrev pub AreIdle : Queues → Type 0
AreIdle queues = (k : Queue) → IsBusy k → queues k ≡ []

-- all that wait for a cell go to the back of the ready list of its processor, in their order
abbrev pub poured : Queues → Address → (x : ℕ) → Queues
poured queues a x = put_queue (put_queue queues (Ready a.processor) (queues (Ready a.processor) ++ queues (OfCell a x))) (OfCell a x) []

abbrev pub woken : Address → (x : ℕ) → Spot → Spot
woken a x (Parked (Cell b y) f) = if same_queue (OfCell b y) (OfCell a x) then Active f else Parked (Cell b y) f
woken a x (Delayed b y f) = if same_queue (OfCell b y) (OfCell a x) then Posted f else Delayed b y f
woken a x p = p
