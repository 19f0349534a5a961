-- The state of the machine: its processors, with their threads, lists and boxes; and the mesh that it shows.
use Rattle.std.specs.Prelude.{◌≡◌, ℕ, List, [], ◌∷◌, ◌++◌, map, slice_get, Option, Some, None}
use Rattle.std.specs.Option.{option_map_or}
use Rattle.cc_ops.specs.Values.{Value}
use Rattle.cc_ops.specs.Machine.{Address}
use Rattle.cc_ops.specs.declared.number.ThreadNo.{ThreadNo}
use Rattle.cc_ops.specs.Shelves.{Shelf, changed}
use Rattle.cc_core.specs.Numbers.{Post}
use Rattle.cc_code.specs.Code.{Code}
use Rattle.code_names.specs.Same.{Pairwise}
use Rattle.law_mesh.specs.Spots.{Fiber, Branches, Cell, Lock, Spot, Active, Parked, Posted, Delayed, Answered, Calling, Called, Gone, Mesh, item_in}
use Rattle.law_mesh.specs.Queues.{Hand, Ready, OfCell, OfLock, Inbox, Outbox, Makes, Message, Asks, Item, Itself, Mail, Queues, Hold}

-- what is ready, or waits for a cell: a thread, by its number here; a Get of a thread of any processor
pub data Waiter : Type 0 where
  Own : (thread : ℕ) → Waiter
  Asked : (asker : ThreadNo) → Post → Waiter

-- Goes: it is in the hand, ready, or in the list of a cell or an object. Joins: it waits for its branches. Asking: at its request, until the Reply
-- has come. Has: with the value of its call
pub data Stage : Type 0 where
  Goes : Stage
  Joins : Stage
  Asking : Stage
  Has : Value Address → Stage

-- a thread that lives, with whom it is to tell what it ends with; one that has ended
pub data Entry : Type 0 where
  Lives : Fiber → Stage → (caller : Option ThreadNo) → Entry
  Ended : Value Address → Entry

-- who holds an object, and who waits for it, first to last
pub record Locked : Type 0 where
  pub holder : ℕ
  pub waiters : List ℕ

-- One processor. hand: the thread that it runs, which is out of all lists while it runs.
pub record Processor : Type 0 where
  pub shelf : Shelf
  pub table : List Entry
  pub hand : Option ℕ
  pub ready : List Waiter
  pub cells : (object x : ℕ) → List Waiter
  pub locks : (object : ℕ) → Option Locked
  pub inbox : List Message
  pub outbox : List Message

pub record Processors : Type 0 where
  pub code : Code
  pub all : List Processor
  pub makes : List Message
  pub output : List ℕ

-- ---- its lists as lists of items

abbrev pub number : (q n : ℕ) → ThreadNo
number q n = record { processor = q; thread = n }

abbrev pub waiter_item : (q : ℕ) → Waiter → Item
waiter_item q (Own n) = Itself (record { processor = q; thread = n })
waiter_item q (Asked t post) = Mail (Asks t post)

abbrev pub hand_items : (q : ℕ) → Option ℕ → List Item
hand_items q None = []
hand_items q (Some n) = Itself (record { processor = q; thread = n }) ∷ []

abbrev pub lock_items : (q : ℕ) → Option Locked → List Item
lock_items q None = []
lock_items q (Some l) = map (λ n. Itself (record { processor = q; thread = n })) l.waiters

abbrev pub of_processor : {X : Type 0} → List Processor → ℕ → (Processor → List X) → List X
of_processor all q f = option_map_or f (slice_get all q) []

abbrev pub lists : Processors → Queues
lists m (Hand q) = of_processor m.all q (λ p. hand_items q p.hand)
lists m (Ready q) = of_processor m.all q (λ p. map (waiter_item q) p.ready)
lists m (OfCell a x) = of_processor m.all a.processor (λ p. map (waiter_item a.processor) (p.cells a.object x))
lists m (OfLock a) = of_processor m.all a.processor (λ p. lock_items a.processor (p.locks a.object))
lists m (Inbox q) = of_processor m.all q (λ p. map Mail p.inbox)
lists m (Outbox q) = of_processor m.all q (λ p. map Mail p.outbox)
lists m Makes = map Mail m.makes

-- ---- how the machine shows a mesh, and so a machine of numbers

abbrev pub IsEntry : Entry → Spot → Type 0
IsEntry (Lives f Goes k) (Active g) = f ≡ g
IsEntry (Lives f Goes k) (Parked (Cell a x) g) = f ≡ g
IsEntry (Lives f Goes k) (Parked (Lock a) g) = f ≡ g
IsEntry (Lives f Joins k) (Parked Branches g) = f ≡ g
IsEntry (Lives f Asking k) (Posted g) = f ≡ g
IsEntry (Lives f Asking k) (Delayed a x g) = f ≡ g
IsEntry (Lives f Asking k) (Answered vs g) = f ≡ g
IsEntry (Lives f Asking k) (Calling kid g) = f ≡ g
IsEntry (Lives f Asking k) (Called kid v g) = f ≡ g
IsEntry (Lives f (Has u) k) (Called kid v g) = (f ≡ g) × (u ≡ v)
IsEntry (Ended u) (Gone v) = u ≡ v
IsEntry e p = ⊥

abbrev pub caller_of : Option Entry → Option ThreadNo
caller_of None = None
caller_of (Some (Lives f s k)) = k
caller_of (Some (Ended v)) = None

abbrev pub shelves_of : List Processor → List Shelf
shelves_of all = map (λ (p : Processor). p.shelf) all

abbrev pub tables_of : List Processor → List (List Entry)
tables_of all = map (λ (p : Processor). p.table) all

pub record Runs (m : Processors) (n : Mesh) : Type 0 where
  pub code : m.code ≡ n.code
  pub shelves : shelves_of m.all ≡ n.shelves
  pub output : m.output ≡ n.output
  pub entries : Pairwise (Pairwise IsEntry) (tables_of m.all) n.spots
  pub lists : Hold m.code (lists m) n.spots
  -- whom a thread is to tell waits for that, and nobody else does
  pub askers : (t kid : ThreadNo) (f : Fiber) → item_in n.spots t ≡ Some (Calling kid f) → caller_of (item_in (tables_of m.all) kid) ≡ Some t
  pub callers : (t kid : ThreadNo) → caller_of (item_in (tables_of m.all) kid) ≡ Some t → (f : Fiber) × (item_in n.spots t ≡ Some (Calling kid f))

-- ---- changes

abbrev pub with_processor : Processors → ℕ → Processor → Processors
with_processor m q p = record { code = m.code; all = changed m.all q (λ o. p); makes = m.makes; output = m.output }

abbrev pub printing : List ℕ → Processors → Processors
printing bytes m = record { code = m.code; all = m.all; makes = m.makes; output = m.output ++ bytes }
