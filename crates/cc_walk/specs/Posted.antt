-- What the next move of a thread posts, as a request.
use Rattle.std.specs.Prelude.{◌≡◌, ◌≢◌, ℕ, ◌<◌, true, List, length, map, Option, Some, None}
use Rattle.std.specs.Option.{option_and_then}
use Rattle.std.specs.FinMap as fin
use Rattle.global_ptr.specs.declared.values.Value.{Value as RustValue}
use Rattle.cc_ops.specs.Values.{Value, Void, Ptr}
use Rattle.cc_ops.specs.Machine.{Address, value_of}
use Rattle.cc_core.specs.Asks.{Ask, Writes, Calls, Casts, NewProcessor}
use Rattle.cc_core.specs.Config.{Config, State}
use Rattle.cc_core.specs.Core.{Program, Shapes, class_shape}
use Rattle.cc_core.specs.Numbers as core
use Rattle.cc_core.specs.Numbers.{Numbers, Post, Get, Put, Call, Cast, Make}
use Rattle.cc_ops.specs.declared.number.ThreadNo.{ThreadNo}
use Rattle.numbered_runs.specs.Stands.{thread_named}
use Rattle.rsr_message.specs.declared.requests.Request.{Request}
use Rattle.rsr_message.specs.declared.requests.Body.{Body}
use Rattle.rsr_message.specs.declared.requests.Body.TheVariants as body

-- to whom a request goes that asks for a new processor
abbrev pub anybody : ℕ
anybody = 4294967295

abbrev pub AreValues : List RustValue → List (Value Address) → Type 0
AreValues args vs = map value_of args ≡ vs

-- The request to processor `to` with this body says what is posted. It goes to the processor of the object.
abbrev pub Says : Post → (to : ℕ) → Body → Type 0
Says (Get (Ptr a x)) to (body.Get spot) = (to ≡ a.processor) × (spot.object ≡ a.object) × (spot.offset ≡ x)
Says (Put (Ptr a x) v) to (body.Put spot w) = (to ≡ a.processor) × (spot.object ≡ a.object) × (spot.offset ≡ x) × (value_of w ≡ v)
Says (Call f (Ptr a x) vs) to (body.Call object handler args) = (to ≡ a.processor) × (object ≡ a.object) × (handler ≡ f) × AreValues args vs
Says (Cast f (Ptr a x) vs) to (body.Cast object handler args) = (to ≡ a.processor) × (object ≡ a.object) × (handler ≡ f) × AreValues args vs
Says (Make class vs) to (body.Make c args) = (to ≡ anybody) × (c ≡ class) × AreValues args vs
Says post to b = ⊥

-- a processor that is asked, and what it is asked, say what is posted; there are none where nothing is
abbrev pub IsSaid : Option Post → Option (ℕ × Body) → Type 0
IsSaid None None = Unit {0}
IsSaid (Some post) (Some e) = Says post e.0 e.1
IsSaid post e = ⊥

-- it comes from thread t, whose number is the ticket
pub record IsFrom (t : ThreadNo) (post : Post) (r : Request) : Type 0 where
  pub processor : r.from ≡ t.processor
  pub thread : r.ticket ≡ t.thread
  pub says : Says post r.to r.body

abbrev pub IsPosted : ThreadNo → Option Post → Option Request → Type 0
IsPosted t None None = Unit {0}
IsPosted t (Some post) (Some r) = IsFrom t post r
IsPosted t post r = ⊥

-- the thread of a number, if one was made
abbrev pub state_at : Config → Numbers → ThreadNo → Option State
state_at s n t = option_and_then (λ x. fin.get s.threads x) (thread_named n t)

-- the request of thread t's next move; none where it posts nothing: no such thread lives, or its next move is no remote operation or is
-- one on a null pointer
abbrev pub AsksFor : Program → Config → Numbers → ThreadNo → Option Request → Type 0
AsksFor p s n t r = IsPosted t (core.posts p s n (state_at s n t)) r

-- What a remote operation names is there, and it hands over as many values as are taken, and never void.
abbrev pub IsSendable : Shapes → Ask Address → Type 0
IsSendable h (Writes true a v) = v ≢ Void
IsSendable h (Calls f o vs) = f < length h.functions
IsSendable h (Casts f o vs) = f < length h.functions
IsSendable h (NewProcessor c vs) = (c < length h.classes) × (length vs ≡ (class_shape h c).params)
IsSendable h q = Unit {0}
