-- What is said of the next move of a thread, by its number.
use Rattle.std.specs.Prelude.{◌≡◌, ◌≢◌, ℕ, Option, Some, None}
use Rattle.global_ptr.specs.declared.ends.FaultKind.{FaultKind}
use Rattle.cc_core.specs.Names.{Name}
use Rattle.cc_core.specs.Core.{Program}
use Rattle.cc_core.specs.Numbers.{Post, posts}
use Rattle.cc_core.specs.Steps.{Waits, Faults, step}
use Rattle.cc_ops.specs.declared.number.ThreadNo.{ThreadNo}
use Rattle.numbered_runs.specs.Alike.{IsLive}
use Rattle.numbered_runs.specs.Stands.{IsThread}
use Rattle.rsr_message.specs.declared.requests.Request.{Request}
use Rattle.rsr_message.specs.declared.requests.Body.{Body}
use Rattle.rsr_message.specs.declared.requests.Body.TheVariants as body
use Rattle.cc_walk.specs.Posted.{state_at, AsksFor}
use Rattle.cc_explains.specs.Places.{Place}

-- what the next move of thread t posts: none where it is no remote operation, or is one on a null pointer, which is a fault
abbrev pub posted_at : Program → Place → ThreadNo → Option Post
posted_at p a t = posts p a.config a.numbers (state_at a.config a.numbers t)

-- x is the live thread of number t
pub record IsLiveThread (a : Place) (t : ThreadNo) (x : Name) : Type 0 where
  pub named : IsThread a.numbers t x
  pub lives : IsLive a.config x

-- there is no such live thread
abbrev pub NoneLives : Place → ThreadNo → Type 0
NoneLives a t = (x : Name) → ¬ IsLiveThread a t x

abbrev pub HasToWait : Program → Place → ThreadNo → Type 0
HasToWait p a t = (x : Name) × IsLiveThread a t x × (step p x a.config ≡ Waits)

abbrev pub IsAtFault : Program → Place → ThreadNo → FaultKind → (line : ℕ) → Type 0
IsAtFault p a t kind line = (x : Name) × IsThread a.numbers t x × (step p x a.config ≡ Faults kind line)

-- its next move is some fault
abbrev pub HasFault : Program → Place → ThreadNo → Type 0
HasFault p a t = (kind : FaultKind) × (line : ℕ) × IsAtFault p a t kind line

-- its next move posts a request
abbrev pub Posts : Program → Place → ThreadNo → Type 0
Posts p a t = posted_at p a t ≢ None

-- the thread that a request names by `from` and the ticket
abbrev pub asker : Request → ThreadNo
asker r = record { processor = r.from; thread = r.ticket }

-- r is the request of its asker's next move
abbrev pub IsNextRequest : Program → Place → Request → Type 0
IsNextRequest p a r = AsksFor p a.config a.numbers (asker r) (Some r)

abbrev pub IsMake : Body → Type 0
IsMake (body.Call object handler args) = ⊥
IsMake (body.Get spot) = ⊥
IsMake (body.Put spot value) = ⊥
IsMake (body.Make class args) = Unit {0}
IsMake (body.Reply value) = ⊥
IsMake (body.Cast object handler args) = ⊥

-- a request is served by the processor that it goes to; a Make, which makes a processor, by none
abbrev pub IsServedAt : Option ℕ → Request → Type 0
IsServedAt (Some q) r = (¬ IsMake r.body) × (r.to ≡ q)
IsServedAt None r = IsMake r.body
