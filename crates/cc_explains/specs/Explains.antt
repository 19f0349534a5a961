-- A run explains the entries of a journal.
use Rattle.std.specs.Prelude.{◌≡◌, ℕ, suc, List, [], ◌∷◌, ◌++◌, length, Option, Some, None, ℤ}
use Rattle.std.specs.List.{AllByRecursion}
use Rattle.global_ptr.specs.declared.ends.Standing.{Standing}
use Rattle.global_ptr.specs.declared.ends.Standing.TheVariants.{Done, Blocked, Fault, Limit}
use Rattle.cc_core.specs.Core.{Program}
use Rattle.cc_core.specs.Steps.{Stands}
use Rattle.effect_journal.specs.declared.entry.Entry.{Entry}
use Rattle.effect_journal.specs.declared.entry.Entry.TheVariants.{Run, Serve, Make, End}
use Rattle.effect_journal.specs.declared.entry.FaultBy.{FaultBy}
use Rattle.numbered_runs.specs.Stands.{IsThread}
use Rattle.rsr_message.specs.declared.requests.Request.{Request}
use Rattle.rsr_message.specs.Requests.{Spells, version_2}
use Rattle.cc_ops.specs.declared.number.ThreadNo.{ThreadNo}
use Rattle.cc_explains.specs.Places.{Place, Step, beginning, Lead}
use Rattle.cc_explains.specs.Moves.{posted_at, asker, IsNextRequest, IsServedAt, IsAtFault}

-- ---- the steps of an entry

-- thread t makes the step, which is no remote operation
pub record IsOwnStep (p : Program) (t : ThreadNo) (m : Step) : Type 0 where
  pub thread : IsThread m.place.numbers t m.thread
  pub own : posted_at p m.place t ≡ None

-- r is the request of its asker's next move, these are its bytes, and it is served at a processor, or is a Make
pub record IsRequest (p : Program) (at : Option ℕ) (bytes : List ℕ) (a : Place) (r : Request) : Type 0 where
  pub spelled : Spells version_2 r bytes
  pub asked : IsNextRequest p a r
  pub served : IsServedAt at r

-- the asker makes the step of the request with these bytes
pub record IsServing (p : Program) (at : Option ℕ) (bytes : List ℕ) (m : Step) : Type 0 where
  pub request : Request
  pub is : IsRequest p at bytes m.place request
  pub thread : IsThread m.place.numbers (asker request) m.thread

-- these are the one step that serves a request
abbrev pub Serves : Program → Option ℕ → List ℕ → List Step → Type 0
Serves p at bytes ms = (m : Step) × (ms ≡ m ∷ []) × IsServing p at bytes m

-- these are the steps that an entry names
abbrev pub Names : Program → Entry → List Step → Type 0
Names p (Run q k steps) ms = (length ms ≡ steps) × AllByRecursion (IsOwnStep p (record { processor = q; thread = k })) ms
Names p (Serve q bytes) ms = Serves p (Some q) bytes ms
Names p (Make bytes) ms = Serves p None bytes ms
Names p (End standing by) ms = ⊥

-- entry by entry
abbrev pub NamesAll : Program → List Entry → List Step → Type 0
NamesAll p [] ms = ms ≡ []
NamesAll p (e ∷ es) ms = (first : List Step) × (rest : List Step) × (ms ≡ first ++ rest) × Names p e first × NamesAll p es rest

-- ---- the end

-- the step limit that is taken after n steps: where the standing is a limit this is it, else it is greater
abbrev pub limit_taken : Standing → (n : ℕ) → ℕ
limit_taken (Done v) n = suc n
limit_taken (Blocked k) n = suc n
limit_taken (Fault fault) n = suc n
limit_taken (Limit k) n = n

-- for a fault a thread is named, whose next move it is, and else none is
abbrev pub IsBy : Program → Place → Standing → Option FaultBy → Type 0
IsBy p a (Fault fault) (Some by) = IsAtFault p a (record { processor = by.processor; thread = by.thread }) fault.kind fault.line
IsBy p a (Fault fault) None = ⊥
IsBy p a standing by = by ≡ None

-- a run that has come to this place may end so
pub record IsEnd (p : Program) (a : Place) (standing : Standing) (by : Option FaultBy) : Type 0 where
  pub stands : Stands p (limit_taken standing a.made) a.made a.config standing
  pub thread : IsBy p a standing by

-- ---- the whole

-- There is a run of p from these ints whose steps are, entry by entry, those that the entries name, and whose end has this standing.
pub record Explains (p : Program) (ints : List ℤ) (entries : List Entry) (standing : Standing) : Type 0 where
  pub before : List Entry
  pub by : Option FaultBy
  pub whole : entries ≡ before ++ End standing by ∷ []
  pub steps : List Step
  pub end : Place
  pub run : Lead p steps (beginning p ints) end
  pub named : NamesAll p before steps
  pub ends : IsEnd p end standing by

-- ---- entry by entry, from place to place

-- an entry leads from a to b: the steps that it names do
abbrev pub IsRead : Program → Entry → (a b : Place) → Type 0
IsRead p e a b = (ms : List Step) × Lead p ms a b × Names p e ms

abbrev pub AreRead : Program → List Entry → (a b : Place) → Type 0
AreRead p [] a b = a ≡ b
AreRead p (e ∷ es) a b = (c : Place) × IsRead p e a c × AreRead p es c b

-- the entries before the end lead to a place where a run may end so
pub record IsReadTo (p : Program) (ints : List ℤ) (entries : List Entry) (standing : Standing) : Type 0 where
  pub before : List Entry
  pub by : Option FaultBy
  pub whole : entries ≡ before ++ End standing by ∷ []
  pub end : Place
  pub read : AreRead p before (beginning p ints) end
  pub ends : IsEnd p end standing by
