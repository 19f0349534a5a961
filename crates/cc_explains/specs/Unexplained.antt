-- The first entry of a journal that no run explains, and why.
use Rattle.std.specs.Prelude.{◌≡◌, ◌⊎◌, ℕ, ◌<◌, List, ◌∷◌, ◌++◌, length, Option, Some, None, ℤ}
use Rattle.cc_core.specs.Core.{Program}
use Rattle.effect_journal.specs.declared.entry.Entry.{Entry}
use Rattle.effect_journal.specs.declared.entry.Entry.TheVariants.{Run, Serve, Make, End}
use Rattle.rsr_message.specs.declared.requests.Request.{Request}
use Rattle.rsr_message.specs.Requests.{SpellsEither}
use Rattle.cc_ops.specs.declared.number.ThreadNo.{ThreadNo}
use Rattle.cc_explains.specs.declared.why.Why.{Why}
use Rattle.cc_explains.specs.declared.why.Why.TheVariants.{NoThread, OtherRequest, NotEnabled, Faults, OtherEnd}
use Rattle.cc_explains.specs.Places.{Place, beginning}
use Rattle.cc_explains.specs.Moves.{asker, NoneLives, HasToWait, HasFault, Posts}
use Rattle.cc_explains.specs.Explains.{IsRequest, IsRead, AreRead, IsEnd}

-- ---- the table

-- what speaks against a next step of thread t of its own
abbrev pub AgainstOwn : Program → ThreadNo → Place → Why → Type 0
AgainstOwn p t a NoThread = NoneLives a t
AgainstOwn p t a OtherRequest = ⊥
AgainstOwn p t a NotEnabled = HasToWait p a t ⊎ Posts p a t
AgainstOwn p t a Faults = HasFault p a t
AgainstOwn p t a OtherEnd = ⊥

-- What speaks against the step that serves the request with these bytes. A message names its asker in whichever version it is spelled.
abbrev pub AgainstServing : Program → Option ℕ → List ℕ → Place → Why → Type 0
-- the bytes are no whole message, or no such thread lives
AgainstServing p at bytes a NoThread = (r : Request) → SpellsEither r bytes → NoneLives a (asker r)
AgainstServing p at bytes a OtherRequest = (r : Request) × SpellsEither r bytes × (¬ IsRequest p at bytes a r)
AgainstServing p at bytes a NotEnabled = (r : Request) × SpellsEither r bytes × HasToWait p a (asker r)
AgainstServing p at bytes a Faults = (r : Request) × SpellsEither r bytes × HasFault p a (asker r)
AgainstServing p at bytes a OtherEnd = ⊥

-- the place of a reason in the table
abbrev pub row : Why → ℕ
row NoThread = 0
row OtherRequest = 1
row NotEnabled = 2
row Faults = 3
row OtherEnd = 4

-- the first reason of the table that holds
pub record IsFirst (Holds : Why → Type 0) (why : Why) : Type 0 where
  pub holds : Holds why
  pub first : (other : Why) → row other < row why → ¬ Holds other

-- ---- the first entry that fails

-- after so many steps of its own, fewer than the entry says, thread t has come to a place where something speaks against one more
pub record StopsShort (p : Program) (q k steps : ℕ) (a : Place) (why : Why) : Type 0 where
  pub made : ℕ
  pub fewer : made < steps
  pub place : Place
  pub read : IsRead p (Run q k made) a place
  pub against : IsFirst (AgainstOwn p (record { processor = q; thread = k }) place) why

-- the entry fails at a place
abbrev pub Fails : Program → Entry → Place → Why → Type 0
Fails p (Run q k steps) a why = StopsShort p q k steps a why
Fails p (Serve q bytes) a why = IsFirst (AgainstServing p (Some q) bytes a) why
Fails p (Make bytes) a why = IsFirst (AgainstServing p None bytes a) why
Fails p (End standing by) a why = (why ≡ OtherEnd) × (¬ IsEnd p a standing by)

-- The entries before number k are read, and that one fails where they lead.
pub record FirstUnexplained (p : Program) (ints : List ℤ) (entries : List Entry) (k : ℕ) (why : Why) : Type 0 where
  pub before : List Entry
  pub entry : Entry
  pub rest : List Entry
  pub whole : entries ≡ before ++ entry ∷ rest
  pub number : k ≡ length before
  pub place : Place
  pub read : AreRead p before (beginning p ints) place
  pub fails : Fails p entry place why
