-- A run is made again as the entries of a journal name its steps.
use Rattle.std.specs.Prelude.{◌≡◌, ℕ, Bool, true, false, List, Option, Some, None}
use Rattle.cc_ops.specs.declared.number.ThreadNo.{ThreadNo}
use Rattle.cc_core.specs.Names.{Name}
use Rattle.cc_core.specs.Core.{Program}
use Rattle.cc_core.specs.Config.{Config}
use Rattle.cc_core.specs.Steps.{Moves, CanMove, IsAtRest, step}
use Rattle.cc_explains.specs.declared.why.Why.{Why}
use Rattle.cc_explains.specs.declared.why.Why.TheVariants.{NoThread, OtherRequest, NotEnabled, Faults, OtherEnd}
use Rattle.cc_explains.specs.Places.{Place, Step, Lead, behind}
use Rattle.cc_explains.specs.Moves.{IsLiveThread, NoneLives, HasToWait, HasFault}
use Rattle.cc_explains.specs.Explains.{Serves, IsRead}
use Rattle.cc_explains.specs.Unexplained.{AgainstOwn, AgainstServing, IsFirst, Fails}
use Rattle.cc_walk.specs.Views.{machine_of}
use Rattle.effect_journal.specs.declared.entry.Entry.{Entry}
use Rattle.effect_journal.specs.declared.entry.Entry.TheVariants.{Run}
use Rattle.numbered_runs.specs.Stands.{Stands, IsThread}
use Rattle.trace_check.specs.declared.replay.Replay.{Replay}

-- a replay has come to this place of a run of p
pub record IsAt (p : Program) (replay : Replay) (a : Place) : Type 0 where
  pub stands : Stands p (machine_of replay.walk) a.config a.numbers
  pub made : replay.made ≡ a.made

-- from place a the replay has made a step of thread t, or has made none for this reason
abbrev pub MakesStep : Program → ThreadNo → Place → Option Why → Replay → Type 0
MakesStep p t a None new =
    (x : Name) × (r : Config) × IsThread a.numbers t x × (step p x a.config ≡ Moves r) × IsAt p new (behind p x a r)
MakesStep p t a (Some NoThread) new = NoneLives a t
MakesStep p t a (Some OtherRequest) new = ⊥
MakesStep p t a (Some NotEnabled) new = HasToWait p a t
MakesStep p t a (Some Faults) new = HasFault p a t
MakesStep p t a (Some OtherEnd) new = ⊥

-- the replay has come to a place to which something leads, or this reason speaks against it
abbrev pub GoesOn : Program → (Leads : Place → Type 0) → (Against : Why → Type 0) → Option Why → Replay → Type 0
GoesOn p Leads Against None new = (b : Place) × Leads b × IsAt p new b
GoesOn p Leads Against (Some why) new = Against why

-- from place a by an entry
abbrev pub Replays : Program → Entry → Place → Option Why → Replay → Type 0
Replays p e a = GoesOn p (IsRead p e a) (Fails p e a)

-- from place a by one step of thread t of its own
abbrev pub ReplaysOwn : Program → ThreadNo → Place → Option Why → Replay → Type 0
ReplaysOwn p t a = GoesOn p (IsRead p (Run t.processor t.thread 1) a) (IsFirst (AgainstOwn p t a))

-- from place a by the step that serves the request with these bytes
abbrev pub ReplaysServing : Program → (at : Option ℕ) → List ℕ → Place → Option Why → Replay → Type 0
ReplaysServing p at bytes a =
    GoesOn p (λ b. (ms : List Step) × Lead p ms a b × Serves p at bytes ms) (IsFirst (AgainstServing p at bytes a))

-- whether thread t lives
abbrev pub TellsLife : Place → ThreadNo → Bool → Type 0
TellsLife a t false = NoneLives a t
TellsLife a t true = (x : Name) × IsLiveThread a t x

-- whether no thread can move
abbrev pub TellsRest : Program → Place → Bool → Type 0
TellsRest p a false = (x : Name) × CanMove (step p x a.config)
TellsRest p a true = IsAtRest p a.config
