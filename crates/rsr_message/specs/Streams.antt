-- Streams of messages that come in pieces.
use Rattle.std.specs.Prelude.{◌≡◌, ℕ, ◌+◌, List, [], ◌∷◌, ◌++◌, length, Option, Some, None, Result, Ok, Err}
use Rattle.marshal.specs.Spellings.{◌▸◌, IsPartial, IsWrongAt}
use Rattle.rsr_message.specs.declared.faults.MessageFault.{MessageFault}
use Rattle.rsr_message.specs.declared.faults.MessageFault.TheVariants.{Short, BadMagic, BadVersion, BadKind, BadCount, BadTag, Memory}
use Rattle.rsr_message.specs.declared.requests.Request.{Request}
use Rattle.rsr_message.specs.declared.splitter.FeedFault.{FeedFault}
use Rattle.rsr_message.specs.declared.splitter.FeedFault.TheVariants as feed
use Rattle.rsr_message.specs.Requests.{SpellsEither, IsMessage}
use Rattle.rsr_message.specs.Refusals.{IsWrongMessage}

-- the messages of the requests, one after another
abbrev pub SpellsAll : List Request → List ℕ → Type 0
SpellsAll [] = λ bytes. bytes ≡ []
SpellsAll (r ∷ rs) = SpellsEither r ▸ SpellsAll rs

-- the bytes of some list of messages
abbrev pub IsStream : List ℕ → Type 0
IsStream bytes = (requests : List Request) × SpellsAll requests bytes

-- what is known of a stream: the bytes that are of no whole message yet, how many bytes were of whole messages, and once a
-- wrong byte came, its place and what is wrong
pub record Flow : Type 0 where
  pub rest : List ℕ
  pub passed : ℕ
  pub closed : Option (ℕ × MessageFault)

-- the bytes are the messages of these requests, and what is behind them
pub record CutsInto (bytes : List ℕ) (requests : List Request) (behind : List ℕ) : Type 0 where
  pub spelling : List ℕ
  pub spelled : SpellsAll requests spelling
  pub whole : bytes ≡ spelling ++ behind

-- the whole messages of the rest and the piece are passed and given, and what is behind them is the rest
pub record Passes (old : Flow) (piece : List ℕ) (new : Flow) (before after : List Request) : Type 0 where
  pub was_open : old.closed ≡ None
  pub stays_open : new.closed ≡ None
  pub requests : List Request
  pub cut : CutsInto (old.rest ++ piece) requests new.rest
  pub passed : new.passed ≡ old.passed + length cut.spelling
  pub given : after ≡ before ++ requests
  pub partial : IsPartial IsMessage new.rest

-- a wrong byte came in a message: those before it are given, and nothing else changes but that the stream is closed
pub record Breaks (old : Flow) (piece : List ℕ) (new : Flow) (before after : List Request) (at : ℕ) (fault : MessageFault) : Type 0 where
  pub was_open : old.closed ≡ None
  pub requests : List Request
  pub message : List ℕ
  pub cut : CutsInto (old.rest ++ piece) requests message
  pub wrong : IsWrongMessage message fault
  pub place : at ≡ old.passed + (length cut.spelling + wrong.at)
  pub first : IsWrongAt IsStream (old.rest ++ piece) (length cut.spelling + wrong.at)
  pub given : after ≡ before ++ requests
  pub closed : new ≡ record old { closed = Some (at, fault) }

-- the place in its message of the byte that is refused
abbrev pub place_of : MessageFault → ℕ
place_of Short = 0
place_of BadMagic = 0
place_of BadVersion = 1
place_of BadKind = 2
place_of (BadCount at) = at
place_of (BadTag at) = at
place_of Memory = 0

-- why a cut stops: what is left is less than a message, or wrong
abbrev pub IsLeft : List ℕ → Option MessageFault → Type 0
IsLeft bytes None = IsPartial IsMessage bytes
IsLeft bytes (Some fault) = IsWrongMessage bytes fault

-- so many bytes are the messages of what is given
pub record Splits (bytes : List ℕ) (used : ℕ) (stop : Option MessageFault) (before after : List Request) : Type 0 where
  pub requests : List Request
  pub behind : List ℕ
  pub cut : CutsInto bytes requests behind
  pub long : length cut.spelling ≡ used
  pub left : IsLeft behind stop
  pub given : after ≡ before ++ requests

-- what a refusal tells and leaves
abbrev pub Stops : Flow → List ℕ → Flow → List Request → List Request → FeedFault → Type 0
Stops old piece new before after (feed.Bad at fault) = Breaks old piece new before after at fault
Stops old piece new before after (feed.Closed at fault) = (old.closed ≡ Some (at, fault)) × (new ≡ old) × (after ≡ before)
Stops old piece new before after feed.Memory = (old.closed ≡ None) × (new ≡ old) × (after ≡ before)

-- what a piece does to a flow, and what is answered
abbrev pub Feeds : Flow → List ℕ → Flow → List Request → List Request → Result (Unit {0}) FeedFault → Type 0
Feeds old piece new before after (Ok done) = Passes old piece new before after
Feeds old piece new before after (Err fault) = Stops old piece new before after fault
