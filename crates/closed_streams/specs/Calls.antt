-- Calls of `feed` on one stream of messages, one after another.
use Rattle.std.specs.Prelude.{◌≡◌, List, [], ◌∷◌, ℕ, Result}
use Rattle.rsr_message.specs.declared.requests.Request.{Request}
use Rattle.rsr_message.specs.declared.splitter.FeedFault.{FeedFault}
use Rattle.rsr_message.specs.Streams.{Flow, Feeds}

-- what a call answers
abbrev pub Answer : Type 0
Answer = Result (Unit {0}) FeedFault

-- calls that answer so, each with some piece, and what they do to the stream and to the list of requests
abbrev pub Calls : List Answer → (old new : Flow) → (before after : List Request) → Type 0
Calls [] old new before after = (new ≡ old) × (after ≡ before)
Calls (answer ∷ answers) old new before after =
    (piece : List ℕ) × (middle : Flow) × (between : List Request) ×
    Feeds old piece middle before between answer × Calls answers middle new between after
