-- Each call on a closed stream answers the same.
use Rattle.std.proofs.Common.{◌≡◌, ℕ, List, [], ◌∷◌, length, refl, ◌∙◌, ap, arith, replicate, Ok, Err, Some}
use Rattle.rsr_message.specs.declared.faults.MessageFault.{MessageFault}
use Rattle.rsr_message.specs.declared.requests.Request.{Request}
use Rattle.rsr_message.specs.declared.splitter.FeedFault.TheVariants as feed
use Rattle.rsr_message.specs.Streams.{Flow, Feeds}
use Rattle.closed_streams.specs.Calls.{Answer, Calls}

-- one call
record Stays (old new : Flow) (before after : List Request) (answer wanted : Answer) : Type 0 where
  pub answered : answer ≡ wanted
  pub stream : new ≡ old
  pub given : after ≡ before

one_call : (old new : Flow) (piece : List ℕ) (before after : List Request) (at : ℕ) (fault : MessageFault) (answer : Answer) → old.closed ≡ Some (at, fault) → Feeds old piece new before after answer → Stays old new before after answer (Err (feed.Closed at fault))
one_call old new piece before after at fault (Ok done) e f = let was = f.was_open in grind arith
one_call old new piece before after at fault (Err (feed.Bad a b)) e f = let was = f.was_open in grind arith
one_call old new piece before after at fault (Err (feed.Closed a b)) e f =
    let was = f.0 in record { answered = grind arith; stream = f.1; given = f.2 }
one_call old new piece before after at fault (Err feed.Memory) e f = let was = f.0 in grind arith

pub calls : (old new : Flow) (before after : List Request) (at : ℕ) (fault : MessageFault) (answers : List Answer) → old.closed ≡ Some (at, fault) → Calls answers old new before after → (answers ≡ replicate (length answers) (Err (feed.Closed at fault))) × (new ≡ old) × (after ≡ before)
calls old new before after at fault [] e c = (refl, c.0, c.1)
calls old new before after at fault (a ∷ others) e (piece, middle, between, f, c) =
    let first = one_call old middle piece before between at fault a e f in
    let rest = calls middle new between after at fault others (ap (λ s. s.closed) first.stream ∙ e) c in
    (cc (first.answered, rest.0), rest.1 ∙ first.stream, rest.2 ∙ first.given)
