-- Laws of streams of messages.
use Rattle.std.proofs.Common.{◌≡◌, ◌≢◌, ℕ, ◌+◌, ◌-◌, ◌<◌, ◌≤◌, ◌⊎◌, inl, inr, List, [], ◌∷◌, ◌++◌, length, take, drop, slice_index, refl, sym, ◌∙◌, ap, subst, arith, append_assoc, length-append, Option, Some, None, Result, Ok, Err, OnOk, IsErrOf, Bool, true, false, cond, ◌==◌}
use borrow.Author.Tests.{eqb-true}
use Rattle.std.proofs.lemmas.List.{append-nil, append_cancel_left, take-append-drop, length-take-le, drop_at, drop-drop, take_rest, length-drop}
use Rattle.marshal.specs.Spellings.{BeginsWith, IsPartial, IsWrongAt}
use Rattle.marshal.proofs.Laws.{wrong_is_not_whole, wrong_is_not_partial, one_wrong}
use Rattle.rsr_message.specs.declared.faults.MessageFault.{MessageFault}
use Rattle.rsr_message.specs.declared.faults.MessageFault.TheVariants.{Short, BadMagic, BadVersion, BadKind, BadCount, BadTag, Memory}
use Rattle.rsr_message.specs.declared.splitter.FeedFault.{FeedFault}
use Rattle.rsr_message.specs.declared.splitter.FeedFault.TheVariants as feed
use Rattle.rsr_message.specs.declared.requests.Request.{Request}
use Rattle.rsr_message.specs.declared.kinds.Kind.{Kind}
use Rattle.rsr_message.specs.declared.versions.Version.{Version}
use Rattle.rsr_message.specs.Requests.{Format, format_of, Spells, SpellsEither, IsMessage}
use Rattle.rsr_message.specs.Shapes.{HasShape}
use Rattle.rsr_message.specs.Refusals.{is_count, format_told, fault_at, IsWrongMessage, IsRefusedMessage}
use Rattle.rsr_message.specs.Streams.{SpellsAll, IsStream, Flow, CutsInto, Passes, Breaks, Feeds, IsLeft, Splits, place_of}
use Rattle.rsr_message.proofs.Leads.{Leads, leads_partial, leads_wrong}
use Rattle.rsr_message.proofs.MessageLaws.{IsMessage-free, message_head}
use Rattle.rsr_message.proofs.ReadingSteps.{head_long}

-- a message is not empty
pub message_some : (bytes : List ℕ) → IsMessage bytes → 0 < length bytes
message_some bytes m = let head = message_head bytes m in let long = ap length head.whole in omega arith

-- one message more
pub SpellsAll-push : (rs : List Request) (r : Request) (s t : List ℕ) → SpellsAll rs s → SpellsEither r t → SpellsAll (rs ++ r ∷ []) (s ++ t)
SpellsAll-push [] r s t all one = record { front = t; back = []; first = one; second = refl; whole = ap (λ l. l ++ t) all ∙ sym (append-nil t) }
SpellsAll-push (q ∷ qs) r s t all one = record {
  front = all.front;
  back = all.back ++ t;
  first = all.first;
  second = SpellsAll-push qs r all.back t all.second one;
  whole = ap (λ l. l ++ t) all.whole ∙ append_assoc all.front all.back t;
}

-- an option is not both
not_both : {A : Type 0} {o : Option A} {x : A} → o ≡ None → o ≡ Some x → ⊥
not_both e g = cc

same_some : {A : Type 0} {x y : A} → Some x ≡ Some y → x ≡ y
same_some e = cc

-- behind a message a stream goes on as a stream
behind_message : (message more : List ℕ) → IsMessage message → IsStream (message ++ more) → IsStream more
behind_message message more m stream = by stream.0 stream.1
  where
    by : (qs : List Request) → SpellsAll qs (message ++ more) → IsStream more
    by [] nothing =
        let some = message_some message m in
        let none : length (message ++ more) ≡ 0 = ap length nothing in
        let parts = length-append message more in
        absurd (omega arith)
    by (q ∷ qs) all =
        let same : message ≡ all.front = IsMessage-free message all.front more all.back m (q, all.first) all.whole in
        let rest : more ≡ all.back = append_cancel_left message more all.back (all.whole ∙ ap (λ l. l ++ all.back) (sym same)) in
        (qs, subst (SpellsAll qs) (sym rest) all.second)

pub goes_on : (rs : List Request) (spelling behind : List ℕ) → SpellsAll rs spelling → IsStream (spelling ++ behind) → IsStream behind
goes_on [] spelling behind none stream = subst IsStream (ap (λ l. l ++ behind) none) stream
goes_on (r ∷ rs) spelling behind all stream =
    let regrouped : spelling ++ behind ≡ all.front ++ (all.back ++ behind) = ap (λ l. l ++ behind) all.whole ∙ append_assoc all.front all.back behind in
    goes_on rs all.back behind all.second (behind_message all.front (all.back ++ behind) (r, all.first) (subst IsStream regrouped stream))

joined : (rs : List Request) (spelling behind : List ℕ) → SpellsAll rs spelling → IsStream behind → IsStream (spelling ++ behind)
joined [] spelling behind none stream = subst IsStream (ap (λ l. l ++ behind) (sym none)) stream
joined (r ∷ rs) spelling behind all stream =
    let more = joined rs all.back behind all.second stream in
    (r ∷ more.0, record { front = all.front; back = all.back ++ behind; first = all.first; second = more.1; whole = ap (λ l. l ++ behind) all.whole ∙ append_assoc all.front all.back behind })

-- the messages lead to what is behind them
stream_leads : (bytes : List ℕ) (rs : List Request) (behind : List ℕ) (cut : CutsInto bytes rs behind) → Leads IsStream IsStream bytes behind (length cut.spelling)
stream_leads bytes rs behind cut = record {
  front = cut.spelling;
  long = refl;
  cut = cut.whole;
  whole = λ l stream. joined rs cut.spelling l cut.spelled stream;
  only = λ l stream. goes_on rs cut.spelling l cut.spelled stream;
}

one_message : (bytes : List ℕ) → IsMessage bytes → IsStream bytes
one_message bytes m = (m.0 ∷ [], record { front = bytes; back = []; first = m.1; second = refl; whole = sym (append-nil bytes) })

-- a wrong byte of a message is one of the stream
pub stream_wrong : (bytes : List ℕ) (rs : List Request) (message : List ℕ) (cut : CutsInto bytes rs message) (at : ℕ) → IsWrongAt IsMessage message at → IsWrongAt IsStream bytes (length cut.spelling + at)
stream_wrong bytes rs message cut at w = leads_wrong IsStream IsStream bytes message (length cut.spelling) (stream_leads bytes rs message cut) at (record {
  before = w.before;
  byte = w.byte;
  after = w.after;
  whole = w.whole;
  place = w.place;
  partial = record { missing = w.partial.missing; some = w.partial.some; spelled = one_message (w.before ++ w.partial.missing) w.partial.spelled };
  none = λ more stream. none more stream.0 stream.1;
})
  where
    none : (more : List ℕ) (rs : List Request) → SpellsAll rs (w.before ++ w.byte ∷ more) → ⊥
    none more [] nothing = let long = ap length nothing in let parts = length-append w.before (w.byte ∷ more) in omega arith
    none more (r ∷ rs) all = wrong_is_not_whole IsMessage IsMessage-free (w.before ++ w.byte ∷ more) at (length all.front)
        (record { before = w.before; byte = w.byte; after = more; whole = refl; place = w.place; partial = w.partial; none = w.none })
        (record { spelling = all.front; rest = all.back; spelled = (r, all.first); long = refl; whole = all.whole })

-- messages and a part of one are a part of a stream
pub stream_partial : (bytes : List ℕ) (rs : List Request) (rest : List ℕ) → CutsInto bytes rs rest → IsPartial IsMessage rest → IsPartial IsStream bytes
stream_partial bytes rs rest cut p = leads_partial IsStream IsStream bytes rest (length cut.spelling) (stream_leads bytes rs rest cut) (record { missing = p.missing; some = p.some; spelled = one_message (rest ++ p.missing) p.spelled })

-- a wrong byte is found where it is
pub feeds_wrong : (old : Flow) (piece : List ℕ) (new : Flow) (before after : List Request) (answer : Result (Unit {0}) FeedFault) → Feeds old piece new before after answer →
    (at : ℕ) → old.closed ≡ None → IsWrongAt IsStream (old.rest ++ piece) at → ((fault : MessageFault) × IsErrOf answer (feed.Bad (old.passed + at) fault)) ⊎ IsErrOf answer feed.Memory
feeds_wrong old piece new before after (Ok done) p at was_open w = absurd (wrong_is_not_partial IsStream (old.rest ++ piece) at w (stream_partial (old.rest ++ piece) p.requests new.rest p.cut p.partial))
feeds_wrong old piece new before after (Err (feed.Bad place fault)) b at was_open w =
    let same : length b.cut.spelling + b.wrong.at ≡ at = one_wrong IsStream (old.rest ++ piece) _ at b.first w in
    inl (fault, ap (λ k. Err (feed.Bad k fault)) (b.place ∙ ap (λ k. old.passed + k) same))
feeds_wrong old piece new before after (Err (feed.Closed place fault)) c at was_open w = absurd (not_both was_open c.0)
feeds_wrong old piece new before after (Err feed.Memory) m at was_open w = inr refl

-- a closed stream answers so
pub feeds_closed : (old : Flow) (piece : List ℕ) (new : Flow) (before after : List Request) (answer : Result (Unit {0}) FeedFault) → Feeds old piece new before after answer → (at : ℕ) (fault : MessageFault) → old.closed ≡ Some (at, fault) → IsErrOf answer (feed.Closed at fault)
feeds_closed old piece new before after (Ok done) p at fault closed = absurd (not_both p.was_open closed)
feeds_closed old piece new before after (Err (feed.Bad place other)) b at fault closed = absurd (not_both b.was_open closed)
feeds_closed old piece new before after (Err (feed.Closed place other)) c at fault closed =
    let same : ◌≡◌ {A = ℕ × MessageFault} (place, other) (at, fault) = same_some (sym c.0 ∙ closed) in
    ap (λ (p : ℕ × MessageFault). Err (feed.Closed p.0 p.1)) same
feeds_closed old piece new before after (Err feed.Memory) m at fault closed = absurd (not_both m.0 closed)

-- no byte of a piece that is taken is lost
pub feeds_counted : (old : Flow) (piece : List ℕ) (new : Flow) (before after : List Request) (answer : Result (Unit {0}) FeedFault) → Feeds old piece new before after answer → OnOk answer (new.passed + length new.rest ≡ old.passed + length old.rest + length piece)
feeds_counted old piece new before after (Ok done) p =
    let passed = p.passed in
    let parts = sym (length-append old.rest piece) ∙ ap length p.cut.whole ∙ length-append p.cut.spelling new.rest in
    omega arith
feeds_counted old piece new before after (Err fault) p = tt

-- steps of cutting

-- so many bytes are the messages of what is given so far
pub record CutSoFar (stream : List ℕ) (used : ℕ) (before after : List Request) : Type 0 where
  pub requests : List Request
  pub cut : CutsInto stream requests (drop used stream)
  pub long : length cut.spelling ≡ used
  pub given : after ≡ before ++ requests

pub cut_begun : (stream : List ℕ) (before : List Request) → CutSoFar stream 0 before before
cut_begun stream before = record { requests = []; cut = record { spelling = []; spelled = refl; whole = refl }; long = refl; given = sym (append-nil before) }

pub used_within : (stream : List ℕ) (used : ℕ) (before after : List Request) → CutSoFar stream used before after → used ≤ length stream
used_within stream used before after so_far =
    let long = so_far.long in
    let parts = ap length so_far.cut.whole ∙ length-append so_far.cut.spelling (drop used stream) in
    omega arith

pub cut_more : (stream : List ℕ) (used len : ℕ) (before after new : List Request) (r : Request) → CutSoFar stream used before after → len ≤ length (drop used stream) → SpellsEither r (take len (drop used stream)) → new ≡ after ++ r ∷ [] → CutSoFar stream (used + len) before new
cut_more stream used len before after new r so_far enough spelled pushed =
    let message = take len (drop used stream) in
    let cut = so_far.cut in
    let long = so_far.long in
    let message_long : length message ≡ len = length-take-le len (drop used stream) enough in
    let rest : drop used stream ≡ message ++ drop (used + len) stream = sym (take-append-drop len (drop used stream)) ∙ ap (λ l. message ++ l) (drop-drop len used stream) in
    record {
      requests = so_far.requests ++ r ∷ [];
      cut = record {
        spelling = cut.spelling ++ message;
        spelled = SpellsAll-push so_far.requests r cut.spelling message cut.spelled spelled;
        whole = cut.whole ∙ ap (λ l. cut.spelling ++ l) rest ∙ sym (append_assoc cut.spelling message (drop (used + len) stream));
      };
      long = length-append cut.spelling message ∙ omega arith;
      given = pushed ∙ ap (λ l. l ++ r ∷ []) so_far.given ∙ append_assoc before so_far.requests (r ∷ []);
    }

pub refused_wrong : (bytes : List ℕ) (fault : MessageFault) → fault ≢ Short → IsRefusedMessage bytes fault → IsWrongMessage bytes fault
refused_wrong bytes Short other r = absurd (other refl)
refused_wrong bytes Memory other r = absurd r
refused_wrong bytes fault other r = r

pub cut_stopped : (stream : List ℕ) (used : ℕ) (before after : List Request) (stop : Option MessageFault) → CutSoFar stream used before after → IsLeft (drop used stream) stop → Splits stream used stop before after
cut_stopped stream used before after stop so_far left = record { requests = so_far.requests; behind = drop used stream; cut = so_far.cut; long = so_far.long; left = left; given = so_far.given }

-- a message takes some of the bytes
pub message_within : (v : Version) (k : Kind) (bytes : List ℕ) (len : ℕ) → BeginsWith (HasShape (format_of v) k) bytes len → (0 < len) × (len ≤ length bytes)
message_within v k bytes len b =
    let long = b.long in
    let some = head_long (format_of v) k b.spelling b.spelled in
    let parts = ap length b.whole ∙ length-append b.spelling b.rest in
    (omega arith, omega arith)

-- a piece is taken

pub drop_used : (stream : List ℕ) (used : ℕ) (stop : Option MessageFault) (before after : List Request) (s : Splits stream used stop before after) → s.behind ≡ drop used stream
drop_used stream used stop before after s = sym (drop_at s.cut.spelling s.behind used s.long) ∙ ap (drop used) (sym s.cut.whole)

pub splits_within : (stream : List ℕ) (used : ℕ) (stop : Option MessageFault) (before after : List Request) → Splits stream used stop before after → used ≤ length stream
splits_within stream used stop before after s =
    let long = s.long in
    let parts = ap length s.cut.whole ∙ length-append s.cut.spelling s.behind in
    omega arith

pub piece_passed : (old : Flow) (piece stream : List ℕ) (new : Flow) (used : ℕ) (before after : List Request) → old.closed ≡ None → stream ≡ old.rest ++ piece → Splits stream used None before after →
    new.rest ≡ drop used stream → new.passed ≡ old.passed + used → new.closed ≡ None → Passes old piece new before after
piece_passed old piece stream new used before after was_open is s rest passed stays_open =
    let behind : s.behind ≡ new.rest = drop_used stream used None before after s ∙ sym rest in
    record {
      was_open = was_open;
      stays_open = stays_open;
      requests = s.requests;
      cut = record { spelling = s.cut.spelling; spelled = s.cut.spelled; whole = sym is ∙ s.cut.whole ∙ ap (λ l. s.cut.spelling ++ l) behind };
      passed = passed ∙ ap (λ n. old.passed + n) (sym s.long);
      given = s.given;
      partial = subst (IsPartial IsMessage) behind s.left;
    }

-- the place of a fault is where it was named
pub place_named : (f : Format) (kind at : ℕ) → place_of (fault_at f kind at) ≡ at
place_named f kind at = by (at == 0) (at == 1) (at == 2) (is_count f kind at) refl refl refl
  where
    by : (a b c d : Bool) → (at == 0) ≡ a → (at == 1) ≡ b → (at == 2) ≡ c → place_of (cond a BadMagic (cond b BadVersion (cond c BadKind (cond d (BadCount at) (BadTag at))))) ≡ at
    by true b c d e g h = sym (eqb-true at 0 e)
    by false true c d e g h = sym (eqb-true at 1 g)
    by false false true d e g h = sym (eqb-true at 2 h)
    by false false false true e g h = refl
    by false false false false e g h = refl

-- a wrong byte is one of the bytes
pub wrong_within : (stream : List ℕ) (used : ℕ) (fault : MessageFault) (before after : List Request) → Splits stream used (Some fault) before after → used + place_of fault < length stream
wrong_within stream used fault before after s =
    let w = s.left in
    let place : place_of fault ≡ w.at = ap place_of w.named ∙ place_named (format_told (slice_index s.behind 1)) (slice_index s.behind 2) w.at in
    let wrong = w.wrong in
    let before_it = wrong.place in
    let behind = ap length wrong.whole ∙ length-append wrong.before (wrong.byte ∷ wrong.after) in
    let long = s.long in
    let parts = ap length s.cut.whole ∙ length-append s.cut.spelling s.behind in
    omega arith

pub piece_breaks : (old : Flow) (piece stream : List ℕ) (new : Flow) (used at : ℕ) (fault : MessageFault) (before after : List Request) → old.closed ≡ None → stream ≡ old.rest ++ piece → Splits stream used (Some fault) before after →
    at ≡ old.passed + used + place_of fault → new.rest ≡ old.rest → new.passed ≡ old.passed → new.closed ≡ Some (at, fault) → Breaks old piece new before after at fault
piece_breaks old piece stream new used at fault before after was_open is s place rest passed closed =
    let cut : CutsInto (old.rest ++ piece) s.requests s.behind = record { spelling = s.cut.spelling; spelled = s.cut.spelled; whole = sym is ∙ s.cut.whole } in
    let w = s.left in
    let within : place_of fault ≡ w.at = ap place_of w.named ∙ place_named (format_told (slice_index s.behind 1)) (slice_index s.behind 2) w.at in
    let long = s.long in
    let same : ◌≡◌ {A = Flow} (record { rest = new.rest; passed = new.passed; closed = new.closed }) (record { rest = old.rest; passed = old.passed; closed = Some (at, fault) }) = cc (rest, passed, closed) in
    record {
      was_open = was_open;
      requests = s.requests;
      message = s.behind;
      cut = cut;
      wrong = w;
      place = place ∙ omega arith;
      first = stream_wrong (old.rest ++ piece) s.requests s.behind cut w.at w.wrong;
      given = s.given;
      closed = same;
    }

-- one message is read from the stream

pub more_read : (stream : List ℕ) (used len : ℕ) (v : Version) (k : Kind) (before after new : List Request) (r : Request) → CutSoFar stream used before after →
    BeginsWith (HasShape (format_of v) k) (take (length stream - used) (drop used stream)) len → Spells (format_of v) r (take len (take (length stream - used) (drop used stream))) → new ≡ after ++ r ∷ [] → CutSoFar stream (used + len) before new
more_read stream used len v k before after new r so_far measured spelled pushed =
    let rest = take_rest stream used in
    let within = message_within v k (drop used stream) len (subst (λ l. BeginsWith (HasShape (format_of v) k) l len) rest measured) in
    cut_more stream used len before after new r so_far within.1 (record { version = v; spelled = subst (λ l. Spells (format_of v) r (take len l)) rest spelled }) pushed

pub stops_at : (stream : List ℕ) (used : ℕ) (before after : List Request) (stop : Option MessageFault) → CutSoFar stream used before after → IsLeft (take (length stream - used) (drop used stream)) stop → Splits stream used stop before after
stops_at stream used before after stop so_far left = cut_stopped stream used before after stop so_far (subst (λ l. IsLeft l stop) (take_rest stream used) left)

pub less_left : (stream : List ℕ) (used len : ℕ) (v : Version) (k : Kind) (before after : List Request) → CutSoFar stream used before after → BeginsWith (HasShape (format_of v) k) (take (length stream - used) (drop used stream)) len → (length stream - (used + len) < length stream - used) × (used + len ≤ length stream)
less_left stream used len v k before after so_far measured =
    let within = message_within v k (drop used stream) len (subst (λ l. BeginsWith (HasShape (format_of v) k) l len) (take_rest stream used) measured) in
    let long = length-drop used stream in
    let some = within.0 in
    let enough = within.1 in
    (omega arith, omega arith)
