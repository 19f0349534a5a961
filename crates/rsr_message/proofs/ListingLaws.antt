-- Bytes are a list of messages, or have one first fault.
use Rattle.std.proofs.Common.{◌≡◌, ◌≢◌, ℕ, ◌+◌, ◌-◌, ◌<◌, ◌≤◌, ◌⊎◌, inl, inr, List, [], ◌∷◌, ◌++◌, length, take, drop, slice_index, refl, sym, ◌∙◌, ap, subst, arith, length-append, Result, Ok, Err, IsOk, IsErrOf}
use Rattle.std.specs.List.{flat_map}
use Rattle.std.proofs.lemmas.Grind.{flat_map-append}
use Rattle.std.proofs.lemmas.List.{append-nil, take_rest, take_at, length-drop, drop_all}
use Rattle.marshal.specs.Spellings.{BeginsWith, IsPartial, IsWrongAt}
use Rattle.marshal.proofs.Laws.{wrong_is_not_partial, one_wrong}
use Rattle.rsr_message.specs.declared.faults.MessageFault.{MessageFault}
use Rattle.rsr_message.specs.declared.faults.MessageFault.TheVariants.{Short, BadMagic, BadVersion, BadKind, BadCount, BadTag, Memory}
use Rattle.rsr_message.specs.declared.listing.Listing.{Listing}
use Rattle.rsr_message.specs.declared.listing.ListFault.{ListFault}
use Rattle.rsr_message.specs.declared.listing.ListFault.TheVariants as fault
use Rattle.rsr_message.specs.declared.requests.Request.{Request}
use Rattle.rsr_message.specs.Lines.{line_of}
use Rattle.rsr_message.specs.Requests.{SpellsEither, IsMessage}
use Rattle.rsr_message.specs.Refusals.{format_told, fault_of, IsWrongMessage, IsCause}
use Rattle.rsr_message.specs.Streams.{SpellsAll, IsStream, place_of}
use Rattle.rsr_message.specs.Listings.{Lists, EndsWithin, BreaksAt, FirstFault, ends, breaks, fault_behind, Tells}
use Rattle.rsr_message.proofs.PieceLaws.{partial_none, wrong_none, one_cut}
use Rattle.rsr_message.proofs.StreamLaws.{CutSoFar, cut_begun, cut_more, used_within, goes_on, stream_partial, stream_wrong, message_some, place_named}

pub no_list : (bytes : List ℕ) (fault : MessageFault) (at : ℕ) → IsStream bytes → FirstFault bytes fault at → ⊥
no_list bytes fault at stream (ends is place e) = e.none stream
no_list bytes fault at stream (breaks b) = let w = b.first in w.none w.after (subst IsStream w.whole stream)

one_break : (bytes : List ℕ) (a b : MessageFault) (i j : ℕ) → BreaksAt bytes a i → BreaksAt bytes b j → (a ≡ b) × (i ≡ j)
one_break bytes a b i j p q =
    let v = p.wrong in
    let w = q.wrong in
    let cut = one_cut bytes p.requests q.requests p.message q.message p.cut q.cut (wrong_none p.message v.at v.wrong) (wrong_none q.message w.at w.wrong) in
    let place : v.at ≡ w.at = one_wrong IsMessage q.message v.at w.at (subst (λ l. IsWrongAt IsMessage l v.at) cut.1 v.wrong) w.wrong in
    let named : fault_of p.message v.at ≡ fault_of q.message w.at = cc (cut.1, place) in
    (v.named ∙ named ∙ sym w.named, one_wrong IsStream bytes i j p.first q.first)

pub one_fault : (bytes : List ℕ) (a b : MessageFault) (i j : ℕ) → FirstFault bytes a i → FirstFault bytes b j → (a ≡ b) × (i ≡ j)
one_fault bytes a b i j (ends is place e) (ends is' place' e') = (is ∙ sym is', place ∙ sym place')
one_fault bytes a b i j (ends is place e) (breaks q) = absurd (wrong_is_not_partial IsStream bytes j q.first e.partial)
one_fault bytes a b i j (breaks p) (ends is place e) = absurd (wrong_is_not_partial IsStream bytes i p.first e.partial)
one_fault bytes a b i j (breaks p) (breaks q) = one_break bytes a b i j p q

-- what is told is the one answer
pub tells_list : (bytes : List ℕ) (answer : Result Listing ListFault) → Tells bytes answer → IsStream bytes → IsOk answer ⊎ IsErrOf answer fault.Memory
tells_list bytes (Ok listing) t stream = inl refl
tells_list bytes (Err (fault.No wrong at)) t stream = absurd (no_list bytes wrong at stream t)
tells_list bytes (Err fault.Memory) t stream = inr refl

pub tells_fault : (bytes : List ℕ) (answer : Result Listing ListFault) → Tells bytes answer → (wrong : MessageFault) (at : ℕ) → FirstFault bytes wrong at → IsErrOf answer (fault.No wrong at) ⊎ IsErrOf answer fault.Memory
tells_fault bytes (Ok listing) t wrong at first = absurd (no_list bytes wrong at (t.requests, t.spelled) first)
tells_fault bytes (Err (fault.No other place)) t wrong at first = let one = one_fault bytes other wrong place at t first in inl (cc (one.0, one.1))
tells_fault bytes (Err fault.Memory) t wrong at first = inr refl

-- ---- steps of a listing

-- so many bytes are messages, which have these lines
pub record ListedSoFar (bytes : List ℕ) (used : ℕ) (lines : List ℕ) (messages : ℕ) : Type 0 where
  pub requests : List Request
  pub cut : CutSoFar bytes used [] requests
  pub written : lines ≡ flat_map line_of requests
  pub number : messages ≡ length requests
  pub count : messages ≤ used
  pub within : used ≤ length bytes

pub listed_begun : (bytes lines : List ℕ) → lines ≡ [] → ListedSoFar bytes 0 lines 0
listed_begun bytes lines none = record { requests = []; cut = cut_begun bytes []; written = none; number = refl; count = omega arith; within = omega arith }

-- the message with which the bytes begin
message_of : (r : Request) (bytes : List ℕ) (len : ℕ) → BeginsWith (SpellsEither r) bytes len → (0 < len) × (len ≤ length bytes) × SpellsEither r (take len bytes)
message_of r bytes len b =
    let long = b.long in
    let some = message_some b.spelling (r, b.spelled) in
    let parts = ap length b.whole ∙ length-append b.spelling b.rest in
    let is : take len bytes ≡ b.spelling = ap (take len) b.whole ∙ take_at b.spelling b.rest len b.long in
    (omega arith, omega arith, subst (SpellsEither r) (sym is) b.spelled)

pub listed_more : (bytes : List ℕ) (used len : ℕ) (lines new : List ℕ) (messages : ℕ) (r : Request) → ListedSoFar bytes used lines messages →
    BeginsWith (SpellsEither r) (take (length bytes - used) (drop used bytes)) len → new ≡ lines ++ line_of r → ListedSoFar bytes (used + len) new (messages + 1)
listed_more bytes used len lines new messages r so_far begins put =
    let found = message_of r (drop used bytes) len (subst (λ l. BeginsWith (SpellsEither r) l len) (take_rest bytes used) begins) in
    let some = found.0 in
    let cut = cut_more bytes used len [] so_far.requests (so_far.requests ++ r ∷ []) r so_far.cut found.1 found.2 refl in
    record {
      requests = so_far.requests ++ r ∷ [];
      cut = cut;
      written = put ∙ ap (λ l. l ++ line_of r) so_far.written ∙ ap (λ l. flat_map line_of so_far.requests ++ l) (sym (append-nil (line_of r))) ∙ sym (flat_map-append line_of so_far.requests (r ∷ []));
      number = (let count = so_far.number in let parts = length-append so_far.requests (r ∷ []) in omega arith);
      count = (let count = so_far.count in omega arith);
      within = used_within bytes (used + len) [] (so_far.requests ++ r ∷ []) cut;
    }

pub listed_all : (bytes : List ℕ) (used : ℕ) (lines : List ℕ) (messages : ℕ) (listing : Listing) → ListedSoFar bytes used lines messages → length bytes ≤ used → listing.lines ≡ lines → listing.messages ≡ messages → Lists bytes listing
listed_all bytes used lines messages listing so_far all put counted =
    let cut = so_far.cut.cut in
    let nothing : drop used bytes ≡ [] = drop_all used bytes all in
    let whole : cut.spelling ≡ bytes = sym (append-nil cut.spelling) ∙ ap (λ l. cut.spelling ++ l) (sym nothing) ∙ sym cut.whole in
    let same : so_far.cut.requests ≡ so_far.requests = sym so_far.cut.given in
    record {
      requests = so_far.requests;
      spelled = subst (λ rs. SpellsAll rs bytes) same (subst (SpellsAll so_far.cut.requests) whole cut.spelled);
      lines = put ∙ so_far.written;
      messages = counted ∙ so_far.number;
    }

-- behind messages stands less than one
ends_within : (bytes : List ℕ) (used : ℕ) (requests : List Request) → CutSoFar bytes used [] requests → used < length bytes → IsPartial IsMessage (drop used bytes) → EndsWithin bytes
ends_within bytes used requests so_far more partial = record {
  none = λ stream. none (goes_on so_far.requests so_far.cut.spelling (drop used bytes) so_far.cut.spelled (subst IsStream so_far.cut.whole stream));
  partial = stream_partial bytes so_far.requests (drop used bytes) so_far.cut partial;
}
  where
    by : (rs : List Request) → SpellsAll rs (drop used bytes) → ⊥
    by [] nothing = let none = ap length nothing in let long = length-drop used bytes in omega arith
    by (r ∷ rs) all = partial_none (drop used bytes) partial (length all.front) (record { spelling = all.front; rest = all.back; spelled = (r, all.first); long = refl; whole = all.whole })

    none : IsStream (drop used bytes) → ⊥
    none stream = by stream.0 stream.1

-- behind messages stands one that is wrong
breaks_at : (bytes : List ℕ) (used : ℕ) (requests : List Request) (fault : MessageFault) → CutSoFar bytes used [] requests → IsWrongMessage (drop used bytes) fault → BreaksAt bytes fault (used + place_of fault)
breaks_at bytes used requests fault so_far w =
    let place : place_of fault ≡ w.at = ap place_of w.named ∙ place_named (format_told (slice_index (drop used bytes) 1)) (slice_index (drop used bytes) 2) w.at in
    let same : length so_far.cut.spelling + w.at ≡ used + place_of fault = (let long = so_far.long in omega arith) in
    record {
      requests = so_far.requests;
      message = drop used bytes;
      cut = so_far.cut;
      wrong = w;
      first = subst (IsWrongAt IsStream bytes) same (stream_wrong bytes so_far.requests (drop used bytes) so_far.cut w.at w.wrong);
    }

stops : (bytes : List ℕ) (used : ℕ) (requests : List Request) (fault : MessageFault) → CutSoFar bytes used [] requests → used < length bytes → (fault ≢ Memory → IsCause (drop used bytes) fault) → Tells bytes (Err (fault_behind used (length bytes) fault))
stops bytes used requests Short so_far more cause = ends refl refl (ends_within bytes used requests so_far more (cause (λ e. cc e)))
stops bytes used requests Memory so_far more cause = tt
stops bytes used requests BadMagic so_far more cause = breaks (breaks_at bytes used requests BadMagic so_far (cause (λ e. cc e)))
stops bytes used requests BadVersion so_far more cause = breaks (breaks_at bytes used requests BadVersion so_far (cause (λ e. cc e)))
stops bytes used requests BadKind so_far more cause = breaks (breaks_at bytes used requests BadKind so_far (cause (λ e. cc e)))
stops bytes used requests (BadCount at) so_far more cause = breaks (breaks_at bytes used requests (BadCount at) so_far (cause (λ e. cc e)))
stops bytes used requests (BadTag at) so_far more cause = breaks (breaks_at bytes used requests (BadTag at) so_far (cause (λ e. cc e)))

pub listing_stops : (bytes : List ℕ) (used : ℕ) (lines : List ℕ) (messages : ℕ) (fault : MessageFault) → ListedSoFar bytes used lines messages → used < length bytes →
    (fault ≢ Memory → IsCause (take (length bytes - used) (drop used bytes)) fault) → Tells bytes (Err (fault_behind used (length bytes) fault))
listing_stops bytes used lines messages fault so_far more cause = stops bytes used so_far.requests fault so_far.cut more (λ other. subst (λ l. IsCause l fault) (take_rest bytes used) (cause other))
