-- Steps of the code that reads whole messages.
use Rattle.std.proofs.Common.{◌≡◌, ◌≢◌, ℕ, ◌+◌, ◌-◌, ◌<◌, ◌≤◌, List, [], ◌∷◌, ◌++◌, length, take, drop, true, false, ◌==◌, refl, sym, ◌∙◌, ap, subst, arith, append_assoc, length-append}
use Rattle.std.specs.Int.{Width, w16, w32, byte_len}
use Rattle.std.proofs.lemmas.List.{append-nil, drop_at, length-take, nil_from_length}
use borrow.Author.Tests.{eqb-true}
use Rattle.global_ptr.specs.declared.values.Spot.{Spot}
use Rattle.global_ptr.specs.declared.values.Value.{Value}
use Rattle.global_ptr.specs.declared.values.Value.TheVariants.{Void}
use Rattle.marshal.specs.Spellings.{AnyBytes, IsNumber, ◌▸◌, Takes, BeginsWith}
use Rattle.marshal.specs.Values.{SpellsValue, IsValue}
use Rattle.marshal.proofs.Laws.{same_cut}
use Rattle.marshal.proofs.NumberLaws.{length-number}
use Rattle.marshal.proofs.ValueLaws.{one_value, length-value, length-follows}
use Rattle.rsr_message.specs.declared.kinds.Kind.{Kind}
use Rattle.rsr_message.specs.declared.kinds.Kind.TheVariants as kind
use Rattle.rsr_message.specs.declared.requests.Request.{Request}
use Rattle.rsr_message.specs.Requests.{Format, SpellsGiven, SpellsEach, SpellsList, SpellsSpot, SpellsBody, Spells}
use Rattle.rsr_message.specs.Shapes.{byte_of, fields_len, IsGiven, IsList, IsTail, HasShape, HasBodyShape, IsBody, AreValues, BeginsWithValue}
use Rattle.rsr_message.proofs.EncodingSteps.{same_byte}
use Rattle.rsr_message.proofs.ShapeLaws.{spread, headed_request}

pub takes_follow : (P Q : List ℕ → Type 0) (bytes between rest : List ℕ) → Takes P bytes between → Takes Q between rest → Takes (P ▸ Q) bytes rest
takes_follow P Q bytes between rest p q = record {
  spelling = p.spelling ++ q.spelling;
  spelled = record { front = p.spelling; back = q.spelling; first = p.spelled; second = q.spelled; whole = refl };
  whole = p.whole ∙ ap (λ l. p.spelling ++ l) q.whole ∙ sym (append_assoc p.spelling q.spelling rest);
}

pub follows_taken : (P Q : List ℕ → Type 0) (bytes rest : List ℕ) → Takes P bytes rest → Q rest → (P ▸ Q) bytes
follows_taken P Q bytes rest p q = record { front = p.spelling; back = rest; first = p.spelled; second = q; whole = p.whole }

-- a value alone

pub begins_value : (bytes : List ℕ) → IsValue bytes → BeginsWithValue bytes
begins_value bytes p = (p.0, length bytes, record { spelling = bytes; rest = []; spelled = p.1; long = refl; whole = sym (append-nil bytes) })

pub value_alone : (bytes : List ℕ) (v : Value) (len : ℕ) → IsValue bytes → BeginsWith (SpellsValue v) bytes len → SpellsValue v bytes
value_alone bytes v len p b =
    let one = one_value v p.0 b.spelling bytes b.rest [] b.spelled p.1 (sym b.whole ∙ sym (append-nil bytes)) in
    subst (SpellsValue v) one.1 b.spelled

-- the values so far are read, and those in the rest make all of them
pub record ReadSoFar (all : List ℕ) (values : List Value) (rest : List ℕ) : Type 0 where
  pub left : List Value
  pub spelled : SpellsEach left rest
  pub whole : (more : List Value) → SpellsEach more rest → SpellsEach (values ++ more) all

pub read_begun : (all : List ℕ) (values : List Value) → values ≡ [] → AreValues all → ReadSoFar all values all
read_begun all values none each = record { left = each.0; spelled = each.1; whole = λ more spelled. subst (λ vs. SpellsEach (vs ++ more) all) (sym none) spelled }

pub read_next : (all : List ℕ) (values : List Value) (rest : List ℕ) → rest ≢ [] → ReadSoFar all values rest → BeginsWithValue rest
read_next all values rest some so_far = by so_far.left so_far.spelled
  where
    by : (left : List Value) → SpellsEach left rest → BeginsWithValue rest
    by [] spelled = absurd (some spelled)
    by (v ∷ vs) spelled = (v, length spelled.front, record { spelling = spelled.front; rest = spelled.back; spelled = spelled.first.spelled; long = refl; whole = spelled.whole })

pub read_more : (all : List ℕ) (values : List Value) (rest : List ℕ) (v : Value) (len : ℕ) → ReadSoFar all values rest → BeginsWith (SpellsValue v) rest len → ReadSoFar all (values ++ v ∷ []) (drop len rest)
read_more all values rest v len so_far b = by so_far.left so_far.spelled
  where
    behind : b.rest ≡ drop len rest
    behind = sym (drop_at b.spelling b.rest len b.long) ∙ ap (drop len) (sym b.whole)

    by : (left : List Value) → SpellsEach left rest → ReadSoFar all (values ++ v ∷ []) (drop len rest)
    by [] spelled =
        let some = length-value v b.spelling b.spelled in
        let none : length rest ≡ 0 = ap length spelled in
        let parts = ap length b.whole ∙ length-append b.spelling b.rest in
        absurd (omega arith)
    by (w ∷ ws) spelled =
        let one = one_value v w b.spelling spelled.front b.rest spelled.back b.spelled spelled.first.spelled (sym b.whole ∙ spelled.whole) in
        record {
          left = ws;
          spelled = subst (SpellsEach ws) (sym one.2 ∙ behind) spelled.second;
          whole = λ more each.
              subst (λ vs. SpellsEach vs all) (sym (append_assoc values (v ∷ []) more)) (so_far.whole (v ∷ more) (record {
                front = b.spelling;
                back = b.rest;
                first = record { some = subst (λ u. u ≢ Void) (sym one.0) spelled.first.some; spelled = b.spelled };
                second = subst (SpellsEach more) (sym behind) each;
                whole = b.whole;
              }));
        }

pub read_done : (all : List ℕ) (values : List Value) (rest : List ℕ) → rest ≡ [] → ReadSoFar all values rest → SpellsEach values all
read_done all values rest none so_far = subst (λ vs. SpellsEach vs all) (append-nil values) (so_far.whole [] none)

pub is_some : (rest : List ℕ) → false ≡ (length rest == 0) → rest ≢ []
is_some [] e is = cc
is_some (b ∷ bs) e is = cc

pub is_nothing : (rest : List ℕ) → true ≡ (length rest == 0) → rest ≡ []
is_nothing rest e = nil_from_length rest (eqb-true (length rest) 0 (sym e))

value_shrinks : (rest : List ℕ) (v : Value) (len : ℕ) → BeginsWith (SpellsValue v) rest len → (0 < len) × (len ≤ length rest)
value_shrinks rest v len b =
    let some = length-value v b.spelling b.spelled in
    let long = b.long in
    let parts = ap length b.whole ∙ length-append b.spelling b.rest in
    (omega arith, omega arith)

pub rest_shrinks : (rest : List ℕ) (v : Value) (len : ℕ) → BeginsWith (SpellsValue v) rest len → length (take (length rest - len) (drop len rest)) < length rest
rest_shrinks rest v len b =
    let shrinks = value_shrinks rest v len b in
    let cut = length-take (length rest - len) (drop len rest) in
    omega arith

no_bytes : (v : Value) (Q : List ℕ → Type 0) (bytes : List ℕ) → bytes ≡ [] → (SpellsGiven v ▸ Q) bytes → ⊥
no_bytes v Q bytes none f =
    let some = length-value v f.front f.first.spelled in
    let nothing : length bytes ≡ 0 = ap length none in
    let parts = ap length f.whole ∙ length-append f.front f.back in
    omega arith

-- the same bytes are the same values
same_each : (vs ws : List Value) (bytes : List ℕ) → SpellsEach vs bytes → SpellsEach ws bytes → vs ≡ ws
same_each [] [] bytes p q = refl
same_each [] (w ∷ ws) bytes p q = absurd (no_bytes w (SpellsEach ws) bytes p q)
same_each (v ∷ vs) [] bytes p q = absurd (no_bytes v (SpellsEach vs) bytes q p)
same_each (v ∷ vs) (w ∷ ws) bytes p q =
    let one = one_value v w p.front q.front p.back q.back p.first.spelled q.first.spelled (sym p.whole ∙ q.whole) in
    let rest : vs ≡ ws = same_each vs ws p.back p.second (subst (SpellsEach ws) (sym one.2) q.second) in
    cc (one.0, rest)

-- the list behind the number of its values

module _ (f : Format) (bytes : List ℕ) (list : IsList f bytes) where
  count_long : length list.1.front ≡ byte_len f.count
  count_long = length-number f.count (length list.0) list.1.front list.1.first.number

  pub list_some : byte_len f.count ≤ length bytes
  list_some = let count = count_long in let parts = ap length list.1.whole ∙ length-append list.1.front list.1.back in omega arith

  values_behind : SpellsEach list.0 (drop (byte_len f.count) bytes)
  values_behind = subst (SpellsEach list.0) (sym (drop_at list.1.front list.1.back (byte_len f.count) count_long) ∙ ap (drop (byte_len f.count)) (sym list.1.whole)) list.1.second

  pub list_values : AreValues (drop (byte_len f.count) bytes)
  list_values = (list.0, values_behind)

  pub list_of : (values : List Value) → SpellsEach values (drop (byte_len f.count) bytes) → SpellsList f values bytes
  list_of values each =
      let same : list.0 ≡ values = same_each list.0 values (drop (byte_len f.count) bytes) values_behind each in
      subst (λ vs. SpellsList f vs bytes) same list.1

-- the numbers of a body, and what is behind them

pub fields_long : (n : ℕ) (Q : List ℕ → Type 0) (bytes : List ℕ) → (AnyBytes n ▸ Q) bytes → n ≤ length bytes
fields_long n Q bytes f = let long = f.first.long in let parts = ap length f.whole ∙ length-append f.front f.back in omega arith

pub behind_fields : (n : ℕ) (P Q : List ℕ → Type 0) (bytes rest : List ℕ) → ((l : List ℕ) → P l → length l ≡ n) → (AnyBytes n ▸ Q) bytes → Takes P bytes rest → Q rest
behind_fields n P Q bytes rest long f taken =
    let cut = same_cut f.front f.back taken.spelling rest (f.first.long ∙ sym (long taken.spelling taken.spelled)) (sym f.whole ∙ taken.whole) in
    subst Q cut.1 f.second

pub taken_long : (w : Width) (n : ℕ) (bytes rest : List ℕ) → Takes (IsNumber w n) bytes rest → length bytes ≡ byte_len w + length rest
taken_long w n bytes rest taken = let long = length-number w n taken.spelling taken.spelled in ap length taken.whole ∙ length-append taken.spelling rest ∙ omega arith

-- the head, the three numbers and the body

pub head_long : (f : Format) (k : Kind) (message : List ℕ) → HasShape f k message → 3 + fields_len k ≤ length message
head_long f k message s =
    let head : length s.front ≡ 3 = ap length s.first in
    let parts = ap length s.whole ∙ length-append s.front s.back in
    let fields = fields_long (fields_len k) (IsTail f k) s.back s.second in
    omega arith

behind_the_head : (f : Format) (k : Kind) (message : List ℕ) (s : HasShape f k message) → s.back ≡ drop 3 message
behind_the_head f k message s = sym (drop_at s.front s.back 3 (ap length s.first)) ∙ ap (drop 3) (sym s.whole)

-- how many bytes a kind's own numbers have
pub own_fields : (k : Kind) → fields_len k ≡ 12 + (fields_len k - 12)
own_fields kind.Call = refl
own_fields kind.Get = refl
own_fields kind.Put = refl
own_fields kind.Make = refl
own_fields kind.Reply = refl
own_fields kind.Cast = refl

three_numbers : (to from ticket : ℕ) (l : List ℕ) → (IsNumber w32 to ▸ IsNumber w32 from ▸ IsNumber w32 ticket) l → length l ≡ 12
three_numbers to from ticket = length-follows _ _ 4 8 (length-number w32 to) (length-follows _ _ 4 4 (length-number w32 from) (length-number w32 ticket))

pub body_behind : (f : Format) (k : Kind) (message bytes behind_to behind_from rest : List ℕ) (to from ticket : ℕ) → HasShape f k message → bytes ≡ drop 3 message →
    Takes (IsNumber w32 to) bytes behind_to → Takes (IsNumber w32 from) behind_to behind_from → Takes (IsNumber w32 ticket) behind_from rest → HasBodyShape k f rest
body_behind f k message bytes behind_to behind_from rest to from ticket s is a b c =
    let own = fields_len k - 12 in
    let fields : (AnyBytes (12 + own) ▸ IsTail f k) bytes = subst (λ n. (AnyBytes n ▸ IsTail f k) bytes) (own_fields k) (subst (AnyBytes (fields_len k) ▸ IsTail f k) (behind_the_head f k message s ∙ sym is) s.second) in
    behind_fields 12 (IsNumber w32 to ▸ IsNumber w32 from ▸ IsNumber w32 ticket) (AnyBytes own ▸ IsTail f k) bytes rest (three_numbers to from ticket)
    (spread 12 own (IsTail f k) bytes fields)
    (takes_follow (IsNumber w32 to) (IsNumber w32 from ▸ IsNumber w32 ticket) bytes behind_to rest a (takes_follow (IsNumber w32 from) (IsNumber w32 ticket) behind_to behind_from rest b c))

pub request_read : (f : Format) (k : Kind) (r : Request) (message bytes behind_to behind_from rest : List ℕ) → HasShape f k message → bytes ≡ drop 3 message →
    Takes (IsNumber w32 r.to) bytes behind_to → Takes (IsNumber w32 r.from) behind_to behind_from → Takes (IsNumber w32 r.ticket) behind_from rest → IsBody f k rest r.body → Spells f r message
request_read f k r message bytes behind_to behind_from rest s is a b c body =
    let P : List ℕ → Type 0 = SpellsBody f r.body in
    let numbers : (IsNumber w32 r.to ▸ IsNumber w32 r.from ▸ IsNumber w32 r.ticket ▸ P) bytes =
    follows_taken (IsNumber w32 r.to) (IsNumber w32 r.from ▸ IsNumber w32 r.ticket ▸ P) bytes behind_to a
    (follows_taken (IsNumber w32 r.from) (IsNumber w32 r.ticket ▸ P) behind_to behind_from b
    (follows_taken (IsNumber w32 r.ticket) P behind_from rest c body.spelled)) in
    headed_request f k r message s (subst (IsNumber w32 r.to ▸ IsNumber w32 r.from ▸ IsNumber w32 r.ticket ▸ P) (is ∙ sym (behind_the_head f k message s)) numbers) (ap byte_of (sym body.kind) ∙ same_byte r.body)

-- the kinds of bodies

call_head : (object handler : ℕ) (l : List ℕ) → (IsNumber w32 object ▸ IsNumber w16 handler) l → length l ≡ 6
call_head object handler = length-follows _ _ 4 2 (length-number w32 object) (length-number w16 handler)

pub call_list : (f : Format) (bytes between rest : List ℕ) (object handler : ℕ) → (AnyBytes 6 ▸ IsList f) bytes → Takes (IsNumber w32 object) bytes between → Takes (IsNumber w16 handler) between rest → IsList f rest
call_list f bytes between rest object handler fields a b =
    behind_fields 6 (IsNumber w32 object ▸ IsNumber w16 handler) (IsList f) bytes rest (call_head object handler) fields (takes_follow (IsNumber w32 object) (IsNumber w16 handler) bytes between rest a b)

pub make_list : (f : Format) (bytes rest : List ℕ) (class : ℕ) → (AnyBytes 2 ▸ IsList f) bytes → Takes (IsNumber w16 class) bytes rest → IsList f rest
make_list f bytes rest class fields a = behind_fields 2 (IsNumber w16 class) (IsList f) bytes rest (length-number w16 class) fields a

spot_long : (s : Spot) (l : List ℕ) → SpellsSpot s l → length l ≡ 8
spot_long s = length-follows _ _ 4 4 (length-number w32 s.object) (length-number w32 s.offset)

pub put_given : (bytes rest : List ℕ) (s : Spot) → (AnyBytes 8 ▸ IsGiven) bytes → Takes (SpellsSpot s) bytes rest → IsGiven rest
put_given bytes rest s f a = behind_fields 8 (SpellsSpot s) IsGiven bytes rest (spot_long s) f a

pub given_value : (bytes : List ℕ) → IsGiven bytes → IsValue bytes
given_value bytes g = (g.0, g.1.spelled)

-- the same bytes are the same value
pub same_given : (bytes : List ℕ) (v : Value) → IsGiven bytes → SpellsValue v bytes → SpellsGiven v bytes
same_given bytes v g spelled =
    let one = one_value g.0 v bytes bytes [] [] g.1.spelled spelled refl in
    subst (λ w. SpellsGiven w bytes) one.0 g.1
