-- The messages of a kind are what has its shape.
use Rattle.std.proofs.Common.{◌≡◌, ℕ, ◌+◌, List, [], ◌∷◌, ◌++◌, length, refl, sym, ◌∙◌, ap, subst, arith, append_assoc, length-append}
use Rattle.std.specs.Int.{w16, w32, from_be_bytes}
use Rattle.std.proofs.lemmas.List.{append-nil}
use Rattle.global_ptr.specs.declared.values.Spot.{Spot}
use Rattle.global_ptr.specs.declared.values.Value.{Value}
use Rattle.marshal.specs.Spellings.{IsNumber, IsBytes, AnyBytes, ◌▸◌}
use Rattle.marshal.specs.Values.{SpellsValue, IsValue}
use Rattle.marshal.proofs.NumberLaws.{IsBytes-append, any_number, number_of_2, number_of_4}
use Rattle.marshal.proofs.ValueLaws.{cut_any}
use Rattle.rsr_message.specs.declared.kinds.Kind.{Kind}
use Rattle.rsr_message.specs.declared.kinds.Kind.TheVariants as kind
use Rattle.rsr_message.specs.declared.requests.Request.{Request}
use Rattle.rsr_message.specs.declared.requests.Body.{Body}
use Rattle.rsr_message.specs.declared.requests.Body.TheVariants as body
use Rattle.rsr_message.specs.declared.versions.Version.{Version}
use Rattle.rsr_message.specs.Requests.{Format, format_of, SpellsGiven, SpellsList, SpellsSpot, SpellsCall, SpellsBody, Spells, IsMessage, kind_byte}
use Rattle.rsr_message.specs.Shapes.{kind_of, byte_of, fields_len, IsNothing, IsGiven, IsList, IsTail, HasShape}
use Rattle.rsr_message.proofs.EncodingSteps.{same_byte}

module _ (P Q : List ℕ → Type 0) where
  -- one spelling after another, where each is also one of another set
  pub follows_map : (R S : List ℕ → Type 0) → ((bytes : List ℕ) → P bytes → R bytes) → ((bytes : List ℕ) → Q bytes → S bytes) → (bytes : List ℕ) → (P ▸ Q) bytes → (R ▸ S) bytes
  follows_map R S to_R to_S bytes f = record { front = f.front; back = f.back; first = to_R f.front f.first; second = to_S f.back f.second; whole = f.whole }

  pub regroup : (R : List ℕ → Type 0) (bytes : List ℕ) → (P ▸ (Q ▸ R)) bytes → ((P ▸ Q) ▸ R) bytes
  regroup R bytes f = record {
    front = f.front ++ f.second.front;
    back = f.second.back;
    first = record { front = f.front; back = f.second.front; first = f.first; second = f.second.first; whole = refl };
    second = f.second.second;
    whole = f.whole ∙ ap (λ l. f.front ++ l) f.second.whole ∙ sym (append_assoc f.front f.second.front f.second.back);
  }

  pub ungroup : (R : List ℕ → Type 0) (bytes : List ℕ) → ((P ▸ Q) ▸ R) bytes → (P ▸ (Q ▸ R)) bytes
  ungroup R bytes f = record {
    front = f.first.front;
    back = f.first.back ++ f.back;
    first = f.first.first;
    second = record { front = f.first.back; back = f.back; first = f.first.second; second = f.second; whole = refl };
    whole = f.whole ∙ ap (λ l. l ++ f.back) f.first.whole ∙ append_assoc f.first.front f.first.back f.back;
  }

same : (P : List ℕ → Type 0) (bytes : List ℕ) → P bytes → P bytes
same P bytes p = p

-- any bytes and any bytes are any bytes
any_any : (m n : ℕ) (bytes : List ℕ) → (AnyBytes m ▸ AnyBytes n) bytes → AnyBytes (m + n) bytes
any_any m n bytes f =
    let first = f.first.long in
    let second = f.second.long in
    record { long = ap length f.whole ∙ length-append f.front f.back ∙ omega arith; all = subst IsBytes (sym f.whole) (IsBytes-append f.front f.back f.first.all f.second.all) }

gather : (m n : ℕ) (Q : List ℕ → Type 0) (bytes : List ℕ) → (AnyBytes m ▸ (AnyBytes n ▸ Q)) bytes → (AnyBytes (m + n) ▸ Q) bytes
gather m n Q bytes f = follows_map (AnyBytes m ▸ AnyBytes n) Q (AnyBytes (m + n)) Q (any_any m n) (same Q) bytes (regroup (AnyBytes m) (AnyBytes n) Q bytes f)

pub spread : (m n : ℕ) (Q : List ℕ → Type 0) (bytes : List ℕ) → (AnyBytes (m + n) ▸ Q) bytes → (AnyBytes m ▸ (AnyBytes n ▸ Q)) bytes
spread m n Q bytes f = ungroup (AnyBytes m) (AnyBytes n) Q bytes (follows_map (AnyBytes (m + n)) Q (AnyBytes m ▸ AnyBytes n) Q (cut_any m n) (same Q) bytes f)

-- a number and what follows, as bytes
any_32 : (n : ℕ) (P Q : List ℕ → Type 0) → ((bytes : List ℕ) → P bytes → Q bytes) → (bytes : List ℕ) → (IsNumber w32 n ▸ P) bytes → (AnyBytes 4 ▸ Q) bytes
any_32 n P Q to bytes f = follows_map (IsNumber w32 n) P (AnyBytes 4) Q (any_number w32 n) to bytes f

any_16 : (n : ℕ) (P : List ℕ → Type 0) (bytes : List ℕ) → (IsNumber w16 n ▸ P) bytes → (AnyBytes 2 ▸ P) bytes
any_16 n P bytes f = follows_map (IsNumber w16 n) P (AnyBytes 2) P (any_number w16 n) (same P) bytes f

any_spot : (s : Spot) (bytes : List ℕ) → SpellsSpot s bytes → AnyBytes 8 bytes
any_spot s bytes f = any_any 4 4 bytes (any_32 s.object (IsNumber w32 s.offset) (AnyBytes 4) (any_number w32 s.offset) bytes f)

-- a spelling and nothing behind it
with_nothing : (P : List ℕ → Type 0) (bytes : List ℕ) → P bytes → (P ▸ IsNothing) bytes
with_nothing P bytes p = record { front = bytes; back = []; first = p; second = refl; whole = sym (append-nil bytes) }

without_nothing : (P : List ℕ → Type 0) (bytes : List ℕ) → (P ▸ IsNothing) bytes → P bytes
without_nothing P bytes f = subst P (sym (append-nil f.front) ∙ ap (λ l. f.front ++ l) (sym f.second) ∙ sym f.whole) f.first

call_shape : (f : Format) (object handler : ℕ) (args : List Value) (bytes : List ℕ) → (AnyBytes 12 ▸ SpellsCall f object handler args) bytes → (AnyBytes 18 ▸ IsList f) bytes
call_shape f object handler args bytes s =
    gather 12 6 (IsList f) bytes (follows_map (AnyBytes 12) (SpellsCall f object handler args) (AnyBytes 12) (AnyBytes 6 ▸ IsList f) (same (AnyBytes 12))
    (λ l call. gather 4 2 (IsList f) l (any_32 object (IsNumber w16 handler ▸ SpellsList f args) (AnyBytes 2 ▸ IsList f)
    (follows_map (IsNumber w16 handler) (SpellsList f args) (AnyBytes 2) (IsList f) (any_number w16 handler) (λ k list. (args, list))) l call)) bytes s)

-- what is behind the three numbers of each request
body_shape : (f : Format) (b : Body) (bytes : List ℕ) → (AnyBytes 12 ▸ SpellsBody f b) bytes → (AnyBytes (fields_len (kind_of b)) ▸ IsTail f (kind_of b)) bytes
body_shape f (body.Call object handler args) bytes s = call_shape f object handler args bytes s
body_shape f (body.Get spot) bytes s = with_nothing (AnyBytes 20) bytes (any_any 12 8 bytes (follows_map (AnyBytes 12) (SpellsSpot spot) (AnyBytes 12) (AnyBytes 8) (same (AnyBytes 12)) (any_spot spot) bytes s))
body_shape f (body.Put spot value) bytes s =
    gather 12 8 IsGiven bytes (follows_map (AnyBytes 12) (SpellsSpot spot ▸ SpellsGiven value) (AnyBytes 12) (AnyBytes 8 ▸ IsGiven) (same (AnyBytes 12))
    (follows_map (SpellsSpot spot) (SpellsGiven value) (AnyBytes 8) IsGiven (any_spot spot) (λ l given. (value, given))) bytes s)
body_shape f (body.Make class args) bytes s =
    gather 12 2 (IsList f) bytes (follows_map (AnyBytes 12) (IsNumber w16 class ▸ SpellsList f args) (AnyBytes 12) (AnyBytes 2 ▸ IsList f) (same (AnyBytes 12))
    (follows_map (IsNumber w16 class) (SpellsList f args) (AnyBytes 2) (IsList f) (any_number w16 class) (λ l list. (args, list))) bytes s)
body_shape f (body.Reply value) bytes s = follows_map (AnyBytes 12) (SpellsValue value) (AnyBytes 12) IsValue (same (AnyBytes 12)) (λ l spelled. (value, spelled)) bytes s
body_shape f (body.Cast object handler args) bytes s = call_shape f object handler args bytes s

-- each spelling has the shape of its kind
pub spelled_shape : (f : Format) (r : Request) (bytes : List ℕ) → Spells f r bytes → HasShape f (kind_of r.body) bytes
spelled_shape f r bytes s =
    let numbers = s.second.second.second in
    let behind = s.second.second.back in
    let fields : (AnyBytes 12 ▸ SpellsBody f r.body) behind =
    gather 4 8 (SpellsBody f r.body) behind (any_32 r.to (IsNumber w32 r.from ▸ IsNumber w32 r.ticket ▸ SpellsBody f r.body) (AnyBytes 8 ▸ SpellsBody f r.body)
    (λ l from. gather 4 4 (SpellsBody f r.body) l (any_32 r.from (IsNumber w32 r.ticket ▸ SpellsBody f r.body) (AnyBytes 4 ▸ SpellsBody f r.body)
    (any_32 r.ticket (SpellsBody f r.body) (SpellsBody f r.body) (same (SpellsBody f r.body))) l from)) behind numbers) in
    let kind = s.second.second.first in
    record {
      front = 0x52 ∷ f.version ∷ byte_of (kind_of r.body) ∷ [];
      back = behind;
      first = refl;
      second = body_shape f r.body behind fields;
      whole = head_first s.first s.second.first kind s.whole s.second.whole s.second.second.whole ∙ ap (λ k. 0x52 ∷ f.version ∷ k ∷ behind) (sym (same_byte r.body));
    }
  where
    head_first : {a b c l m n o : List ℕ} {x y z : ℕ} → a ≡ x ∷ [] → b ≡ y ∷ [] → c ≡ z ∷ [] → l ≡ a ++ m → m ≡ b ++ n → n ≡ c ++ o → l ≡ x ∷ y ∷ z ∷ o
    head_first a b c l m n = cc

-- the other way: any bytes are numbers

number_32 : (P : List ℕ → Type 0) (bytes : List ℕ) → (AnyBytes 4 ▸ P) bytes → (n : ℕ) × (IsNumber w32 n ▸ P) bytes
number_32 P bytes f = (from_be_bytes w32 f.front, record { front = f.front; back = f.back; first = number_of_4 f.front f.first; second = f.second; whole = f.whole })

number_16 : (P : List ℕ → Type 0) (bytes : List ℕ) → (AnyBytes 2 ▸ P) bytes → (n : ℕ) × (IsNumber w16 n ▸ P) bytes
number_16 P bytes f = (from_be_bytes w16 f.front, record { front = f.front; back = f.back; first = number_of_2 f.front f.first; second = f.second; whole = f.whole })

-- what is behind a front
put_back : (P Q R : List ℕ → Type 0) (bytes : List ℕ) (f : (P ▸ Q) bytes) → R f.back → (P ▸ R) bytes
put_back P Q R bytes f r = record { front = f.front; back = f.back; first = f.first; second = r; whole = f.whole }

call_of : (f : Format) (bytes : List ℕ) → (AnyBytes 6 ▸ IsList f) bytes → (object : ℕ) × (handler : ℕ) × (args : List Value) × SpellsCall f object handler args bytes
call_of f bytes s =
    let object = number_32 (AnyBytes 2 ▸ IsList f) bytes (spread 4 2 (IsList f) bytes s) in
    let handler = number_16 (IsList f) object.1.back object.1.second in
    let list = handler.1.second in
    (object.0, handler.0, list.0, put_back (IsNumber w32 object.0) (AnyBytes 2 ▸ IsList f) (IsNumber w16 handler.0 ▸ SpellsList f list.0) bytes object.1 (put_back (IsNumber w16 handler.0) (IsList f) (SpellsList f list.0) object.1.back handler.1 list.1))

spot_of : (P : List ℕ → Type 0) (bytes : List ℕ) → (AnyBytes 8 ▸ P) bytes → (spot : Spot) × (SpellsSpot spot ▸ P) bytes
spot_of P bytes s =
    let object = number_32 (AnyBytes 4 ▸ P) bytes (spread 4 4 P bytes s) in
    let offset = number_32 P object.1.back object.1.second in
    (record { object = object.0; offset = offset.0 }, regroup (IsNumber w32 object.0) (IsNumber w32 offset.0) P bytes (put_back (IsNumber w32 object.0) (AnyBytes 4 ▸ P) (IsNumber w32 offset.0 ▸ P) bytes object.1 offset.1))

-- some body of the kind is spelled so behind the three numbers
body_of : (f : Format) (k : Kind) (bytes : List ℕ) → (AnyBytes (fields_len k) ▸ IsTail f k) bytes → (b : Body) × (kind_of b ≡ k) × (AnyBytes 12 ▸ SpellsBody f b) bytes
body_of f kind.Call bytes s =
    let cut = spread 12 6 (IsList f) bytes s in
    let call = call_of f cut.back cut.second in
    (body.Call call.0 call.1 call.2, refl, put_back (AnyBytes 12) (AnyBytes 6 ▸ IsList f) (SpellsCall f call.0 call.1 call.2) bytes cut call.3)
body_of f kind.Get bytes s =
    let cut = spread 12 8 IsNothing bytes s in
    let spot = spot_of IsNothing cut.back cut.second in
    (body.Get spot.0, refl, put_back (AnyBytes 12) (AnyBytes 8 ▸ IsNothing) (SpellsSpot spot.0) bytes cut (without_nothing (SpellsSpot spot.0) cut.back spot.1))
body_of f kind.Put bytes s =
    let cut = spread 12 8 IsGiven bytes s in
    let spot = spot_of IsGiven cut.back cut.second in
    let value = spot.1.second in
    (body.Put spot.0 value.0, refl, put_back (AnyBytes 12) (AnyBytes 8 ▸ IsGiven) (SpellsSpot spot.0 ▸ SpellsGiven value.0) bytes cut (put_back (SpellsSpot spot.0) IsGiven (SpellsGiven value.0) cut.back spot.1 value.1))
body_of f kind.Make bytes s =
    let cut = spread 12 2 (IsList f) bytes s in
    let class = number_16 (IsList f) cut.back cut.second in
    let list = class.1.second in
    (body.Make class.0 list.0, refl, put_back (AnyBytes 12) (AnyBytes 2 ▸ IsList f) (IsNumber w16 class.0 ▸ SpellsList f list.0) bytes cut (put_back (IsNumber w16 class.0) (IsList f) (SpellsList f list.0) cut.back class.1 list.1))
body_of f kind.Reply bytes s = (body.Reply s.second.0, refl, put_back (AnyBytes 12) IsValue (SpellsValue s.second.0) bytes s s.second.1)
body_of f kind.Cast bytes s =
    let cut = spread 12 6 (IsList f) bytes s in
    let call = call_of f cut.back cut.second in
    (body.Cast call.0 call.1 call.2, refl, put_back (AnyBytes 12) (AnyBytes 6 ▸ IsList f) (SpellsCall f call.0 call.1 call.2) bytes cut call.3)

-- the head of its kind before its numbers makes a request
pub headed_request : (f : Format) (k : Kind) (r : Request) (bytes : List ℕ) (s : HasShape f k bytes) → (IsNumber w32 r.to ▸ IsNumber w32 r.from ▸ IsNumber w32 r.ticket ▸ SpellsBody f r.body) s.back → byte_of k ≡ kind_byte r.body → Spells f r bytes
headed_request f k r bytes s numbers byte = record {
  front = 0x52 ∷ [];
  back = f.version ∷ kind_byte r.body ∷ s.back;
  first = refl;
  second = record {
    front = f.version ∷ [];
    back = kind_byte r.body ∷ s.back;
    first = refl;
    second = record { front = kind_byte r.body ∷ []; back = s.back; first = refl; second = numbers; whole = refl };
    whole = refl;
  };
  whole = s.whole ∙ ap (λ l. l ++ s.back) s.first ∙ ap (λ b. 0x52 ∷ f.version ∷ b ∷ s.back) byte;
}

-- what has a shape spells some request
pub shaped_request : (f : Format) (k : Kind) (bytes : List ℕ) → HasShape f k bytes → (r : Request) × (kind_of r.body ≡ k) × Spells f r bytes
shaped_request f k bytes s =
    let b = body_of f k s.back s.second in
    let P : List ℕ → Type 0 = SpellsBody f b.0 in
    let to = number_32 (AnyBytes 8 ▸ P) s.back (spread 4 8 P s.back b.2) in
    let from = number_32 (AnyBytes 4 ▸ P) to.1.back (spread 4 4 P to.1.back to.1.second) in
    let ticket = number_32 P from.1.back from.1.second in
    let r : Request = record { to = to.0; from = from.0; ticket = ticket.0; body = b.0 } in
    let numbers : (IsNumber w32 to.0 ▸ IsNumber w32 from.0 ▸ IsNumber w32 ticket.0 ▸ P) s.back =
    put_back (IsNumber w32 to.0) (AnyBytes 8 ▸ P) (IsNumber w32 from.0 ▸ IsNumber w32 ticket.0 ▸ P) s.back to.1
    (put_back (IsNumber w32 from.0) (AnyBytes 4 ▸ P) (IsNumber w32 ticket.0 ▸ P) to.1.back from.1 ticket.1) in
    let byte : byte_of k ≡ kind_byte b.0 = ap byte_of (sym b.1) ∙ same_byte b.0 in
    (r, b.1, headed_request f k r bytes s numbers byte)

pub shaped_message : (v : Version) (k : Kind) (bytes : List ℕ) → HasShape (format_of v) k bytes → IsMessage bytes
shaped_message v k bytes s = let found = shaped_request (format_of v) k bytes s in (found.0, record { version = v; spelled = found.2 })
