-- What is less than a message, and what is none.
use Rattle.std.proofs.Common.{◌≡◌, ◌≢◌, ℕ, suc, ◌+◌, ◌<◌, List, [], ◌∷◌, ◌++◌, length, replicate, refl, sym, ◌∙◌, ap, subst, arith, append_assoc, length-append}
use Rattle.std.specs.Int.{byte_len, to_be_bytes}
use Rattle.std.proofs.lemmas.List.{append-nil}
use Rattle.std.proofs.lemmas.Bool.{lt-ltb}
use Rattle.std.proofs.lemmas.Nat.{pow_pos}
use mir.Val.{bits}
use Rattle.global_ptr.specs.declared.values.Value.{Value}
use Rattle.global_ptr.specs.declared.values.Value.TheVariants.{Void, Int, Null, Ptr}
use Rattle.marshal.specs.Spellings.{IsNumber, IsBytes, AnyBytes, ◌▸◌, BeginsWith, IsPartial, IsWrongAt, IsPrefixFree}
use Rattle.marshal.specs.Values.{SpellsValue, IsValue}
use Rattle.marshal.proofs.Laws.{wrong_is_not_whole}
use Rattle.marshal.proofs.NumberLaws.{IsBytes-zeros, ReadsBack, filled, length-number}
use Rattle.marshal.proofs.ValueLaws.{first_byte}
use Rattle.rsr_message.specs.declared.faults.MessageFault.{MessageFault}
use Rattle.rsr_message.specs.declared.faults.MessageFault.TheVariants.{Short, BadCount, Memory}
use Rattle.rsr_message.specs.declared.kinds.Kind.{Kind}
use Rattle.rsr_message.specs.declared.kinds.Kind.TheVariants as kind
use Rattle.rsr_message.specs.declared.versions.Version.{Version}
use Rattle.rsr_message.specs.declared.versions.Version.TheVariants.{Two}
use Rattle.rsr_message.specs.Requests.{Format, format_of, SpellsGiven, SpellsCount, IsMessage}
use Rattle.rsr_message.specs.Shapes.{byte_of, fields_len, IsGiven, IsEach, IsCount, IsList, IsTail}
use Rattle.rsr_message.specs.Refusals.{list_fault, IsRefused}
use Rattle.rsr_message.proofs.Leads.{Leads, leads_partial, leads_wrong, leads_first, partial_first, wrong_first}
use Rattle.rsr_message.proofs.MessageLaws.{IsGiven-free, IsCount-free, each_cons, cons_each, some_each, AnyBytes-free, message_head, headed}

-- a refusal of what is behind a front is one of all
pub leads_refused : (P Q : List ℕ → Type 0) (bytes rest : List ℕ) (n : ℕ) → Leads P Q bytes rest n → (name inner : ℕ → MessageFault) → ((k : ℕ) → inner k ≡ name (n + k)) → (fault : MessageFault) → IsRefused Q inner rest fault → IsRefused P name bytes fault
leads_refused P Q bytes rest n leads name inner same Short r = leads_partial P Q bytes rest n leads r
leads_refused P Q bytes rest n leads name inner same Memory r = r
leads_refused P Q bytes rest n leads name inner same fault r = record { at = n + r.at; wrong = leads_wrong P Q bytes rest n leads r.at r.wrong; named = r.named ∙ same r.at }

-- a refusal of the first of two is one of both
pub first_refused : (P Q : List ℕ → Type 0) → IsPrefixFree P → (bytes some : List ℕ) → Q some → (name : ℕ → MessageFault) (fault : MessageFault) → IsRefused P name bytes fault → IsRefused (P ▸ Q) name bytes fault
first_refused P Q free bytes some q name Short r = partial_first P Q bytes some q r
first_refused P Q free bytes some q name Memory r = r
first_refused P Q free bytes some q name fault r = record { at = r.at; wrong = wrong_first P Q free bytes some r.at q r.wrong; named = r.named }

-- the same of an equal set
pub same_refused : (P Q : List ℕ → Type 0) → ((bytes : List ℕ) → P bytes → Q bytes) → ((bytes : List ℕ) → Q bytes → P bytes) → (bytes : List ℕ) (name : ℕ → MessageFault) (fault : MessageFault) → IsRefused P name bytes fault → IsRefused Q name bytes fault
same_refused P Q to from bytes name Short r = record { missing = r.missing; some = r.some; spelled = to (bytes ++ r.missing) r.spelled }
same_refused P Q to from bytes name Memory r = r
same_refused P Q to from bytes name fault r =
    let w = r.wrong in
    record {
      at = r.at;
      named = r.named;
      wrong = record {
        before = w.before;
        byte = w.byte;
        after = w.after;
        whole = w.whole;
        place = w.place;
        partial = record { missing = w.partial.missing; some = w.partial.some; spelled = to (w.before ++ w.partial.missing) w.partial.spelled };
        none = λ more q. w.none more (from (w.before ++ w.byte ∷ more) q);
      };
    }

-- what is less than a value is less than one but void
pub given_partial : (bytes : List ℕ) → IsPartial IsValue bytes → IsPartial IsGiven bytes
given_partial bytes p = by p.spelled.0 p.spelled.1
  where
    null : IsGiven (2 ∷ [])
    null = (Null, record { some = λ is. cc; spelled = refl })

    nothing : (l m : List ℕ) → 0 < length m → l ++ m ≡ 0 ∷ [] → l ≡ []
    nothing [] m some is = refl
    nothing (b ∷ l) m some is = let long = ap length is in let parts = length-append l m in absurd (omega arith)

    given : (v : Value) → v ≢ Void → SpellsValue v (bytes ++ p.missing) → IsPartial IsGiven bytes
    given v some spelled = record { missing = p.missing; some = p.some; spelled = (v, record { some = some; spelled = spelled }) }

    by : (v : Value) → SpellsValue v (bytes ++ p.missing) → IsPartial IsGiven bytes
    by Void spelled = subst (IsPartial IsGiven) (sym (nothing bytes p.missing p.some spelled)) (record { missing = 2 ∷ []; some = omega arith; spelled = null })
    by (Int n) spelled = given (Int n) (λ is. cc) spelled
    by Null spelled = given Null (λ is. cc) spelled
    by (Ptr a) spelled = given (Ptr a) (λ is. cc) spelled

pub given_wrong : (bytes : List ℕ) (at : ℕ) → IsWrongAt IsValue bytes at → IsWrongAt IsGiven bytes at
given_wrong bytes at w = record {
  before = w.before;
  byte = w.byte;
  after = w.after;
  whole = w.whole;
  place = w.place;
  partial = given_partial w.before w.partial;
  none = λ more g. w.none more (g.0, g.1.spelled);
}

-- void is not given
pub void_wrong : (bytes : List ℕ) (n : ℕ) → BeginsWith (SpellsValue Void) bytes n → IsWrongAt IsGiven bytes 0
void_wrong bytes n b = record {
  before = [];
  byte = 0;
  after = b.rest;
  whole = b.whole ∙ ap (λ l. l ++ b.rest) b.spelled;
  place = refl;
  partial = given_partial [] (record { missing = 0 ∷ []; some = omega arith; spelled = (Void, refl) });
  none = λ more g. none g.0 more g.1;
}
  where
    none : (v : Value) (more : List ℕ) → SpellsGiven v (0 ∷ more) → ⊥
    none Void more g = g.some refl
    none (Int k) more g = let first = first_byte (Int k) _ g.spelled in let is : ◌≡◌ {A = ℕ} 0 1 = cc in omega arith
    none Null more g = let first = first_byte Null _ g.spelled in let is : ◌≡◌ {A = ℕ} 0 2 = cc in omega arith
    none (Ptr a) more g = let first = first_byte (Ptr a) _ g.spelled in let is : ◌≡◌ {A = ℕ} 0 3 = cc in omega arith

-- one more value is read
pub each_leads : (n : ℕ) (bytes rest : List ℕ) (m : ℕ) (b : BeginsWith IsGiven bytes m) → b.rest ≡ rest → Leads (IsEach (suc n)) (IsEach n) bytes rest m
each_leads n bytes rest m b is =
    let leads = leads_first IsGiven (IsEach n) IsGiven-free bytes b.spelling rest m b.spelled b.long (b.whole ∙ ap (λ l. b.spelling ++ l) is) in
    record {
      front = leads.front;
      long = leads.long;
      cut = leads.cut;
      whole = λ back each. cons_each n (leads.front ++ back) (leads.whole back each);
      only = λ back each. leads.only back (each_cons n (leads.front ++ back) each);
    }

-- the next value is refused
pub each_refused : (n : ℕ) (bytes : List ℕ) (name : ℕ → MessageFault) (fault : MessageFault) → IsRefused IsGiven name bytes fault → IsRefused (IsEach (suc n)) name bytes fault
each_refused n bytes name fault r =
    let some = some_each n in
    same_refused (IsGiven ▸ IsEach n) (IsEach (suc n)) (cons_each n) (each_cons n) bytes name fault (first_refused IsGiven (IsEach n) IsGiven-free bytes some.0 some.1 name fault r)

-- a list without values
pub empty_list : (f : Format) → IsList f (to_be_bytes f.count 0)
empty_list f = (
  [],
  record {
    front = to_be_bytes f.count 0;
    back = [];
    first = record { few = omega arith; number = record { fits = pow_pos (bits f.count); big_endian = refl } };
    second = refl;
    whole = sym (append-nil (to_be_bytes f.count 0));
  },
)

module _ (f : Format) (back : ReadsBack f.count) where
  -- the number of a list's values is missing
  pub no_count_partial : 0 < byte_len f.count → IsPartial (IsCount f) []
  no_count_partial wide =
      let number : IsNumber f.count 0 (to_be_bytes f.count 0) = record { fits = pow_pos (bits f.count); big_endian = refl } in
      record { missing = to_be_bytes f.count 0; some = (let long = length-number f.count 0 (to_be_bytes f.count 0) number in omega arith); spelled = (0, record { few = omega arith; number = number }) }

  -- less than the number of its values is less than a list
  count_partial : (bytes : List ℕ) → IsPartial (IsCount f) bytes → IsPartial (IsList f) bytes
  count_partial bytes p =
      let each = some_each p.spelled.0 in
      record {
        missing = p.missing ++ each.0;
        some = (let some = p.some in let long = length-append p.missing each.0 in omega arith);
        spelled = (
          each.1.values,
          record {
            front = bytes ++ p.missing;
            back = each.0;
            first = subst (λ n. SpellsCount f n (bytes ++ p.missing)) (sym each.1.long) p.spelled.1;
            second = each.1.spelled;
            whole = sym (append_assoc bytes p.missing each.0);
          },
        );
      }

  count_wrong : (bytes : List ℕ) (at : ℕ) → IsWrongAt (IsCount f) bytes at → IsWrongAt (IsList f) bytes at
  count_wrong bytes at w = record {
    before = w.before;
    byte = w.byte;
    after = w.after;
    whole = w.whole;
    place = w.place;
    partial = count_partial w.before w.partial;
    none = λ more list. wrong_is_not_whole (IsCount f) (IsCount-free f back) (w.before ++ w.byte ∷ more) at (length list.1.front)
        (record { before = w.before; byte = w.byte; after = more; whole = refl; place = w.place; partial = w.partial; none = w.none })
        (record { spelling = list.1.front; rest = list.1.back; spelled = (length list.0, list.1.first); long = refl; whole = list.1.whole });
  }

  -- a wrong byte of the number is one of its bytes
  count_place : (bytes : List ℕ) (at : ℕ) → IsWrongAt (IsCount f) bytes at → at < byte_len f.count
  count_place bytes at w =
      let p = w.partial in
      let long = length-number f.count p.spelled.0 (w.before ++ p.missing) p.spelled.1.number in
      let parts = length-append w.before p.missing in
      let some = p.some in
      let place = w.place in
      omega arith

  -- the list of a number that is refused
  pub count_refused : (bytes : List ℕ) (at : ℕ) (fault : MessageFault) → IsRefused (IsCount f) (λ k. BadCount (at + k)) bytes fault → IsRefused (IsList f) (list_fault f at) bytes fault
  count_refused bytes at Short r = count_partial bytes r
  count_refused bytes at Memory r = r
  count_refused bytes at fault r = record { at = r.at; wrong = count_wrong bytes r.at r.wrong; named = r.named ∙ rw (lt-ltb r.at (byte_len f.count) (count_place bytes r.at r.wrong)) refl }

-- what may stand behind the numbers of a kind
some_tail : (f : Format) (k : Kind) → (bytes : List ℕ) × IsTail f k bytes
some_tail f kind.Call = (to_be_bytes f.count 0, empty_list f)
some_tail f kind.Get = ([], refl)
some_tail f kind.Put = (2 ∷ [], (Null, record { some = λ is. cc; spelled = refl }))
some_tail f kind.Make = (to_be_bytes f.count 0, empty_list f)
some_tail f kind.Reply = (2 ∷ [], (Null, refl))
some_tail f kind.Cast = (to_be_bytes f.count 0, empty_list f)

-- the numbers of a kind are read
pub fields_lead : (f : Format) (k : Kind) (bytes front rest : List ℕ) → AnyBytes (fields_len k) front → bytes ≡ front ++ rest → Leads (AnyBytes (fields_len k) ▸ IsTail f k) (IsTail f k) bytes rest (fields_len k)
fields_lead f k bytes front rest any cut = leads_first (AnyBytes (fields_len k)) (IsTail f k) (AnyBytes-free (fields_len k)) bytes front rest (fields_len k) any any.long cut

-- some of the numbers are missing
pub fields_partial : (f : Format) (k : Kind) (bytes : List ℕ) → IsBytes bytes → length bytes < fields_len k → IsPartial (AnyBytes (fields_len k) ▸ IsTail f k) bytes
fields_partial f k bytes all few =
    let more = filled (fields_len k) bytes all few in
    let tail = some_tail f k in
    partial_first (AnyBytes (fields_len k)) (IsTail f k) bytes tail.0 tail.1 (record { missing = more.0; some = more.1; spelled = more.2 })

-- a reply of null, to be sure of a message
sample : (v : Version) → IsMessage (0x52 ∷ (format_of v).version ∷ 5 ∷ (replicate 12 0 ++ 2 ∷ []))
sample v = headed v kind.Reply (replicate 12 0 ++ 2 ∷ []) (record {
  front = replicate 12 0;
  back = 2 ∷ [];
  first = record { long = refl; all = IsBytes-zeros 12 };
  second = (Null, refl);
  whole = refl;
})

-- less than the three bytes with which a message begins
pub nothing_partial : IsPartial IsMessage []
nothing_partial = record { missing = 0x52 ∷ (format_of Two).version ∷ 5 ∷ (replicate 12 0 ++ 2 ∷ []); some = omega arith; spelled = sample Two }

pub magic_partial : IsPartial IsMessage (0x52 ∷ [])
magic_partial = record { missing = (format_of Two).version ∷ 5 ∷ (replicate 12 0 ++ 2 ∷ []); some = omega arith; spelled = sample Two }

pub version_partial : (v : Version) → IsPartial IsMessage (0x52 ∷ (format_of v).version ∷ [])
version_partial v = record { missing = 5 ∷ (replicate 12 0 ++ 2 ∷ []); some = omega arith; spelled = sample v }

-- each of the three bytes where it is wrong
pub magic_wrong : (byte : ℕ) (rest : List ℕ) → byte ≢ 0x52 → IsWrongAt IsMessage (byte ∷ rest) 0
magic_wrong byte rest other = record {
  before = [];
  byte = byte;
  after = rest;
  whole = refl;
  place = refl;
  partial = nothing_partial;
  none = λ more m. let head = message_head (byte ∷ more) m in other (cc head.whole);
}

pub version_wrong : (byte : ℕ) (rest : List ℕ) → ((v : Version) → byte ≢ (format_of v).version) → IsWrongAt IsMessage (0x52 ∷ byte ∷ rest) 1
version_wrong byte rest other = record {
  before = 0x52 ∷ [];
  byte = byte;
  after = rest;
  whole = refl;
  place = refl;
  partial = magic_partial;
  none = λ more m. let head = message_head (0x52 ∷ byte ∷ more) m in other head.version (cc head.whole);
}

pub kind_wrong : (v : Version) (byte : ℕ) (rest : List ℕ) → ((k : Kind) → byte ≢ byte_of k) → IsWrongAt IsMessage (0x52 ∷ (format_of v).version ∷ byte ∷ rest) 2
kind_wrong v byte rest other = record {
  before = 0x52 ∷ (format_of v).version ∷ [];
  byte = byte;
  after = rest;
  whole = refl;
  place = refl;
  partial = version_partial v;
  none = λ more m. let head = message_head (0x52 ∷ (format_of v).version ∷ byte ∷ more) m in other head.kind (cc head.whole);
}
