-- Steps of the code that tells how long a message is.
use Rattle.std.proofs.Common.{◌≡◌, ◌≢◌, ℕ, suc, zero, ◌+◌, ◌-◌, ◌*◌, ◌%◌, ◌<◌, ◌≤◌, false, nat_lt, cond, List, [], ◌∷◌, ◌++◌, length, take, drop, slice_index, refl, sym, ◌∙◌, ap, subst, arith, append_assoc, length-append, add-zero}
use Rattle.std.specs.Int.{w16, byte_len, from_be_bytes}
use Rattle.std.proofs.lemmas.Bool.{le-ltb}
use Rattle.std.proofs.lemmas.List.{append-nil, drop_at, drop-drop, nil_from_length, take-append-drop, length-take-le}
use Rattle.global_ptr.specs.declared.values.Value.{Value}
use Rattle.global_ptr.specs.declared.values.Value.TheVariants.{Void}
use Rattle.marshal.specs.Spellings.{IsBytes, AnyBytes, IsNumber, ◌▸◌, BeginsWith, IsPartial, IsWrongAt}
use Rattle.marshal.specs.Values.{SpellsValue, IsValue}
use Rattle.marshal.proofs.NumberLaws.{IsBytes-front, IsBytes-back, ReadsBack, reads_back_8, reads_back_16, number_of_2, any_number, one_number, length-number}
use Rattle.marshal.proofs.ValueLaws.{length-value}
use Rattle.rsr_message.specs.declared.faults.MessageFault.{MessageFault}
use Rattle.rsr_message.specs.declared.faults.MessageFault.TheVariants.{BadMagic, BadVersion, BadKind, BadCount, BadTag}
use Rattle.rsr_message.specs.declared.kinds.Kind.{Kind}
use Rattle.rsr_message.specs.declared.versions.Version.{Version}
use Rattle.rsr_message.specs.declared.versions.Version.TheVariants.{One, Two}
use Rattle.rsr_message.specs.Requests.{Format, version_1, version_2, format_of, SpellsCount, IsMessage}
use Rattle.rsr_message.specs.Shapes.{byte_of, fields_len, IsHead, IsGiven, IsEach, IsCount, IsList, IsTail, HasShape}
use Rattle.rsr_message.specs.Refusals.{list_fault, format_told, fault_at, fault_of, IsWrong, IsRefused, IsWrongMessage, IsRefusedMessage}
use Rattle.rsr_message.proofs.Leads.{Leads, leads_whole, leads_partial, leads_nothing, leads_on}
use Rattle.rsr_message.proofs.MessageLaws.{back_of, list_leads, head_leads}
use Rattle.rsr_message.proofs.RefusalLaws.{leads_refused, each_leads, each_refused, nothing_partial, magic_partial, version_partial, magic_wrong, version_wrong, kind_wrong, void_wrong, given_wrong, fields_lead, fields_partial, no_count_partial}

-- so many of the values are read, in so many bytes, and the others are in the rest
pub record EachSoFar (count done : ℕ) (bytes : List ℕ) (len : ℕ) : Type 0 where
  pub leads : Leads (IsEach count) (IsEach (count - done)) bytes (drop len bytes) len
  pub short : len ≤ 13 * done

pub each_begun : (count : ℕ) (bytes : List ℕ) → EachSoFar count 0 bytes 0
each_begun count bytes =
    let all : count ≡ count - 0 = omega arith in
    record { leads = subst (λ n. Leads (IsEach count) (IsEach n) bytes bytes 0) all (leads_nothing (IsEach count) bytes); short = omega arith }

pub within : (count done : ℕ) (bytes : List ℕ) (len : ℕ) → EachSoFar count done bytes len → len ≤ length bytes
within count done bytes len so_far =
    let leads = so_far.leads in
    let long = leads.long in
    let parts = ap length leads.cut ∙ length-append leads.front (drop len bytes) in
    omega arith

pub each_more : (count done : ℕ) (bytes : List ℕ) (len more : ℕ) → done < count → EachSoFar count done bytes len → BeginsWith IsGiven (drop len bytes) more → more ≤ 13 → EachSoFar count (done + 1) bytes (len + more)
each_more count done bytes len more before so_far b small =
    let left = count - (done + 1) in
    let one_less : count - done ≡ suc left = omega arith in
    let rest : b.rest ≡ drop (len + more) bytes = sym (drop_at b.spelling b.rest more b.long) ∙ ap (drop more) (sym b.whole) ∙ drop-drop more len bytes in
    let next : Leads (IsEach (suc left)) (IsEach left) (drop len bytes) (drop (len + more) bytes) more = each_leads left (drop len bytes) (drop (len + more) bytes) more b rest in
    let first : Leads (IsEach count) (IsEach (suc left)) bytes (drop len bytes) len = subst (λ n. Leads (IsEach count) (IsEach n) bytes (drop len bytes) len) one_less so_far.leads in
    let short = so_far.short in
    record { leads = leads_on (IsEach count) (IsEach (suc left)) (IsEach left) bytes (drop len bytes) (drop (len + more) bytes) len more first next; short = omega arith }

pub each_done : (count done : ℕ) (bytes : List ℕ) (len : ℕ) → done ≡ count → EachSoFar count done bytes len → BeginsWith (IsEach count) bytes len
each_done count done bytes len all so_far =
    let none : count - done ≡ 0 = omega arith in
    let leads : Leads (IsEach count) (IsEach 0) bytes (drop len bytes) len = subst (λ n. Leads (IsEach count) (IsEach n) bytes (drop len bytes) len) none so_far.leads in
    subst (BeginsWith (IsEach count) bytes) (add-zero len) (leads_whole (IsEach count) (IsEach 0) bytes (drop len bytes) len leads 0
    (record { spelling = []; rest = drop len bytes; spelled = record { values = []; long = refl; spelled = refl }; long = refl; whole = refl }))

pub each_stopped : (count done : ℕ) (bytes : List ℕ) (len at : ℕ) → done < count → EachSoFar count done bytes len → (fault : MessageFault) → IsRefused IsGiven (λ k. BadTag (at + len + k)) (drop len bytes) fault → IsRefused (IsEach count) (λ k. BadTag (at + k)) bytes fault
each_stopped count done bytes len at before so_far fault r =
    let left = count - (done + 1) in
    let one_less : count - done ≡ suc left = omega arith in
    let first : Leads (IsEach count) (IsEach (suc left)) bytes (drop len bytes) len = subst (λ n. Leads (IsEach count) (IsEach n) bytes (drop len bytes) len) one_less so_far.leads in
    leads_refused (IsEach count) (IsEach (suc left)) bytes (drop len bytes) len first (λ k. BadTag (at + k)) (λ k. BadTag (at + len + k)) (λ k. ap BadTag (omega arith)) fault
    (each_refused left (drop len bytes) (λ k. BadTag (at + len + k)) fault r)

-- the first three bytes, one by one

pub head_nothing : (bytes : List ℕ) → length bytes ≡ 0 → IsPartial IsMessage bytes
head_nothing bytes none = subst (IsPartial IsMessage) (sym (nil_from_length bytes none)) nothing_partial

pub head_magic : (bytes rest : List ℕ) (magic : ℕ) → bytes ≡ magic ∷ rest → magic ≢ 0x52 → IsWrongMessage bytes BadMagic
head_magic bytes rest magic cut other = record { at = 0; wrong = subst (λ l. IsWrongAt IsMessage l 0) (sym cut) (magic_wrong magic rest other); named = refl }

pub head_only_magic : (bytes rest : List ℕ) (magic : ℕ) → bytes ≡ magic ∷ rest → magic ≡ 0x52 → length rest ≡ 0 → IsPartial IsMessage bytes
head_only_magic bytes rest magic cut is none =
    let all : bytes ≡ 0x52 ∷ [] = cut ∙ cc (is, nil_from_length rest none) in
    subst (IsPartial IsMessage) (sym all) magic_partial

pub head_version : (bytes behind rest : List ℕ) (magic version : ℕ) → bytes ≡ magic ∷ behind → magic ≡ 0x52 → behind ≡ version ∷ rest → ((v : Version) → version ≢ (format_of v).version) → IsWrongMessage bytes BadVersion
head_version bytes behind rest magic version cut is second other =
    let all : bytes ≡ 0x52 ∷ version ∷ rest = cut ∙ cc (is, second) in
    record { at = 1; wrong = subst (λ l. IsWrongAt IsMessage l 1) (sym all) (version_wrong version rest other); named = refl }

pub head_only_version : (v : Version) (bytes behind rest : List ℕ) (magic version : ℕ) → bytes ≡ magic ∷ behind → magic ≡ 0x52 → behind ≡ version ∷ rest → version ≡ (format_of v).version → length rest ≡ 0 → IsPartial IsMessage bytes
head_only_version v bytes behind rest magic version cut is second same none =
    let all : bytes ≡ 0x52 ∷ (format_of v).version ∷ [] = cut ∙ cc (is, second, same, nil_from_length rest none) in
    subst (IsPartial IsMessage) (sym all) (version_partial v)

three : (v : Version) (bytes behind after rest : List ℕ) (magic version kind : ℕ) → bytes ≡ magic ∷ behind → magic ≡ 0x52 → behind ≡ version ∷ after → version ≡ (format_of v).version → after ≡ kind ∷ rest → bytes ≡ 0x52 ∷ (format_of v).version ∷ kind ∷ rest
three v bytes behind after rest magic version kind cut is second same third = cut ∙ cc (is, second, same, third)

pub head_bad_kind : (v : Version) (bytes behind after rest : List ℕ) (magic version kind : ℕ) → bytes ≡ magic ∷ behind → magic ≡ 0x52 → behind ≡ version ∷ after → version ≡ (format_of v).version → after ≡ kind ∷ rest → ((k : Kind) → kind ≢ byte_of k) → IsWrongMessage bytes BadKind
head_bad_kind v bytes behind after rest magic version kind cut is second same third other =
    record { at = 2; wrong = subst (λ l. IsWrongAt IsMessage l 2) (sym (three v bytes behind after rest magic version kind cut is second same third)) (kind_wrong v kind rest other); named = refl }

pub head_done : (v : Version) (bytes behind after rest : List ℕ) (magic version byte : ℕ) (k : Kind) → bytes ≡ magic ∷ behind → magic ≡ 0x52 → behind ≡ version ∷ after → version ≡ (format_of v).version → after ≡ byte ∷ rest → byte ≡ byte_of k → BeginsWith (IsHead (format_of v) k) bytes 3
head_done v bytes behind after rest magic version byte k cut is second same third of_kind = record {
  spelling = 0x52 ∷ (format_of v).version ∷ byte_of k ∷ [];
  rest = rest;
  spelled = refl;
  long = refl;
  whole = three v bytes behind after rest magic version byte cut is second same third ∙ ap (λ b. 0x52 ∷ (format_of v).version ∷ b ∷ rest) of_kind;
}

-- one value

pub given_void : (bytes : List ℕ) (n at : ℕ) (v : Value) → v ≡ Void → BeginsWith (SpellsValue v) bytes n → IsWrong IsGiven (λ k. BadTag (at + k)) bytes (BadTag at)
given_void bytes n at v is b = record { at = 0; wrong = void_wrong bytes n (subst (λ w. BeginsWith (SpellsValue w) bytes n) is b); named = ap BadTag (omega arith) }

pub given_bad : (bytes : List ℕ) (at place : ℕ) → (place ≡ 0) × IsWrongAt IsValue bytes place → IsWrong IsGiven (λ k. BadTag (at + k)) bytes (BadTag at)
given_bad bytes at place w = record { at = 0; wrong = given_wrong bytes 0 (subst (IsWrongAt IsValue bytes) w.0 w.1); named = ap BadTag (omega arith) }

pub value_bad : (bytes : List ℕ) (at place : ℕ) → (place ≡ 0) × IsWrongAt IsValue bytes place → IsWrong IsValue (λ k. BadTag (at + k)) bytes (BadTag at)
value_bad bytes at place w = record { at = 0; wrong = subst (IsWrongAt IsValue bytes) w.0 w.1; named = ap BadTag (omega arith) }

pub given_done : (bytes : List ℕ) (n : ℕ) (v : Value) → v ≢ Void → BeginsWith (SpellsValue v) bytes n → BeginsWith IsGiven bytes n
given_done bytes n v some b = record { spelling = b.spelling; rest = b.rest; spelled = (v, record { some = some; spelled = b.spelled }); long = b.long; whole = b.whole }

pub value_short : (bytes : List ℕ) (n : ℕ) (v : Value) → BeginsWith (SpellsValue v) bytes n → n ≤ 13
value_short bytes n v b = let long = b.long in let short = length-value v b.spelling b.spelled in omega arith

-- the number of a list's values

pub no_count : (f : Format) → ReadsBack f.count → 0 < byte_len f.count → (bytes : List ℕ) → length bytes ≡ 0 → IsPartial (IsCount f) bytes
no_count f back wide bytes none = subst (IsPartial (IsCount f)) (sym (nil_from_length bytes none)) (no_count_partial f back wide)

pub count_1_great : (bytes rest : List ℕ) (count at : ℕ) → bytes ≡ count ∷ rest → 8 < count → IsWrong (IsCount version_1) (λ k. BadCount (at + k)) bytes (BadCount at)
count_1_great bytes rest count at cut great = record {
  at = 0;
  named = ap BadCount (omega arith);
  wrong = subst (λ l. IsWrongAt (IsCount version_1) l 0) (sym cut) (record {
    before = [];
    byte = count;
    after = rest;
    whole = refl;
    place = refl;
    partial = no_count_partial version_1 reads_back_8 (omega arith);
    none = λ more p.
        let few = p.1.few in
        let is : count ∷ more ≡ (p.0 % 256) ∷ [] = p.1.number.big_endian in
        let same : count ≡ p.0 % 256 = cc in
        omega arith;
  });
}

pub count_1_done : (bytes rest : List ℕ) (count : ℕ) → bytes ≡ count ∷ rest → count ≤ 8 → BeginsWith (SpellsCount version_1 count) bytes 1
count_1_done bytes rest count cut few = record {
  spelling = count ∷ [];
  rest = rest;
  spelled = record { few = few; number = record { fits = omega arith; big_endian = ap (λ n. n ∷ []) (omega arith) } };
  long = refl;
  whole = cut;
}

two_bytes : (high low : ℕ) → high < 256 → low < 256 → IsNumber w16 (256 * high + low) (high ∷ low ∷ [])
two_bytes high low small_high small_low =
    let number : IsNumber w16 (from_be_bytes w16 (high ∷ low ∷ [])) (high ∷ low ∷ []) = number_of_2 (high ∷ low ∷ []) (record { long = refl; all = all }) in
    let same : from_be_bytes w16 (high ∷ low ∷ []) ≡ 256 * high + low = omega arith in
    subst (λ n. IsNumber w16 n (high ∷ low ∷ [])) same number
  where
    all : IsBytes (high ∷ low ∷ [])
    all zero = small_high
    all (suc zero) = small_low
    all (suc (suc i)) = omega arith

-- which number two bytes are
pub two_count : (high low n : ℕ) (more : List ℕ) → high < 256 → low < 256 → IsNumber w16 n (high ∷ low ∷ more) → n ≡ 256 * high + low
two_count high low n more small_high small_low number =
    (one_number w16 reads_back_16 n (256 * high + low) (high ∷ low ∷ more) (high ∷ low ∷ []) [] more number (two_bytes high low small_high small_low) (append-nil (high ∷ low ∷ more))).0

first_small : (bytes rest : List ℕ) (byte : ℕ) → IsBytes bytes → bytes ≡ byte ∷ rest → byte < 256
first_small bytes rest byte all cut = subst IsBytes cut all 0

second_small : (bytes behind rest : List ℕ) (first second : ℕ) → IsBytes bytes → bytes ≡ first ∷ behind → behind ≡ second ∷ rest → second < 256
second_small bytes behind rest first second all cut next = subst IsBytes (cut ∙ ap (λ l. first ∷ l) next) all 1

high_only : (high : ℕ) → high < 256 → 256 * high ≤ 4096 → IsPartial (IsCount version_2) (high ∷ [])
high_only high small few = record { missing = 0 ∷ []; some = omega arith; spelled = (256 * high + 0, record { few = omega arith; number = two_bytes high 0 small (omega arith) }) }

pub count_2_only : (bytes rest : List ℕ) (high : ℕ) → IsBytes bytes → bytes ≡ high ∷ rest → length rest ≡ 0 → 256 * high ≤ 4096 → IsPartial (IsCount version_2) bytes
count_2_only bytes rest high all cut none few =
    let whole : bytes ≡ high ∷ [] = cut ∙ ap (λ l. high ∷ l) (nil_from_length rest none) in
    subst (IsPartial (IsCount version_2)) (sym whole) (high_only high (first_small bytes rest high all cut) few)

pub count_2_high : (bytes rest : List ℕ) (high at : ℕ) → IsBytes bytes → bytes ≡ high ∷ rest → 4096 < 256 * high → IsWrong (IsCount version_2) (λ k. BadCount (at + k)) bytes (BadCount at)
count_2_high bytes rest high at all cut great = record {
  at = 0;
  named = ap BadCount (omega arith);
  wrong = subst (λ l. IsWrongAt (IsCount version_2) l 0) (sym cut) (record {
    before = [];
    byte = high;
    after = rest;
    whole = refl;
    place = refl;
    partial = no_count_partial version_2 reads_back_16 (omega arith);
    none = λ more p. none more p.0 p.1;
  });
}
  where
    none : (more : List ℕ) (n : ℕ) → SpellsCount version_2 n (high ∷ more) → ⊥
    none [] n p = let long = length-number w16 n (high ∷ []) p.number in absurd (omega arith)
    none (low ∷ more) n p =
        let few = p.few in
        let any = any_number w16 n (high ∷ low ∷ more) p.number in
        let small_low : low < 256 = any.all 1 in
        let is = two_count high low n more (first_small bytes rest high all cut) small_low p.number in
        omega arith

pub count_2_low : (bytes behind rest : List ℕ) (high low at : ℕ) → IsBytes bytes → bytes ≡ high ∷ behind → behind ≡ low ∷ rest → 256 * high ≤ 4096 → 4096 < 256 * high + low → IsWrong (IsCount version_2) (λ k. BadCount (at + k)) bytes (BadCount (at + 1))
count_2_low bytes behind rest high low at all cut second few great = record {
  at = 1;
  named = refl;
  wrong = subst (λ l. IsWrongAt (IsCount version_2) l 1) (sym (cut ∙ ap (λ l. high ∷ l) second)) (record {
    before = high ∷ [];
    byte = low;
    after = rest;
    whole = refl;
    place = refl;
    partial = high_only high (first_small bytes behind high all cut) few;
    none = λ more p. let most = p.1.few in let is = two_count high low p.0 more (first_small bytes behind high all cut) (second_small bytes behind rest high low all cut second) p.1.number in omega arith;
  });
}

pub count_2_done : (bytes behind rest : List ℕ) (high low : ℕ) → IsBytes bytes → bytes ≡ high ∷ behind → behind ≡ low ∷ rest → 256 * high + low ≤ 4096 → BeginsWith (SpellsCount version_2 (256 * high + low)) bytes 2
count_2_done bytes behind rest high low all cut second few = record {
  spelling = high ∷ low ∷ [];
  rest = rest;
  spelled = record { few = few; number = two_bytes high low (first_small bytes behind high all cut) (second_small bytes behind rest high low all cut second) };
  long = refl;
  whole = cut ∙ ap (λ l. high ∷ l) second;
}

-- a list

module _ (v : Version) (bytes : List ℕ) (count : ℕ) (c : BeginsWith (SpellsCount (format_of v) count) bytes (byte_len (format_of v).count)) where
  pub count_within : byte_len (format_of v).count ≤ length bytes
  count_within = let long = c.long in let parts = ap length c.whole ∙ length-append c.spelling c.rest in omega arith

  pub few_values : (count ≤ 4096) × (byte_len (format_of v).count ≤ 2)
  few_values = by v c.spelled.few
    where
      by : (v : Version) → count ≤ (format_of v).most → (count ≤ 4096) × (byte_len (format_of v).count ≤ 2)
      by One few = (omega arith, omega arith)
      by Two few = (few, omega arith)

  behind_count : c.rest ≡ drop (byte_len (format_of v).count) bytes
  behind_count = sym (drop_at c.spelling c.rest (byte_len (format_of v).count) c.long) ∙ ap (drop (byte_len (format_of v).count)) (sym c.whole)

  list_lead : Leads (IsList (format_of v)) (IsEach count) bytes (drop (byte_len (format_of v).count) bytes) (byte_len (format_of v).count)
  list_lead = subst (λ rest. Leads (IsList (format_of v)) (IsEach count) bytes rest (byte_len (format_of v).count)) behind_count
      (list_leads (format_of v) (back_of v) count bytes c.spelling c.rest c.spelled.few c.spelled.number c.whole)

  pub list_done : (len : ℕ) → BeginsWith (IsEach count) (drop (byte_len (format_of v).count) bytes) len → BeginsWith (IsList (format_of v)) bytes (byte_len (format_of v).count + len)
  list_done len b = leads_whole (IsList (format_of v)) (IsEach count) bytes (drop (byte_len (format_of v).count) bytes) (byte_len (format_of v).count) list_lead len b

  pub list_stopped : (at : ℕ) (fault : MessageFault) → IsRefused (IsEach count) (λ k. BadTag (at + byte_len (format_of v).count + k)) (drop (byte_len (format_of v).count) bytes) fault → IsRefused (IsList (format_of v)) (list_fault (format_of v) at) bytes fault
  list_stopped at fault r =
      leads_refused (IsList (format_of v)) (IsEach count) bytes (drop (byte_len (format_of v).count) bytes) (byte_len (format_of v).count) list_lead
      (list_fault (format_of v) at) (λ k. BadTag (at + byte_len (format_of v).count + k)) behind fault r
    where
      behind : (k : ℕ) → BadTag (at + byte_len (format_of v).count + k) ≡ list_fault (format_of v) at (byte_len (format_of v).count + k)
      behind k =
          let n = byte_len (format_of v).count in
          let other : nat_lt (n + k) n ≡ false = le-ltb (n + k) n (omega arith) in
          ap BadTag (omega arith) ∙ sym (ap (λ b. cond b (BadCount (at + (n + k))) (BadTag (at + (n + k)))) other)

-- the whole

behind_head : (v : Version) (k : Kind) (bytes : List ℕ) (head : BeginsWith (IsHead (format_of v) k) bytes 3) → bytes ≡ 0x52 ∷ (format_of v).version ∷ byte_of k ∷ head.rest
behind_head v k bytes head = head.whole ∙ ap (λ l. l ++ head.rest) head.spelled

-- the format that the head tells
format_is_told : (v : Version) → format_told (format_of v).version ≡ format_of v
format_is_told One = refl
format_is_told Two = refl

fault_told : (v : Version) (k : Kind) (bytes : List ℕ) → BeginsWith (IsHead (format_of v) k) bytes 3 → fault_at (format_of v) (byte_of k) ≡ fault_of bytes
fault_told v k bytes head =
    let cut = behind_head v k bytes head in
    let second : (format_of v).version ≡ slice_index bytes 1 = sym (ap (λ l. slice_index l 1) cut) in
    let third : byte_of k ≡ slice_index bytes 2 = sym (ap (λ l. slice_index l 2) cut) in
    ap (λ g. fault_at g (byte_of k)) (sym (format_is_told v) ∙ ap format_told second) ∙ ap (fault_at (format_told (slice_index bytes 1))) third

pub fields_missing : (v : Version) (k : Kind) (bytes : List ℕ) → IsBytes bytes → BeginsWith (IsHead (format_of v) k) bytes 3 → length bytes < 3 + fields_len k → IsPartial IsMessage bytes
fields_missing v k bytes all head few =
    let cut = behind_head v k bytes head in
    let long = ap length cut in
    leads_partial IsMessage (AnyBytes (fields_len k) ▸ IsTail (format_of v) k) bytes head.rest 3 (head_leads v k bytes head.rest cut)
    (fields_partial (format_of v) k head.rest (IsBytes-back (0x52 ∷ (format_of v).version ∷ byte_of k ∷ []) head.rest (subst IsBytes cut all)) (omega arith))

-- the fields and the tail behind the head
fields_of : (v : Version) (k : Kind) (bytes tail : List ℕ) → IsBytes bytes → (head : BeginsWith (IsHead (format_of v) k) bytes 3) → 3 + fields_len k ≤ length bytes → tail ≡ drop (3 + fields_len k) bytes → (fields : List ℕ) × AnyBytes (fields_len k) fields × (head.rest ≡ fields ++ tail)
fields_of v k bytes tail all head enough is =
    let n = fields_len k in
    let cut = behind_head v k bytes head in
    let long : length bytes ≡ suc (suc (suc (length head.rest))) = ap length cut in
    let rest_all : IsBytes head.rest = IsBytes-back (0x52 ∷ (format_of v).version ∷ byte_of k ∷ []) head.rest (subst IsBytes cut all) in
    let whole : take n head.rest ++ drop n head.rest ≡ head.rest = take-append-drop n head.rest in
    let behind : tail ≡ drop n head.rest = is ∙ ap (drop (3 + n)) cut ∙ sym (drop-drop n 3 (0x52 ∷ (format_of v).version ∷ byte_of k ∷ head.rest)) in (
      take n head.rest,
      record { long = length-take-le n head.rest (omega arith); all = IsBytes-front (take n head.rest) (drop n head.rest) (subst IsBytes (sym whole) rest_all) },
      sym whole ∙ ap (λ l. take n head.rest ++ l) (sym behind),
    )

tail_leads : (v : Version) (k : Kind) (bytes tail : List ℕ) → IsBytes bytes → BeginsWith (IsHead (format_of v) k) bytes 3 → 3 + fields_len k ≤ length bytes → tail ≡ drop (3 + fields_len k) bytes → Leads IsMessage (IsTail (format_of v) k) bytes tail (3 + fields_len k)
tail_leads v k bytes tail all head enough is =
    let fields = fields_of v k bytes tail all head enough is in
    leads_on IsMessage (AnyBytes (fields_len k) ▸ IsTail (format_of v) k) (IsTail (format_of v) k) bytes head.rest tail 3 (fields_len k)
    (head_leads v k bytes head.rest (behind_head v k bytes head))
    (fields_lead (format_of v) k head.rest fields.0 tail fields.1 fields.2)

pub tail_stopped : (v : Version) (k : Kind) (bytes tail : List ℕ) → IsBytes bytes → BeginsWith (IsHead (format_of v) k) bytes 3 → (at : ℕ) → at ≡ 3 + fields_len k → at ≤ length bytes → tail ≡ drop at bytes →
    (fault : MessageFault) → IsRefused (IsTail (format_of v) k) (λ n. fault_at (format_of v) (byte_of k) (at + n)) tail fault → IsRefusedMessage bytes fault
tail_stopped v k bytes tail all head at place enough is fault r =
    let leads : Leads IsMessage (IsTail (format_of v) k) bytes tail at = subst (Leads IsMessage (IsTail (format_of v) k) bytes tail) (sym place)
    (tail_leads v k bytes tail all head (subst (λ n. n ≤ length bytes) place enough) (subst (λ n. tail ≡ drop n bytes) place is)) in
    leads_refused IsMessage (IsTail (format_of v) k) bytes tail at leads
    (fault_of bytes) (λ n. fault_at (format_of v) (byte_of k) (at + n)) (λ n. ap (λ (name : ℕ → MessageFault). name (at + n)) (fault_told v k bytes head)) fault r

pub tail_done : (v : Version) (k : Kind) (bytes tail : List ℕ) (len : ℕ) → IsBytes bytes → BeginsWith (IsHead (format_of v) k) bytes 3 → (at : ℕ) → at ≡ 3 + fields_len k → at ≤ length bytes → tail ≡ drop at bytes → BeginsWith (IsTail (format_of v) k) tail len → BeginsWith (HasShape (format_of v) k) bytes (at + len)
tail_done v k bytes tail len all head at place enough is b =
    let fields = fields_of v k bytes tail all head (subst (λ n. n ≤ length bytes) place enough) (subst (λ n. tail ≡ drop n bytes) place is) in
    record {
      spelling = 0x52 ∷ (format_of v).version ∷ byte_of k ∷ (fields.0 ++ b.spelling);
      rest = b.rest;
      spelled = record {
        front = 0x52 ∷ (format_of v).version ∷ byte_of k ∷ [];
        back = fields.0 ++ b.spelling;
        first = refl;
        second = record { front = fields.0; back = b.spelling; first = fields.1; second = b.spelled; whole = refl };
        whole = refl;
      };
      long = (let fields_long = fields.1.long in let tail_long = b.long in let both = length-append fields.0 b.spelling in omega arith);
      whole = behind_head v k bytes head ∙ ap (λ l. 0x52 ∷ (format_of v).version ∷ byte_of k ∷ l) (fields.2 ∙ ap (λ l. fields.0 ++ l) b.whole ∙ sym (append_assoc fields.0 b.spelling b.rest));
    }
