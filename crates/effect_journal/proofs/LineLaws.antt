-- A line is that of an entry exactly where it is read as that entry.
use Rattle.std.proofs.Common.{◌≡◌, ◌≢◌, ℕ, ◌+◌, ◌-◌, ◌*◌, ◌/◌, ◌%◌, ◌^◌, ◌<◌, ◌≤◌, ◌==◌, zero, suc, Bool, true, false, not, cond, ◌&&◌, ◌||◌, nat_lt, nat_le, List, [], ◌∷◌, ◌++◌, length, get_or, Option, Some, None, ℤ, pos, negsuc, refl, sym, ◌∙◌, ap, subst, ⊎_elim, arith, decimal, codes, find, w64, FitsSigned}
use Rattle.std.specs.Fmt.{signed_decimal, digit_glyph}
use Rattle.std.specs.List.{AllByRecursion, join_with_byte, list_all}
use Rattle.std.specs.Option.{option_map_or}
use Rattle.std.specs.Str.{bytes_eq}
use Rattle.std.specs.Str.Parse.{AllDigits}
use Rattle.std.proofs.lemmas.Bool.{cases_lt, ltb-true, ltb-false, lt-ltb, le-ltb, leb-true, eqb-true, eqb-false, ne_eqb, true≢false, or_parts, and_parts, not-true}
use Rattle.std.proofs.lemmas.Bool.Decides.{nat_tests}
use Rattle.std.proofs.lemmas.Fmt.{decimal_is_IsNumeral}
use Rattle.std.proofs.lemmas.Option.{cond_some, none-some, same_Some}
use Rattle.std.proofs.lemmas.Slice.Eq.{bytes_eq-Decides}
use Rattle.std.proofs.lemmas.Str.Parse.{digit_from_value, digit_at}
use Rattle.global_ptr.specs.Texts.{fault_name}
use Rattle.global_ptr.specs.declared.ends.FaultKind.{FaultKind}
use Rattle.global_ptr.specs.declared.ends.FaultKind.TheVariants.{SyncTwice, Overflow, DivideByZero, IndexOut, NullPointer, StoreFull, ThreadsFull, ProcessorsFull, CallDepth}
use Rattle.global_ptr.specs.declared.ends.Standing.{Standing}
use Rattle.global_ptr.specs.declared.ends.Standing.TheVariants.{Done, Blocked, Fault, Limit}
use Rattle.global_ptr.specs.declared.ends.ProgFault.{ProgFault}
use Rattle.effect_journal.specs.declared.entry.FaultBy.{FaultBy}
use Rattle.effect_journal.specs.declared.entry.Entry.{Entry}
use Rattle.effect_journal.specs.declared.entry.Entry.TheVariants.{Run, Serve, Make, End}
use Rattle.effect_journal.specs.Journal.{IsUpTo, hex, line, words, AreBytes, IsEntry, Lacks}
use Rattle.effect_journal.specs.Reading.{◌>>=◌, cut, after, natural_of, short_natural_of, negative_of, positive_of, integer_of, hex_value, unhex, request_of, kinds, kind_of, run_of, serve_of, make_of, fault_of, end_of, entry_of, behind, ended}
use Rattle.effect_journal.proofs.WordLaws.{IsCut, cut_is, cut_again, natural_again, natural_found}

-- ---- steps that may fail

bind_some : {A B : Type 0} (o : Option A) (f : A → Option B) (y : B) → (o >>= f) ≡ Some y → (x : A) × (o ≡ Some x) × (f x ≡ Some y)
bind_some None f y e = absurd (none-some y e)
bind_some (Some x) f y e = (x, refl, e)

-- the same, for proofs that go on from there
bound : {A B P : Type 0} (o : Option A) (f : A → Option B) (y : B) → (o >>= f) ≡ Some y → ((x : A) → o ≡ Some x → f x ≡ Some y → P) → P
bound None f y e go = absurd (none-some y e)
bound (Some x) f y e go = go x refl e

none_else : {A : Type 0} (b : Bool) (x y : A) → cond b None (Some x) ≡ Some y → (b ≡ false) × (x ≡ y)
none_else true x y e = absurd (none-some y e)
none_else false x y e = (refl, same_Some x y e)

-- ---- bytes that a word lacks

pub lacks_by_test : (byte : ℕ) (text : List ℕ) → list_all (λ b. not (b == byte)) text ≡ true → Lacks byte text
lacks_by_test byte [] e = tt
lacks_by_test byte (b ∷ bs) e =
    let p = and_parts (not (b == byte)) (list_all (λ x. not (x == byte)) bs) e in
    (eqb-false b byte (not-true (b == byte) p.0), lacks_by_test byte bs p.1)

lacks_digits : (byte : ℕ) (ds : List ℕ) → byte < 48 → AllDigits 10 ds → Lacks byte ds
lacks_digits byte [] low h = tt
lacks_digits byte (d ∷ ds) low h = ((λ same. omega (arith, digit_from_value d h.0)), lacks_digits byte ds low h.1)

lacks_decimal : (byte n : ℕ) → byte < 48 → n < 2 ^ 64 → Lacks byte (decimal n)
lacks_decimal byte n low small = lacks_digits byte (decimal n) low (decimal_is_IsNumeral n small).0.1

-- ---- words

cut_found : (byte : ℕ) (text : List ℕ) (parts : List ℕ × List ℕ) → cut byte text ≡ Some parts → (text ≡ parts.0 ++ byte ∷ parts.1) × Lacks byte parts.0
cut_found byte text parts e = subst (IsCut byte text) e (cut_is byte text)

after_again : (word rest : List ℕ) → Lacks 32 word → after word (word ++ 32 ∷ rest) ≡ Some rest
unfolding after
after_again word rest lacks = rw (cut_again 32 word rest lacks, (bytes_eq-Decides word word).1 refl) refl

after_other : (word other rest : List ℕ) → Lacks 32 other → bytes_eq other word ≡ false → after word (other ++ 32 ∷ rest) ≡ None
unfolding after
after_other word other rest lacks differ = rw (cut_again 32 other rest lacks, differ) refl

after_found : (word text rest : List ℕ) → after word text ≡ Some rest → text ≡ word ++ 32 ∷ rest
unfolding after
after_found word text rest e =
    let p = bind_some (cut 32 text) (λ parts. cond (bytes_eq parts.0 word) (Some parts.1) None) rest e in
    let q = cond_some (bytes_eq p.0.0 word) p.0.1 rest p.2 in
    (cut_found 32 text p.0 p.1).0 ∙ ap (λ w. w ++ 32 ∷ p.0.1) ((bytes_eq-Decides p.0.0 word).0 q.0) ∙ ap (λ r. word ++ 32 ∷ r) q.1

short_again : (n : ℕ) → n < 2 ^ 32 → short_natural_of (decimal n) ≡ Some n
unfolding short_natural_of
short_again n small = rw (natural_again n (omega arith), lt-ltb n (2 ^ 32) small) refl

short_found : (n : ℕ) (word : List ℕ) → short_natural_of word ≡ Some n → (word ≡ decimal n) × (n < 2 ^ 32)
unfolding short_natural_of
short_found n word e =
    let p = bind_some (natural_of word) (λ m. cond (nat_lt m (2 ^ 32)) (Some m) None) n e in
    let q = cond_some (nat_lt p.0 (2 ^ 32)) p.0 n p.2 in
    ((natural_found p.0 word p.1).0 ∙ ap decimal q.1, omega (arith, ltb-true p.0 (2 ^ 32) q.0, q.1))

-- ---- signed numbers

positive_again : (n : ℕ) → n < 2 ^ 63 → positive_of (decimal n) ≡ Some (pos n)
unfolding positive_of
positive_again n small = rw (natural_again n (omega arith), lt-ltb n (2 ^ 63) small) refl

positive_found : (v : ℤ) (word : List ℕ) → positive_of word ≡ Some v → (word ≡ signed_decimal v) × FitsSigned w64 v
unfolding positive_of
positive_found v word e =
    let p = bind_some (natural_of word) (λ n. cond (nat_lt n (2 ^ 63)) (Some (pos n)) None) v e in
    let q = cond_some (nat_lt p.0 (2 ^ 63)) (pos p.0) v p.2 in
    let h : (word ≡ signed_decimal (pos p.0)) × FitsSigned w64 (pos p.0) = ((natural_found p.0 word p.1).0, record { sfits = ltb-true p.0 (2 ^ 63) q.0 }) in
    subst (λ z. (word ≡ signed_decimal z) × FitsSigned w64 z) q.1 h

negative_again : (n : ℕ) → n < 2 ^ 63 → negative_of (decimal (suc n)) ≡ Some (negsuc n)
unfolding negative_of
negative_again n small = rw (natural_again (suc n) (omega arith), ne_eqb (suc n) 0 (λ e. omega arith), le-ltb (2 ^ 63) (suc n) (omega arith)) (ap (λ k. Some (negsuc k)) (omega arith))

negative_found : (v : ℤ) (digits : List ℕ) → negative_of digits ≡ Some v → (45 ∷ digits ≡ signed_decimal v) × FitsSigned w64 v
unfolding negative_of
negative_found v digits e =
    let p = bind_some (natural_of digits) (λ n. cond ((n == 0) || nat_lt (2 ^ 63) n) None (Some (negsuc (n - 1)))) v e in
    by_case p.0 (natural_found p.0 digits p.1).0 p.2
  where
    by_case : (n : ℕ) → digits ≡ decimal n → cond ((n == 0) || nat_lt (2 ^ 63) n) None (Some (negsuc (n - 1))) ≡ Some v → (45 ∷ digits ≡ signed_decimal v) × FitsSigned w64 v
    by_case zero is h = absurd (none-some v h)
    by_case (suc n) is h =
        let q = none_else ((suc n == 0) || nat_lt (2 ^ 63) (suc n)) (negsuc (suc n - 1)) v h in
        let small : suc n ≤ 2 ^ 63 = ltb-false (2 ^ 63) (suc n) (or_parts (suc n == 0) (nat_lt (2 ^ 63) (suc n)) q.0).1 in
        let same : negsuc n ≡ v = ap negsuc (omega arith) ∙ q.1 in
        let found : (45 ∷ digits ≡ signed_decimal (negsuc n)) × FitsSigned w64 (negsuc n) = (ap (λ ds. 45 ∷ ds) is, record { sfits = omega arith }) in
        subst (λ z. (45 ∷ digits ≡ signed_decimal z) × FitsSigned w64 z) same found

plain_integer : (word : List ℕ) → 0 < length word → 45 < get_or word 0 0 → integer_of word ≡ positive_of word
unfolding integer_of
plain_integer [] some above = absurd (omega arith)
plain_integer (b ∷ bs) some above = rw (ne_eqb b 45 (λ same. omega (arith, above, same))) refl

integer_again : (v : ℤ) → FitsSigned w64 v → integer_of (signed_decimal v) ≡ Some v
unfolding integer_of
integer_again (negsuc n) fits = negative_again n (omega (arith, fits.sfits))
integer_again (pos n) fits =
    let numeral = (decimal_is_IsNumeral n (omega (arith, fits.sfits))).0 in
    plain_integer (decimal n) numeral.0 (omega (arith, digit_at (decimal n) 0 numeral.1 numeral.0)) ∙ positive_again n (omega (arith, fits.sfits))

integer_found : (v : ℤ) (word : List ℕ) → integer_of word ≡ Some v → (word ≡ signed_decimal v) × FitsSigned w64 v
unfolding integer_of
integer_found v [] e = absurd (none-some v e)
integer_found v (b ∷ bs) e = by_case (b == 45) refl e
  where
    by_case : (t : Bool) → (b == 45) ≡ t → cond t (negative_of bs) (positive_of (b ∷ bs)) ≡ Some v → (b ∷ bs ≡ signed_decimal v) × FitsSigned w64 v
    by_case true is h = let p = negative_found v bs h in (ap (λ x. x ∷ bs) (eqb-true b 45 is) ∙ p.0, p.1)
    by_case false is h = positive_found v (b ∷ bs) h

lacks_integer : (byte : ℕ) (v : ℤ) → byte < 45 → FitsSigned w64 v → Lacks byte (signed_decimal v)
lacks_integer byte (pos n) low fits = lacks_decimal byte n (omega arith) (omega (arith, fits.sfits))
lacks_integer byte (negsuc n) low fits = ((λ same. omega arith), lacks_decimal byte (suc n) (omega arith) (omega (arith, fits.sfits)))

-- ---- bytes in hexadecimal

low_glyph : (d : ℕ) → d < 10 → digit_glyph false d ≡ 48 + d
low_glyph d low = rw (lt-ltb d 10 low) refl

high_glyph : (d : ℕ) → 10 ≤ d → digit_glyph false d ≡ 87 + d
high_glyph d high = rw (le-ltb d 10 high) refl

hex_value_again : (d : ℕ) → d < 16 → hex_value (digit_glyph false d) ≡ Some d
unfolding hex_value
hex_value_again d small = grind (arith, nat_tests)

hex_value_found : (digit d : ℕ) → hex_value digit ≡ Some d → (digit ≡ digit_glyph false d) × (d < 16)
unfolding hex_value
hex_value_found digit d e = by_case (nat_le 48 digit && nat_le digit 57) (nat_le 97 digit && nat_le digit 102) refl refl e
  where
    by_case : (t u : Bool) → (nat_le 48 digit && nat_le digit 57) ≡ t → (nat_le 97 digit && nat_le digit 102) ≡ u
        → cond t (Some (digit - 48)) (cond u (Some (digit - 97 + 10)) None) ≡ Some d → (digit ≡ digit_glyph false d) × (d < 16)
    by_case true u is is' h =
        let p = and_parts (nat_le 48 digit) (nat_le digit 57) is in
        let low = leb-true 48 digit p.0 in let top = leb-true digit 57 p.1 in let same = same_Some (digit - 48) d h in
        (omega (arith, low_glyph d (omega arith)), omega arith)
    by_case false true is is' h =
        let p = and_parts (nat_le 97 digit) (nat_le digit 102) is' in
        let low = leb-true 97 digit p.0 in let top = leb-true digit 102 p.1 in let same = same_Some (digit - 97 + 10) d h in
        (omega (arith, high_glyph d (omega arith)), omega arith)
    by_case false false is is' h = absurd (none-some d h)

unhex_again : (bytes : List ℕ) → AreBytes bytes → unhex (hex bytes) ≡ Some bytes
unhex_again [] h = refl
unhex_again (b ∷ bs) h =
    rw (hex_value_again (b / 16) (omega (arith, h.0)), hex_value_again (b % 16) (omega arith), unhex_again bs h.1) (ap (λ x. Some (x ∷ bs)) (omega arith))

unhex_found : (digits bytes : List ℕ) → unhex digits ≡ Some bytes → (digits ≡ hex bytes) × AreBytes bytes
unhex_found [] bytes e = subst (λ bs. ([] ≡ hex bs) × AreBytes bs) (same_Some [] bytes e) (refl, tt)
unhex_found (d ∷ []) bytes e = absurd (none-some bytes e)
unhex_found (high ∷ low ∷ ds) bytes e =
    let h = bind_some (hex_value high) (λ x. hex_value low >>= λ y. unhex ds >>= λ rest. Some ((16 * x + y) ∷ rest)) bytes e in
    let l = bind_some (hex_value low) (λ y. unhex ds >>= λ rest. Some ((16 * h.0 + y) ∷ rest)) bytes h.2 in
    let r = bind_some (unhex ds) (λ rest. Some ((16 * h.0 + l.0) ∷ rest)) bytes l.2 in
    let is_high = hex_value_found high h.0 h.1 in let is_low = hex_value_found low l.0 l.1 in let is_rest = unhex_found ds r.0 r.1 in
    subst (λ bs. (high ∷ low ∷ ds ≡ hex bs) × AreBytes bs) (same_Some ((16 * h.0 + l.0) ∷ r.0) bytes r.2)
    (pair high low h.0 l.0 ds r.0 is_high is_low is_rest)
  where
    pair : (x y a b : ℕ) (xs bs : List ℕ) → (x ≡ digit_glyph false a) × (a < 16) → (y ≡ digit_glyph false b) × (b < 16) → (xs ≡ hex bs) × AreBytes bs
        → (x ∷ y ∷ xs ≡ hex ((16 * a + b) ∷ bs)) × AreBytes ((16 * a + b) ∷ bs)
    pair x y a b xs bs is_x is_y is_xs =
        let q : (16 * a + b) / 16 ≡ a = omega arith in let m : (16 * a + b) % 16 ≡ b = omega arith in
        (rw (q, m, is_x.0, is_y.0, is_xs.0) refl, (omega arith, is_xs.1))

length_hex : (bytes : List ℕ) → length (hex bytes) ≡ 2 * length bytes
length_hex [] = refl
length_hex (b ∷ bs) = omega (arith, length_hex bs)

lacks_hex : (byte : ℕ) (bytes : List ℕ) → byte < 48 → Lacks byte (hex bytes)
lacks_hex byte [] low = tt
lacks_hex byte (b ∷ bs) low = (above (b / 16), (above (b % 16), lacks_hex byte bs low))
  where
    above : (d : ℕ) → digit_glyph false d ≢ byte
    above d same = ⊎_elim (λ (l : d < 10). omega (arith, low_glyph d l, same)) (λ (h : 10 ≤ d). omega (arith, high_glyph d h, same)) (cases_lt d 10)

-- ---- requests and kinds of faults

request_again : (longest : ℕ) (request : List ℕ) → IsUpTo longest request → AreBytes request → request_of longest (hex request) ≡ Some request
unfolding request_of
request_again longest request fits bytes =
    rw (length_hex request, ne_eqb (2 * length request) 0 (λ e. omega (arith, fits.0)), le-ltb (2 * longest) (2 * length request) (omega (arith, fits.1)))
    (unhex_again request bytes)

request_found : (longest : ℕ) (digits request : List ℕ) → request_of longest digits ≡ Some request
    → (digits ≡ hex request) × IsUpTo longest request × AreBytes request
unfolding request_of
request_found longest digits request e = by_case ((length digits == 0) || nat_lt (2 * longest) (length digits)) refl e
  where
    by_case : (t : Bool) → ((length digits == 0) || nat_lt (2 * longest) (length digits)) ≡ t → cond t None (unhex digits) ≡ Some request
        → (digits ≡ hex request) × IsUpTo longest request × AreBytes request
    by_case true is h = absurd (none-some request h)
    by_case false is h =
        let p = unhex_found digits request h in
        let q = or_parts (length digits == 0) (nat_lt (2 * longest) (length digits)) is in
        let n : length digits ≡ 2 * length request = ap length p.0 ∙ length_hex request in
        let some : length digits ≢ 0 = eqb-false (length digits) 0 q.0 in
        let most = ltb-false (2 * longest) (length digits) q.1 in
        (p.0, (omega arith, omega arith), p.1)

find_passes : {A : Type 0} (p : A → Bool) (xs : List A) (x : A) → find p xs ≡ Some x → p x ≡ true
find_passes p [] x e = absurd (none-some x e)
find_passes p (y ∷ ys) x e = by_case (p y) refl e (find_passes p ys x)
  where
    by_case : (t : Bool) → p y ≡ t → cond t (Some y) (find p ys) ≡ Some x → (find p ys ≡ Some x → p x ≡ true) → p x ≡ true
    by_case true is h later = subst (λ z. p z ≡ true) (same_Some y x h) is
    by_case false is h later = later h

kind_again : (kind : FaultKind) → kind_of (fault_name kind) ≡ Some kind
unfolding kind_of
kind_again SyncTwice = refl
kind_again Overflow = refl
kind_again DivideByZero = refl
kind_again IndexOut = refl
kind_again NullPointer = refl
kind_again StoreFull = refl
kind_again ThreadsFull = refl
kind_again ProcessorsFull = refl
kind_again CallDepth = refl

kind_found : (name : List ℕ) (kind : FaultKind) → kind_of name ≡ Some kind → name ≡ fault_name kind
unfolding kind_of
kind_found name kind e = sym ((bytes_eq-Decides (fault_name kind) name).0 (find_passes (λ k. bytes_eq (fault_name k) name) kinds kind e))

lacks_letters : (byte : ℕ) (text : List ℕ) → byte < 48 → list_all (nat_le 48) text ≡ true → Lacks byte text
lacks_letters byte [] low e = tt
lacks_letters byte (b ∷ bs) low e =
    let p = and_parts (nat_le 48 b) (list_all (nat_le 48) bs) e in
    ((λ same. omega (arith, leb-true 48 b p.0, same)), lacks_letters byte bs low p.1)

name_letters : (kind : FaultKind) → list_all (nat_le 48) (fault_name kind) ≡ true
name_letters SyncTwice = refl
name_letters Overflow = refl
name_letters DivideByZero = refl
name_letters IndexOut = refl
name_letters NullPointer = refl
name_letters StoreFull = refl
name_letters ThreadsFull = refl
name_letters ProcessorsFull = refl
name_letters CallDepth = refl

lacks_name : (byte : ℕ) (kind : FaultKind) → byte < 48 → Lacks byte (fault_name kind)
lacks_name byte kind low = lacks_letters byte (fault_name kind) low (name_letters kind)

-- ---- entries

behind_again : (word : List ℕ) (read : List ℕ → Option Entry) (rest : List ℕ) (other : Option Entry) → Lacks 32 word
    → behind word read (word ++ 32 ∷ rest) other ≡ read rest
behind_again word read rest other lacks = rw (after_again word rest lacks) refl

behind_other : (word before : List ℕ) (read : List ℕ → Option Entry) (rest : List ℕ) (other : Option Entry) → Lacks 32 before → bytes_eq before word ≡ false
    → behind word read (before ++ 32 ∷ rest) other ≡ other
behind_other word before read rest other lacks differ = rw (after_other word before rest lacks differ) refl

-- a line is read behind its word, or as the other readings say
behind_found : {P : Type 0} (word : List ℕ) (read : List ℕ → Option Entry) (text : List ℕ) (other : Option Entry) (e : Entry) → behind word read text other ≡ Some e
    → ((rest : List ℕ) → text ≡ word ++ 32 ∷ rest → read rest ≡ Some e → P) → (other ≡ Some e → P) → P
behind_found {P} word read text other e h here there = by_case (after word text) refl h
  where
    by_case : (o : Option (List ℕ)) → after word text ≡ o → option_map_or read o other ≡ Some e → P
    by_case None is k = there k
    by_case (Some rest) is k = here rest (after_found word text rest is) k

-- the text is the line of the entry
pub record Spells (longest : ℕ) (text : List ℕ) (e : Entry) : Type 0 where
  pub line : text ≡ line e
  pub entry : IsEntry (IsUpTo longest) e

run_again : (p t k : ℕ) → p < 2 ^ 32 → t < 2 ^ 32 → 0 < k → k < 2 ^ 64 → run_of (decimal p ++ 32 ∷ (decimal t ++ 32 ∷ decimal k)) ≡ Some (Run p t k)
unfolding run_of
run_again p t k small_p small_t some_k small_k =
    rw (
      cut_again 32 (decimal p) (decimal t ++ 32 ∷ decimal k) (lacks_decimal 32 p (omega arith) (omega arith)),
      cut_again 32 (decimal t) (decimal k) (lacks_decimal 32 t (omega arith) (omega arith)),
      short_again p small_p,
      short_again t small_t,
      natural_again k small_k,
      ne_eqb k 0 (λ e. omega arith),
    ) refl

-- a word and a space before the rest of a text
spaced : (a b : List ℕ) (text : List ℕ) (parts : List ℕ × List ℕ) → cut 32 text ≡ Some parts → parts.0 ≡ a → parts.1 ≡ b → text ≡ a ++ 32 ∷ b
spaced a b text parts is is_a is_b = (cut_found 32 text parts is).0 ∙ ap (λ w. w ++ 32 ∷ parts.1) is_a ∙ ap (λ r. a ++ 32 ∷ r) is_b

run_found : (longest : ℕ) (text : List ℕ) (e : Entry) → run_of text ≡ Some e → Spells longest (codes "run" ++ 32 ∷ text) e
unfolding run_of
run_found longest text e h =
    bound (cut 32 text) _ e h (λ a is_a h. bound (cut 32 a.1) _ e h (λ b is_b h.
    bound (short_natural_of a.0) _ e h (λ p is_p h. bound (short_natural_of b.0) _ e h (λ t is_t h.
    bound (natural_of b.1) _ e h (λ k is_k h.
    let found_p = short_found p a.0 is_p in let found_t = short_found t b.0 is_t in let found_k = natural_found k b.1 is_k in
    let some = none_else (k == 0) (Run p t k) e h in
    let text_is : text ≡ decimal p ++ 32 ∷ (decimal t ++ 32 ∷ decimal k) =
    spaced (decimal p) (decimal t ++ 32 ∷ decimal k) text a is_a found_p.0 (spaced (decimal t) (decimal k) a.1 b is_b found_t.0 found_k.0) in
    let steps : k ≢ 0 = eqb-false k 0 some.0 in
    let entry : IsEntry (IsUpTo longest) (Run p t k) = record { has_line = omega arith; fits = (found_p.1, found_t.1, found_k.1) } in
    subst (Spells longest (codes "run" ++ 32 ∷ text)) some.1 (record { line = ap (λ r. codes "run" ++ 32 ∷ r) text_is; entry = entry }))))))

serve_again : (longest : ℕ) (p : ℕ) (request : List ℕ) → p < 2 ^ 32 → IsUpTo longest request → AreBytes request
    → serve_of longest (decimal p ++ 32 ∷ hex request) ≡ Some (Serve p request)
unfolding serve_of
serve_again longest p request small fits bytes =
    rw (cut_again 32 (decimal p) (hex request) (lacks_decimal 32 p (omega arith) (omega arith)), short_again p small, request_again longest request fits bytes) refl

serve_found : (longest : ℕ) (text : List ℕ) (e : Entry) → serve_of longest text ≡ Some e → Spells longest (codes "serve" ++ 32 ∷ text) e
unfolding serve_of
serve_found longest text e h =
    bound (cut 32 text) _ e h (λ a is_a h. bound (short_natural_of a.0) _ e h (λ p is_p h. bound (request_of longest a.1) _ e h (λ request is_r h.
    let found_p = short_found p a.0 is_p in let found_r = request_found longest a.1 request is_r in
    let text_is : text ≡ decimal p ++ 32 ∷ hex request = spaced (decimal p) (hex request) text a is_a found_p.0 found_r.0 in
    let entry : IsEntry (IsUpTo longest) (Serve p request) = record { has_line = found_r.1; fits = (found_p.1, found_r.2) } in
    subst (Spells longest (codes "serve" ++ 32 ∷ text)) (same_Some (Serve p request) e h) (record { line = ap (λ r. codes "serve" ++ 32 ∷ r) text_is; entry = entry }))))

make_again : (longest : ℕ) (request : List ℕ) → IsUpTo longest request → AreBytes request → make_of longest (hex request) ≡ Some (Make request)
unfolding make_of
make_again longest request fits bytes = rw (request_again longest request fits bytes) refl

make_found : (longest : ℕ) (text : List ℕ) (e : Entry) → make_of longest text ≡ Some e → Spells longest (codes "make" ++ 32 ∷ text) e
unfolding make_of
make_found longest text e h =
    bound (request_of longest text) _ e h (λ request is_r h.
    let found_r = request_found longest text request is_r in
    let entry : IsEntry (IsUpTo longest) (Make request) = record { has_line = found_r.1; fits = found_r.2 } in
    subst (Spells longest (codes "make" ++ 32 ∷ text)) (same_Some (Make request) e h) (record { line = ap (λ r. codes "make" ++ 32 ∷ r) found_r.0; entry = entry }))

fault_again : (fault : ProgFault) (by : FaultBy) → fault.line < 2 ^ 32 → by.processor < 2 ^ 32 → by.thread < 2 ^ 32
    → fault_of (fault_name fault.kind ++ 32 ∷ (codes "line" ++ 32 ∷ (decimal fault.line ++ 32 ∷ (codes "by" ++ 32 ∷ (decimal by.processor ++ 32 ∷ decimal by.thread)))))
    ≡ Some (End (Fault fault) (Some by))
unfolding fault_of
fault_again fault by small_l small_p small_t =
    let by_rest = decimal by.processor ++ 32 ∷ decimal by.thread in
    let line_rest = decimal fault.line ++ 32 ∷ (codes "by" ++ 32 ∷ by_rest) in
    rw (
      cut_again 32 (fault_name fault.kind) (codes "line" ++ 32 ∷ line_rest) (lacks_name 32 fault.kind (omega arith)),
      after_again (codes "line") line_rest (lacks_by_test 32 (codes "line") refl),
      cut_again 32 (decimal fault.line) (codes "by" ++ 32 ∷ by_rest) (lacks_decimal 32 fault.line (omega arith) (omega arith)),
      after_again (codes "by") by_rest (lacks_by_test 32 (codes "by") refl),
      cut_again 32 (decimal by.processor) (decimal by.thread) (lacks_decimal 32 by.processor (omega arith) (omega arith)),
      kind_again fault.kind,
      short_again fault.line small_l,
      short_again by.processor small_p,
      short_again by.thread small_t,
    ) refl

fault_found : (longest : ℕ) (text : List ℕ) (e : Entry) → fault_of text ≡ Some e → Spells longest (codes "end" ++ 32 ∷ (codes "fault" ++ 32 ∷ text)) e
unfolding fault_of
fault_found longest text e h =
    bound (cut 32 text) _ e h (λ name is_name h. bound (after (codes "line") name.1) _ e h (λ line is_line h.
    bound (cut 32 line) _ e h (λ place is_place h. bound (after (codes "by") place.1) _ e h (λ by is_by h.
    bound (cut 32 by) _ e h (λ names is_names h. bound (kind_of name.0) _ e h (λ k is_k h. bound (short_natural_of place.0) _ e h (λ l is_l h.
    bound (short_natural_of names.0) _ e h (λ p is_p h. bound (short_natural_of names.1) _ e h (λ t is_t h.
    let found_l = short_found l place.0 is_l in let found_p = short_found p names.0 is_p in let found_t = short_found t names.1 is_t in
    let names_are = spaced (decimal p) (decimal t) by names is_names found_p.0 found_t.0 in
    let by_is = after_found (codes "by") place.1 by is_by ∙ ap (λ r. codes "by" ++ 32 ∷ r) names_are in
    let line_is = after_found (codes "line") name.1 line is_line ∙ ap (λ r. codes "line" ++ 32 ∷ r) (spaced (decimal l) _ line place is_place found_l.0 by_is) in
    let text_is = spaced (fault_name k) _ text name is_name (kind_found name.0 k is_k) line_is in
    let entry : IsEntry (IsUpTo longest) (End (Fault (record { kind = k; line = l })) (Some (record { processor = p; thread = t })))
    = record { has_line = refl; fits = (found_l.1, (found_p.1, found_t.1)) } in
    subst (Spells longest (codes "end" ++ 32 ∷ (codes "fault" ++ 32 ∷ text))) (same_Some _ e h)
    (record { line = ap (λ r. codes "end" ++ 32 ∷ (codes "fault" ++ 32 ∷ r)) text_is; entry = entry }))))))))))

-- an end without a thread is read behind its word
ended_found : {A P : Type 0} (standing : A → Standing) (o : Option A) (e : Entry) → ended standing o ≡ Some e → ((x : A) → o ≡ Some x → End (standing x) None ≡ e → P) → P
ended_found standing None e h go = absurd (none-some e h)
ended_found standing (Some x) e h go = go x refl (same_Some (End (standing x) None) e h)

end_found : (longest : ℕ) (text : List ℕ) (e : Entry) → end_of text ≡ Some e → Spells longest (codes "end" ++ 32 ∷ text) e
unfolding end_of
end_found longest text e h =
    behind_found (codes "done") _ text _ e h (λ rest is h. ended_found Done (integer_of rest) e h (λ v is_v same.
    let p = integer_found v rest is_v in
    spells (End (Done v) None) same (ap (λ r. codes "end" ++ 32 ∷ r) (is ∙ ap (λ r. codes "done" ++ 32 ∷ r) p.0)) (record { has_line = refl; fits = (p.1, tt) }))) (λ h.
    behind_found (codes "blocked") _ text _ e h (λ rest is h. ended_found Blocked (natural_of rest) e h (λ k is_k same.
    let p = natural_found k rest is_k in
    spells (End (Blocked k) None) same (ap (λ r. codes "end" ++ 32 ∷ r) (is ∙ ap (λ r. codes "blocked" ++ 32 ∷ r) p.0)) (record { has_line = refl; fits = (p.1, tt) }))) (λ h.
    behind_found (codes "fault") fault_of text _ e h (λ rest is h. subst (λ t. Spells longest (codes "end" ++ 32 ∷ t) e) (sym is) (fault_found longest rest e h)) (λ h.
    behind_found (codes "limit") _ text _ e h (λ rest is h. ended_found Limit (natural_of rest) e h (λ n is_n same.
    let p = natural_found n rest is_n in
    spells (End (Limit n) None) same (ap (λ r. codes "end" ++ 32 ∷ r) (is ∙ ap (λ r. codes "limit" ++ 32 ∷ r) p.0)) (record { has_line = refl; fits = (p.1, tt) }))) (λ h.
    absurd (none-some e h)))))
  where
    spells : (f : Entry) → f ≡ e → codes "end" ++ 32 ∷ text ≡ line f → IsEntry (IsUpTo longest) f → Spells longest (codes "end" ++ 32 ∷ text) e
    spells f same is entry = subst (Spells longest (codes "end" ++ 32 ∷ text)) same (record { line = is; entry = entry })

pub entry_found : (longest : ℕ) (text : List ℕ) (e : Entry) → entry_of longest text ≡ Some e → Spells longest text e
unfolding entry_of
entry_found longest text e h =
    behind_found (codes "run") run_of text _ e h (λ rest is h. subst (λ t. Spells longest t e) (sym is) (run_found longest rest e h)) (λ h.
    behind_found (codes "serve") (serve_of longest) text _ e h (λ rest is h. subst (λ t. Spells longest t e) (sym is) (serve_found longest rest e h)) (λ h.
    behind_found (codes "make") (make_of longest) text _ e h (λ rest is h. subst (λ t. Spells longest t e) (sym is) (make_found longest rest e h)) (λ h.
    behind_found (codes "end") end_of text _ e h (λ rest is h. subst (λ t. Spells longest t e) (sym is) (end_found longest rest e h)) (λ h.
    absurd (none-some e h)))))

-- the line of an end: its word, a space, and what is read as that end
record EndsAs (longest : ℕ) (e : Entry) : Type 0 where
  rest : List ℕ
  line : line e ≡ codes "end" ++ 32 ∷ rest
  read : end_of rest ≡ Some e

end_again : (longest : ℕ) (standing : Standing) (by : Option FaultBy) → IsEntry (IsUpTo longest) (End standing by) → EndsAs longest (End standing by)
unfolding end_of
end_again longest (Done v) None h =
    record {
      rest = codes "done" ++ 32 ∷ signed_decimal v;
      line = refl;
      read = behind_again (codes "done") _ (signed_decimal v) _ (lacks_by_test 32 (codes "done") refl) ∙ ap (ended Done) (integer_again v h.fits.0);
    }
end_again longest (Blocked k) None h =
    record {
      rest = codes "blocked" ++ 32 ∷ decimal k;
      line = refl;
      read = behind_other (codes "done") (codes "blocked") _ (decimal k) _ (lacks_by_test 32 (codes "blocked") refl) refl
          ∙ behind_again (codes "blocked") _ (decimal k) _ (lacks_by_test 32 (codes "blocked") refl) ∙ ap (ended Blocked) (natural_again k h.fits.0);
    }
end_again longest (Fault fault) (Some by) h =
    let rest = fault_name fault.kind ++ 32 ∷ (codes "line" ++ 32 ∷ (decimal fault.line ++ 32 ∷ (codes "by" ++ 32 ∷ (decimal by.processor ++ 32 ∷ decimal by.thread)))) in
    record {
      rest = codes "fault" ++ 32 ∷ rest;
      line = refl;
      read = behind_other (codes "done") (codes "fault") _ rest _ (lacks_by_test 32 (codes "fault") refl) refl
          ∙ behind_other (codes "blocked") (codes "fault") _ rest _ (lacks_by_test 32 (codes "fault") refl) refl
          ∙ behind_again (codes "fault") fault_of rest _ (lacks_by_test 32 (codes "fault") refl) ∙ fault_again fault by h.fits.0 h.fits.1.0 h.fits.1.1;
    }
end_again longest (Limit n) None h =
    record {
      rest = codes "limit" ++ 32 ∷ decimal n;
      line = refl;
      read = behind_other (codes "done") (codes "limit") _ (decimal n) _ (lacks_by_test 32 (codes "limit") refl) refl
          ∙ behind_other (codes "blocked") (codes "limit") _ (decimal n) _ (lacks_by_test 32 (codes "limit") refl) refl
          ∙ behind_other (codes "fault") (codes "limit") fault_of (decimal n) _ (lacks_by_test 32 (codes "limit") refl) refl
          ∙ behind_again (codes "limit") _ (decimal n) _ (lacks_by_test 32 (codes "limit") refl) ∙ ap (ended Limit) (natural_again n h.fits.0);
    }
end_again longest (Done v) (Some by) h = absurd (true≢false h.has_line)
end_again longest (Blocked k) (Some by) h = absurd (true≢false h.has_line)
end_again longest (Fault fault) None h = absurd (true≢false (sym h.has_line))
end_again longest (Limit n) (Some by) h = absurd (true≢false h.has_line)

pub entry_again : (longest : ℕ) (e : Entry) → IsEntry (IsUpTo longest) e → entry_of longest (line e) ≡ Some e
unfolding entry_of
entry_again longest (Run p t k) h =
    behind_again (codes "run") run_of (decimal p ++ 32 ∷ (decimal t ++ 32 ∷ decimal k)) _ (lacks_by_test 32 (codes "run") refl)
    ∙ run_again p t k h.fits.0 h.fits.1 h.has_line h.fits.2
entry_again longest (Serve p request) h =
    let rest = decimal p ++ 32 ∷ hex request in
    behind_other (codes "run") (codes "serve") run_of rest _ (lacks_by_test 32 (codes "serve") refl) refl
    ∙ behind_again (codes "serve") (serve_of longest) rest _ (lacks_by_test 32 (codes "serve") refl)
    ∙ serve_again longest p request h.fits.0 h.has_line h.fits.1
entry_again longest (Make request) h =
    let rest = hex request in
    behind_other (codes "run") (codes "make") run_of rest _ (lacks_by_test 32 (codes "make") refl) refl
    ∙ behind_other (codes "serve") (codes "make") (serve_of longest) rest _ (lacks_by_test 32 (codes "make") refl) refl
    ∙ behind_again (codes "make") (make_of longest) rest _ (lacks_by_test 32 (codes "make") refl)
    ∙ make_again longest request h.has_line h.fits
entry_again longest (End standing by) h =
    let e = end_again longest standing by h in
    ap (entry_of longest) e.line
    ∙ behind_other (codes "run") (codes "end") run_of e.rest _ (lacks_by_test 32 (codes "end") refl) refl
    ∙ behind_other (codes "serve") (codes "end") (serve_of longest) e.rest _ (lacks_by_test 32 (codes "end") refl) refl
    ∙ behind_other (codes "make") (codes "end") (make_of longest) e.rest _ (lacks_by_test 32 (codes "end") refl) refl
    ∙ behind_again (codes "end") end_of e.rest _ (lacks_by_test 32 (codes "end") refl) ∙ e.read

-- ---- a line has no line feed

lacks_append : (byte : ℕ) (xs ys : List ℕ) → Lacks byte xs → Lacks byte ys → Lacks byte (xs ++ ys)
lacks_append byte [] ys h k = k
lacks_append byte (x ∷ xs) ys h k = (h.0, lacks_append byte xs ys h.1 k)

lacks_joined : (ws : List (List ℕ)) → AllByRecursion (Lacks 10) ws → Lacks 10 (join_with_byte 32 ws)
lacks_joined [] h = tt
lacks_joined (w ∷ []) h = h.0
lacks_joined (w ∷ v ∷ ws) h = lacks_append 10 w (32 ∷ join_with_byte 32 (v ∷ ws)) h.0 ((λ same. omega arith), lacks_joined (v ∷ ws) h.1)

lacks_word : (word : List ℕ) → list_all (λ b. not (b == 10)) word ≡ true → Lacks 10 word
lacks_word word e = lacks_by_test 10 word e

lacks_number : (n : ℕ) → n < 2 ^ 64 → Lacks 10 (decimal n)
lacks_number n small = lacks_decimal 10 n (omega arith) small

lacks_words : (allows : List ℕ → Type 0) (e : Entry) → IsEntry allows e → AllByRecursion (Lacks 10) (words e)
lacks_words allows (Run p t k) h =
    (lacks_word (codes "run") refl, (lacks_number p (omega (arith, h.fits.0)), (lacks_number t (omega (arith, h.fits.1)), (lacks_number k h.fits.2, tt))))
lacks_words allows (Serve p request) h = (lacks_word (codes "serve") refl, (lacks_number p (omega (arith, h.fits.0)), (lacks_hex 10 request (omega arith), tt)))
lacks_words allows (Make request) h = (lacks_word (codes "make") refl, (lacks_hex 10 request (omega arith), tt))
lacks_words allows (End (Done v) None) h =
    (lacks_word (codes "end") refl, (lacks_word (codes "done") refl, (lacks_integer 10 v (omega arith) h.fits.0, tt)))
lacks_words allows (End (Blocked k) None) h = (lacks_word (codes "end") refl, (lacks_word (codes "blocked") refl, (lacks_number k h.fits.0, tt)))
lacks_words allows (End (Limit n) None) h = (lacks_word (codes "end") refl, (lacks_word (codes "limit") refl, (lacks_number n h.fits.0, tt)))
lacks_words allows (End (Fault fault) (Some by)) h = (
  lacks_word (codes "end") refl,
  (
    lacks_word (codes "fault") refl,
    (
      lacks_name 10 fault.kind (omega arith),
      (
        lacks_word (codes "line") refl,
        (
          lacks_number fault.line (omega (arith, h.fits.0)),
          (
            lacks_word (codes "by") refl,
            (lacks_number by.processor (omega (arith, h.fits.1.0)), (lacks_number by.thread (omega (arith, h.fits.1.1)), tt)),
          ),
        ),
      ),
    ),
  ),
)
lacks_words allows (End (Done v) (Some by)) h = absurd (true≢false h.has_line)
lacks_words allows (End (Blocked k) (Some by)) h = absurd (true≢false h.has_line)
lacks_words allows (End (Fault fault) None) h = absurd (true≢false (sym h.has_line))
lacks_words allows (End (Limit n) (Some by)) h = absurd (true≢false h.has_line)

pub lacks_line : (allows : List ℕ → Type 0) (e : Entry) → IsEntry allows e → Lacks 10 (line e)
lacks_line allows e h = lacks_joined (words e) (lacks_words allows e h)

-- ---- whatever requests are allowed

-- an entry is one where all its requests are allowed, too
pub entry_weaker : (P Q : List ℕ → Type 0) → ((request : List ℕ) → P request → Q request) → (e : Entry) → IsEntry P e → IsEntry Q e
entry_weaker P Q more (Run p t k) h = record { has_line = h.has_line; fits = h.fits }
entry_weaker P Q more (Serve p request) h = record { has_line = more request h.has_line; fits = h.fits }
entry_weaker P Q more (Make request) h = record { has_line = more request h.has_line; fits = h.fits }
entry_weaker P Q more (End standing by) h = record { has_line = h.has_line; fits = h.fits }

abbrev request_len : Entry → ℕ
request_len (Run p t k) = 0
request_len (Serve p request) = length request
request_len (Make request) = length request
request_len (End standing by) = 0

sized : (P : List ℕ → Type 0) → ((request : List ℕ) → P request → 0 < length request) → (n : ℕ) (e : Entry) → request_len e ≤ n → IsEntry P e → IsEntry (IsUpTo n) e
sized P some n (Run p t k) small h = record { has_line = h.has_line; fits = h.fits }
sized P some n (Serve p request) small h = record { has_line = (some request h.has_line, small); fits = h.fits }
sized P some n (Make request) small h = record { has_line = (some request h.has_line, small); fits = h.fits }
sized P some n (End standing by) small h = record { has_line = h.has_line; fits = h.fits }

-- no two entries have one line
pub one_entry : (P : List ℕ → Type 0) → ((request : List ℕ) → P request → 0 < length request) → (e f : Entry) → IsEntry P e → IsEntry P f → line e ≡ line f → e ≡ f
one_entry P some e f is_e is_f same =
    let n = request_len e + request_len f in
    let of_e = entry_again n e (sized P some n e (omega arith) is_e) in
    let of_f = entry_again n f (sized P some n f (omega arith) is_f) in
    same_Some e f (sym of_e ∙ ap (entry_of n) same ∙ of_f)
