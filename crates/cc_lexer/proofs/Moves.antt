-- At each place a text has one thing next: a blank, a token, a fault or its end.
use Rattle.std.proofs.Common.{◌≡◌, ◌≢◌, ℕ, zero, suc, ◌+◌, ◌<◌, ◌≤◌, Bool, true, false, ◌&&◌, ◌==◌, cond, [], ◌∷◌, ◌++◌, length, take, drop, pos, ◌≤ℤ◌, ◌<ℤ◌, ◌⊎◌, inl, inr, refl, ap, sym, ◌∙◌, arith}
use Rattle.std.proofs.lemmas.Bool.{and_parts, eqb-true, false_from_ne_true}
use Rattle.std.proofs.lemmas.Bool.Decides.{nat_tests}
use Rattle.std.proofs.lemmas.Int.{ints}
use Rattle.std.specs.Prelude.{codes, IsTrue}
use Rattle.cc_lexer.specs.declared.token.TokenKind.{TokenKind}
use Rattle.cc_lexer.specs.declared.token.TokenKind.TheVariants.{Name, Int, Str, Word, Mark as Marked}
use Rattle.cc_lexer.specs.declared.fault.LexFault.{LexFault}
use Rattle.cc_lexer.specs.declared.fault.LexFault.TheVariants.{BadByte, OpenComment, OpenString, LongName, NumberTooLarge}
use Rattle.cc_lexer.specs.Spelling.{Text, is_inside, is_letter, is_digit, Spells}
use Rattle.cc_lexer.specs.Cut.{Begins, HasNoPlace, is_blank, is_line_feed, line_length, is_indent, IsFirstPlace, IsBlank, byte, line_comment, comment, include_line, Stands, IsLongest, NoneStands, IsWithinLimits, longest_name, largest_number}
use Rattle.cc_lexer.specs.Faults.{goes_on, is_line_end, BreaksOff, IsFault, open_comment, open_string, long_name, large_number, bad_inside, bad_byte}
use Rattle.cc_lexer.specs.declared.class.Class.{Class}
use Rattle.cc_lexer.specs.declared.class.Class.TheVariants as class
use Rattle.cc_lexer.specs.Next.{byte_class, class_at}
use Rattle.cc_lexer.proofs.Classes.{class_of, spelled_class}
use Rattle.cc_lexer.proofs.OneKind.{one_kind}
use Rattle.cc_lexer.proofs.Insides.{inside_once, string_size, string_parts, quote_halts}

-- what a text has next
pub data Move : Type 0 where
  ends : Move
  skips : ℕ → Move
  takes : TokenKind → ℕ → Move
  fails : LexFault → Move

-- ---- the class of a text

pub unslashed : (b : ℕ) (rest : Text) → (b == 47) ≡ false → class_at (b ∷ rest) ≡ byte_class b
unslashed b [] h = refl
unslashed b (c ∷ bs) h = rw h refl

blank_slash : (b : ℕ) → is_blank b ≡ true → (b == 47) ≡ false
blank_slash b h = grind (arith, nat_tests)

pub blank_class : (b : ℕ) (rest : Text) → is_blank b ≡ true → class_at (b ∷ rest) ≡ class.Blank
blank_class b rest h = unslashed b rest (blank_slash b h) ∙ rw h refl

no_class : (kind : TokenKind) → class.End ≡ class_of kind → ⊥
no_class Name h = cc
no_class _ h = cc

uncommented : (b c : ℕ) (bs : Text) → (Begins (b ∷ c ∷ bs) (codes "//") → ⊥) → (Begins (b ∷ c ∷ bs) (codes "/*") → ⊥) → class_at (b ∷ c ∷ bs) ≡ byte_class b
uncommented b c bs h i = go (b == 47 && c == 47) refl (b == 47 && c == 42) refl
  where
    two : (n : ℕ) → (b == 47 && c == n) ≡ true → Begins (b ∷ c ∷ bs) (47 ∷ n ∷ [])
    two n e = let w = and_parts (b == 47) (c == n) e in (bs, let p = eqb-true b 47 w.0 in let q = eqb-true c n w.1 in cc)

    go : (x : Bool) → (b == 47 && c == 47) ≡ x → (y : Bool) → (b == 47 && c == 42) ≡ y → class_at (b ∷ c ∷ bs) ≡ byte_class b
    go true e y f = absurd (h (two 47 e))
    go false e true f = absurd (i (two 42 f))
    go false e false f = rw (e, f) refl

pub stands_class : (here : Text) (kind : TokenKind) (n : ℕ) → Stands here kind n → class_at here ≡ class_of kind
stands_class [] kind zero h = absurd (no_class kind (spelled_class kind [] h.spelled))
stands_class [] kind (suc n) h = absurd (no_class kind (spelled_class kind [] h.spelled))
stands_class (b ∷ bs) kind zero h = absurd (no_class kind (spelled_class kind [] h.spelled))
stands_class (b ∷ []) kind (suc n) h = spelled_class kind (b ∷ take n []) h.spelled
stands_class (b ∷ c ∷ bs) kind (suc n) h = uncommented b c bs h.no_line_comment h.no_comment ∙ spelled_class kind (b ∷ take n (c ∷ bs)) h.spelled

-- ---- what each class settles

-- what is next where a string has this many bytes within, and then this rest
abbrev pub after_inside : ℕ → ℕ → Text → Move
after_inside at n [] = fails (OpenString at)
after_inside at n (b ∷ bs) = cond (b == 34) (takes Str (n + 2)) (cond (is_line_feed b) (fails (OpenString at)) (fails (BadByte (at + 1 + n))))

-- what is next where this is the longest token
abbrev pub Judged : ℕ → TokenKind → ℕ → Move → Type 0
Judged at Name n m = ((n ≤ longest_name) × (m ≡ takes Name n)) ⊎ ((longest_name < n) × (m ≡ fails (LongName at)))
Judged at (Int v) n m = ((v ≤ℤ pos largest_number) × (m ≡ takes (Int v) n)) ⊎ ((pos largest_number <ℤ v) × (m ≡ fails (NumberTooLarge at)))
Judged at kind n m = m ≡ takes kind n

module _ (before here : Text) where
  abbrev pub place : ℕ
  place = length before

  abbrev pub IsIncludeLine : Type 0
  IsIncludeLine = Begins here (codes "#include") × IsTrue (is_indent before)

  abbrev pub Closes : Move → Type 0
  Closes m = ((n : ℕ) × IsFirstPlace (codes "*/") (drop 2 here) n × (m ≡ skips (n + 4))) ⊎ (HasNoPlace (codes "*/") (drop 2 here) × (m ≡ fails (OpenComment place)))

  abbrev pub Includes : Move → Type 0
  Includes m = (IsIncludeLine × (m ≡ skips (line_length here))) ⊎ ((IsIncludeLine → ⊥) × (m ≡ fails (BadByte place)))

  pub record Quoted (m : Move) : Type 0 where
    pub inside : Text
    pub rest : Text
    pub parts : here ≡ codes "\"" ++ inside ++ rest
    pub sound : is_inside inside ≡ true
    pub halts : goes_on rest ≡ false
    pub move : m ≡ after_inside place (length inside) rest

  pub record Takes (m : Move) : Type 0 where
    pub kind : TokenKind
    pub size : ℕ
    pub longest : IsLongest here kind size
    pub judged : Judged place kind size m

  abbrev pub Settled : Class → Move → Type 0
  Settled class.End m = m ≡ ends
  Settled class.Blank m = m ≡ skips 1
  Settled class.LineComment m = m ≡ skips (line_length here)
  Settled class.Comment m = Closes m
  Settled class.Hash m = Includes m
  Settled class.Quote m = Quoted m
  Settled _ m = Takes m ⊎ (NoneStands here × (m ≡ fails (BadByte place)))

  -- ---- each class settles one move

  closes_once : (m n : Move) → Closes m → Closes n → m ≡ n
  closes_once m n (inl h) (inl i) = let e : h.0 ≡ i.0 = omega (arith, h.1.first i.0 i.1.found, i.1.first h.0 h.1.found) in cc
  closes_once m n (inl h) (inr i) = absurd (i.0 h.0 h.1.found)
  closes_once m n (inr h) (inl i) = absurd (h.0 i.0 i.1.found)
  closes_once m n (inr h) (inr i) = cc

  includes_once : (m n : Move) → Includes m → Includes n → m ≡ n
  includes_once m n (inl h) (inl i) = cc
  includes_once m n (inl h) (inr i) = absurd (i.0 h.0)
  includes_once m n (inr h) (inl i) = absurd (h.0 i.0)
  includes_once m n (inr h) (inr i) = cc

  quoted_once : (m n : Move) → Quoted m → Quoted n → m ≡ n
  quoted_once m n h i =
      let e : 34 ∷ (h.inside ++ h.rest) ≡ 34 ∷ (i.inside ++ i.rest) = sym h.parts ∙ i.parts in
      let w = inside_once h.inside i.inside h.rest i.rest h.sound i.sound h.halts i.halts cc in
      cc (h.move, i.move, w.0, w.1)

  judged_once : (kind : TokenKind) (k : ℕ) (m n : Move) → Judged place kind k m → Judged place kind k n → m ≡ n
  judged_once Name k m n (inl h) (inl i) = cc
  judged_once Name k m n (inl h) (inr i) = absurd (omega (arith, h.0, i.0))
  judged_once Name k m n (inr h) (inl i) = absurd (omega (arith, h.0, i.0))
  judged_once Name k m n (inr h) (inr i) = cc
  judged_once (Int v) k m n (inl h) (inl i) = cc
  judged_once (Int v) k m n (inl h) (inr i) = absurd (omega (arith, ints, h.0, i.0))
  judged_once (Int v) k m n (inr h) (inl i) = absurd (omega (arith, ints, h.0, i.0))
  judged_once (Int v) k m n (inr h) (inr i) = cc
  judged_once Str k m n h i = cc
  judged_once (Word w) k m n h i = cc
  judged_once (Marked w) k m n h i = cc

  takes_once : (m n : Move) → Takes m → Takes n → m ≡ n
  takes_once m n h i =
      let k : i.size ≡ h.size = omega (arith, h.longest.longest i.kind i.size i.longest.stands, i.longest.longest h.kind h.size h.longest.stands) in
      let s = i.longest.stands.spelled in
      let t : Spells i.kind (take h.size here) = rw k at s in
      let e : i.kind ≡ h.kind = one_kind i.kind h.kind (take h.size here) t h.longest.stands.spelled in
      let j = i.judged in
      judged_once h.kind h.size m n h.judged (rw (k, e) at j)

  token_once : (m n : Move) → Takes m ⊎ (NoneStands here × (m ≡ fails (BadByte place))) → Takes n ⊎ (NoneStands here × (n ≡ fails (BadByte place))) → m ≡ n
  token_once m n (inl h) (inl i) = takes_once m n h i
  token_once m n (inl h) (inr i) = absurd (i.0 h.kind h.size h.longest.stands)
  token_once m n (inr h) (inl i) = absurd (h.0 i.kind i.size i.longest.stands)
  token_once m n (inr h) (inr i) = cc

  pub settled_once : (c : Class) (m n : Move) → Settled c m → Settled c n → m ≡ n
  settled_once class.End m n h i = cc
  settled_once class.Blank m n h i = cc
  settled_once class.LineComment m n h i = cc
  settled_once class.Comment m n h i = closes_once m n h i
  settled_once class.Hash m n h i = includes_once m n h i
  settled_once class.Quote m n h i = quoted_once m n h i
  settled_once class.Letter m n h i = token_once m n h i
  settled_once class.Digit m n h i = token_once m n h i
  settled_once class.Other m n h i = token_once m n h i

-- ---- a blank, a token and a fault are what is settled

pub blank_settled : (before here : Text) (n : ℕ) → IsBlank before here n → Settled before here (class_at here) (skips n)
blank_settled before here _ (byte {b} {rest} e h) = rw (ap class_at e ∙ blank_class b rest h) refl
blank_settled before here _ (line_comment h) = rw (ap class_at h.1) refl
blank_settled before here _ (comment {n} h i) = rw (ap class_at h.1) (inl (n, i, refl))
blank_settled before here _ (include_line h i) = rw (ap class_at h.1) (inl ((h, i), refl))

taken : (before here : Text) (kind : TokenKind) (n : ℕ) (m : Move) → kind ≢ Str → IsLongest here kind n → Judged (length before) kind n m → Settled before here (class_at here) m
taken before here kind n m not_string h j = rw (stands_class here kind n h.stands) (go kind not_string (inl (record { kind = kind; size = n; longest = h; judged = j })))
  where
    go : (k : TokenKind) → k ≢ Str → Takes before here m ⊎ (NoneStands here × (m ≡ fails (BadByte (length before)))) → Settled before here (class_of k) m
    go Str apart t = absurd (apart refl)
    go Name apart t = t
    go (Int v) apart t = t
    go (Word w) apart t = t
    go (Marked x) apart t = t

quoted : (before here : Text) (n : ℕ) → Stands here Str n → Settled before here (class_at here) (takes Str n)
quoted before here n h =
    let s = h.spelled in
    rw (stands_class here Str n h) (record { inside = s.0; rest = codes "\"" ++ drop n here; parts = string_parts here s.0 n s.2; sound = s.1; halts = quote_halts (drop n here); move = ap (takes Str) (string_size here s.0 n h.within s.2) })

pub token_settled : (before here : Text) (n : ℕ) (kind : TokenKind) → IsLongest here kind n → IsWithinLimits kind n → Settled before here (class_at here) (takes kind n)
token_settled before here n Name h i = taken before here Name n _ (λ e. cc) h (inl (i, refl))
token_settled before here n (Int v) h i = taken before here (Int v) n _ (λ e. cc) h (inl (i, refl))
token_settled before here n Str h i = quoted before here n h.stands
token_settled before here n (Word w) h i = taken before here (Word w) n _ (λ e. cc) h refl
token_settled before here n (Marked m) h i = taken before here (Marked m) n _ (λ e. cc) h refl

broken : (before here inside rest : Text) (m : Move) → BreaksOff here inside rest → m ≡ after_inside (length before) (length inside) rest → Settled before here (class_at here) m
broken before here inside rest m h e =
    rw (ap class_at h.parts ∙ unslashed 34 (inside ++ rest) refl) (record { inside = inside; rest = rest; parts = h.parts; sound = h.sound; halts = h.stops; move = e })

no_quote : (b : ℕ) (rest : Text) → (Begins (b ∷ rest) (codes "\"") → ⊥) → (b == 34) ≡ false
no_quote b rest h = false_from_ne_true (b == 34) (λ e. h (rest, ap (λ c. c ∷ rest) (eqb-true b 34 e)))

at_line_end : (at n : ℕ) (rest : Text) → (Begins rest (codes "\"") → ⊥) → is_line_end rest ≡ true → fails (OpenString at) ≡ after_inside at n rest
at_line_end at n [] h i = refl
at_line_end at n (b ∷ bs) h i = rw (no_quote b bs h, i) refl

at_bad_byte : (at n : ℕ) (rest : Text) → (Begins rest (codes "\"") → ⊥) → is_line_end rest ≡ false → fails (BadByte (at + 1 + n)) ≡ after_inside at n rest
at_bad_byte at n [] h i = cc
at_bad_byte at n (b ∷ bs) h i = rw (no_quote b bs h, i) refl

-- what is known where a byte begins neither a blank, a comment, a string nor a token
module _ (before here : Text) (some : 0 < length here) (no_blank : (n : ℕ) → IsBlank before here n → ⊥) (no_token : NoneStands here) (no_comment : Begins here (codes "/*") → ⊥) (no_string : Begins here (codes "\"") → ⊥) where
  abbrev BadMove : Class → Type 0
  BadMove c = Settled before here c (fails (BadByte (length before)))

  by_byte : (b : ℕ) (rest : Text) → here ≡ b ∷ rest → BadMove (byte_class b)
  by_byte b rest e = go (is_blank b) refl (b == 35) refl (b == 34) refl
    where
      others : BadMove (cond (is_letter b) class.Letter (cond (is_digit b) class.Digit class.Other))
      others = by_letter (is_letter b) (is_digit b)
        where
          by_letter : (x y : Bool) → BadMove (cond x class.Letter (cond y class.Digit class.Other))
          by_letter true y = inr (no_token, refl)
          by_letter false true = inr (no_token, refl)
          by_letter false false = inr (no_token, refl)

      go : (x : Bool) → is_blank b ≡ x → (y : Bool) → (b == 35) ≡ y → (z : Bool) → (b == 34) ≡ z → BadMove (cond x class.Blank (cond y class.Hash (cond z class.Quote (cond (is_letter b) class.Letter (cond (is_digit b) class.Digit class.Other)))))
      go true f y g z k = absurd (no_blank 1 (byte e f))
      go false f true g z k = inr ((λ w. no_blank _ (include_line w.0 w.1)), refl)
      go false f false g true k = absurd (no_string (rest, e ∙ ap (λ c. c ∷ rest) (eqb-true b 34 k)))
      go false f false g false k = others

  by_bytes : (t : Text) → here ≡ t → BadMove (class_at t)
  by_bytes [] e = absurd (omega (arith, ap length e))
  by_bytes (b ∷ []) e = by_byte b [] e
  by_bytes (b ∷ c ∷ bs) e = go (b == 47 && c == 47) refl (b == 47 && c == 42) refl
    where
      two : (n : ℕ) → (b == 47 && c == n) ≡ true → Begins here (47 ∷ n ∷ [])
      two n f = let w = and_parts (b == 47) (c == n) f in (bs, let p = eqb-true b 47 w.0 in let q = eqb-true c n w.1 in cc)

      go : (x : Bool) → (b == 47 && c == 47) ≡ x → (y : Bool) → (b == 47 && c == 42) ≡ y → BadMove (cond x class.LineComment (cond y class.Comment (byte_class b)))
      go true f y g = absurd (no_blank _ (line_comment (two 47 f)))
      go false f true g = absurd (no_comment (two 42 g))
      go false f false g = by_byte b (c ∷ bs) e

  pub bad_settled : BadMove (class_at here)
  bad_settled = by_bytes here refl

pub fault_settled : (before here : Text) (fault : LexFault) → IsFault before here fault → Settled before here (class_at here) (fails fault)
fault_settled before here _ (open_comment h i) = rw (ap class_at h.1) (inr (i, refl))
fault_settled before here _ (open_string {inside} {rest} h i) = broken before here inside rest _ h (at_line_end (length before) (length inside) rest h.not_closed i)
fault_settled before here _ (long_name {n} h i) = taken before here Name n _ (λ e. cc) h (inr (i, refl))
fault_settled before here _ (large_number {value} {n} h i) = taken before here (Int value) n _ (λ e. cc) h (inr (i, refl))
fault_settled before here _ (bad_inside {inside} {rest} h i) = broken before here inside rest _ h (at_bad_byte (length before) (length inside) rest h.not_closed i)
fault_settled before here _ (bad_byte h i j k l) = bad_settled before here h i j k l
