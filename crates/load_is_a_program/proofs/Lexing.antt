-- A text that is given piece by piece is cut into the tokens of its pieces.
use Rattle.std.proofs.Common.{◌≡◌, ◌≢◌, ℕ, ◌+◌, ◌-◌, ◌≤◌, Bool, true, false, not, ◌&&◌, ◌||◌, ◌==◌, List, [], ◌∷◌, ◌++◌, length, take, drop, pos, refl, ap, sym, subst, ◌∙◌, arith, length-append, append_assoc}
use Rattle.std.proofs.lemmas.Bool.{and_parts, eqb-true, leb-true, not-true}
use Rattle.std.proofs.lemmas.Bool.Decides.{nat_tests}
use Rattle.std.proofs.lemmas.List.{take_at, drop_at, drop-drop, map-append, append-nil, get_or-drop}
use Rattle.std.specs.Prelude.{codes, nat_le, Ok, get_or, bytes_eq}
use Rattle.std.specs.List.{list_all, prefix_len}
use Rattle.cc_lexer.specs.declared.class.Class.{Class}
use Rattle.cc_lexer.specs.declared.class.Class.TheVariants as class
use Rattle.cc_lexer.specs.declared.piece.Piece.TheVariants as piece
use Rattle.cc_lexer.specs.declared.token.Keyword.{Keyword}
use Rattle.cc_lexer.specs.declared.token.Keyword.TheVariants as keyword
use Rattle.cc_lexer.specs.declared.token.Mark.{Mark}
use Rattle.cc_lexer.specs.declared.token.Mark.TheVariants as mark
use Rattle.cc_lexer.specs.declared.token.Token.{Token}
use Rattle.cc_lexer.specs.declared.token.TokenKind.{TokenKind}
use Rattle.cc_lexer.specs.declared.token.TokenKind.TheVariants.{Name, Int, Str, Word, Mark as Marked}
use Rattle.cc_lexer.specs.Spelling.{Text, is_digit, is_word_byte, is_number, is_inside, decimal_value, keyword_text, mark_text}
use Rattle.cc_lexer.specs.Faults.{goes_on}
use Rattle.cc_lexer.specs.Cut.{is_blank, byte, longest_text, longest_name, largest_number, Cut}
use Rattle.cc_lexer.specs.Keywords.{keywords}
use Rattle.cc_lexer.specs.Lexemes.{Lexeme, lexemes, token_text}
use Rattle.cc_lexer.specs.Next.{class_at, IsNext}
use Rattle.cc_lexer.proofs.Longest.{keyword_next, name_next, number_next, number_passes}
use Rattle.cc_lexer.proofs.MarkFronts.{double_next, single_next}
use Rattle.cc_lexer.proofs.Strings.{string_next}
use Rattle.cc_lexer.proofs.Classes.{digit_class}
use Rattle.cc_lexer.proofs.Moves.{unslashed}
use Rattle.cc_lexer.proofs.Insides.{quote_halts}
use Rattle.cc_lexer.proofs.Fronts.{front_most}
use Rattle.cc_lexer.proofs.Steps.{IsRead, nothing_read, blank_read, token_read, all_read, feeds}

abbrev pub Lexemes : Type 0
Lexemes = List Lexeme

-- ---- pieces

pub data Part : Type 0 where
  space : ℕ → Part
  word : Keyword → Part
  symbol : Mark → Part
  name : Text → Part
  number : Text → Part
  -- by what stands between its quotes
  string : Text → Part

abbrev pub quoted : Text → Text
quoted inside = codes "\"" ++ inside ++ codes "\""

abbrev pub part_text : Part → Text
part_text (space b) = b ∷ []
part_text (word w) = keyword_text w
part_text (symbol m) = mark_text m
part_text (name t) = t
part_text (number t) = t
part_text (string t) = quoted t

abbrev pub text_of : List Part → Text
text_of [] = []
text_of (p ∷ ps) = part_text p ++ text_of ps

abbrev pub lexeme : TokenKind → Text → ℕ → Lexeme
lexeme kind text line = record { kind = kind; text = text; line = line }

-- the tokens of pieces of which the first stands in this line
abbrev pub lexemes_of : (line : ℕ) → List Part → Lexemes
lexemes_of line [] = []
lexemes_of line (space b ∷ ps) = lexemes_of (line + feeds (b ∷ [])) ps
lexemes_of line (word w ∷ ps) = lexeme (Word w) (keyword_text w) line ∷ lexemes_of line ps
lexemes_of line (symbol m ∷ ps) = lexeme (Marked m) (mark_text m) line ∷ lexemes_of line ps
lexemes_of line (name t ∷ ps) = lexeme Name t line ∷ lexemes_of line ps
lexemes_of line (number t ∷ ps) = lexeme (Int (pos (decimal_value t))) t line ∷ lexemes_of line ps
lexemes_of line (string t ∷ ps) = lexeme Str (quoted t) line ∷ lexemes_of line ps

-- ---- which pieces may stand before a rest

abbrev is_letter_class : Class → Bool
is_letter_class class.Letter = true
is_letter_class _ = false

abbrev is_other_class : Class → Bool
is_other_class class.Other = true
is_other_class _ = false

abbrev is_quote_class : Class → Bool
is_quote_class class.Quote = true
is_quote_class _ = false

letter_is : (c : Class) → is_letter_class c ≡ true → c ≡ class.Letter
letter_is class.Letter h = refl
letter_is _ h = cc

other_is : (c : Class) → is_other_class c ≡ true → c ≡ class.Other
other_is class.Other h = refl
other_is _ h = cc

quote_is : (c : Class) → is_quote_class c ≡ true → c ≡ class.Quote
quote_is class.Quote h = refl
quote_is _ h = cc

abbrev is_no_keyword : Text → Bool
is_no_keyword t = list_all (λ w. not (bytes_eq t (keyword_text w))) keywords

no_keyword : (t : Text) → is_no_keyword t ≡ true → (w : Keyword) → t ≢ keyword_text w
no_keyword t h keyword.Atomic e = let i : false ≡ true = subst (λ u. is_no_keyword u ≡ true) e h in cc
no_keyword t h _ e = let i : false ≡ true = subst (λ u. is_no_keyword u ≡ true) e h in cc

abbrev marks : List Mark
marks =
    mark.Arrow ∷ mark.Equal ∷ mark.NotEqual ∷ mark.LessEqual ∷ mark.GreaterEqual ∷ mark.And ∷ mark.Or ∷ mark.LessLess ∷ mark.PlusPlus ∷ mark.MinusMinus
    ∷ mark.PlusAssign ∷ mark.MinusAssign ∷ mark.StarAssign ∷ mark.SlashAssign ∷ mark.PercentAssign ∷ []

-- the text is no mark of two bytes
abbrev is_no_double : Text → Bool
is_no_double t = list_all (λ m. not (bytes_eq t (mark_text m))) marks

no_double : (t : Text) → is_no_double t ≡ true → (m : Mark) → (length (mark_text m) ≡ 2) × (t ≡ mark_text m) → ⊥
no_double t h mark.Arrow e = let i : false ≡ true = subst (λ u. is_no_double u ≡ true) e.1 h in cc
no_double t h mark.Equal e = let i : false ≡ true = subst (λ u. is_no_double u ≡ true) e.1 h in cc
no_double t h mark.NotEqual e = let i : false ≡ true = subst (λ u. is_no_double u ≡ true) e.1 h in cc
no_double t h mark.LessEqual e = let i : false ≡ true = subst (λ u. is_no_double u ≡ true) e.1 h in cc
no_double t h mark.GreaterEqual e = let i : false ≡ true = subst (λ u. is_no_double u ≡ true) e.1 h in cc
no_double t h mark.And e = let i : false ≡ true = subst (λ u. is_no_double u ≡ true) e.1 h in cc
no_double t h mark.Or e = let i : false ≡ true = subst (λ u. is_no_double u ≡ true) e.1 h in cc
no_double t h mark.LessLess e = let i : false ≡ true = subst (λ u. is_no_double u ≡ true) e.1 h in cc
no_double t h mark.PlusPlus e = let i : false ≡ true = subst (λ u. is_no_double u ≡ true) e.1 h in cc
no_double t h mark.MinusMinus e = let i : false ≡ true = subst (λ u. is_no_double u ≡ true) e.1 h in cc
no_double t h mark.PlusAssign e = let i : false ≡ true = subst (λ u. is_no_double u ≡ true) e.1 h in cc
no_double t h mark.MinusAssign e = let i : false ≡ true = subst (λ u. is_no_double u ≡ true) e.1 h in cc
no_double t h mark.StarAssign e = let i : false ≡ true = subst (λ u. is_no_double u ≡ true) e.1 h in cc
no_double t h mark.SlashAssign e = let i : false ≡ true = subst (λ u. is_no_double u ≡ true) e.1 h in cc
no_double t h mark.PercentAssign e = let i : false ≡ true = subst (λ u. is_no_double u ≡ true) e.1 h in cc
no_double t h _ e = let i : 1 ≡ 2 = e.0 in absurd (omega (arith, i))

-- the text begins with a digit
abbrev heads_digit : Text → Bool
heads_digit [] = false
heads_digit (b ∷ bs) = is_digit b

abbrev word_fits : Text → Text → Bool
word_fits t here = is_letter_class (class_at here) && length t == prefix_len is_word_byte here

abbrev symbol_fits : Text → Text → Bool
symbol_fits t here = is_other_class (class_at here) && (length t == 2 || (length t == 1 && is_no_double (take 2 here)))

abbrev fits : Part → (rest : Text) → Bool
fits (space b) rest = is_blank b
fits (word w) rest = word_fits (keyword_text w) (keyword_text w ++ rest)
fits (symbol m) rest = symbol_fits (mark_text m) (mark_text m ++ rest)
fits (name t) rest = word_fits t (t ++ rest) && (is_no_keyword t && nat_le (length t) longest_name)
fits (number t) rest = not (heads_digit rest) && (is_number t && nat_le (decimal_value t) largest_number)
fits (string t) rest = is_inside t

abbrev pub all_fit : List Part → Bool
all_fit [] = true
all_fit (p ∷ ps) = fits p (text_of ps) && all_fit ps

-- ---- what each piece is next

space_next : (before : Text) (b : ℕ) (rest : Text) → is_blank b ≡ true → IsNext before (b ∷ rest) (Ok (piece.Blank 1 (feeds (b ∷ []))))
space_next before b rest h = (byte refl h, refl)

word_next : (before : Text) (w : Keyword) (rest : Text) → fits (word w) rest ≡ true → IsNext before (keyword_text w ++ rest) (Ok (piece.Token (Word w) (length (keyword_text w))))
word_next before w rest h =
    let t = keyword_text w in
    let p = and_parts (is_letter_class (class_at (t ++ rest))) (length t == prefix_len is_word_byte (t ++ rest)) h in
    keyword_next before (t ++ rest) (length t) (letter_is (class_at (t ++ rest)) p.0) (eqb-true (length t) (prefix_len is_word_byte (t ++ rest)) p.1) w (take_at t rest (length t) refl)

named_next : (before t rest : Text) → fits (name t) rest ≡ true → IsNext before (t ++ rest) (Ok (piece.Token Name (length t)))
named_next before t rest h =
    let p = and_parts (word_fits t (t ++ rest)) (is_no_keyword t && nat_le (length t) longest_name) h in
    let q = and_parts (is_letter_class (class_at (t ++ rest))) (length t == prefix_len is_word_byte (t ++ rest)) p.0 in
    let r = and_parts (is_no_keyword t) (nat_le (length t) longest_name) p.1 in
    name_next before (t ++ rest) (length t) (letter_is (class_at (t ++ rest)) q.0) (eqb-true (length t) (prefix_len is_word_byte (t ++ rest)) q.1)
    (λ w e. no_keyword t r.0 w (sym (take_at t rest (length t) refl) ∙ e)) (leb-true (length t) longest_name r.1)

first_byte : (t rest : Text) → length t ≡ 1 → get_or (t ++ rest) 0 0 ∷ [] ≡ t
first_byte [] rest h = absurd (omega (arith, h))
first_byte (b ∷ []) rest h = refl
first_byte (b ∷ c ∷ cs) rest h = absurd (omega (arith, h))

module _ (before : Text) (m : Mark) (rest : Text) where
  abbrev sign : Text
  sign = mark_text m

  abbrev signed : Text
  signed = mark_text m ++ rest

  symbol_next : fits (symbol m) rest ≡ true → IsNext before signed (Ok (piece.Token (Marked m) (length sign)))
  symbol_next h =
      let p = and_parts (is_other_class (class_at signed)) (length sign == 2 || (length sign == 1 && is_no_double (take 2 signed))) h in
      go (other_is (class_at signed) p.0) (length sign == 2) refl p.1
    where
      go : class_at signed ≡ class.Other → (x : Bool) → (length sign == 2) ≡ x → (x || (length sign == 1 && is_no_double (take 2 signed))) ≡ true → IsNext before signed (Ok (piece.Token (Marked m) (length sign)))
      go c true e f =
          let n : length sign ≡ 2 = eqb-true (length sign) 2 e in
          rw n (double_next before signed c m n (take_at sign rest 2 n))
      go c false e f =
          let w = and_parts (length sign == 1) (is_no_double (take 2 signed)) f in
          let n : length sign ≡ 1 = eqb-true (length sign) 1 w.0 in
          rw n (single_next before signed c (no_double (take 2 signed) w.1) m (first_byte sign rest n))

-- ---- numbers

digits_size : (t rest : Text) → list_all is_digit t ≡ true → heads_digit rest ≡ false → prefix_len is_digit (t ++ rest) ≡ length t
digits_size [] [] h i = refl
digits_size [] (b ∷ bs) h i = rw i refl
digits_size (b ∷ bs) rest h i = let w = and_parts (is_digit b) (list_all is_digit bs) h in rw w.0 (omega (arith, digits_size bs rest w.1 i))

digit_slash : (b : ℕ) → is_digit b ≡ true → (b == 47) ≡ false
digit_slash b h = grind (arith, nat_tests)

number_class : (t rest : Text) → is_number t ≡ true → class_at (t ++ rest) ≡ class.Digit
number_class [] rest h = cc
number_class (b ∷ bs) rest h =
    let w = and_parts (is_digit b) (list_all is_digit bs) (number_passes (b ∷ bs) h) in
    unslashed b (bs ++ rest) (digit_slash b w.0) ∙ digit_class b w.0

numbered_next : (before t rest : Text) → fits (number t) rest ≡ true → IsNext before (t ++ rest) (Ok (piece.Token (Int (pos (decimal_value t))) (length t)))
numbered_next before t rest h =
    let p = and_parts (not (heads_digit rest)) (is_number t && nat_le (decimal_value t) largest_number) h in
    let q = and_parts (is_number t) (nat_le (decimal_value t) largest_number) p.1 in
    let size : prefix_len is_digit (t ++ rest) ≡ length t = digits_size t rest (number_passes t q.0) (not-true (heads_digit rest) p.0) in
    let front : take (length t) (t ++ rest) ≡ t = take_at t rest (length t) refl in
    let value : decimal_value (take (length t) (t ++ rest)) ≡ decimal_value t = ap decimal_value front in
    number_next before (t ++ rest) (length t) (number_class t rest q.0) (omega (arith, length-append t rest)) (ap is_number front ∙ q.0)
    (λ m within i. omega (arith, size, front_most is_digit (t ++ rest) m within (number_passes (take m (t ++ rest)) i)))
    (pos (decimal_value t)) (omega (arith, value, leb-true (decimal_value t) largest_number q.1), ap pos (sym value))

-- ---- strings

quoted_size : (inside : Text) → length (quoted inside) ≡ length inside + 2
quoted_size inside = omega (arith, length-append (codes "\"" ++ inside) (codes "\""), length-append (codes "\"") inside)

quoted_next : (before t rest : Text) → is_inside t ≡ true → IsNext before (quoted t ++ rest) (Ok (piece.Token Str (length (quoted t))))
quoted_next before t rest h =
    let n = length t in
    let here = quoted t ++ rest in
    let tail = (t ++ codes "\"") ++ rest in
    let e : tail ≡ t ++ (codes "\"" ++ rest) = append_assoc t (codes "\"") rest in
    let front : take n tail ≡ t = ap (take n) e ∙ take_at t (codes "\"" ++ rest) n refl in
    let back : drop n tail ≡ codes "\"" ++ rest = ap (drop n) e ∙ drop_at t (codes "\"" ++ rest) n refl in
    let long : length tail ≡ n + 1 + length rest = omega (arith, length-append (t ++ codes "\"") rest, length-append t (codes "\"")) in
    let whole : here ≡ (codes "\"" ++ t) ++ (codes "\"" ++ rest) = append_assoc (codes "\"" ++ t) (codes "\"") rest in
    let left : drop (n + 1) here ≡ codes "\"" ++ rest = ap (drop (n + 1)) whole ∙ drop_at (codes "\"" ++ t) (codes "\"" ++ rest) (n + 1) (omega arith) in
    let read : get_or here (n + 1) 34 ≡ 34 = ap (λ k. get_or here k 34) (omega arith) ∙ sym (get_or-drop (n + 1) here 0 34) ∙ ap (λ l. get_or l 0 34) left in
    rw (quoted_size t)
    (string_next before here tail n (unslashed 34 tail refl) refl (omega (arith, long)) (ap is_inside front ∙ h) (ap goes_on back ∙ quote_halts rest)
    (omega (arith, long)) 34 (sym read) refl)

-- ---- one piece after another

module _ (text : Text) where
  -- The text is read up to what is left, which begins in this line, and these are its tokens so far.
  pub record Reaches (left : Text) (line : ℕ) (found : Lexemes) : Type 0 where
    pub tokens : List Token
    pub at : ℕ
    pub read : IsRead text tokens at line
    pub left_is : left ≡ drop at text
    pub found_are : lexemes text tokens ≡ found

  abbrev pub at_start : Reaches text 1 []
  at_start = record { tokens = []; at = 0; read = nothing_read text; left_is = refl; found_are = refl }

  module _ (here : Text) (line : ℕ) (found : Lexemes) (r : Reaches here line found) where
    pub after_blank : (left : Text) (n line_feeds : ℕ) → IsNext (take r.at text) here (Ok (piece.Blank n line_feeds)) → drop n here ≡ left → Reaches left (line + line_feeds) found
    after_blank left n line_feeds h e = record {
      tokens = r.tokens;
      at = r.at + n;
      read = blank_read text r.tokens r.at line (take r.at text) here r.read refl r.left_is n line_feeds h;
      left_is = sym e ∙ ap (drop n) r.left_is ∙ drop-drop n r.at text;
      found_are = r.found_are;
    }

  module _ (t left : Text) (line : ℕ) (found : Lexemes) (kind : TokenKind) (r : Reaches (t ++ left) line found) where
    made_text : token_text text (record { kind = kind; start = r.at; end = r.at + length t; line = line }) ≡ t
    made_text =
        let k : r.at + length t - r.at ≡ length t = omega arith in
        ap (λ n. take n (drop r.at text)) k ∙ ap (take (length t)) (sym r.left_is) ∙ take_at t left (length t) refl

    pub after_token : IsNext (take r.at text) (t ++ left) (Ok (piece.Token kind (length t))) → Reaches left line (found ++ lexeme kind t line ∷ [])
    after_token h =
        let token : Token = record { kind = kind; start = r.at; end = r.at + length t; line = line } in
        let more : lexemes text (r.tokens ++ token ∷ []) ≡ lexemes text r.tokens ++ lexemes text (token ∷ []) = map-append (λ (x : Token). lexeme x.kind (token_text text x) x.line) r.tokens (token ∷ []) in
        record {
          tokens = r.tokens ++ token ∷ [];
          at = r.at + length t;
          read = token_read text r.tokens r.at line (take r.at text) (t ++ left) r.read refl r.left_is kind (length t) h;
          left_is = sym (drop_at t left (length t) refl) ∙ ap (drop (length t)) r.left_is ∙ drop-drop (length t) r.at text;
          found_are = more ∙ ap (λ l. l ++ lexemes text (token ∷ [])) r.found_are ∙ ap (λ u. found ++ lexeme kind u line ∷ []) made_text;
        }

  more_of : (x : Lexeme) (ps : List Part) (line : ℕ) (found : Lexemes) → (last : ℕ) × Reaches [] last ((found ++ x ∷ []) ++ lexemes_of line ps) → (last : ℕ) × Reaches [] last (found ++ x ∷ lexemes_of line ps)
  more_of x ps line found w = (w.0, subst (λ l. Reaches [] w.0 l) (append_assoc found (x ∷ []) (lexemes_of line ps)) w.1)

  pub read_all : (parts : List Part) (line : ℕ) (found : Lexemes) → all_fit parts ≡ true → Reaches (text_of parts) line found
      → (last : ℕ) × Reaches [] last (found ++ lexemes_of line parts)
  read_all [] line found h r = (line, subst (λ l. Reaches [] line l) (sym (append-nil found)) r)
  read_all (space b ∷ ps) line found h r =
      let w = and_parts (is_blank b) (all_fit ps) h in
      read_all ps (line + feeds (b ∷ [])) found w.1 (after_blank (b ∷ text_of ps) line found r (text_of ps) 1 (feeds (b ∷ [])) (space_next (take r.at text) b (text_of ps) w.0) refl)
  read_all (word k ∷ ps) line found h r =
      let w = and_parts (fits (word k) (text_of ps)) (all_fit ps) h in
      more_of (lexeme (Word k) (keyword_text k) line) ps line found (read_all ps line _ w.1 (after_token (keyword_text k) (text_of ps) line found (Word k) r (word_next (take r.at text) k (text_of ps) w.0)))
  read_all (symbol m ∷ ps) line found h r =
      let w = and_parts (fits (symbol m) (text_of ps)) (all_fit ps) h in
      more_of (lexeme (Marked m) (mark_text m) line) ps line found (read_all ps line _ w.1 (after_token (mark_text m) (text_of ps) line found (Marked m) r (symbol_next (take r.at text) m (text_of ps) w.0)))
  read_all (name t ∷ ps) line found h r =
      let w = and_parts (fits (name t) (text_of ps)) (all_fit ps) h in
      more_of (lexeme Name t line) ps line found (read_all ps line _ w.1 (after_token t (text_of ps) line found Name r (named_next (take r.at text) t (text_of ps) w.0)))
  read_all (number t ∷ ps) line found h r =
      let w = and_parts (fits (number t) (text_of ps)) (all_fit ps) h in
      more_of (lexeme (Int (pos (decimal_value t))) t line) ps line found (read_all ps line _ w.1 (after_token t (text_of ps) line found (Int (pos (decimal_value t))) r (numbered_next (take r.at text) t (text_of ps) w.0)))
  read_all (string t ∷ ps) line found h r =
      let w = and_parts (fits (string t) (text_of ps)) (all_fit ps) h in
      more_of (lexeme Str (quoted t) line) ps line found (read_all ps line _ w.1 (after_token (quoted t) (text_of ps) line found Str r (quoted_next (take r.at text) t (text_of ps) w.0)))

  pub cut_of : (line : ℕ) (found : Lexemes) → length text ≤ longest_text → Reaches [] line found → (tokens : List Token) × Cut text tokens × (lexemes text tokens ≡ found)
  cut_of line found short r = (r.tokens, all_read text r.tokens r.at line (take r.at text) [] r.read refl r.left_is short refl, r.found_are)
