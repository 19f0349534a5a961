-- The longest token at a place, by the class of what stands there.
use Rattle.std.proofs.Common.{◌≡◌, ◌≢◌, ℕ, ◌<◌, ◌≤◌, true, false, not, ◌==◌, [], ◌∷◌, length, take, get_or, ℤ, pos, ◌<ℤ◌, ◌⊎◌, inl, inr, refl, ap, sym, subst, ◌∙◌, arith}
use Rattle.std.proofs.Math.Numerals.{one-add}
use Rattle.std.proofs.lemmas.Bool.{and_parts, and_from, or_left, ne_eqb, cases_lt}
use Rattle.std.proofs.lemmas.List.Sums.{prefix_len-le-length}
use Rattle.std.proofs.lemmas.Int.{ints}
use Rattle.std.specs.Prelude.{Ok, Err, Some, SomeIff}
use Rattle.std.specs.List.{list_all, prefix_len}
use Rattle.cc_lexer.specs.declared.class.Class.TheVariants as class
use Rattle.cc_lexer.specs.declared.piece.Piece.TheVariants as piece
use Rattle.cc_lexer.specs.declared.token.Keyword.{Keyword}
use Rattle.cc_lexer.specs.declared.token.TokenKind.{TokenKind}
use Rattle.cc_lexer.specs.declared.token.TokenKind.TheVariants.{Name, Int, Word}
use Rattle.cc_lexer.specs.declared.fault.LexFault.TheVariants.{LongName, NumberTooLarge}
use Rattle.cc_lexer.specs.Spelling.{Text, is_letter, is_digit, is_word_byte, is_word, is_number, keyword_text, Spells, decimal_value}
use Rattle.cc_lexer.specs.Cut.{IsLongest, longest_name, largest_number}
use Rattle.cc_lexer.specs.Faults.{long_name, large_number}
use Rattle.cc_lexer.specs.Next.{class_at, IsNext}
use Rattle.cc_lexer.proofs.Classes.{class_of, word_is}
use Rattle.cc_lexer.proofs.Moves.{stands_class}
use Rattle.cc_lexer.proofs.Apart.{no_line_comment, no_comment}
use Rattle.cc_lexer.proofs.Views.{HasFirst, viewed}
use Rattle.cc_lexer.proofs.Fronts.{front_passes, front_most}

-- the longest token, where no token of this class is longer
pub longest_of : (here : Text) (kind : TokenKind) (n : ℕ) → class_at here ≡ class_of kind → n ≤ length here → Spells kind (take n here)
    → ((other : TokenKind) (m : ℕ) → m ≤ length here → Spells other (take m here) → class_of kind ≡ class_of other → m ≤ n) → IsLongest here kind n
longest_of here kind n e within spelled most = record {
  stands = record { within = within; spelled = spelled; no_line_comment = no_line_comment here (class_of kind) e (apart_line kind); no_comment = no_comment here (class_of kind) e (apart kind) };
  longest = λ other m s. most other m s.within s.spelled (sym e ∙ stands_class here other m s);
}
  where
    apart_line : (k : TokenKind) → class_of k ≢ class.LineComment
    apart_line Name h = cc
    apart_line _ h = cc

    apart : (k : TokenKind) → class_of k ≢ class.Comment
    apart Name h = cc
    apart _ h = cc

-- ---- words

pub word_passes : (text : Text) → is_word text ≡ true → list_all is_word_byte text ≡ true
word_passes [] h = refl
word_passes (b ∷ bs) h = let w = and_parts (is_letter b) (list_all is_word_byte bs) h in and_from (is_word_byte b) _ (or_left (is_letter b) (is_digit b) w.0) w.1

letters_word : (other : TokenKind) (text : Text) → Spells other text → class.Letter ≡ class_of other → is_word text ≡ true
letters_word Name text h e = h.word
letters_word (Word w) text h e = word_is (Word w) w text h
letters_word _ text h e = cc

front_word : (b : ℕ) (rest : Text) → is_letter b ≡ true → is_word (take (prefix_len is_word_byte (b ∷ rest)) (b ∷ rest)) ≡ true
front_word b rest h =
    let w : is_word_byte b ≡ true = or_left (is_letter b) (is_digit b) h in
    rw (w, one-add) (and_from (is_letter b) _ h (front_passes is_word_byte rest))

module _ (before here : Text) (n : ℕ) (letter : class_at here ≡ class.Letter) (size : n ≡ prefix_len is_word_byte here) where
  is_front_word : is_word (take n here) ≡ true
  is_front_word =
      let v = viewed here class.Letter letter in
      let P : Text → Type 0 = λ t. is_word (take (prefix_len is_word_byte t) t) ≡ true in
      rw size (subst P (sym v.parts) (front_word v.first v.rest v.passes))

  word_longest : (kind : TokenKind) → class.Letter ≡ class_of kind → Spells kind (take n here) → IsLongest here kind n
  word_longest kind e spelled = longest_of here kind n (letter ∙ e) (omega (arith, size, prefix_len-le-length is_word_byte here)) spelled
      (λ other m within s same. omega (arith, size, front_most is_word_byte here m within (word_passes (take m here) (letters_word other (take m here) s (e ∙ same)))))

  pub keyword_next : (word : Keyword) → take n here ≡ keyword_text word → IsNext before here (Ok (piece.Token (Word word) n))
  keyword_next word e = (word_longest (Word word) refl e, tt)

  name_longest : ((word : Keyword) → take n here ≢ keyword_text word) → IsLongest here Name n
  name_longest none = word_longest Name refl (record { word = is_front_word; no_keyword = none })

  pub name_next : ((word : Keyword) → take n here ≢ keyword_text word) → n ≤ longest_name → IsNext before here (Ok (piece.Token Name n))
  name_next none h = (name_longest none, h)

  pub long_name_next : ((word : Keyword) → take n here ≢ keyword_text word) → longest_name < n → IsNext before here (Err (LongName (length before)))
  long_name_next none h = long_name (name_longest none) h

-- ---- numbers

number_from : (b : ℕ) (tail : Text) → is_digit b ≡ true → (b == 48) ≡ false → list_all is_digit tail ≡ true → is_number (b ∷ tail) ≡ true
number_from b [] h i k = h
number_from b (c ∷ cs) h i k = rw i (and_from (is_digit b) _ h k)

pub number_passes : (text : Text) → is_number text ≡ true → list_all is_digit text ≡ true
number_passes [] h = cc
number_passes (b ∷ []) h = and_from (is_digit b) true h refl
number_passes (b ∷ c ∷ bs) h = (and_parts (not (b == 48)) _ h).1

first_is : (here : Text) (v : HasFirst is_digit here) → get_or here 0 0 ≡ v.first
first_is here v = ap (λ t. get_or t 0 0) v.parts

module _ (here : Text) (digit : class_at here ≡ class.Digit) where
  pub digits_number : (get_or here 0 0 ≡ 48 → ⊥) → is_number (take (prefix_len is_digit here) here) ≡ true
  digits_number e =
      let v = viewed here class.Digit digit in
      let P : Text → Type 0 = λ t. is_number (take (prefix_len is_digit t) t) ≡ true in
      subst P (sym v.parts) (rw (v.passes, one-add) (number_from v.first _ v.passes (ne_eqb v.first 48 (λ f. e (first_is here v ∙ f))) (front_passes is_digit v.rest)))

  pub digits_within : prefix_len is_digit here ≤ length here
  digits_within = prefix_len-le-length is_digit here

  pub digits_longest : (n : ℕ) → n ≤ length here → is_number (take n here) ≡ true → n ≤ prefix_len is_digit here
  digits_longest n h i = front_most is_digit here n h (number_passes (take n here) i)

digits_of : (other : TokenKind) (text : Text) → Spells other text → class.Digit ≡ class_of other → is_number text ≡ true
digits_of (Int v) text h e = h.0
digits_of _ text h e = cc

above : (value : ℕ) → (value ≤ largest_number → ⊥) → pos largest_number <ℤ pos value
above value h = go (cases_lt largest_number value)
  where
    go : (largest_number < value) ⊎ (value ≤ largest_number) → pos largest_number <ℤ pos value
    go (inl l) = omega (arith, ints, l)
    go (inr l) = absurd (h l)

module _ (before here : Text) (n : ℕ) (digit : class_at here ≡ class.Digit) (within : n ≤ length here) (number : is_number (take n here) ≡ true) (most : (m : ℕ) → m ≤ length here → is_number (take m here) ≡ true → m ≤ n) where
  number_longest : (value : ℤ) → value ≡ pos (decimal_value (take n here)) → IsLongest here (Int value) n
  number_longest value e = longest_of here (Int value) n digit within (number, e) (λ other m h s same. most m h (digits_of other (take m here) s same))

  pub number_next : (value : ℤ) → SomeIff (Some value) (decimal_value (take n here) ≤ largest_number) (pos (decimal_value (take n here))) → IsNext before here (Ok (piece.Token (Int value) n))
  number_next value h = (number_longest value h.1, rw h.1 (omega (arith, ints, h.0)))

  pub large_number_next : (decimal_value (take n here) ≤ largest_number → ⊥) → IsNext before here (Err (NumberTooLarge (length before)))
  large_number_next h = large_number (number_longest (pos (decimal_value (take n here))) refl) (above (decimal_value (take n here)) h)
