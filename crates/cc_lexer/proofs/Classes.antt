-- What may begin at a place is settled by the first bytes there.
use Rattle.std.proofs.Common.{◌≡◌, ℕ, true, false, not, ◌==◌, [], ◌∷◌, refl, ap, ◌∙◌, arith}
use Rattle.std.proofs.lemmas.Bool.{and_parts}
use Rattle.std.proofs.lemmas.Bool.Decides.{nat_tests}
use Rattle.cc_lexer.specs.declared.token.Keyword.{Keyword}
use Rattle.cc_lexer.specs.declared.token.Keyword.TheVariants as keyword
use Rattle.cc_lexer.specs.declared.token.Mark.{Mark}
use Rattle.cc_lexer.specs.declared.token.Mark.TheVariants as mark
use Rattle.cc_lexer.specs.declared.token.TokenKind.{TokenKind}
use Rattle.cc_lexer.specs.declared.token.TokenKind.TheVariants.{Name, Int, Str, Word, Mark as Marked}
use Rattle.cc_lexer.specs.Spelling.{Text, is_digit, is_letter, is_word, is_number, keyword_text, mark_text, Spells}
use Rattle.cc_lexer.specs.declared.class.Class.{Class}
use Rattle.cc_lexer.specs.declared.class.Class.TheVariants as class
use Rattle.cc_lexer.specs.Cut.{is_blank}
use Rattle.cc_lexer.specs.Next.{byte_class}

abbrev pub class_of : TokenKind → Class
class_of Name = class.Letter
class_of (Int value) = class.Digit
class_of Str = class.Quote
class_of (Word word) = class.Letter
class_of (Marked mark) = class.Other

letter_blank : (b : ℕ) → is_letter b ≡ true → is_blank b ≡ false
letter_blank b h = grind (arith, nat_tests)

letter_hash : (b : ℕ) → is_letter b ≡ true → (b == 35) ≡ false
letter_hash b h = grind (arith, nat_tests)

letter_quote : (b : ℕ) → is_letter b ≡ true → (b == 34) ≡ false
letter_quote b h = grind (arith, nat_tests)

pub letter_class : (b : ℕ) → is_letter b ≡ true → byte_class b ≡ class.Letter
letter_class b h = rw (letter_blank b h, letter_hash b h, letter_quote b h, h) refl

digit_blank : (b : ℕ) → is_digit b ≡ true → is_blank b ≡ false
digit_blank b h = grind (arith, nat_tests)

digit_hash : (b : ℕ) → is_digit b ≡ true → (b == 35) ≡ false
digit_hash b h = grind (arith, nat_tests)

digit_quote : (b : ℕ) → is_digit b ≡ true → (b == 34) ≡ false
digit_quote b h = grind (arith, nat_tests)

digit_letter : (b : ℕ) → is_digit b ≡ true → is_letter b ≡ false
digit_letter b h = grind (arith, nat_tests)

pub digit_class : (b : ℕ) → is_digit b ≡ true → byte_class b ≡ class.Digit
digit_class b h = rw (digit_blank b h, digit_hash b h, digit_quote b h, digit_letter b h, h) refl

-- ---- the first byte of a token

abbrev pub first_class : Text → Class
first_class [] = class.End
first_class (b ∷ bs) = byte_class b

keyword_word : (word : Keyword) → is_word (keyword_text word) ≡ true
keyword_word keyword.Atomic = refl
keyword_word _ = refl

mark_class : (mark : Mark) → first_class (mark_text mark) ≡ class.Other
mark_class mark.OpenParen = refl
mark_class _ = refl

pub word_class : (text : Text) → is_word text ≡ true → first_class text ≡ class.Letter
word_class [] h = cc
word_class (b ∷ bs) h = letter_class b (and_parts (is_letter b) _ h).0

pub number_class : (text : Text) → is_number text ≡ true → first_class text ≡ class.Digit
number_class [] h = cc
number_class (b ∷ []) h = digit_class b h
number_class (b ∷ c ∷ bs) h = digit_class b (and_parts (is_digit b) _ (and_parts (not (b == 48)) _ h).1).0

pub word_is : (kind : TokenKind) (word : Keyword) (text : Text) → text ≡ keyword_text word → is_word text ≡ true
word_is kind word text h = ap is_word h ∙ keyword_word word

pub spelled_class : (kind : TokenKind) (text : Text) → Spells kind text → first_class text ≡ class_of kind
spelled_class Name text h = word_class text h.word
spelled_class (Int value) text h = number_class text h.0
spelled_class Str text h = ap first_class h.2
spelled_class (Word word) text h = ap first_class h ∙ word_class (keyword_text word) (keyword_word word)
spelled_class (Marked mark) text h = ap first_class h ∙ mark_class mark
