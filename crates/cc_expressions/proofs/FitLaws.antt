-- The tokens of a text that is cut fit it.
use Rattle.std.proofs.Common.{◌≡◌, ℕ, zero, suc, ◌<◌, ◌≤◌, ◌&&◌, ◌||◌, ◌==◌, nat_le, Bool, true, false, List, [], ◌∷◌, length, refl, arith}
use Rattle.std.proofs.lemmas.List.Elements.{All-head, All-tail}
use Rattle.std.specs.Prelude.{All, IsTrue, slice_index}
use Rattle.std.specs.List.{list_all}
use Rattle.std.specs.Str.{IsAscii}
use Rattle.cc_lexer.specs.declared.token.Token.{Token}
use Rattle.cc_lexer.specs.declared.token.TokenKind.{TokenKind}
use Rattle.cc_lexer.specs.declared.token.TokenKind.TheVariants as k
use Rattle.cc_lexer.specs.Spelling.{is_letter, is_word_byte, is_word, Spells}
use Rattle.cc_lexer.specs.Cut.{Cut}
use Rattle.cc_lexer.specs.Lexemes.{IsSpelled, token_text}
use Rattle.cc_lexer.proofs.Spans.{cut_spelled}
use Rattle.cc_expressions.specs.Fits.{Fits, AllFit, IsText}

byte_ascii : (b : ℕ) → IsTrue (is_word_byte b) → b < 128
byte_ascii b h = grind (arith)

letter_ascii : (b : ℕ) → IsTrue (is_letter b) → b < 128
letter_ascii b h = grind (arith)

and_true : (a b : Bool) → IsTrue (a && b) → IsTrue a × IsTrue b
and_true true b h = (refl, h)
and_true false b h = absurd cc

ascii_cons : (b : ℕ) (bs : List ℕ) → b < 128 → IsAscii bs → IsAscii (b ∷ bs)
ascii_cons b bs h k zero = h
ascii_cons b bs h k (suc i) = k i

ascii_none : IsAscii []
ascii_none i = omega arith

ascii_bytes : (bs : List ℕ) → IsTrue (list_all is_word_byte bs) → IsAscii bs
ascii_bytes [] h = ascii_none
ascii_bytes (b ∷ bs) h = let v = and_true (is_word_byte b) (list_all is_word_byte bs) h in ascii_cons b bs (byte_ascii b v.0) (ascii_bytes bs v.1)

ascii_word : (bs : List ℕ) → IsTrue (is_word bs) → IsAscii bs
ascii_word [] h = ascii_none
ascii_word (b ∷ bs) h = let v = and_true (is_letter b) (list_all is_word_byte bs) h in ascii_cons b bs (letter_ascii b v.0) (ascii_bytes bs v.1)

text_of : (kind : TokenKind) (bytes : List ℕ) → Spells kind bytes → IsText kind bytes
text_of k.Name bytes h = ascii_word bytes h.word
text_of (k.Int value) bytes h = tt
text_of k.Str bytes h = tt
text_of (k.Word w) bytes h = tt
text_of (k.Mark m) bytes h = tt

all_fit : (text : List ℕ) (tokens : List Token) → All (IsSpelled text) tokens → AllFit text tokens
all_fit text [] h = tt
all_fit text (t ∷ ts) h =
    let s = All-head (IsSpelled text) t ts h in
    (record { in_order = omega (arith, s.some); within = s.within; is_text = text_of t.kind (token_text text t) s.spelled }, all_fit text ts (All-tail (IsSpelled text) t ts h))

pub cut_fits : (text : List ℕ) (tokens : List Token) → Cut text tokens → AllFit text tokens
cut_fits text tokens h = all_fit text tokens (cut_spelled text tokens h)
