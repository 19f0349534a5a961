-- A text is spelled like a token of one kind at most.
use Rattle.std.proofs.Common.{◌≡◌, ◌↔◌, Bool, true, false, ◌==◌, cond, length, filter, List, [], ◌∷◌, Option, Some, refl, ap, sym, ◌∙◌}
use Rattle.std.proofs.lemmas.Bool.{eq-eqb}
use Rattle.std.proofs.lemmas.Slice.Eq.{bytes_eq-Decides}
use Rattle.std.specs.Prelude.{find}
use Rattle.std.specs.Str.{bytes_eq}
use Rattle.cc_lexer.specs.declared.token.Keyword.{Keyword}
use Rattle.cc_lexer.specs.declared.token.Keyword.TheVariants as keyword
use Rattle.cc_lexer.specs.declared.token.Mark.{Mark}
use Rattle.cc_lexer.specs.declared.token.Mark.TheVariants as mark
use Rattle.cc_lexer.specs.declared.token.TokenKind.{TokenKind}
use Rattle.cc_lexer.specs.declared.token.TokenKind.TheVariants.{Name, Int, Str, Word, Mark as Marked}
use Rattle.cc_lexer.specs.Spelling.{Text, keyword_text, mark_text, Spells}
use Rattle.cc_lexer.specs.Keywords.{keywords, keywords_of_length}
use Rattle.cc_lexer.proofs.Classes.{class_of, spelled_class}

abbrev pub marks : List Mark
marks = mark.OpenParen ∷ mark.CloseParen ∷ mark.OpenBrace ∷ mark.CloseBrace ∷ mark.OpenBracket ∷ mark.CloseBracket ∷ mark.Semicolon ∷ mark.Comma ∷ mark.Colon ∷ mark.Dot ∷ mark.Assign ∷ mark.Plus ∷ mark.Minus ∷ mark.Star ∷ mark.Slash ∷ mark.Percent ∷ mark.Less ∷ mark.Greater ∷ mark.Not ∷ mark.Ampersand ∷ mark.Arrow ∷ mark.Equal ∷ mark.NotEqual ∷ mark.LessEqual ∷ mark.GreaterEqual ∷ mark.And ∷ mark.Or ∷ mark.LessLess ∷ mark.PlusPlus ∷ mark.MinusMinus ∷ mark.PlusAssign ∷ mark.MinusAssign ∷ mark.StarAssign ∷ mark.SlashAssign ∷ mark.PercentAssign ∷ []

abbrev pub keyword_of : Text → Option Keyword
keyword_of text = find (λ word. bytes_eq (keyword_text word) text) keywords

abbrev pub mark_of : Text → Option Mark
mark_of text = find (λ m. bytes_eq (mark_text m) text) marks

pub keyword_of_text : (word : Keyword) → keyword_of (keyword_text word) ≡ Some word
keyword_of_text keyword.Atomic = refl
keyword_of_text _ = refl

pub mark_of_text : (m : Mark) → mark_of (mark_text m) ≡ Some m
mark_of_text mark.OpenParen = refl
mark_of_text _ = refl

find_passes : {A : Type 0} (p : A → Bool) (xs : List A) (x : A) → find p xs ≡ Some x → p x ≡ true
find_passes p [] x h = cc
find_passes {A} p (y ∷ ys) x h = go (p y) refl h (λ f. find_passes p ys x f)
  where
    go : (b : Bool) → p y ≡ b → cond b (Some y) (find p ys) ≡ Some x → (find p ys ≡ Some x → p x ≡ true) → p x ≡ true
    go true e f k = let s : y ≡ x = cc in rw s at e
    go false e f k = k f

-- what passes a test is found among those that pass a weaker one
find_in_filter : {A : Type 0} (p q : A → Bool) (xs : List A) → ((x : A) → p x ≡ true → q x ≡ true) → find p (filter q xs) ≡ find p xs
find_in_filter p q [] h = refl
find_in_filter {A} p q (x ∷ xs) h = go (p x) refl (q x) refl (find_in_filter p q xs h)
  where
    go : (a : Bool) → p x ≡ a → (b : Bool) → q x ≡ b → find p (filter q xs) ≡ find p xs → find p (cond b (x ∷ filter q xs) (filter q xs)) ≡ cond a (Some x) (find p xs)
    go true e true f k = rw e refl
    go true e false f k = let g = h x e in cc
    go false e true f k = rw e k
    go false e false f k = k

keyword_of_length : (text : Text) → find (λ word. bytes_eq (keyword_text word) text) (keywords_of_length (length text)) ≡ keyword_of text
keyword_of_length text =
    find_in_filter (λ word. bytes_eq (keyword_text word) text) (λ word. length (keyword_text word) == length text) keywords
    (λ word e. eq-eqb (length (keyword_text word)) (length text) (ap length ((bytes_eq-Decides (keyword_text word) text).0 e)))

keyword_found : (text : Text) (word : Keyword) → (keyword_of text ≡ Some word) ↔ (text ≡ keyword_text word)
keyword_found text word = (
  (λ h. sym ((bytes_eq-Decides (keyword_text word) text).0 (find_passes (λ w. bytes_eq (keyword_text w) text) keywords word h))),
  (λ h. ap keyword_of h ∙ keyword_of_text word),
)

pub found_among : (text : Text) (words : List Keyword) (r : Option Keyword) → words ≡ keywords_of_length (length text) → r ≡ find (λ word. bytes_eq (keyword_text word) text) words → (word : Keyword) → (r ≡ Some word) ↔ (text ≡ keyword_text word)
found_among text words r w e word =
    let f : r ≡ keyword_of text = e ∙ ap (find (λ v. bytes_eq (keyword_text v) text)) w ∙ keyword_of_length text in
    rw f (keyword_found text word)

same_keyword : (v w : Keyword) → keyword_text v ≡ keyword_text w → v ≡ w
same_keyword v w e = let a = keyword_of_text v in let b = keyword_of_text w in let c = ap keyword_of e in cc

same_mark : (m n : Mark) → mark_text m ≡ mark_text n → m ≡ n
same_mark m n e = let a = mark_of_text m in let b = mark_of_text n in let c = ap mark_of e in cc

of_one_class : (a c : TokenKind) (text : Text) → Spells a text → Spells c text → class_of a ≡ class_of c → a ≡ c
of_one_class Name Name text h i e = refl
of_one_class Name (Word w) text h i e = absurd (h.no_keyword w i)
of_one_class (Word w) Name text h i e = absurd (i.no_keyword w h)
of_one_class (Int v) (Int w) text h i e = cc (h.1, i.1)
of_one_class Str Str text h i e = refl
of_one_class (Word v) (Word w) text h i e = ap Word (same_keyword v w (sym h ∙ i))
of_one_class (Marked m) (Marked n) text h i e = ap Marked (same_mark m n (sym h ∙ i))
of_one_class _ _ text h i e = cc

pub one_kind : (a c : TokenKind) (text : Text) → Spells a text → Spells c text → a ≡ c
one_kind a c text h i = of_one_class a c text h i (sym (spelled_class a text h) ∙ spelled_class c text i)
