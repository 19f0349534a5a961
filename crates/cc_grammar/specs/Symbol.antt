-- What a symbol of the grammar spells, and what its fronts are.
--
-- A front of a line of the grammar is a spelling of its first symbols, as many as stand before some place of the line, followed
-- by a front of the next symbol. No token at all is a front of every symbol, and a token is a front of itself. This rule stands
-- once, in the combinator for "one after the other".
use Rattle.std.specs.Prelude.{◌≡◌, ℕ, zero, suc, Bool, true, false, List, [], ◌∷◌, ◌⊎◌, Option, Some, None}
use Rattle.cc_lexer.specs.declared.token.TokenKind.{TokenKind}
use Rattle.cc_lexer.specs.declared.token.TokenKind.TheVariants as k
use Rattle.cc_lexer.specs.declared.token.Keyword.{Keyword}
use Rattle.cc_lexer.specs.declared.token.Mark.{Mark}
use Rattle.cc_lexer.specs.declared.token.Mark.TheVariants.{Comma}
use Rattle.cc_grammar.specs.declared.parts.Name.{Name}
use Rattle.cc_grammar.specs.declared.parts.Number.{Number}
use Rattle.cc_grammar.specs.Lexeme.{Lexeme, Lexemes, int_value, unescaped}
use Rattle.cc_grammar.specs.Kinds.{code, heads}

pub record Symbol (A : Type 0) : Type 1 where
  -- of the first list the symbol takes the tokens up to the second one, with this value
  pub spells : Lexemes → Lexemes → A → Type 0
  -- the tokens of the first list up to the second one are a front of the symbol
  pub front : Lexemes → Lexemes → Type 0

-- a token of the kind with this number, of which the value is what is kept
abbrev pub token : {A : Type 0} → ℕ → (Lexeme → A) → Symbol A
token number kept = record {
  spells = λ a b x. (t : Lexeme) × (a ≡ t ∷ b) × (code t.kind ≡ number) × (kept t ≡ x);
  front = λ a c. (a ≡ c) ⊎ ((t : Lexeme) × (a ≡ t ∷ c) × (code t.kind ≡ number));
}

-- no token
abbrev pub pure : {A : Type 0} → A → Symbol A
pure x = record { spells = λ a b y. (a ≡ b) × (x ≡ y); front = λ a c. a ≡ c }

-- the one, and then the other, which may name the value of the first
infixl 10 ◌>>=◌
abbrev pub ◌>>=◌ : {A B : Type 0} → Symbol A → (A → Symbol B) → Symbol B
◌>>=◌ {A} {B} s t = record {
  spells = λ a c y. (b : Lexemes) × (x : A) × s.spells a b x × (t x).spells b c y;
  front = λ a c. s.front a c ⊎ ((b : Lexemes) × (x : A) × s.spells a b x × (t x).front b c);
}

infixl 10 ◌>>◌
abbrev pub ◌>>◌ : {A B : Type 0} → Symbol A → Symbol B → Symbol B
s >> t = s >>= (λ _. t)

-- one of two
infixr 9 ◌or◌
abbrev pub ◌or◌ : {A : Type 0} → Symbol A → Symbol A → Symbol A
s or t = record { spells = λ a b x. s.spells a b x ⊎ t.spells a b x; front = λ a c. s.front a c ⊎ t.front a c }

abbrev pub Repeats : {A : Type 0} → (Lexemes → Lexemes → A → Type 0) → Lexemes → Lexemes → List A → Type 0
Repeats s a c [] = a ≡ c
Repeats s a c (x ∷ xs) = (b : Lexemes) × s a b x × Repeats s b c xs

-- { s }
abbrev pub many : {A : Type 0} → Symbol A → Symbol (List A)
many {A} s = record {
  spells = Repeats s.spells;
  front = λ a c. (b : Lexemes) × (xs : List A) × Repeats s.spells a b xs × s.front b c;
}

-- no token, where no token of this kind comes next
abbrev pub before_no : {A : Type 0} → TokenKind → A → Symbol A
before_no kind x = record { spells = λ a b y. (a ≡ b) × (x ≡ y) × (heads (code kind ∷ []) a ≡ false); front = λ a c. a ≡ c }

abbrev pub never : {A : Type 0} → Symbol A
never = record { spells = λ a b y. ⊥; front = λ a c. a ≡ c }

-- ---- tokens

-- a token that stands for itself, with its line
abbrev pub itself : TokenKind → Symbol ℕ
itself kind = token (code kind) (λ t. t.line)

abbrev pub word : Keyword → Symbol ℕ
word w = itself (k.Word w)

abbrev pub mark : Mark → Symbol ℕ
mark m = itself (k.Mark m)

-- a token that opens a level, where one may be opened: the number says how many more may be
abbrev pub opening : ℕ → TokenKind → Symbol ℕ
opening zero kind = never
opening (suc n) kind = itself kind

abbrev pub open_word : ℕ → Keyword → Symbol ℕ
open_word n w = opening n (k.Word w)

abbrev pub open_mark : ℕ → Mark → Symbol ℕ
open_mark n m = opening n (k.Mark m)

-- NAME
abbrev pub name : Symbol Name
name = token 0 (λ t. record { text = t.text; line = t.line })

-- INT
abbrev pub number : Symbol Number
number = token 1 (λ t. record { value = int_value t.kind; line = t.line })

-- STR
abbrev pub string : Symbol (List ℕ)
string = token 2 (λ t. unescaped t.text)

-- ---- notation

-- [ s ]
abbrev pub opt : {A : Type 0} → Symbol A → Symbol (Option A)
opt s = (do x ← s; pure (Some x)) or pure None

-- [ 'w' ], by whether it stands there
abbrev pub has_word : Keyword → Symbol Bool
has_word w = (word w >> pure true) or pure false

-- [ s { ',' s } ]
abbrev pub listed : {A : Type 0} → Symbol A → Symbol (List A)
listed s = (do x ← s; xs ← many (mark Comma >> s); pure (x ∷ xs)) or pure []
