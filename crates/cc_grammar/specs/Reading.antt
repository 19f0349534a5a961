-- Reading, token by token.
use Rattle.std.specs.Prelude.{◌≡◌, ℕ, zero, suc, pos, Bool, true, false, if◌then◌else◌, List, [], ◌∷◌, ◌++◌, length, Option, Some, None, Result, Ok, Err, ◌≢◌}
use Rattle.cc_lexer.specs.declared.token.TokenKind.{TokenKind}
use Rattle.cc_lexer.specs.declared.token.TokenKind.TheVariants as k
use Rattle.cc_lexer.specs.declared.token.Keyword.{Keyword}
use Rattle.cc_lexer.specs.declared.token.Mark.{Mark}
use Rattle.cc_grammar.specs.declared.fault.Fault.{Fault}
use Rattle.cc_grammar.specs.declared.fault.Fault.TheVariants.{Memory, Syntax, TooDeep}
use Rattle.cc_grammar.specs.declared.parts.Name.{Name}
use Rattle.cc_grammar.specs.declared.parts.Number.{Number}
use Rattle.cc_grammar.specs.Lexeme.{Lexeme, Lexemes, int_value, unescaped}
use Rattle.cc_grammar.specs.Kinds.{Kinds, code, heads}
use Rattle.cc_grammar.specs.Nodes.{joined}

-- a value with the tokens after it, or the tokens from the fault on
pub data Answer (A : Type 0) : Type 0 where
  Good : A → Lexemes → Answer A
  Failed : Fault → Lexemes → Answer A

abbrev pub Reader : Type 0 → Type 0
Reader A = Lexemes → Answer A

abbrev pub and_then : {A B : Type 0} → Answer A → (A → Reader B) → Answer B
and_then (Good x b) f = f x b
and_then (Failed e b) f = Failed e b

infixl 10 ◌>>=◌
abbrev pub ◌>>=◌ : {A B : Type 0} → Reader A → (A → Reader B) → Reader B
p >>= f = λ a. and_then (p a) f

infixl 10 ◌>>◌
abbrev pub ◌>>◌ : {A B : Type 0} → Reader A → Reader B → Reader B
p >> q = p >>= (λ _. q)

abbrev pub pure : {A : Type 0} → A → Reader A
pure x = λ a. Good x a

abbrev pub refuse : {A : Type 0} → Reader A
refuse = λ a. Failed Syntax a

-- where no level is left
abbrev pub too_deep : {A : Type 0} → Reader A
too_deep = λ a. Failed TooDeep a

-- ---- tokens

abbrev pub take_if : {A : Type 0} → Bool → (Lexeme → A) → Reader A
take_if b kept [] = Failed Syntax []
take_if b kept (t ∷ a) = if b then Good (kept t) a else Failed Syntax (t ∷ a)

unfoldable pub token : {A : Type 0} → ℕ → (Lexeme → A) → Reader A
token number kept = λ a. take_if (heads (number ∷ []) a) kept a

abbrev pub itself : TokenKind → Reader ℕ
itself kind = token (code kind) (λ t. t.line)

abbrev pub word : Keyword → Reader ℕ
word w = itself (k.Word w)

abbrev pub mark : Mark → Reader ℕ
mark m = itself (k.Mark m)

unfoldable pub opening : ℕ → TokenKind → Reader ℕ
opening zero kind = λ a. if heads (code kind ∷ []) a then Failed TooDeep a else Failed Syntax a
opening (suc n) kind = itself kind

abbrev pub open_word : ℕ → Keyword → Reader ℕ
open_word n w = opening n (k.Word w)

abbrev pub open_mark : ℕ → Mark → Reader ℕ
open_mark n m = opening n (k.Mark m)

abbrev pub name : Reader Name
name = token 0 (λ t. record { text = t.text; line = t.line })

abbrev pub number : Reader Number
number = token 1 (λ t. record { value = int_value t.kind; line = t.line })

abbrev pub string : Reader (List ℕ)
string = token 2 (λ t. unescaped t.text)

-- ---- choices

-- sets of one kind
abbrev pub at_word : Keyword → Kinds
at_word w = code (k.Word w) ∷ []

abbrev pub at_mark : Mark → Kinds
at_mark m = code (k.Mark m) ∷ []

abbrev pub at_name : Kinds
at_name = code k.Name ∷ []

abbrev pub at_number : Kinds
at_number = code (k.Int (pos 0)) ∷ []

abbrev pub at_string : Kinds
at_string = code k.Str ∷ []

-- by the next token
abbrev pub choose : {A : Type 0} → Kinds → Reader A → Reader A → Reader A
choose ks p q = λ a. if heads ks a then p a else q a

-- by a test of what comes next
abbrev pub choose_by : {A : Type 0} → (Lexemes → Bool) → Reader A → Reader A → Reader A
choose_by test p q = λ a. if test a then p a else q a

abbrev pub opt : {A : Type 0} → Kinds → Reader A → Reader (Option A)
opt ks p = choose ks (do x ← p; pure (Some x)) (pure None)

-- [ 'w' ], by whether it stands there
unfoldable pub has_word : Keyword → Reader Bool
has_word w = choose (at_word w) (word w >> pure true) (pure false)

-- at most as many times as the number says, while the next token is one of these
unfoldable pub many_from : {A : Type 0} → Kinds → Reader A → ℕ → Reader (List A)
many_from ks p zero = pure []
many_from ks p (suc n) = choose ks (do x ← p; xs ← many_from ks p n; pure (x ∷ xs)) (pure [])

abbrev pub many : {A : Type 0} → Kinds → Reader A → Reader (List A)
many ks p = λ a. many_from ks p (length a) a

-- the same of a reader of lists, whose lists are put together
abbrev pub flat_from : {A : Type 0} → Kinds → Reader (List A) → ℕ → Reader (List A)
flat_from ks p n = λ a. and_then (many_from ks p n a) (λ xss. pure (joined xss))

abbrev pub flat : {A : Type 0} → Kinds → Reader (List A) → Reader (List A)
flat ks p = λ a. flat_from ks p (length a) a

-- ---- what code ensures

-- what a function that reads answers: the reader's answer, unless it is want of memory. After a fault the tokens that are left
-- begin with the one that is refused.
abbrev pub Gives : {A : Type 0} → Answer A → Result A Fault → Lexemes → Type 0
Gives answer (Ok x) left = answer ≡ Good x left
Gives answer (Err fault) left = fault ≢ Memory → answer ≡ Failed fault left
