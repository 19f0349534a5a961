-- What does not stand at a place of another class.
use Rattle.std.proofs.Common.{◌≡◌, ◌≢◌, ℕ, refl, ap, sym, ◌∙◌}
use Rattle.std.specs.Prelude.{codes, IsTrue}
use Rattle.cc_lexer.specs.declared.class.Class.{Class}
use Rattle.cc_lexer.specs.declared.class.Class.TheVariants as class
use Rattle.cc_lexer.specs.Spelling.{Text}
use Rattle.cc_lexer.specs.Cut.{Begins, is_indent, IsBlank, byte, line_comment, comment, include_line}
use Rattle.cc_lexer.specs.Next.{class_at}
use Rattle.cc_lexer.proofs.Moves.{blank_class, unslashed}

pub no_line_comment : (here : Text) (c : Class) → class_at here ≡ c → c ≢ class.LineComment → Begins here (codes "//") → ⊥
no_line_comment here c e apart b = apart (sym e ∙ ap class_at b.1)

pub no_comment : (here : Text) (c : Class) → class_at here ≡ c → c ≢ class.Comment → Begins here (codes "/*") → ⊥
no_comment here c e apart b = apart (sym e ∙ ap class_at b.1)

pub no_string : (here : Text) (c : Class) → class_at here ≡ c → c ≢ class.Quote → Begins here (codes "\"") → ⊥
no_string here c e apart b = apart (sym e ∙ ap class_at b.1 ∙ unslashed 34 b.0 refl)

-- a blank of no class of its own is an include line
pub only_include : (before here : Text) (n : ℕ) → IsBlank before here n → class_at here ≢ class.Blank → class_at here ≢ class.LineComment → class_at here ≢ class.Comment → Begins here (codes "#include") × IsTrue (is_indent before)
only_include before here _ (byte {b} {rest} e h) p q r = absurd (p (ap class_at e ∙ blank_class b rest h))
only_include before here _ (line_comment h) p q r = absurd (q (ap class_at h.1))
only_include before here _ (comment h i) p q r = absurd (r (ap class_at h.1))
only_include before here _ (include_line h i) p q r = (h, i)
