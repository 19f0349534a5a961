-- The load program as what stands around its two numbers.
use Rattle.std.proofs.Common.{◌≡◌, ℕ, ◌+◌, List, [], ◌++◌, drop, ap, ◌∙◌, append_assoc}
use Rattle.std.specs.Prelude.{◌%◌, codes, decimal}
use Rattle.ccpp_gen.specs.LoadSource.{lines, text_of, load_source}

abbrev Text : Type 0
Text = List ℕ

abbrev pub first : Text
first = codes "#include <iostream.h>\nconst int CELLS = "

abbrev pub second : Text
second = codes ";\nconst int WIDE = "

-- the lines behind that of the width
abbrev pub after : Text
after = text_of (drop 3 (lines [] []))

abbrev pub third : Text
third = codes ";\n" ++ after

abbrev pub whole : (cells wide : Text) → Text
whole cells wide = first ++ (cells ++ (second ++ (wide ++ third)))

-- the line of the width with its end, and what stands behind it
abbrev wide_line : (wide : Text) → Text
wide_line wide = codes "const int WIDE = " ++ (((wide ++ codes ";") ++ codes "\n") ++ after)

nested : (a b c d : Text) → ((a ++ b) ++ c) ++ d ≡ a ++ (b ++ (c ++ d))
nested a b c d = append_assoc (a ++ b) c d ∙ append_assoc a b (c ++ d)

text_is : (cells wide : Text) → text_of (lines cells wide) ≡ whole cells wide
text_is cells wide =
    ap (λ t. first ++ t) (nested cells (codes ";") (codes "\n") (wide_line wide)
    ∙ ap (λ t. cells ++ (second ++ t)) (nested wide (codes ";") (codes "\n") after))

pub source_is : (n : ℕ) → load_source n ≡ whole (decimal (1 + n % 8)) (decimal n)
unfolding load_source
source_is n = text_is (decimal (1 + n % 8)) (decimal n)
