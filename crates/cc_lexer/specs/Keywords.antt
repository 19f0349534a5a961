-- The keywords in a list, and those of one length.
use Rattle.std.specs.Prelude.{ℕ, ◌==◌, List, [], ◌∷◌, length, filter}
use Rattle.cc_lexer.specs.declared.token.Keyword.{Keyword}
use Rattle.cc_lexer.specs.declared.token.Keyword.TheVariants as keyword
use Rattle.cc_lexer.specs.Spelling.{keyword_text}

abbrev pub keywords : List Keyword
keywords =
    keyword.Atomic ∷ keyword.Break ∷ keyword.Class ∷ keyword.Const ∷ keyword.Continue ∷ keyword.Cout ∷ keyword.Else ∷ keyword.Endl ∷ keyword.For ∷ keyword.Global ∷ keyword.If ∷ keyword.Int
    ∷ keyword.New ∷ keyword.Null ∷ keyword.Par ∷ keyword.Parfor ∷ keyword.Private ∷ keyword.Public ∷ keyword.Return ∷ keyword.Spawn ∷ keyword.Struct ∷ keyword.Sync ∷ keyword.This ∷ keyword.Void
    ∷ keyword.While ∷ []

abbrev pub keywords_of_length : ℕ → List Keyword
keywords_of_length n = filter (λ word. length (keyword_text word) == n) keywords
