-- Reading parts between commas, of which there is at least one.
use Rattle.std.specs.Prelude.{List, ◌∷◌}
use Rattle.cc_grammar.specs.Reading.{Reader, ◌>>=◌, pure}
use Rattle.cc_grammar.specs.ReadExpressions.{commas}

unfoldable pub separated : {A : Type 0} → Reader A → Reader (List A)
separated p = do
  x ← p
  xs ← commas p
  pure (x ∷ xs)
