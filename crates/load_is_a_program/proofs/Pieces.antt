-- The load program as pieces, and how long it is.
use Rattle.std.proofs.Common.{◌≡◌, ◌+◌, List, [], ◌∷◌, ◌++◌, length, true, refl, arith, length-append}
use Rattle.std.specs.Prelude.{codes, nat_le}
use Rattle.cc_lexer.specs.declared.token.Keyword.TheVariants as w
use Rattle.cc_lexer.specs.declared.token.Mark.TheVariants as m
use Rattle.cc_lexer.specs.Spelling.{Text, is_number, decimal_value}
use Rattle.cc_lexer.specs.Cut.{largest_number}
use Rattle.ccpp_gen.proofs.Texts.{first, second, third, whole}
use Rattle.load_is_a_program.proofs.Lexing.{Part, space, word, symbol, name, number, string, text_of, lexemes_of, all_fit}
use Rattle.load_is_a_program.proofs.Parse.{tokens}

module _ (cells wide : Text) where
  -- what stands behind the include line
  abbrev pub pieces : List Part
  pieces =
      space 10
      ∷ word w.Const ∷ space 32 ∷ word w.Int ∷ space 32 ∷ name (codes "CELLS") ∷ space 32 ∷ symbol m.Assign ∷ space 32 ∷ number cells
      ∷ symbol m.Semicolon ∷ space 10
      ∷ word w.Const ∷ space 32 ∷ word w.Int ∷ space 32 ∷ name (codes "WIDE") ∷ space 32 ∷ symbol m.Assign ∷ space 32 ∷ number wide
      ∷ symbol m.Semicolon ∷ space 10
      ∷ word w.Global ∷ space 32 ∷ word w.Class ∷ space 32 ∷ name (codes "Cell") ∷ space 32 ∷ symbol m.OpenBrace ∷ space 10
      ∷ word w.Public ∷ symbol m.Colon ∷ space 10
      ∷ space 32 ∷ space 32 ∷ word w.Int ∷ space 32 ∷ name (codes "own") ∷ symbol m.Semicolon ∷ space 10
      ∷ space 32 ∷ space 32 ∷ name (codes "Cell") ∷ space 32 ∷ symbol m.Star ∷ word w.Global ∷ space 32 ∷ word w.Sync ∷ space 32
      ∷ name (codes "next") ∷ symbol m.Semicolon ∷ space 10
      ∷ space 32 ∷ space 32 ∷ name (codes "Cell") ∷ symbol m.OpenParen ∷ word w.Int ∷ space 32 ∷ name (codes "k")
      ∷ symbol m.CloseParen ∷ space 32 ∷ symbol m.OpenBrace ∷ space 32 ∷ name (codes "own") ∷ space 32 ∷ symbol m.Assign ∷ space 32
      ∷ name (codes "k") ∷ symbol m.Semicolon ∷ space 32 ∷ symbol m.CloseBrace ∷ space 10
      ∷ space 32 ∷ space 32 ∷ word w.Int ∷ space 32 ∷ name (codes "pass") ∷ symbol m.OpenParen ∷ word w.Int ∷ space 32
      ∷ name (codes "hops") ∷ symbol m.Comma ∷ space 32 ∷ word w.Int ∷ space 32 ∷ name (codes "sum") ∷ symbol m.CloseParen ∷ space 32
      ∷ symbol m.OpenBrace ∷ space 10
      ∷ space 32 ∷ space 32 ∷ space 32 ∷ space 32 ∷ word w.If ∷ space 32 ∷ symbol m.OpenParen ∷ name (codes "hops") ∷ space 32
      ∷ symbol m.Equal ∷ space 32 ∷ number (codes "0") ∷ symbol m.CloseParen ∷ space 32 ∷ word w.Return ∷ space 32
      ∷ name (codes "sum") ∷ symbol m.Semicolon ∷ space 10
      ∷ space 32 ∷ space 32 ∷ space 32 ∷ space 32 ∷ word w.Return ∷ space 32 ∷ name (codes "next") ∷ symbol m.Arrow
      ∷ name (codes "pass") ∷ symbol m.OpenParen ∷ name (codes "hops") ∷ space 32 ∷ symbol m.Minus ∷ space 32 ∷ number (codes "1")
      ∷ symbol m.Comma ∷ space 32 ∷ name (codes "sum") ∷ space 32 ∷ symbol m.Plus ∷ space 32 ∷ name (codes "own")
      ∷ symbol m.CloseParen ∷ symbol m.Semicolon ∷ space 10
      ∷ space 32 ∷ space 32 ∷ symbol m.CloseBrace ∷ space 10
      ∷ symbol m.CloseBrace ∷ symbol m.Semicolon ∷ space 10
      ∷ word w.Int ∷ space 32 ∷ name (codes "tree") ∷ symbol m.OpenParen ∷ word w.Int ∷ space 32 ∷ name (codes "lo") ∷ symbol m.Comma
      ∷ space 32 ∷ word w.Int ∷ space 32 ∷ name (codes "hi") ∷ symbol m.CloseParen ∷ space 32 ∷ symbol m.OpenBrace ∷ space 10
      ∷ space 32 ∷ space 32 ∷ word w.If ∷ space 32 ∷ symbol m.OpenParen ∷ name (codes "hi") ∷ space 32 ∷ symbol m.Minus ∷ space 32
      ∷ name (codes "lo") ∷ space 32 ∷ symbol m.Equal ∷ space 32 ∷ number (codes "1") ∷ symbol m.CloseParen ∷ space 32
      ∷ word w.Return ∷ space 32 ∷ name (codes "lo") ∷ symbol m.Semicolon ∷ space 10
      ∷ space 32 ∷ space 32 ∷ word w.Int ∷ space 32 ∷ name (codes "mid") ∷ space 32 ∷ symbol m.Assign ∷ space 32 ∷ symbol m.OpenParen
      ∷ name (codes "lo") ∷ space 32 ∷ symbol m.Plus ∷ space 32 ∷ name (codes "hi") ∷ symbol m.CloseParen ∷ space 32 ∷ symbol m.Slash
      ∷ space 32 ∷ number (codes "2") ∷ symbol m.Semicolon ∷ space 10
      ∷ space 32 ∷ space 32 ∷ word w.Sync ∷ space 32 ∷ word w.Int ∷ space 32 ∷ name (codes "a") ∷ symbol m.Comma ∷ space 32
      ∷ name (codes "b") ∷ symbol m.Semicolon ∷ space 10
      ∷ space 32 ∷ space 32 ∷ word w.Par ∷ space 32 ∷ symbol m.OpenBrace ∷ space 32 ∷ name (codes "a") ∷ space 32 ∷ symbol m.Assign
      ∷ space 32 ∷ name (codes "tree") ∷ symbol m.OpenParen ∷ name (codes "lo") ∷ symbol m.Comma ∷ space 32 ∷ name (codes "mid")
      ∷ symbol m.CloseParen ∷ symbol m.Semicolon ∷ space 32 ∷ name (codes "b") ∷ space 32 ∷ symbol m.Assign ∷ space 32
      ∷ name (codes "tree") ∷ symbol m.OpenParen ∷ name (codes "mid") ∷ symbol m.Comma ∷ space 32 ∷ name (codes "hi")
      ∷ symbol m.CloseParen ∷ symbol m.Semicolon ∷ space 32 ∷ symbol m.CloseBrace ∷ space 10
      ∷ space 32 ∷ space 32 ∷ word w.Return ∷ space 32 ∷ name (codes "a") ∷ space 32 ∷ symbol m.Plus ∷ space 32 ∷ name (codes "b")
      ∷ symbol m.Semicolon ∷ space 10
      ∷ symbol m.CloseBrace ∷ space 10
      ∷ word w.Int ∷ space 32 ∷ name (codes "main") ∷ symbol m.OpenParen ∷ symbol m.CloseParen ∷ space 32 ∷ symbol m.OpenBrace
      ∷ space 10
      ∷ space 32 ∷ space 32 ∷ name (codes "Cell") ∷ space 32 ∷ symbol m.Star ∷ word w.Global ∷ space 32 ∷ name (codes "c")
      ∷ symbol m.OpenBracket ∷ name (codes "CELLS") ∷ symbol m.CloseBracket ∷ symbol m.Semicolon ∷ space 10
      ∷ space 32 ∷ space 32 ∷ word w.For ∷ space 32 ∷ symbol m.OpenParen ∷ word w.Int ∷ space 32 ∷ name (codes "i") ∷ space 32
      ∷ symbol m.Assign ∷ space 32 ∷ number (codes "0") ∷ symbol m.Semicolon ∷ space 32 ∷ name (codes "i") ∷ space 32 ∷ symbol m.Less
      ∷ space 32 ∷ name (codes "CELLS") ∷ symbol m.Semicolon ∷ space 32 ∷ name (codes "i") ∷ symbol m.PlusPlus ∷ symbol m.CloseParen
      ∷ space 32 ∷ name (codes "c") ∷ symbol m.OpenBracket ∷ name (codes "i") ∷ symbol m.CloseBracket ∷ space 32 ∷ symbol m.Assign
      ∷ space 32 ∷ word w.New ∷ space 32 ∷ name (codes "Cell") ∷ symbol m.OpenParen ∷ name (codes "i") ∷ space 32 ∷ symbol m.Plus
      ∷ space 32 ∷ number (codes "1") ∷ symbol m.CloseParen ∷ symbol m.Semicolon ∷ space 10
      ∷ space 32 ∷ space 32 ∷ word w.Parfor ∷ space 32 ∷ symbol m.OpenParen ∷ word w.Int ∷ space 32 ∷ name (codes "i") ∷ space 32
      ∷ symbol m.Assign ∷ space 32 ∷ number (codes "0") ∷ symbol m.Semicolon ∷ space 32 ∷ name (codes "i") ∷ space 32 ∷ symbol m.Less
      ∷ space 32 ∷ name (codes "CELLS") ∷ symbol m.Semicolon ∷ space 32 ∷ name (codes "i") ∷ symbol m.PlusPlus ∷ symbol m.CloseParen
      ∷ space 32 ∷ name (codes "c") ∷ symbol m.OpenBracket ∷ name (codes "i") ∷ symbol m.CloseBracket ∷ symbol m.Arrow
      ∷ name (codes "next") ∷ space 32 ∷ symbol m.Assign ∷ space 32 ∷ name (codes "c") ∷ symbol m.OpenBracket ∷ symbol m.OpenParen
      ∷ name (codes "i") ∷ space 32 ∷ symbol m.Plus ∷ space 32 ∷ number (codes "1") ∷ symbol m.CloseParen ∷ space 32
      ∷ symbol m.Percent ∷ space 32 ∷ name (codes "CELLS") ∷ symbol m.CloseBracket ∷ symbol m.Semicolon ∷ space 10
      ∷ space 32 ∷ space 32 ∷ word w.Int ∷ space 32 ∷ name (codes "s") ∷ space 32 ∷ symbol m.Assign ∷ space 32 ∷ name (codes "c")
      ∷ symbol m.OpenBracket ∷ number (codes "0") ∷ symbol m.CloseBracket ∷ symbol m.Arrow ∷ name (codes "pass") ∷ symbol m.OpenParen
      ∷ name (codes "WIDE") ∷ symbol m.Comma ∷ space 32 ∷ number (codes "0") ∷ symbol m.CloseParen ∷ symbol m.Semicolon ∷ space 10
      ∷ space 32 ∷ space 32 ∷ word w.Int ∷ space 32 ∷ name (codes "t") ∷ space 32 ∷ symbol m.Assign ∷ space 32 ∷ name (codes "tree")
      ∷ symbol m.OpenParen ∷ number (codes "0") ∷ symbol m.Comma ∷ space 32 ∷ name (codes "WIDE") ∷ symbol m.CloseParen
      ∷ symbol m.Semicolon ∷ space 10
      ∷ space 32 ∷ space 32 ∷ word w.Cout ∷ space 32 ∷ symbol m.LessLess ∷ space 32 ∷ name (codes "s") ∷ space 32 ∷ symbol m.LessLess
      ∷ space 32 ∷ string (codes " ") ∷ space 32 ∷ symbol m.LessLess ∷ space 32 ∷ name (codes "t") ∷ space 32 ∷ symbol m.LessLess
      ∷ space 32 ∷ word w.Endl ∷ symbol m.Semicolon ∷ space 10
      ∷ space 32 ∷ space 32 ∷ word w.Return ∷ space 32 ∷ name (codes "s") ∷ space 32 ∷ symbol m.Plus ∷ space 32 ∷ name (codes "t")
      ∷ symbol m.Semicolon ∷ space 10
      ∷ symbol m.CloseBrace ∷ space 10
      ∷ []

  pub pieces_are : whole cells wide ≡ codes "#include <iostream.h>" ++ text_of pieces
  pieces_are = refl

  pub lexemes_are : lexemes_of 1 pieces ≡ tokens (decimal_value cells) cells (decimal_value wide) wide
  lexemes_are = refl

  pub all_fit_in : is_number cells ≡ true → nat_le (decimal_value cells) largest_number ≡ true → is_number wide ≡ true → nat_le (decimal_value wide) largest_number ≡ true → all_fit pieces ≡ true
  all_fit_in h i j k = rw (h, i, j, k) refl

  pub size_is : length (whole cells wide) ≡ 40 + (length cells + (19 + (length wide + 649)))
  size_is = omega (arith, length-append first (cells ++ (second ++ (wide ++ third))), length-append cells (second ++ (wide ++ third)), length-append second (wide ++ third), length-append wide third)
