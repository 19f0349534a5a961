-- The load program is a source.
use Rattle.std.proofs.Common.{◌≡◌, ℕ, ◌+◌, ◌≤◌, true, List, [], ◌++◌, length, refl, sym, subst, ◌∙◌, arith, decimal}
use Rattle.std.specs.Prelude.{◌%◌, codes}
use Rattle.std.proofs.lemmas.Bool.{le-leb}
use Rattle.std.proofs.lemmas.Fmt.{length-decimal-le_succ}
use Rattle.cc_tree.specs.declared.declarations.Program.{Program}
use Rattle.cc_lexer.specs.declared.token.Token.{Token}
use Rattle.cc_lexer.specs.Spelling.{Text, decimal_value}
use Rattle.cc_lexer.specs.Cut.{largest_number, longest_text, Cut}
use Rattle.cc_lexer.specs.Lexemes.{lexemes}
use Rattle.cc_lexer.proofs.Blanks.{include_next}
use Rattle.cc_lexer.proofs.Outcomes.{one_cut}
use Rattle.cc_grammar.specs.Program.{Spells}
use Rattle.cc_grammar.specs.ReadItems as read
use Rattle.cc_grammar.proofs.Top.{found, one}
use Rattle.cc_types.specs.Program.{rules_broken, rules_shared, main_params}
use Rattle.ccpp_source.specs.Source.{IsProgramText, IsSource}
use Rattle.ccpp_gen.specs.LoadSource.{load_source}
use Rattle.ccpp_gen.proofs.Texts.{whole, source_is}
use Rattle.load_is_a_program.proofs.Lexing.{Lexemes, text_of, lexemes_of, all_fit, Reaches, at_start, after_blank, read_all, cut_of}
use Rattle.load_is_a_program.proofs.Parse.{tokens, program_of, reads}
use Rattle.load_is_a_program.proofs.Rules.{keeps_rules}
use Rattle.load_is_a_program.proofs.Pieces.{pieces, pieces_are, lexemes_are, all_fit_in, size_is}
use Rattle.load_is_a_program.proofs.Numbers.{decimal_number, decimal_is}

-- ---- with these texts of its two numbers

module _ (cells wide : Text) where
  abbrev text : Text
  text = whole cells wide

  abbrev lexed : Lexemes
  lexed = tokens (decimal_value cells) cells (decimal_value wide) wide

  -- the program that its tokens spell
  abbrev program : Program
  program = program_of (read.program 64 lexed)

  -- behind the include line
  begun : Reaches text (text_of (pieces cells wide)) 1 []
  begun = after_blank text text 1 [] (at_start text) (text_of (pieces cells wide)) 21 0 (include_next [] text (codes " <iostream.h>" ++ text_of (pieces cells wide), pieces_are cells wide) refl) refl

  module _ (fit : all_fit (pieces cells wide) ≡ true) (short : length text ≤ longest_text) where
    cut : (found : List Token) × Cut text found × (lexemes text found ≡ lexed)
    cut =
        let r = read_all text (pieces cells wide) 1 [] fit begun in
        let c = cut_of text r.0 (lexemes_of 1 (pieces cells wide)) short r.1 in
        (c.0, c.1, c.2 ∙ lexemes_are cells wide)

    is_program_text : IsProgramText text program
    is_program_text = record {
      tokens = cut.0;
      cut = cut.1;
      spelled = subst (λ l. Spells l program) (sym cut.2) (found lexed [] program (reads (decimal_value cells) cells (decimal_value wide) wide) refl);
    }

-- ---- of a size

module _ (n : ℕ) (some : 1 ≤ n) (most : n ≤ 10000) where
  abbrev cells : Text
  cells = decimal (1 + n % 8)

  abbrev wide : Text
  wide = decimal n

  many : (1 ≤ 1 + n % 8) × (1 + n % 8 ≤ 8)
  many = (omega arith, omega arith)

  cells_are : decimal_value cells ≡ 1 + n % 8
  cells_are = decimal_is (1 + n % 8) (omega arith) (omega (arith, many.1))

  wide_is : decimal_value wide ≡ n
  wide_is = decimal_is n some (omega arith)

  short : length (whole cells wide) ≤ longest_text
  short = omega (arith, size_is cells wide, length-decimal-le_succ n (omega arith), length-decimal-le_succ (1 + n % 8) (omega (arith, many.1)), many.1)

  fit : all_fit (pieces cells wide) ≡ true
  fit = all_fit_in cells wide (decimal_number (1 + n % 8) (omega arith) (omega (arith, many.1))) (le-leb (decimal_value cells) largest_number (omega (arith, cells_are, many.1)))
      (decimal_number n some (omega arith)) (le-leb (decimal_value wide) largest_number (omega (arith, wide_is)))

  is_text : IsProgramText (whole cells wide) (program cells wide)
  is_text = is_program_text cells wide fit short

  rules : (rules_broken (program cells wide) ≡ []) × (main_params (program cells wide).items ≡ 0) × (rules_shared (program cells wide) ≡ [])
  rules = keeps_rules (decimal_value cells) (omega (arith, cells_are)) (omega (arith, cells_are, many.1)) (decimal_value wide) cells wide

  pub load_is_source : (p : Program) × IsSource (load_source n) p × (main_params p.items ≡ 0) × (rules_shared p ≡ [])
  load_is_source =
      let is : IsSource (whole cells wide) (program cells wide) = record { is_text = is_text; well_formed = rules.0 } in
      (program cells wide, subst (λ t. IsSource t (program cells wide)) (sym (source_is n)) is, rules.1, rules.2)

-- a text is that of one program
pub one_program : (text : List ℕ) (p q : Program) → IsProgramText text p → IsProgramText text q → p ≡ q
one_program text p q h i =
    let e : i.tokens ≡ h.tokens = one_cut text i.tokens h.tokens i.cut h.cut in
    let s : Spells (lexemes text h.tokens) q = subst (λ t. Spells (lexemes text t) q) e i.spelled in
    one (lexemes text h.tokens) p q h.spelled s
