-- Sources, and why one is refused.
use Rattle.std.specs.Prelude.{◌≡◌, ℕ, List, [], ◌++◌, Some, codes, decimal}
use Rattle.cc_lexer.specs.declared.fault.LexFault.{LexFault}
use Rattle.cc_lexer.specs.declared.fault.LexFault.TheVariants as lex
use Rattle.cc_lexer.specs.declared.token.Token.{Token}
use Rattle.cc_lexer.specs.Cut.{Cut}
use Rattle.cc_lexer.specs.Faults.{FirstFault}
use Rattle.cc_lexer.specs.Lexemes.{lexemes}
use Rattle.cc_tree.specs.declared.declarations.Program.{Program}
use Rattle.cc_grammar.specs.Program.{Spells}
use Rattle.cc_parser.specs.declared.fault.ParseFault.{ParseFault}
use Rattle.cc_parser.specs.declared.fault.ParseFault.TheVariants as parse
use Rattle.cc_parser.specs.Faults.{line_at}
use Rattle.cc_parser.specs.Faults as faults
use Rattle.cc_names.specs.Broken.{least}
use Rattle.cc_names.specs.Rules.{rule_name, limit_name}
use Rattle.cc_names.specs.declared.broken.Broken.TheVariants.{Rule, Limit}
use Rattle.cc_names.specs.declared.broken.TypeFault.{TypeFault}
use Rattle.cc_names.specs.declared.broken.TypeFault.TheVariants as type
use Rattle.cc_types.specs.Program.{IsWellFormed, rules_broken}
use Rattle.ccpp_source.specs.declared.source.Refusal.{Refusal}
use Rattle.ccpp_source.specs.declared.source.Refusal.TheVariants.{Lex, Parse, Static, Memory}

-- the text is cut into tokens, and these spell the program
pub record IsProgramText (text : List ℕ) (program : Program) : Type 0 where
  pub tokens : List Token
  pub cut : Cut text tokens
  pub spelled : Spells (lexemes text tokens) program

abbrev pub IsNoProgramText : List ℕ → Type 0
IsNoProgramText text = (program : Program) → IsProgramText text program → ⊥

-- a source is the text of a program that breaks no static rule
pub record IsSource (text : List ℕ) (program : Program) : Type 0 where
  pub is_text : IsProgramText text program
  pub well_formed : IsWellFormed program

abbrev pub IsNoSource : List ℕ → Type 0
IsNoSource text = (program : Program) → IsSource text program → ⊥

-- ---- why a source is refused

-- the number of the token that is refused
abbrev pub place_of : ParseFault → ℕ
place_of (parse.Syntax at) = at
place_of (parse.TooDeep at) = at
place_of parse.Memory = 0

-- it is cut into tokens, and these stop being the front of a program at a token of this line
pub record IsMisread (text : List ℕ) (fault : ParseFault) (line : ℕ) : Type 0 where
  pub tokens : List Token
  pub cut : Cut text tokens
  pub refused : faults.IsRefusedFor (lexemes text tokens) fault
  pub has_line : line ≡ line_at tokens (place_of fault)

-- of the broken rules and limits this is the first: those of the first group come first, then the least line, then the least number
abbrev pub IsFirstBroken : Program → TypeFault → Type 0
IsFirstBroken program (type.Rule rule line) = least (rules_broken program) ≡ Some (Rule rule line)
IsFirstBroken program (type.Limit which line) = least (rules_broken program) ≡ Some (Limit which line)
IsFirstBroken program type.Memory = ⊥

-- it is the text of a program that breaks this rule first
pub record IsIllFormed (text : List ℕ) (fault : TypeFault) : Type 0 where
  pub program : Program
  pub is_text : IsProgramText text program
  pub broken : IsFirstBroken program fault

-- this is why it is refused
abbrev pub IsRefusedFor : List ℕ → Refusal → Type 0
IsRefusedFor text (Lex fault) = FirstFault text fault × IsNoProgramText text
IsRefusedFor text (Parse fault line) = IsMisread text fault line × IsNoProgramText text
IsRefusedFor text (Static fault) = IsIllFormed text fault × IsNoSource text
IsRefusedFor text Memory = ⊥

abbrev pub lex_fault_text : LexFault → List ℕ
lex_fault_text lex.TooLong = codes "TooLong"
lex_fault_text (lex.BadByte at) = codes "BadByte at " ++ decimal at
lex_fault_text (lex.OpenComment at) = codes "OpenComment at " ++ decimal at
lex_fault_text (lex.OpenString at) = codes "OpenString at " ++ decimal at
lex_fault_text (lex.LongName at) = codes "LongName at " ++ decimal at
lex_fault_text (lex.NumberTooLarge at) = codes "NumberTooLarge at " ++ decimal at
lex_fault_text lex.Memory = []

abbrev pub parse_fault_text : ParseFault → List ℕ
parse_fault_text (parse.Syntax at) = codes "Syntax at " ++ decimal at
parse_fault_text (parse.TooDeep at) = codes "TooDeep at " ++ decimal at
parse_fault_text parse.Memory = []

abbrev pub in_line : List ℕ → (line : ℕ) → List ℕ
in_line fault line = fault ++ (codes " line " ++ decimal line)

abbrev pub type_fault_text : TypeFault → List ℕ
type_fault_text (type.Rule rule line) = in_line (rule_name rule) line
type_fault_text (type.Limit which line) = in_line (limit_name which) line
type_fault_text type.Memory = []

-- what is answered, without the end of its line
abbrev pub refusal_text : Refusal → List ℕ
refusal_text (Lex fault) = codes "refused lex " ++ lex_fault_text fault
refusal_text (Parse fault line) = codes "refused parse " ++ in_line (parse_fault_text fault) line
refusal_text (Static fault) = codes "refused type " ++ type_fault_text fault
refusal_text Memory = []

-- ---- the fault of a part as a refusal

abbrev pub lex_refusal : LexFault → Refusal
lex_refusal lex.Memory = Memory
lex_refusal fault = Lex fault

abbrev pub parse_refusal : List Token → ParseFault → Refusal
parse_refusal tokens parse.Memory = Memory
parse_refusal tokens fault = Parse fault (line_at tokens (place_of fault))

abbrev pub type_refusal : TypeFault → Refusal
type_refusal type.Memory = Memory
type_refusal fault = Static fault
