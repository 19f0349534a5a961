-- Why a list of tokens is refused.
use Rattle.std.specs.Prelude.{ℕ, ◌-◌, List, length, Option, Some, None, slice_get}
use Rattle.cc_lexer.specs.declared.token.Token.{Token}
use Rattle.cc_tree.specs.declared.declarations.Program.{Program}
use Rattle.cc_grammar.specs.declared.fault.Fault.{Fault}
use Rattle.cc_grammar.specs.declared.fault.Fault.TheVariants as fault
use Rattle.cc_grammar.specs.Lexeme.{Lexemes}
use Rattle.cc_grammar.specs.Program.{Spells}
use Rattle.cc_grammar.specs.Places.{IsSyntaxAt, IsTooDeepAt}
use Rattle.cc_parser.specs.declared.fault.ParseFault.{ParseFault}
use Rattle.cc_parser.specs.declared.fault.ParseFault.TheVariants.{Syntax, TooDeep, Memory}

abbrev pub SpellNone : Lexemes → Type 0
SpellNone tokens = (p : Program) → Spells tokens p → ⊥

-- they spell no program, and this is the place at which they stop being the front of one
abbrev pub IsRefusedFor : Lexemes → ParseFault → Type 0
IsRefusedFor tokens (Syntax at) = SpellNone tokens × IsSyntaxAt tokens at
IsRefusedFor tokens (TooDeep at) = SpellNone tokens × IsTooDeepAt tokens at
IsRefusedFor tokens Memory = ⊥

-- the fault of a reader that stands at this place
abbrev pub fault_at : Fault → ℕ → ParseFault
fault_at fault.Syntax at = Syntax at
fault_at fault.TooDeep at = TooDeep at
fault_at fault.Memory at = Memory

-- ---- lines

abbrev line_or : ℕ → Option Token → ℕ
line_or line None = line
line_or line (Some token) = token.line

-- the line of the last token, and 1 where there is none
abbrev pub last_line : List Token → ℕ
last_line tokens = line_or 1 (slice_get tokens (length tokens - 1))

-- the line of the token with this number; behind all of them that of the last one
abbrev pub line_at : List Token → ℕ → ℕ
line_at tokens at = line_or (last_line tokens) (slice_get tokens at)
