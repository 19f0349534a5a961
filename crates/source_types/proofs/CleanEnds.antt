-- What is known where a reading ends without a broken rule.
use Rattle.std.proofs.Common.{Bool, true, false, List, [], refl, sym, append-nil, inl}
use Rattle.std.specs.FinMap as fin
use Rattle.cc_core.specs.Core as core
use Rattle.cc_functions.specs.Constructors.{other, refused}
use Rattle.cc_scopes.specs.declared.state.State.{State}
use Rattle.cc_scopes.specs.declared.types.Declared.{Declared}
use Rattle.cc_scopes.specs.Scope.{Context}
use Rattle.cc_source.proofs.Fits.{Clean}
use Rattle.cc_shared.proofs.FunctionLaws.{inner, after_params, after_body}
use Rattle.cc_tree.specs.declared.declarations.Function.{Function}
use Rattle.cc_tree.specs.declared.statements.Stmt.{Stmt}
use Rattle.core_types.specs.Types.{Types}
use Rattle.core_types.specs.Typing.{nowhere}
use Rattle.core_types.specs.Values.{World}
use Rattle.source_types.specs.Reading.{Grown, Ends}
use Rattle.source_types.proofs.StateLaws.{not_empty}
use Rattle.source_types.proofs.StatementLaws.{function_body_g}

-- ---- where nothing is known

abbrev pub no_program : core.Program
no_program = record { functions = []; classes = []; main = 0 }

abbrev pub no_tables : Types
no_tables = record { functions = []; classes = [] }

abbrev pub no_world : World
no_world = record { objects = fin.empty; threads = fin.empty }

-- what may wait
abbrev pub free : List Declared → Grown
free made = record { made = made; waits = true; calm = λ f. false }

pub clean_ends : (s : State) → Clean s → Ends (free s.made) s
clean_ends s q = (q, inl refl, [], sym (append-nil s.made))

-- ---- functions

-- so what is known at the end of a body is known before it
pub body_ends : (cx : Context) (m : Bool) (f : Function) (grown : Grown) (s : State) → Ends grown (after_body cx m f s).1 → Ends grown (after_params cx m f s).1
body_ends cx m f grown s e = ((function_body_g no_program no_tables no_world [] ⊥ grown nowhere (inner cx m f s) []
    (record { stands = λ x. absurd x; vars = λ x. absurd x; returns = λ x. absurd x }) f.body).go (after_params cx m f s).1 e).0

-- ---- constructors

-- a statement that is no assignment breaks a rule
pub other_never : (cx : Context) (b : Stmt) (s : State) → Clean (other cx b s).1 → ⊥
unfolding other refused
other_never cx b s q = not_empty _ _ q
