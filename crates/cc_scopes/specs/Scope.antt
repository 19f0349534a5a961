-- What names are looked up in, and the variables in scope.
use Rattle.std.specs.Prelude.{ℕ, Bool, if◌then◌else◌, List, [], ◌∷◌, ◌++◌, length, drop, Option, Some, None, is_some, bytes_eq}
use Rattle.cc_names.specs.Names.{NameTables}
use Rattle.cc_names.specs.Table.{Name}
use Rattle.cc_names.specs.declared.broken.Broken.TheVariants.{Rule}
use Rattle.cc_names.specs.declared.declarations.ClassId.{ClassId}
use Rattle.cc_names.specs.declared.rule.StaticRule.TheVariants.{LocalTwice}
use Rattle.cc_scopes.specs.declared.scope.Scope.{Scope}
use Rattle.cc_scopes.specs.declared.scope.Found.{Found}
use Rattle.cc_scopes.specs.declared.state.Local.{Local}
use Rattle.cc_scopes.specs.declared.state.State.{State}
use Rattle.cc_scopes.specs.declared.tables.Tables.{Tables}
use Rattle.cc_scopes.specs.declared.types.Declared.{Declared}
use Rattle.cc_scopes.specs.declared.types.Ty.{Ty}
use Rattle.cc_scopes.specs.Elab.{Elab, ◌>>=◌, ◌>>◌, pure, note}

-- where an expression or a statement stands: see the Rust type `Scope`
pub record Context : Type 0 where
  pub names : NameTables
  pub tables : Tables
  pub known : ℕ
  pub class : Option ClassId
  pub result : Ty
  pub in_main : Bool
  pub in_constructor : Bool
  pub in_branch : Bool
  pub in_loop : Bool
  pub part : ℕ
  pub start : ℕ
  pub line : ℕ

abbrev pub context : Scope → Context
context s = record {
  names = s.names.now;
  tables = s.tables.now;
  known = s.known;
  class = s.class;
  result = s.result;
  in_main = s.in_main;
  in_constructor = s.in_constructor;
  in_branch = s.in_branch;
  in_loop = s.in_loop;
  part = s.part;
  start = s.start;
  line = s.line;
}

abbrev pub found_as : Local → Found
found_as l = record { number = l.number; declared = l.declared; part = l.part }

abbrev pub later : Name → Option Found → Local → Option Found
later name found l = if bytes_eq l.name name then Some (found_as l) else found

abbrev pub variable_from : Name → Option Found → List Local → Option Found
variable_from name found [] = found
variable_from name found (l ∷ ls) = variable_from name (later name found l) ls

-- the latest variable of a name
abbrev pub variable : Name → List Local → Option Found
variable name = variable_from name None

abbrev pub is_here : Context → Name → State → Bool
is_here cx name s = is_some (variable name (drop cx.start s.locals))

-- a second declaration in one scope breaks a rule
unfoldable pub twice : Context → Name → Elab (Unit {0})
twice cx name = λ s. if is_here cx name s then note (Rule LocalTwice cx.line) s else (tt, s)

-- from here on the name means this variable, which this parallel part declares
abbrev pub bring : Context → Name → ℕ → Declared → Elab (Unit {0})
bring cx name number declared = λ s.
    let local : Local = record { name = name; number = number; declared = declared; part = cx.part } in
    (tt, record s { locals = s.locals ++ local ∷ [] })

-- a new variable; its number is that of the variables before it in the function
abbrev pub number : Declared → Elab ℕ
number declared = λ s. (length s.made, record s { made = s.made ++ declared ∷ [] })

unfoldable pub declare : Context → Name → Declared → Elab ℕ
declare cx name declared = twice cx name >> (number declared >>= (λ k. bring cx name k declared >> pure k))
