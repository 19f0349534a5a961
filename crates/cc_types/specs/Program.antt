-- Well-formed programs.
use Rattle.std.specs.Prelude.{ℕ, ◌≡◌, Bool, List, [], ◌∷◌, length, bytes_eq, codes, if◌then◌else◌, Option, Some, None, Result, Ok, Err}
use Rattle.cc_blocking.specs.Conduct.{MayBlock, AreMarks}
use Rattle.cc_blocking.specs.declared.conduct.Conduct.{Conduct}
use Rattle.cc_core.specs.declared.program.Program.{Program as CoreProgram}
use Rattle.cc_grammar.specs.Lexeme.{Lexemes}
use Rattle.cc_grammar.specs.Program.{Spells}
use Rattle.cc_names.specs.Broken.{Answers, fault_of}
use Rattle.cc_names.specs.Group.{first_group}
use Rattle.cc_names.specs.Names.{NameTables, names_of}
use Rattle.cc_names.specs.declared.broken.Broken.{Broken}
use Rattle.cc_names.specs.declared.broken.TypeFault.{TypeFault}
use Rattle.cc_scopes.specs.declared.sharing.Share.{Share}
use Rattle.cc_tree.specs.declared.declarations.Item.{Item}
use Rattle.cc_tree.specs.declared.declarations.Item.TheVariants as item
use Rattle.cc_tree.specs.declared.declarations.Program.{Program}
use Rattle.cc_types.specs.declared.checked.Found.{Found}
use Rattle.cc_types.specs.declared.elaboration.Elaboration.{Elaboration}
use Rattle.cc_types.specs.Elaboration.{read, elaboration_of}

-- some tokens spell it
abbrev pub IsSpelled : Program → Type 0
IsSpelled p = (tokens : Lexemes) × Spells tokens p

abbrev pub elaborated : Program → Elaboration
elaborated p = elaboration_of (names_of p.items) p.items

-- The second group of rules is tried where none of the first is broken.
abbrev pub first_or : List Broken → List Broken → List Broken
first_or [] second = second
first_or (b ∷ more) second = b ∷ more

-- the rules and limits that are broken
abbrev pub rules_broken : Program → List Broken
rules_broken p = first_or (first_group p.items) (elaborated p).broken

abbrev pub IsWellFormed : Program → Type 0
IsWellFormed p = rules_broken p ≡ []

-- ---- what a well-formed program is

abbrev pub core_program : Program → CoreProgram
core_program p = (elaborated p).core

abbrev pub rules_shared : Program → List Share
rules_shared p = (elaborated p).shared

-- what each function does that an atomic function may not
abbrev pub conducts_of : Program → List Conduct
conducts_of p = (read (names_of p.items) p.items).0.conducts

-- a function that does what an atomic function may not, itself or by a call
abbrev pub Blocks : Program → ℕ → Type 0
Blocks p f = MayBlock (conducts_of p) f

-- the number of parameters of `main`
abbrev pub main_params : List Item → ℕ
main_params [] = 0
main_params (item.Const name value line ∷ more) = main_params more
main_params (item.Class class ∷ more) = main_params more
main_params (item.Func f ∷ more) = if bytes_eq f.name (codes "main") then length f.params else main_params more

-- what is found of a program
pub record IsFound (p : Program) (names : NameTables) (core : CoreProgram) (blocking : List Bool) (shared : List Share) (params : ℕ) : Type 0 where
  pub well_formed : IsWellFormed p
  pub names_are : names ≡ names_of p.items
  pub core_is : core ≡ core_program p
  pub blocking_are : AreMarks (conducts_of p) blocking
  pub shared_are : shared ≡ rules_shared p
  pub params_are : params ≡ main_params p.items

-- what a checked program keeps
abbrev pub IsChecked : Program → NameTables → CoreProgram → List Bool → List Share → ℕ → Type 0
IsChecked p names core blocking shared params = IsSpelled p × IsFound p names core blocking shared params

-- ---- answers

abbrev pub IsUnless : Option Broken → Result (Unit {0}) TypeFault → Type 0
IsUnless None (Ok u) = Unit {0}
IsUnless None (Err f) = ⊥
IsUnless (Some b) r = r ≡ Err (fault_of b)

-- what is found where no rule is broken, and else the answer
abbrev pub Finds : Program → Result Found TypeFault → Type 0
Finds p (Ok f) = IsFound p f.names f.made.core f.made.blocking f.made.shared f.main_parameters
Finds p (Err fault) = Answers {A = Program} (rules_broken p) p (Err fault)
