-- Tables of names.
use Rattle.std.specs.Prelude.{ℕ, if◌then◌else◌, List, [], ◌∷◌, ◌++◌, map, Option, Some, None, is_some, string_bytes, bytes_eq}
use Rattle.std.specs.declared.string.String.{String}
use Rattle.std.specs.declared.alloc.Global.{Global}
use Rattle.cc_names.specs.declared.broken.Broken.{Broken}
use Rattle.cc_names.specs.declared.broken.Broken.TheVariants.{Rule}
use Rattle.cc_names.specs.declared.rule.StaticRule.TheVariants.{NameTwice}

abbrev pub Name : Type 0
Name = List ℕ

-- names, with what they stand for
abbrev pub Table : Type 0 → Type 0
Table V = List (Name × V)

-- what a name stands for
abbrev pub entry : {V : Type 0} → Table V → Name → Option V
entry [] name = None
entry (e ∷ more) name = if bytes_eq name e.0 then Some e.1 else entry more name

abbrev pub text_entries : {V : Type 0} → List (String Global × V) → Table V
text_entries entries = map (λ e. (string_bytes e.0, e.1)) entries

-- a declaration: a name, its line, and what the name is to stand for
pub record Declared (V : Type 0) : Type 0 where
  pub name : Name
  pub line : ℕ
  pub value : V

abbrev pub declared : {V : Type 0} → Name → ℕ → V → Declared V
declared name line value = record { name = name; line = line; value = value }

-- a name that is in the table stays what it is
abbrev pub with_name : {V : Type 0} → Table V → Declared V → Table V
with_name table d = if is_some (entry table d.name) then table else table ++ (d.name, d.value) ∷ []

-- the table of some declarations, in their order: a name stands for what it is declared as first
abbrev pub once : {V : Type 0} → Table V → List (Declared V) → Table V
once table [] = table
once table (d ∷ more) = once (with_name table d) more

-- a name that was declared before breaks a rule, at the line of the later declaration
abbrev pub again : {V : Type 0} → Table V → Declared V → List Broken
again table d = if is_some (entry table d.name) then Rule NameTwice d.line ∷ [] else []

abbrev pub twice : {V : Type 0} → Table V → List (Declared V) → List Broken
twice table [] = []
twice table (d ∷ more) = again table d ++ twice (with_name table d) more
