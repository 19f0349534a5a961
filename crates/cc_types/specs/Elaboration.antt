-- What is made of a program whose names are known, and the rules of the second group that it breaks.
use Rattle.std.specs.Prelude.{ℕ, Bool, List, ◌++◌, Option, Some, None, codes}
use Rattle.cc_blocking.specs.Rounds.{may_block, atomic_rules}
use Rattle.cc_core.specs.declared.program.Program.{Program}
use Rattle.cc_functions.specs.declared.done.Done.{Done}
use Rattle.cc_functions.specs.Items.{items}
use Rattle.cc_names.specs.Names.{NameTables, function_named}
use Rattle.cc_names.specs.declared.broken.Broken.{Broken}
use Rattle.cc_names.specs.declared.declarations.FunId.{FunId}
use Rattle.cc_scopes.specs.declared.sharing.Share.{Share}
use Rattle.cc_scopes.specs.declared.state.State.{State}
use Rattle.cc_scopes.specs.Elab.{nothing_yet}
use Rattle.cc_tables.specs.Tables.{tables_of}
use Rattle.cc_tree.specs.declared.declarations.Item.{Item}
use Rattle.cc_types.specs.declared.elaboration.Elaboration.{Elaboration}

-- the items of a program, read in order
unfoldable pub read : NameTables → List Item → Done × State
read names xs = items names (tables_of names xs) xs nothing_yet

abbrev pub number_of : Option FunId → ℕ
number_of None = 0
number_of (Some f) = f.0

-- the number of the function `main`
abbrev pub main_of : NameTables → ℕ
main_of names = number_of (function_named names (codes "main"))

abbrev pub core_of : NameTables → Done → Program
core_of names done = record { functions = done.functions; classes = done.classes; main = main_of names }

-- what is noted on the way, and what atomic functions break by their calls
abbrev pub made_of : NameTables → Done × State → Elaboration
made_of names r = record {
  core = core_of names r.0;
  blocking = may_block r.0.conducts;
  broken = r.1.broken ++ atomic_rules r.0.conducts (may_block r.0.conducts);
  shared = r.1.shared;
}

unfoldable pub elaboration_of : NameTables → List Item → Elaboration
elaboration_of names xs = made_of names (read names xs)
