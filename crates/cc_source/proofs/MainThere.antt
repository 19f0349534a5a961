-- The function `main` is one of what the front end leaves of a well-formed program.
use Rattle.std.proofs.Common.{◌≡◌, ◌<◌, length, map, None, sym, subst, ◌∙◌}
use Rattle.std.proofs.lemmas.List.{length-map}
use Rattle.cc_core.specs.View.{function_of, program_of}
use Rattle.cc_core.specs.declared.program.Program.{Program as TextProgram}
use Rattle.cc_functions.specs.Items.{nothing_done}
use Rattle.cc_names.specs.Names.{names_of}
use Rattle.cc_scopes.specs.Elab.{nothing_yet}
use Rattle.cc_scopes.specs.Scope.{Context}
use Rattle.cc_scopes.specs.declared.tables.Signature.{Signature}
use Rattle.cc_tables.specs.Tables.{outside, functions_of, tables_of}
use Rattle.cc_tree.specs.declared.declarations.Program.{Program}
use Rattle.cc_types.specs.Elaboration.{main_of}
use Rattle.cc_types.specs.Program.{IsWellFormed, core_program}
use Rattle.cc_source.proofs.CountLaws.{arity_of, functions_counted, items_arities}
use Rattle.cc_source.proofs.TableLaws.{got_below, same_length}
use Rattle.cc_source.proofs.ProgramLaws.{file_keeps, done_of, core_is}
use Rattle.cc_source.proofs.MainLaws.{some_main, main_has_its_number}

module _ (p : Program) (well : IsWellFormed p) where
  -- where functions are looked at does not count
  here : Context
  here = outside (names_of p.items) (tables_of (names_of p.items) p.items) 0 None 0

  as_many : length (done_of p).functions ≡ length (functions_of here p.items)
  unfolding done_of
  as_many =
      same_length arity_of (λ (g : Signature). length g.params) (done_of p).functions (functions_of here p.items)
      (items_arities (names_of p.items) (tables_of (names_of p.items) p.items) 0 0 nothing_done p.items nothing_yet
      ∙ sym (functions_counted here p.items))

  below : main_of (names_of p.items) < length (done_of p).functions
  below =
      let m = some_main here p.items (file_keeps p well).main in
      let number : main_of (names_of p.items) ≡ m.number = main_has_its_number p.items (file_keeps p well).names here m.number m.found m.is m.main in
      subst (λ k. main_of (names_of p.items) < k) (sym as_many)
      (subst (λ i. i < length (functions_of here p.items)) (sym number) (got_below (functions_of here p.items) m.number m.found m.is))

  among : main_of (names_of p.items) < length (map function_of (done_of p).functions)
  among = subst (λ k. main_of (names_of p.items) < k) (sym (length-map (done_of p).functions function_of)) below

  pub core_main_is_there : (program_of (core_program p)).main < length (program_of (core_program p)).functions
  core_main_is_there = subst (λ (core : TextProgram). (program_of core).main < length (program_of core).functions) (sym (core_is p)) among
