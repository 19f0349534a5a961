use Rattle.std.proofs.Common.{◌≡◌, drop}
use Rattle.cc_types.specs.Program.{main_params}
use Rattle.cc_types.proofs.checked.main_parameters.Given as goal

abbrev pub invariant-loop-item : goal.invariant-loop-item
invariant-loop-item l = main_params (drop l.item-index l.items) ≡ main_params l.items
