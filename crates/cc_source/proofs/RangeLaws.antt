-- In the core of a well-formed program all is in range.
use Rattle.cc_core.specs.View.{program_of}
use Rattle.cc_tree.specs.declared.declarations.Program.{Program}
use Rattle.cc_types.specs.Program.{IsWellFormed, core_program}
use Rattle.cc_valid.specs.Ranges.{InRange}
use Rattle.cc_source.proofs.ProgramLaws.{core_fits}

pub core_is_in_range : (p : Program) → IsWellFormed p → InRange (program_of (core_program p))
core_is_in_range p well g below = let fits = core_fits p well g below in record { params = fits.1; body = fits.0.1 }
