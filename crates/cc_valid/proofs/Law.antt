-- The layout of a program is valid.
use Rattle.cc_core.specs.Core.{Program}
use Rattle.cc_core.specs.Source.{IsProgram}
use Rattle.cc_code.specs.Layout.{layout}
use Rattle.cc_code.specs.Valid.{IsValid}
use Rattle.cc_follows.proofs.ProgramDepths.{layout_has_depths}
use Rattle.cc_valid.specs.Ranges.{InRange}
use Rattle.cc_valid.proofs.Targets.{no_bad_target}
use Rattle.cc_valid.proofs.Reached.{no_bad_depth}

pub layout_is_valid : (p : Program) → IsProgram p → InRange p → IsValid (layout p)
layout_is_valid p s r b = (no_bad_target p s r b, no_bad_depth (layout p) (layout_has_depths p s) b)
