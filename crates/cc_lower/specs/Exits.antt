-- The loop around a statement, as the compiler knows it.
use Rattle.std.specs.Prelude.{Option, Some, None}
use Rattle.cc_code.specs.Layout.{Loop, NoLoop, In}
use Rattle.cc_lower.specs.declared.loops.Exits.{Exits}

abbrev pub loop_of : Option Exits → Loop
loop_of None = NoLoop
loop_of (Some exits) = In exits.out exits.again
