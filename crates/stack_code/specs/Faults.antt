-- What a refusal of code says.
use Rattle.std.specs.Prelude.{ℕ, nat_le, if◌then◌else◌, Option, Some, None}
use Rattle.cc_code.specs.Code.{Code}
use Rattle.cc_code.specs.Valid.{FirstBadTarget, FirstBadDepth}
use Rattle.stack_code.specs.declared.close.CodeFault.{CodeFault}
use Rattle.stack_code.specs.declared.close.CodeFault.TheVariants.{BadTarget, BadDepth, Memory}

abbrev pub IsFaultOf : Code → CodeFault → Type 0
IsFaultOf code (BadTarget at) = FirstBadTarget code at
IsFaultOf code (BadDepth at) = FirstBadDepth code at
IsFaultOf code Memory = Unit {0}

-- the fault at the earlier place, where these are the first places with a bad target and with a bad depth
abbrev pub first_fault : (target depth : Option ℕ) → Option CodeFault
first_fault None None = None
first_fault (Some at) None = Some (BadTarget at)
first_fault None (Some at) = Some (BadDepth at)
first_fault (Some target) (Some depth) = Some (if nat_le target depth then BadTarget target else BadDepth depth)
