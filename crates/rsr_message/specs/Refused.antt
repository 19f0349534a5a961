-- What contracts see of a wrong byte in a stream.
use Rattle.std.specs.Prelude.{ℕ, Option, Some, None}
use Rattle.rsr_message.specs.declared.faults.MessageFault.{MessageFault}
use Rattle.rsr_message.specs.declared.splitter.Refusal.{Refusal}

-- its place and what is wrong, once there is one
abbrev pub place_and_fault : Option Refusal → Option (ℕ × MessageFault)
place_and_fault None = None
place_and_fault (Some refusal) = Some (refusal.at, refusal.fault)
