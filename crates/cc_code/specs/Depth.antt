-- The number of operands that a place is reached with, or more than one such number.
use Rattle.std.specs.Prelude.{ℕ, ◌+◌, ◌-◌, ◌==◌, nat_le, if◌then◌else◌, Option, Some, None}
use Rattle.cc_code.specs.declared.depth.Depth.{Depth}
use Rattle.cc_code.specs.declared.depth.Depth.TheVariants.{Exactly, Several}

abbrev pub deeper : Depth → ℕ → Depth
deeper (Exactly d) n = Exactly (d + n)
deeper Several n = Several

-- what is left after m operands are taken, where they are there
abbrev pub less : ℕ → Depth → Option Depth
less m (Exactly d) = if nat_le m d then Some (Exactly (d - m)) else None
less m Several = Some Several

-- the depth of a place that is reached once more, where it is another than before
abbrev pub raised : Option Depth → Depth → Option Depth
raised None e = Some e
raised (Some Several) e = None
raised (Some (Exactly a)) (Exactly b) = if a == b then None else Some Several
raised (Some (Exactly a)) Several = Some Several
