use Rattle.std.proofs.Common.{◌≡◌, ◌++◌, ◌∷◌, take}
use Rattle.effect_journal.specs.Journal.{hex}
use Rattle.effect_journal.proofs.write.push_hex.Given as goal

abbrev pub invariant-loop-byte : goal.invariant-loop-byte
invariant-loop-byte l = l.line ≡ l.fn.line ++ (32 ∷ hex (take l.byte-index l.bytes))
