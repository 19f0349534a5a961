use Rattle.effect_journal.proofs.WriteLaws.{hex_line}
use Rattle.effect_journal.proofs.write.push_hex.Goals as goal

pub loop-byte-preserved : goal.loop-byte-preserved
loop-byte-preserved c =
    hex_line c.args.line.now c.loop-byte.line c.push-in-loop-byte.new.self c.push-in-loop-byte-2.new.self c.args.bytes.now c.loop-byte.byte-index
    c.hex_digit.result c.hex_digit-in-loop-byte.result c.loop-byte-test.true c.loop-byte.invariant c.hex_digit.ensures c.hex_digit-in-loop-byte.ensures
    c.in_ok-push-2.ensures.ok c.in_ok-push-3.ensures.ok
