-- One value more is read, and the rest is shorter.
use Rattle.std.proofs.Common.{◌∷◌, ◌++◌, [], drop, subst, sym}
use Rattle.std.proofs.lemmas.List.{take_rest}
use Rattle.rsr_message.proofs.ReadingSteps.{ReadSoFar, read_begun, read_next, read_more, read_done, is_some, is_nothing, rest_shrinks}
use Rattle.rsr_message.proofs.reading.read_values.Goals as goal

pub loop-rest-init : goal.loop-rest-init
loop-rest-init c = read_begun c.args.bytes.now _ c.new-values.ensures c.requires

pub next_value-value-requires : goal.next_value-value-requires
next_value-value-requires c = read_next _ _ _ (is_some c.loop-rest.rest.now c.loop-rest-test.ensures) c.loop-rest.invariant

pub loop-rest-smaller : goal.loop-rest-smaller
loop-rest-smaller c = rest_shrinks c.loop-rest.rest.now c.next_value-value.result.0 c.next_value-value.result.1 c.next_value-value.ensures

pub loop-rest-preserved : goal.loop-rest-preserved
loop-rest-preserved c =
    let rest = c.loop-rest.rest.now in
    let found = c.next_value-value.result in
    let more : ReadSoFar c.args.bytes.now (c.loop-rest.values ++ found.0 ∷ []) (drop found.1 rest) = read_more _ c.loop-rest.values rest found.0 found.1 c.loop-rest.invariant c.next_value-value.ensures in
    subst (λ l. ReadSoFar c.args.bytes.now c.push.new.self l) (sym (take_rest rest found.1)) (subst (λ vs. ReadSoFar c.args.bytes.now vs (drop found.1 rest)) (sym c.in_ok-push.ensures.ok) more)

pub returns : goal.returns
returns c = read_done _ _ c.loop-rest.rest.now (is_nothing c.loop-rest.rest.now c.loop-rest-test.ensures) c.loop-rest.invariant
