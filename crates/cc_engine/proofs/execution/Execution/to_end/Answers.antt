use Rattle.std.proofs.Common.{◌≡◌, ◌+◌, suc, subst, arith}
use Rattle.cc_walk.specs.Views.{machine_of}
use Rattle.cc_engine.specs.Runs.{IsAfter, Advances}
use Rattle.cc_engine.proofs.RunLaws.{at_fault, at_rest, at_limit}
use Rattle.cc_engine.proofs.execution.Execution.to_end.Goals as goal

pub returns-in-Fault : goal.returns-in-Fault
returns-in-Fault c = λ p ns typed begun.
    let w = machine_of c.advance.new.self.walk in
    let k = c.loop.counter in
    let less = c.loop-test.true in
    let came = c.in_ok-advance.ensures p ns k (c.loop.invariant p ns typed begun) in
    at_fault p ns c.args.limit k w c.in-Fault.fault (omega (arith, less)) (subst (λ x. Advances p ns k x w) c.in-Fault.is came)

pub returns-in-Rests : goal.returns-in-Rests
returns-in-Rests c = λ p ns typed begun.
    let w = machine_of c.advance.new.self.walk in
    let k = c.loop.counter in
    let less = c.loop-test.true in
    let came = c.in_ok-advance.ensures p ns k (c.loop.invariant p ns typed begun) in
    let rests = subst (λ x. Advances p ns k x w) c.in-Rests.is came in
    at_rest p ns c.args.limit k w c.at_rest.result rests.0 (omega (arith, less)) (c.at_rest.ensures p ns c.args.limit k typed rests.0 rests.1)

pub loop-preserved : goal.loop-preserved
loop-preserved c = λ p ns typed begun.
    let w = machine_of c.advance.new.self.walk in
    let k = c.loop.counter in
    let came = c.in_ok-advance.ensures p ns k (c.loop.invariant p ns typed begun) in
    let one : suc k ≡ k + 1 = omega arith in
    let moved : IsAfter p ns (suc k) w = subst (λ x. Advances p ns k x w) c.in-Moved.is came in
    subst (λ n. IsAfter p ns n w) one moved

pub returns-in-Some : goal.returns-in-Some
returns-in-Some c = λ p ns typed begun.
    let w = machine_of c.loop.self.walk in
    let end = c.loop-test.false in
    let most = c.loop.auto.counter-end in
    let whole : c.loop.counter ≡ c.args.limit = omega (arith, end, most) in
    let a = subst (λ n. IsAfter p ns n w) whole (c.loop.invariant p ns typed begun) in
    at_limit p ns c.args.limit w a c.in-Some.field-0 (c.in-Some.ensures.follows p a.last a.numbers a.stands)

pub returns-in-None : goal.returns-in-None
returns-in-None c = λ p ns typed begun.
    let w = machine_of c.loop.self.walk in
    let k = c.loop.counter in
    let most = c.loop.auto.counter-end in
    let a = c.loop.invariant p ns typed begun in
    let rests = c.enabled.ensures.rest p a.last a.numbers a.stands c.in-None.is in
    at_rest p ns c.args.limit k w c.at_rest-in-None.result a (omega (arith, most)) (c.at_rest-in-None.ensures p ns c.args.limit k typed a rests)
