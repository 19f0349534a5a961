use Rattle.std.proofs.Common.{◌≡◌, ◌-◌, suc, Option, length, take, sym, ◌∙◌, subst, arith}
use Rattle.std.proofs.lemmas.Bool.{true≢false}
use Rattle.cc_core.specs.View.{program_of}
use Rattle.cc_explains.specs.declared.why.Why.{Why}
use Rattle.cc_types.specs.Program.{core_program}
use Rattle.trace_check.specs.Replays.{Replays}
use Rattle.trace_check.proofs.TraceLaws.{reads_on, fails_first, ends_so, ends_otherwise}
use Rattle.trace_check.proofs.tracing.verdict.Goals as goal

pub returns-in-Some : goal.returns-in-Some
returns-in-Some c =
    let p = program_of (core_program c.args.checked.now) in
    let es = c.args.entries.now in
    let some = c.in-len1-up.len_at_least in
    let long : length es ≡ suc (length es - 1) = omega (arith, some) in
    let at = c.loop-place.invariant in
    let e = c.index-before-place.result in
    let fails = subst (λ (o : Option Why). Replays p e at.0 o c.entry.new.self) c.in-Some.is (c.in_ok-why.ensures p at.0 at.2) in
    fails_first p c.args.args.now es (length es - 1) c.end-item.result long c.end-item.is c.loop-place.place e c.in-Some.why at.0
    c.loop-place-test.true c.index-before-place.is at.1 fails

pub loop-place-preserved : goal.loop-place-preserved
loop-place-preserved c =
    let p = program_of (core_program c.args.checked.now) in
    let es = c.args.entries.now in
    let at = c.loop-place.invariant in
    let e = c.index-before-place.result in
    let goes = subst (λ (o : Option Why). Replays p e at.0 o c.entry.new.self) c.in_default-2.is (c.in_ok-why.ensures p at.0 at.2) in
    let read = reads_on p (take (length es - 1) es) c.loop-place.place e _ at.0 goes.0 c.loop-place-test.true c.index-before-place.is at.1 goes.1 in
    (goes.0, read, goes.2)

pub returns-then-branch : goal.returns-then-branch
returns-then-branch c =
    let p = program_of (core_program c.args.checked.now) in
    let es = c.args.entries.now in
    let some = c.in-len1-up.len_at_least in
    let long : length es ≡ suc (length es - 1) = omega (arith, some) in
    let at = c.loop-place.invariant in
    let end = c.loop-place-test.false in
    let most = c.loop-place.auto.place-end in
    let all : c.loop-place.place ≡ length (take (length es - 1) es) = omega (arith, end, most) in
    ends_so p c.args.args.now es (length es - 1) c.end-item.result long c.end-item.is c.in-End.standing c.in-End.by c.in-End.is
    c.loop-place.place all at.0 at.1 ((c.in_ok-ends.ensures p at.0 at.2).0 c.if-branch.true)

pub returns : goal.returns
returns c =
    let p = program_of (core_program c.args.checked.now) in
    let es = c.args.entries.now in
    let some = c.in-len1-up.len_at_least in
    let long : length es ≡ suc (length es - 1) = omega (arith, some) in
    let at = c.loop-place.invariant in
    let end = c.loop-place-test.false in
    let most = c.loop-place.auto.place-end in
    let all : c.loop-place.place ≡ length (take (length es - 1) es) = omega (arith, end, most) in
    ends_otherwise p c.args.args.now es (length es - 1) c.end-item.result long c.end-item.is c.in-End.standing c.in-End.by c.in-End.is
    c.loop-place.place all at.0 at.1 (λ e. true≢false (sym ((c.in_ok-ends.ensures p at.0 at.2).1 e) ∙ c.if-branch.false))
