use Rattle.std.proofs.Common.{arith}
use Rattle.std.proofs.lemmas.Result.{err_from_is_err_and}
use Rattle.cc_lexer.proofs.Steps.{nothing_read, blank_fits, blank_read, token_read, fault_read}
use Rattle.cc_lexer.proofs.lexer.tokens_of.Goals as goal

pub loop-tokens-init : goal.loop-tokens-init
loop-tokens-init c = rw c.new-tokens.ensures (nothing_read c.args.text.now)

pub overflow_add-at : goal.overflow_add-at
overflow_add-at c =
    let s = c.split_at in
    omega (arith, c.requires, (blank_fits c.args.text.now c.loop-tokens.tokens c.loop-tokens.at c.loop-tokens.line _ _ c.loop-tokens.invariant s.ensures.front s.ensures.back c.in-Blank.length c.in-Blank.line_feeds (rw c.in-Blank.is at c.in_ok-next.ensures)).1)

pub loop-tokens-smaller-in-Blank : goal.loop-tokens-smaller-in-Blank
loop-tokens-smaller-in-Blank c =
    let s = c.split_at in
    let w = blank_fits c.args.text.now c.loop-tokens.tokens c.loop-tokens.at c.loop-tokens.line _ _ c.loop-tokens.invariant s.ensures.front s.ensures.back c.in-Blank.length c.in-Blank.line_feeds (rw c.in-Blank.is at c.in_ok-next.ensures) in
    omega (arith, w.0, w.1)

pub loop-tokens-preserved-in-Blank : goal.loop-tokens-preserved-in-Blank
loop-tokens-preserved-in-Blank c =
    let s = c.split_at in
    blank_read c.args.text.now c.loop-tokens.tokens c.loop-tokens.at c.loop-tokens.line _ _ c.loop-tokens.invariant s.ensures.front s.ensures.back c.in-Blank.length c.in-Blank.line_feeds (rw c.in-Blank.is at c.in_ok-next.ensures)

pub loop-tokens-preserved : goal.loop-tokens-preserved
loop-tokens-preserved c =
    let s = c.split_at in
    let h = rw c.in-Token.is at c.in_ok-next.ensures in
    rw c.in_ok-push-in-Token.ensures.ok (token_read c.args.text.now c.loop-tokens.tokens c.loop-tokens.at c.loop-tokens.line _ _ c.loop-tokens.invariant s.ensures.front s.ensures.back c.in-Token.kind c.in-Token.length h)

pub returns-in_err-next-clause-fault : goal.returns-in_err-next-clause-fault
returns-in_err-next-clause-fault c =
    let s = c.split_at in
    let p = err_from_is_err_and c.from_residual.result c.from_residual.ensures.1 in
    rw (p.1, p.2) (λ m. fault_read c.args.text.now c.loop-tokens.tokens c.loop-tokens.at c.loop-tokens.line _ _ c.loop-tokens.invariant s.ensures.front s.ensures.back c.requires c.in_err-next.field-0.0 c.in_err-next.ensures)
