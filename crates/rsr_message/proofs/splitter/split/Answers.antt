-- One message more is cut off, or what is left stops it.
use Rattle.std.proofs.Common.{◌-◌, length, take, drop, subst, None, Some}
use Rattle.rsr_message.specs.Refusals.{IsRefusedMessage}
use Rattle.rsr_message.proofs.StreamLaws.{cut_begun, more_read, stops_at, refused_wrong}
use Rattle.rsr_message.proofs.splitter.split.Goals as goal

pub loop-head-init : goal.loop-head-init
loop-head-init c = cut_begun _ _

pub loop-head-preserved : goal.loop-head-preserved
loop-head-preserved c =
    more_read _ c.loop-head.used c.in-Ok.len c.in-Ok.head.version c.in-Ok.head.kind _ _ _ c.in_ok-read-in-Ok.field-0 c.loop-head.invariant c.in-Ok.ensures c.in_ok-read-in-Ok.ensures.ok c.in_ok-push-in-Ok.ensures.ok

pub returns-in-Short-clause-ok : goal.returns-in-Short-clause-ok
returns-in-Short-clause-ok c =
    let stream = c.args.stream.now in
    let used = c.loop-head.used in
    stops_at stream used _ _ None c.loop-head.invariant (subst (IsRefusedMessage (take (length stream - used) (drop used stream))) c.in-Short.is c.in-Err.ensures)

pub returns-in_default : goal.returns-in_default
returns-in_default c = record {
  ok = stops_at _ c.loop-head.used _ _ (Some c.in-Err.fault) c.loop-head.invariant (refused_wrong _ c.in-Err.fault c.in_default.not-Short c.in-Err.ensures);
  err = tt;
}
