use Rattle.std.proofs.Common.{arith, ◌≡◌, drop}
use Rattle.std.proofs.lemmas.Grind.{common_steps}
use Rattle.ccpp_edge.proofs.StreamLemmas.{Wrote-more, Wrote-kept}
use Rattle.ccpp_edge.proofs.real.write_whole.Goals as goal
use Rattle.ccpp_edge.proofs.real.write_whole.Goals.{in-Ok, in-Err+in_ok-count_failure-in-Err}

pub loop-preserved : goal.loop-preserved
loop-preserved g c = elim c.match-write.branch [
  | in-Ok w ↦
      let left : c.match-write.rest.now ≡ drop w.in-Ok.taken c.loop.rest.now = rw w.rest-is (grind (arith, common_steps)) in
      (rw w.faults-is c.loop.invariant.0, rw left (Wrote-more _ _ _ _ _ w.in-Ok.taken c.loop.invariant.1 w.in-Ok.ensures.bytes))
  | in-Err+in_ok-count_failure-in-Err w ↦ (
    omega (arith, w.faults-is, w.count_failure.ensures.faults, c.loop.invariant.0),
    rw w.rest-is (Wrote-kept _ _ _ _ _ c.loop.invariant.1 w.in-Err.ensures.bytes),
  )
]
