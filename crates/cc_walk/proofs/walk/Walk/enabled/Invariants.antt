use Rattle.cc_walk.specs.Enabled.{IsMoveable}
use Rattle.cc_walk.specs.Views.{machine_of}
use Rattle.cc_walk.proofs.OrderLaws.{thread_no, NoneBefore}
use Rattle.cc_walk.proofs.walk.Walk.enabled.Given as goal

abbrev pub invariant-loop-thread : goal.invariant-loop-thread
invariant-loop-thread l = NoneBefore (IsMoveable (machine_of l.self)) (thread_no l.processor l.thread)

abbrev pub invariant-loop-processor : goal.invariant-loop-processor
invariant-loop-processor l = NoneBefore (IsMoveable (machine_of l.self)) (thread_no l.processor 0)
