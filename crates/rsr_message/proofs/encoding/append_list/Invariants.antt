use Rattle.rsr_message.proofs.EncodingSteps.{ListSoFar}
use Rattle.rsr_message.proofs.encoding.append_list.Given as goal

abbrev pub invariant-loop-value : goal.invariant-loop-value
invariant-loop-value l = ListSoFar l.args l.value-index l.fn.out l.out
