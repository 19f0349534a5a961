use Rattle.one_holder.proofs.Law.{one_holder, once}
use Rattle.one_holder.proofs.objects_have_one_holder.Goals as goal

pub returns-clause-one_holder : goal.returns-clause-one_holder
returns-clause-one_holder c = one_holder

pub returns-clause-once : goal.returns-clause-once
returns-clause-once c = once
