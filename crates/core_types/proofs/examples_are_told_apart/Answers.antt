use Rattle.core_types.proofs.Examples.{good_is_typed, holder_is_kept, pointer_is_no_int, main_gives_no_pointer, atomic_waits_not, local_sent_not, holder_sent_not, sync_copied_not}
use Rattle.core_types.proofs.examples_are_told_apart.Goals as goal

pub returns-clause-takes : goal.returns-clause-takes
returns-clause-takes c = good_is_typed

pub returns-clause-pointer_as_int : goal.returns-clause-pointer_as_int
returns-clause-pointer_as_int c = pointer_is_no_int

pub returns-clause-pointer_given : goal.returns-clause-pointer_given
returns-clause-pointer_given c = main_gives_no_pointer

pub returns-clause-atomic_waits : goal.returns-clause-atomic_waits
returns-clause-atomic_waits c = atomic_waits_not

pub returns-clause-local_sent : goal.returns-clause-local_sent
returns-clause-local_sent c = local_sent_not

pub returns-clause-holder_sent : goal.returns-clause-holder_sent
returns-clause-holder_sent c = holder_sent_not

pub returns-clause-sync_copied : goal.returns-clause-sync_copied
returns-clause-sync_copied c = sync_copied_not

pub returns-clause-takes_pointer : goal.returns-clause-takes_pointer
returns-clause-takes_pointer c = holder_is_kept
