use Rattle.one_holder.proofs.Values.{live_inserted, live_replaced}
use Rattle.one_holder.proofs.live_threads_are_counted.Goals as goal

pub returns-clause-live_inserted : goal.returns-clause-live_inserted
returns-clause-live_inserted c = live_inserted

pub returns-clause-live_replaced : goal.returns-clause-live_replaced
returns-clause-live_replaced c = live_replaced
