use Rattle.one_holder.proofs.Values.{holds_found, found_holds}
use Rattle.one_holder.proofs.holders_are_threads.Goals as goal

pub returns-clause-holds_found : goal.returns-clause-holds_found
returns-clause-holds_found c = holds_found

pub returns-clause-found_holds : goal.returns-clause-found_holds
returns-clause-found_holds c = found_holds
