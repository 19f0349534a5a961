use Rattle.run_numbers.proofs.Processors.{one_number, root_first, main_first, object_founds, processors_are_counted, thread_is_housed, object_is_housed, processors_stay_numbered}
use Rattle.run_numbers.proofs.processors_are_one_to_one.Goals as goal

pub returns-clause-processors : goal.returns-clause-processors
returns-clause-processors c = one_number

pub returns-clause-root : goal.returns-clause-root
returns-clause-root c = root_first

pub returns-clause-main : goal.returns-clause-main
returns-clause-main c = main_first

pub returns-clause-founded : goal.returns-clause-founded
returns-clause-founded c = object_founds

pub returns-clause-processors_counted : goal.returns-clause-processors_counted
returns-clause-processors_counted c = processors_are_counted

pub returns-clause-threads_housed : goal.returns-clause-threads_housed
returns-clause-threads_housed c = thread_is_housed

pub returns-clause-objects_housed : goal.returns-clause-objects_housed
returns-clause-objects_housed c = object_is_housed

pub returns-clause-processors_stay : goal.returns-clause-processors_stay
returns-clause-processors_stay c = processors_stay_numbered
