use Rattle.run_numbers.proofs.Numbers.{threads_are_numbered, objects_are_numbered, threads_stay_numbered, objects_stay_numbered}
use Rattle.run_numbers.proofs.Counts.{threads_are_counted}
use Rattle.run_numbers.proofs.Homes.{live_at_home, made_at_home}
use Rattle.run_numbers.proofs.numbers_are_one_to_one.Goals as goal

pub returns-clause-threads : goal.returns-clause-threads
returns-clause-threads c = threads_are_numbered

pub returns-clause-objects : goal.returns-clause-objects
returns-clause-objects c = objects_are_numbered

pub returns-clause-threads_stay : goal.returns-clause-threads_stay
returns-clause-threads_stay c = threads_stay_numbered

pub returns-clause-objects_stay : goal.returns-clause-objects_stay
returns-clause-objects_stay c = objects_stay_numbered

pub returns-clause-threads_at_home : goal.returns-clause-threads_at_home
returns-clause-threads_at_home c = live_at_home

pub returns-clause-objects_at_home : goal.returns-clause-objects_at_home
returns-clause-objects_at_home c = made_at_home

pub returns-clause-threads_counted : goal.returns-clause-threads_counted
returns-clause-threads_counted c = threads_are_counted
