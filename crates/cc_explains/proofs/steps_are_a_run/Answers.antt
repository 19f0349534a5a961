use Rattle.std.proofs.Common.{arith}
use Rattle.run_numbers.specs.RunNumbers.{begins}
use Rattle.cc_explains.specs.Places.{beginning}
use Rattle.cc_explains.proofs.Reading.{lead_run, lead_numbered, lead_made, run_lead}
use Rattle.cc_explains.proofs.steps_are_a_run.Goals as goal

pub returns-clause-run : goal.returns-clause-run
returns-clause-run c = λ p is ms b h. lead_run p ms (beginning p is) b h

pub returns-clause-numbers : goal.returns-clause-numbers
returns-clause-numbers c = λ p is ms b h. lead_numbered p is ms (beginning p is) b begins h

pub returns-clause-made : goal.returns-clause-made
returns-clause-made c = λ p is ms b h. let made = lead_made p ms (beginning p is) b h in omega (arith, made)

pub returns-clause-each : goal.returns-clause-each
returns-clause-each c = λ p is ts r h. run_lead p ts (beginning p is) r h
