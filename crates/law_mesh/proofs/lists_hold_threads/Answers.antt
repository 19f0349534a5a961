use Rattle.law_mesh.proofs.Queues.{carry, drop_out, appear, all_still}
use Rattle.law_mesh.proofs.Pour.{pour}
use Rattle.law_mesh.proofs.lists_hold_threads.Goals as goal

pub returns-clause-carry : goal.returns-clause-carry
returns-clause-carry c = carry

pub returns-clause-out : goal.returns-clause-out
returns-clause-out c = drop_out

pub returns-clause-made : goal.returns-clause-made
returns-clause-made c = appear

pub returns-clause-woken : goal.returns-clause-woken
returns-clause-woken c = pour

pub returns-clause-idle : goal.returns-clause-idle
returns-clause-idle c = λ code queues m hold. all_still code queues m.spots hold
