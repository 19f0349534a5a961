use Rattle.cc_engine.proofs.execution.Execution.into_output.Goals as goal

pub returns : goal.returns
returns c = λ p ns steps a. c.into_output.ensures p a.last a.numbers a.stands
