use Rattle.law_processors.proofs.Unheld.{freed_at_rest}
use Rattle.law_processors.proofs.objects_are_free_at_rest.Goals as goal

pub returns : goal.returns
returns c = freed_at_rest
