use Rattle.cc_core.proofs.Stays.{object_reached}
use Rattle.cc_core.proofs.laws.objects_stay.Goals as goal

pub returns : goal.returns
returns c = object_reached
