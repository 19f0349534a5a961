use Rattle.cc_source.proofs.MainThere.{core_main_is_there}
use Rattle.cc_source.proofs.core_main_is_there.Goals as goal

pub returns : goal.returns
returns c = core_main_is_there
