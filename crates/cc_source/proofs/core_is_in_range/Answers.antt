use Rattle.cc_source.proofs.RangeLaws.{core_is_in_range}
use Rattle.cc_source.proofs.core_is_in_range.Goals as goal

pub returns : goal.returns
returns c = core_is_in_range
