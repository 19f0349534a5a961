use Rattle.cc_source.proofs.LimitLaws.{core_functions_fit, core_classes_fit, few_functions, few_classes}
use Rattle.cc_source.proofs.core_shapes_fit.Goals as goal

pub returns : goal.returns
returns c = record { functions = core_functions_fit; classes = core_classes_fit; few_functions = few_functions; few_classes = few_classes }
