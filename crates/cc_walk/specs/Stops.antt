-- Why an object was not built, as a reason why a step was not made.
use Rattle.cc_ops.specs.declared.build_error.BuildError.{BuildError}
use Rattle.cc_ops.specs.declared.build_error.BuildError.TheVariants as build
use Rattle.cc_walk.specs.declared.stop.Stop.{Stop}
use Rattle.cc_walk.specs.declared.stop.Stop.TheVariants as stop

abbrev pub stop_of : BuildError → Stop
stop_of (build.Fault kind) = stop.Fault kind
stop_of build.Memory = stop.Memory
