-- What a thread is about, as contracts see it.
use Rattle.std.specs.Prelude.{map}
use Rattle.cc_ops.specs.Machine.{Address, value_of}
use Rattle.cc_code.specs.Code.{Thread, Starting, Finished}
use Rattle.code_thread.specs.View.{running_of}
use Rattle.code_thread.specs.declared.thread.Doing.{Doing}
use Rattle.code_thread.specs.declared.thread.Doing.TheVariants as doing

abbrev pub thread_of : Doing → Thread Address
thread_of (doing.Runs r) = running_of r
thread_of (doing.Starts f this vs) = Starting f (value_of this) (map value_of vs)
thread_of (doing.Finished v) = Finished (value_of v)
