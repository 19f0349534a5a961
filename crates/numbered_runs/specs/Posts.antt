-- What a remote operation posts, by numbers: the values as they are.
use Rattle.std.specs.Prelude.{true, Option, Some, None}
use Rattle.cc_ops.specs.Values.{Value}
use Rattle.cc_ops.specs.Machine.{Address}
use Rattle.cc_ops.specs.declared.number.ThreadNo.{ThreadNo}
use Rattle.cc_core.specs.Asks.{Ask, Reads, Writes, Calls, Casts, NewProcessor}
use Rattle.cc_core.specs.Numbers.{Post, Get, Put, Call, Cast, Make}
use Rattle.cc_core.specs.Needs.{at_object}
use Rattle.cc_code.specs.Code.{Code, Move, Silent, Does, Ends, Stuck, move}
use Rattle.numbered_runs.specs.Machine.{Progress, Goes, Over}

-- through a null pointer nothing is posted
abbrev pub where_address : Value Address → Post → Option Post
where_address a post = at_object a None (λ o x. Some post)

abbrev pub posted : Ask Address → Option Post
posted (Reads true a) = where_address a (Get a)
posted (Writes true a v) = where_address a (Put a v)
posted (Calls f o vs) = where_address o (Call f o vs)
posted (Casts f o vs) = where_address o (Cast f o vs)
posted (NewProcessor c vs) = Some (Make c vs)
posted q = None

-- A thread that waits for the thread of a remote call posts nothing more.
abbrev pub move_posts : Move Address → Option ThreadNo → Option Post
move_posts (Does line q k) None = posted q
move_posts (Does line q k) (Some kid) = None
move_posts (Silent c) asked = None
move_posts (Ends v) asked = None
move_posts Stuck asked = None

-- what the next move of a thread posts, where it is a remote operation
abbrev pub posts : Code → Option Progress → Option Post
posts code None = None
posts code (Some (Over v)) = None
posts code (Some (Goes r)) = move_posts (move code r.thread) r.asked
