-- What changes in a frame.
use Rattle.std.specs.Prelude.{ℕ, List, [], ◌++◌, set}
use Rattle.cc_ops.specs.Values.{Value}
use Rattle.cc_code.specs.Code.{Frame, frame}

-- another address of a variable; branches more, the newest first; no branch
module _ {N : Type 0} where
  abbrev pub with_variable : ℕ → Value N → Frame N → Frame N
  with_variable k v f = frame f.this (set f.vars k v) f.made f.place

  abbrev pub with_branches : List ℕ → Frame N → Frame N
  with_branches made f = frame f.this f.vars (made ++ f.made) f.place

  abbrev pub without_branches : Frame N → Frame N
  without_branches f = frame f.this f.vars [] f.place
