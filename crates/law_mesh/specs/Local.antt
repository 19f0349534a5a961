-- One processor: its objects and where its threads stand, what an ask finds there, and what a step changes there.
use Rattle.std.specs.Prelude.{◌≡◌, ℕ, ◌+◌, Bool, true, false, List, [], ◌∷◌, ◌++◌, length, slice_get, Option, Some, None}
use Rattle.std.specs.Option.{option_and_then}
use Rattle.cc_ops.specs.Values.{Value, Cell, Void, Int, Null, Ptr, Result, Gives, Fails}
use Rattle.cc_ops.specs.Cells.{written}
use Rattle.cc_ops.specs.Machine.{Address, Values}
use Rattle.cc_ops.specs.declared.number.ThreadNo.{ThreadNo}
use Rattle.cc_ops.specs.Shelves.{Thing, Shelf, changed, home_in}
use Rattle.cc_core.specs.Core.{Shapes, function_shape}
use Rattle.cc_core.specs.Effects.{numbers, branch_count}
use Rattle.cc_core.specs.Asks.{Ask, Answer}
use Rattle.cc_core.specs.Asks.{Reads, Writes, Copies, Makes, MakesWith, Builds, Enters, Leaves}
use Rattle.cc_core.specs.Asks.{ForksAll, ForksOne, Joins, Spawns, Calls, Casts, NewProcessor}
use Rattle.cc_core.specs.Needs.{at_object}
use Rattle.cc_code.specs.Code.{Code, Thread, Then}
use Rattle.numbered_runs.specs.Machine.{Progress, Goes, Over}
use Rattle.numbered_runs.specs.Changes.{with_cell, with_held, with_thing, with_new}
use Rattle.numbered_runs.specs.Effects.{Effect}
use Rattle.numbered_runs.specs.Steps.{settle, numbers_on}
use Rattle.law_mesh.specs.Moves.{new_spots, known}
use Rattle.law_mesh.specs.Spots.{Fiber, Spot, Active, runs}

-- ---- changes of the objects of a processor

abbrev pub cell_on : Shelf → (object x : ℕ) → Option (Cell Address)
cell_on s o x = option_and_then (λ (t : Thing). slice_get t.cells x) (slice_get s.things o)

abbrev pub with_result : Shelf → (object x : ℕ) → Result (Cell Address) → Shelf
with_result s o x (Gives c) = with_thing o (with_cell x c) s
with_result s o x (Fails kind) = s

abbrev pub with_written : Shelf → (object x : ℕ) → Value Address → Option (Cell Address) → Shelf
with_written s o x v None = s
with_written s o x v (Some c) = with_result s o x (written c v)

-- after values are written, objects are made, and a function of an object is entered or left
abbrev pub write_on : Shelf → Value Address → Value Address → Shelf
write_on s a v = at_object a s (λ o x. with_written s o.object x v (cell_on s o.object x))

abbrev pub write_all_on : Shelf → List (Value Address × Value Address) → Shelf
write_all_on s [] = s
write_all_on s (e ∷ es) = write_all_on (write_on s e.0 e.1) es

abbrev pub put_all_on : Shelf → List (ℕ × List (Cell Address)) → Shelf
put_all_on s [] = s
put_all_on s (e ∷ es) = put_all_on (with_new e.1 s) es

abbrev pub when : Bool → (Shelf → Shelf) → Shelf → Shelf
when true f s = f s
when false f s = s

abbrev pub note_on : Shapes → (f : ℕ) → Value Address → (held : Bool) → Shelf → Shelf
note_on h f o held s = at_object o s (λ a x. when (function_shape h f).atomic (with_thing a.object (with_held held)) s)

abbrev pub leave_on : Shapes → List (ℕ × Value Address) → Shelf → Shelf
leave_on h [] s = s
leave_on h (e ∷ es) s = note_on h e.0 e.1 false s

abbrev pub leave_all_on : Shapes → List (ℕ × Value Address) → Shelf → Shelf
leave_all_on h [] s = s
leave_all_on h (e ∷ es) s = leave_all_on h es (note_on h e.0 e.1 false s)

abbrev pub held_after_on : Shapes → List (ℕ × Value Address) → Ask Address → Shelf → Shelf
held_after_on h inside (Enters f o vs) s = note_on h f o true s
held_after_on h inside Leaves s = leave_on h inside s
held_after_on h inside q s = s

abbrev pub freed_on : Code → Progress → List (ℕ × Value Address) → Shelf → Shelf
freed_on code (Goes r) inside s = s
freed_on code (Over v) inside s = leave_all_on code.shapes inside s

-- the addresses of objects that processor q makes one after another
abbrev pub addresses_on : (q : ℕ) → Shelf → List (ℕ × List (Cell Address)) → Values
addresses_on q s [] = []
addresses_on q s (e ∷ es) = Ptr (record { processor = q; object = length s.things }) 0 ∷ addresses_on q (with_new e.1 s) es

-- ---- one processor

pub record Place : Type 0 where
  pub shelf : Shelf
  pub spots : List Spot

-- what a step of thread n does to processor q where all of it is done there
module _ (code : Code) (q n : ℕ) (p : Place) (f : Fiber) (ask : Ask Address) (k : Answer Address → Then Address) (found : Values) (e : Effect) where
  abbrev pub written_first : Shelf
  written_first = write_all_on p.shelf e.writes

  abbrev pub given_here : Values
  given_here = addresses_on q written_first e.objects ++ found

  abbrev pub follows_here : Then Address
  follows_here = k (record { values = given_here; made = numbers (length f.kids) (branch_count ask) })

  abbrev pub new_here : List (Thread Address)
  new_here = e.starts ++ follows_here.branches

  abbrev pub gone_on_here : Fiber
  gone_on_here = record { thread = follows_here.left; kids = f.kids ++ known (numbers_on q (length p.spots) new_here); inside = e.inside }

  abbrev pub place_after : Place
  place_after = record {
    shelf = freed_on code (settle code (runs gone_on_here None [])) e.inside (held_after_on code.shapes f.inside ask (put_all_on written_first e.objects));
    spots = changed (p.spots ++ new_spots new_here) n (λ s. Active gone_on_here);
  }

-- ---- asks that are answered on processor q

-- it is no pointer, or leads there
abbrev pub IsOn : ℕ → Value Address → Type 0
IsOn q Void = Unit {0}
IsOn q (Int n) = Unit {0}
IsOn q Null = Unit {0}
IsOn q (Ptr a x) = a.processor ≡ q

abbrev pub AreOn : ℕ → List (ℕ × Value Address) → Type 0
AreOn q [] = Unit {0}
AreOn q (e ∷ es) = IsOn q e.1 × AreOn q es

abbrev pub KidOn : ℕ → Option ThreadNo → Type 0
KidOn q None = Unit {0}
KidOn q (Some t) = t.processor ≡ q

abbrev pub KidsOn : ℕ → List (Option ThreadNo) → Type 0
KidsOn q [] = Unit {0}
KidsOn q (kid ∷ kids) = KidOn q kid × KidsOn q kids

-- an ask that a thread of processor q makes of it alone
abbrev pub AsksOn : ℕ → Fiber → Ask Address → Type 0
AsksOn q f (Reads true a) = ⊥
AsksOn q f (Reads false a) = IsOn q a
AsksOn q f (Writes true a v) = ⊥
AsksOn q f (Writes false a v) = IsOn q a
AsksOn q f (Copies a n) = IsOn q a
AsksOn q f (Enters g o vs) = IsOn q o
AsksOn q f (ForksOne v) = IsOn q v
AsksOn q f (Calls g o vs) = ⊥
AsksOn q f (Casts g o vs) = ⊥
AsksOn q f (NewProcessor c vs) = ⊥
AsksOn q f ask = Unit {0}

-- ---- asks that are answered by processor h, of a thread on processor q: by what it asks locally, or by a request

abbrev pub LeadsTo : ℕ → Value Address → Type 0
LeadsTo h o = home_in o ≡ h

abbrev pub AnsweredOn : (h q : ℕ) → Fiber → Ask Address → Type 0
AnsweredOn h q f (Reads remote a) = IsOn h a
AnsweredOn h q f (Writes remote a v) = IsOn h a
AnsweredOn h q f (Copies a n) = IsOn h a
AnsweredOn h q f (Makes kind n) = q ≡ h
AnsweredOn h q f (MakesWith kind v) = q ≡ h
AnsweredOn h q f (Builds c vs) = q ≡ h
AnsweredOn h q f (Enters g o vs) = (q ≡ h) × IsOn h o
AnsweredOn h q f (ForksAll n) = q ≡ h
AnsweredOn h q f (ForksOne v) = (q ≡ h) × IsOn h v
AnsweredOn h q f (Joins made) = KidsOn h f.kids
AnsweredOn h q f (Spawns g o vs) = q ≡ h
AnsweredOn h q f (Calls g o vs) = LeadsTo h o
AnsweredOn h q f (Casts g o vs) = LeadsTo h o
AnsweredOn h q f (NewProcessor c vs) = ⊥
AnsweredOn h q f ask = Unit {0}
