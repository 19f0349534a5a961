-- What contracts see of a live thread. This project's own.
use Rattle.std.specs.Prelude.{◌≡◌, ℕ, ◌+◌, ◌-◌, ◌≤◌, ◌==◌, not, Bool, true, false, List, [], ◌∷◌, ◌++◌, length, take, slice_get, slice_set, Option, Some, None, unwrap_or, if◌then◌else◌}
use Rattle.std.specs.Option.{option_map, option_map_or}
use Rattle.global_ptr.specs.declared.values.Value.{Value}
use Rattle.thread_table.specs.declared.frame.Asker.{Asker}
use Rattle.thread_table.specs.declared.frame.Frame.{Frame}
use Rattle.thread_table.specs.declared.frame.Level.{Level}
use Rattle.thread_table.specs.declared.frame.Parent.{Parent}
use Rattle.thread_table.specs.declared.frame.TheConstants.{MOST_INSIDE}

-- a live thread
pub record LiveThread : Type 0 where
  -- the last one is on top
  pub operands : List Value
  -- the last one is the innermost
  pub frames : List Level
  -- how many functions it is inside, which are its last frames
  pub inside : ℕ
  -- the frame that it is a branch of
  pub parent : Option Parent
  pub asker : Option Asker
  -- it waits; it waits for the branches of its innermost frame
  pub parked : Bool
  pub joining : Bool

-- a frame without branches
abbrev pub level : Frame → Level
level f = record { frame = f; first = None; branches = 0 }

abbrev pub new_thread : Frame → (args : List Value) → Option Parent → Option Asker → LiveThread
new_thread f args parent asker =
    record { operands = args; frames = level f ∷ []; inside = 0; parent = parent; asker = asker; parked = false; joining = false }

abbrev pub last : {A : Type 0} → List A → Option A
last xs = slice_get xs (length xs - 1)

abbrev pub without_last : {A : Type 0} → List A → List A
without_last xs = take (length xs - 1) xs

-- ---- operands

abbrev pub with_operand : Value → LiveThread → LiveThread
with_operand v t = record t { operands = t.operands ++ v ∷ [] }

abbrev pub without_operand : LiveThread → LiveThread
without_operand t = record t { operands = without_last t.operands }

-- ---- frames

abbrev pub innermost : LiveThread → Option Level
innermost t = last t.frames

-- the innermost frame, where there is one, is changed so
abbrev pub in_innermost : (Level → Level) → LiveThread → LiveThread
in_innermost f t = option_map_or (λ l. record t { frames = slice_set t.frames (length t.frames - 1) (f l) }) (innermost t) t

abbrev pub at_code : ℕ → Level → Level
at_code code l = record l { frame = record l.frame { code = code } }

abbrev pub with_var : ℕ → Value → Level → Level
with_var k v l = record l { frame = record l.frame { vars = slice_set l.frame.vars k v } }

-- the first frame is of a function that is still to be called
abbrev pub awaits_call : List Level → Bool
awaits_call [] = false
awaits_call (l ∷ ls) = not l.frame.entered

-- enters a function, in the place of a frame that awaits its call
abbrev pub inside_of : Frame → LiveThread → LiveThread
inside_of f t = record t { frames = (if awaits_call t.frames then [] else t.frames) ++ level f ∷ []; inside = t.inside + 1 }

-- leaves the innermost function, where it is inside one
abbrev pub outside : LiveThread → LiveThread
outside t = if t.inside == 0 then t else record t { frames = without_last t.frames; inside = t.inside - 1 }

abbrev pub left_frame : LiveThread → Option Frame
left_frame t = if t.inside == 0 then None else option_map (λ l. l.frame) (innermost t)

-- ---- waiting

abbrev pub blocked : (joining : Bool) → LiveThread → LiveThread
blocked joining t = record t { parked = true; joining = joining }

abbrev pub picked : LiveThread → LiveThread
picked t = record t { parked = false; joining = false }

-- ---- branches

-- one more branch, which is the frame's first where it had none before
abbrev pub one_more : (number : ℕ) → Level → Level
one_more number l = record l { first = Some (unwrap_or l.first number); branches = l.branches + 1 }

abbrev pub one_fewer : Level → Level
one_fewer l = record l { branches = l.branches - 1 }

-- What keeps of every thread: the functions that it is inside are its last frames, and at most one frame more stands before them. A frame
-- that awaits its call is the only one.
pub record IsThread (frames : List Level) (inside : ℕ) : Type 0 where
  pub within : inside ≤ length frames
  pub above : length frames ≤ inside + 1
  pub deep : inside ≤ MOST_INSIDE
  pub outside : awaits_call frames ≡ true → inside ≡ 0
