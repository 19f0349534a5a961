-- What contracts see of the threads of a processor: the live thread of each number, and nothing where it has ended. This project's own.
use Rattle.std.specs.Prelude.{◌≡◌, ℕ, ◌+◌, ◌-◌, ◌<◌, ◌≤◌, ◌==◌, ◌&&◌, suc, not, Bool, false, List, [], ◌∷◌, ◌++◌, length, count_by, slice_get, slice_set, Option, Some, None, is_some, IsSome, IfSome, unwrap_or, if◌then◌else◌}
use Rattle.std.specs.List.{list_any}
use Rattle.std.specs.Option.{option_map, option_map_or, option_and_then}
use Rattle.global_ptr.specs.declared.values.Value.{Value}
use Rattle.global_ptr.specs.declared.values.Waiter.{Waiter}
use Rattle.global_ptr.specs.declared.values.Waiter.TheVariants.{Thread, Asked}
use Rattle.global_ptr.specs.ReadyList.{ReadyList}
use Rattle.thread_table.specs.declared.frame.Asker.{Asker}
use Rattle.thread_table.specs.declared.frame.Frame.{Frame}
use Rattle.thread_table.specs.declared.frame.Level.{Level}
use Rattle.thread_table.specs.declared.frame.Parent.{Parent}
use Rattle.thread_table.specs.declared.frame.TheConstants.{MOST_THREADS}
use Rattle.thread_table.specs.declared.frame.ThreadState.{ThreadState}
use Rattle.thread_table.specs.declared.frame.ThreadState.TheVariants.{Ready, Parked, Gone}
use Rattle.thread_table.specs.LiveThread.{LiveThread, new_thread, innermost, in_innermost, picked, one_more, one_fewer}
use Rattle.thread_table.specs.Numbers.{thread_at}

abbrev pub Table : Type 0
Table = List (Option LiveThread)

abbrev pub IsLive : Table → ℕ → Type 0
IsLive table n = IsSome (thread_at table n)

-- the innermost frame of a live thread
abbrev pub level_at : Table → ℕ → Option Level
level_at table n = option_and_then innermost (thread_at table n)

-- one live thread is changed so, and all others stay
abbrev pub changed : Table → ℕ → (LiveThread → LiveThread) → Table
changed table n f = slice_set table n (option_map f (thread_at table n))

abbrev pub state_of : Option LiveThread → ThreadState
state_of None = Gone
state_of (Some t) = if t.parked then Parked else Ready

-- a thread that was picked waits no longer
abbrev pub picked_in : Table → Option Waiter → Table
picked_in table None = table
picked_in table (Some (Thread n)) = changed table n picked
picked_in table (Some (Asked from ticket spot)) = table

-- ---- a new thread

-- the innermost frame of a thread, to which the branch of this number counts
abbrev pub branch_of : (parent number : ℕ) → LiveThread → Option Parent
branch_of parent number t =
    option_map (λ l. record { thread = parent; frame = length t.frames - 1; first = unwrap_or l.first number }) (innermost t)

abbrev pub parent_of : Table → Option ℕ → Option Parent
parent_of table None = None
parent_of table (Some p) = option_and_then (branch_of p (length table)) (thread_at table p)

-- the parent's innermost frame has one more branch
abbrev pub forked : Table → Option ℕ → Table
forked table None = table
forked table (Some p) = changed table p (in_innermost (one_more (length table)))

abbrev pub spawned : Table → Frame → (args : List Value) → (parent : Option ℕ) → Option Asker → Table
spawned table frame args parent asker = forked table parent ++ Some (new_thread frame args (parent_of table parent) asker) ∷ []

-- ---- the end of a thread

abbrev pub is_first : Option ℕ → ℕ → Bool
is_first None n = false
is_first (Some m) n = m == n

-- the frame that a branch counts to, where its thread has it still
abbrev pub branched : Parent → List Level → Option Level
branched p levels = option_and_then (λ l. if is_first l.first p.first then Some l else None) (slice_get levels p.frame)

abbrev pub one_ended : Parent → LiveThread → LiveThread
one_ended p t = option_map_or (λ l. record t { frames = slice_set t.frames p.frame (one_fewer l) }) (branched p t.frames) t

-- the thread waits for the branches of the frame at that place
abbrev pub waits_at : ℕ → LiveThread → Bool
waits_at place t = t.joining && (place + 1 == length t.frames)

-- the thread waits for the branches of the frame that a branch counts to
abbrev pub waits_for : Parent → LiveThread → Bool
waits_for p t = waits_at p.frame t && is_some (branched p t.frames)

-- as far as the frame knows, one branch of it is left
abbrev pub waits_for_last : Parent → LiveThread → Bool
waits_for_last p t = waits_at p.frame t && option_map_or (λ l. l.branches == 1) (branched p t.frames) false

abbrev pub link_of : Table → ℕ → Option Parent
link_of table n = option_and_then (λ t. t.parent) (thread_at table n)

abbrev pub without : Table → ℕ → Table
without table n = slice_set table n None

abbrev pub ended : Table → Option Parent → Table
ended table None = table
ended table (Some p) = changed table p.thread (one_ended p)

-- a thread has ended: it is gone, and the frame that it counted to has one branch fewer
abbrev pub finished : Table → ℕ → Table
finished table n = ended (without table n) (link_of table n)

-- where the frame that the branch counts to is still there, a branch of it lives
abbrev pub CanEnd : Table → Parent → Type 0
CanEnd table p = IfSome (thread_at table p.thread) (λ t. IfSome (branched p t.frames) (λ l. 0 < l.branches))

-- ---- live branches

-- whether a thread is a branch of the frame at this place of this thread
abbrev pub is_branch_of : (thread frame : ℕ) → (first : Option ℕ) → Option Parent → Bool
is_branch_of thread frame first None = false
is_branch_of thread frame first (Some p) = (p.thread == thread) && (p.frame == frame) && is_first first p.first

abbrev pub counts_to : (thread frame : ℕ) → (first : Option ℕ) → Option LiveThread → Bool
counts_to thread frame first None = false
counts_to thread frame first (Some t) = is_branch_of thread frame first t.parent

-- how many live threads are branches of the frame at this place of this thread
abbrev pub live_branches : Table → (thread frame : ℕ) → (first : Option ℕ) → ℕ
live_branches table thread frame first = count_by (counts_to thread frame first) table

-- how many live threads are branches of a thread's innermost frame
abbrev pub branches_of : Table → ℕ → ℕ
branches_of table n =
    option_map_or (λ t. option_map_or (λ l. live_branches table n (length t.frames - 1) l.first) (innermost t) 0) (thread_at table n) 0

-- the thread that waits for the branches of the frame that a branch counted to, where none of them lives
abbrev pub woken_after : Table → Parent → Option ℕ
woken_after table p =
    option_and_then (λ t. if waits_for p t && (live_branches table p.thread p.frame (Some p.first) == 0) then Some p.thread else None) (thread_at table p.thread)

-- the parent that the end of a thread wakes
abbrev pub woken_by : Table → ℕ → Option ℕ
woken_by table n = option_and_then (woken_after (without table n)) (link_of table n)

-- the same, as far as the frame knows of its branches
abbrev pub told_by : Table → Parent → Option ℕ
told_by table p = option_and_then (λ t. if waits_for_last p t then Some p.thread else None) (thread_at table p.thread)

-- ---- room to wake

abbrev pub is_thread : ℕ → Waiter → Bool
is_thread n (Thread m) = m == n
is_thread n (Asked from ticket spot) = false

-- how many live threads, whose numbers begin with this one, are not in a list
abbrev pub away_from : ℕ → Table → List Waiter → ℕ
away_from n [] waiters = 0
away_from n (t ∷ ts) waiters = (if is_some t && not (list_any (is_thread n) waiters) then 1 else 0) + away_from (suc n) ts waiters

-- how many live threads are not in a list
abbrev pub away : Table → List Waiter → ℕ
away table waiters = away_from 0 table waiters

-- The list has a place for each live thread that is not in it, and for so many more. So none of them needs memory to be woken.
pub record HasRoom (table : Table) (ready : ReadyList) (more : ℕ) : Type 0 where
  pub kept : away table ready.waiters + more ≤ ready.spare

-- ---- what holds of every table

-- Each frame knows how many of its branches live. The first branch of a frame, by which its branches know it, was made.
pub record IsTable (table : Table) : Type 0 where
  pub few : length table ≤ MOST_THREADS
  pub counted : (n k : ℕ) (t : LiveThread) (l : Level) → thread_at table n ≡ Some t → slice_get t.frames k ≡ Some l → l.branches ≡ live_branches table n k l.first
  pub first_made : (n k : ℕ) (t : LiveThread) (l : Level) (f : ℕ) → thread_at table n ≡ Some t → slice_get t.frames k ≡ Some l → l.first ≡ Some f → f < length table
  pub branch_made : (n : ℕ) (t : LiveThread) (p : Parent) → thread_at table n ≡ Some t → t.parent ≡ Some p → p.first < length table
