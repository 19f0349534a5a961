-- Threads under numbers that are given in the order made.
use Rattle.std.specs.Prelude.{◌≡◌, ◌≢◌, ℕ, ◌-◌, ◌<◌, min, List, length, map, count_by, is_some, slice_index, slice_index_or, nat_lt, if◌then◌else◌, Option, None, IsSome}
use Rattle.slab.specs.Slab.{Slab, get, slab_len}
use Rattle.thread_table.specs.LiveThread.{LiveThread}

-- the threads by their numbers, nothing where one has ended; and how many more may be made without memory
pub record Numbers : Type 0 where
  pub threads : List (Option LiveThread)
  pub room : ℕ

-- the live thread of this number
abbrev pub thread_at : List (Option LiveThread) → ℕ → Option LiveThread
thread_at threads n = slice_index_or threads n None

-- the key of a thread that has ended
abbrev pub gone : ℕ
gone = 4294967295

-- what keys show, by number, of a slab
abbrev pub shown : List ℕ → Slab LiveThread → List (Option LiveThread)
shown keys live = map (get live) keys

abbrev pub room_for : (keys capacity : ℕ) → Slab LiveThread → ℕ
room_for keys capacity live = if nat_lt live.vacant_key gone then min (capacity - keys) (live.capacity - slab_len live) else 0

-- each key but that of ended threads has a thread, and is one number's
pub record IsKept (keys : List ℕ) (live : Slab LiveThread) : Type 0 where
  pub ended : get live gone ≡ None
  pub kept : (n : ℕ) → n < length keys → slice_index keys n ≢ gone → IsSome (get live (slice_index keys n))
  pub own : (m n : ℕ) → m < length keys → n < length keys → slice_index keys m ≢ gone → slice_index keys m ≡ slice_index keys n → m ≡ n
  pub counted : slab_len live ≡ count_by is_some (shown keys live)
