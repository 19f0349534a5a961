-- The journal of a run by rounds: an entry for each note of its steps, and its end.
use Rattle.std.specs.Prelude.{◌≡◌, ℕ, List, [], ◌∷◌, ◌++◌, Option, Some, None}
use Rattle.global_ptr.specs.declared.ends.Standing.{Standing}
use Rattle.cc_core.specs.Numbers.{Post}
use Rattle.code_names.specs.Same.{Pairwise}
use Rattle.effect_journal.specs.declared.entry.Entry.{Entry}
use Rattle.effect_journal.specs.declared.entry.Entry.TheVariants as entry
use Rattle.effect_journal.specs.declared.entry.FaultBy.{FaultBy}
use Rattle.rsr_message.specs.declared.requests.Request.{Request}
use Rattle.rsr_message.specs.Requests.{Spells, version_2}
use Rattle.cc_ops.specs.declared.number.ThreadNo.{ThreadNo}
use Rattle.cc_walk.specs.Posted.{IsFrom}
use Rattle.law_mesh.specs.Queues.{Asks}
use Rattle.law_rounds.specs.Turn.{Note, Ran, Served, Made}
use Rattle.law_rounds.specs.Round.{RoundEnd, Unfinished, Rest, Faulted}

-- the bytes of the request by which thread t asks this
pub record AreBytes (t : ThreadNo) (post : Post) (bytes : List ℕ) : Type 0 where
  pub request : Request
  pub from : IsFrom t post request
  pub spelled : Spells version_2 request bytes

-- what a journal has of a note
abbrev pub IsEntryOf : Note → Entry → Type 0
IsEntryOf (Ran t n) (entry.Run q k steps) = (q ≡ t.processor) × (k ≡ t.thread) × (steps ≡ n)
IsEntryOf (Served q (Asks t post)) (entry.Serve at bytes) = (at ≡ q) × AreBytes t post bytes
IsEntryOf (Made (Asks t post)) (entry.Make bytes) = AreBytes t post bytes
IsEntryOf note e = ⊥

-- whom it names beside a fault
abbrev pub IsNamed : RoundEnd → Option FaultBy → Type 0
IsNamed (Faulted kind t) (Some by) = (by.processor ≡ t.processor) × (by.thread ≡ t.thread)
IsNamed (Faulted kind t) None = ⊥
IsNamed (Unfinished left) by = by ≡ None
IsNamed Rest by = by ≡ None

-- These are the entries of a run whose steps were noted so, and that has ended so.
pub record IsJournalOf (notes : List Note) (e : RoundEnd) (standing : Standing) (entries : List Entry) : Type 0 where
  pub before : List Entry
  pub by : Option FaultBy
  pub whole : entries ≡ before ++ entry.End standing by ∷ []
  pub each : Pairwise IsEntryOf notes before
  pub named : IsNamed e by
