-- What the needs of a thread of the machine look up: the needs of the definition, by numbers.
use Rattle.std.specs.Prelude.{ℕ, Bool, List, length, slice_get, is_some}
use Rattle.std.specs.Option.{option_and_then}
use Rattle.cc_ops.specs.Machine.{Address, same_address}
use Rattle.cc_ops.specs.Shelves.{cell_in, cells_in, is_held, slots_in, home_in}
use Rattle.cc_ops.specs.declared.number.ThreadNo.{ThreadNo}
use Rattle.cc_core.specs.Core.{Shapes}
use Rattle.cc_core.specs.Asks.{Ask}
use Rattle.cc_core.specs.Needs.{Need, Verdict, Looks, needs_of, verdict_on, verdict_on_all, all_of}
use Rattle.numbered_runs.specs.Machine.{Machine, Progress, Runner, thread_in, made_in, ended_with}

abbrev pub needs : Shapes → Ask Address → List (Need Address)
needs = needs_of same_address

-- of the threads that a thread made
abbrev pub has_ended : List (List Progress) → List ThreadNo → ℕ → Bool
has_ended threads kids k = is_some (ended_with (option_and_then (thread_in threads) (slice_get kids k)))

abbrev pub all_ended : List (List Progress) → List ThreadNo → List ℕ → Bool
all_ended threads kids = all_of (has_ended threads kids)

-- of a thread on processor q, which is r
abbrev pub looks : Machine → (q : ℕ) → Runner → Looks Address
looks w q r = record {
  same = same_address;
  cell = cell_in w.shelves;
  cells = cells_in w.shelves;
  held = is_held w.shelves;
  ended = has_ended w.threads r.kids;
  inside = length r.inside;
  threads = made_in w.threads q;
  threads_at = λ o. made_in w.threads (home_in o);
  slots = slots_in w.shelves q;
  processors = length w.shelves;
}

abbrev pub check : Machine → (q : ℕ) → Runner → Need Address → Verdict Address
check w q r = verdict_on w.code.shapes (looks w q r)

abbrev pub check_all : Machine → (q : ℕ) → Runner → List (Need Address) → Verdict Address
check_all w q r = verdict_on_all w.code.shapes (looks w q r)
