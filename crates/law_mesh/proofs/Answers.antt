-- What an ask finds depends on the one processor that answers it.
use Rattle.std.proofs.Common.{◌≡◌, ℕ, zero, suc, List, [], ◌∷◌, length, false, ◌&&◌, Option, Some, None, refl, sym, ap, ◌∙◌}
use Rattle.std.specs.Prelude.{slice_get, if◌then◌else◌}
use Rattle.std.specs.Option.{option_and_then, option_map_or}
use Rattle.global_ptr.specs.declared.ends.FaultKind.TheVariants.{ThreadsFull, StoreFull}
use Rattle.cc_ops.specs.Values.{Value, Void, Int, Null, Ptr}
use Rattle.cc_ops.specs.Machine.{Address}
use Rattle.cc_ops.specs.declared.number.ThreadNo.{ThreadNo}
use Rattle.cc_ops.specs.Shelves.{Thing, Shelf, home_in, thing_in, slots_in}
use Rattle.cc_core.specs.Core.{function_shape}
use Rattle.cc_core.specs.Asks.{Ask, Reads, Writes, Copies, Indexes, Shifts, Computes, Tests, Makes, MakesWith, Builds, Enters, Leaves}
use Rattle.cc_core.specs.Asks.{ForksAll, ForksOne, Joins, Spawns, Prints, Calls, Casts, NewProcessor}
use Rattle.cc_core.specs.Needs.{Need, Filled, Unfilled, AllCells, Free, Done, Threads, ThreadAt, Slots, verdict_on, verdict_on_all, and_also}
use Rattle.cc_core.specs.Needs.{Go, Hold, room, read, writable, all_in, all_of, most_threads, most_slots}
use Rattle.numbered_runs.specs.Looks.{needs}
use Rattle.law_mesh.specs.Spots.{Fiber, Spot, Mesh, made_of, looks, verdict, is_gone, kid_gone}
use Rattle.law_mesh.specs.Local.{IsOn, KidsOn, AnsweredOn, LeadsTo}

-- the code is the same, word for word
module _ (h q : ℕ) (m : Mesh) (shelves : List Shelf) (spots : List (List Spot)) (shelf : slice_get m.shelves h ≡ slice_get shelves h)
    (row : slice_get m.spots h ≡ slice_get spots h) (f : Fiber) where
  abbrev other : Mesh
  other = record { code = m.code; shelves = shelves; spots = spots; holder = m.holder; output = m.output }

  thing_alike : (a : Address) → a.processor ≡ h → thing_in m.shelves a ≡ thing_in shelves a
  thing_alike a e =
      ap (λ o. option_and_then (λ (s : Shelf). slice_get s.things a.object) o)
      (ap (slice_get m.shelves) e ∙ (shelf ∙ ap (slice_get shelves) (sym e)))

  made_alike : (p : ℕ) → p ≡ h → made_of m.spots p ≡ made_of spots p
  made_alike p e =
      ap (λ o. option_map_or (λ (ps : List Spot). length ps) o 0) (ap (slice_get m.spots) e ∙ (row ∙ ap (slice_get spots) (sym e)))

  slots_alike : q ≡ h → slots_in m.shelves q ≡ slots_in shelves q
  slots_alike e = ap (λ o. option_map_or (λ (s : Shelf). s.slots) o 0) (ap (slice_get m.shelves) e ∙ (shelf ∙ ap (slice_get shelves) (sym e)))

  abbrev AnswersNeed : Need Address → Type 0
  AnswersNeed need = verdict_on m.code.shapes (looks m q f) need ≡ verdict_on m.code.shapes (looks other q f) need

  filled : (a : Value Address) → IsOn h a → AnswersNeed (Filled a)
  filled Void on = refl
  filled (Int n) on = refl
  filled Null on = refl
  filled (Ptr a x) on = ap (λ o. read (option_and_then (λ (t : Thing). slice_get t.cells x) o)) (thing_alike a on)

  unfilled : (a : Value Address) → IsOn h a → AnswersNeed (Unfilled a)
  unfilled Void on = refl
  unfilled (Int n) on = refl
  unfilled Null on = refl
  unfilled (Ptr a x) on = ap (λ o. writable (option_and_then (λ (t : Thing). slice_get t.cells x) o)) (thing_alike a on)

  all_cells : (a : Value Address) (n : ℕ) → IsOn h a → AnswersNeed (AllCells a n)
  all_cells Void n on = refl
  all_cells (Int i) n on = refl
  all_cells Null n on = refl
  all_cells (Ptr a x) n on = ap (λ o. all_in n (option_map_or (λ (t : Thing). t.cells) o [])) (thing_alike a on)

  free : (g : ℕ) (o : Value Address) → IsOn h o → AnswersNeed (Free g o)
  free g Void on = refl
  free g (Int i) on = refl
  free g Null on = refl
  free g (Ptr a x) on =
      ap (λ o. if (function_shape m.code.shapes g).atomic && option_map_or (λ (t : Thing). t.held) o false then Hold else Go []) (thing_alike a on)

  abbrev AnswersAll : List (Need Address) → Type 0
  AnswersAll ns = verdict_on_all m.code.shapes (looks m q f) ns ≡ verdict_on_all m.code.shapes (looks other q f) ns

  both : (need : Need Address) (ns : List (Need Address)) → AnswersNeed need → AnswersAll ns → AnswersAll (need ∷ ns)
  both need ns a b =
      ap (λ z. and_also z (verdict_on_all m.code.shapes (looks m q f) ns)) a ∙ ap (and_also (verdict_on m.code.shapes (looks other q f) need)) b

  abbrev AnswersEach : List (Need Address) → Type 0
  AnswersEach [] = Unit {0}
  AnswersEach (need ∷ ns) = AnswersNeed need × AnswersEach ns

  all : (ns : List (Need Address)) → AnswersEach ns → AnswersAll ns
  all [] h = refl
  all (need ∷ ns) h = both need ns h.0 (all ns h.1)

  slots : (n : ℕ) → q ≡ h → AnswersNeed (Slots n)
  slots n e = ap (λ k. room k n most_slots StoreFull) (slots_alike e)

  threads : (n : ℕ) → q ≡ h → AnswersNeed (Threads n)
  threads n e = ap (λ k. room k n most_threads ThreadsFull) (made_alike q e)

  thread_at : (o : Value Address) → LeadsTo h o → AnswersNeed (ThreadAt o)
  thread_at o e = ap (λ k. room k 1 most_threads ThreadsFull) (made_alike (home_in o) e)

  -- ---- branches

  kid_at : (kids : List (Option ThreadNo)) → KidsOn h kids → (k : ℕ) → kid_gone m.spots kids k ≡ kid_gone spots kids k
  kid_at [] on k = refl
  kid_at (None ∷ kids) on zero = refl
  kid_at (Some t ∷ kids) on zero =
      ap (λ o. is_gone (option_and_then (λ (ps : List Spot). slice_get ps t.thread) o))
      (ap (slice_get m.spots) on.0 ∙ (row ∙ ap (slice_get spots) (sym on.0)))
  kid_at (kid ∷ kids) on (suc k) = kid_at kids on.1 k

  done : (made : List ℕ) → KidsOn h f.kids → AnswersNeed (Done made)
  done made on = λ i. if all_of (λ k. kid_at f.kids on k i) made then Go [] else Hold

  pub answered_alike : (ask : Ask Address) → AnsweredOn h q f ask → verdict m q f ask ≡ verdict other q f ask
  answered_alike (Joins made) on = all (needs m.code.shapes (Joins made)) (done made on, tt)
  answered_alike (Reads remote a) on = all (needs m.code.shapes (Reads remote a)) (filled a on, tt)
  answered_alike (Writes remote a v) on = all (needs m.code.shapes (Writes remote a v)) (unfilled a on, tt)
  answered_alike (Copies a n) on = all (needs m.code.shapes (Copies a n)) (all_cells a n on, tt)
  answered_alike (Indexes a n i) on = refl
  answered_alike (Shifts a i) on = refl
  answered_alike (Computes op vs) on = refl
  answered_alike Tests on = refl
  answered_alike (Makes kind n) on = all (needs m.code.shapes (Makes kind n)) (slots _ on, tt)
  answered_alike (MakesWith kind v) on = all (needs m.code.shapes (MakesWith kind v)) (slots _ on, tt)
  answered_alike (Builds c vs) on = all (needs m.code.shapes (Builds c vs)) (slots _ on, (refl, tt))
  answered_alike (Enters g o vs) on = all (needs m.code.shapes (Enters g o vs)) (refl, (free g o on.1, (refl, (slots _ on.0, tt))))
  answered_alike Leaves on = refl
  answered_alike (ForksAll n) on = all (needs m.code.shapes (ForksAll n)) (threads _ on, tt)
  answered_alike (ForksOne v) on = all (needs m.code.shapes (ForksOne v)) (threads _ on.0, (slots _ on.0, (filled v on.1, tt)))
  answered_alike (Spawns g o vs) on = all (needs m.code.shapes (Spawns g o vs)) (refl, (threads _ on, tt))
  answered_alike (Prints parts vs) on = refl
  answered_alike (Calls g o vs) on = all (needs m.code.shapes (Calls g o vs)) (refl, (thread_at o on, tt))
  answered_alike (Casts g o vs) on = all (needs m.code.shapes (Casts g o vs)) (refl, (thread_at o on, tt))
  answered_alike (NewProcessor c vs) on = absurd on
