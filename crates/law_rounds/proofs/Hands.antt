-- A move of the thread in the hand is its own step, or silent; and it stays in the hand or leaves it.
use Rattle.std.proofs.Common.{◌≡◌, ◌⊎◌, inl, inr, ℕ, zero, suc, List, [], length, map, Bool, true, false, Option, Some, None, refl, sym, ◌∙◌, subst}
use Rattle.std.specs.Prelude.{slice_get, if◌then◌else◌}
use Rattle.global_ptr.specs.declared.ends.FaultKind.TheVariants.{NullPointer}
use Rattle.cc_ops.specs.Values.{Value, Void, Int, Null, Ptr}
use Rattle.cc_ops.specs.Machine.{Address}
use Rattle.cc_ops.specs.declared.number.ThreadNo.{ThreadNo}
use Rattle.cc_core.specs.Asks.{Ask, Answer, Reads}
use Rattle.cc_core.specs.Asks as asks
use Rattle.cc_core.specs.Numbers.{Post}
use Rattle.cc_core.specs.Needs.{Verdict, Go, Hold, Bad}
use Rattle.cc_code.specs.Code.{Code, Then, Move, Silent, Does, Ends, Stuck, move}
use Rattle.numbered_runs.specs.Posts.{posted}
use Rattle.law_processors.specs.Living.{one_lives, joins_of}
use Rattle.law_mesh.specs.Spots.{Fiber, verdict}
use Rattle.law_mesh.specs.Queues.{Asks, holds_none}
use Rattle.law_processors.specs.Processors.{Own, Goes, Joins, Asking, Has, Entry, Lives, Ended, Locked, Processor}
use Rattle.law_processors.specs.Alone.{Label, OwnStep, Did, Went, Failed, be_ready, put_entry, put_hand, send, alone_at, seen_entry, seen, goes_into, is_taken}
use Rattle.law_processors.specs.Alone.{wait_for_lock, enters_later, joins_later, waits, rejoins, rejoined, tell, ended, effect_here, stepped_here, may_step, decided}
use Rattle.law_processors.specs.Alone.{asks_itself, asks_null, asks_here, asks_by, moves_by, entry_moves, hand_moves, moved}
use Rattle.law_rounds.proofs.Kept.{stepped_same}

abbrev pub IsOwn : (q i : ℕ) → Option Label → Type 0
IsOwn q i None = Unit {0}
IsOwn q i (Some l) = l ≡ OwnStep (record { processor = q; thread = i })

abbrev pub InHand : (i : ℕ) → Processor → Type 0
InHand i p = (p.hand ≡ None) ⊎ (p.hand ≡ Some i)

abbrev pub HandIs : (q i : ℕ) → Did Processor → Type 0
HandIs q i (Went step prints p) = IsOwn q i step × InHand i p
HandIs q i (Failed kind t) = Unit {0}

pub same_hand : (p r : Processor) → r.inbox ≡ p.inbox → r.hand ≡ p.hand → r.hand ≡ p.hand
same_hand p r inbox hand = hand

-- ---- waiting

lock_wait_hand : (i n o : ℕ) (l : Option Locked) (p : Processor) → p.hand ≡ Some i → InHand i (wait_for_lock n o l p)
lock_wait_hand i n o None p hand = inr hand
lock_wait_hand i n o (Some l) p hand = inl refl

later_hand : (i n : ℕ) (o : Option Address) (p : Processor) → p.hand ≡ Some i → InHand i (enters_later n o p)
later_hand i n None p hand = inr hand
later_hand i n (Some b) p hand = lock_wait_hand i n b.object (p.locks b.object) p hand

joins_hand : (i q n : ℕ) (f : Fiber) (caller : Option ThreadNo) (made : List ℕ) (p : Processor) → p.hand ≡ Some i → InHand i (joins_later q n f caller made p)
joins_hand i q n f caller made p hand = by (one_lives (alone_at q [] (map seen_entry p.table)) f.kids made)
  where
    by : (b : Bool) → InHand i (if b then put_hand None (put_entry n (Lives f Joins caller) p) else p)
    by true = inl refl
    by false = inr hand

waits_hand : (i : ℕ) (code : Code) (q n : ℕ) (f : Fiber) (caller : Option ThreadNo) (ask : Ask Address) (p : Processor) → p.hand ≡ Some i
    → InHand i (waits code q n f caller ask p)
waits_hand i code q n f caller (Reads remote (Ptr b x)) p hand = inl refl
waits_hand i code q n f caller (Reads remote Void) p hand = inr hand
waits_hand i code q n f caller (Reads remote (Int z)) p hand = inr hand
waits_hand i code q n f caller (Reads remote Null) p hand = inr hand
waits_hand i code q n f caller (asks.Joins made) p hand = joins_hand i q n f caller made p hand
waits_hand i code q n f caller ask p hand = later_hand i n (goes_into code.shapes ask) p hand

-- ---- the end of a thread

rejoins_hand : (code : Code) (q n : ℕ) (o : Option Entry) (p : Processor) → (rejoins code q n o p).hand ≡ p.hand
rejoins_hand code q n None p = refl
rejoins_hand code q n (Some (Ended v)) p = refl
rejoins_hand code q n (Some (Lives f Goes c)) p = refl
rejoins_hand code q n (Some (Lives f Asking c)) p = refl
rejoins_hand code q n (Some (Lives f (Has v) c)) p = refl
rejoins_hand code q n (Some (Lives f Joins c)) p = by (one_lives (alone_at q [] (map seen_entry p.table)) f.kids (joins_of (move code f.thread)))
  where
    by : (b : Bool) → (if b then p else be_ready (Own n) (put_entry n (Lives f Goes c) p)).hand ≡ p.hand
    by true = refl
    by false = refl

rejoined_hand : (code : Code) (q k : ℕ) (p : Processor) → (rejoined code q k p).hand ≡ p.hand
rejoined_hand code q zero p = refl
rejoined_hand code q (suc k) p = rejoins_hand code q k (slice_get (rejoined code q k p).table k) (rejoined code q k p) ∙ rejoined_hand code q k p

tell_hand : (q n : ℕ) (c : Option ThreadNo) (v : Value Address) (p : Processor) → (tell q n c v p).hand ≡ p.hand
tell_hand q n None v p = refl
tell_hand q n (Some t) v p = refl

ended_hand : (code : Code) (q n : ℕ) (c : Option ThreadNo) (v : Value Address) (p : Processor) → (ended code q n c v p).hand ≡ None
ended_hand code q n c v p =
    rejoined_hand code q (length p.table) (tell q n c v (put_hand None (put_entry n (Ended v) p))) ∙ tell_hand q n c v (put_hand None (put_entry n (Ended v) p))

-- ---- a move

module _ (code : Code) (q n : ℕ) (f : Fiber) (caller : Option ThreadNo) (ask : Ask Address) (k : Answer Address → Then Address) (p : Processor) (hand : p.hand ≡ Some n) where
  decided_hand : (v : Verdict Address) → HandIs q n (decided code q n f caller ask k p v)
  decided_hand (Go found) = by (may_step code q n f caller ask k p found)
    where
      by : (b : Bool) → HandIs q n (if b then Went (Some (OwnStep (record { processor = q; thread = n }))) (effect_here code q n f caller ask k p found).prints
          (stepped_here code q n f caller ask k p found) else Went None [] p)
      by true = (refl, inr (stepped_same (λ r. r.hand) same_hand code q n f caller ask k p found ∙ hand))
      by false = (tt, inr hand)
  decided_hand Hold = (tt, waits_hand n code q n f caller ask p hand)
  decided_hand (Bad kind) = tt

  itself_hand : HandIs q n (asks_itself code q n f caller ask k p)
  itself_hand = by (is_taken p n (goes_into code.shapes ask))
    where
      by : (b : Bool) → HandIs q n (if b then Went None [] (enters_later n (goes_into code.shapes ask) p) else decided code q n f caller ask k p (verdict (seen code q p) q f ask))
      by true = (tt, later_hand n n (goes_into code.shapes ask) p hand)
      by false = decided_hand (verdict (seen code q p) q f ask)

  asks_hand : (o : Option Post) → HandIs q n (asks_by code q n f caller ask k p o)
  asks_hand None = by (asks_null ask) (asks_here q f ask)
    where
      by : (b c : Bool) → HandIs q n (if b then Failed NullPointer (record { processor = q; thread = n }) else (if c then asks_itself code q n f caller ask k p else Went None [] p))
      by true c = tt
      by false true = itself_hand
      by false false = (tt, inr hand)
  asks_hand (Some post) = by (holds_none code.shapes f.inside)
    where
      by : (b : Bool) → HandIs q n (if b then Went None [] (send (Asks (record { processor = q; thread = n }) post) (put_hand None (put_entry n (Lives f Asking caller) p))) else Went None [] p)
      by true = (tt, inl refl)
      by false = (tt, inr hand)

moves_hand : (code : Code) (q n : ℕ) (f : Fiber) (caller : Option ThreadNo) (mv : Move Address) (p : Processor) → p.hand ≡ Some n → HandIs q n (moves_by code q n f caller mv p)
moves_hand code q n f caller (Silent c) p hand = (tt, inr hand)
moves_hand code q n f caller (Does line ask k) p hand = asks_hand code q n f caller ask k p hand (posted ask)
moves_hand code q n f caller (Ends v) p hand = (tt, inl (ended_hand code q n caller v p))
moves_hand code q n f caller Stuck p hand = (tt, inr hand)

entry_hand : (code : Code) (q n : ℕ) (o : Option Entry) (p : Processor) → p.hand ≡ Some n → HandIs q n (entry_moves code q n o p)
entry_hand code q n None p hand = (tt, inr hand)
entry_hand code q n (Some (Ended v)) p hand = (tt, inr hand)
entry_hand code q n (Some (Lives f Goes c)) p hand = moves_hand code q n f c (move code f.thread) p hand
entry_hand code q n (Some (Lives f Joins c)) p hand = (tt, inr hand)
entry_hand code q n (Some (Lives f Asking c)) p hand = (tt, inr hand)
entry_hand code q n (Some (Lives f (Has v) c)) p hand = (refl, inr hand)

pub moved_hand : (code : Code) (q n : ℕ) (p : Processor) → p.hand ≡ Some n → HandIs q n (moved code q p)
moved_hand code q n p hand = subst (λ o. HandIs q n (hand_moves code q o p)) (sym hand) (entry_hand code q n (slice_get p.table n) p hand)
