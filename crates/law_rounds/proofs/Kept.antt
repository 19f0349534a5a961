-- What the pieces of a step leave as it is.
use Rattle.std.proofs.Common.{◌≡◌, ℕ, List, [], ◌∷◌, Bool, true, false, Option, Some, None, refl, ◌∙◌}
use Rattle.cc_ops.specs.Values.{Value, Void, Int, Null, Ptr}
use Rattle.cc_ops.specs.Machine.{Address, Values}
use Rattle.cc_ops.specs.declared.number.ThreadNo.{ThreadNo}
use Rattle.cc_core.specs.Core.{Shapes}
use Rattle.cc_core.specs.Asks.{Ask, Answer, Leaves}
use Rattle.cc_code.specs.Code.{Code, Thread, Then}
use Rattle.law_mesh.specs.Local.{place_after, new_here}
use Rattle.law_mesh.specs.Spots.{Fiber}
use Rattle.law_mesh.specs.Queues.{holds}
use Rattle.law_processors.specs.Processors.{Goes, Lives, Locked, Processor}
use Rattle.law_processors.specs.Alone.{Did, Went, Failed, put_entry, put_shelf, wake, wake_at, wake_written, make_thread, make_threads, goes_into, take_lock, put_lock, held_by}
use Rattle.law_processors.specs.Alone.{hand_on, leave_lock, leave_object, leave_innermost, after_leaving, here, effect_here, on_here, stepped_here}

abbrev pub Same : {X : Type 0} → (Processor → X) → Processor → Did Processor → Type 0
Same f p (Went step prints p') = f p' ≡ f p
Same f p (Failed kind t) = Unit {0}

-- f sees of a processor what is in its hand and in its inbox, at most
module _ {X : Type 0} (f : Processor → X) (blind : (p r : Processor) → r.inbox ≡ p.inbox → r.hand ≡ p.hand → f r ≡ f p) where
  pub wake_same : (a : Value Address) (p : Processor) → f (wake_at a p) ≡ f p
  wake_same Void p = refl
  wake_same (Int n) p = refl
  wake_same Null p = refl
  wake_same (Ptr b x) p = blind p (wake b.object x p) refl refl

  woken_same : (ws : List (Value Address × Value Address)) (p : Processor) → f (wake_written ws p) ≡ f p
  woken_same [] p = refl
  woken_same (w ∷ ws) p = woken_same ws (wake_at w.0 p) ∙ wake_same w.0 p

  made_same : (cs : List (Thread Address)) (p : Processor) → f (make_threads cs p) ≡ f p
  made_same [] p = refl
  made_same (c ∷ cs) p = made_same cs (make_thread c None p) ∙ blind p (make_thread c None p) refl refl

  taken_same : (n : ℕ) (o : Option Address) (p : Processor) → f (take_lock n o p) ≡ f p
  taken_same n None p = refl
  taken_same n (Some b) p = blind p (put_lock b.object (held_by n (p.locks b.object)) p) refl refl

  handed_same : (o : ℕ) (ws : List ℕ) (p : Processor) → f (hand_on o ws p) ≡ f p
  handed_same o [] p = blind p (hand_on o [] p) refl refl
  handed_same o (i ∷ is) p = blind p (hand_on o (i ∷ is) p) refl refl

  lock_same : (o : ℕ) (l : Option Locked) (p : Processor) → f (leave_lock o l p) ≡ f p
  lock_same o None p = refl
  lock_same o (Some l) p = handed_same o l.waiters p

  object_same : (b : Bool) (v : Value Address) (p : Processor) → f (leave_object b v p) ≡ f p
  object_same false v p = refl
  object_same true Void p = refl
  object_same true (Int n) p = refl
  object_same true Null p = refl
  object_same true (Ptr b x) p = lock_same b.object (p.locks b.object) p

  innermost_same : (h : Shapes) (es : List (ℕ × Value Address)) (p : Processor) → f (leave_innermost h es p) ≡ f p
  innermost_same h [] p = refl
  innermost_same h (e ∷ es) p = object_same (holds h e.0 e.1) e.1 p

  left_same : (h : Shapes) (g : Fiber) (ask : Ask Address) (p : Processor) → f (after_leaving h g ask p) ≡ f p
  left_same h g Leaves p = innermost_same h g.inside p
  left_same h g ask p = refl

  pub stepped_same : (code : Code) (q n : ℕ) (g : Fiber) (caller : Option ThreadNo) (ask : Ask Address) (k : Answer Address → Then Address) (p : Processor) (found : Values)
      → f (stepped_here code q n g caller ask k p found) ≡ f p
  stepped_same code q n g caller ask k p found =
      let e = effect_here code q n g caller ask k p found in
      let s = (place_after code q n (here code q n g caller ask k p) g ask k found e).shelf in
      let new = new_here code q n (here code q n g caller ask k p) g ask k found e in
      let p2 = make_threads new (put_shelf s p) in
      let p3 = put_entry n (Lives (on_here code q n g caller ask k p found) Goes caller) p2 in
      left_same code.shapes g ask (take_lock n (goes_into code.shapes ask) (wake_written e.writes p3))
      ∙ (taken_same n (goes_into code.shapes ask) (wake_written e.writes p3)
      ∙ (woken_same e.writes p3 ∙ (blind p2 p3 refl refl ∙ (made_same new (put_shelf s p) ∙ blind p (put_shelf s p) refl refl))))
