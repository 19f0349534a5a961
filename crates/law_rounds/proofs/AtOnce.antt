-- Turns that are taken at once are the same turns one after another.
use Rattle.std.proofs.Common.{◌≡◌, ℕ, zero, suc, ◌+◌, ◌<◌, ◌≤◌, List, [], ◌∷◌, Bool, true, false, refl, ◌∙◌, subst, arith}
use Rattle.numbered_runs.proofs.Lists.{get_unchanged}
use Rattle.law_processors.specs.Processors.{Processor, Processors}
use Rattle.law_rounds.specs.Turn.{TurnEnd, Quota, Idle, Fault}
use Rattle.law_processors.specs.Busy.{busy}
use Rattle.law_rounds.specs.Round.{Due, TurnOf, Turns, AllTaken, MeetsFault, TakesTurn, Part, IsPart, AreParts, dues, Rise, with_part, joined_if, joined, due, due_first}

-- a turn elsewhere leaves the others' parts
parts_stay : (quota : ℕ) (m : Processors) (x : Part) (xs : List Part) (least : ℕ) → x.due.place < least → Rise least (dues xs) → AreParts quota m xs → AreParts quota (with_part m x) xs
parts_stay quota m x [] least lt rise h = tt
parts_stay quota m x (y ∷ ys) least lt rise h =
    let apart : y.due.place ≡ x.due.place → ⊥ = λ e. (let a = rise.0 in absurd (omega (arith, a, lt, e))) in (
      (get_unchanged m.all x.due.place (λ o. x.after) y.due.place apart ∙ h.0.0, h.0.1),
      parts_stay quota m x ys (suc y.due.place) (let a = rise.0 in omega (arith, a, lt)) rise.1 h.1,
    )

turn_of : (quota : ℕ) (m : Processors) (x : Part) → IsPart quota m x → TurnOf m quota x.due (with_part m x) x.notes x.end
turn_of quota m x h = record { before = x.before; there = h.0; after = x.after; prints = x.prints; turn = h.1; is = refl }

pub parts_are_turns : (quota : ℕ) (m : Processors) (xs : List Part) (least : ℕ) → AreParts quota m xs → Rise least (dues xs)
    → Turns quota (dues xs) m (joined m xs).mesh (joined m xs).notes (joined m xs).fault
parts_are_turns quota m [] least h rise = AllTaken
parts_are_turns quota m (x ∷ xs) least h rise =
    by x.end (turn_of quota m x h.0)
    (parts_are_turns quota (with_part m x) xs (suc x.due.place) (parts_stay quota m x xs (suc x.due.place) (omega arith) rise.1 h.1) rise.1)
  where
    by : (e : TurnEnd) → TurnOf m quota x.due (with_part m x) x.notes e
        → Turns quota (dues xs) (with_part m x) (joined (with_part m x) xs).mesh (joined (with_part m x) xs).notes (joined (with_part m x) xs).fault
        → Turns quota (x.due ∷ dues xs) m (joined_if m x e (λ m'. joined m' xs)).mesh (joined_if m x e (λ m'. joined m' xs)).notes (joined_if m x e (λ m'. joined m' xs)).fault
    by (Fault kind t) turn later = MeetsFault turn
    by Quota turn later = TakesTurn turn tt later
    by Idle turn later = TakesTurn turn tt later

rise_from : (a b : ℕ) (ds : List Due) → a ≤ b → Rise b ds → Rise a ds
rise_from a b [] le h = tt
rise_from a b (d ∷ ds) le h = (let z = h.0 in omega (arith, le, z), h.1)

pub due_rises : (all : List Processor) (k : ℕ) (words : List ℕ) (least : ℕ) → Rise least (due all k words least)
due_rises [] k words least = tt
due_rises (p ∷ ps) k words least = by (busy p) k words (λ k' ws'. due_rises ps k' ws' (least + 1))
  where
    skips : (k' : ℕ) (ws' : List ℕ) → Rise (least + 1) (due ps k' ws' (least + 1)) → Rise least (due ps k' ws' (least + 1))
    skips k' ws' h = rise_from least (least + 1) (due ps k' ws' (least + 1)) (omega arith) h

    by : (b : Bool) (k : ℕ) (ws : List ℕ) → ((k' : ℕ) (ws' : List ℕ) → Rise (least + 1) (due ps k' ws' (least + 1))) → Rise least (due_first b k ws least (λ k' ws'. due ps k' ws' (least + 1)))
    by true zero ws h = skips zero ws (h zero ws)
    by true (suc k) [] h = skips (suc k) [] (h (suc k) [])
    by true (suc k) (w ∷ ws) h = (omega arith, subst (λ z. Rise z (due ps k ws (least + 1))) (omega arith) (h k ws))
    by false k ws h = skips k ws (h k ws)
