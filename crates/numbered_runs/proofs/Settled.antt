-- A thread of the code, after its silent moves, and the thread that it follows: both ask, or both have ended.
use Rattle.std.proofs.Common.{◌≡◌, ℕ, suc, ◌∷◌, length, slice_get, Some, refl, sym, subst}
use Rattle.cc_ops.specs.Machine.{Address}
use Rattle.cc_ops.specs.declared.number.ThreadNo.{ThreadNo}
use Rattle.cc_core.specs.Names.{Name, Value}
use Rattle.cc_core.specs.Core.{Program, Term}
use Rattle.cc_core.specs.Config as core
use Rattle.cc_core.specs.Config.{State, Live, Ended}
use Rattle.cc_core.specs.Next.{Next, Ready, Asks, next}
use Rattle.cc_core.specs.Numbers.{Numbers}
use Rattle.cc_core.specs.Steps.{settled}
use Rattle.cc_core.specs.Steps as core-steps
use Rattle.cc_code.specs.Code.{Code, Thread, Move, Silent, Does, Ends, Stuck, move}
use Rattle.cc_code.specs.Settles.{Settles}
use Rattle.code_names.specs.Same.{Pairwise}
use Rattle.numbered_threads.specs.Numbered.{Naming, IsLater, IsSilent, MovesAlike}
use Rattle.numbered_threads.specs.Numbered.{Stands as Follows}
use Rattle.numbered_threads.specs.Quiet.{quiet_end}
use Rattle.numbered_threads.proofs.Numbered.{quiet_stands, moves_alike}
use Rattle.numbered_threads.proofs.QuietLaws.{kept_quietly, quiet_end_is_loud}
use Rattle.numbered_runs.specs.Machine.{Runner}
use Rattle.numbered_runs.specs.Stands.{IsThread, is_object, IsAsk, SameInside, SameAsked, SameLive, SameState}
use Rattle.numbered_runs.specs.Steps.{ended_or, with_thread, settle}

-- All that is alike in two threads but what they have left to do.
pub record SameRest (n : Numbers) (x : Name) (r : Runner) (l : core.Thread) : Type 0 where
  pub asked : SameAsked n r.kids r.asked l.asked
  pub made : length r.kids ≡ l.threads
  pub kids : (k : ℕ) (t : ThreadNo) → slice_get r.kids k ≡ Some t → IsThread n t (k ∷ x)
  pub inside : Pairwise (SameInside n) r.inside l.inside

quiet_follows : (p : Program) (code : Code) (naming : Naming) (c : Thread Address) (t : Term) → Follows p code naming c t
    → Follows p code naming (quiet_end code c) t
unfolding quiet_end
quiet_follows p code naming c t =
    kept_quietly code (λ d. Follows p code naming d t) (λ d e follows is. quiet_stands p code naming d e t follows is) (suc (length code.places)) c

module _ (p : Program) (code : Code) (settles : (b : ℕ) → Settles code b) (n : Numbers) (x : Name) where
  module _ (r : Runner) (l : core.Thread) (rest : SameRest n x r l) (follows : Follows p code (is_object n) r.thread l.term) where
    moved : (e : Next Value Term) (m : Move Address) → move code r.thread ≡ m → MovesAlike p code (is_object n) (is_object n) e m
        → SameState n p code x (ended_or r m) (settled e l)
    moved (Ready v) (Ends w) is same = same
    moved (Asks line q k) (Does line' q' j) is same = record {
      thread = follows;
      asks = subst IsAsk (sym is) tt;
      asked = rest.asked;
      made = rest.made;
      kids = rest.kids;
      inside = rest.inside;
    }
    moved e m is same = absurd same

  pub settled_alike : (r : Runner) (l : core.Thread) → SameRest n x r l → Follows p code (is_object n) r.thread l.term
      → SameState n p code x (settle code r) (core-steps.settle p l)
  settled_alike r l rest follows =
      let c : Thread Address = quiet_end code r.thread in
      let stays : Follows p code (is_object n) c l.term = quiet_follows p code (is_object n) r.thread l.term follows in
      let kept : SameRest n x (with_thread r c) l = record { asked = rest.asked; made = rest.made; kids = rest.kids; inside = rest.inside } in
      moved (with_thread r c) l kept stays (next p l.term) (move code c) refl
      (moves_alike p code (is_object n) (is_object n) (λ a o h. h) c l.term stays (quiet_end_is_loud code settles r.thread))

-- Threads that are alike move alike, whatever is named by then.
pub live_moves : (p : Program) (code : Code) (n : Numbers) (x : Name) (r : Runner) (l : core.Thread) → SameLive n p code x r l → (after : Naming)
    → IsLater (is_object n) after → MovesAlike p code (is_object n) after (next p l.term) (move code r.thread)
live_moves p code n x r l live after more = moves_alike p code (is_object n) after more r.thread l.term live.thread (loud (move code r.thread) live.asks)
  where
    loud : (m : Move Address) → IsAsk m → ¬ IsSilent m
    loud (Silent c) ask silent = ask
    loud (Does line q j) ask silent = silent
    loud (Ends v) ask silent = silent
    loud Stuck ask silent = silent
