-- The next move of a thread, by the instruction at its place.
use Rattle.std.proofs.Common.{◌≡◌, ℕ, ◌<◌, ◌≤◌, List, length, Option, Some, sym, ap, ◌∙◌, subst, arith}
use Rattle.std.specs.Prelude.{slice_get}
use Rattle.std.proofs.lemmas.Option.{slice_get-get_or, slice_get_past}
use Rattle.global_ptr.specs.declared.values.Value.{Value as RustValue}
use Rattle.cc_ops.specs.Machine.{Address}
use Rattle.cc_code.specs.Code.{Code, Thread, Move, Stuck, Instr, EndI, act, fetched, move}
use Rattle.stack_code.specs.View.{placed_at}
use Rattle.code_thread.specs.Moves.{IsAsk, after}
use Rattle.code_thread.specs.View.{operands_of, running_of, IsNext, ended_or, answer_of}
use Rattle.code_thread.specs.declared.running.Running.{Running}

module _ (code : Code) (b : ℕ) (inside : b < length code.places) where
  fetches : slice_get code.places b ≡ Some (placed_at code b)
  fetches = slice_get-get_or code.places b (record { instr = EndI; line = 0 }) inside

module _ (code : Code) (r : Running) where
  pub is_next : (b : ℕ) (i : Instr) → b < length code.places → b ≡ r.frame.place → i ≡ (placed_at code b).instr → IsNext code r i
  is_next b i within at is =
      let here : i ≡ (placed_at code r.frame.place).instr = is ∙ ap (λ (c : ℕ). (placed_at code c).instr) at in
      let inside : r.frame.place < length code.places = omega (arith, within, at) in
      record {
        inside = inside;
        moves = ap (act code r.frame r.callers (operands_of r) (placed_at code r.frame.place).line) here
            ∙ sym (ap (fetched code r.frame r.callers (operands_of r)) (fetches code r.frame.place inside));
      }

  pub no_next : (b : ℕ) → length code.places ≤ b → b ≡ r.frame.place → move code (running_of r) ≡ Stuck
  no_next b past at = ap (fetched code r.frame r.callers (operands_of r)) (slice_get_past code.places r.frame.place (omega (arith, past, at)))

-- a thread c that runs, by its next instruction
module _ (code : Code) (r : Running) (i : Instr) (c : Thread Address) (next : IsNext code r i) (runs : running_of r ≡ c) where
  abbrev line : ℕ
  line = (placed_at code r.frame.place).line

  pub next_move : act code r.frame r.callers (operands_of r) line i ≡ move code c
  next_move = next.moves ∙ ap (move code) runs

  pub next_left : (r' : Running) (end : Option RustValue) (found : List RustValue) (first count : ℕ)
      → ((n : ℕ) → let m = act code r.frame r.callers (operands_of r) n i in
      IsAsk m → ended_or r' end ≡ (after m (answer_of found first count)).left)
      → let m = move code c in IsAsk m → ended_or r' end ≡ (after m (answer_of found first count)).left
  next_left r' end found first count ends asks =
      ends line (subst IsAsk (sym next_move) asks) ∙ ap (λ (m : Move Address). (after m (answer_of found first count)).left) next_move
