-- What is left after the answer to what an instruction asks.
use Rattle.std.proofs.Common.{◌≡◌, inl, inr, ℕ, ◌≤◌, List, length, true, refl, sym, ap, ◌∙◌, subst}
use Rattle.std.proofs.lemmas.Bool.{cases_lt}
use Rattle.global_ptr.specs.declared.values.Value.{Value as RustValue}
use Rattle.cc_ops.specs.Machine.{Address}
use Rattle.cc_code.specs.Code.{Code, Thread, Move, Instr, act}
use Rattle.cc_code.specs.Valid.{taken, goes_on}
use Rattle.stack_code.specs.View.{instr_of}
use Rattle.stack_code.specs.declared.instr.Instr.{Instr as RustInstr}
use Rattle.stack_code.specs.declared.instr.Instr.TheVariants as t
use Rattle.code_thread.specs.Moves.{IsAsk, after}
use Rattle.code_thread.specs.View.{operands_of, acts, answer_of}
use Rattle.code_thread.specs.declared.running.Running.{Running}
use Rattle.code_thread.proofs.ActLaws.{act_found, act_wanting}

-- one that is no return goes on
pub asks_go_on : (code : Code) (r : Running) (line : ℕ) (x : RustInstr) → (x ≡ t.Ret → ⊥) → IsAsk (acts code r line (instr_of x))
    → goes_on (instr_of x) ≡ true
asks_go_on code r line t.Ret no_return asks = absurd (no_return refl)
asks_go_on code r line (t.Jump to) no_return asks = absurd asks
asks_go_on code r line t.End no_return asks = absurd asks
asks_go_on code r line x no_return asks = refl

module _ (code : Code) (r : Running) (line : ℕ) (i : Instr) (asks : IsAsk (act code r.frame r.callers (operands_of r) line i)) where
  -- it finds its operands
  pub asks_finds : taken code.shapes i ≤ length (operands_of r)
  asks_finds = elim (cases_lt (length (operands_of r)) (taken code.shapes i)) [
    | inl few ↦ absurd (subst IsAsk (act_wanting code r.frame r.callers (operands_of r) line i few) asks)
    | inr enough ↦ enough
  ]

  found : act code r.frame r.callers (operands_of r) line i ≡ acts code r line i
  found = act_found code r.frame r.callers (operands_of r) line i asks_finds

  pub asks_on : IsAsk (acts code r line i)
  asks_on = subst IsAsk found asks

  pub left_by : (c : Thread Address) (values : List RustValue) (first count : ℕ)
      → (let m = acts code r line i in c ≡ (after m (answer_of values first count)).left)
      → let m = act code r.frame r.callers (operands_of r) line i in c ≡ (after m (answer_of values first count)).left
  left_by c values first count h = h ∙ sym (ap (λ (m : Move Address). (after m (answer_of values first count)).left) found)
