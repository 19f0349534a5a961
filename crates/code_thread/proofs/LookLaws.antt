-- What an instruction does with operands as Rust holds them.
use Rattle.std.proofs.Common.{◌≡◌, ℕ, ◌<◌, ◌≤◌, List, length, map, drop, sym, ap, ◌∙◌, arith}
use Rattle.std.proofs.lemmas.List.{length-map}
use Rattle.global_ptr.specs.declared.values.Value.{Value as RustValue}
use Rattle.cc_ops.specs.Machine.{Address, value_of}
use Rattle.cc_ops.specs.Values.{Value}
use Rattle.cc_code.specs.Code.{Code, Instr, Stuck, act}
use Rattle.cc_code.specs.Valid.{taken}
use Rattle.code_thread.specs.Stacks.{topmost}
use Rattle.code_thread.specs.Acts.{acts_on}
use Rattle.code_thread.specs.View.{operands_of}
use Rattle.code_thread.specs.declared.running.Running.{Running}
use Rattle.code_thread.proofs.ValueLaws.{topmost_values}
use Rattle.code_thread.proofs.ActLaws.{act_found, act_wanting}

module _ (code : Code) (r : Running) (line : ℕ) (i : Instr) (n : ℕ) (takes : n ≡ taken code.shapes i) where
  pub acts_on_topmost : (args : List RustValue) → (n ≤ length r.operands) × (args ≡ topmost n r.operands)
      → acts_on code r.frame r.callers (map value_of args) (drop (taken code.shapes i) (operands_of r)) line i
      ≡ act code r.frame r.callers (operands_of r) line i
  acts_on_topmost args h =
      let m : ℕ = taken code.shapes i in
      let enough : m ≤ length (operands_of r) = omega (arith, h.0, takes, length-map r.operands value_of) in
      let found : map value_of args ≡ topmost m (operands_of r) =
      ap (map value_of) (h.1 ∙ ap (λ (k : ℕ). topmost k r.operands) takes) ∙ topmost_values m r.operands in
      ap (λ (vs : List (Value Address)). acts_on code r.frame r.callers vs (drop m (operands_of r)) line i) found
      ∙ sym (act_found code r.frame r.callers (operands_of r) line i enough)

  pub stuck_wanting : length r.operands < n → act code r.frame r.callers (operands_of r) line i ≡ Stuck
  stuck_wanting h = act_wanting code r.frame r.callers (operands_of r) line i (omega (arith, h, takes, length-map r.operands value_of))
