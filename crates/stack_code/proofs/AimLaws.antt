-- An instruction is misaimed exactly where it is not well aimed.
use Rattle.std.proofs.Common.{◌≡◌, ℕ, Bool, true, false, Option, Some, None, refl, sym, ap, ◌∙◌}
use Rattle.std.specs.Prelude.{slice_get, not, ◌↔◌, IsTrue}
use Rattle.std.proofs.lemmas.Bool.{false≢true}
use Rattle.cc_code.specs.Code.{Code, Placed, EndI}
use Rattle.cc_code.specs.Valid.{well_aimed, IsMisaimed}

abbrev placed_in : Option Placed → Placed
placed_in None = record { instr = EndI; line = 0 }
placed_in (Some p) = p

pub misaimed_if : (code : Code) (b : ℕ) (p : Placed) (r : Bool) → slice_get code.places b ≡ Some p → r ≡ well_aimed code b p.instr → IsTrue (not r) ↔ IsMisaimed code b
misaimed_if code b p true stands is = (
  λ e. absurd (false≢true e),
  λ m. let same : p ≡ m.0 = ap placed_in (sym stands ∙ m.1) in
      absurd (false≢true (sym m.2 ∙ (ap (λ (x : Placed). well_aimed code b x.instr) (sym same) ∙ sym is))),
)
misaimed_if code b p false stands is = (λ _. (p, stands, sym is), λ _. refl)
