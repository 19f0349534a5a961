-- A marked jump is one that goes round in a circle.
use Rattle.std.proofs.Common.{◌≡◌, ℕ, Bool, true, false, Option, Some, None, refl, sym, ap, ◌∙◌, List}
use Rattle.std.specs.Prelude.{slice_get, ◌↔◌, IsTrue}
use Rattle.std.proofs.lemmas.Bool.{false≢true}
use Rattle.cc_code.specs.Code.{Code, Placed, Instr, JumpI}
use Rattle.cc_code.specs.Stands.{Has}
use Rattle.cc_code.specs.Valid.{IsCircle}
use Rattle.stack_code.specs.Circles.{AreRounds, Ends, is_round, is_jump, is_jump_in, is_jump_at}
use Rattle.stack_code.proofs.CircleLaws.{circle_marked}

jump_in : (code : Code) (b : ℕ) (i : Instr) (line : ℕ) → slice_get code.places b ≡ Some (record { instr = i; line = line }) → is_jump i ≡ true → (n : ℕ) × (to : ℕ) × Has code n b (JumpI to)
jump_in code b (JumpI to) line stands e = (line, to, stands)
jump_in code b i line stands e = absurd (false≢true e)

jump_has_at : (code : Code) (b : ℕ) (p : Option Placed) → slice_get code.places b ≡ p → is_jump_in p ≡ true → (n : ℕ) × (to : ℕ) × Has code n b (JumpI to)
jump_has_at code b None stands e = absurd (false≢true e)
jump_has_at code b (Some p) stands e = jump_in code b p.instr p.line stands e

pub unmarked_no_circle : (code : Code) (rounds : List Bool) (b : ℕ) → AreRounds code rounds → ((x : ℕ) → Ends code rounds x) → is_round rounds b ≡ false → IsTrue false ↔ IsCircle code b
unmarked_no_circle code rounds b are all m =
    (λ e. absurd (false≢true e), λ circle. absurd (false≢true (sym m ∙ circle_marked code rounds b are (all b) circle.3)))

pub marked_circle : (code : Code) (rounds : List Bool) (b : ℕ) (r : Bool) → AreRounds code rounds → is_round rounds b ≡ true → r ≡ is_jump_at code b → IsTrue r ↔ IsCircle code b
marked_circle code rounds b r are m is = (
  λ e. let j = jump_has_at code b (slice_get code.places b) refl (sym is ∙ e) in (j.0, j.1, j.2, are.sound b m),
  λ circle. is ∙ ap is_jump_in circle.2,
)
