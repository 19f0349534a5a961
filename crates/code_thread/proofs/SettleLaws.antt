-- A silent move on the way to the end of them, and the end.
use Rattle.std.proofs.Common.{◌≡◌, ◌<◌, refl, sym, ap, ◌∙◌}
use Rattle.cc_ops.specs.Machine.{Address}
use Rattle.cc_code.specs.Code.{Code, Thread, Move, Silent, Does, Ends, Stuck, move}
use Rattle.cc_code.specs.Valid.{IsValid}
use Rattle.numbered_threads.specs.Numbered.{IsSilent}
use Rattle.numbered_threads.specs.Quiet.{after_silent, run_quietly, quiet_end}
use Rattle.numbered_threads.proofs.ValidLaws.{valid_code_settles}
use Rattle.numbered_threads.proofs.QuietLaws.{moves_left, moves_fall, quiet_end_goes, quiet_end_stays}

module _ (code : Code) (c d : Thread Address) (is : d ≡ run_quietly code 1 c) where
  silent_to : (m : Move Address) → IsSilent m → m ≡ Silent (after_silent (λ e. e) c m)
  silent_to (Silent e) s = refl
  silent_to (Does line q k) s = absurd s
  silent_to (Ends v) s = absurd s
  silent_to Stuck s = absurd s

  stays : (m : Move Address) → ¬ IsSilent m → after_silent (λ e. e) c m ≡ c
  stays (Silent e) loud = absurd (loud tt)
  stays (Does line q k) loud = refl
  stays (Ends v) loud = refl
  stays Stuck loud = refl

  goes : IsSilent (move code c) → move code c ≡ Silent d
  goes s = silent_to (move code c) s ∙ ap (λ (e : Thread Address). Silent e) (sym is)

  pub fewer_left : IsValid code → IsSilent (move code c) → moves_left code d < moves_left code c
  fewer_left valid s = moves_fall code (valid_code_settles code valid) c d (goes s)

  pub same_end : IsValid code → IsSilent (move code c) → quiet_end code d ≡ quiet_end code c
  same_end valid s = sym (quiet_end_goes code (valid_code_settles code valid) c d (goes s))

  pub at_the_end : ¬ IsSilent (move code c) → d ≡ quiet_end code c
  at_the_end loud = is ∙ stays (move code c) loud ∙ sym (quiet_end_stays code c loud)
