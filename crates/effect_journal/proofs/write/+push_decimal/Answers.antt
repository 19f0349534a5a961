use Rattle.std.proofs.Common.{◌≡◌, ◌++◌, ◌∷◌, [], ◌∙◌, ap, decimal, ◌+◌, ◌%◌}
use Rattle.std.proofs.lemmas.Result.{on_ok_weaker}
use Rattle.effect_journal.proofs.WriteLaws.{one_digit, last_digit}
use Rattle.effect_journal.proofs.write.+push_decimal.Goals as goal
use Rattle.effect_journal.proofs.write.+push_decimal.Goals.{then-n-ge10+in_ok-push_decimal, else-n-ge10}

pub returns : goal.returns
returns t c =
    let written : c.if-n-ge10.line ++ (48 + c.args.n % 10) ∷ [] ≡ c.args.line.now ++ decimal c.args.n =
    elim c.if-n-ge10.branch [
      | then-n-ge10+in_ok-push_decimal w ↦
          last_digit c.args.line.now c.if-n-ge10.line c.args.n w.if-n-ge10.true c.ranges.n.fits (w.line-is ∙ w.in_ok-push_decimal.ensures)
      | else-n-ge10 w ↦ ap (λ l. l ++ (48 + c.args.n % 10) ∷ []) w.line-is ∙ one_digit c.args.line.now c.args.n w.if-n-ge10.false
    ] in
    on_ok_weaker c.push.result (λ e. e ∙ written) c.push.ensures.ok
