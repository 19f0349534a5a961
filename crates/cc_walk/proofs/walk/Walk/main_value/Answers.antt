use Rattle.std.proofs.Common.{sym, ◌∙◌, subst, rules}
use Rattle.std.specs.Int.{w64}
use Rattle.std.specs.Option.{option_map}
use Rattle.std.proofs.lemmas.Int.{to_z-of_z}
use mir.Val.{SFits}
use Rattle.cc_ops.specs.Values.{int_of}
use Rattle.cc_walk.specs.Enabled.{IsMainValue}
use Rattle.cc_walk.specs.Views.{machine_of}
use Rattle.cc_walk.proofs.MoveLaws.{main_alike}
use Rattle.cc_walk.proofs.walk.Walk.main_value.Goals as goal

pub returns : goal.returns
returns c = λ p s n stands.
    let fits : SFits w64 c.int_of.result = search rules in
    let main = subst (λ o. IsMainValue s (option_map (λ v. int_of v) o)) (sym c.in_ok-ended.ensures) (main_alike p (machine_of c.args.self.now) s n stands) in
    (main.0, main.1, to_z-of_z w64 c.int_of.result fits ∙ c.int_of.ensures ∙ main.2)

pub returns-in_err-ended : goal.returns-in_err-ended
returns-in_err-ended c = λ p s n stands.
    subst (IsMainValue s) (sym c.from_residual.ensures)
    (subst (λ o. IsMainValue s (option_map (λ v. int_of v) o)) (sym c.in_err-ended.ensures) (main_alike p (machine_of c.args.self.now) s n stands))
