use Rattle.std.proofs.Common.{◌≡◌, Some, sym, ap, ◌∙◌, subst, rules}
use Rattle.std.specs.Int.{w64}
use Rattle.std.proofs.lemmas.Int.{to_z-of_z}
use mir.Val.{SFits}
use Rattle.cc_ops.specs.Machine.{value_of}
use Rattle.cc_ops.specs.Values.{Int}
use Rattle.cc_core.specs.Config.{Ended}
use Rattle.cc_walk.specs.Enabled.{IsMainInt}
use Rattle.cc_walk.specs.Views.{machine_of}
use Rattle.cc_walk.proofs.RestLaws.{int_in, no_int, main_int_alike}
use Rattle.cc_walk.proofs.walk.Walk.main_int.Goals as goal

pub returns-in_err-int : goal.returns-in_err-int
returns-in_err-int c = λ p s n stands.
    subst (IsMainInt s) (sym c.from_residual.ensures)
    (subst (λ o. IsMainInt s (int_in o)) (sym c.in_err-int.ensures) (main_int_alike p (machine_of c.args.self.now) s n stands))

pub returns-in-Int : goal.returns-in-Int
returns-in-Int c = λ p s n stands.
    let main = subst (λ o. IsMainInt s (int_in o)) (sym c.in_ok-int.ensures) (main_int_alike p (machine_of c.args.self.now) s n stands) in
    let is : int_in (Some (value_of c.in_ok-int.field-0)) ≡ Some c.in-Int.int = ap (λ v. int_in (Some (value_of v))) c.in-Int.is in
    let fits : SFits w64 c.in-Int.int = search rules in
    subst (IsMainInt s) is main ∙ ap (λ i. Some (Ended (Int i))) (sym (to_z-of_z w64 c.in-Int.int fits))

pub returns-in_default : goal.returns-in_default
returns-in_default c = λ p s n stands.
    let main = subst (λ o. IsMainInt s (int_in o)) (sym c.in_ok-int.ensures) (main_int_alike p (machine_of c.args.self.now) s n stands) in
    subst (IsMainInt s) (no_int c.in_ok-int.field-0 c.in_default.not-Int) main
