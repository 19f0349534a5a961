use Rattle.std.proofs.Common.{◌≡◌, ◌≤◌, ◌∙◌, subst, sym, arith, ap, length}
use Rattle.std.proofs.lemmas.List.{drop_all}
use Rattle.sharing_check.specs.Sharing.{IsLeast, least, least_from}
use Rattle.sharing_check.proofs.LeastLaws.{is_least}
use Rattle.sharing_check.proofs.answer.least.Goals as goal

pub returns-clause-least : goal.returns-clause-least
returns-clause-least c =
    let over : length c.args.shares.now ≤ c.loop-next.next-index = omega arith in
    let computed : c.loop-next.found ≡ least c.args.shares.now =
    sym (ap (least_from c.loop-next.found) (drop_all c.loop-next.next-index c.args.shares.now over)) ∙ c.loop-next.invariant in
    subst (IsLeast c.args.shares.now) (sym computed) (is_least c.args.shares.now)
