use Rattle.std.proofs.Common.{◌≡◌, ◌≤◌, ◌∙◌, subst, sym, arith, ap, length}
use Rattle.std.proofs.lemmas.List.{drop_all}
use Rattle.cc_names.specs.Broken.{IsLeast, least, least_from}
use Rattle.cc_names.proofs.LeastLaws.{is_least}
use Rattle.cc_names.proofs.broken.least.Goals as goal

pub returns-clause-least : goal.returns-clause-least
returns-clause-least c =
    let over : length c.args.broken.now ≤ c.loop-next.next-index = omega arith in
    let computed : c.loop-next.found ≡ least c.args.broken.now =
    sym (ap (least_from c.loop-next.found) (drop_all c.loop-next.next-index c.args.broken.now over)) ∙ c.loop-next.invariant in
    subst (IsLeast c.args.broken.now) (sym computed) (is_least c.args.broken.now)
