use Rattle.std.proofs.Common.{sym, subst}
use Rattle.std.specs.Int.{w16}
use Rattle.std.proofs.lemmas.Result.{on_ok_weaker}
use Rattle.marshal.specs.Spellings.{IsNumber, Puts}
use Rattle.marshal.proofs.Steps.{puts_follow}
use Rattle.rsr_message.specs.Requests.{version_2, SpellsBody, SpellsSpot, SpellsGiven, SpellsList, IsAllowed}
use Rattle.rsr_message.proofs.EncodingSteps.{puts_given}
use Rattle.rsr_message.proofs.encoding.append_body.Goals as goal

pub returns-in_ok-append_spot-in-Put-clause-ok : goal.returns-in_ok-append_spot-in-Put-clause-ok
returns-in_ok-append_spot-in-Put-clause-ok c =
    let spot = c.in-Put.spot in
    let value = c.in-Put.value in
    on_ok_weaker _
    (λ put. subst (λ b. Puts (SpellsBody version_2 b) c.args.out.now c.put_value.new.out) (sym c.in-Put.is)
    (puts_follow (SpellsSpot spot) (SpellsGiven value) _ _ _ c.in_ok-append_spot-in-Put.ensures.ok
    (puts_given value _ _ (subst (IsAllowed version_2) c.in-Put.is c.requires) put)))
    c.put_value.ensures.ok

pub returns-in_ok-put_u16-in-Make-clause-ok : goal.returns-in_ok-put_u16-in-Make-clause-ok
returns-in_ok-put_u16-in-Make-clause-ok c =
    on_ok_weaker _
    (λ put. subst (λ b. Puts (SpellsBody version_2 b) c.args.out.now c.append_list.new.out) (sym c.in-Make.is)
    (puts_follow (IsNumber w16 c.in-Make.class) (SpellsList version_2 c.in-Make.args) _ _ _ c.in_ok-put_u16-in-Make.ensures.ok put))
    c.append_list.ensures.ok
