use Rattle.std.specs.Int.{w16, w32}
use Rattle.std.proofs.lemmas.Result.{on_ok_weaker}
use Rattle.marshal.specs.Spellings.{IsNumber, ◌▸◌}
use Rattle.marshal.proofs.Steps.{puts_follow}
use Rattle.rsr_message.specs.Requests.{version_2, SpellsList}
use Rattle.rsr_message.proofs.encoding.append_call.Goals as goal

pub returns-clause-ok : goal.returns-clause-ok
returns-clause-ok c =
    let list = SpellsList version_2 c.args.args.now in
    on_ok_weaker _
    (λ put. puts_follow (IsNumber w32 c.args.object) (IsNumber w16 c.args.handler ▸ list) _ _ _ c.in_ok-put_u32.ensures.ok
    (puts_follow (IsNumber w16 c.args.handler) list _ _ _ c.in_ok-put_u16.ensures.ok put))
    c.append_list.ensures.ok
