-- The three numbers behind the head, and the body.
use Rattle.std.proofs.lemmas.List.{take_rest}
use Rattle.rsr_message.specs.Requests.{format_of}
use Rattle.rsr_message.proofs.ReadingSteps.{body_behind, request_read}
use Rattle.rsr_message.proofs.reading.read.Goals as goal

pub read_body-requires : goal.read_body-requires
read_body-requires c =
    body_behind (format_of c.args.head.version) c.args.head.kind c.args.message.now _ _ _ _ _ _ _ c.requires (take_rest c.args.message.now 3) c.next_u32-to.ensures c.next_u32-from.ensures c.next_u32-ticket.ensures

pub returns-clause-ok : goal.returns-clause-ok
returns-clause-ok c =
    request_read (format_of c.args.head.version) c.args.head.kind (record { to = c.next_u32-to.result.0; from = c.next_u32-from.result.0; ticket = c.next_u32-ticket.result.0; body = c.in_ok-body.body })
    c.args.message.now _ _ _ _ c.requires (take_rest c.args.message.now 3) c.next_u32-to.ensures c.next_u32-from.ensures c.next_u32-ticket.ensures c.in_ok-body.ensures.ok
