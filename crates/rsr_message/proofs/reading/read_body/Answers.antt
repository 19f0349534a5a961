-- What stands behind the numbers of each kind.
use Rattle.std.proofs.Common.{sym, subst}
use Rattle.rsr_message.specs.Requests.{format_of, SpellsSpot, SpellsGiven}
use Rattle.rsr_message.specs.Shapes.{HasBodyShape}
use Rattle.rsr_message.proofs.ReadingSteps.{follows_taken, call_list, make_list, put_given, given_value, same_given}
use Rattle.rsr_message.proofs.reading.read_body.Goals as goal

pub read_list-requires : goal.read_list-requires
read_list-requires c =
    call_list (format_of c.args.head.version) _ _ _ _ _ (subst (λ k. HasBodyShape k (format_of c.args.head.version) c.args.bytes.now) c.in-Call.is c.requires) c.next_u32-object.ensures c.next_u16-handler.ensures

pub read_list-requires-in-Cast : goal.read_list-requires-in-Cast
read_list-requires-in-Cast c =
    call_list (format_of c.args.head.version) _ _ _ _ _ (subst (λ k. HasBodyShape k (format_of c.args.head.version) c.args.bytes.now) c.in-Cast.is c.requires) c.next_u32-object-in-Cast.ensures c.next_u16-handler-in-Cast.ensures

pub read_list-requires-in-Make : goal.read_list-requires-in-Make
read_list-requires-in-Make c =
    make_list (format_of c.args.head.version) _ _ _ (subst (λ k. HasBodyShape k (format_of c.args.head.version) c.args.bytes.now) c.in-Make.is c.requires) c.next_u16-class.ensures

pub read_value-value-requires : goal.read_value-value-requires
read_value-value-requires c =
    given_value _ (put_given _ _ _ (subst (λ k. HasBodyShape k (format_of c.args.head.version) c.args.bytes.now) c.in-Put.is c.requires) c.next_spot-in-Put.ensures)

pub returns-in-Put-clause-ok : goal.returns-in-Put-clause-ok
returns-in-Put-clause-ok c =
    let spot = c.next_spot-in-Put.result.0 in
    let value = c.read_value-value.result in
    let given = put_given _ _ _ (subst (λ k. HasBodyShape k (format_of c.args.head.version) c.args.bytes.now) c.in-Put.is c.requires) c.next_spot-in-Put.ensures in
    record {
      kind = sym c.in-Put.is;
      spelled = follows_taken (SpellsSpot spot) (SpellsGiven value) _ _ c.next_spot-in-Put.ensures (same_given _ value given c.read_value-value.ensures);
    }
