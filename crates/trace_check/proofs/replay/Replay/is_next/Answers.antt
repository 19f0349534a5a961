use Rattle.std.proofs.Common.{List, ℕ, ◌++◌, Some, sym, ap, ◌∙◌, subst}
use Rattle.cc_walk.specs.Posted.{AsksFor}
use Rattle.std.specs.Str.{bytes_eq}
use Rattle.rsr_message.specs.Requests.{Spells, version_2}
use Rattle.cc_ops.specs.declared.number.ThreadNo.{ThreadNo}
use Rattle.trace_check.proofs.SaidLaws.{is_next}
use Rattle.trace_check.proofs.replay.Replay.is_next.Goals as goal

pub returns : goal.returns
returns c = λ p a at.
    let r = c.args.request.now in
    let asked : AsksFor p a.config a.numbers c.asker_of.result (Some c.in-Some.next) =
    subst (AsksFor p a.config a.numbers c.asker_of.result) c.in-Some.is (c.in_ok-next.ensures.follows p a.config a.numbers at.stands) in
    let put = c.in_ok-encode.ensures.ok in
    let spells : Spells version_2 c.in-Some.next c.encode.new.out =
    subst (Spells version_2 c.in-Some.next) (sym (put.whole ∙ ap (λ (front : List ℕ). front ++ put.spelling) c.new-spelled.ensures)) put.spelled in
    is_next p c.args.at c.args.bytes.now a r c.requires (c.is_served.ensures.0 c.if-not-is_served.false) c.in-Some.next
    (subst (λ (t : ThreadNo). AsksFor p a.config a.numbers t (Some c.in-Some.next)) c.asker_of.ensures asked) c.encode.new.out spells c.eq.result
    (c.eq.ensures ∙ ap (λ (front : List ℕ). bytes_eq front c.args.bytes.now) c.as_slice.ensures)
