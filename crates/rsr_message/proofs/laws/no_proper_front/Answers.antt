use Rattle.std.proofs.Common.{[], ◌++◌, sym, ◌∙◌}
use Rattle.std.proofs.lemmas.List.{append-nil, append_cancel_left}
use Rattle.rsr_message.proofs.RequestLaws.{one_request}
use Rattle.rsr_message.proofs.laws.no_proper_front.Goals as goal

pub returns : goal.returns
returns c request other bytes more a b =
    let one = one_request request other bytes (bytes ++ more) more [] a b (sym (append-nil (bytes ++ more))) in
    append_cancel_left bytes more [] (sym one.1 ∙ sym (append-nil bytes))
