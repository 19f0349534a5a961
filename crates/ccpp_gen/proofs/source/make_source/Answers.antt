use Rattle.std.proofs.Common.{◌∙◌, sym}
use Rattle.std.proofs.lemmas.Result.{IfOk-weaker}
use Rattle.ccpp_gen.proofs.Texts.{source_is}
use Rattle.ccpp_gen.proofs.source.make_source.Goals as goal

pub returns : goal.returns
returns c =
    IfOk-weaker c.from_slice.result _ _ (λ text e. e ∙ c.as_bytes.ensures.value ∙ c.in_ok-text.ensures.ok ∙ sym (source_is c.args.size)) c.from_slice.ensures
