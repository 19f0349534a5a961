use Rattle.std.proofs.Common.{◌∷◌, ◌++◌, [], ◌∙◌, ap}
use Rattle.std.proofs.lemmas.Result.{on_ok_weaker}
use Rattle.rsr_message.specs.Shapes.{byte_of}
use Rattle.rsr_message.proofs.EncodingSteps.{request_put}
use Rattle.rsr_message.proofs.encoding.append.Goals as goal

pub returns-clause-ok : goal.returns-clause-ok
returns-clause-ok c =
    on_ok_weaker _
    (request_put c.args.request.now _ _ _ _ _ _ _ _ c.byte-2.result c.in_ok-push.ensures.ok (c.in_ok-push-2.ensures.ok ∙ ap (λ b. c.push.new.self ++ b ∷ []) c.byte.ensures) c.in_ok-push-3.ensures.ok (c.byte-2.ensures ∙ ap byte_of c.kind.ensures) c.in_ok-put_u32.ensures.ok c.in_ok-put_u32-2.ensures.ok c.in_ok-put_u32-3.ensures.ok)
    c.append_body.ensures.ok
