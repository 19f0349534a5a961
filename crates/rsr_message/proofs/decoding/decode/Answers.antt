use Rattle.rsr_message.proofs.DecodingLaws.{decodes_request, decodes_cause}
use Rattle.rsr_message.proofs.decoding.decode.Goals as goal

pub returns-clause-message : goal.returns-clause-message
returns-clause-message c = decodes_request _ _ c.decode_front.ensures

pub returns-clause-cause : goal.returns-clause-cause
returns-clause-cause c = decodes_cause _ _ c.decode_front.ensures
