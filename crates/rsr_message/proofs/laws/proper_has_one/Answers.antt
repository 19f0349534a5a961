use Rattle.rsr_message.specs.Requests.{format_of}
use Rattle.rsr_message.proofs.SpellingLaws.{proper_spelled, spelled_proper}
use Rattle.rsr_message.proofs.laws.proper_has_one.Goals as goal

pub returns-clause-has : goal.returns-clause-has
returns-clause-has c = proper_spelled

pub returns-clause-only : goal.returns-clause-only
returns-clause-only c version = spelled_proper (format_of version)
