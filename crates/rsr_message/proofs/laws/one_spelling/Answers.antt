use Rattle.rsr_message.specs.Requests.{format_of}
use Rattle.rsr_message.proofs.SpellingLaws.{single_spelling}
use Rattle.rsr_message.proofs.laws.one_spelling.Goals as goal

pub returns : goal.returns
returns c version = single_spelling (format_of version)
