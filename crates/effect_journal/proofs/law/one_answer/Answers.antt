use Rattle.effect_journal.specs.Journal.{format_of}
use Rattle.effect_journal.proofs.JournalLaws.{one_answer, one_line, no_empty}
use Rattle.effect_journal.proofs.law.one_answer.Goals as goal

pub returns : goal.returns
returns c version text a b = one_answer (format_of version) text a b (one_line version) (no_empty version)
