use Rattle.std.proofs.Common.{⊎_elim, inl, inr}
use Rattle.effect_journal.specs.declared.format.Version.TheVariants.{Two}
use Rattle.effect_journal.specs.Journal.{Answers, format_of}
use Rattle.effect_journal.proofs.JournalLaws.{one_answer, one_line, no_empty}
use Rattle.effect_journal.proofs.read.read_journal.Goals as goal

pub returns-clause-exact : goal.returns-clause-exact
returns-clause-exact c answer h =
    ⊎_elim (λ memory. inl memory)
    (λ (found : Answers (format_of Two) c.args.text.now c.read.result). inr (one_answer (format_of Two) c.args.text.now c.read.result answer (one_line Two) (no_empty Two) found h))
    c.read.ensures
