use Rattle.std.proofs.Common.{Err, refl, sym, ap}
use Rattle.ccpp_words.proofs.CommandLaws.{in_run}
use Rattle.ccpp_words.proofs.command.run_of.Goals as goal

pub returns-in_err-steps-clause-wrong : goal.returns-in_err-steps-clause-wrong
returns-in_err-steps-clause-wrong c =
    λ place e. in_run c.args.file c.requires _ refl refl c.args.words.now place (c.in_err-steps.ensures.wrong place (ap Err (sym (rw e at c.from_residual.ensures.1))))
