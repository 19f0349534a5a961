use Rattle.std.proofs.Common.{sym, subst}
use Rattle.ccpp_words.specs.Fronts.{IsWrongIn}
use Rattle.ccpp_words.specs.Words.{MayFollow}
use Rattle.ccpp_words.specs.declared.command.Verb.TheVariants as verb
use Rattle.ccpp_words.proofs.CommandLaws.{not_run}
use Rattle.ccpp_words.proofs.command.Verb.asked.Goals as goal

pub returns-in-Check-clause-wrong : goal.returns-in-Check-clause-wrong
returns-in-Check-clause-wrong c =
    λ place e. subst (λ v. IsWrongIn (MayFollow v c.args.file) c.args.words.now place) (sym c.in-Check.is) (not_run c.args.file c.requires verb.Check (λ e. cc e) c.args.words.now place (c.alone.ensures.wrong place e))

pub returns-in-Share-clause-wrong : goal.returns-in-Share-clause-wrong
returns-in-Share-clause-wrong c =
    λ place e. subst (λ v. IsWrongIn (MayFollow v c.args.file) c.args.words.now place) (sym c.in-Share.is) (not_run c.args.file c.requires verb.Share (λ e. cc e) c.args.words.now place (c.alone-in-Share.ensures.wrong place e))

pub returns-in-Code-clause-wrong : goal.returns-in-Code-clause-wrong
returns-in-Code-clause-wrong c =
    λ place e. subst (λ v. IsWrongIn (MayFollow v c.args.file) c.args.words.now place) (sym c.in-Code.is) (not_run c.args.file c.requires verb.Code (λ e. cc e) c.args.words.now place (c.alone-in-Code.ensures.wrong place e))

pub returns-in-Message-clause-wrong : goal.returns-in-Message-clause-wrong
returns-in-Message-clause-wrong c =
    λ place e. subst (λ v. IsWrongIn (MayFollow v c.args.file) c.args.words.now place) (sym c.in-Message.is) (not_run c.args.file c.requires verb.Message (λ e. cc e) c.args.words.now place (c.alone-in-Message.ensures.wrong place e))

pub returns-in-Migrate-clause-wrong : goal.returns-in-Migrate-clause-wrong
returns-in-Migrate-clause-wrong c =
    λ place e. subst (λ v. IsWrongIn (MayFollow v c.args.file) c.args.words.now place) (sym c.in-Migrate.is) (not_run c.args.file c.requires verb.Migrate (λ e. cc e) c.args.words.now place (c.alone-in-Migrate.ensures.wrong place e))
