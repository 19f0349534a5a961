use Rattle.std.proofs.Common.{sym, subst}
use Rattle.cc_lower.specs.Lowerable.{IsLowerable}
use Rattle.stack_code.specs.View.{code_of}
use Rattle.ccpp_top.proofs.AnswerLaws.{was_code}
use Rattle.ccpp_top.proofs.CodeLaws.{lowerable}
use Rattle.ccpp_top.proofs.checks.code_of.Goals as goal

pub lower-requires : goal.lower-requires
lower-requires c = subst IsLowerable (sym c.core.ensures) (lowerable c.args.checked.now c.requires)

pub returns : goal.returns
returns c =
    was_code c.args.checked.now c.core.result.now (code_of c.in_ok-code.code) c.new-text.result c.listing.new.out c.core.ensures c.in_ok-code.ensures c.new-text.ensures c.in_ok-listing.ensures.ok
