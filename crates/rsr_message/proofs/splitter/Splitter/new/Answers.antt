use Rattle.std.proofs.Common.{sym, subst}
use Rattle.marshal.specs.Spellings.{IsPartial}
use Rattle.rsr_message.specs.Requests.{IsMessage}
use Rattle.rsr_message.proofs.RefusalLaws.{nothing_partial}
use Rattle.rsr_message.proofs.splitter.Splitter.new.Goals as goal

pub invariant_of-result : goal.invariant_of-result
invariant_of-result c = subst (IsPartial IsMessage) (sym c.new.ensures.items) nothing_partial
