use Rattle.std.proofs.Common.{subst}
use Rattle.rsr_message.specs.Listings.{Tells}
use Rattle.rsr_message.proofs.ListingLaws.{no_list, tells_list, tells_fault}
use Rattle.rsr_message.proofs.listing.list_messages.Goals as goal

pub returns-clause-no_list : goal.returns-clause-no_list
returns-clause-no_list c fault at is stream = no_list c.args.bytes.now fault at stream (subst (Tells c.args.bytes.now) is c.list_all.ensures)

pub returns-clause-list : goal.returns-clause-list
returns-clause-list c = tells_list _ _ c.list_all.ensures

pub returns-clause-fault : goal.returns-clause-fault
returns-clause-fault c = tells_fault _ _ c.list_all.ensures
