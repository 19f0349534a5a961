use Rattle.std.proofs.Common.{[], sym}
use Rattle.std.proofs.lemmas.List.{append-nil}
use Rattle.rsr_message.proofs.RefusalLaws.{nothing_partial}
use Rattle.rsr_message.proofs.PieceLaws as pieces
use Rattle.rsr_message.proofs.ListingLaws as listings
use Rattle.rsr_message.proofs.laws.one_list.Goals as goal

pub returns-clause-one : goal.returns-clause-one
returns-clause-one c bytes requests others a b =
    let nothing = pieces.partial_none [] nothing_partial in
    (pieces.one_cut bytes requests others [] []
    (record { spelling = bytes; spelled = a; whole = sym (append-nil bytes) })
    (record { spelling = bytes; spelled = b; whole = sym (append-nil bytes) })
    nothing nothing).0

pub returns-clause-no_fault : goal.returns-clause-no_fault
returns-clause-no_fault c = listings.no_list

pub returns-clause-one_fault : goal.returns-clause-one_fault
returns-clause-one_fault c = listings.one_fault
