use Rattle.rsr_message.proofs.PieceLaws as pieces
use Rattle.rsr_message.proofs.laws.one_cut.Goals as goal

pub returns : goal.returns
returns c bytes requests others rest other_rest a p b q =
    let none = pieces.partial_none in
    pieces.one_cut bytes requests others rest other_rest a b (none rest p) (none other_rest q)
