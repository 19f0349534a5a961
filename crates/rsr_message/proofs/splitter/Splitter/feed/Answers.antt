use Rattle.rsr_message.proofs.StreamLaws.{feeds_closed, feeds_counted, feeds_wrong}
use Rattle.rsr_message.proofs.splitter.Splitter.feed.Goals as goal

pub returns-clause-wrong : goal.returns-clause-wrong
returns-clause-wrong c = feeds_wrong c.args.self.now c.args.piece.now _ _ _ c.take_piece.result c.take_piece.ensures

pub returns-clause-closed : goal.returns-clause-closed
returns-clause-closed c = feeds_closed c.args.self.now c.args.piece.now _ _ _ c.take_piece.result c.take_piece.ensures

pub returns-clause-counted : goal.returns-clause-counted
returns-clause-counted c = feeds_counted c.args.self.now c.args.piece.now _ _ _ c.take_piece.result c.take_piece.ensures
