use Rattle.std.specs.Int.{w32}
use Rattle.marshal.specs.Spellings.{IsNumber}
use Rattle.rsr_message.proofs.ReadingSteps.{takes_follow}
use Rattle.rsr_message.proofs.reading.next_spot.Goals as goal

pub returns : goal.returns
returns c = takes_follow (IsNumber w32 c.next_u32-object.result.0) (IsNumber w32 c.next_u32-offset.result.0) _ _ _ c.next_u32-object.ensures c.next_u32-offset.ensures
