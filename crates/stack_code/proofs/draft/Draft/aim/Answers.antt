use Rattle.std.proofs.Common.{arith}
use Rattle.stack_code.proofs.KeptLaws.{aim_code}
use Rattle.stack_code.proofs.draft.Draft.aim.Goals as goal

pub returns-then-at-len-clause-aimed : goal.returns-then-at-len-clause-aimed
returns-then-at-len-clause-aimed c =
    let d = c.args.self.now in
    aim_code d.places.items d.functions.items d.classes.items c.args.at c.args.which c.args.target c.index_mut.result.now c.aim.new.self
    (omega (arith, c.len.ensures, d.places.ok.0)) c.index_mut.ensures.value c.aim.ensures
