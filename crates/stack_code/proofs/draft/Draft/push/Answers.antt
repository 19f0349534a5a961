use Rattle.std.proofs.Common.{arith, rules}
use Rattle.stack_code.proofs.KeptLaws.{push_kept}
use Rattle.stack_code.proofs.draft.Draft.push.Goals as goal

pub returns-clause-keeps : goal.returns-clause-keeps
returns-clause-keeps c =
    let d = c.args.self.now in
    rw c.in_ok-push.ensures.items (push_kept d.places.items d.functions.items d.classes.items _ c.requires.kept (search (rules)) (omega arith))
