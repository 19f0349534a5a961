use Rattle.std.proofs.Common.{◌∙◌, sym}
use Rattle.stack_code.specs.View.{drafted}
use Rattle.stack_code.proofs.JumpLaws.{unmarked_no_circle, marked_circle}
use Rattle.stack_code.proofs.draft.Draft.is_circle.Goals as goal

pub returns-then-not-is_marked : goal.returns-then-not-is_marked
returns-then-not-is_marked c =
    unmarked_no_circle (drafted c.args.self.now) c.args.rounds.now.items c.args.at c.requires.rounds c.requires.all
    (sym c.is_marked.ensures ∙ c.if-not-is_marked.true)

pub returns : goal.returns
returns c =
    marked_circle (drafted c.args.self.now) c.args.rounds.now.items c.args.at c.is_jump.result c.requires.rounds
    (sym c.is_marked.ensures ∙ c.if-not-is_marked.false) c.is_jump.ensures
