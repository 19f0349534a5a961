use Rattle.std.proofs.Common.{sym, ◌∙◌}
use Rattle.cc_walk.proofs.JoinLaws.{ended_reversed, going_behind}
use Rattle.cc_walk.proofs.answer.Asker.going.Goals as goal

pub returns-in-Some : goal.returns-in-Some
returns-in-Some c =
    let a = c.args.self.now in
    let made = c.args.made.now in
    sym (ended_reversed a.table.now a.live.now.kids made ∙ going_behind a.table.now a.live.now.kids a.live.now.seen made (sym c.in-Some.ensures))

pub returns-in-None : goal.returns-in-None
returns-in-None c =
    let a = c.args.self.now in c.going_from-in-None.ensures ∙ sym (ended_reversed a.table.now a.live.now.kids c.args.made.now)
