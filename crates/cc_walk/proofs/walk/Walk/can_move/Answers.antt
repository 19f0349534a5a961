use Rattle.std.proofs.Common.{sym, ap, ◌∙◌}
use Rattle.std.specs.Prelude.{not, is_some}
use Rattle.cc_code.specs.Code.{move}
use Rattle.code_thread.specs.View.{ask_of}
use Rattle.cc_walk.specs.Views.{machine_of, runner_of}
use Rattle.cc_walk.proofs.MoveLaws.{none_moves, asks_nothing, quiet_stays, ask_moves, join_moves, is_some_value}
use Rattle.cc_walk.proofs.walk.Walk.can_move.Goals as goal

pub returns-in_default : goal.returns-in_default
returns-in_default c = sym (none_moves (machine_of c.args.self.now) c.args.t (sym c.in_default.ensures))

pub returns-in_default-look : goal.returns-in_default-look
returns-in_default-look c =
    let w = machine_of c.args.self.now in
    let r = runner_of c.in-Some.live.now in
    sym (quiet_stays w c.args.t r (sym c.in-Some.ensures)
    (asks_nothing w.code.shapes c.look.result c.in_default-look.not-Asks (move w.code r.thread) c.look.ensures))

pub returns-in-Some-asked : goal.returns-in-Some-asked
returns-in-Some-asked c =
    let w = machine_of c.args.self.now in
    c.is_some.ensures ∙ is_some_value c.ended.result ∙ ap is_some c.ended.ensures
    ∙ sym (join_moves w c.args.t (runner_of c.in-Some.live.now) (sym c.in-Some.ensures) c.in-Asks.field-0 (ask_of w.code.shapes c.in-Asks.ask)
    (sym c.in-Asks.ensures) c.in-Some-asked.kid c.in-Some-asked.is)

pub returns : goal.returns
returns c =
    let w = machine_of c.args.self.now in
    ap not (c.waits.ensures w.output)
    ∙ sym (ask_moves w c.args.t (runner_of c.in-Some.live.now) (sym c.in-Some.ensures) c.in-Asks.field-0 (ask_of w.code.shapes c.in-Asks.ask)
    (sym c.in-Asks.ensures) c.in_default-asked.is)
