use Rattle.std.proofs.Common.{sym}
use Rattle.code_thread.specs.View.{ask_of}
use Rattle.numbered_runs.specs.Machine.{thread_in}
use Rattle.cc_walk.specs.Views.{machine_of, runner_of}
use Rattle.cc_walk.proofs.PostLaws.{asking_posts, move_sends}
use Rattle.cc_walk.proofs.walk.Walk.asking.Goals as goal

pub returns-in-None : goal.returns-in-None
returns-in-None c =
    let w = machine_of c.args.self.now in
    let r = runner_of c.in_ok-live.live.now in
    let q = ask_of w.code.shapes c.in-Asks.ask in (
      asking_posts w.code (thread_in w.threads c.args.t) r c.in_ok-live.ensures c.in-Asks.field-0 q c.in-Asks.ensures c.in-None.is,
      move_sends w.code c.is_valid.ensures r.thread c.in-Asks.field-0 q (sym c.in-Asks.ensures),
    )
