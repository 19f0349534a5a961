use Rattle.std.proofs.Common.{None, Some, subst}
use Rattle.code_thread.specs.View.{ask_of}
use Rattle.numbered_runs.specs.Posts.{posted}
use Rattle.cc_walk.specs.Posted.{IsSaid}
use Rattle.cc_walk.specs.Views.{machine_of}
use Rattle.cc_walk.proofs.PostLaws.{follows}
use Rattle.cc_walk.proofs.walk.Walk.asks.Goals as goal

pub returns-in_default-clause-follows : goal.returns-in_default-clause-follows
returns-in_default-clause-follows c = λ p s n stands.
    follows p (machine_of c.args.self.now) s n stands c.args.t None None c.in_default.ensures tt

pub returns-in_default-2-clause-follows : goal.returns-in_default-2-clause-follows
returns-in_default-2-clause-follows c = λ p s n stands.
    let w = machine_of c.args.self.now in
    let post = posted (ask_of w.code.shapes c.in-Some.ask) in
    follows p w s n stands c.args.t post None c.in-Some.ensures.0 (subst (IsSaid post) c.in_default-2.is c.in_ok-to.ensures.said)

pub returns-clause-follows : goal.returns-clause-follows
returns-clause-follows c = λ p s n stands.
    let w = machine_of c.args.self.now in
    let post = posted (ask_of w.code.shapes c.in-Some.ask) in
    follows p w s n stands c.args.t post (Some (c.in-Some-2.to, c.in-Some-2.body)) c.in-Some.ensures.0
    (subst (IsSaid post) c.in-Some-2.is c.in_ok-to.ensures.said)
