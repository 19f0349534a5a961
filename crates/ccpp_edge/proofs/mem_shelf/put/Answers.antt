use Rattle.std.proofs.Common.{rules, ◌≡◌, Some, None, bytes_eq, position}
use Rattle.std.proofs.lemmas.Result.{on_ok_weaker}
use Rattle.ccpp_edge.proofs.FakeLemmas.{bytes_under-set, bytes_under-set_other, bytes_under-push, bytes_under-push_other}
use Rattle.ccpp_edge.proofs.mem_shelf.put.Goals as goal

pub returns-in-Some-clause-bytes : goal.returns-in-Some-clause-bytes
returns-in-Some-clause-bytes c =
    let first : position (λ f. bytes_eq f.name c.args.file.name) c.args.files.now ≡ Some c.in-Some.at = search rules in
    rw c.set.ensures (bytes_under-set c.args.files.now c.args.file c.in-Some.at first)

pub returns-in-Some-clause-others : goal.returns-in-Some-clause-others
returns-in-Some-clause-others c =
    let first : position (λ f. bytes_eq f.name c.args.file.name) c.args.files.now ≡ Some c.in-Some.at = search rules in
    rw c.set.ensures (bytes_under-set_other c.args.files.now c.args.file c.in-Some.at first)

pub returns-in-None-clause-bytes : goal.returns-in-None-clause-bytes
returns-in-None-clause-bytes c =
    let none : position (λ f. bytes_eq f.name c.args.file.name) c.args.files.now ≡ None = search rules in
    on_ok_weaker c.push.result (λ pushed. rw pushed (bytes_under-push c.args.files.now c.args.file none)) c.push.ensures.ok

pub returns-in-None-clause-others : goal.returns-in-None-clause-others
returns-in-None-clause-others c =
    on_ok_weaker c.push.result (λ pushed. rw pushed (bytes_under-push_other c.args.files.now c.args.file)) c.push.ensures.ok
