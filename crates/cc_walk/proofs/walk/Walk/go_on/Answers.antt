use Rattle.std.proofs.Common.{◌≡◌, List, length, None, Some, ap, ◌∙◌}
use Rattle.cc_ops.specs.declared.number.ThreadNo.{ThreadNo}
use Rattle.stack_code.specs.View.{code_of}
use Rattle.numbered_runs.specs.Machine.{Machine, Progress, Runner, Goes, thread_in}
use Rattle.numbered_runs.specs.Steps.{settle_all, push_all}
use Rattle.cc_walk.specs.Answered.{inside_after}
use Rattle.cc_walk.specs.Views.{runner_of, live_of, machine_of}
use Rattle.cc_walk.proofs.GoLaws.{calls_apply, goes_apply}
use Rattle.cc_walk.proofs.Kept.{stays_made}
use Rattle.cc_walk.proofs.walk.Walk.go_on.Goals as goal

pub returns-in_default : goal.returns-in_default
returns-in_default c = λ shelves output r line ask k found asking unasked has.
    let h = code_of c.args.self.now.code in
    let xs = settle_all h c.in_ok-threads.threads.items in
    let home = c.home_of-home.result in
    let there : thread_in c.make_all.new.self c.args.t ≡ Some (Goes r) =
    ap (λ ts. thread_in ts c.args.t) (c.in_ok-kids.ensures.threads ∙ ap (λ ts. push_all ts home xs) c.in_ok-add_processors.ensures)
    ∙ stays_made c.args.t (Goes r) c.args.effect.processors home xs c.args.self.now.table asking.goes in
    let none : None ≡ Some r = c.in_default.ensures.live ∙ ap live_of there in
    cc

pub returns-then-calls : goal.returns-then-calls
returns-then-calls c = λ shelves output r line ask k found asking unasked has.
    let w : Machine = record { code = code_of c.args.self.now.code; shelves = shelves; threads = c.args.self.now.table; output = output } in
    let e = c.args.effect in
    let l : Runner = runner_of c.as_mut-live.result.now in
    let f : Runner = runner_of c.enter.new.self in
    let with_kids : List ThreadNo → Runner = λ ks. record { thread = l.thread; asked = l.asked; kids = ks; inside = inside_after e.entry l.inside } in
    let with_threads : List (List Progress) → Machine = λ ts. record { code = w.code; shelves = c.args.self.now.objects; threads = ts; output = c.args.self.now.output } in
    calls_apply w c.args.t r line ask k found asking e c.args.self.now.objects c.args.self.now.output has unasked
    c.as_slice.result.now c.home_of-home.result c.in_ok-threads.threads.items c.add_processors.new.self c.make_all.new.self c.take.new.self c.in_ok-kids.kids l f
    c.as_slice.ensures c.home_of-home.ensures (c.in_ok-threads.ensures r (length r.kids) e.branches asking.goes) c.in_ok-add_processors.ensures
    c.in_ok-kids.ensures.threads c.in_ok-kids.ensures.numbers (ap (λ x. Some (runner_of x)) c.as_mut-live.ensures.value ∙ c.in-Some.ensures.live) c.in-Some.ensures.now
    (c.in_ok-enter.ensures ∙ ap with_kids c.in_ok-append.ensures.ok)
    c.next-next.result c.next-next.ensures c.if-calls.true _ (ap with_threads c.put.ensures)

pub returns : goal.returns
returns c = λ shelves output r line ask k found asking unasked has.
    let w : Machine = record { code = code_of c.args.self.now.code; shelves = shelves; threads = c.args.self.now.table; output = output } in
    let e = c.args.effect in
    let l : Runner = runner_of c.as_mut-live.result.now in
    let f : Runner = runner_of c.enter.new.self in
    let with_kids : List ThreadNo → Runner = λ ks. record { thread = l.thread; asked = l.asked; kids = ks; inside = inside_after e.entry l.inside } in
    goes_apply w c.args.t r line ask k found asking e c.args.self.now.objects c.args.self.now.output has unasked
    c.as_slice.result.now c.home_of-home.result c.in_ok-threads.threads.items c.add_processors.new.self c.make_all.new.self c.take.new.self c.in_ok-kids.kids l f
    c.as_slice.ensures c.home_of-home.ensures (c.in_ok-threads.ensures r (length r.kids) e.branches asking.goes) c.in_ok-add_processors.ensures
    c.in_ok-kids.ensures.threads c.in_ok-kids.ensures.numbers (ap (λ x. Some (runner_of x)) c.as_mut-live.ensures.value ∙ c.in-Some.ensures.live) c.in-Some.ensures.now
    (c.in_ok-enter.ensures ∙ ap with_kids c.in_ok-append.ensures.ok)
    c.as_slice-2.result.now c.as_slice-2.ensures c.len-first.result c.len-first.ensures c.if-calls.false c.answered.new.self c.in_ok-answered.ensures
    (machine_of c.put_settled.new.self) c.in_ok-put_settled.ensures
