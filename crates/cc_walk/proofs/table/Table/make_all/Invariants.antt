use Rattle.std.proofs.Common.{◌≡◌, ◌++◌}
use Rattle.stack_code.specs.View.{code_of}
use Rattle.numbered_runs.specs.Machine.{made_in}
use Rattle.numbered_runs.specs.Steps.{push_all, settle_all, numbers_on}
use Rattle.cc_walk.proofs.table.Table.make_all.Given as goal

-- what is made already, and then what is left to make
abbrev pub invariant-loop-thread : goal.invariant-loop-thread
invariant-loop-thread l =
    let q = l.processor in let rest = l.thread-iterator.rest.items in let all = l.fn.threads.items in
    (l.numbers ++ numbers_on q (made_in l.self q) rest ≡ numbers_on q (made_in l.fn.self q) all)
    × (push_all l.self q (settle_all (code_of l.code) rest) ≡ push_all l.fn.self q (settle_all (code_of l.code) all))
