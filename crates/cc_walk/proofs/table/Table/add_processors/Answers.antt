use Rattle.std.proofs.Common.{◌≡◌, suc, ◌+◌, ◌-◌, sym, ap, ◌∙◌, arith}
use Rattle.numbered_runs.specs.Steps.{more_tables}
use Rattle.cc_walk.proofs.table.Table.add_processors.Goals as goal

pub loop-preserved : goal.loop-preserved
loop-preserved c =
    let left : c.args.count - c.loop.counter ≡ suc (c.args.count - (c.loop.counter + 1)) = omega arith in
    ap (more_tables (c.args.count - (c.loop.counter + 1))) c.in_ok-add_processor.ensures
    ∙ ap (λ n. more_tables n c.loop.self) (sym left) ∙ c.loop.invariant
