use Rattle.std.proofs.lemmas.Result.{on_ok_weaker}
use Rattle.stack_code.specs.View.{drafted, instr_of}
use Rattle.stack_code.specs.Spread.{spread_of}
use Rattle.stack_code.proofs.SpreadLaws.{goes_all}
use Rattle.stack_code.proofs.depths.Depths.go.Goals as goal

pub returns-clause-spread : goal.returns-clause-spread
returns-clause-spread c =
    on_ok_weaker c.arrive_at_all.result
    (λ e. goes_all (drafted c.args.draft.now) c.args.at (instr_of c.args.instr.now) c.args.rest c.in_ok-target_depth.field-0 c.targets.result.now
    (spread_of c.args.self.now) (spread_of c.go_on.new.self) (spread_of c.arrive_at_all.new.self)
    c.in_ok-go_on.ensures.spread c.targets.ensures c.in_ok-target_depth.ensures e)
    c.arrive_at_all.ensures.spread
