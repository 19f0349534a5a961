use Rattle.std.proofs.Common.{◌≡◌, map, drop}
use Rattle.stack_code.specs.Kept.{main_from}
use Rattle.stack_code.proofs.draft.Draft.main.Given as goal

abbrev pub invariant-loop-number : goal.invariant-loop-number
invariant-loop-number l =
    main_from l.number (map (λ f. f.shape) (drop l.number l.self.functions.items)) ≡ main_from 0 (map (λ f. f.shape) l.self.functions.items)
