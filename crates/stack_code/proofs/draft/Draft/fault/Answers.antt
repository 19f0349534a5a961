use Rattle.stack_code.specs.View.{drafted}
use Rattle.stack_code.proofs.FirstLaws.{all_faults}
use Rattle.stack_code.proofs.draft.Draft.fault.Goals as goal

pub returns : goal.returns
returns c =
    all_faults (drafted c.args.self.now) c.empty_entry.result c.misaimed.result c.in_ok-circle.field-0 c.earlier-aims.result c.earlier-target.result
    c.in_ok-depth.depth c.first_fault.result c.empty_entry.ensures c.misaimed.ensures c.in_ok-circle.ensures c.earlier-aims.ensures c.earlier-target.ensures
    c.in_ok-depth.ensures c.first_fault.ensures
