use Rattle.std.proofs.Common.{subst, Option}
use Rattle.std.specs.Prelude.{MatchOption}
use Rattle.cc_code.specs.Valid.{IsValid}
use Rattle.stack_code.specs.declared.close.CodeFault.{CodeFault}
use Rattle.stack_code.specs.View.{Parts, code_of, drafted}
use Rattle.stack_code.specs.Faults.{IsFaultOf}
use Rattle.stack_code.proofs.maker.CodeMaker.close.Goals as goal

pub returns-in-Some-clause-fault : goal.returns-in-Some-clause-fault
returns-in-Some-clause-fault c =
    let code = drafted c.self.inside.draft in
    subst (λ (p : Parts). IsFaultOf (code_of p) c.in-Some.fault) c.self.view_is
    (subst (λ (f : Option CodeFault). MatchOption f (IsValid code) (IsFaultOf code)) c.in-Some.is c.in_ok-fault.ensures)
