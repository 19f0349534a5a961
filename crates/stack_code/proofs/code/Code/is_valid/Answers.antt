use Rattle.std.proofs.Common.{subst}
use Rattle.cc_code.specs.Valid.{IsValid}
use Rattle.stack_code.specs.View.{Parts, code_of}
use Rattle.stack_code.proofs.code.Code.is_valid.Goals as goal

pub returns : goal.returns
returns c = subst (λ (p : Parts). IsValid (code_of p)) c.self.view_is c.self.invariant.valid
