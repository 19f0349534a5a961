use Rattle.std.proofs.Common.{rules, sym, subst}
use Rattle.std.specs.Int.{w64}
use Rattle.std.proofs.lemmas.Int.{to_z-of_z}
use mir.Val.{SFits}
use Rattle.marshal.specs.Spellings.{IsSignedNumber, BeginsWith}
use Rattle.marshal.proofs.Steps.{IsBytes-of, begins_signed}
use Rattle.marshal.proofs.read.read_number.Goals as goal

pub returns : goal.returns
returns c =
    let split = c.in_ok-number.ensures.cases in
    let n = c.from_be_bytes.result in
    let fits : SFits w64 n = search rules in
    subst (λ k. BeginsWith (IsSignedNumber k) c.args.bytes.now 8) (sym (to_z-of_z w64 n fits)) (begins_signed _ _ _ n (IsBytes-of _ c.type_inv.bytes) split.0 split.1 split.2 c.from_be_bytes.ensures)
