-- Each answer is what the bytes, a tag and a rest, say.
use Rattle.std.proofs.Common.{◌<◌, refl, sym, subst, rules, arith}
use Rattle.std.specs.Int.{w64}
use Rattle.std.proofs.lemmas.Int.{to_z-of_z}
use Rattle.std.proofs.lemmas.List.{nil_from_length}
use mir.Val.{SFits, to_z, of_z}
use Rattle.marshal.specs.Spellings.{IsSignedNumber, BeginsWith, IsPartial, IsWrongAt}
use Rattle.marshal.specs.Values.{SpellsAddress, IsValue}
use Rattle.marshal.proofs.Steps.{IsBytes-rest, begins_tagged, tagged_is_partial}
use Rattle.marshal.proofs.ValueLaws.{nothing_is_partial, number_is_partial, address_is_partial, no_tag_is_wrong}
use Rattle.marshal.proofs.read.read_value.Goals as goal

pub returns-in_default : goal.returns-in_default
returns-in_default c = subst (IsPartial IsValue) (sym (nil_from_length _ c.in_default.ensures.cases)) nothing_is_partial

pub returns-in-Some-read_number : goal.returns-in-Some-read_number
returns-in-Some-read_number c =
    let n = c.in-Some-read_number.n in
    let fits : SFits w64 n = search rules in
    begins_tagged 1 (IsSignedNumber (to_z w64 (of_z w64 n))) _ c.in-Some.rest.now _ 8 c.in-Some.ensures.cases.0 c.in-1.is
    (subst (λ k. BeginsWith (IsSignedNumber k) c.in-Some.rest.now 8) (sym (to_z-of_z w64 n fits)) c.in-Some-read_number.ensures)

pub returns-in-None : goal.returns-in-None
returns-in-None c =
    tagged_is_partial 1 _ _ _ c.in-Some.ensures.cases.0 c.in-1.is
    (number_is_partial c.in-Some.rest.now (IsBytes-rest _ _ _ c.type_inv.bytes c.in-Some.ensures.cases.0) c.in-None.ensures)

pub returns-in-Some-read_address : goal.returns-in-Some-read_address
returns-in-Some-read_address c =
    begins_tagged 3 (SpellsAddress c.in-Some-read_address.address) _ c.in-Some.rest.now _ 12 c.in-Some.ensures.cases.0 c.in-3.is c.in-Some-read_address.ensures

pub returns-in-None-read_address : goal.returns-in-None-read_address
returns-in-None-read_address c =
    tagged_is_partial 3 _ _ _ c.in-Some.ensures.cases.0 c.in-3.is
    (address_is_partial c.in-Some.rest.now (IsBytes-rest _ _ _ c.type_inv.bytes c.in-Some.ensures.cases.0) c.in-None-read_address.ensures)

pub returns-in_default-tag : goal.returns-in_default-tag
returns-in_default-tag c =
    let above : 3 < c.in-Some.tag.now = omega arith in
    (refl, subst (λ bytes. IsWrongAt IsValue bytes 0) (sym c.in-Some.ensures.cases.0) (no_tag_is_wrong c.in-Some.tag.now c.in-Some.rest.now above))
