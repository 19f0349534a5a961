use Rattle.std.proofs.Common.{◌≡◌, ◌∙◌, slice_index, sym}
use Rattle.std.proofs.lemmas.Bool.{eqb-true}
use Rattle.rsr_message.specs.declared.versions.Version.TheVariants.{One}
use Rattle.trace_check.proofs.Steps.{is_version_1, has_bytes, same_of}
use Rattle.trace_check.proofs.requests.in_version_2.Goals as goal

pub returns-in_default : goal.returns-in_default
returns-in_default c = let none = rw c.in_default.is at c.in_ok-request.ensures in λ m. none m.0 (record { version = One; spelled = m.1 })

pub encode-requires : goal.encode-requires
encode-requires c =
    let message = c.args.message.now in
    let told : slice_index message 1 ≡ 1 = eqb-true (slice_index message 1) 1 (sym c.is_of_version_1.ensures ∙ c.if-not-is_of_version_1.false) in
    let spelled = rw c.in-Some.is at c.in_ok-request.ensures in
    has_bytes c.in-Some.request message (is_version_1 c.in-Some.request message told spelled)

pub returns : goal.returns
returns c =
    let message = c.args.message.now in
    let told : slice_index message 1 ≡ 1 = eqb-true (slice_index message 1) 1 (sym c.is_of_version_1.ensures ∙ c.if-not-is_of_version_1.false) in
    let spelled = rw c.in-Some.is at c.in_ok-request.ensures in
    same_of c.in-Some.request message c.new-new.result _ c.new-new.ensures (is_version_1 c.in-Some.request message told spelled) c.in_ok-encode.ensures.ok
