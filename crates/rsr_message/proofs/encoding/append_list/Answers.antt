-- The values so far are put, and the rest makes a list of them.
use Rattle.std.proofs.Common.{◌<◌, ◌≤◌, length, get_or, subst}
use Rattle.std.proofs.lemmas.List.{drop_more}
use Rattle.global_ptr.specs.declared.values.Value.TheVariants.{Void}
use Rattle.std.specs.Int.{w16}
use Rattle.marshal.specs.Spellings.{IsNumber, Puts}
use Rattle.marshal.specs.Values.{SpellsValue}
use Rattle.rsr_message.proofs.EncodingSteps.{list_begun, list_more, list_done}
use Rattle.rsr_message.proofs.encoding.append_list.Goals as goal

pub loop-value-init : goal.loop-value-init
loop-value-init c = list_begun _ _ _ c.requires.few (subst (λ n. Puts (IsNumber w16 n) c.args.out.now c.put_u16.new.out) c.len.ensures c.in_ok-put_u16.ensures.ok)

pub loop-value-preserved : goal.loop-value-preserved
loop-value-preserved c =
    let items = c.as_slice-value-items.ensures in
    let i = c.loop-value.value-index in
    let within : i < length c.args.args.now = subst (λ l. i < length l) items c.loop-value-test.true in
    let put = c.in_ok-put_value.ensures.ok in
    list_more c.args.args.now i (get_or c.args.args.now i Void) _ _ _ c.loop-value.invariant (drop_more c.args.args.now i Void within) (c.requires.some i Void within) (subst (λ l. Puts (SpellsValue (get_or l i Void)) c.loop-value.out c.put_value.new.out) items put)

pub returns-clause-ok : goal.returns-clause-ok
returns-clause-ok c =
    list_done _ _ _ _ (subst (λ l. length l ≤ c.loop-value.value-index) c.as_slice-value-items.ensures c.loop-value-test.false) c.loop-value.invariant
