-- A tag and what follows it are put one after another.
use Rattle.std.proofs.Common.{sym, subst, rules}
use Rattle.std.specs.Int.{w32}
use Rattle.std.proofs.lemmas.Result.{on_ok_weaker}
use Rattle.marshal.specs.Spellings.{IsByte, IsNumber, IsSignedNumber, ◌▸◌, Puts}
use Rattle.marshal.specs.Values.{SpellsAddress, SpellsValue}
use Rattle.marshal.proofs.Steps.{puts_follow, puts_byte, puts_signed}
use Rattle.marshal.proofs.write.append_value.Goals as goal

pub returns-in_ok-push-in-Int-clause-ok : goal.returns-in_ok-push-in-Int-clause-ok
returns-in_ok-push-in-Int-clause-ok c =
    let n = c.in-Int.n in
    on_ok_weaker _
    (λ put. subst (λ v. Puts (SpellsValue v) c.args.out.now c.extend_from_slice.new.self) (sym c.in-Int.is)
    (puts_follow (IsByte 1) (IsSignedNumber n) _ _ _ (puts_byte 1 _ _ c.in_ok-push-in-Int.ensures.ok)
    (puts_signed _ _ _ n (search rules) c.to_be_bytes.ensures put)))
    c.extend_from_slice.ensures.ok

pub returns-in_ok-put_u32-in-Ptr-2-clause-ok : goal.returns-in_ok-put_u32-in-Ptr-2-clause-ok
returns-in_ok-put_u32-in-Ptr-2-clause-ok c =
    let a = c.in-Ptr.address in
    on_ok_weaker _
    (λ put. subst (λ v. Puts (SpellsValue v) c.args.out.now c.put_u32-in-Ptr-2.new.out) (sym c.in-Ptr.is)
    (puts_follow (IsByte 3) (SpellsAddress a) _ _ _ (puts_byte 3 _ _ c.in_ok-push-in-Ptr.ensures.ok)
    (puts_follow (IsNumber w32 a.processor) (IsNumber w32 a.object ▸ IsNumber w32 a.offset) _ _ _ c.in_ok-put_u32-in-Ptr.ensures.ok
    (puts_follow (IsNumber w32 a.object) (IsNumber w32 a.offset) _ _ _ c.in_ok-put_u32-in-Ptr-2.ensures.ok put))))
    c.put_u32-in-Ptr-2.ensures.ok
