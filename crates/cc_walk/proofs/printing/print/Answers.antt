use Rattle.std.proofs.Common.{◌+◌, ◌++◌, map, drop, ap, ◌∙◌, arith, rules}
use Rattle.std.proofs.lemmas.Int.{to_z-of_z}
use Rattle.std.specs.Fmt.{signed_decimal}
use Rattle.cc_core.specs.View.{part_of}
use Rattle.cc_ops.specs.Values.{int_of}
use Rattle.cc_ops.specs.Machine.{value_of}
use Rattle.cc_core.specs.Effects.{printed}
use Rattle.cc_walk.proofs.LoopLaws.{number_left, text_left, endl_left}
use Rattle.cc_walk.proofs.printing.print.Goals as goal
use Rattle.cc_walk.proofs.printing.print.Goals.{in-Number+in_ok-text-in-Number+in_ok-extend_from_slice-in-Number, in-Text+in_ok-extend_from_slice-in-Text, in-Endl+in_ok-push-in-Endl}
use mir.Syntax.{w64}
use mir.Val.{SFits}

pub loop-part-preserved : goal.loop-part-preserved
loop-part-preserved c =
    let parts = c.args.parts.now in
    let vs = map value_of c.args.args.now in
    let k = c.loop-part.part-index in
    let n = c.loop-part.next in
    let part = c.part-item.result in
    let out = c.loop-part.output in
    let at = c.part-item.is in
    let before = c.loop-part.invariant in
    elim c.match-part.branch [
      | in-Number+in_ok-text-in-Number+in_ok-extend_from_slice-in-Number w ↦
          let fits : SFits w64 w.int_of-number.result = search rules in
          let number = to_z-of_z w64 w.int_of-number.result fits ∙ w.int_of-number.ensures ∙ ap int_of w.value_at.ensures in
          let text = w.as_bytes.ensures.value ∙ w.in_ok-text-in-Number.ensures.ok ∙ ap signed_decimal number in
          let more = w.output-is ∙ w.in_ok-extend_from_slice-in-Number.ensures.ok ∙ ap (λ t. out ++ t) text in
          record {
            next = omega (arith, before.next, w.next-is);
            output = ap (λ m. c.match-part.output ++ printed (map part_of (drop (k + 1) parts)) (drop m vs)) w.next-is
                ∙ number_left parts vs k n part out c.match-part.output c.loop-part-test.true at w.in-Number.is more ∙ before.output;
          }
      | in-Text+in_ok-extend_from_slice-in-Text w ↦
          let more = w.output-is ∙ w.in_ok-extend_from_slice-in-Text.ensures.ok ∙ ap (λ t. out ++ t) w.as_slice.ensures in
          record {
            next = omega (arith, before.next, w.next-is);
            output = ap (λ m. c.match-part.output ++ printed (map part_of (drop (k + 1) parts)) (drop m vs)) w.next-is
                ∙ text_left parts vs k n part out c.match-part.output w.in-Text.bytes c.loop-part-test.true at w.in-Text.is more ∙ before.output;
          }
      | in-Endl+in_ok-push-in-Endl w ↦
          record {
            next = omega (arith, before.next, w.next-is);
            output = ap (λ m. c.match-part.output ++ printed (map part_of (drop (k + 1) parts)) (drop m vs)) w.next-is
                ∙ endl_left parts vs k n part out c.match-part.output c.loop-part-test.true at w.in-Endl.is (w.output-is ∙ w.in_ok-push-in-Endl.ensures.ok) ∙ before.output;
          }
    ]
