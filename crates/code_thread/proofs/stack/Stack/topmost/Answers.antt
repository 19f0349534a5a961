use Rattle.std.proofs.Common.{length, ◌≡◌, ◌+◌, arith}
use Rattle.std.proofs.lemmas.List.{length-reverse}
use Rattle.code_thread.proofs.StackLaws.{topmost_cut}
use Rattle.code_thread.proofs.stack.Stack.topmost.Goals as goal

pub returns : goal.returns
returns g c =
    let xs = c.self.inside.items.items in
    let below = c.in_ok-below.below in
    let fits : below + c.args.count ≡ length xs = omega (arith, c.in_ok-below.ensures, c.len.ensures) in
    rw (c.deref.ensures.value, ← c.self.view_is) (omega (arith, fits, length-reverse xs), topmost_cut below c.args.count xs fits)
