use Rattle.std.proofs.Common.{◌≡◌, ◌≤◌, List, map, sym, subst}
use Rattle.std.proofs.lemmas.Result.{IfOk-weaker}
use Rattle.global_ptr.specs.declared.values.Value.{Value as RustValue}
use Rattle.cc_ops.specs.Machine.{value_of}
use Rattle.cc_ops.specs.Classes.{arity, all_kinds}
use Rattle.cc_ops.specs.declared.kind.Kind.{Kind}
use Rattle.cc_ops.specs.Values.{as_kinds}
use Rattle.rsr_message.specs.Requests.{version_2, IsAllowedList}
use Rattle.cc_walk.proofs.PostLaws.{kinds_allowed}
use Rattle.cc_walk.proofs.posts.sent.Goals as goal

pub returns-clause-allowed : goal.returns-clause-allowed
returns-clause-allowed c =
    let params = c.as_slice.result.now in
    let vs = map value_of c.after_first.result.now in
    let few : arity params ≤ 8 = subst (λ (these : List (List Kind)). arity these ≤ 8) (sym c.as_slice.ensures) c.fun-shape.ensures.fits.few in
    IfOk-weaker c.as_kinds.result (λ (sent : List RustValue). map value_of sent ≡ as_kinds (all_kinds params) vs) (IsAllowedList version_2)
    (kinds_allowed params vs few) c.as_kinds.ensures
