use Rattle.std.proofs.Common.{◌≡◌, ◌∙◌, subst}
use Rattle.ccpp_gen.specs.LoadSource.{load_source}
use Rattle.ccpp_source.specs.Source.{IsSource, IsRefusedFor}
use Rattle.ccpp_top.proofs.LoadLaws.{takes_none, wants_memory}
use Rattle.ccpp_top.proofs.load.load_answer.Goals as goal

pub report_of-requires-clause-takes_none : goal.report_of-requires-clause-takes_none
report_of-requires-clause-takes_none g c =
    let is : c.as_slice.result.now ≡ load_source c.args.size = c.as_slice.ensures ∙ c.in_ok-source.ensures in
    λ _ _. takes_none c.args.size c.requires.some c.requires.most c.in-Ok.checked (subst (λ t. IsSource t c.in-Ok.checked) is c.in-Ok.ensures.source)

pub memory-requires : goal.memory-requires
memory-requires g c =
    let is : c.as_slice.result.now ≡ load_source c.args.size = c.as_slice.ensures ∙ c.in_ok-source.ensures in
    wants_memory c.args.size c.requires.some c.requires.most c.in-Err.why (λ other. subst (λ t. IsRefusedFor t c.in-Err.why) is (c.in-Err.ensures.refused other))
