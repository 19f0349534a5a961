use Rattle.std.proofs.Common.{◌+◌, ◌≤◌, drop, length, slice_index_or, refl, sym, ap, ◌∙◌, arith}
use Rattle.std.proofs.lemmas.List.{drop_all, drop_more}
use Rattle.numbered_runs.specs.Looks.{all_ended}
use Rattle.cc_walk.proofs.JoinLaws.{passed, stopped}
use Rattle.cc_walk.proofs.answer.Asker.going_from.Goals as goal

pub loop-place-init : goal.loop-place-init
loop-place-init c = refl

pub returns-then-not-has_ended : goal.returns-then-not-has_ended
returns-then-not-has_ended c =
    let threads = c.args.self.now.table.now in
    let kids = c.args.self.now.live.now.kids in
    let made = c.args.made.now in
    let k = slice_index_or made c.loop-place.place 0 in
    sym (c.loop-place.invariant ∙ ap (all_ended threads kids) (drop_more made c.loop-place.place 0 c.loop-place-test.true)
    ∙ stopped threads kids k (drop (c.loop-place.place + 1) made) c.if-not-has_ended.ensures)

pub loop-place-preserved : goal.loop-place-preserved
loop-place-preserved c =
    let threads = c.args.self.now.table.now in
    let kids = c.args.self.now.live.now.kids in
    let made = c.args.made.now in
    let k = slice_index_or made c.loop-place.place 0 in
    c.loop-place.invariant ∙ ap (all_ended threads kids) (drop_more made c.loop-place.place 0 c.loop-place-test.true)
    ∙ passed threads kids k (drop (c.loop-place.place + 1) made) c.if-not-has_ended.ensures

pub returns : goal.returns
returns c =
    let made = c.args.made.now in
    let over : length made ≤ c.loop-place.place = omega (arith, c.loop-place-test.false) in
    sym (c.loop-place.invariant ∙ ap (all_ended c.args.self.now.table.now c.args.self.now.live.now.kids) (drop_all c.loop-place.place made over))
