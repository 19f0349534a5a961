use Rattle.std.proofs.Common.{◌≡◌, ℕ, List, Bool, ◌-◌, false, replicate, length, sym, ap, ◌∙◌, subst, arith}
use Rattle.cc_blocking.specs.Conduct.{AreMarks}
use Rattle.cc_blocking.specs.Rounds.{grown, unmarked}
use Rattle.cc_blocking.proofs.RoundLaws.{length-none, length-grown, begun, one_less, settled, ended}
use Rattle.cc_blocking.proofs.Deciding.{decides}
use Rattle.cc_blocking.proofs.rounds.may_block.Goals as goal

-- two counts of lists that are the same
same_counts : {more new : List Bool} {one two old : List Bool} {m n : ℕ} → more ≡ new → one ≡ more → m ≡ unmarked one → m ≡ n → n ≡ unmarked two
    → two ≡ old → unmarked new ≡ unmarked old
same_counts e f g h i j = sym (ap unmarked (f ∙ e)) ∙ (sym g ∙ (h ∙ (i ∙ ap unmarked j)))

pub loop-init : goal.loop-init
loop-init c =
    let start : c.in_ok-marks.marks ≡ replicate (length c.args.functions.now) false = c.in_ok-marks.ensures in
    record {
      whole = ap length start ∙ length-none (length c.args.functions.now);
      rounds = begun c.args.functions.now c.in_ok-marks.marks start;
    }

pub returns-then-unmarked-clause-computed : goal.returns-then-unmarked-clause-computed
returns-then-unmarked-clause-computed c =
    let more : c.in_ok-more.more ≡ grown c.args.functions.now c.loop.marks =
    c.in_ok-more.ensures ∙ ap (grown c.args.functions.now) c.as_slice.ensures in
    let nothing : unmarked (grown c.args.functions.now c.loop.marks) ≡ unmarked c.loop.marks =
    same_counts more c.as_slice-in-loop.ensures c.unmarked.ensures c.if-unmarked.true c.unmarked-in-loop.ensures c.as_slice-in-loop-2.ensures in
    settled c.args.functions.now (length c.args.functions.now - c.loop.counter) c.loop.marks c.loop.invariant.whole c.loop.invariant.rounds nothing

pub returns-then-unmarked-clause-decides : goal.returns-then-unmarked-clause-decides
returns-then-unmarked-clause-decides c =
    let more : c.in_ok-more.more ≡ grown c.args.functions.now c.loop.marks =
    c.in_ok-more.ensures ∙ ap (grown c.args.functions.now) c.as_slice.ensures in
    let nothing : unmarked (grown c.args.functions.now c.loop.marks) ≡ unmarked c.loop.marks =
    same_counts more c.as_slice-in-loop.ensures c.unmarked.ensures c.if-unmarked.true c.unmarked-in-loop.ensures c.as_slice-in-loop-2.ensures in
    let computed = settled c.args.functions.now (length c.args.functions.now - c.loop.counter) c.loop.marks c.loop.invariant.whole c.loop.invariant.rounds nothing in
    subst (AreMarks c.args.functions.now) (sym computed) (decides c.args.functions.now)

pub loop-preserved : goal.loop-preserved
loop-preserved c =
    let more : c.in_ok-more.more ≡ grown c.args.functions.now c.loop.marks =
    c.in_ok-more.ensures ∙ ap (grown c.args.functions.now) c.as_slice.ensures in
    record {
      whole = ap length more ∙ length-grown c.args.functions.now c.loop.marks c.loop.invariant.whole;
      rounds = rw more (one_less c.args.functions.now c.loop.counter c.loop.marks (omega arith) c.loop.invariant.rounds);
    }

pub returns-clause-decides : goal.returns-clause-decides
returns-clause-decides c =
    let computed = ended c.args.functions.now c.loop.counter c.loop.marks (omega arith) c.loop.invariant.rounds in
    subst (AreMarks c.args.functions.now) (sym computed) (decides c.args.functions.now)
