use Rattle.std.proofs.Common.{[], ◌∷◌, ◌++◌, ◌+◌, take, sym, ap, ◌∙◌, subst, arith}
use Rattle.std.specs.Int.{w64}
use Rattle.std.proofs.lemmas.Int.{to_z-of_z}
use Rattle.std.proofs.lemmas.List.{take_all}
use Rattle.ccpp_words.specs.Fronts.{IsWrongIn}
use Rattle.ccpp_words.specs.Words.{IsInt, AreInts, MayBeInts, none}
use Rattle.ccpp_words.proofs.NumberLaws.{as_many, ints_with, wrong_int_at}
use Rattle.ccpp_words.proofs.numbers.ints_of.Goals as goal

pub loop-before-init : goal.loop-before-init
loop-before-init c = (subst (λ ints. AreInts [] ints) (sym c.new-ints.ensures) none, omega arith)

pub returns-then-before-eq-MOST_INTS-clause-wrong : goal.returns-then-before-eq-MOST_INTS-clause-wrong
returns-then-before-eq-MOST_INTS-clause-wrong c =
    let words = c.args.words.now in
    λ place e. subst (IsWrongIn MayBeInts words) (cc e) (wrong_int_at words c.loop-before.before c.index-words-before.result c.loop-before-test.true c.index-words-before.is c.loop-before.ints c.loop-before.invariant.0 c.loop-before.invariant.1 (λ n is. c.if-before-eq-MOST_INTS.true))

pub returns-in-None-clause-wrong : goal.returns-in-None-clause-wrong
returns-in-None-clause-wrong c =
    let words = c.args.words.now in
    λ place e. subst (IsWrongIn MayBeInts words) (cc e) (wrong_int_at words c.loop-before.before c.index-words-before.result c.loop-before-test.true c.index-words-before.is c.loop-before.ints c.loop-before.invariant.0 c.loop-before.invariant.1 (λ n is. absurd ((rw c.in-None.is at c.in_ok-int.ensures) n (subst (λ w. IsInt w n) (sym c.as_text.ensures) is))))

pub loop-before-preserved : goal.loop-before-preserved
loop-before-preserved c =
    let words = c.args.words.now in
    let is = subst (λ w. IsInt w c.in-Some.int) c.as_text.ensures (rw c.in-Some.is at c.in_ok-int.ensures) in
    let pushed = c.in_ok-push-in-Some.ensures.ok ∙ ap (λ n. c.loop-before.ints ++ n ∷ []) (to_z-of_z w64 c.in-Some.int is.1) in
    let not_eight = c.if-before-eq-MOST_INTS.false in
    let few = c.loop-before.invariant.1 in (
      subst (AreInts (take (c.loop-before.before + 1) words)) (sym pushed) (ints_with words c.loop-before.before c.index-words-before.result c.loop-before-test.true c.index-words-before.is c.loop-before.ints c.in-Some.int c.loop-before.invariant.0 is),
      omega arith,
    )

pub returns-clause-ints : goal.returns-clause-ints
returns-clause-ints c =
    let all = take_all c.loop-before.before c.args.words.now c.loop-before-test.false in
    let are = subst (λ ws. AreInts ws c.loop-before.ints) all c.loop-before.invariant.0 in
    let many = as_many are in
    let few = c.loop-before.invariant.1 in
    let stop = c.loop-before-test.false in
    (are, omega arith)
