use Rattle.std.proofs.Common.{[], ◌∷◌, ◌-◌, length, take, drop, sym, subst}
use Rattle.ccpp_words.specs.Fronts.{IsWrongIn}
use Rattle.ccpp_words.specs.Words.{MayBeSize}
use Rattle.ccpp_words.proofs.CommandLaws.{first_and_rest, no_word}
use Rattle.ccpp_words.proofs.InvocationLaws.{no_size, other_size}
use Rattle.ccpp_words.proofs.invocation.size_of.Goals as goal

pub returns-in_default-clause-wrong : goal.returns-in_default-clause-wrong
returns-in_default-clause-wrong c =
    λ place e. subst (λ ws. IsWrongIn MayBeSize ws place) (sym (no_word c.args.words.now c.in_default.len_below)) (subst (IsWrongIn MayBeSize []) (cc e) no_size)

pub returns-in_default-2-clause-wrong : goal.returns-in_default-2-clause-wrong
returns-in_default-2-clause-wrong c =
    let words = c.args.words.now in
    let word = c.word-item.result in
    let rest = take (length words - 1) (drop 1 words) in
    let are = first_and_rest words c.in-len1-up.len_at_least word c.word-item.is in
    let none = rw (c.in_default-2.is, c.as_text.ensures) at c.in_ok-size.ensures in
    λ place e. subst (λ ws. IsWrongIn MayBeSize ws place) (sym are) (subst (IsWrongIn MayBeSize (word ∷ rest)) (cc e) (other_size word rest none))
