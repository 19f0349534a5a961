use Rattle.std.proofs.Common.{◌∷◌, ◌-◌, length, take, drop, Err, sym, ap, subst, arith}
use Rattle.ccpp_words.specs.Fronts.{IsWrongIn}
use Rattle.ccpp_words.specs.Words.{Say, MayStand, choice_word}
use Rattle.ccpp_words.proofs.FrontLaws.{place_bound}
use Rattle.ccpp_words.proofs.SettingsLaws.{say_ints, wrong_ints, value_wanted, wrong_value, wrong_rest, say_more, alone, with_word}
use Rattle.ccpp_words.proofs.settings.Settings.+of.Goals as goal

pub returns-in_err-ints-clause-wrong : goal.returns-in_err-ints-clause-wrong
returns-in_err-ints-clause-wrong t c =
    λ place e. wrong_ints c.args.given c.args.words.now c.in_default.ensures place (c.in_err-ints.ensures.wrong place (ap Err (sym (rw e at c.from_residual.ensures.1))))

pub returns-in_default-clause-settings : goal.returns-in_default-clause-settings
returns-in_default-clause-settings t c = say_ints c.args.given c.args.words.now c.in_ok-ints.ints c.in_ok-ints.ensures.ints.0 c.in_ok-ints.ensures.ints.1

pub returns-in_default-words-clause-wrong : goal.returns-in_default-words-clause-wrong
returns-in_default-words-clause-wrong t c =
    let are = alone c.args.words.now c.in-Some.choice c.in-Some.ensures.1.0 c.in-Some.ensures.1.1 c.in_default-words.len_below in
    λ place e. subst (λ ws. IsWrongIn (MayStand c.args.given) ws place) (sym are) (subst (IsWrongIn (MayStand c.args.given) (choice_word c.in-Some.choice ∷ _)) (cc e) (value_wanted c.args.given c.in-Some.choice c.in-Some.ensures.0))

pub returns-in_default-2-clause-wrong : goal.returns-in_default-2-clause-wrong
returns-in_default-2-clause-wrong t c =
    let words = c.args.words.now in
    let word = c.word-item.result in
    let are = with_word words c.in-Some.choice c.in-Some.ensures.1.0 c.in-Some.ensures.1.1 c.in-len2-up.len_at_least word c.word-item.is in
    let none = rw (c.in_default-2.is, c.as_text.ensures) at c.in_ok-value.ensures in
    λ place e. subst (λ ws. IsWrongIn (MayStand c.args.given) ws place) (sym are) (subst (IsWrongIn (MayStand c.args.given) _) (cc e) (wrong_value c.args.given c.in-Some.choice c.in-Some.ensures.0 word (take (length words - 2) (drop 2 words)) none))

pub behind-requires : goal.behind-requires
behind-requires t c =
    let words = c.args.words.now in
    let rest = take (length words - 2) (drop 2 words) in
    λ place e.
    let bound = place_bound (MayStand c.with.result) rest place (c.in-Err.ensures.wrong place (ap Err e)) in
    let shorter = ap length (with_word words c.in-Some.choice c.in-Some.ensures.1.0 c.in-Some.ensures.1.1 c.in-len2-up.len_at_least c.word-item.result c.word-item.is) in
    omega arith

pub returns-in-Ok-clause-settings : goal.returns-in-Ok-clause-settings
returns-in-Ok-clause-settings t c =
    let words = c.args.words.now in
    let word = c.word-item.result in
    let rest = take (length words - 2) (drop 2 words) in
    let are = with_word words c.in-Some.choice c.in-Some.ensures.1.0 c.in-Some.ensures.1.1 c.in-len2-up.len_at_least word c.word-item.is in
    let value = rw (c.in-Some-2.is, c.as_text.ensures) at c.in_ok-value.ensures in
    let said = subst (λ given. Say given rest c.in-Ok.settings) c.with.ensures c.in-Ok.ensures.settings in
    let all = say_more c.args.given c.in-Some.choice word c.in-Some-2.value rest c.in-Ok.settings c.in-Some.ensures.0 value said in
    subst (λ ws. Say c.args.given ws c.with-in-Ok.result) (sym are) (subst (Say c.args.given (choice_word c.in-Some.choice ∷ word ∷ rest)) (sym c.with-in-Ok.ensures) all)

pub returns-in-Err-clause-wrong : goal.returns-in-Err-clause-wrong
returns-in-Err-clause-wrong t c =
    let words = c.args.words.now in
    let word = c.word-item.result in
    let rest = take (length words - 2) (drop 2 words) in
    let given = c.args.given in
    let are = with_word words c.in-Some.choice c.in-Some.ensures.1.0 c.in-Some.ensures.1.1 c.in-len2-up.len_at_least word c.word-item.is in
    let value = rw (c.in-Some-2.is, c.as_text.ensures) at c.in_ok-value.ensures in
    λ place e.
    let before = c.behind.ensures place (cc e) in
    let wrong = subst (λ g. IsWrongIn (MayStand g) rest before.0) c.with.ensures (c.in-Err.ensures.wrong before.0 (ap Err before.1)) in
    let here = wrong_rest given c.in-Some.choice c.in-Some.ensures.0 word c.in-Some-2.value value rest before.0 wrong in
    subst (λ ws. IsWrongIn (MayStand given) ws place) (sym are) (subst (IsWrongIn (MayStand given) (choice_word c.in-Some.choice ∷ word ∷ rest)) (sym before.2) here)
