use Rattle.std.proofs.Common.{rules, ◌≡◌, ◌∷◌, [], ◌-◌, ◌+◌, length, take, drop, Err, sym, ap, ◌∙◌, subst}
use Rattle.ccpp_words.specs.Words.{IsNoCommandAt, verb_word}
use Rattle.ccpp_words.proofs.CommandLaws.{no_words, wrong_name, no_file, wrong_file, wrong_rest, first_and_rest, no_word}
use Rattle.ccpp_words.proofs.command.Command.of.Goals as goal
use Rattle.ccpp_words.proofs.command.Command.of.Goals.{In-Some}

pub returns-in_default-clause-wrong : goal.returns-in_default-clause-wrong
returns-in_default-clause-wrong c =
    λ place e. subst (λ ws. IsNoCommandAt ws place) (sym (no_word c.args.words.now c.in_default.len_below)) (subst (IsNoCommandAt []) (cc e) no_words)

pub returns-in_default-of-clause-wrong : goal.returns-in_default-of-clause-wrong
returns-in_default-of-clause-wrong c =
    let words = c.args.words.now in
    let are = first_and_rest words c.in-len1-up.len_at_least c.name-item.result c.name-item.is in
    let other = rw c.as_text.ensures at c.in_default-of.ensures in
    λ place e. subst (λ ws. IsNoCommandAt ws place) (sym are) (subst (IsNoCommandAt _) (cc e) (wrong_name c.name-item.result (take (length words - 1) (drop 1 words)) other))

-- the words begin with the verb
begins : (c : In-Some) → c.args.words.now ≡ verb_word c.in-Some.verb ∷ take (length c.args.words.now - 1) (drop 1 c.args.words.now)
begins c =
    let words = c.args.words.now in
    let are = first_and_rest words c.in-len1-up.len_at_least c.name-item.result c.name-item.is in
    are ∙ ap (λ w. w ∷ take (length words - 1) (drop 1 words)) (sym c.as_text.ensures ∙ c.in-Some.ensures)

pub returns-in_default-words-clause-wrong : goal.returns-in_default-words-clause-wrong
returns-in_default-words-clause-wrong c =
    let none = no_word _ c.in_default-words.len_below in
    let are = begins (goal.at.returns-in_default-words-clause-wrong c).In-Some ∙ ap (λ ws. verb_word c.in-Some.verb ∷ ws) none in
    λ place e. subst (λ ws. IsNoCommandAt ws place) (sym are) (subst (IsNoCommandAt _) (cc e) (no_file c.in-Some.verb))

pub returns-then-not-is_file_name-clause-wrong : goal.returns-then-not-is_file_name-clause-wrong
returns-then-not-is_file_name-clause-wrong c =
    let more = first_and_rest _ c.in-len1-up-words.len_at_least c.file-item.result c.file-item.is in
    let are = begins (goal.at.returns-then-not-is_file_name-clause-wrong c).In-Some ∙ ap (λ ws. verb_word c.in-Some.verb ∷ ws) more in
    λ place e. subst (λ ws. IsNoCommandAt ws place) (sym are) (subst (IsNoCommandAt _) (cc e) (wrong_file c.in-Some.verb c.file-item.result _ (search rules)))

pub returns-in-Err-clause-wrong : goal.returns-in-Err-clause-wrong
returns-in-Err-clause-wrong c =
    let words = c.args.words.now in
    let behind_verb = take (length words - 1) (drop 1 words) in
    let rest = take (length behind_verb - 1) (drop 1 behind_verb) in
    let verb = c.in-Some.verb in
    let file = c.file-item.result in
    let more = first_and_rest behind_verb c.in-len1-up-words.len_at_least file c.file-item.is in
    let are = begins (goal.at.returns-in-Err-clause-wrong c).In-Some ∙ ap (λ ws. verb_word verb ∷ ws) more in
    let same_file = c.in_ok-file.ensures ∙ c.as_text-3.ensures in
    λ place e.
    let before = c.behind.ensures place (cc e) in
    let wrong = wrong_rest verb c.in_ok-file.file rest before.0 (c.in-Err.ensures.wrong before.0 (ap Err before.1)) in
    let here = subst (λ f. IsNoCommandAt (verb_word verb ∷ f ∷ rest) (before.0 + 2)) same_file wrong in
    subst (λ ws. IsNoCommandAt ws place) (sym are) (subst (IsNoCommandAt (verb_word verb ∷ file ∷ rest)) (sym before.2) here)
