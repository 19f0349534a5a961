use Rattle.std.proofs.Common.{rules, ◌≡◌, [], ◌∷◌, ◌-◌, ◌+◌, length, take, drop, Err, sym, ap, ◌∙◌, subst}
use Rattle.ccpp_words.specs.Fronts.{IsWrongIn}
use Rattle.ccpp_words.specs.Words.{IsFileName, MayBeTraced}
use Rattle.ccpp_words.proofs.CommandLaws.{first_and_rest, no_word}
use Rattle.ccpp_words.proofs.InvocationLaws.{no_first, wrong_first, no_second, wrong_second, wrong_ints}
use Rattle.ccpp_words.proofs.invocation.trace_of.Goals as goal

pub returns-in_default-clause-wrong : goal.returns-in_default-clause-wrong
returns-in_default-clause-wrong c =
    λ place e. subst (λ ws. IsWrongIn MayBeTraced ws place) (sym (no_word c.args.words.now c.in_default.len_below)) (subst (IsWrongIn MayBeTraced []) (cc e) no_first)

pub returns-then-not-is_file_name-clause-wrong : goal.returns-then-not-is_file_name-clause-wrong
returns-then-not-is_file_name-clause-wrong c =
    let words = c.args.words.now in
    let are = first_and_rest words c.in-len1-up.len_at_least c.file-item.result c.file-item.is in
    λ place e. subst (λ ws. IsWrongIn MayBeTraced ws place) (sym are) (subst (IsWrongIn MayBeTraced _) (cc e) (wrong_first c.file-item.result _ (search rules)))

pub returns-in_default-words-clause-wrong : goal.returns-in_default-words-clause-wrong
returns-in_default-words-clause-wrong c =
    let words = c.args.words.now in
    let file = c.file-item.result in
    let none = no_word _ c.in_default-words.len_below in
    let are = first_and_rest words c.in-len1-up.len_at_least file c.file-item.is ∙ ap (λ ws. file ∷ ws) none in
    let is_file : IsFileName file = search rules in
    λ place e. subst (λ ws. IsWrongIn MayBeTraced ws place) (sym are) (subst (IsWrongIn MayBeTraced _) (cc e) (no_second file is_file))

pub returns-then-not-is_file_name-2-clause-wrong : goal.returns-then-not-is_file_name-2-clause-wrong
returns-then-not-is_file_name-2-clause-wrong c =
    let words = c.args.words.now in
    let file = c.file-item.result in
    let more = first_and_rest _ c.in-len1-up-words.len_at_least c.journal-item.result c.journal-item.is in
    let are = first_and_rest words c.in-len1-up.len_at_least file c.file-item.is ∙ ap (λ ws. file ∷ ws) more in
    let is_file : IsFileName file = search rules in
    let other : IsFileName c.journal-item.result → ⊥ = search rules in
    λ place e. subst (λ ws. IsWrongIn MayBeTraced ws place) (sym are) (subst (IsWrongIn MayBeTraced _) (cc e) (wrong_second file c.journal-item.result _ is_file other))

pub returns-in-Err-clause-wrong : goal.returns-in-Err-clause-wrong
returns-in-Err-clause-wrong c =
    let words = c.args.words.now in
    let file = c.file-item.result in
    let journal = c.journal-item.result in
    let behind_file = take (length words - 1) (drop 1 words) in
    let rest = take (length behind_file - 1) (drop 1 behind_file) in
    let more = first_and_rest behind_file c.in-len1-up-words.len_at_least journal c.journal-item.is in
    let are = first_and_rest words c.in-len1-up.len_at_least file c.file-item.is ∙ ap (λ ws. file ∷ ws) more in
    let is_file : IsFileName file = search rules in
    let is_journal : IsFileName journal = search rules in
    λ place e.
    let before = c.behind.ensures place (cc e) in
    let wrong = wrong_ints file journal rest before.0 is_file is_journal (c.in-Err.ensures.wrong before.0 (ap Err before.1)) in
    subst (λ ws. IsWrongIn MayBeTraced ws place) (sym are) (subst (IsWrongIn MayBeTraced (file ∷ journal ∷ rest)) (sym before.2) wrong)
