use Rattle.std.proofs.Common.{rules, ◌≡◌, ◌≢◌, true, false, [], ◌∷◌, ◌+◌, ◌-◌, length, take, drop, Err, sym, ap, ◌∙◌, subst, codes, bytes_eq}
use Rattle.std.proofs.lemmas.Slice.Eq.{bytes_eq-Decides}
use Rattle.ccpp_words.specs.Words.{Ask, IsWrongAt, IsNoCommandAt, MayBeTraced}
use Rattle.ccpp_words.specs.declared.fault.WordsFault.TheVariants.{Wrong}
use Rattle.ccpp_words.proofs.CommandLaws.{first_and_rest, no_word}
use Rattle.ccpp_words.proofs.InvocationLaws.{no_words_at_all, wrong_command, wrong_size, wrong_trace}
use Rattle.ccpp_words.proofs.FrontLaws.{place_bound}
use Rattle.ccpp_words.proofs.invocation.Invocation.of.Goals as goal

pub returns-in_default-clause-wrong : goal.returns-in_default-clause-wrong
returns-in_default-clause-wrong c =
    λ place e. subst (λ ws. IsWrongAt ws place) (sym (no_word c.args.words.now c.in_default.len_below)) (subst (IsWrongAt []) (cc e) no_words_at_all)

pub returns-in-Ok-clause-invocation : goal.returns-in-Ok-clause-invocation
returns-in-Ok-clause-invocation c =
    let words = c.args.words.now in
    let name = c.name-item.result in
    let rest = take (length words - 1) (drop 1 words) in
    let are = first_and_rest words c.in-len1-up.len_at_least name c.name-item.is in
    let same : c.as_text.result.now ≡ codes "load" = (bytes_eq-Decides c.as_text.result.now (codes "load")).0 (sym c.eq.ensures ∙ c.if-eq.true) in
    let is : name ≡ codes "load" = sym c.as_text.ensures ∙ same in
    let size = c.size_of.ensures.size c.in-Ok.size c.in-Ok.is in
    record { word = size.0; are = are ∙ ap (λ w. w ∷ rest) is ∙ ap (λ ws. codes "load" ∷ ws) size.1; is_size = size.2 }

pub returns-in-Err-clause-wrong : goal.returns-in-Err-clause-wrong
returns-in-Err-clause-wrong c =
    let words = c.args.words.now in
    let name = c.name-item.result in
    let rest = take (length words - 1) (drop 1 words) in
    let are = first_and_rest words c.in-len1-up.len_at_least name c.name-item.is in
    let same : c.as_text.result.now ≡ codes "load" = (bytes_eq-Decides c.as_text.result.now (codes "load")).0 (sym c.eq.ensures ∙ c.if-eq.true) in
    let is : name ≡ codes "load" = sym c.as_text.ensures ∙ same in
    λ place e.
    let before = c.behind.ensures place (cc e) in
    let wrong = wrong_size rest before.0 (c.in-Err.ensures.wrong before.0 (ap Err before.1)) in
    subst (λ ws. IsWrongAt ws place) (sym (are ∙ ap (λ w. w ∷ rest) is)) (subst (IsWrongAt (codes "load" ∷ rest)) (sym before.2) wrong)

pub returns-in-Err-of-clause-wrong : goal.returns-in-Err-of-clause-wrong
returns-in-Err-of-clause-wrong c =
    let words = c.args.words.now in
    let name = c.name-item.result in
    let rest = take (length words - 1) (drop 1 words) in
    let are = first_and_rest words c.in-len1-up.len_at_least name c.name-item.is in
    let not : bytes_eq c.as_text.result.now (codes "load") ≡ false = sym c.eq.ensures ∙ c.if-eq.false in
    let other : name ≢ codes "load" = λ is.
    let yes : bytes_eq c.as_text.result.now (codes "load") ≡ true = (bytes_eq-Decides c.as_text.result.now (codes "load")).1 (c.as_text.ensures ∙ is) in
    let both : true ≡ false = sym yes ∙ not in
    cc both in
    let not-trace : bytes_eq c.as_text-2.result.now (codes "trace") ≡ false = sym c.eq-2.ensures ∙ c.if-eq-2.false in
    let also : name ≢ codes "trace" = λ is.
    let yes : bytes_eq c.as_text-2.result.now (codes "trace") ≡ true = (bytes_eq-Decides c.as_text-2.result.now (codes "trace")).1 (c.as_text-2.ensures ∙ is) in
    let both : true ≡ false = sym yes ∙ not-trace in
    cc both in
    λ place e.
    let fault : c.in-Err-of.fault ≡ Wrong place = cc e in
    let wrong = c.in-Err-of.ensures.wrong place (ap Err fault) in
    subst (λ ws. IsWrongAt ws place) (sym are) (wrong_command name rest place other also (subst (λ ws. IsNoCommandAt ws place) are wrong))

pub behind-requires-in-Err-trace_of : goal.behind-requires-in-Err-trace_of
behind-requires-in-Err-trace_of c = λ place e.
    let bound = place_bound MayBeTraced _ place (c.in-Err-trace_of.ensures.wrong place (ap Err e)) in
    search rules

pub returns-in-Ok-trace_of-clause-invocation : goal.returns-in-Ok-trace_of-clause-invocation
returns-in-Ok-trace_of-clause-invocation c =
    let words = c.args.words.now in
    let name = c.name-item.result in
    let rest = take (length words - 1) (drop 1 words) in
    let are = first_and_rest words c.in-len1-up.len_at_least name c.name-item.is in
    let same : c.as_text-2.result.now ≡ codes "trace" = (bytes_eq-Decides c.as_text-2.result.now (codes "trace")).0 (sym c.eq-2.ensures ∙ c.if-eq-2.true) in
    let is : name ≡ codes "trace" = sym c.as_text-2.ensures ∙ same in
    subst (λ ws. Ask ws c.in-Ok-trace_of.invocation) (sym (are ∙ ap (λ w. w ∷ rest) is)) c.in-Ok-trace_of.ensures.invocation

pub returns-in-Err-trace_of-clause-wrong : goal.returns-in-Err-trace_of-clause-wrong
returns-in-Err-trace_of-clause-wrong c =
    let words = c.args.words.now in
    let name = c.name-item.result in
    let rest = take (length words - 1) (drop 1 words) in
    let are = first_and_rest words c.in-len1-up.len_at_least name c.name-item.is in
    let same : c.as_text-2.result.now ≡ codes "trace" = (bytes_eq-Decides c.as_text-2.result.now (codes "trace")).0 (sym c.eq-2.ensures ∙ c.if-eq-2.true) in
    let is : name ≡ codes "trace" = sym c.as_text-2.ensures ∙ same in
    λ place e.
    let before = c.behind-in-Err-trace_of.ensures place (cc e) in
    let wrong = wrong_trace rest before.0 (c.in-Err-trace_of.ensures.wrong before.0 (ap Err before.1)) in
    subst (λ ws. IsWrongAt ws place) (sym (are ∙ ap (λ w. w ∷ rest) is)) (subst (IsWrongAt (codes "trace" ∷ rest)) (sym before.2) wrong)
