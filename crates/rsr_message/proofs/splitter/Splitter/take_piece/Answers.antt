-- The pieces are joined, and what is behind the whole messages is kept.
use Rattle.std.proofs.Common.{◌≡◌, ◌+◌, ◌++◌, length, length-append, take, drop, sym, ◌∙◌, ap, subst, refl, arith}
use Rattle.std.proofs.lemmas.List.{take_at}
use Rattle.marshal.specs.Spellings.{IsPartial}
use Rattle.rsr_message.specs.Requests.{IsMessage}
use Rattle.rsr_message.specs.Refused.{place_and_fault}
use Rattle.rsr_message.specs.Streams.{Flow, Splits, place_of}
use Rattle.rsr_message.proofs.StreamLaws.{wrong_within, piece_passed, piece_breaks}
use Rattle.rsr_message.proofs.splitter.Splitter.take_piece.Goals as goal

pub returns-in-Ok-default-None : goal.returns-in-Ok-default-None
returns-in-Ok-default-None c =
    let seen = c.self.view_is in
    let stream = c.as_slice.result.now in
    let found = c.in-Ok-default-None in
    piece_passed c.args.self.now c.args.piece.now stream _ found.used c.args.out.now c.split.new.out
    (ap (λ (s : Flow). s.closed) (sym seen) ∙ ap place_and_fault c.in_default.is)
    (c.as_slice.ensures.value ∙ c.in_ok-extend_from_slice.ensures.items ∙ ap (λ (s : Flow). s.rest ++ c.args.piece.now) seen)
    (subst (λ stop. Splits stream found.used stop c.args.out.now c.split.new.out) found.field-0-1-is found.ensures.ok)
    (c.drop_front.ensures ∙ ap (drop found.used) (sym c.as_slice.ensures.value))
    (ap (λ (s : Flow). s.passed + found.used) seen)
    (ap place_and_fault c.in_default.is)

pub returns-in-Ok-default-Some : goal.returns-in-Ok-default-Some
returns-in-Ok-default-Some c =
    let seen = c.self.view_is in
    let stream = c.as_slice.result.now in
    let found = c.in-Ok-default-Some in
    let before = c.self.inside.rest in
    let held : length before.items ≡ c.len-held.result = (let stored = before.ok in let len = c.len-held.ensures in omega arith) in
    let restored : c.truncate.new.self.items ≡ before.items =
    c.truncate.ensures.items ∙ ap (take c.len-held.result) c.in_ok-extend_from_slice.ensures.items ∙ take_at before.items c.args.piece.now c.len-held.result held in
    piece_breaks c.args.self.now c.args.piece.now stream _ found.used _ found.fault c.args.out.now c.split.new.out
    (ap (λ (s : Flow). s.closed) (sym seen) ∙ ap place_and_fault c.in_default.is)
    (c.as_slice.ensures.value ∙ c.in_ok-extend_from_slice.ensures.items ∙ ap (λ (s : Flow). s.rest ++ c.args.piece.now) seen)
    (subst (λ stop. Splits stream found.used stop c.args.out.now c.split.new.out) found.field-0-1-is found.ensures.ok)
    (ap (λ n. c.self.inside.passed + found.used + n) c.place.ensures ∙ ap (λ (s : Flow). s.passed + found.used + place_of found.fault) seen)
    (restored ∙ ap (λ (s : Flow). s.rest) seen)
    (ap (λ (s : Flow). s.passed) seen)
    refl

pub overflow_add-at-in-Ok-default-Some : goal.overflow_add-at-in-Ok-default-Some
overflow_add-at-in-Ok-default-Some c =
    let found = c.in-Ok-default-Some in
    let stream = c.as_slice.result.now in
    let seen = c.self.view_is in
    let splits = subst (λ stop. Splits stream found.used stop c.args.out.now c.split.new.out) found.field-0-1-is found.ensures.ok in
    let within = wrong_within stream found.used found.fault c.args.out.now c.split.new.out splits in
    let place = c.place.ensures in
    let whole = ap length (c.as_slice.ensures.value ∙ c.in_ok-extend_from_slice.ensures.items) ∙ length-append c.self.inside.rest.items c.args.piece.now in
    let rest : length c.self.inside.rest.items ≡ length c.args.self.now.rest = ap (λ (s : Flow). length s.rest) seen in
    let passed : c.self.inside.passed ≡ c.args.self.now.passed = ap (λ (s : Flow). s.passed) seen in
    let room = c.requires in
    record { fits = omega arith }

pub invariant_of-self-in-Ok-default-Some : goal.invariant_of-self-in-Ok-default-Some
invariant_of-self-in-Ok-default-Some c =
    let before = c.self.inside.rest in
    let held : length before.items ≡ c.len-held.result = (let stored = before.ok in let len = c.len-held.ensures in omega arith) in
    let restored : c.truncate.new.self.items ≡ before.items =
    c.truncate.ensures.items ∙ ap (take c.len-held.result) c.in_ok-extend_from_slice.ensures.items ∙ take_at before.items c.args.piece.now c.len-held.result held in
    subst (IsPartial IsMessage) (sym restored) c.self.invariant
