use Rattle.std.proofs.Common.{◌∙◌, drop, subst, sym, ap}
use Rattle.std.proofs.lemmas.List.{take_rest}
use Rattle.std.proofs.lemmas.Result.{IfOk-weaker}
use Rattle.rsr_message.specs.Requests.{format_of, SpellsEach, SpellsList}
use Rattle.rsr_message.specs.Shapes.{AreValues}
use Rattle.rsr_message.proofs.ReadingSteps.{list_values, list_of}
use Rattle.rsr_message.proofs.reading.read_list.Goals as goal

pub read_values-requires : goal.read_values-requires
read_values-requires c =
    let bytes = c.args.bytes.now in
    let n = c.count_len.result in
    subst AreValues (sym (take_rest bytes n ∙ ap (λ k. drop k bytes) c.count_len.ensures)) (list_values (format_of c.args.version) bytes c.requires)

pub returns : goal.returns
returns c =
    let f = format_of c.args.version in
    let bytes = c.args.bytes.now in
    let n = c.count_len.result in
    IfOk-weaker _ _ (λ values. SpellsList f values bytes)
    (λ values each. list_of f bytes c.requires values (subst (SpellsEach values) (take_rest bytes n ∙ ap (λ k. drop k bytes) c.count_len.ensures) each))
    c.read_values.ensures
