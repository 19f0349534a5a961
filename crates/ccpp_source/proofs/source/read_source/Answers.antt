use Rattle.std.proofs.lemmas.Result.{err_from_is_err_and}
use Rattle.cc_lexer.specs.Lexemes.{lexemes}
use Rattle.ccpp_source.proofs.SourceLaws.{ill_formed, well_formed}
use Rattle.ccpp_source.proofs.source.read_source.Goals as goal

pub check-requires : goal.check-requires
check-requires c =
    let is = c.in_ok-program.ensures.program in
    (lexemes c.args.text.now is.tokens, is.spelled)

pub returns-in_err-check-clause-refused : goal.returns-in_err-check-clause-refused
returns-in_err-check-clause-refused c =
    let p = err_from_is_err_and c.from_residual-in_err-check.result c.from_residual-in_err-check.ensures.1 in
    rw (p.1, p.2) (ill_formed c.args.text.now c.in_ok-program.program c.in_ok-program.ensures.program (λ q t. let e = c.in_ok-program.ensures.only_program q t (λ m. cc m) in cc e) c.in_err-check.field-0.0 c.in_err-check.ensures)

pub returns-clause-source : goal.returns-clause-source
returns-clause-source c = well_formed c.args.text.now c.in_ok-program.program c.in_ok-program.ensures.program _ c.in_ok-check.ensures
