-- Of the entries of a journal one thing is found.
use Rattle.std.proofs.Common.{◌≡◌, ℕ, List, ap, ◌∙◌}
use Rattle.std.specs.Prelude.{ℤ}
use Rattle.cc_core.specs.Core.{Program}
use Rattle.cc_explains.proofs.Reading.{one_standing}
use Rattle.cc_explains.proofs.Failing.{explained_or_not, unexplained_once}
use Rattle.effect_journal.specs.Journal.{version_2, Journal}
use Rattle.effect_journal.specs.declared.entry.Entry.{Entry}
use Rattle.trace_check.specs.Verdicts.{EndsOnce, IsVerdict}
use Rattle.trace_check.specs.declared.verdict.Verdict.{Verdict}
use Rattle.trace_check.specs.declared.verdict.Verdict.TheVariants.{Yes, No}

pub one_verdict : (p : Program) (is : List ℤ) (es : List Entry) (a b : Verdict) → IsVerdict p is es a → IsVerdict p is es b → a ≡ b
one_verdict p is es (Yes s) (Yes r) x y = ap Yes (one_standing p is es s r x y)
one_verdict p is es (Yes s) (No k why) x y = absurd (explained_or_not p is es s k why x y)
one_verdict p is es (No k why) (Yes s) x y = absurd (explained_or_not p is es s k why y x)
one_verdict p is es (No j why) (No k other) x y =
    let both = unexplained_once p is es j k why other x y in
    ap (λ n. No n why) both.0 ∙ ap (No k) both.1

pub journal_ends_once : (es : List Entry) (text : List ℕ) → Journal version_2 es text → EndsOnce es
journal_ends_once es text j = record { before = j.before; standing = j.standing; by = j.by; whole = j.all; no_end = j.begins.no_end }
