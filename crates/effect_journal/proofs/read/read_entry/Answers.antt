use Rattle.std.proofs.Common.{◌≡◌, ◌≢◌, ◌∙◌, ℕ, List, Option, Some, None, MatchOption, ap, sym}
use Rattle.std.proofs.lemmas.Option.{none-some}
use Rattle.std.proofs.lemmas.Result.{IfOk-weaker}
use Rattle.effect_journal.specs.declared.entry.Entry.{Entry}
use Rattle.effect_journal.specs.declared.format.Version.{Version}
use Rattle.effect_journal.specs.declared.format.Version.TheVariants.{One, Two}
use Rattle.effect_journal.specs.Journal.{IsUpTo, IsEntry, line, format_of, longest_of}
use Rattle.effect_journal.specs.Reading.{entry_of}
use Rattle.effect_journal.proofs.LineLaws.{entry_again, entry_found}
use Rattle.effect_journal.proofs.read.read_entry.Goals as goal

abbrev IsReading : Version → List ℕ → Option Entry → Type 0
IsReading v text found = MatchOption found ((e : Entry) → IsEntry (format_of v).allows e → text ≢ line e) (λ e. (text ≡ line e) × IsEntry (format_of v).allows e)

by_length : (v : Version) (e : Entry) → IsEntry (format_of v).allows e → IsEntry (IsUpTo (longest_of v)) e
by_length One e is = is
by_length Two e is = is

by_version : (v : Version) (e : Entry) → IsEntry (IsUpTo (longest_of v)) e → IsEntry (format_of v).allows e
by_version One e is = is
by_version Two e is = is

reading : (v : Version) (text : List ℕ) (found : Option Entry) → found ≡ entry_of (longest_of v) text → IsReading v text found
reading v text None is = λ e entry same. none-some e (is ∙ ap (entry_of (longest_of v)) same ∙ entry_again (longest_of v) e (by_length v e entry))
reading v text (Some e) is = let found = entry_found (longest_of v) text e (sym is) in (found.line, by_version v e found.entry)

pub returns : goal.returns
returns c =
    IfOk-weaker _ _ (IsReading c.args.version c.args.text.now)
    (λ found is. reading c.args.version c.args.text.now found (is ∙ ap (λ n. entry_of n c.args.text.now) c.longest.ensures.value)) c.entry.ensures
