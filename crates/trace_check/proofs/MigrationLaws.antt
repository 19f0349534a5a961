-- Of a text one thing is answered.
use Rattle.std.proofs.Common.{◌≡◌, ℕ, List, [], ◌∷◌, ◌++◌, Result, Ok, Err, refl, sym, ◌∙◌, ap, subst}
use Rattle.effect_journal.specs.declared.entry.Entry.{Entry}
use Rattle.effect_journal.specs.declared.entry.Entry.TheVariants.{Run, Serve, Make, End}
use Rattle.effect_journal.specs.declared.format.Version.TheVariants as version
use Rattle.effect_journal.specs.declared.read.JournalFault.{JournalFault}
use Rattle.effect_journal.specs.Journal.{version_2, lines, AllowsNoEmpty}
use Rattle.effect_journal.proofs.JournalLaws.{one_answer, one_line, no_empty}
use Rattle.effect_journal.proofs.ReadLaws.{journal_text}
use Rattle.rsr_message.specs.declared.versions.Version.TheVariants.{One}
use Rattle.rsr_message.specs.Requests.{Spells}
use Rattle.rsr_message.specs.Requests as message
use Rattle.rsr_message.proofs.RequestLaws.{one_request}
use Rattle.rsr_message.proofs.SpellingLaws.{single_spelling}
use Rattle.trace_check.specs.Migration.{messages_1, SameRequest, SameEntry, SameEntries, Rewrites, Keeps, Migrates, First, Other}
use Rattle.trace_check.proofs.MessageBytes.{message_some}

pub messages_some : AllowsNoEmpty messages_1
messages_some bytes m = message_some message.version_1 m.0 bytes m.1

-- a request is rewritten in one way
same_request : (old new other : List ℕ) → SameRequest old new → SameRequest old other → new ≡ other
same_request old new other a b =
    let one = one_request a.request b.request old old [] [] (record { version = One; spelled = a.first }) (record { version = One; spelled = b.first }) refl in
    single_spelling message.version_2 b.request new other (subst (λ r. Spells message.version_2 r new) one.0 a.second) b.second

same_entry : (e f g : Entry) → SameEntry e f → SameEntry e g → f ≡ g
same_entry (Run p t k) f g a b = a ∙ sym b
same_entry (Serve p old) (Serve q new) (Serve r other) a b =
    let processors : q ≡ r = sym a.0 ∙ b.0 in
    let requests : new ≡ other = same_request old new other a.1 b.1 in
    cc (processors, requests)
same_entry (Serve p old) (Serve q new) g a b = absurd b
same_entry (Serve p old) f g a b = absurd a
same_entry (Make old) (Make new) (Make other) a b = ap Make (same_request old new other a b)
same_entry (Make old) (Make new) g a b = absurd b
same_entry (Make old) f g a b = absurd a
same_entry (End standing by) f g a b = a ∙ sym b

same_entries : (es fs gs : List Entry) → SameEntries es fs → SameEntries es gs → fs ≡ gs
same_entries [] [] [] a b = refl
same_entries [] [] (g ∷ gs) a b = absurd b
same_entries [] (f ∷ fs) gs a b = absurd a
same_entries (e ∷ es) [] gs a b = absurd a
same_entries (e ∷ es) (f ∷ fs) [] a b = absurd b
same_entries (e ∷ es) (f ∷ fs) (g ∷ gs) a b =
    let first : f ≡ g = same_entry e f g a.0 b.0 in
    let rest : fs ≡ gs = same_entries es fs gs a.1 b.1 in
    cc (first, rest)

one_rewriting : (found : Result (List Entry) JournalFault) (a b : Result (List ℕ) JournalFault) → Rewrites found a → Rewrites found b → a ≡ b
one_rewriting (Ok es) a b p q =
    let entries = same_entries es p.0 q.0 p.2 q.2 in
    let first = journal_text version_2 p.0 p.1 p.3 in
    let second = journal_text version_2 q.0 q.1 q.3 in
    p.4 ∙ ap Ok (first ∙ ap (λ fs. version_2.header ++ 10 ∷ lines fs) entries ∙ sym second) ∙ sym q.4
one_rewriting (Err fault) a b p q = p ∙ sym q

one_kept : (text : List ℕ) (found : Result (List Entry) JournalFault) (a b : Result (List ℕ) JournalFault) → Keeps text found a → Keeps text found b → a ≡ b
one_kept text (Ok es) a b p q = p ∙ sym q
one_kept text (Err fault) a b p q = p ∙ sym q

pub one_migration : (text : List ℕ) (a b : Result (List ℕ) JournalFault) → Migrates text a → Migrates text b → a ≡ b
one_migration text a b (First is x p r) (First is' y q s) =
    let same : x ≡ y = one_answer messages_1 text x y (one_line version.One) messages_some p q in
    one_rewriting y a b (subst (λ found. Rewrites found a) same r) s
one_migration text a b (First is x p r) (Other other y q s) = absurd (other is)
one_migration text a b (Other other x p r) (First is y q s) = absurd (other is)
one_migration text a b (Other other x p r) (Other other' y q s) =
    let same : x ≡ y = one_answer version_2 text x y (one_line version.Two) (no_empty version.Two) p q in
    one_kept text y a b (subst (λ found. Keeps text found a) same r) s
