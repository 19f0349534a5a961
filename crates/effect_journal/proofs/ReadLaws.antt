-- What a reader knows line by line.
use Rattle.std.proofs.Common.{◌≡◌, ◌≢◌, ◌==◌, ℕ, ◌+◌, ◌≤◌, true, false, List, [], ◌∷◌, ◌++◌, length, Some, None, refl, sym, ◌∙◌, ap, subst, arith, append_assoc, append-nil, length-append}
use Rattle.std.specs.List.{AllByRecursion}
use Rattle.std.proofs.lemmas.Bool.{true≢false, eqb-true, eqb-false}
use Rattle.effect_journal.specs.declared.entry.Entry.{Entry}
use Rattle.effect_journal.specs.declared.entry.Entry.TheVariants.{Run, Serve, Make, End}
use Rattle.effect_journal.specs.Journal.{Format, line, lines, IsEntry, is_end, Begins, Journal, Lacks, Misspelled, Header, Line, Behind}
use Rattle.effect_journal.specs.Reading.{cut}
use Rattle.effect_journal.proofs.WordLaws.{IsCut, cut_is}

-- a line is next, and this stands behind it
abbrev pub IsNext : List ℕ → List ℕ → List ℕ → Type 0
IsNext text first rest = (text ≡ first ++ 10 ∷ rest) × Lacks 10 first

pub cut_parts : (text a b : List ℕ) → Some (a, b) ≡ cut 10 text → IsNext text a b
cut_parts text a b e = subst (IsCut 10 text) (sym e) (cut_is 10 text)

pub no_line : (text : List ℕ) → None ≡ cut 10 text → Lacks 10 text
no_line text e = subst (IsCut 10 text) (sym e) (cut_is 10 text)

pub shorter : (text a b : List ℕ) → IsNext text a b → length b + 1 ≤ length text
shorter text a b e = omega (arith, ap length e.0, length-append a (10 ∷ b))

pub other_header : (format : Format) (text first rest : List ℕ) → IsNext text first rest → first ≢ format.header → Misspelled format text 1
other_header format text first rest e differ = Header first rest e.0 e.1 differ

pub begins : (format : Format) (text first rest : List ℕ) → IsNext text first rest → first ≡ format.header → Begins format [] text rest
begins format text first rest e is =
    record { spelled = e.0 ∙ ap (λ h. h ++ 10 ∷ rest) is; each = tt; no_end = tt }

-- the next line is that of an entry
spelled : (format : Format) (es : List Entry) (text rest next behind : List ℕ) (e : Entry) → Begins format es text rest → IsNext rest next behind
    → next ≡ line e → text ≡ format.header ++ 10 ∷ (lines es ++ (line e ++ 10 ∷ behind))
spelled format es text rest next behind e h cuts is =
    h.spelled ∙ ap (λ r. format.header ++ 10 ∷ (lines es ++ r)) (cuts.0 ∙ ap (λ l. l ++ 10 ∷ behind) is)

pub all_more : {A : Type 0} (P : A → Type 0) (xs : List A) (x : A) → AllByRecursion P xs → P x → AllByRecursion P (xs ++ x ∷ [])
all_more P [] x h p = (p, tt)
all_more P (y ∷ ys) x h p = (h.0, all_more P ys x h.1 p)

pub lines_more : (es : List Entry) (e : Entry) (rest : List ℕ) → lines es ++ (line e ++ 10 ∷ rest) ≡ lines (es ++ e ∷ []) ++ rest
lines_more [] e rest = sym (append_assoc (line e) (10 ∷ []) rest)
lines_more (f ∷ fs) e rest =
    append_assoc (line f) (10 ∷ lines fs) (line e ++ 10 ∷ rest) ∙ ap (λ r. line f ++ 10 ∷ r) (lines_more fs e rest) ∙ sym (append_assoc (line f) (10 ∷ lines (fs ++ e ∷ [])) rest)

pub goes_on : (format : Format) (es : List Entry) (text rest next behind : List ℕ) (e : Entry) → Begins format es text rest → IsNext rest next behind
    → next ≡ line e → IsEntry format.allows e → is_end e ≡ false → Begins format (es ++ e ∷ []) text behind
goes_on format es text rest next behind e h cuts is entry before =
    let p = spelled format es text rest next behind e h cuts is in
    record { spelled = p ∙ ap (λ r. format.header ++ 10 ∷ r) (lines_more es e behind); each = all_more (IsEntry format.allows) es e h.each entry; no_end = all_more (λ f. is_end f ≡ false) es e h.no_end before }

pub no_entry : (format : Format) (es : List Entry) (text rest next behind : List ℕ) → Begins format es text rest → IsNext rest next behind
    → ((e : Entry) → IsEntry format.allows e → next ≢ line e) → Misspelled format text (length es + 2)
no_entry format es text rest next behind h cuts none = Line es next behind (subst (Begins format es text) cuts.0 h) cuts.1 none

-- the journal up to an end, and what stands behind it
pub up_to : (format : Format) (es : List Entry) (e : Entry) → AllByRecursion (IsEntry format.allows) es → AllByRecursion (λ f. is_end f ≡ false) es → IsEntry format.allows e → is_end e ≡ true
    → Journal format (es ++ e ∷ []) (format.header ++ 10 ∷ (lines es ++ (line e ++ 10 ∷ [])))
up_to format es (Run p t k) each no_end entry last = absurd (true≢false (sym last))
up_to format es (Serve p request) each no_end entry last = absurd (true≢false (sym last))
up_to format es (Make request) each no_end entry last = absurd (true≢false (sym last))
up_to format es (End standing by) each no_end entry last =
    record { before = es; standing = standing; by = by; all = refl; begins = record { spelled = refl; each = each; no_end = no_end }; end = entry }

pub ends : (format : Format) (es : List Entry) (text rest next behind : List ℕ) (e : Entry) → Begins format es text rest → IsNext rest next behind
    → next ≡ line e → IsEntry format.allows e → is_end e ≡ true → behind ≡ [] → Journal format (es ++ e ∷ []) text
ends format es text rest next behind e h cuts is entry last empty =
    let p = spelled format es text rest next behind e h cuts is in
    subst (Journal format (es ++ e ∷ [])) (sym (p ∙ ap (λ r. format.header ++ 10 ∷ (lines es ++ (line e ++ 10 ∷ r))) empty)) (up_to format es e h.each h.no_end entry last)

pub goes_behind : (format : Format) (es : List Entry) (text rest next behind : List ℕ) (e : Entry) → Begins format es text rest → IsNext rest next behind
    → next ≡ line e → IsEntry format.allows e → is_end e ≡ true → behind ≢ [] → Misspelled format text (length es + 3)
goes_behind format es text rest next behind e h cuts is entry last some =
    let p = spelled format es text rest next behind e h cuts is in
    subst (Misspelled format text) (omega (arith, length-append es (e ∷ [])))
    (Behind (es ++ e ∷ []) (format.header ++ 10 ∷ (lines es ++ (line e ++ 10 ∷ []))) behind (up_to format es e h.each h.no_end entry last) some
    (p ∙ sym (regroup format.header (lines es) (line e) behind)))
  where
    regroup : (a b c d : List ℕ) → (a ++ 10 ∷ (b ++ (c ++ 10 ∷ []))) ++ d ≡ a ++ 10 ∷ (b ++ (c ++ 10 ∷ d))
    regroup a b c d = simp append_assoc

pub empty : (text : List ℕ) → (length text == 0) ≡ true → text ≡ []
empty [] e = refl
empty (b ∷ bs) e = absurd (omega (arith, eqb-true (length (b ∷ bs)) 0 e))

pub not_empty : (text : List ℕ) → (length text == 0) ≡ false → text ≢ []
not_empty text e same = eqb-false (length text) 0 e (ap length same)

-- the text of a journal is fixed by its entries
pub journal_text : (format : Format) (es : List Entry) (text : List ℕ) → Journal format es text → text ≡ format.header ++ 10 ∷ lines es
journal_text format es text h =
    h.begins.spelled ∙ ap (λ r. format.header ++ 10 ∷ r) (lines_more h.before (End h.standing h.by) [] ∙ append-nil (lines (h.before ++ End h.standing h.by ∷ [])) ∙ sym (ap lines h.all))
