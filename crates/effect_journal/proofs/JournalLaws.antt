-- A text is one thing only: the journal of one list of entries, or refused at one line, or without its end.
use Rattle.std.proofs.Common.{◌≡◌, ◌≢◌, ℕ, ◌+◌, true, false, List, [], ◌∷◌, ◌++◌, length, Some, None, Result, Ok, Err, refl, sym, ◌∙◌, ap, subst, arith, append_assoc, length-append}
use Rattle.std.specs.List.{AllByRecursion}
use Rattle.std.proofs.lemmas.Bool.{true≢false}
use Rattle.std.proofs.lemmas.Option.{none-some, same_Some, some_pair_parts}
use Rattle.effect_journal.specs.declared.entry.Entry.{Entry}
use Rattle.effect_journal.specs.declared.entry.Entry.TheVariants.{End}
use Rattle.effect_journal.specs.declared.format.Version.{Version}
use Rattle.effect_journal.specs.declared.format.Version.TheVariants.{One, Two}
use Rattle.effect_journal.specs.declared.read.JournalFault.{JournalFault}
use Rattle.effect_journal.specs.declared.read.JournalFault.TheVariants.{Line as LineFault, NoEnd, Memory}
use Rattle.effect_journal.specs.Journal.{Format, version_1, version_2, format_of, AllowsNoEmpty, line, lines, IsEntry, is_end, Begins, Journal, Lacks, Misspelled, Header, Line, Behind, Unended, Empty, Open, Answers}
use Rattle.effect_journal.specs.Reading.{cut}
use Rattle.effect_journal.proofs.WordLaws.{cut_again, cut_none}
use Rattle.effect_journal.proofs.LineLaws.{one_entry, lacks_line, lacks_by_test}

abbrev Answer : Type 0
Answer = Result (List Entry) JournalFault

-- what stands where the entries before the end are over: the end and what is behind it, a line of no entry, no whole line
data Stop : Type 0 where
  Ended : Entry → List ℕ → Stop
  Wrong : Stop
  Cut : Stop

abbrev StopsAs : Format → List ℕ → Stop → Type 0
StopsAs format rest (Ended e behind) = (cut 10 rest ≡ Some (line e, behind)) × IsEntry format.allows e × (is_end e ≡ true)
StopsAs format rest Wrong = (parts : List ℕ × List ℕ) × (cut 10 rest ≡ Some parts) × ((e : Entry) → IsEntry format.allows e → parts.0 ≢ line e)
StopsAs format rest Cut = cut 10 rest ≡ None

abbrev answer : List Entry → Stop → Answer
answer es (Ended e []) = Ok (es ++ e ∷ [])
answer es (Ended e (b ∷ bs)) = Err (LineFault (length es + 3))
answer es Wrong = Err (LineFault (length es + 2))
answer es Cut = Err NoEnd

record Front (format : Format) (es : List Entry) : Type 0 where
  each : AllByRecursion (IsEntry format.allows) es
  no_end : AllByRecursion (λ e. is_end e ≡ false) es

-- how a text is read to its answer
data Reads (format : Format) (text : List ℕ) (a : Answer) : Type 0 where
  NoLine : cut 10 text ≡ None → a ≡ Err NoEnd → Reads format text a
  Other : (parts : List ℕ × List ℕ) → cut 10 text ≡ Some parts → parts.0 ≢ format.header → a ≡ Err (LineFault 1) → Reads format text a
  Entries : (es : List Entry) (rest : List ℕ) (stop : Stop) → cut 10 text ≡ Some (format.header, lines es ++ rest) → Front format es
      → StopsAs format rest stop → a ≡ answer es stop → Reads format text a

-- ---- fronts

more : (e : Entry) (es : List Entry) (x : List ℕ) → lines (e ∷ es) ++ x ≡ line e ++ 10 ∷ (lines es ++ x)
more e es x = append_assoc (line e) (10 ∷ lines es) x

module _ (format : Format) (some : AllowsNoEmpty format) where
  line_front : (e f : Entry) (x y : List ℕ) → IsEntry format.allows e → IsEntry format.allows f → line e ++ 10 ∷ x ≡ line f ++ 10 ∷ y → (e ≡ f) × (x ≡ y)
  line_front e f x y is_e is_f same =
      let cuts = some_pair_parts (line e) (line f) x y (sym (cut_again 10 (line e) x (lacks_line format.allows e is_e)) ∙ ap (cut 10) same ∙ cut_again 10 (line f) y (lacks_line format.allows f is_f)) in
      (one_entry format.allows some e f is_e is_f cuts.0, cuts.1)

  -- a line stops in one way
  same_stop : (rest : List ℕ) (s t : Stop) → StopsAs format rest s → StopsAs format rest t → s ≡ t
  same_stop rest (Ended e b) (Ended f c) p q =
      let cuts = some_pair_parts (line e) (line f) b c (sym p.0 ∙ q.0) in
      let same : e ≡ f = one_entry format.allows some e f p.1 q.1 cuts.0 in
      rw (same, cuts.1) refl
  same_stop rest (Ended e b) Wrong p q = absurd (q.2 e p.1 (ap (λ (parts : List ℕ × List ℕ). parts.0) (same_Some q.0 (line e, b) (sym q.1 ∙ p.0))))
  same_stop rest (Ended e b) Cut p q = absurd (none-some (line e, b) (sym q ∙ p.0))
  same_stop rest Wrong (Ended e b) p q = absurd (p.2 e q.1 (ap (λ (parts : List ℕ × List ℕ). parts.0) (same_Some p.0 (line e, b) (sym p.1 ∙ q.0))))
  same_stop rest Wrong Wrong p q = refl
  same_stop rest Wrong Cut p q = absurd (none-some p.0 (sym q ∙ p.1))
  same_stop rest Cut (Ended e b) p q = absurd (none-some (line e, b) (sym p ∙ q.0))
  same_stop rest Cut Wrong p q = absurd (none-some q.0 (sym p ∙ q.1))
  same_stop rest Cut Cut p q = refl

  -- nothing stops before the line of an entry that is no end
  goes_on : (e : Entry) (x rest : List ℕ) (s : Stop) → IsEntry format.allows e → is_end e ≡ false → rest ≡ line e ++ 10 ∷ x → StopsAs format rest s → ⊥
  goes_on e x rest s is before whole stops = by s stops
    where
      here : cut 10 rest ≡ Some (line e, x)
      here = ap (cut 10) whole ∙ cut_again 10 (line e) x (lacks_line format.allows e is)

      by : (s : Stop) → StopsAs format rest s → ⊥
      by (Ended f b) q =
          let same : f ≡ e = one_entry format.allows some f e q.1 is (some_pair_parts (line f) (line e) b x (sym q.0 ∙ here)).0 in
          true≢false (sym q.2 ∙ ap is_end same ∙ before)
      by Wrong q = q.2 e is (ap (λ (parts : List ℕ × List ℕ). parts.0) (same_Some q.0 (line e, x) (sym q.1 ∙ here)))
      by Cut q = none-some (line e, x) (sym q ∙ here)

  same_front : (es fs : List Entry) (x y : List ℕ) (s t : Stop) → Front format es → Front format fs → lines es ++ x ≡ lines fs ++ y
      → StopsAs format x s → StopsAs format y t → (es ≡ fs) × (x ≡ y)
  same_front [] [] x y s t p q same is_s is_t = (refl, same)
  same_front [] (f ∷ fs) x y s t p q same is_s is_t = absurd (goes_on f (lines fs ++ y) x s q.each.0 q.no_end.0 (same ∙ more f fs y) is_s)
  same_front (e ∷ es) [] x y s t p q same is_s is_t = absurd (goes_on e (lines es ++ x) y t p.each.0 p.no_end.0 (sym same ∙ more e es x) is_t)
  same_front (e ∷ es) (f ∷ fs) x y s t p q same is_s is_t =
      let first = line_front e f (lines es ++ x) (lines fs ++ y) p.each.0 q.each.0 (sym (more e es x) ∙ same ∙ more f fs y) in
      let rest = same_front es fs x y s t (record { each = p.each.1; no_end = p.no_end.1 }) (record { each = q.each.1; no_end = q.no_end.1 }) first.1 is_s is_t in
      (rw (first.0, rest.0) refl, rest.1)

  one_read : (text : List ℕ) (a b : Answer) → Reads format text a → Reads format text b → a ≡ b
  one_read text a b (NoLine none is) (NoLine none' is') = is ∙ sym is'
  one_read text a b (NoLine none is) (Other parts found differ is') = absurd (none-some parts (sym none ∙ found))
  one_read text a b (NoLine none is) (Entries fs y t found q is_t is') = absurd (none-some (format.header, lines fs ++ y) (sym none ∙ found))
  one_read text a b (Other parts found differ is) (NoLine none is') = absurd (none-some parts (sym none ∙ found))
  one_read text a b (Other parts found differ is) (Other parts' found' differ' is') = is ∙ sym is'
  one_read text a b (Other parts found differ is) (Entries fs y t found' q is_t is') = absurd (differ (ap (λ p. p.0) (same_Some parts (format.header, lines fs ++ y) (sym found ∙ found'))))
  one_read text a b (Entries es x s found p is_s is) (NoLine none is') = absurd (none-some (format.header, lines es ++ x) (sym none ∙ found))
  one_read text a b (Entries es x s found p is_s is) (Other parts found' differ is') = absurd (differ (ap (λ p. p.0) (same_Some parts (format.header, lines es ++ x) (sym found' ∙ found))))
  one_read text a b (Entries es x s found p is_s is) (Entries fs y t found' q is_t is') =
      let same : lines es ++ x ≡ lines fs ++ y = ap (λ r. r.1) (same_Some (format.header, lines es ++ x) (format.header, lines fs ++ y) (sym found ∙ found')) in
      let front = same_front es fs x y s t p q same is_s is_t in
      let stop : s ≡ t = same_stop y s t (subst (λ l. StopsAs format l s) front.1 is_s) is_t in
      is ∙ ap (λ l. answer l s) front.0 ∙ ap (answer fs) stop ∙ sym is'

-- ---- each thing said of a text is how it is read

begun : (format : Format) (es : List Entry) (text rest : List ℕ) → Lacks 10 format.header → Begins format es text rest → cut 10 text ≡ Some (format.header, lines es ++ rest)
begun format es text rest header h = ap (cut 10) h.spelled ∙ cut_again 10 format.header (lines es ++ rest) header

ends : (format : Format) (e : Entry) (x : List ℕ) → IsEntry format.allows e → is_end e ≡ true → StopsAs format (line e ++ 10 ∷ x) (Ended e x)
ends format e x is last = (cut_again 10 (line e) x (lacks_line format.allows e is), is, last)

read_journal : (format : Format) (text : List ℕ) (entries : List Entry) → Lacks 10 format.header → Journal format entries text → Reads format text (Ok entries)
read_journal format text entries header h =
    let last = End h.standing h.by in
    Entries h.before (line last ++ 10 ∷ []) (Ended last []) (begun format h.before text (line last ++ 10 ∷ []) header h.begins) (record { each = h.begins.each; no_end = h.begins.no_end })
    (ends format last [] h.end refl) (ap Ok h.all)

regroup : (a b c d : List ℕ) → (a ++ 10 ∷ (b ++ (c ++ 10 ∷ []))) ++ d ≡ a ++ 10 ∷ (b ++ (c ++ 10 ∷ d))
regroup a b c d = simp append_assoc

read_behind : (format : Format) (text journal rest : List ℕ) (entries : List Entry) → Lacks 10 format.header → Journal format entries journal → rest ≢ [] → text ≡ journal ++ rest
    → Reads format text (Err (LineFault (length entries + 2)))
read_behind format text journal [] entries header h some is = absurd (some refl)
read_behind format text journal (b ∷ bs) entries header h some is =
    let last = End h.standing h.by in
    let spelled : text ≡ format.header ++ 10 ∷ (lines h.before ++ (line last ++ 10 ∷ (b ∷ bs))) =
    is ∙ ap (λ j. j ++ (b ∷ bs)) h.begins.spelled ∙ regroup format.header (lines h.before) (line last) (b ∷ bs) in
    Entries h.before (line last ++ 10 ∷ (b ∷ bs)) (Ended last (b ∷ bs)) (ap (cut 10) spelled ∙ cut_again 10 format.header _ header)
    (record { each = h.begins.each; no_end = h.begins.no_end }) (ends format last (b ∷ bs) h.end refl)
    (ap (λ n. Err (LineFault n)) (omega (arith, ap length h.all, length-append h.before (last ∷ []))))

read_misspelled : (format : Format) (text : List ℕ) (n : ℕ) → Lacks 10 format.header → Misspelled format text n → Reads format text (Err (LineFault n))
read_misspelled format text n header (Header first rest is lacks differ) = Other (first, rest) (ap (cut 10) is ∙ cut_again 10 first rest lacks) differ refl
read_misspelled format text n header (Line entries next rest h lacks none) =
    Entries entries (next ++ 10 ∷ rest) Wrong (begun format entries text (next ++ 10 ∷ rest) header h) (record { each = h.each; no_end = h.no_end }) ((next, rest), cut_again 10 next rest lacks, none) refl
read_misspelled format text n header (Behind entries journal rest h some is) = read_behind format text journal rest entries header h some is

read_unended : (format : Format) (text : List ℕ) → Lacks 10 format.header → Unended format text → Reads format text (Err NoEnd)
read_unended format text header (Empty lacks) = NoLine (cut_none 10 text lacks) refl
read_unended format text header (Open entries rest h lacks) =
    Entries entries rest Cut (begun format entries text rest header h) (record { each = h.each; no_end = h.no_end }) (cut_none 10 rest lacks) refl

reads : (format : Format) (text : List ℕ) (a : Answer) → Lacks 10 format.header → Answers format text a → Reads format text a
reads format text (Ok entries) header h = read_journal format text entries header h
reads format text (Err (LineFault n)) header h = read_misspelled format text n header h
reads format text (Err NoEnd) header h = read_unended format text header h
reads format text (Err Memory) header h = absurd h

pub one_answer : (format : Format) (text : List ℕ) (a b : Answer) → Lacks 10 format.header → AllowsNoEmpty format → Answers format text a → Answers format text b → a ≡ b
one_answer format text a b header some p q = one_read format some text a b (reads format text a header p) (reads format text b header q)

-- what the law asks holds of both versions
pub one_line : (v : Version) → Lacks 10 (format_of v).header
one_line One = lacks_by_test 10 version_1.header refl
one_line Two = lacks_by_test 10 version_2.header refl

pub no_empty : (v : Version) → AllowsNoEmpty (format_of v)
no_empty One request allowed = allowed.0
no_empty Two request allowed = allowed.0
