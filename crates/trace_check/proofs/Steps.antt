-- Steps of the code that rewrites a journal.
use Rattle.std.proofs.Common.{◌≡◌, ◌≢◌, ℕ, ◌+◌, ◌≤◌, true, false, ◌⊎◌, inl, inr, List, [], ◌∷◌, ◌++◌, length, slice_index, Option, Some, None, Result, Ok, Err, IsErrOf, MatchOption, refl, sym, ◌∙◌, ap, subst, arith, append_assoc, append-nil, length-append}
use Rattle.std.specs.List.{AllByRecursion}
use Rattle.std.proofs.lemmas.Option.{some_pair_parts}
use Rattle.effect_journal.specs.declared.entry.Entry.{Entry}
use Rattle.effect_journal.specs.declared.entry.Entry.TheVariants.{Run, Serve, Make, End}
use Rattle.effect_journal.specs.declared.read.JournalFault.{JournalFault}
use Rattle.effect_journal.specs.declared.read.JournalFault.TheVariants.{Line as LineFault, NoEnd, Memory}
use Rattle.effect_journal.specs.Journal.{IsUpTo, version_1, version_2, line, lines, IsEntry, is_end, Begins, Journal, Answers, Lacks, Misspelled, Open}
use Rattle.effect_journal.specs.Reading.{cut}
use Rattle.effect_journal.proofs.WordLaws.{cut_again}
use Rattle.effect_journal.proofs.LineLaws.{lacks_by_test, entry_weaker, one_entry}
use Rattle.effect_journal.proofs.ReadLaws.{IsNext, shorter, goes_on, no_entry, ends, goes_behind, up_to, all_more, lines_more}
use Rattle.global_ptr.specs.declared.values.Value.{Value}
use Rattle.marshal.specs.Spellings.{BeginsWith, Puts}
use Rattle.rsr_message.specs.declared.faults.MessageFault.{MessageFault}
use Rattle.rsr_message.specs.declared.faults.MessageFault.TheVariants as fault
use Rattle.rsr_message.specs.declared.requests.Request.{Request}
use Rattle.rsr_message.specs.declared.requests.Body.{Body}
use Rattle.rsr_message.specs.declared.requests.Body.TheVariants as body
use Rattle.rsr_message.specs.declared.versions.Version.{Version}
use Rattle.rsr_message.specs.declared.versions.Version.TheVariants.{One, Two}
use Rattle.rsr_message.specs.Requests.{format_of, Spells, SpellsEither, IsAllowed, IsAllowedList}
use Rattle.rsr_message.specs.Requests as message
use Rattle.rsr_message.specs.Refusals.{HasList}
use Rattle.rsr_message.proofs.MessageLengths.{length_1, length_2}
use Rattle.rsr_message.proofs.SpellingLaws.{spelled_allowed}
use Rattle.trace_check.specs.Migration.{IsMessage1, messages_1, SameRequest, SameEntry, SameEntries, IsOfVersion1, Rewritten, Migrates, First, Other, LineMigrates}
use Rattle.trace_check.proofs.MessageBytes.{message_bytes, message_some}

-- ---- the first line

pub other_version : (text first rest : List ℕ) → (text ≡ first ++ 10 ∷ rest) × Lacks 10 first → first ≢ version_1.header → IsOfVersion1 text → ⊥
other_version text first rest cuts differ of_1 =
    let here = ap (cut 10) cuts.0 ∙ cut_again 10 first rest cuts.1 in
    let there = ap (cut 10) of_1.1 ∙ cut_again 10 version_1.header of_1.0 (lacks_by_test 10 version_1.header refl) in
    differ (some_pair_parts first version_1.header rest of_1.0 (sym here ∙ there)).0

-- ---- one message

abbrev pub Decided : List ℕ → Result (Request × ℕ) MessageFault → Type 0
Decided bytes answer = (r : Request) (n : ℕ) → BeginsWith (SpellsEither r) bytes n → (answer ≡ Ok (r, n)) ⊎ (IsErrOf answer fault.Memory × HasList r.body)

whole : (r : Request) (bytes : List ℕ) → SpellsEither r bytes → BeginsWith (SpellsEither r) bytes (length bytes)
whole r bytes s = record { spelling = bytes; rest = []; spelled = s; long = refl; whole = sym (append-nil bytes) }

pub other_length : (bytes : List ℕ) (answer : Result (Request × ℕ) MessageFault) (found : Request) (len : ℕ) → answer ≡ Ok (found, len) → len ≢ length bytes → Decided bytes answer → (r : Request) → SpellsEither r bytes → ⊥
other_length bytes answer found len is differ decided r s =
    elim (decided r (length bytes) (whole r bytes s)) [
      | inl e ↦ (let same : ◌≡◌ {A = Request × ℕ} (found, len) (r, length bytes) = ok_parts (sym is ∙ e) in differ (ap (λ (p : Request × ℕ). p.1) same))
      | inr e ↦ not_ok (sym is ∙ e.0)
    ]
  where
    ok_parts : {A E : Type 0} {x y : A} → ◌≡◌ {A = Result A E} (Ok x) (Ok y) → x ≡ y
    ok_parts e = cc

    not_ok : {A E : Type 0} {x : A} {y : E} → ◌≡◌ {A = Result A E} (Ok x) (Err y) → ⊥
    not_ok e = cc

pub refused : (bytes : List ℕ) (answer : Result (Request × ℕ) MessageFault) (other : MessageFault) → answer ≡ Err other → other ≢ fault.Memory → Decided bytes answer → (r : Request) → SpellsEither r bytes → ⊥
refused bytes answer other is differ decided r s =
    elim (decided r (length bytes) (whole r bytes s)) [
      | inl e ↦ not_ok (sym e ∙ is)
      | inr e ↦ differ (err_parts (sym is ∙ e.0))
    ]
  where
    err_parts : {A E : Type 0} {x y : E} → ◌≡◌ {A = Result A E} (Err x) (Err y) → x ≡ y
    err_parts e = cc

    not_ok : {A E : Type 0} {x : A} {y : E} → ◌≡◌ {A = Result A E} (Ok x) (Err y) → ⊥
    not_ok e = cc

-- the second byte of a message
pub second_byte : (v : Version) (r : Request) (bytes : List ℕ) → Spells (format_of v) r bytes → slice_index bytes 1 ≡ (format_of v).version
second_byte v r bytes s =
    let head = message_bytes_at s.first s.second.first s.whole s.second.whole in
    ap (λ l. slice_index l 1) head
  where
    message_bytes_at : {a b l m n : List ℕ} {x y : ℕ} → a ≡ x ∷ [] → b ≡ y ∷ [] → l ≡ a ++ m → m ≡ b ++ n → l ≡ x ∷ y ∷ n
    message_bytes_at a b l m = cc

pub is_version_1 : (r : Request) (bytes : List ℕ) → slice_index bytes 1 ≡ 1 → SpellsEither r bytes → Spells message.version_1 r bytes
is_version_1 r bytes is s = by s.version s.spelled
  where
    by : (v : Version) → Spells (format_of v) r bytes → Spells message.version_1 r bytes
    by One spelled = spelled
    by Two spelled = let second = second_byte Two r bytes spelled in absurd (omega arith)

-- a request of version 1 has bytes of version 2
more_list : (values : List Value) → IsAllowedList message.version_1 values → IsAllowedList message.version_2 values
more_list values a = let few = a.few in record { few = omega arith; some = a.some }

allowed_more : (b : Body) → IsAllowed message.version_1 b → IsAllowed message.version_2 b
allowed_more (body.Call object handler args) a = more_list args a
allowed_more (body.Get spot) a = a
allowed_more (body.Put spot value) a = a
allowed_more (body.Make class args) a = more_list args a
allowed_more (body.Reply value) a = a
allowed_more (body.Cast object handler args) a = more_list args a

pub has_bytes : (r : Request) (bytes : List ℕ) → Spells message.version_1 r bytes → IsAllowed message.version_2 r.body
has_bytes r bytes s = allowed_more r.body (spelled_allowed message.version_1 r bytes s)

pub same_of : (r : Request) (bytes empty new : List ℕ) → empty ≡ [] → Spells message.version_1 r bytes → Puts (Spells message.version_2 r) empty new → SameRequest bytes new
same_of r bytes empty new none s put =
    record { request = r; first = s; second = subst (Spells message.version_2 r) (sym (put.whole ∙ ap (λ l. l ++ put.spelling) none)) put.spelled }

-- ---- one entry

size_1 : (bytes : List ℕ) → IsMessage1 bytes → IsUpTo 126 bytes
size_1 bytes m = (message_some message.version_1 m.0 bytes m.1, length_1 m.0 bytes m.1)

size_2 : (old new : List ℕ) → SameRequest old new → IsUpTo 53271 new
size_2 old new s = (message_some message.version_2 s.request new s.second, length_2 s.request new s.second)

pub of_version_1 : (e : Entry) → IsEntry messages_1.allows e → IsEntry version_1.allows e
of_version_1 e is = entry_weaker IsMessage1 (IsUpTo 126) size_1 e is

abbrev pub Rewriting : Entry → Entry → Type 0
Rewriting e new = IsEntry messages_1.allows e × SameEntry e new × IsEntry version_2.allows new

pub serve_rewritten : (e : Entry) (p : ℕ) (old read new : List ℕ) → e ≡ Serve p old → read ≡ old → IsEntry version_1.allows e → SameRequest read new → Rewriting e (Serve p new)
serve_rewritten e p old read new is is_read h s = subst (λ f. Rewriting f (Serve p new)) (sym is) (by (subst (IsEntry version_1.allows) is h) (subst (λ l. SameRequest l new) is_read s))
  where
    by : IsEntry version_1.allows (Serve p old) → SameRequest old new → Rewriting (Serve p old) (Serve p new)
    by entry same = (
      record { has_line = (same.request, same.first); fits = entry.fits },
      (refl, same),
      record { has_line = size_2 old new same; fits = (entry.fits.0, message_bytes Two same.request new same.second) },
    )

pub make_rewritten : (e : Entry) (old read new : List ℕ) → e ≡ Make old → read ≡ old → IsEntry version_1.allows e → SameRequest read new → Rewriting e (Make new)
make_rewritten e old read new is is_read h s = subst (λ f. Rewriting f (Make new)) (sym is) (by (subst (IsEntry version_1.allows) is h) (subst (λ l. SameRequest l new) is_read s))
  where
    by : IsEntry version_1.allows (Make old) → SameRequest old new → Rewriting (Make old) (Make new)
    by entry same = (
      record { has_line = (same.request, same.first); fits = entry.fits },
      same,
      record { has_line = size_2 old new same; fits = message_bytes Two same.request new same.second },
    )

abbrev IsMigrated : List ℕ → Option Entry → Type 0
IsMigrated text found = MatchOption found ((e : Entry) → IsEntry messages_1.allows e → text ≢ line e) (LineMigrates text)

pub line_migrates : (text : List ℕ) (old : Entry) (found : Option Entry) → text ≡ line old → IsEntry version_1.allows old → MatchOption found (IsEntry messages_1.allows old → ⊥) (Rewriting old) → IsMigrated text found
line_migrates text old None is entry none = λ e of same.
    let one : e ≡ old = one_entry version_1.allows (λ request allowed. allowed.0) e old (of_version_1 e of) entry (sym same ∙ is) in
    none (subst (IsEntry messages_1.allows) one of)
line_migrates text old (Some new) is entry found = record { old = old; spelled = is; entry = found.0; same = found.1; allowed = found.2 }

-- ---- line by line

pub record MigratedSoFar (behind_header rest new : List ℕ) (n : ℕ) : Type 0 where
  pub old : List Entry
  pub entries : List Entry
  pub begins : Begins messages_1 old (version_1.header ++ 10 ∷ behind_header) rest
  pub same : SameEntries old entries
  pub each : AllByRecursion (IsEntry version_2.allows) entries
  pub no_end : AllByRecursion (λ e. is_end e ≡ false) entries
  pub written : new ≡ version_2.header ++ 10 ∷ lines entries
  pub counted : n ≡ length old + 1
  pub within : n + length rest ≤ length behind_header + 1

pub migrated_begun : (behind_header empty new : List ℕ) → empty ≡ [] → new ≡ empty ++ version_2.header ++ 10 ∷ [] → MigratedSoFar behind_header behind_header new 1
migrated_begun behind_header empty new none put = record {
  old = [];
  entries = [];
  begins = record { spelled = refl; each = tt; no_end = tt };
  same = tt;
  each = tt;
  no_end = tt;
  written = put ∙ ap (λ l. l ++ version_2.header ++ 10 ∷ []) none;
  counted = refl;
  within = omega arith;
}

same_end : (e f : Entry) → SameEntry e f → is_end f ≡ is_end e
same_end (Run p t k) f s = ap is_end s
same_end (Serve p old) (Serve q new) s = refl
same_end (Serve p old) f s = absurd s
same_end (Make old) (Make new) s = refl
same_end (Make old) f s = absurd s
same_end (End standing by) f s = ap is_end s

same_more : (es fs : List Entry) (e f : Entry) → SameEntries es fs → SameEntry e f → SameEntries (es ++ e ∷ []) (fs ++ f ∷ [])
same_more [] [] e f all one = (one, tt)
same_more [] (g ∷ fs) e f all one = absurd all
same_more (g ∷ es) [] e f all one = absurd all
same_more (g ∷ es) (h ∷ fs) e f all one = (all.0, same_more es fs e f all.1 one)

module _ (behind_header rest next behind new : List ℕ) (n : ℕ) (so_far : MigratedSoFar behind_header rest new n) (cuts : IsNext rest next behind) where
  pub room : n + 1 + length behind ≤ length behind_header + 1
  room = let within = so_far.within in let less = shorter rest next behind cuts in omega arith

  pub no_line_1 : ((e : Entry) → IsEntry messages_1.allows e → next ≢ line e) → Rewritten (version_1.header ++ 10 ∷ behind_header) (Err (LineFault (n + 1)))
  no_line_1 none =
      let at = no_entry messages_1 so_far.old (version_1.header ++ 10 ∷ behind_header) rest next behind so_far.begins cuts none in
      let place : length so_far.old + 2 ≡ n + 1 = (let counted = so_far.counted in omega arith) in
      record { found = Err (LineFault (n + 1)); answers = subst (Misspelled messages_1 (version_1.header ++ 10 ∷ behind_header)) place at; rewrites = refl }

  module _ (out : List ℕ) (f : Entry) (m : LineMigrates next f) (put : out ≡ new ++ line f ++ 10 ∷ []) where
    grown : out ≡ version_2.header ++ 10 ∷ (lines so_far.entries ++ (line f ++ 10 ∷ []))
    grown = put ∙ append_assoc new (line f) (10 ∷ []) ∙ ap (λ l. l ++ (line f ++ 10 ∷ [])) so_far.written

    last : is_end f ≡ true → is_end m.old ≡ true
    last e = sym (same_end m.old f m.same) ∙ e

    pub migrated_more : is_end f ≡ false → MigratedSoFar behind_header behind out (n + 1)
    migrated_more before = record {
      old = so_far.old ++ m.old ∷ [];
      entries = so_far.entries ++ f ∷ [];
      begins = goes_on messages_1 so_far.old (version_1.header ++ 10 ∷ behind_header) rest next behind m.old so_far.begins cuts m.spelled m.entry (sym (same_end m.old f m.same) ∙ before);
      same = same_more so_far.old so_far.entries m.old f so_far.same m.same;
      each = all_more (IsEntry version_2.allows) so_far.entries f so_far.each m.allowed;
      no_end = all_more (λ e. is_end e ≡ false) so_far.entries f so_far.no_end before;
      written = grown ∙ ap (λ l. version_2.header ++ 10 ∷ l) (lines_more so_far.entries f [] ∙ append-nil (lines (so_far.entries ++ f ∷ [])));
      counted = (let counted = so_far.counted in let parts = length-append so_far.old (m.old ∷ []) in omega arith);
      within = room;
    }

    pub migrated_all : is_end f ≡ true → behind ≡ [] → Rewritten (version_1.header ++ 10 ∷ behind_header) (Ok out)
    migrated_all is_last none =
        let journal = ends messages_1 so_far.old (version_1.header ++ 10 ∷ behind_header) rest next behind m.old so_far.begins cuts m.spelled m.entry (last is_last) none in
        record {
          found = Ok (so_far.old ++ m.old ∷ []);
          answers = journal;
          rewrites = (
            so_far.entries ++ f ∷ [],
            out,
            same_more so_far.old so_far.entries m.old f so_far.same m.same,
            subst (Journal version_2 (so_far.entries ++ f ∷ [])) (sym grown) (up_to version_2 so_far.entries f so_far.each so_far.no_end m.allowed is_last),
            refl,
          );
        }

    pub more_behind : is_end f ≡ true → behind ≢ [] → Rewritten (version_1.header ++ 10 ∷ behind_header) (Err (LineFault (n + 1 + 1)))
    more_behind is_last some =
        let at = goes_behind messages_1 so_far.old (version_1.header ++ 10 ∷ behind_header) rest next behind m.old so_far.begins cuts m.spelled m.entry (last is_last) some in
        let place : length so_far.old + 3 ≡ n + 1 + 1 = (let counted = so_far.counted in omega arith) in
        record { found = Err (LineFault (n + 1 + 1)); answers = subst (Misspelled messages_1 (version_1.header ++ 10 ∷ behind_header)) place at; rewrites = refl }

pub no_end_line : (behind_header rest new : List ℕ) (n : ℕ) → MigratedSoFar behind_header rest new n → Lacks 10 rest → Rewritten (version_1.header ++ 10 ∷ behind_header) (Err NoEnd)
no_end_line behind_header rest new n so_far lacks = record { found = Err NoEnd; answers = Open so_far.old rest so_far.begins lacks; rewrites = refl }

-- ---- the whole text

pub rewritten_answer : (text behind_header : List ℕ) (answer : Result (List ℕ) JournalFault) → text ≡ version_1.header ++ 10 ∷ behind_header → (answer ≡ Err Memory) ⊎ Rewritten (version_1.header ++ 10 ∷ behind_header) answer → (answer ≡ Err Memory) ⊎ Migrates text answer
rewritten_answer text behind_header answer is found =
    elim found [
      | inl memory ↦ inl memory
      | inr r ↦ inr (First (behind_header, is) r.found (subst (λ l. Answers messages_1 l r.found) (sym is) r.answers) r.rewrites)
    ]

pub kept_fault : (text : List ℕ) (wrong : JournalFault) → (IsOfVersion1 text → ⊥) → (◌≡◌ {A = Result (List Entry) JournalFault} (Err wrong) (Err Memory)) ⊎ Answers version_2 text (Err wrong)
    → (◌≡◌ {A = Result (List ℕ) JournalFault} (Err wrong) (Err Memory)) ⊎ Migrates text (Err wrong)
kept_fault text wrong other found =
    elim found [
      | inl memory ↦ inl (ap Err (err_parts memory))
      | inr answers ↦ inr (Other other (Err wrong) answers refl)
    ]
  where
    err_parts : {A E : Type 0} {x y : E} → ◌≡◌ {A = Result A E} (Err x) (Err y) → x ≡ y
    err_parts e = cc

pub kept_text : (text copy : List ℕ) (es : List Entry) → (IsOfVersion1 text → ⊥) → (◌≡◌ {A = Result (List Entry) JournalFault} (Ok es) (Err Memory)) ⊎ Answers version_2 text (Ok es) → copy ≡ text
    → (◌≡◌ {A = Result (List ℕ) JournalFault} (Ok copy) (Err Memory)) ⊎ Migrates text (Ok copy)
kept_text text copy es other found is =
    elim found [
      | inl memory ↦ absurd (not_ok memory)
      | inr answers ↦ inr (Other other (Ok es) answers (ap Ok is))
    ]
  where
    not_ok : {A E : Type 0} {x : A} {y : E} → ◌≡◌ {A = Result A E} (Ok x) (Err y) → ⊥
    not_ok e = cc
