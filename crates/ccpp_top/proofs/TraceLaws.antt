-- What is said of a program and of a journal.
use Rattle.std.proofs.Common.{◌≡◌, ◌≢◌, ◌⊎◌, ⊎_elim, inl, inr, ℕ, ℤ, ◌≤◌, ◌<◌, List, ◌++◌, length, Some, None, refl, sym, ap, ◌∙◌, subst, arith}
use Rattle.std.specs.Prelude.{Option, Result, Ok, Err, codes, decimal}
use Rattle.ccpp_edge.specs.Count.{Rose}
use Rattle.ccpp_edge.specs.Shelf.{Files, Holds, HoldsIfTold, Lacks}
use Rattle.cc_core.specs.Report.{line}
use Rattle.cc_shared.specs.OneAnswer.{core_of}
use Rattle.cc_tree.specs.declared.declarations.Program.{Program}
use Rattle.cc_types.specs.Program.{main_params}
use Rattle.effect_journal.specs.declared.entry.Entry.{Entry}
use Rattle.effect_journal.specs.declared.read.JournalFault.{JournalFault}
use Rattle.effect_journal.specs.declared.read.JournalFault.TheVariants as journal
use Rattle.effect_journal.specs.Journal as journals
use Rattle.effect_journal.specs.Journal.{Journal, version_2}
use Rattle.trace_check.specs.declared.verdict.Verdict.{Verdict}
use Rattle.trace_check.specs.Verdicts.{IsVerdict}
use Rattle.ccpp_top.specs.declared.answer.Answer.{Answer}
use Rattle.ccpp_top.specs.declared.status.Status.{Status}
use Rattle.ccpp_top.specs.declared.status.Status.TheVariants.{ReadFault, No, NoFile, IntCount}
use Rattle.ccpp_top.specs.Checks.{OnSource, refused, said}
use Rattle.ccpp_top.specs.Traces.{verdict_text, verdict_status, Verdicts, judged, no_line, no_end, Unread, missing, failed, TracesProgram, int_count, no_journal, traced}
use Rattle.ccpp_top.specs.Traces.{Traces, no_program, on_source, TracesOn, other_count, found, TraceAnswers}

-- a count that rose since later rose since earlier
pub rose_since : (before mid after : ℕ) → before ≤ mid → Rose mid after → Rose before after
rose_since before mid after less rose = ⊎_elim (λ (h : mid < after). inl (omega (arith, less, h))) (λ h. inr h) rose

pub lacks_since : (held : Option Files) (name : List ℕ) (before mid after : ℕ) → before ≤ mid → Lacks held name ⊎ Rose mid after → Lacks held name ⊎ Rose before after
lacks_since held name before mid after less cause =
    ⊎_elim (λ (lacks : Lacks held name). inl lacks) (λ (rose : Rose mid after). inr (rose_since before mid after less rose)) cause

-- ---- of the bytes of a journal

-- what is answered of them, unless memory runs out
pub reads : (bytes : List ℕ) (answer : Result (List Entry) JournalFault) → (answer ≡ Err journal.Memory) ⊎ journals.Answers version_2 bytes answer
    → (it : Result (List Entry) JournalFault) → answer ≡ it → it ≢ Err journal.Memory → journals.Answers version_2 bytes it
reads bytes answer either it is other =
    ⊎_elim (λ (memory : answer ≡ Err journal.Memory). absurd (other (sym is ∙ memory))) (λ (so : journals.Answers version_2 bytes answer). subst (journals.Answers version_2 bytes) is so) either

pub was_judged : (ints : List ℤ) (program : Program) (bytes : List ℕ) (entries : List Entry) (verdict : Verdict) → Journal version_2 entries bytes
    → IsVerdict (core_of program) ints entries verdict → (a : Answer) → a ≡ record { text = line (verdict_text verdict); status = verdict_status verdict }
    → Verdicts ints program bytes a.text a.status
was_judged ints program bytes entries verdict is holds a e = rw e (judged entries verdict is holds)

pub was_no_line : (ints : List ℤ) (program : Program) (bytes : List ℕ) (at : ℕ) (text : List ℕ) → journals.Answers version_2 bytes (Err (journal.Line at))
    → text ≡ codes "no line " ++ decimal at → (a : Answer) → a ≡ record { text = line text; status = No } → Verdicts ints program bytes a.text a.status
was_no_line ints program bytes at text refuses is a e = rw e (subst (λ t. Verdicts ints program bytes (line t) No) (sym is) (no_line at refuses))

pub was_no_end : (ints : List ℤ) (program : Program) (bytes : List ℕ) → journals.Answers version_2 bytes (Err journal.NoEnd)
    → (a : Answer) → a ≡ record { text = line (codes "no end"); status = No } → Verdicts ints program bytes a.text a.status
was_no_end ints program bytes refuses a e = rw e (no_end refuses)

-- ---- of files

module _ (held : Option Files) (before after : ℕ) where
  pub was_missing : (name text : List ℕ) → Lacks held name ⊎ Rose before after → text ≡ codes "no file " ++ name
      → (a : Answer) → a ≡ record { text = line text; status = NoFile } → Unread held before after name a.text a.status
  was_missing name text cause is a e = rw e (subst (λ t. Unread held before after name (line t) NoFile) (sym is) (missing cause))

  pub was_unread : (name : List ℕ) → Rose before after → (a : Answer) → a ≡ record { text = line (codes "read fault"); status = ReadFault }
      → Unread held before after name a.text a.status
  was_unread name rose a e = rw e (failed rose)

  pub was_other_count : (name : List ℕ) (ints : List ℤ) (program : Program) (takes got : ℕ) (text : List ℕ) → takes ≡ main_params program.items → got ≡ length ints
      → takes ≢ got → text ≡ codes "main takes " ++ (decimal takes ++ (codes ", got " ++ decimal got)) → (a : Answer) → a ≡ record { text = line text; status = IntCount }
      → TracesProgram held before after name ints program a.text a.status
  was_other_count name ints program takes got text params count differ is a e =
      let other : main_params program.items ≢ length ints = λ same. differ (params ∙ (same ∙ sym count)) in
      rw e (subst (λ t. TracesProgram held before after name ints program (line t) IntCount) (sym (is ∙ ap (λ n. codes "main takes " ++ (decimal n ++ (codes ", got " ++ decimal got))) params ∙ ap (λ n. codes "main takes " ++ (decimal (main_params program.items) ++ (codes ", got " ++ decimal n))) count)) (int_count other))

module _ (held : Option Files) (before after : ℕ) where
  pub was_no_journal : {Is : Answer → Type 0} (name : List ℕ) (ints : List ℤ) (program : Program) → main_params program.items ≡ length ints
      → ((a : Answer) → Is a → Unread held before after name a.text a.status) → (a : Answer) → Is a → TracesProgram held before after name ints program a.text a.status
  was_no_journal name ints program takes unread a is = no_journal takes (unread a is)

  pub was_traced : (name : List ℕ) (ints : List ℤ) (program : Program) (bytes : List ℕ) → main_params program.items ≡ length ints → HoldsIfTold held name bytes
      → (a : Answer) → Verdicts ints program bytes a.text a.status → TracesProgram held before after name ints program a.text a.status
  was_traced name ints program bytes takes holds a says = traced bytes takes holds says

  pub was_no_program : {Is : Answer → Type 0} (file name : List ℕ) (ints : List ℤ)
      → ((a : Answer) → Is a → Unread held before after file a.text a.status) → (a : Answer) → Is a → Traces held before after file name ints a.text a.status
  was_no_program file name ints unread a is = no_program (unread a is)

pub was_on_source : (held mid : Option Files) (before after : ℕ) (file name : List ℕ) (ints : List ℤ) (source : List ℕ) → mid ≡ held → HoldsIfTold held file source
    → (a : Answer) → OnSource (TracesProgram mid before after name ints) source a.text a.status → Traces held before after file name ints a.text a.status
was_on_source held mid before after file name ints source same holds a says =
    on_source source holds (subst (λ h. OnSource (TracesProgram h before after name ints) source a.text a.status) same says)

-- ---- where the shelf tells what both files hold

one_file : (held : Option Files) (name a b : List ℕ) → Holds held name a → HoldsIfTold held name b → b ≡ a
one_file None name a b h g = absurd h
one_file (Some files) name a b h g = let f : Some b ≡ Some a = sym g ∙ h in cc f

not_lacking : (held : Option Files) (name a : List ℕ) → Holds held name a → Lacks held name → ⊥
not_lacking None name a h g = absurd h
not_lacking (Some files) name a h g = let f : None ≡ Some a = sym g ∙ h in cc f

module _ (held : Option Files) (before after : ℕ) (calm : Rose before after → ⊥) where
  is_read : (name bytes : List ℕ) → Holds held name bytes → (text : List ℕ) (end : Status) → Unread held before after name text end → ⊥
  is_read name bytes holds text end (missing cause) = ⊎_elim (λ (lacks : Lacks held name). not_lacking held name bytes holds lacks) (λ (rose : Rose before after). calm rose) cause
  is_read name bytes holds text end (failed rose) = calm rose

  module _ (file name source bytes : List ℕ) (ints : List ℤ) (first : Holds held file source) (second : Holds held name bytes) where
    on_program : (program : Program) (text : List ℕ) (end : Status) → TracesProgram held before after name ints program text end → TracesOn ints bytes program text end
    on_program program text end (int_count other) = other_count other
    on_program program text end (no_journal {text = t} {end = e} takes unread) = absurd (is_read name bytes second t e unread)
    on_program program text end (traced b {text = t} {end = e} takes holds says) = found takes (subst (λ x. Verdicts ints program x t e) (one_file held name bytes b second holds) says)

    on_bytes : (b text : List ℕ) (end : Status) → OnSource (TracesProgram held before after name ints) b text end → OnSource (TracesOn ints bytes) b text end
    on_bytes b text end (refused why for) = refused why for
    on_bytes b text end (said program {text = t} {end = e} is says) = said program is (on_program program t e says)

    pub traces_on : (text : List ℕ) (end : Status) → Traces held before after file name ints text end → TraceAnswers ints source bytes text end
    traces_on text end (no_program {text = t} {end = e} unread) = absurd (is_read file source first t e unread)
    traces_on text end (on_source b {text = t} {end = e} holds says) = subst (λ x. OnSource (TracesOn ints bytes) x t e) (one_file held file source b first holds) (on_bytes b t e says)
