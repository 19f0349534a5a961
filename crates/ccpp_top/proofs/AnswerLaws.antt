-- Which answers are given when.
use Rattle.std.proofs.Common.{◌≡◌, ◌≢◌, ℕ, ℤ, List, [], ◌++◌, ◌⊎◌, length, ⊎_elim, inl, inr, Some, None, subst, sym, ap, ◌∙◌, refl}
use Rattle.std.specs.Prelude.{Option, Result, Ok, Err, codes, decimal}
use Rattle.std.specs.List.{flat_map}
use Rattle.effect_journal.specs.declared.read.JournalFault.{JournalFault}
use Rattle.effect_journal.specs.declared.read.JournalFault.TheVariants as journal
use Rattle.trace_check.specs.Migration.{Migrates}
use Rattle.trace_check.proofs.MigrationLaws.{one_migration}
use Rattle.global_ptr.specs.declared.ends.Standing.{Standing}
use Rattle.global_ptr.specs.declared.ends.Standing.TheVariants as standing
use Rattle.rsr_message.specs.declared.faults.MessageFault.{MessageFault}
use Rattle.rsr_message.specs.declared.listing.Listing.{Listing}
use Rattle.rsr_message.specs.Lines.{line_of, fault_name}
use Rattle.rsr_message.specs.Listings.{Lists, FirstFault}
use Rattle.rsr_message.specs.Streams.{IsStream}
use Rattle.cc_code.specs.Code.{Code as Instructions}
use Rattle.cc_code.specs.Layout.{layout}
use Rattle.cc_core.specs.declared.program.Program.{Program as CoreProgram}
use Rattle.cc_core.specs.View.{program_of}
use Rattle.cc_core.specs.Report.{report, line, sharing_text}
use Rattle.cc_core.specs.Steps.{RunsTo}
use Rattle.cc_engine.specs.Report.{shown}
use Rattle.cc_shared.specs.OneAnswer.{core_of}
use Rattle.cc_tree.specs.declared.declarations.Program.{Program}
use Rattle.cc_types.specs.Program.{core_program, main_params}
use Rattle.code_listing.specs.Listing.{listing_of}
use Rattle.sharing_check.specs.declared.answer.Sharing.{Sharing as Found}
use Rattle.sharing_check.specs.Sharing as rules
use Rattle.ccpp_edge.specs.Count.{Rose}
use Rattle.ccpp_edge.specs.Shelf.{Files, Holds, HoldsIfTold, Lacks}
use Rattle.ccpp_source.specs.declared.source.Refusal.{Refusal}
use Rattle.ccpp_source.specs.declared.source.Refusal.TheVariants.{Memory}
use Rattle.ccpp_source.specs.Source.{IsSource, IsRefusedFor, refusal_text}
use Rattle.ccpp_source.proofs.SourceLaws.{no_source}
use Rattle.ccpp_gen.specs.LoadSource.{load_source}
use Rattle.ccpp_words.specs.Words.{AskFor, AskToLoad, AskToTrace, IsWrongAt, file_of}
use Rattle.ccpp_words.specs.declared.command.Command.{Command}
use Rattle.ccpp_words.specs.declared.command.Command.TheVariants.{Run, Check, Share, Code, Message, Migrate}
use Rattle.ccpp_words.specs.declared.invocation.Invocation.TheVariants.{OnFile, Load, Trace}
use Rattle.ccpp_words.proofs.CommandLaws.{one_command}
use Rattle.ccpp_words.proofs.InvocationLaws.{loads_no_file, one_size, some_size, traces_no_file, traces_no_load, one_trace}
use Rattle.ccpp_top.specs.declared.answer.Answer.{Answer}
use Rattle.ccpp_top.specs.declared.status.Status.{Status}
use Rattle.ccpp_top.specs.declared.status.Status.TheVariants as status
use Rattle.ccpp_top.specs.declared.status.Status.TheVariants.{Done, SourceRefused, WordsRefused, ReadFault, No, NoFile, IntCount}
use Rattle.ccpp_top.specs.Checks.{OnSource, refused, said, SaysOk, ok, SaysSharing, sharing, SaysCode, listed as code_listed}
use Rattle.ccpp_top.specs.Status.{status_of}
use Rattle.ccpp_top.specs.Messages.{Messages, listed, none}
use Rattle.ccpp_top.specs.Migrations.{Migrations, IsJournal, migrated, no_line, no_end}
use Rattle.ccpp_top.specs.Answers.{Reports, int_count, reported, AnswersTo, RunEnds, Says, words_refused, answered, load_answered, trace_answered, no_file, read_fault, Cause}
use Rattle.ccpp_top.specs.Loads.{Loads, loaded, IsOfLoad}
use Rattle.ccpp_top.specs.Traces.{verdict_status, Verdicts, judged, Unread, TracesProgram, traced, Traces, no_program, on_source, TraceAnswers}
use Rattle.ccpp_top.specs.Traces as traces
use Rattle.trace_check.specs.declared.verdict.Verdict.{Verdict}
use Rattle.trace_check.specs.declared.verdict.Verdict.TheVariants as verdict
use Rattle.trace_check.specs.Verdicts.{IsVerdict}
use Rattle.cc_explains.specs.Explains.{Explains}
use Rattle.cc_explains.proofs.Failing.{explained_or_not}
use Rattle.effect_journal.specs.declared.entry.Entry.{Entry}
use Rattle.effect_journal.specs.declared.format.Version.TheVariants.{Two}
use Rattle.effect_journal.specs.Journal as journals
use Rattle.effect_journal.specs.Journal.{Journal, version_2}
use Rattle.effect_journal.proofs.JournalLaws.{one_answer, one_line as one_journal_line, no_empty}
use Rattle.ccpp_top.proofs.TraceLaws.{traces_on}
use Rattle.ccpp_top.proofs.LoadLaws.{takes_none}

-- of the bytes of a journal of version 2 one thing is answered
one_journal : (bytes : List ℕ) (a b : Result (List Entry) JournalFault) → journals.Answers version_2 bytes a → journals.Answers version_2 bytes b → a ≡ b
one_journal bytes a b = one_answer version_2 bytes a b (one_journal_line Two) (no_empty Two)

pub was_refused : (Says : Program → (text : List ℕ) → Status → Type 0) (source : List ℕ) (why : Refusal) → (why ≢ Memory → IsRefusedFor source why) → (a : Answer) → (why ≢ Memory) × (a ≡ record { text = line (refusal_text why); status = SourceRefused }) → OnSource Says source a.text a.status
was_refused Says source why for a is = rw is.1 (refused why (for is.0))

pub was_said : (Says : Program → (text : List ℕ) → Status → Type 0) (source : List ℕ) (program : Program) → IsSource source program → (a : Answer) → Says program a.text a.status → OnSource Says source a.text a.status
was_said Says source program is a says = said program is says

pub was_ok : (program : Program) (a : Answer) → a ≡ record { text = line (codes "ok"); status = Done } → SaysOk program a.text a.status
was_ok program a e = rw e ok

pub was_sharing : (program : Program) (found : Found) → found ≡ rules.sharing program → (a : Answer) → a ≡ record { text = line (sharing_text (shown found)); status = Done } → SaysSharing program a.text a.status
was_sharing program found is a e = rw (e, is) sharing

pub was_code : (program : Program) (core : CoreProgram) (code : Instructions) (start text : List ℕ) → core ≡ core_program program → code ≡ layout (program_of core) → start ≡ [] → text ≡ start ++ listing_of code → SaysCode program text Done
was_code program core code start text same lowered empty is =
    let all : code ≡ layout (program_of (core_program program)) = lowered ∙ ap (λ x. layout (program_of x)) same in
    let e : text ≡ listing_of (layout (program_of (core_program program))) = is ∙ (ap (λ s. s ++ listing_of code) empty ∙ ap listing_of all) in
    subst (λ t. SaysCode program t Done) (sym e) code_listed

pub was_run : (program : Program) (ints : List ℤ) (limit : ℕ) (output : List ℕ) (end : Standing) (found : Found) → main_params program.items ≡ length ints → RunsTo (core_of program) ints limit output end → found ≡ rules.sharing program → (a : Answer) → a ≡ record { text = report output end (shown found); status = status_of end } → Reports ints limit program a.text a.status
was_run program ints limit output end found takes runs is a e = rw (e, is) (reported takes runs)

pub was_int_count : (program : Program) (ints : List ℤ) (limit takes got : ℕ) (text : List ℕ) → takes ≡ main_params program.items → got ≡ length ints → takes ≢ got → text ≡ codes "main takes " ++ (decimal takes ++ (codes ", got " ++ decimal got)) → (a : Answer) → a ≡ record { text = line text; status = IntCount } → Reports ints limit program a.text a.status
was_int_count program ints limit takes got text params count differ is a e =
    let other : main_params program.items ≢ length ints = λ same. differ (params ∙ (same ∙ sym count)) in
    rw e (subst (λ t. Reports ints limit program (line t) IntCount) (sym (is ∙ ap (λ n. codes "main takes " ++ (decimal n ++ (codes ", got " ++ decimal got))) params ∙ ap (λ n. codes "main takes " ++ (decimal (main_params program.items) ++ (codes ", got " ++ decimal n))) count)) (int_count other))

pub was_listed : (bytes : List ℕ) (l : Listing) (text : List ℕ) → Lists bytes l → text ≡ l.lines ++ line (codes "== messages " ++ decimal l.messages) → Messages bytes text Done
was_listed bytes l text lists is =
    let lines = ap (λ t. t ++ line (codes "== messages " ++ decimal l.messages)) lists.lines in
    let number = ap (λ n. flat_map line_of lists.requests ++ line (codes "== messages " ++ decimal n)) lists.messages in
    subst (λ t. Messages bytes t Done) (sym (is ∙ lines ∙ number)) (listed lists.requests lists.spelled)

pub was_no_list : (bytes : List ℕ) (fault : MessageFault) (at : ℕ) (text : List ℕ) → (IsStream bytes → ⊥) → FirstFault bytes fault at → text ≡ codes "no " ++ (fault_name fault ++ (codes " at " ++ decimal at)) → (a : Answer) → a ≡ record { text = line text; status = No } → Messages bytes a.text a.status
was_no_list bytes fault at text no_list first is a e = rw e (subst (λ t. Messages bytes (line t) No) (sym is) (none fault at no_list first))

-- what is answered of bytes, unless memory runs out
pub migrates : (bytes : List ℕ) (answer : Result (List ℕ) JournalFault) → (answer ≡ Err journal.Memory) ⊎ Migrates bytes answer → (found : Result (List ℕ) JournalFault) → answer ≡ found → found ≢ Err journal.Memory → Migrates bytes found
migrates bytes answer either found is other = ⊎_elim (λ (memory : answer ≡ Err journal.Memory). absurd (other (sym is ∙ memory))) (λ (so : Migrates bytes answer). subst (Migrates bytes) is so) either

pub was_no_line : (bytes : List ℕ) (at : ℕ) (text : List ℕ) → Migrates bytes (Err (journal.Line at)) → text ≡ codes "no line " ++ decimal at → (a : Answer) → a ≡ record { text = line text; status = No } → Migrations bytes a.text a.status
was_no_line bytes at text refuses is a e = rw e (subst (λ t. Migrations bytes (line t) No) (sym is) (no_line at refuses))

pub was_no_end : (bytes : List ℕ) → Migrates bytes (Err journal.NoEnd) → (a : Answer) → a ≡ record { text = line (codes "no end"); status = No } → Migrations bytes a.text a.status
was_no_end bytes refuses a e = rw e (no_end refuses)

-- of no bytes both a journal and a fault is answered
no_journal : (bytes : List ℕ) (fault : JournalFault) → Migrates bytes (Err fault) → IsJournal bytes → ⊥
no_journal bytes fault refuses is = let e : Ok is.0 ≡ Err fault = one_migration bytes (Ok is.0) (Err fault) is.1 refuses in cc e

-- ---- what is said with the status 0

ok_done : (program : Program) (text : List ℕ) (end : Status) → SaysOk program text end → end ≡ Done
ok_done program text end ok = refl

sharing_done : (program : Program) (text : List ℕ) (end : Status) → SaysSharing program text end → end ≡ Done
sharing_done program text end sharing = refl

code_done : (program : Program) (text : List ℕ) (end : Status) → SaysCode program text end → end ≡ Done
code_done program text end code_listed = refl

module _ (words : List (List ℕ)) (held : Option Files) (before after : ℕ) where
  pub wrong_words : (place : ℕ) (text : List ℕ) → IsWrongAt words place → text ≡ codes "words refused at " ++ decimal place → (a : Answer) → a ≡ record { text = line text; status = WordsRefused } → Says words held before after a.text a.status
  wrong_words place text wrong is a e = rw e (subst (λ t. Says words held before after (line t) WordsRefused) (sym is) (words_refused wrong))

  -- of these two files and ints, which the words ask to trace
  pub was_trace : (file name : List ℕ) (ints : List ℤ) (first second : List ℕ) (others : List ℤ) → AskToTrace words file name ints
      → first ≡ file → second ≡ name → others ≡ ints → (a : Answer) → Traces held before after first second others a.text a.status → Says words held before after a.text a.status
  was_trace file name ints first second others asked is also same a says =
      trace_answered asked
      (subst (λ z. Traces held before after file name z a.text a.status) same
      (subst (λ z. Traces held before after file z others a.text a.status) also (subst (λ z. Traces held before after z second others a.text a.status) is says)))

  module _ (command : Command) (asked : AskFor words command) where
    pub missing : (name text : List ℕ) → name ≡ file_of command → Lacks held name ⊎ Rose before after → text ≡ codes "no file " ++ name → (a : Answer) → a ≡ record { text = line text; status = NoFile } → Says words held before after a.text a.status
    missing name text named cause is a e =
        rw e (subst (λ t. Says words held before after (line t) NoFile) (sym (is ∙ ap (λ n. codes "no file " ++ n) named)) (no_file command asked (subst (λ n. Lacks held n ⊎ Rose before after) named cause)))

    pub unread : Rose before after → (a : Answer) → a ≡ record { text = line (codes "read fault"); status = ReadFault } → Says words held before after a.text a.status
    unread rose a e = rw e (read_fault command asked rose)

    pub was_answered : (name bytes : List ℕ) → name ≡ file_of command → HoldsIfTold held name bytes → (a : Answer) → AnswersTo command bytes a.text a.status → Says words held before after a.text a.status
    was_answered name bytes named holds a says = answered command bytes asked (subst (λ n. HoldsIfTold held n bytes) named holds) says

  -- ---- the causes of statuses

  run_cause : (sink_before sink_after : ℕ) (file : List ℕ) (steps seed : ℕ) (ints : List ℤ) (source : List ℕ) → AskFor words (Run file steps seed ints) → HoldsIfTold held file source → (end : Standing) → RunEnds source ints steps (status_of end) → Cause words held before after sink_before sink_after (status_of end)
  run_cause sink_before sink_after file steps seed ints source asked holds (standing.Done v) ends = inl (Run file steps seed ints, source, asked, holds, ends)
  run_cause sink_before sink_after file steps seed ints source asked holds (standing.Blocked k) ends = inl (file, steps, seed, ints, source, asked, holds, ends)
  run_cause sink_before sink_after file steps seed ints source asked holds (standing.Fault fault) ends = inl (file, steps, seed, ints, source, asked, holds, ends)
  run_cause sink_before sink_after file steps seed ints source asked holds (standing.Limit n) ends = inl (file, steps, seed, ints, source, asked, holds, ends)

  report_cause : (sink_before sink_after : ℕ) (file : List ℕ) (steps seed : ℕ) (ints : List ℤ) (source : List ℕ) → AskFor words (Run file steps seed ints) → HoldsIfTold held file source → (program : Program) → IsSource source program → (text : List ℕ) (end : Status) → Reports ints steps program text end → Cause words held before after sink_before sink_after end
  report_cause sink_before sink_after file steps seed ints source asked holds program is text end (int_count other) = inl (file, steps, seed, ints, source, asked, holds, (program, is, other))
  report_cause sink_before sink_after file steps seed ints source asked holds program is text end (reported {output = output} {end = end'} takes runs) =
      run_cause sink_before sink_after file steps seed ints source asked holds end' (record { program = program; is_source = is; takes = takes; output = output; standing = end'; runs = runs; ends = refl })

  command_cause : (sink_before sink_after : ℕ) (command : Command) (bytes : List ℕ) → AskFor words command → HoldsIfTold held (file_of command) bytes → (text : List ℕ) (end : Status) → AnswersTo command bytes text end → Cause words held before after sink_before sink_after end
  command_cause sink_before sink_after (Run file steps seed ints) bytes asked holds text end (refused why for) = inl (Run file steps seed ints, bytes, asked, holds, no_source bytes why for)
  command_cause sink_before sink_after (Run file steps seed ints) bytes asked holds text end (said program {text = text'} {end = end'} is says) = report_cause sink_before sink_after file steps seed ints bytes asked holds program is text' end' says
  command_cause sink_before sink_after (Check file) bytes asked holds text end (refused why for) = inl (Check file, bytes, asked, holds, no_source bytes why for)
  command_cause sink_before sink_after (Check file) bytes asked holds text end (said program {text = text'} {end = end'} is says) =
      subst (Cause words held before after sink_before sink_after) (sym (ok_done program text' end' says)) (inl (Check file, bytes, asked, holds, (program, is)))
  command_cause sink_before sink_after (Share file) bytes asked holds text end (refused why for) = inl (Share file, bytes, asked, holds, no_source bytes why for)
  command_cause sink_before sink_after (Share file) bytes asked holds text end (said program {text = text'} {end = end'} is says) =
      subst (Cause words held before after sink_before sink_after) (sym (sharing_done program text' end' says)) (inl (Share file, bytes, asked, holds, (program, is)))
  command_cause sink_before sink_after (Code file) bytes asked holds text end (refused why for) = inl (Code file, bytes, asked, holds, no_source bytes why for)
  command_cause sink_before sink_after (Code file) bytes asked holds text end (said program {text = text'} {end = end'} is says) =
      subst (Cause words held before after sink_before sink_after) (sym (code_done program text' end' says)) (inl (Code file, bytes, asked, holds, (program, is)))
  command_cause sink_before sink_after (Message file) bytes asked holds text end (listed requests spelled) = inl (Message file, bytes, asked, holds, (requests, spelled))
  command_cause sink_before sink_after (Message file) bytes asked holds text end (none fault at no_list first) = inl (Message file, bytes, asked, holds, no_list)
  command_cause sink_before sink_after (Migrate file) bytes asked holds text end (migrated {new = new} migrates) = inl (Migrate file, bytes, asked, holds, (new, migrates))
  command_cause sink_before sink_after (Migrate file) bytes asked holds text end (no_line at refuses) = inl (Migrate file, bytes, asked, holds, no_journal bytes (journal.Line at) refuses)
  command_cause sink_before sink_after (Migrate file) bytes asked holds text end (no_end refuses) = inl (Migrate file, bytes, asked, holds, no_journal bytes journal.NoEnd refuses)

  load_cause : (sink_before sink_after : ℕ) (n : ℕ) (text : List ℕ) (end : Status) → AskToLoad words n → Loads n text end → Cause words held before after sink_before sink_after end
  load_cause sink_before sink_after n text end asked (loaded program {output = output} {end = end'} is runs) = go end' (record { program = program; is_source = is; takes = takes; output = output; standing = end'; runs = runs; ends = refl })
    where
      takes : main_params program.items ≡ 0
      takes = let range = some_size words n asked in takes_none n range.0 range.1 program is

      go : (standing : Standing) → RunEnds (load_source n) [] 10000000 (status_of standing) → Cause words held before after sink_before sink_after (status_of standing)
      go (standing.Done v) ends = inr (inl (n, asked, ends))
      go (standing.Blocked k) ends = inr (n, asked, ends)
      go (standing.Fault fault) ends = inr (n, asked, ends)
      go (standing.Limit k) ends = inr (n, asked, ends)

  module _ (sink_before sink_after : ℕ) (file name : List ℕ) (ints : List ℤ) (asked : AskToTrace words file name ints) where
    unread_cause : (f : List ℕ) → (Lacks held f → Lacks held file ⊎ Lacks held name) → (text : List ℕ) (end : Status) → Unread held before after f text end
        → Cause words held before after sink_before sink_after end
    unread_cause f one text end (traces.missing cause) = inr (file, name, ints, asked, ⊎_elim (λ (lacks : Lacks held f). inl (one lacks)) (λ (rose : Rose before after). inr rose) cause)
    unread_cause f one text end (traces.failed rose) = rose

    module _ (source : List ℕ) (first : HoldsIfTold held file source) (program : Program) (is : IsSource source program) (takes : main_params program.items ≡ length ints)
        (bytes : List ℕ) (second : HoldsIfTold held name bytes) where
      verdict_cause : (entries : List Entry) (v : Verdict) → Journal version_2 entries bytes → IsVerdict (core_of program) ints entries v
          → Cause words held before after sink_before sink_after (verdict_status v)
      verdict_cause entries (verdict.Yes standing) spelled holds =
          inr (inr (file, name, ints, source, asked, first, (name, bytes, second, (record { program = program; is_source = is; takes = takes }, entries, standing, spelled, holds))))
      verdict_cause entries (verdict.No k why) spelled holds =
          inr (
            file,
            name,
            ints,
            source,
            asked,
            first,
            (
              name,
              bytes,
              second,
              (
                record { program = program; is_source = is; takes = takes },
                λ others standing also explained.
                    let e : Ok others ≡ Ok entries = one_journal bytes (Ok others) (Ok entries) also spelled in
                    let same : others ≡ entries = cc e in
                    explained_or_not (core_of program) ints entries standing k why (subst (λ es. Explains (core_of program) ints es standing) same explained) holds,
              ),
            ),
          )

      bytes_cause : (text : List ℕ) (end : Status) → Verdicts ints program bytes text end → Cause words held before after sink_before sink_after end
      bytes_cause text end (judged entries v spelled holds) = verdict_cause entries v spelled holds
      bytes_cause text end (traces.no_line at refuses) =
          inr (
            file,
            name,
            ints,
            source,
            asked,
            first,
            (
              name,
              bytes,
              second,
              (
                record { program = program; is_source = is; takes = takes },
                λ others standing also explained.
                    let e : Ok others ≡ Err (journal.Line at) = one_journal bytes (Ok others) (Err (journal.Line at)) also refuses in cc e,
              ),
            ),
          )
      bytes_cause text end (traces.no_end refuses) =
          inr (
            file,
            name,
            ints,
            source,
            asked,
            first,
            (
              name,
              bytes,
              second,
              (
                record { program = program; is_source = is; takes = takes },
                λ others standing also explained.
                    let e : Ok others ≡ Err journal.NoEnd = one_journal bytes (Ok others) (Err journal.NoEnd) also refuses in cc e,
              ),
            ),
          )

    program_cause : (source : List ℕ) → HoldsIfTold held file source → (program : Program) → IsSource source program → (text : List ℕ) (end : Status)
        → TracesProgram held before after name ints program text end → Cause words held before after sink_before sink_after end
    program_cause source first program is text end (traces.int_count other) = inr (file, name, ints, source, asked, first, (program, is, other))
    program_cause source first program is text end (traces.no_journal {text = t} {end = e} takes unread) = unread_cause name (λ lacks. inr lacks) t e unread
    program_cause source first program is text end (traced bytes {text = t} {end = e} takes second says) = bytes_cause source first program is takes bytes second t e says

    trace_cause : (text : List ℕ) (end : Status) → Traces held before after file name ints text end → Cause words held before after sink_before sink_after end
    trace_cause text end (no_program {text = t} {end = e} unread) = unread_cause file (λ lacks. inl lacks) t e unread
    trace_cause text end (on_source source first (refused why for)) = inr (file, name, ints, source, asked, first, no_source source why for)
    trace_cause text end (on_source source first (said program {text = t} {end = e} is says)) = program_cause source first program is t e says

  pub says_cause : (sink_before sink_after : ℕ) (text : List ℕ) (end : Status) → Says words held before after text end → Cause words held before after sink_before sink_after end
  says_cause sink_before sink_after text end (words_refused {place = place} wrong) = (place, wrong)
  says_cause sink_before sink_after text end (answered command bytes {text = text'} {end = end'} asked holds says) = command_cause sink_before sink_after command bytes asked holds text' end' says
  says_cause sink_before sink_after text end (load_answered {n = n} {text = text'} {end = end'} asked loads) = load_cause sink_before sink_after n text' end' asked loads
  says_cause sink_before sink_after text end (trace_answered {file = file} {journal = name} {ints = ints} {text = text'} {end = end'} asked traces) = trace_cause sink_before sink_after file name ints asked text' end' traces
  says_cause sink_before sink_after text end (no_file command asked cause) = inl (command, asked, cause)
  says_cause sink_before sink_after text end (read_fault command asked rose) = rose

  -- ---- no text is said where memory runs out

  run_end : (standing : Standing) → status_of standing ≡ status.Memory → ⊥
  run_end (standing.Done v) is = cc is
  run_end (standing.Blocked k) is = cc is
  run_end (standing.Fault fault) is = cc is
  run_end (standing.Limit n) is = cc is

  report_end : (ints : List ℤ) (limit : ℕ) (program : Program) (text : List ℕ) (end : Status) → Reports ints limit program text end → end ≡ status.Memory → ⊥
  report_end ints limit program text end (int_count other) is = cc is
  report_end ints limit program text end (reported {end = end'} takes runs) is = run_end end' is

  command_end : (command : Command) (bytes text : List ℕ) (end : Status) → AnswersTo command bytes text end → end ≡ status.Memory → ⊥
  command_end (Run file steps seed ints) bytes text end (refused why for) is = cc is
  command_end (Run file steps seed ints) bytes text end (said program {text = text'} {end = end'} source says) is = report_end ints steps program text' end' says is
  command_end (Check file) bytes text end (refused why for) is = cc is
  command_end (Check file) bytes text end (said program {text = text'} {end = end'} source says) is = let e : Done ≡ status.Memory = sym (ok_done program text' end' says) ∙ is in cc e
  command_end (Share file) bytes text end (refused why for) is = cc is
  command_end (Share file) bytes text end (said program {text = text'} {end = end'} source says) is = let e : Done ≡ status.Memory = sym (sharing_done program text' end' says) ∙ is in cc e
  command_end (Code file) bytes text end (refused why for) is = cc is
  command_end (Code file) bytes text end (said program {text = text'} {end = end'} source says) is = let e : Done ≡ status.Memory = sym (code_done program text' end' says) ∙ is in cc e
  command_end (Message file) bytes text end (listed requests spelled) is = cc is
  command_end (Message file) bytes text end (none fault at no_list first) is = cc is
  command_end (Migrate file) bytes text end (migrated migrates) is = cc is
  command_end (Migrate file) bytes text end (no_line at refuses) is = cc is
  command_end (Migrate file) bytes text end (no_end refuses) is = cc is

  load_end : (n : ℕ) (text : List ℕ) (end : Status) → Loads n text end → end ≡ status.Memory → ⊥
  load_end n text end (loaded program {end = end'} is runs) = run_end end'

  unread_end : (f text : List ℕ) (end : Status) → Unread held before after f text end → end ≡ status.Memory → ⊥
  unread_end f text end (traces.missing cause) is = cc is
  unread_end f text end (traces.failed rose) is = cc is

  verdicts_end : (ints : List ℤ) (program : Program) (bytes text : List ℕ) (end : Status) → Verdicts ints program bytes text end → end ≡ status.Memory → ⊥
  verdicts_end ints program bytes text end (judged entries v spelled holds) is = go v is
    where
      go : (w : Verdict) → verdict_status w ≡ status.Memory → ⊥
      go (verdict.Yes standing) is = cc is
      go (verdict.No k why) is = cc is
  verdicts_end ints program bytes text end (traces.no_line at refuses) is = cc is
  verdicts_end ints program bytes text end (traces.no_end refuses) is = cc is

  traced_end : (name : List ℕ) (ints : List ℤ) (program : Program) (text : List ℕ) (end : Status) → TracesProgram held before after name ints program text end → end ≡ status.Memory → ⊥
  traced_end name ints program text end (traces.int_count other) is = cc is
  traced_end name ints program text end (traces.no_journal {text = t} {end = e} takes unread) is = unread_end name t e unread is
  traced_end name ints program text end (traced bytes {text = t} {end = e} takes second says) is = verdicts_end ints program bytes t e says is

  trace_end : (file name : List ℕ) (ints : List ℤ) (text : List ℕ) (end : Status) → Traces held before after file name ints text end → end ≡ status.Memory → ⊥
  trace_end file name ints text end (no_program {text = t} {end = e} unread) is = unread_end file t e unread is
  trace_end file name ints text end (on_source source first (refused why for)) is = cc is
  trace_end file name ints text end (on_source source first (said program {text = t} {end = e} is-source says)) is = traced_end name ints program t e says is

  pub says_end : (text : List ℕ) (end : Status) → Says words held before after text end → end ≡ status.Memory → ⊥
  says_end text end (words_refused wrong) is = cc is
  says_end text end (answered command bytes {text = text'} {end = end'} asked holds says) is = command_end command bytes text' end' says is
  says_end text end (load_answered {n = n} {text = text'} {end = end'} asked loads) is = load_end n text' end' loads is
  says_end text end (trace_answered {file = file} {journal = name} {ints = ints} {text = text'} {end = end'} asked traces) is = trace_end file name ints text' end' traces is
  says_end text end (no_file command asked cause) is = cc is
  says_end text end (read_fault command asked rose) is = cc is

  -- ---- the headline

  -- the shelf tells that the command's file holds these bytes
  module _ (command : Command) (bytes : List ℕ) (asked : AskFor words command) (holds : Holds held (file_of command) bytes) (calm : Rose before after → ⊥) where
    abbrev IsIt : Option Files → (name found : List ℕ) → Type 0
    IsIt h name found = Holds h (file_of command) bytes → HoldsIfTold h name found → name ≡ file_of command → found ≡ bytes

    same_bytes : (h : Option Files) (name found : List ℕ) → IsIt h name found
    same_bytes None name found h g e = absurd h
    same_bytes (Some files) name found h g e = let f : Some found ≡ Some bytes = sym g ∙ (ap files e ∙ h) in cc f

    not_lacking : (h : Option Files) (name : List ℕ) → Holds h (file_of command) bytes → Lacks h name → name ≡ file_of command → ⊥
    not_lacking None name h g e = absurd h
    not_lacking (Some files) name h g e = let f : None ≡ Some bytes = sym g ∙ (ap files e ∙ h) in cc f

    pub says_answers : (text : List ℕ) (end : Status) → Says words held before after text end → AnswersTo command bytes text end
    says_answers text end (words_refused wrong) = absurd (wrong.refused (OnFile command, asked))
    says_answers text end (trace_answered {file = file} {journal = name} {ints = ints} also traces) = absurd (traces_no_file words file name ints command also asked)
    says_answers text end (answered other found {text = text'} {end = end'} also holds' says) =
        let same = one_command words command other asked also in
        subst (λ s. AnswersTo command s text' end') (same_bytes held (file_of other) found holds holds' (ap file_of same)) (subst (λ c. AnswersTo c found text' end') same says)
    says_answers text end (load_answered {n = n} loads says) = absurd (loads_no_file words n command loads asked)
    says_answers text end (no_file other also cause) =
        let same = ap file_of (one_command words command other asked also) in
        ⊎_elim (λ (lacks : Lacks held (file_of other)). absurd (not_lacking held (file_of other) holds lacks same)) (λ (rose : Rose before after). absurd (calm rose)) cause
    says_answers text end (read_fault other also rose) = absurd (calm rose)

  -- ---- the load program

  module _ (n : ℕ) (asked : AskToLoad words n) where
    pub says_load : (text : List ℕ) (end : Status) → Says words held before after text end → Loads n text end
    says_load text end (words_refused wrong) = absurd (wrong.refused (Load n, asked))
    says_load text end (trace_answered {file = file} {journal = name} {ints = ints} also traces) = absurd (traces_no_load words file name ints n also asked)
    says_load text end (answered other found also holds says) = absurd (loads_no_file words n other asked also)
    says_load text end (load_answered {n = m} {text = text'} {end = end'} also says) = subst (λ k. Loads k text' end') (one_size words m n also asked) says
    says_load text end (no_file other also cause) = absurd (loads_no_file words n other asked also)
    says_load text end (read_fault other also rose) = absurd (loads_no_file words n other asked also)

  -- the shelf tells what both files of `trace` hold
  module _ (file name source bytes : List ℕ) (ints : List ℤ) (asked : AskToTrace words file name ints) (first : Holds held file source) (second : Holds held name bytes)
      (calm : Rose before after → ⊥) where
    pub says_trace : (text : List ℕ) (end : Status) → Says words held before after text end → TraceAnswers ints source bytes text end
    says_trace text end (words_refused wrong) = absurd (wrong.refused (Trace file name ints, asked))
    says_trace text end (answered command found also holds says) = absurd (traces_no_file words file name ints command asked also)
    says_trace text end (load_answered {n = n} also loads) = absurd (traces_no_load words file name ints n asked also)
    says_trace text end (no_file command also cause) = absurd (traces_no_file words file name ints command asked also)
    says_trace text end (read_fault command also rose) = absurd (traces_no_file words file name ints command asked also)
    says_trace text end (trace_answered {file = f} {journal = j} {ints = is} {text = t} {end = e} also says) =
        let same = one_trace words f j is file name ints also asked in
        traces_on held before after calm file name source bytes ints first second t e
        (subst (λ z. Traces held before after file name z t e) same.ints_are
        (subst (λ z. Traces held before after file z is t e) same.journal (subst (λ z. Traces held before after z j is t e) same.file says)))

pub end_of_load : (n : ℕ) (text : List ℕ) (end : Status) → Loads n text end → IsOfLoad end
end_of_load n text end (loaded program {end = end'} is runs) = go end'
  where
    go : (standing : Standing) → IsOfLoad (status_of standing)
    go (standing.Done v) = tt
    go (standing.Blocked k) = tt
    go (standing.Fault fault) = tt
    go (standing.Limit k) = tt

pub was_loaded : (n : ℕ) (program : Program) (ints : List ℤ) (output : List ℕ) (end : Standing) (found : Found) → IsSource (load_source n) program → ints ≡ [] → RunsTo (core_of program) ints 10000000 output end → found ≡ rules.sharing program
    → (a : Answer) → a ≡ record { text = report output end (shown found); status = status_of end } → (start head text : List ℕ) → start ≡ [] → head ≡ start ++ line (codes "load " ++ decimal n) → text ≡ head ++ a.text → Loads n text a.status
was_loaded n program ints output end found is no_ints runs shown_is a e start head text empty head_is text_is =
    let from_none : RunsTo (core_of program) [] 10000000 output end = subst (λ l. RunsTo (core_of program) l 10000000 output end) no_ints runs in
    let all : text ≡ line (codes "load " ++ decimal n) ++ report output end (shown (rules.sharing program)) =
    text_is ∙ ap (λ h. h ++ a.text) (head_is ∙ ap (λ s. s ++ line (codes "load " ++ decimal n)) empty) ∙ ap (λ (x : Answer). line (codes "load " ++ decimal n) ++ x.text) e ∙ ap (λ f. line (codes "load " ++ decimal n) ++ report output end (shown f)) shown_is in
    let status_is : a.status ≡ status_of end = ap (λ (x : Answer). x.status) e in
    rw (all, status_is) (loaded program is from_none)
