-- Which words ask for a command, and where others are wrong.
use Rattle.std.proofs.Common.{◌≡◌, ◌≢◌, ℕ, ◌+◌, ◌-◌, ◌≤◌, ◌<◌, true, false, ℤ, List, [], ◌∷◌, length, take, drop, get_or, Some, None, refl, sym, ap, ◌∙◌, subst, arith, codes, bytes_eq}
use Rattle.std.specs.Prelude.{Option, if◌then◌else◌}
use Rattle.std.specs.Option.{unwrap_or}
use Rattle.std.proofs.lemmas.List.{take_all}
use Rattle.ccpp_words.specs.declared.command.Command.{Command}
use Rattle.ccpp_words.specs.declared.command.Command.TheVariants.{Run, Check, Share, Code, Message, Migrate}
use Rattle.ccpp_words.specs.declared.command.Verb.{Verb}
use Rattle.ccpp_words.specs.declared.command.Verb.TheVariants as verb
use Rattle.ccpp_words.specs.declared.settings.Given.{Given}
use Rattle.ccpp_words.specs.declared.settings.Settings.{Settings}
use Rattle.ccpp_words.specs.Fronts.{IsFrontIn, IsWrongIn}
use Rattle.ccpp_words.specs.Words.{AreSettings, only_ints, none, AskToRun, AskFor, AskForSome, IsFileName, IsNoCommandAt, MayFollow, MayStand, file_of, verb_word}
use Rattle.ccpp_words.proofs.FrontLaws.{wrong_word, more_wanted, behind, same}
use Rattle.ccpp_words.proofs.SettingsLaws.{one_settings, steps_in_range}

-- ---- verbs

-- the verb that a word is
abbrev verb_named : List ℕ → Option Verb
verb_named w = if bytes_eq w (codes "run") then Some verb.Run else (if bytes_eq w (codes "check") then Some verb.Check else (if bytes_eq w (codes "share") then Some verb.Share else (if bytes_eq w (codes "code") then Some verb.Code else (if bytes_eq w (codes "message") then Some verb.Message else (if bytes_eq w (codes "migrate") then Some verb.Migrate else None)))))

named : (v : Verb) → verb_named (verb_word v) ≡ Some v
named verb.Run = refl
named verb.Check = refl
named verb.Share = refl
named verb.Code = refl
named verb.Message = refl
named verb.Migrate = refl

same_verb : (v w : Verb) → verb_word v ≡ verb_word w → v ≡ w
same_verb v w e = let f : Some v ≡ Some w = sym (named v) ∙ (ap verb_named e ∙ named w) in cc f

-- no verb is called `load`
pub load_is_no_verb : (v : Verb) → codes "load" ≡ verb_word v → ⊥
load_is_no_verb v e = let f : None ≡ Some v = ap verb_named e ∙ named v in cc f

-- nor `trace`
pub trace_is_no_verb : (v : Verb) → codes "trace" ≡ verb_word v → ⊥
trace_is_no_verb v e = let f : None ≡ Some v = ap verb_named e ∙ named v in cc f

-- ---- a command has a verb, a file's name, and what follows

-- what follows a verb and a file's name
Follows : Verb → List (List ℕ) → Type 0
Follows verb.Run words = (s : Settings) × AreSettings words s.steps s.seed s.ints
Follows verb.Check words = words ≡ []
Follows verb.Share words = words ≡ []
Follows verb.Code words = words ≡ []
Follows verb.Message words = words ≡ []
Follows verb.Migrate words = words ≡ []

record Asked (words : List (List ℕ)) : Type 0 where
  by : Verb
  file : List ℕ
  rest : List (List ℕ)
  are : words ≡ verb_word by ∷ file ∷ rest
  is_file : IsFileName file
  follows : Follows by rest

asked_by : (words : List (List ℕ)) (command : Command) → AskFor words command → Asked words
unfolding Follows
asked_by words (Run file steps seed ints) asked = record {
  by = verb.Run;
  file = file;
  rest = asked.rest;
  are = asked.are;
  is_file = asked.is_file;
  follows = (record { steps = asked.steps_said; seed = asked.seed_said; ints = ints }, asked.settings);
}
asked_by words (Check file) asked = record { by = verb.Check; file = file; rest = []; are = asked.0; is_file = asked.1; follows = refl }
asked_by words (Share file) asked = record { by = verb.Share; file = file; rest = []; are = asked.0; is_file = asked.1; follows = refl }
asked_by words (Code file) asked = record { by = verb.Code; file = file; rest = []; are = asked.0; is_file = asked.1; follows = refl }
asked_by words (Message file) asked = record { by = verb.Message; file = file; rest = []; are = asked.0; is_file = asked.1; follows = refl }
asked_by words (Migrate file) asked = record { by = verb.Migrate; file = file; rest = []; are = asked.0; is_file = asked.1; follows = refl }

-- words that ask for a command begin with its verb
pub begins_with_verb : (words : List (List ℕ)) (command : Command) → AskFor words command → (v : Verb) × (rest : List (List ℕ)) × (words ≡ verb_word v ∷ rest)
begins_with_verb words command asked = let a = asked_by words command asked in (a.by, a.file ∷ a.rest, a.are)

-- the run that a file and settings ask for
pub run_asked : (file : List ℕ) (words : List (List ℕ)) (s : Settings) → IsFileName file → AreSettings words s.steps s.seed s.ints → AskFor (codes "run" ∷ file ∷ words) (Run file (unwrap_or s.steps 10000000) (unwrap_or s.seed 0) s.ints)
run_asked file words s is_file are = record {
  rest = words;
  are = refl;
  is_file = is_file;
  steps_said = s.steps;
  seed_said = s.seed;
  settings = are;
  steps_are = refl;
  seed_is = refl;
}

asks : (v : Verb) (file : List ℕ) (words : List (List ℕ)) → IsFileName file → Follows v words → MayFollow v file words
unfolding Follows
asks verb.Run file words is_file follows = (Run file (unwrap_or follows.0.steps 10000000) (unwrap_or follows.0.seed 0) follows.0.ints, run_asked file words follows.0 is_file follows.1)
asks verb.Check file words is_file no_more = (Check file, (ap (λ ws. codes "check" ∷ file ∷ ws) no_more, is_file))
asks verb.Share file words is_file no_more = (Share file, (ap (λ ws. codes "share" ∷ file ∷ ws) no_more, is_file))
asks verb.Code file words is_file no_more = (Code file, (ap (λ ws. codes "code" ∷ file ∷ ws) no_more, is_file))
asks verb.Message file words is_file no_more = (Message file, (ap (λ ws. codes "message" ∷ file ∷ ws) no_more, is_file))
asks verb.Migrate file words is_file no_more = (Migrate file, (ap (λ ws. codes "migrate" ∷ file ∷ ws) no_more, is_file))

-- nothing need follow
nothing : (v : Verb) → Follows v []
unfolding Follows
nothing verb.Run = (record { steps = None; seed = None; ints = [] }, only_ints none (omega arith))
nothing verb.Check = refl
nothing verb.Share = refl
nothing verb.Code = refl
nothing verb.Message = refl
nothing verb.Migrate = refl

-- what words that begin with a verb and a file's name ask for
followed : (v : Verb) (file : List ℕ) (words : List (List ℕ)) → MayFollow v file words → IsFileName file × Follows v words
followed v file words h =
    let a = asked_by (verb_word v ∷ file ∷ words) h.0 h.1 in
    let by : a.by ≡ v = same_verb a.by v (cc a.are) in
    let same_file : a.file ≡ file = cc a.are in
    let same_words : a.rest ≡ words = cc a.are in
    (subst IsFileName same_file a.is_file, subst (λ x. Follows x words) by (subst (Follows a.by) same_words a.follows))

-- ---- the words as a slice shows them

pub first_and_rest : (words : List (List ℕ)) → 1 ≤ length words → (w : List ℕ) → w ≡ get_or words 0 w → words ≡ w ∷ take (length words - 1) (drop 1 words)
first_and_rest [] some w at = absurd (omega arith)
first_and_rest (first ∷ ws) some w at =
    let same_word : w ≡ first = at in
    let all : take (length (first ∷ ws) - 1) ws ≡ ws = take_all _ ws (omega arith) in
    cc (same_word, all)

pub no_word : (words : List (List ℕ)) → length words < 1 → words ≡ []
no_word [] none_there = refl
no_word (w ∷ ws) none_there = absurd (omega arith)

-- ---- where words are wrong

pub letter_is : IsFileName (codes "f")
letter_is e = cc e

front_none : IsFrontIn AskForSome []
front_none = (verb_word verb.Check ∷ codes "f" ∷ [], asks verb.Check (codes "f") [] letter_is (nothing verb.Check))

front_verb : (v : Verb) → IsFrontIn AskForSome (verb_word v ∷ [])
front_verb v = (codes "f" ∷ [], asks v (codes "f") [] letter_is (nothing v))

pub no_words : IsNoCommandAt [] 1
no_words = more_wanted AskForSome [] front_none (λ h.
    let a = asked_by [] h.0 h.1 in
    let are = a.are in
    cc are)

pub wrong_name : (w : List ℕ) (ws : List (List ℕ)) → ((v : Verb) → w ≡ verb_word v → ⊥) → IsNoCommandAt (w ∷ ws) 1
wrong_name w ws other = wrong_word AskForSome [] w ws front_none (λ more h.
    let a = asked_by (w ∷ more) h.0 h.1 in
    let is : w ≡ verb_word a.by = cc a.are in
    other a.by is)

pub no_file : (v : Verb) → IsNoCommandAt (verb_word v ∷ []) 2
no_file v = more_wanted AskForSome (verb_word v ∷ []) (front_verb v) (λ h.
    let a = asked_by (verb_word v ∷ []) h.0 h.1 in
    let are = a.are in
    cc are)

pub wrong_file : (v : Verb) (w : List ℕ) (ws : List (List ℕ)) → (IsFileName w → ⊥) → IsNoCommandAt (verb_word v ∷ w ∷ ws) 2
wrong_file v w ws other = wrong_word AskForSome (verb_word v ∷ []) w ws (front_verb v) (λ more h. other (followed v w more h).0)

pub wrong_rest : (v : Verb) (file : List ℕ) (words : List (List ℕ)) (place : ℕ) → IsWrongIn (MayFollow v file) words place → IsNoCommandAt (verb_word v ∷ file ∷ words) (place + 2)
wrong_rest v file words place wrong =
    let one = behind (λ ws. AskForSome (verb_word v ∷ ws)) file words place wrong in
    let two = behind AskForSome (verb_word v) (file ∷ words) (place + 1) one in
    let sum : place + 1 + 1 ≡ place + 2 = omega arith in
    subst (IsNoCommandAt (verb_word v ∷ file ∷ words)) sum two

-- ---- what follows a verb

-- no word may stand behind a command that takes none
pub wrong_more : (w : List ℕ) (ws : List (List ℕ)) → IsWrongIn (λ words. words ≡ []) (w ∷ ws) 1
wrong_more w ws = wrong_word (λ words. words ≡ []) [] w ws ([], refl) (λ more e. cc e)

module _ (file : List ℕ) (is_file : IsFileName file) where
  pub not_run : (v : Verb) → v ≢ verb.Run → (words : List (List ℕ)) (place : ℕ) → IsWrongIn (λ ws. ws ≡ []) words place → IsWrongIn (MayFollow v file) words place
  unfolding Follows
  not_run verb.Run other words place wrong = absurd (other refl)
  not_run verb.Check other words place wrong = same (λ ws. ws ≡ []) (MayFollow verb.Check file) (λ ws e. asks verb.Check file ws is_file e) (λ ws h. (followed verb.Check file ws h).1) words place wrong
  not_run verb.Share other words place wrong = same (λ ws. ws ≡ []) (MayFollow verb.Share file) (λ ws e. asks verb.Share file ws is_file e) (λ ws h. (followed verb.Share file ws h).1) words place wrong
  not_run verb.Code other words place wrong = same (λ ws. ws ≡ []) (MayFollow verb.Code file) (λ ws e. asks verb.Code file ws is_file e) (λ ws h. (followed verb.Code file ws h).1) words place wrong
  not_run verb.Message other words place wrong = same (λ ws. ws ≡ []) (MayFollow verb.Message file) (λ ws e. asks verb.Message file ws is_file e) (λ ws h. (followed verb.Message file ws h).1) words place wrong
  not_run verb.Migrate other words place wrong = same (λ ws. ws ≡ []) (MayFollow verb.Migrate file) (λ ws e. asks verb.Migrate file ws is_file e) (λ ws h. (followed verb.Migrate file ws h).1) words place wrong

  pub in_run : (given : Given) → given.steps ≡ false → given.seed ≡ false → (words : List (List ℕ)) (place : ℕ) → IsWrongIn (MayStand given) words place → IsWrongIn (MayFollow verb.Run file) words place
  unfolding Follows
  in_run given no_steps no_seed words place wrong =
      same (MayStand given) (MayFollow verb.Run file) (λ ws h. asks verb.Run file ws is_file (h.0, h.1.are)) (λ ws h.
      let f = (followed verb.Run file ws h).1 in (
        f.0,
        record {
          are = f.1;
          no_steps = λ yes. let both : true ≡ false = sym yes ∙ no_steps in cc both;
          no_seed = λ yes. let both : true ≡ false = sym yes ∙ no_seed in cc both;
        },
      )) words place wrong

-- ---- words ask for one command

verb_of : Command → Verb
verb_of (Run file steps seed ints) = verb.Run
verb_of (Check file) = verb.Check
verb_of (Share file) = verb.Share
verb_of (Code file) = verb.Code
verb_of (Message file) = verb.Message
verb_of (Migrate file) = verb.Migrate

-- the command of a verb that takes a file alone
file_command : Verb → List ℕ → Command
file_command verb.Run = Check
file_command verb.Check = Check
file_command verb.Share = Share
file_command verb.Code = Code
file_command verb.Message = Message
file_command verb.Migrate = Migrate

is_file_command : (c : Command) → verb_of c ≢ verb.Run → c ≡ file_command (verb_of c) (file_of c)
unfolding verb_of file_command
is_file_command (Run file steps seed ints) other = absurd (other refl)
is_file_command (Check file) other = refl
is_file_command (Share file) other = refl
is_file_command (Code file) other = refl
is_file_command (Message file) other = refl
is_file_command (Migrate file) other = refl

words_are : (words : List (List ℕ)) (c : Command) → AskFor words c → (rest : List (List ℕ)) × (words ≡ verb_word (verb_of c) ∷ file_of c ∷ rest)
unfolding verb_of
words_are words (Run file steps seed ints) asked = (asked.rest, asked.are)
words_are words (Check file) asked = ([], asked.0)
words_are words (Share file) asked = ([], asked.0)
words_are words (Code file) asked = ([], asked.0)
words_are words (Message file) asked = ([], asked.0)
words_are words (Migrate file) asked = ([], asked.0)

same_start : (words : List (List ℕ)) (c d : Command) → AskFor words c → AskFor words d → (verb_of d ≡ verb_of c) × (file_of d ≡ file_of c)
same_start words c d asked also =
    let one = words_are words c asked in
    let other = words_are words d also in
    let e : verb_word (verb_of d) ∷ file_of d ∷ other.0 ≡ verb_word (verb_of c) ∷ file_of c ∷ one.0 = sym other.1 ∙ one.1 in
    (same_verb (verb_of d) (verb_of c) (cc e), cc e)

same_file_command : (words : List (List ℕ)) (c d : Command) → AskFor words c → AskFor words d → verb_of c ≢ verb.Run → d ≡ c
same_file_command words c d asked also other =
    let start = same_start words c d asked also in
    let d_other : verb_of d ≢ verb.Run = λ e. other (sym start.0 ∙ e) in
    is_file_command d d_other ∙ (ap (λ v. file_command v (file_of d)) start.0 ∙ (ap (file_command (verb_of c)) start.1 ∙ sym (is_file_command c other)))

same_run : (words : List (List ℕ)) (file other : List ℕ) (steps seed steps' seed' : ℕ) (ints ints' : List ℤ) → AskToRun words file steps seed ints → AskToRun words other steps' seed' ints' → Run other steps' seed' ints' ≡ Run file steps seed ints
same_run words file other steps seed steps' seed' ints ints' a b =
    let e : codes "run" ∷ other ∷ b.rest ≡ codes "run" ∷ file ∷ a.rest = sym b.are ∙ a.are in
    let same_file : other ≡ file = cc e in
    let same_rest : b.rest ≡ a.rest = cc e in
    let said : Settings = record { steps = a.steps_said; seed = a.seed_said; ints = ints } in
    let all = one_settings b.settings said (subst (λ ws. AreSettings ws a.steps_said a.seed_said ints) (sym same_rest) a.settings) in
    let same_ints : ints' ≡ ints = ap (λ (s : Settings). s.ints) all in
    let same_steps : steps' ≡ steps = b.steps_are ∙ (ap (λ (s : Settings). unwrap_or s.steps 10000000) all ∙ sym a.steps_are) in
    let same_seed : seed' ≡ seed = b.seed_is ∙ (ap (λ (s : Settings). unwrap_or s.seed 0) all ∙ sym a.seed_is) in
    cc (same_file, same_steps, same_seed, same_ints)

pub one_command : (words : List (List ℕ)) (command other : Command) → AskFor words command → AskFor words other → other ≡ command
unfolding verb_of
one_command words (Run file steps seed ints) (Run file' steps' seed' ints') asked also = same_run words file file' steps seed steps' seed' ints ints' asked also
one_command words (Run file steps seed ints) (Check file') asked also = sym (same_file_command words (Check file') (Run file steps seed ints) also asked (λ e. cc e))
one_command words (Run file steps seed ints) (Share file') asked also = sym (same_file_command words (Share file') (Run file steps seed ints) also asked (λ e. cc e))
one_command words (Run file steps seed ints) (Code file') asked also = sym (same_file_command words (Code file') (Run file steps seed ints) also asked (λ e. cc e))
one_command words (Run file steps seed ints) (Message file') asked also = sym (same_file_command words (Message file') (Run file steps seed ints) also asked (λ e. cc e))
one_command words (Run file steps seed ints) (Migrate file') asked also = sym (same_file_command words (Migrate file') (Run file steps seed ints) also asked (λ e. cc e))
one_command words (Check file) other asked also = same_file_command words (Check file) other asked also (λ e. cc e)
one_command words (Share file) other asked also = same_file_command words (Share file) other asked also (λ e. cc e)
one_command words (Code file) other asked also = same_file_command words (Code file) other asked also (λ e. cc e)
one_command words (Message file) other asked also = same_file_command words (Message file) other asked also (λ e. cc e)
one_command words (Migrate file) other asked also = same_file_command words (Migrate file) other asked also (λ e. cc e)

-- ---- a run may make 1 to 1,000,000,000 steps

pub run_steps : (words : List (List ℕ)) (file : List ℕ) (steps seed : ℕ) (ints : List ℤ) → AskFor words (Run file steps seed ints) → (1 ≤ steps) × (steps ≤ 1000000000)
run_steps words file steps seed ints asked =
    let said = steps_in_range asked.settings in
    subst (λ n. (1 ≤ n) × (n ≤ 1000000000)) (sym asked.steps_are) said
