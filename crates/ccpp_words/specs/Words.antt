-- The words of the command line, and the commands that they ask for.
use Rattle.std.specs.Prelude.{◌≡◌, ◌≢◌, ℕ, ◌^◌, ◌<◌, ◌≤◌, Bool, true, ℤ, FitsSigned, Option, Some, None, List, [], ◌∷◌, length, codes, decimal}
use Rattle.std.specs.Fmt.{signed_decimal}
use Rattle.std.specs.Int.{w64}
use Rattle.std.specs.Option.{unwrap_or}
use Rattle.ccpp_words.specs.Fronts.{IsFrontIn, IsWrongIn}
use Rattle.ccpp_words.specs.declared.command.Command.{Command}
use Rattle.ccpp_words.specs.declared.command.Command.TheVariants.{Run, Check, Share, Code, Message, Migrate}
use Rattle.ccpp_words.specs.declared.command.Verb.{Verb}
use Rattle.ccpp_words.specs.declared.command.Verb.TheVariants as verb
use Rattle.ccpp_words.specs.declared.invocation.Invocation.{Invocation}
use Rattle.ccpp_words.specs.declared.invocation.Invocation.TheVariants.{OnFile, Load, Trace}
use Rattle.ccpp_words.specs.declared.settings.Choice.{Choice}
use Rattle.ccpp_words.specs.declared.settings.Choice.TheVariants as choice
use Rattle.ccpp_words.specs.declared.settings.Given.{Given}
use Rattle.ccpp_words.specs.declared.settings.Settings.{Settings}

-- ---- single words

-- a word that names a file: it is not empty and does not begin with '-'
abbrev pub IsFileName : List ℕ → Type 0
IsFileName [] = ⊥
IsFileName (b ∷ bs) = b ≢ 45

-- a natural number of 64 bits, in decimal
abbrev pub IsNatural : List ℕ → ℕ → Type 0
IsNatural word n = (word ≡ decimal n) × (n < 2 ^ 64)

-- how many steps a run may make
abbrev pub IsSteps : List ℕ → ℕ → Type 0
IsSteps word n = IsNatural word n × (1 ≤ n) × (n ≤ 1000000000)

-- an int of 64 bits with a sign, in decimal
abbrev pub IsInt : List ℕ → ℤ → Type 0
IsInt word n = (word ≡ signed_decimal n) × FitsSigned w64 n

-- ---- what stands behind the file's name of `run`

pub data AreInts : List (List ℕ) → List ℤ → Type 0 where
  none : AreInts [] []
  more : {word : List ℕ} {n : ℤ} {words : List (List ℕ)} {ns : List ℤ} → IsInt word n → AreInts words ns → AreInts (word ∷ words) (n ∷ ns)

-- options in any order, each at most once, and then at most eight ints
pub data AreSettings : (words : List (List ℕ)) → (steps seed : Option ℕ) → (ints : List ℤ) → Type 0 where
  only_ints : {words : List (List ℕ)} {ns : List ℤ} → AreInts words ns → length ns ≤ 8 → AreSettings words None None ns
  steps_first : {word : List ℕ} {n : ℕ} {words : List (List ℕ)} {seed : Option ℕ} {ns : List ℤ} → IsSteps word n → AreSettings words None seed ns → AreSettings (codes "--steps" ∷ word ∷ words) (Some n) seed ns
  seed_first : {word : List ℕ} {n : ℕ} {words : List (List ℕ)} {steps : Option ℕ} {ns : List ℤ} → IsNatural word n → AreSettings words steps None ns → AreSettings (codes "--seed" ∷ word ∷ words) steps (Some n) ns

-- ---- commands

-- The words ask to run the program in a file. By default a run makes at most ten million steps, and its seed is 0.
pub record AskToRun (words : List (List ℕ)) (file : List ℕ) (steps seed : ℕ) (ints : List ℤ) : Type 0 where
  pub rest : List (List ℕ)
  pub are : words ≡ codes "run" ∷ file ∷ rest
  pub is_file : IsFileName file
  pub steps_said : Option ℕ
  pub seed_said : Option ℕ
  pub settings : AreSettings rest steps_said seed_said ints
  pub steps_are : steps ≡ unwrap_or steps_said 10000000
  pub seed_is : seed ≡ unwrap_or seed_said 0

abbrev pub AskFor : List (List ℕ) → Command → Type 0
AskFor words (Run file steps seed ints) = AskToRun words file steps seed ints
AskFor words (Check file) = (words ≡ codes "check" ∷ file ∷ []) × IsFileName file
AskFor words (Share file) = (words ≡ codes "share" ∷ file ∷ []) × IsFileName file
AskFor words (Code file) = (words ≡ codes "code" ∷ file ∷ []) × IsFileName file
AskFor words (Message file) = (words ≡ codes "message" ∷ file ∷ []) × IsFileName file
AskFor words (Migrate file) = (words ≡ codes "migrate" ∷ file ∷ []) × IsFileName file

-- the file that a command reads
abbrev pub file_of : Command → List ℕ
file_of (Run file steps seed ints) = file
file_of (Check file) = file
file_of (Share file) = file
file_of (Code file) = file
file_of (Message file) = file
file_of (Migrate file) = file

-- the words ask for some command on a file
abbrev pub AskForSome : List (List ℕ) → Type 0
AskForSome words = (command : Command) × AskFor words command

-- a word that is a size of the load program
abbrev pub IsSize : List ℕ → ℕ → Type 0
IsSize word n = IsNatural word n × (1 ≤ n) × (n ≤ 10000)

-- The words ask to run the load program of this size.
pub record AskToLoad (words : List (List ℕ)) (n : ℕ) : Type 0 where
  pub word : List ℕ
  pub are : words ≡ codes "load" ∷ word ∷ []
  pub is_size : IsSize word n

-- The words ask whether a run of the program in a file, on these ints, explains the journal in another.
pub record AskToTrace (words : List (List ℕ)) (file journal : List ℕ) (ints : List ℤ) : Type 0 where
  pub rest : List (List ℕ)
  pub are : words ≡ codes "trace" ∷ file ∷ journal ∷ rest
  pub is_file : IsFileName file
  pub is_journal : IsFileName journal
  pub are_ints : AreInts rest ints
  pub few : length ints ≤ 8

abbrev pub Ask : List (List ℕ) → Invocation → Type 0
Ask words (OnFile command) = AskFor words command
Ask words (Trace file journal ints) = AskToTrace words file journal ints
Ask words (Load n) = AskToLoad words n

-- the words ask for something
abbrev pub AskForAny : List (List ℕ) → Type 0
AskForAny words = (invocation : Invocation) × Ask words invocation

-- some words that ask for something begin with these
abbrev pub IsFront : List (List ℕ) → Type 0
IsFront = IsFrontIn AskForAny

-- the words ask for nothing: at this place, counted from 1, they stop being a front, or more words are wanted there
abbrev pub IsWrongAt : List (List ℕ) → (place : ℕ) → Type 0
IsWrongAt = IsWrongIn AskForAny

-- the same of words that ask for no command on a file
abbrev pub IsNoCommandAt : List (List ℕ) → (place : ℕ) → Type 0
IsNoCommandAt = IsWrongIn AskForSome

-- ---- the parts in which words are read

-- the word of a verb
abbrev pub verb_word : Verb → List ℕ
verb_word verb.Run = codes "run"
verb_word verb.Check = codes "check"
verb_word verb.Share = codes "share"
verb_word verb.Code = codes "code"
verb_word verb.Message = codes "message"
verb_word verb.Migrate = codes "migrate"

-- what may stand behind a verb and a file's name
abbrev pub MayFollow : Verb → (file : List ℕ) → List (List ℕ) → Type 0
MayFollow verb file words = AskForSome (verb_word verb ∷ file ∷ words)

-- the word of an option, and the words of its value
abbrev pub choice_word : Choice → List ℕ
choice_word choice.Steps = codes "--steps"
choice_word choice.Seed = codes "--seed"

abbrev pub IsValueOf : Choice → List ℕ → ℕ → Type 0
IsValueOf choice.Steps = IsSteps
IsValueOf choice.Seed = IsNatural

-- whether an option is among those given, and these with one more
abbrev pub has : Given → Choice → Bool
has given choice.Steps = given.steps
has given choice.Seed = given.seed

abbrev pub with_choice : Given → Choice → Given
with_choice given choice.Steps = record given { steps = true }
with_choice given choice.Seed = record given { seed = true }

-- settings with an option's value
abbrev pub with_value : Settings → Choice → ℕ → Settings
with_value settings choice.Steps n = record settings { steps = Some n }
with_value settings choice.Seed n = record settings { seed = Some n }

-- the words say these settings, none of which was given before
pub record Say (given : Given) (words : List (List ℕ)) (settings : Settings) : Type 0 where
  pub are : AreSettings words settings.steps settings.seed settings.ints
  pub no_steps : given.steps ≡ true → settings.steps ≡ None
  pub no_seed : given.seed ≡ true → settings.seed ≡ None

-- what may stand behind options that were given
abbrev pub MayStand : Given → List (List ℕ) → Type 0
MayStand given words = (settings : Settings) × Say given words settings

-- at most eight ints
abbrev pub MayBeInts : List (List ℕ) → Type 0
MayBeInts words = (ints : List ℤ) × AreInts words ints × (length ints ≤ 8)

-- two files, and at most eight ints
abbrev pub MayBeTraced : List (List ℕ) → Type 0
MayBeTraced words = (file : List ℕ) × (journal : List ℕ) × (ints : List ℤ) × AskToTrace (codes "trace" ∷ words) file journal ints

-- a size alone
abbrev pub MayBeSize : List (List ℕ) → Type 0
MayBeSize words = (word : List ℕ) × (n : ℕ) × (words ≡ word ∷ []) × IsSize word n
