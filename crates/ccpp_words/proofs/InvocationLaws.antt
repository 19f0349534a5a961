-- Which words ask for the load program, and where words that ask for nothing are wrong.
use Rattle.std.proofs.Common.{◌≡◌, ◌≢◌, ℕ, ◌+◌, ◌≤◌, List, [], ◌∷◌, ◌++◌, length, Some, None, refl, sym, ap, ◌∙◌, subst, arith, codes, decimal}
use Rattle.std.specs.Prelude.{ℤ}
use Rattle.ccpp_words.specs.declared.command.Command.{Command}
use Rattle.ccpp_words.specs.declared.invocation.Invocation.{Invocation}
use Rattle.ccpp_words.specs.declared.invocation.Invocation.TheVariants.{OnFile, Load, Trace}
use Rattle.ccpp_words.specs.Fronts.{IsFrontIn, IsWrongIn}
use Rattle.ccpp_words.specs.Words.{AskFor, AskForSome, AskToLoad, AskToTrace, Ask, AskForAny, AreInts, none, IsFileName, IsSize, IsWrongAt, IsNoCommandAt, MayBeSize, MayBeInts, MayBeTraced, verb_word}
use Rattle.ccpp_words.proofs.FrontLaws.{wrong_word, more_wanted, behind, same, same_behind}
use Rattle.ccpp_words.proofs.CommandLaws.{no_words, begins_with_verb, load_is_no_verb, trace_is_no_verb, letter_is}
use Rattle.ccpp_words.proofs.NumberLaws.{one_natural, natural_one, one_ints}

-- ---- no command on a file is called `load`

no_load_command : (words : List (List ℕ)) (command : Command) → AskFor (codes "load" ∷ words) command → ⊥
no_load_command words command asked =
    let b = begins_with_verb (codes "load" ∷ words) command asked in
    let e : codes "load" ≡ verb_word b.0 = cc b.2 in
    load_is_no_verb b.0 e

-- words that ask for the load program ask for no command on a file
pub loads_no_file : (words : List (List ℕ)) (n : ℕ) (command : Command) → AskToLoad words n → AskFor words command → ⊥
loads_no_file words n command loads asked = no_load_command (loads.word ∷ []) command (subst (λ ws. AskFor ws command) loads.are asked)

-- they ask for one size
pub one_size : (words : List (List ℕ)) (m n : ℕ) → AskToLoad words m → AskToLoad words n → m ≡ n
one_size words m n a b =
    let e : codes "load" ∷ a.word ∷ [] ≡ codes "load" ∷ b.word ∷ [] = sym a.are ∙ b.are in
    let same_word : b.word ≡ a.word = cc e in
    one_natural a.word m n a.is_size.0 (subst (λ w. IsSize w n) same_word b.is_size).0

pub some_size : (words : List (List ℕ)) (n : ℕ) → AskToLoad words n → (1 ≤ n) × (n ≤ 10000)
some_size words n a = (a.is_size.1, a.is_size.2)

-- ---- where words are wrong

any : (words : List (List ℕ)) → AskForSome words → AskForAny words
any words h = (OnFile h.0, h.1)

pub no_words_at_all : IsWrongAt [] 1
no_words_at_all = more_wanted AskForAny [] (front, any front some) none
  where
    front : List (List ℕ)
    front = no_words.front.0

    some : AskForSome front
    some = no_words.front.1

    none : AskForAny [] → ⊥
    none (OnFile command, h) = no_words.refused (command, h)
    none (Load n, h) = let e = h.are in cc e
    none (Trace file journal ints, h) = let e = h.are in cc e

pub wrong_command : (name : List ℕ) (rest : List (List ℕ)) (place : ℕ) → name ≢ codes "load" → name ≢ codes "trace" → IsNoCommandAt (name ∷ rest) place → IsWrongAt (name ∷ rest) place
wrong_command name rest place other also wrong = same_behind AskForSome AskForAny name any back rest place wrong
  where
    back : (words : List (List ℕ)) → AskForAny (name ∷ words) → AskForSome (name ∷ words)
    back words (OnFile command, h) = (command, h)
    back words (Load n, h) = let e : name ∷ words ≡ codes "load" ∷ h.word ∷ [] = h.are in absurd (other (cc e))
    back words (Trace file journal ints, h) = let e : name ∷ words ≡ codes "trace" ∷ file ∷ journal ∷ h.rest = h.are in absurd (also (cc e))

pub wrong_size : (rest : List (List ℕ)) (place : ℕ) → IsWrongIn MayBeSize rest place → IsWrongAt (codes "load" ∷ rest) (place + 1)
wrong_size rest place wrong = behind AskForAny (codes "load") rest place (same MayBeSize (λ ws. AskForAny (codes "load" ∷ ws)) there back rest place wrong)
  where
    there : (words : List (List ℕ)) → MayBeSize words → AskForAny (codes "load" ∷ words)
    there words (word, n, are, is) = (Load n, record { word = word; are = ap (λ ws. codes "load" ∷ ws) are; is_size = is })

    back : (words : List (List ℕ)) → AskForAny (codes "load" ∷ words) → MayBeSize words
    back words (OnFile command, h) = absurd (no_load_command words command h)
    back words (Trace file journal ints, h) = let e : codes "load" ∷ words ≡ codes "trace" ∷ file ∷ journal ∷ h.rest = h.are in let f : codes "load" ≡ codes "trace" = cc e in cc f
    back words (Load n, h) = let e : codes "load" ∷ words ≡ codes "load" ∷ h.word ∷ [] = h.are in (h.word, n, cc e, h.is_size)

-- ---- a size alone

one_is_size : IsSize (codes "1") 1
one_is_size = (natural_one, omega arith, omega arith)

pub no_size : IsWrongIn MayBeSize [] 1
no_size = more_wanted MayBeSize [] (codes "1" ∷ [], (codes "1", 1, refl, one_is_size)) (λ h. let e = h.2 in cc e)

pub other_size : (word : List ℕ) (rest : List (List ℕ)) → ((n : ℕ) → IsSize word n → ⊥) → IsWrongIn MayBeSize (word ∷ rest) 1
other_size word rest other = wrong_word MayBeSize [] word rest (codes "1" ∷ [], (codes "1", 1, refl, one_is_size)) (λ more h.
    let e : word ∷ more ≡ h.0 ∷ [] = h.2 in
    let same_word : h.0 ≡ word = cc e in
    other h.1 (subst (λ w. IsSize w h.1) same_word h.3))

pub more_than_size : (word other : List ℕ) (rest : List (List ℕ)) (n : ℕ) → IsSize word n → IsWrongIn MayBeSize (word ∷ other ∷ rest) 2
more_than_size word other rest n is = wrong_word MayBeSize (word ∷ []) other rest ([], (word, n, refl, is)) (λ more h. let e = h.2 in cc e)

-- ---- two files and ints, behind `trace`

no_trace_command : (words : List (List ℕ)) (command : Command) → AskFor (codes "trace" ∷ words) command → ⊥
no_trace_command words command asked =
    let b = begins_with_verb (codes "trace" ∷ words) command asked in
    let e : codes "trace" ≡ verb_word b.0 = cc b.2 in
    trace_is_no_verb b.0 e

-- words that ask to trace ask for no command on a file, and not for the load program
pub traces_no_file : (words : List (List ℕ)) (f j : List ℕ) (ints : List ℤ) (command : Command) → AskToTrace words f j ints → AskFor words command → ⊥
traces_no_file words f j ints command traces asked = no_trace_command (f ∷ j ∷ traces.rest) command (subst (λ ws. AskFor ws command) traces.are asked)

pub traces_no_load : (words : List (List ℕ)) (f j : List ℕ) (ints : List ℤ) (n : ℕ) → AskToTrace words f j ints → AskToLoad words n → ⊥
traces_no_load words f j ints n traces loads =
    let e : codes "trace" ∷ f ∷ j ∷ traces.rest ≡ codes "load" ∷ loads.word ∷ [] = sym traces.are ∙ loads.are in
    let d : codes "trace" ≡ codes "load" = cc e in
    absurd (cc d)

-- they ask for one thing
pub record SameTrace (f j : List ℕ) (ints : List ℤ) (g k : List ℕ) (others : List ℤ) : Type 0 where
  pub file : f ≡ g
  pub journal : j ≡ k
  pub ints_are : ints ≡ others

pub one_trace : (words : List (List ℕ)) (f j : List ℕ) (ints : List ℤ) (g k : List ℕ) (others : List ℤ) → AskToTrace words f j ints → AskToTrace words g k others
    → SameTrace f j ints g k others
one_trace words f j ints g k others a b =
    let e : codes "trace" ∷ f ∷ j ∷ a.rest ≡ codes "trace" ∷ g ∷ k ∷ b.rest = sym a.are ∙ b.are in
    let rests : b.rest ≡ a.rest = cc e in
    record { file = cc e; journal = cc e; ints_are = one_ints a.are_ints (subst (λ ws. AreInts ws others) rests b.are_ints) }

asks_trace : (f j : List ℕ) (rest : List (List ℕ)) (ints : List ℤ) → IsFileName f → IsFileName j → AreInts rest ints → length ints ≤ 8 → MayBeTraced (f ∷ j ∷ rest)
asks_trace f j rest ints is_file is_journal are few =
    (f, j, ints, record { rest = rest; are = refl; is_file = is_file; is_journal = is_journal; are_ints = are; few = few })

none_traced : IsFrontIn MayBeTraced []
none_traced = (codes "f" ∷ codes "f" ∷ [], asks_trace (codes "f") (codes "f") [] [] letter_is letter_is none (omega arith))

one_traced : (f : List ℕ) → IsFileName f → IsFrontIn MayBeTraced (f ∷ [])
one_traced f is_file = (codes "f" ∷ [], asks_trace f (codes "f") [] [] is_file letter_is none (omega arith))

pub no_first : IsWrongIn MayBeTraced [] 1
no_first = more_wanted MayBeTraced [] none_traced (λ h. let e = h.3.are in cc e)

pub wrong_first : (f : List ℕ) (rest : List (List ℕ)) → (IsFileName f → ⊥) → IsWrongIn MayBeTraced (f ∷ rest) 1
wrong_first f rest other = wrong_word MayBeTraced [] f rest none_traced (λ more h.
    let e : codes "trace" ∷ f ∷ more ≡ codes "trace" ∷ h.0 ∷ h.1 ∷ h.3.rest = h.3.are in
    let same_file : h.0 ≡ f = cc e in
    other (subst IsFileName same_file h.3.is_file))

pub no_second : (f : List ℕ) → IsFileName f → IsWrongIn MayBeTraced (f ∷ []) 2
no_second f is_file = more_wanted MayBeTraced (f ∷ []) (one_traced f is_file) (λ h. let e = h.3.are in cc e)

pub wrong_second : (f j : List ℕ) (rest : List (List ℕ)) → IsFileName f → (IsFileName j → ⊥) → IsWrongIn MayBeTraced (f ∷ j ∷ rest) 2
wrong_second f j rest is_file other = wrong_word MayBeTraced (f ∷ []) j rest (one_traced f is_file) (λ more h.
    let e : codes "trace" ∷ f ∷ j ∷ more ≡ codes "trace" ∷ h.0 ∷ h.1 ∷ h.3.rest = h.3.are in
    let same_file : h.1 ≡ j = cc e in
    other (subst IsFileName same_file h.3.is_journal))

pub wrong_ints : (f j : List ℕ) (rest : List (List ℕ)) (place : ℕ) → IsFileName f → IsFileName j → IsWrongIn MayBeInts rest place → IsWrongIn MayBeTraced (f ∷ j ∷ rest) (place + 2)
wrong_ints f j rest place is_file is_journal wrong =
    let third = same MayBeInts (λ ws. MayBeTraced (f ∷ j ∷ ws)) there back rest place wrong in
    let second = behind (λ ws. MayBeTraced (f ∷ ws)) j rest place third in
    let first = behind MayBeTraced f (j ∷ rest) (place + 1) second in
    let sum : place + 1 + 1 ≡ place + 2 = omega arith in
    subst (IsWrongIn MayBeTraced (f ∷ j ∷ rest)) sum first
  where
    there : (words : List (List ℕ)) → MayBeInts words → MayBeTraced (f ∷ j ∷ words)
    there words h = asks_trace f j words h.0 is_file is_journal h.1 h.2

    back : (words : List (List ℕ)) → MayBeTraced (f ∷ j ∷ words) → MayBeInts words
    back words h =
        let e : codes "trace" ∷ f ∷ j ∷ words ≡ codes "trace" ∷ h.0 ∷ h.1 ∷ h.3.rest = h.3.are in
        let rests : h.3.rest ≡ words = cc e in
        (h.2, subst (λ ws. AreInts ws h.2) rests h.3.are_ints, h.3.few)

pub wrong_trace : (rest : List (List ℕ)) (place : ℕ) → IsWrongIn MayBeTraced rest place → IsWrongAt (codes "trace" ∷ rest) (place + 1)
wrong_trace rest place wrong = behind AskForAny (codes "trace") rest place (same MayBeTraced (λ ws. AskForAny (codes "trace" ∷ ws)) there back rest place wrong)
  where
    there : (words : List (List ℕ)) → MayBeTraced words → AskForAny (codes "trace" ∷ words)
    there words h = (Trace h.0 h.1 h.2, h.3)

    back : (words : List (List ℕ)) → AskForAny (codes "trace" ∷ words) → MayBeTraced words
    back words (OnFile command, h) = absurd (no_trace_command words command h)
    back words (Load n, h) = let e : codes "trace" ∷ words ≡ codes "load" ∷ h.word ∷ [] = h.are in let f : codes "trace" ≡ codes "load" = cc e in cc f
    back words (Trace file journal ints, h) = (file, journal, ints, h)
