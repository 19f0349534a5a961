-- The rule that is answered is of the first group, and of the second where none of the first is broken.
use Rattle.std.proofs.Common.{◌≡◌, List, [], ◌∷◌, Some, None, Err, sym, subst, refl}
use Rattle.cc_names.specs.Broken.{Answers, least, fault_of}
use Rattle.cc_names.specs.declared.broken.Broken.{Broken}
use Rattle.cc_names.specs.declared.broken.Broken.TheVariants.{Rule, Limit}
use Rattle.cc_names.specs.declared.broken.TypeFault.{TypeFault}
use Rattle.cc_names.specs.declared.broken.TypeFault.TheVariants as fault
use Rattle.cc_types.specs.Program.{first_or}

pub first_answers : {A B : Type 0} (first second : List Broken) (a : A) (b : B) (f : TypeFault)
    → Answers first a (Err f) → Answers (first_or first second) b (Err f)
first_answers [] second a b (fault.Rule rule line) h = absurd (cc)
first_answers [] second a b (fault.Limit which line) h = absurd (cc)
first_answers [] second a b fault.Memory h = tt
first_answers (x ∷ xs) second a b (fault.Rule rule line) h = h
first_answers (x ∷ xs) second a b (fault.Limit which line) h = h
first_answers (x ∷ xs) second a b fault.Memory h = tt

pub second_or : (first second : List Broken) → first ≡ [] → first_or first second ≡ second
second_or [] second none = refl
second_or (x ∷ xs) second none = absurd (cc)

pub second_answers : {B : Type 0} (first second : List Broken) (b : B) (x : Broken)
    → first ≡ [] → least second ≡ Some x → Answers (first_or first second) b (Err (fault_of x))
second_answers first second b (Rule rule line) none h =
    let P : List Broken → Type 0 = λ f. least f ≡ Some (Rule rule line) in subst P (sym (second_or first second none)) h
second_answers first second b (Limit which line) none h =
    let P : List Broken → Type 0 = λ f. least f ≡ Some (Limit which line) in subst P (sym (second_or first second none)) h
