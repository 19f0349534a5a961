-- Which numbers words are.
use Rattle.std.proofs.Common.{◌≡◌, ℕ, suc, ◌+◌, ◌<◌, ◌≤◌, ◌^◌, true, false, ℤ, pos, negsuc, FitsSigned, List, [], ◌∷◌, ◌++◌, length, Ok, refl, sym, ap, ◌∙◌, subst, arith, bytes_eq, codes, decimal, length-append, append-nil, take, drop, get_or}
use Rattle.std.proofs.Math.Seq.{take-append-add, drop-cons}
use Rattle.std.proofs.lemmas.List.{take-append-drop, length-take-le}
use Rattle.std.specs.Prelude.{Result}
use Rattle.std.specs.Fmt.{signed_decimal}
use Rattle.std.specs.Int.{w64}
use Rattle.std.specs.Str.Parse.{ParsesUnsigned, ParsesSigned, IsNumeral}
use Rattle.std.proofs.lemmas.Fmt.{parse-decimal, parse-signed_decimal, decimal_is_IsNumeral, decimal_injective, decimal_digit, signed_decimal_injective}
use Rattle.std.proofs.lemmas.Slice.Eq.{bytes_eq-Decides}
use Rattle.ccpp_words.specs.Fronts.{IsWrongIn}
use Rattle.ccpp_words.specs.Words.{IsNatural, IsInt, AreInts, none, more, MayBeInts}
use Rattle.ccpp_words.proofs.FrontLaws.{wrong_word}

-- equal texts are found equal
found_equal : (a b : List ℕ) → a ≡ b → bytes_eq a b ≡ false → ⊥
found_equal a b e differ = let yes : bytes_eq a b ≡ true = (bytes_eq-Decides a b).1 e in let both : true ≡ false = sym yes ∙ differ in cc both

-- ---- a word is read as the natural number that it is

natural_read : {E : Type 0} (word : List ℕ) (n : ℕ) (r : Result ℕ E) → ParsesUnsigned 64 10 word r → IsNatural word n → r ≡ Ok n
natural_read word n r parses is = parse-decimal 64 n word r is.1 is.1 is.0 parses

pub no_natural : {E : Type 0} (word : List ℕ) (r : Result ℕ E) → ParsesUnsigned 64 10 word r → ((x : ℕ) → r ≡ Ok x → ⊥) → (n : ℕ) → IsNatural word n → ⊥
no_natural word r parses not n is = not n (natural_read word n r parses is)

pub other_natural : {E : Type 0} (word spelled : List ℕ) (r : Result ℕ E) (m : ℕ) → ParsesUnsigned 64 10 word r → r ≡ Ok m → spelled ≡ decimal m → bytes_eq spelled word ≡ false → (n : ℕ) → IsNatural word n → ⊥
other_natural word spelled r m parses read shown other n is =
    let both : Ok n ≡ Ok m = sym (natural_read word n r parses is) ∙ read in
    let same : n ≡ m = cc both in
    found_equal spelled word (shown ∙ (ap decimal (sym same) ∙ sym is.0)) other

pub one_natural : (word : List ℕ) (m n : ℕ) → IsNatural word m → IsNatural word n → m ≡ n
one_natural word m n is also = decimal_injective m n is.1 also.1 (sym is.0 ∙ also.0)

pub natural_one : IsNatural (codes "1") 1
natural_one = (sym (decimal_digit 1 (omega arith)), omega arith)

-- ---- and as the int

int_read : {E : Type 0} (word : List ℕ) (n : ℤ) (r : Result ℤ E) → ParsesSigned w64 10 word r → IsInt word n → r ≡ Ok n
int_read word n r parses is = parse-signed_decimal w64 n word r is.1 is.1.sfits is.0 parses

pub no_int : {E : Type 0} (word : List ℕ) (r : Result ℤ E) → ParsesSigned w64 10 word r → ((x : ℤ) → r ≡ Ok x → ⊥) → (n : ℤ) → IsInt word n → ⊥
no_int word r parses not n is = not n (int_read word n r parses is)

pub other_int : {E : Type 0} (word spelled : List ℕ) (r : Result ℤ E) (m k : ℤ) → ParsesSigned w64 10 word r → r ≡ Ok m → spelled ≡ signed_decimal k → (FitsSigned w64 m → k ≡ m) → bytes_eq spelled word ≡ false → (n : ℤ) → IsInt word n → ⊥
other_int word spelled r m k parses read shown same_number other n is =
    let both : Ok n ≡ Ok m = sym (int_read word n r parses is) ∙ read in
    let same : n ≡ m = cc both in
    found_equal spelled word (shown ∙ (ap signed_decimal (same_number (subst (FitsSigned w64) same is.1) ∙ sym same) ∙ sym is.0)) other

-- ---- no int begins with two minus signs

no_minus : (n : ℕ) (bs : List ℕ) → n < 2 ^ 64 → decimal n ≡ 45 ∷ bs → ⊥
no_minus n bs small e =
    let digits = subst (IsNumeral 10) e (decimal_is_IsNumeral n small).0 in
    let first : 36 < 10 = digits.1.0 in
    omega arith

pub no_minuses : (n : ℤ) (bs : List ℕ) → IsInt (45 ∷ 45 ∷ bs) n → ⊥
no_minuses (pos n) bs is =
    let small : n < 2 ^ 63 = is.1.sfits in
    no_minus n (45 ∷ bs) (omega arith) (sym is.0)
no_minuses (negsuc n) bs is =
    let small : n < 2 ^ 63 = is.1.sfits in
    let rest : 45 ∷ bs ≡ decimal (suc n) = cc is.0 in
    no_minus (suc n) bs (omega arith) (sym rest)

-- ---- lists of ints

-- the first word is an int
pub first_int : {word : List ℕ} {words : List (List ℕ)} {ints : List ℤ} → AreInts (word ∷ words) ints → (n : ℤ) × (ns : List ℤ) × (ints ≡ n ∷ ns) × IsInt word n × AreInts words ns
first_int (more {n = n} {ns = ns} is are) = (n, ns, refl, is, are)

-- and so is a later one
later_int : (before : List (List ℕ)) (word : List ℕ) (rest : List (List ℕ)) (ints : List ℤ) → AreInts (before ++ word ∷ rest) ints → (n : ℤ) × IsInt word n
later_int [] word rest ints are = let first = first_int are in (first.0, first.3)
later_int (b ∷ before) word rest ints are = let first = first_int are in later_int before word rest first.1 first.4

-- as many as there are words
pub as_many : {words : List (List ℕ)} {ints : List ℤ} → AreInts words ints → length ints ≡ length words
as_many none = refl
as_many (more is are) = let ih = as_many are in omega arith

pub one_more : {words : List (List ℕ)} {ints : List ℤ} → AreInts words ints → {word : List ℕ} {n : ℤ} → IsInt word n → AreInts (words ++ word ∷ []) (ints ++ n ∷ [])
one_more none last = more last none
one_more (more is are) last = more is (one_more are last)

-- words are ints in one way
pub one_ints : {words : List (List ℕ)} {ints others : List ℤ} → AreInts words ints → AreInts words others → ints ≡ others
one_ints none none = refl
one_ints (more {word = word} {n = n} {ns = ns} is are) also =
    let first = first_int also in
    let both : signed_decimal n ≡ signed_decimal first.0 = sym is.0 ∙ first.3.0 in
    let same : n ≡ first.0 = signed_decimal_injective n first.0 is.1.sfits first.3.1.sfits both in
    let rest : ns ≡ first.1 = one_ints are first.4 in
    let all : n ∷ ns ≡ first.0 ∷ first.1 = cc (same, rest) in
    all ∙ sym first.2

-- the words before are at most eight ints, and this one is none, unless it is the ninth
pub wrong_int : (before : List (List ℕ)) (word : List ℕ) (rest : List (List ℕ)) (ints : List ℤ) → AreInts before ints → length before ≤ 8 → ((n : ℤ) → IsInt word n → length before ≡ 8) → IsWrongIn MayBeInts (before ++ word ∷ rest) (length before + 1)
wrong_int before word rest ints are few other =
    let count = as_many are in
    let front : AreInts (before ++ []) ints = subst (λ ws. AreInts ws ints) (sym (append-nil before)) are in
    wrong_word MayBeInts before word rest ([], (ints, front, omega arith)) (λ after h.
    let last = later_int before word after h.0 h.1 in
    let eight : length before ≡ 8 = other last.0 last.1 in
    let all = as_many h.1 in
    let most = h.2 in
    let sum = length-append before (word ∷ after) in
    omega arith)

-- ---- the same at a place of the words

module _ (words : List (List ℕ)) (k : ℕ) (word : List ℕ) (has : k < length words) (at : word ≡ get_or words k word) where
  cut_there : take k words ++ word ∷ drop (suc k) words ≡ words
  cut_there =
      let cons : drop k words ≡ word ∷ drop (suc k) words = drop-cons words k word has ∙ ap (λ w. w ∷ drop (suc k) words) (sym at) in
      ap (λ l. take k words ++ l) (sym cons) ∙ take-append-drop k words

  pub ints_with : (ints : List ℤ) (n : ℤ) → AreInts (take k words) ints → IsInt word n → AreInts (take (k + 1) words) (ints ++ n ∷ [])
  ints_with ints n are is =
      let count = length-take-le k words (omega arith) in
      let more_by_one : take (k + 1) words ≡ take k words ++ word ∷ [] =
      ap (λ l. take (k + 1) l) (sym cut_there) ∙ (ap (λ m. take (m + 1) (take k words ++ word ∷ drop (suc k) words)) (sym count) ∙ take-append-add (take k words) (word ∷ drop (suc k) words) 1) in
      subst (λ ws. AreInts ws (ints ++ n ∷ [])) (sym more_by_one) (one_more are is)

  pub wrong_int_at : (ints : List ℤ) → AreInts (take k words) ints → k ≤ 8 → ((n : ℤ) → IsInt word n → k ≡ 8) → IsWrongIn MayBeInts words (k + 1)
  wrong_int_at ints are few other =
      let count = length-take-le k words (omega arith) in
      let wrong = wrong_int (take k words) word (drop (suc k) words) ints are (omega arith) (λ n is. count ∙ other n is) in
      subst (λ ws. IsWrongIn MayBeInts ws (k + 1)) cut_there (subst (λ m. IsWrongIn MayBeInts (take k words ++ word ∷ drop (suc k) words) (m + 1)) count wrong)
