-- Numbers are given in the order of the text.
use Rattle.std.proofs.Common.{◌≡◌, ℕ, suc, ◌+◌, List, [], ◌∷◌, ◌++◌, length, refl, sym, ap, ◌∙◌, subst, arith}
use Rattle.std.specs.Prelude.{slice_get, bytes_eq, codes}
use Rattle.cc_names.specs.declared.declarations.Entity.{Entity}
use Rattle.cc_names.specs.declared.declarations.Entity.TheVariants as entity
use Rattle.cc_names.specs.Declarations.{file, file_from, after_methods}
use Rattle.cc_names.specs.Table.{Declared, declared}
use Rattle.cc_scopes.specs.Scope.{Context}
use Rattle.cc_tables.specs.Tables.{methods, functions_of, signature}
use Rattle.cc_tree.specs.declared.declarations.Function.{Function}
use Rattle.cc_tree.specs.declared.declarations.Item.{Item}
use Rattle.cc_tree.specs.declared.declarations.Item.TheVariants as item
use Rattle.cc_tree.specs.declared.declarations.Member.{Member}
use Rattle.cc_tree.specs.declared.declarations.Member.TheVariants as member
use Rattle.law_tables.specs.Ids.{constants_in, classes_in, methods_in, functions_in, entity_behind, StandsBetween, HasOwnSignature}

after_is : (f : ℕ) (ms : List Member) → after_methods f ms ≡ f + methods_in ms
after_is f [] = omega arith
after_is f (member.Field field ∷ ms) = after_is f ms
after_is f (member.Func function ∷ ms) = let rest : after_methods (f + 1) ms ≡ f + 1 + methods_in ms = after_is (f + 1) ms in omega (arith, rest)
after_is f (member.Build name params body line ∷ ms) = after_is f ms

-- ---- names

-- what the name of an item stands for after so many
abbrev entity_at : (k c f : ℕ) → Item → Declared Entity
entity_at k c f (item.Const name value line) = declared name line (entity.Constant k)
entity_at k c f (item.Class class) = declared class.name class.line (entity.Class (record { 0 = c }))
entity_at k c f (item.Func function) = declared function.name function.line (entity.Function (record { 0 = f }))

abbrev Between : (k c f : ℕ) → (k' c' f' : ℕ) → List Item → Item → List Item → Type 0
Between k c f k' c' f' before x after =
    (rest : List (Declared Entity)) × (file_from k c f (before ++ x ∷ after) ≡ file_from k c f before ++ entity_at k' c' f' x ∷ rest)

first : (k c f : ℕ) (x : Item) (after : List Item) → Between k c f k c f [] x after
first k c f (item.Const name value line) after = (file_from (k + 1) c f after, refl)
first k c f (item.Class class) after = (file_from k (c + 1) (after_methods f class.members) after, refl)
first k c f (item.Func function) after = (file_from k c (f + 1) after, refl)

moved : (k c f k' c' f' k'' c'' f'' : ℕ) (before : List Item) (x : Item) (after : List Item) → k' ≡ k'' → c' ≡ c'' → f' ≡ f''
    → Between k c f k' c' f' before x after → Between k c f k'' c'' f'' before x after
moved k c f k' c' f' k'' c'' f'' before x after p q r b =
    subst (λ n. Between k c f n c'' f'' before x after) p
    (subst (λ n. Between k c f k' n f'' before x after) q (subst (λ n. Between k c f k' c' n before x after) r b))

between : (k c f : ℕ) (before : List Item) (x : Item) (after : List Item)
    → Between k c f (k + constants_in before) (c + classes_in before) (f + functions_in before) before x after
between k c f [] x after = moved k c f k c f (k + 0) (c + 0) (f + 0) [] x after (omega arith) (omega arith) (omega arith) (first k c f x after)
between k c f (item.Const name value line ∷ before) x after =
    let b = between (k + 1) c f before x after in
    let d = declared name line (entity.Constant k) in
    moved k c f (k + 1 + constants_in before) (c + classes_in before) (f + functions_in before)
    (k + (1 + constants_in before)) (c + classes_in before) (f + functions_in before)
    (item.Const name value line ∷ before) x after (omega arith) refl refl (b.0, ap (λ z. d ∷ z) b.1)
between k c f (item.Class class ∷ before) x after =
    let g = after_methods f class.members in
    let same : g ≡ f + methods_in class.members = after_is f class.members in
    let b = between k (c + 1) g before x after in
    let d = declared class.name class.line (entity.Class (record { 0 = c })) in
    moved k c f (k + constants_in before) (c + 1 + classes_in before) (g + functions_in before)
    (k + constants_in before) (c + (1 + classes_in before)) (f + (methods_in class.members + functions_in before))
    (item.Class class ∷ before) x after refl (omega arith) (omega (arith, same)) (b.0, ap (λ z. d ∷ z) b.1)
between k c f (item.Func function ∷ before) x after =
    let b = between k c (f + 1) before x after in
    let d = declared function.name function.line (entity.Function (record { 0 = f })) in
    moved k c f (k + constants_in before) (c + classes_in before) (f + 1 + functions_in before)
    (k + constants_in before) (c + classes_in before) (f + (1 + functions_in before))
    (item.Func function ∷ before) x after refl refl (omega arith) (b.0, ap (λ z. d ∷ z) b.1)

same_entity : (before : List Item) (x : Item) → entity_at (0 + constants_in before) (0 + classes_in before) (0 + functions_in before) x ≡ entity_behind before x
same_entity before (item.Const name value line) = ap (λ n. declared name line (entity.Constant n)) (omega arith)
same_entity before (item.Class class) = ap (λ n. declared class.name class.line (entity.Class (record { 0 = n }))) (omega arith)
same_entity before (item.Func f) = ap (λ n. declared f.name f.line (entity.Function (record { 0 = n }))) (omega arith)

pub stands_between : (before : List Item) (x : Item) (after : List Item) → StandsBetween before x after
stands_between before x after =
    let b = between 0 0 0 before x after in
    (b.0, b.1 ∙ ap (λ d. file before ++ d ∷ b.0) (same_entity before x))

-- ---- signatures

got_behind : {A : Type 0} (xs ys : List A) (k : ℕ) → slice_get (xs ++ ys) (length xs + k) ≡ slice_get ys k
got_behind [] ys k = ap (λ n. slice_get ys n) (omega arith)
got_behind (x ∷ xs) ys k =
    let same : length (x ∷ xs) + k ≡ suc (length xs + k) = omega arith in
    ap (λ n. slice_get (x ∷ (xs ++ ys)) n) same ∙ got_behind xs ys k

methods_counted : (cx : Context) (ms : List Member) → length (methods cx ms) ≡ methods_in ms
methods_counted cx [] = refl
methods_counted cx (member.Field d ∷ ms) = methods_counted cx ms
methods_counted cx (member.Func f ∷ ms) = let rest : length (methods cx ms) ≡ methods_in ms = methods_counted cx ms in omega (arith, rest)
methods_counted cx (member.Build name params body line ∷ ms) = methods_counted cx ms

next_is : {A : Type 0} (x : A) (xs : List A) (k : ℕ) → slice_get (x ∷ xs) (1 + k) ≡ slice_get xs k
next_is x xs k = let same : 1 + k ≡ suc k = omega arith in ap (λ n. slice_get (x ∷ xs) n) same

pub own_signature : (cx : Context) (before : List Item) (f : Function) (after : List Item) → HasOwnSignature cx before f after
own_signature cx [] f after = refl
own_signature cx (item.Const name value line ∷ before) f after = own_signature cx before f after
own_signature cx (item.Class class ∷ before) f after =
    let more = functions_of cx (before ++ item.Func f ∷ after) in
    sym (ap (λ n. slice_get (methods cx class.members ++ more) (n + functions_in before)) (methods_counted cx class.members))
    ∙ (got_behind (methods cx class.members) more (functions_in before) ∙ own_signature cx before f after)
own_signature cx (item.Func function ∷ before) f after =
    next_is (signature cx (bytes_eq function.name (codes "main")) function) (functions_of cx (before ++ item.Func f ∷ after)) (functions_in before)
    ∙ own_signature cx before f after
