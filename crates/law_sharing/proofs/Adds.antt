-- Readings that break these rules by where something stands.
use Rattle.std.proofs.Common.{◌≡◌, ℕ, Bool, true, false, cond, List, [], ◌∷◌, ◌++◌, refl, sym, ap, ◌∙◌, append-nil, append_assoc}
use Rattle.cc_names.specs.Table.{Name}
use Rattle.cc_names.specs.declared.broken.Broken.{Broken}
use Rattle.cc_scopes.specs.declared.sharing.Share.{Share}
use Rattle.cc_scopes.specs.declared.state.State.{State}
use Rattle.cc_scopes.specs.declared.types.Declared.{Declared}
use Rattle.cc_scopes.specs.Elab.{Elab, ◌>>=◌, ◌>>◌, pure, note, block, leave}
use Rattle.cc_scopes.specs.Scope.{Context, is_here, twice, bring, number, declare}
use Rattle.cc_names.specs.declared.broken.Broken.TheVariants.{Rule}
use Rattle.cc_names.specs.declared.rule.StaticRule.TheVariants.{LocalTwice}
use Rattle.law_sharing.specs.Addresses.{AreAddresses}
use Rattle.law_sharing.specs.Placed.{is_placed, placed}
use Rattle.law_sharing.proofs.Leaves.{Leaves}

pub record Adds (xs : List Share) {A : Type 0} (p : Elab A) : Type 0 where
  pub adds : (s : State) → placed (p s).1.shared ≡ placed s.shared ++ xs

-- ---- lists

kept : (b : Bool) (share : Share) (xs ys : List Share) → cond b (share ∷ (xs ++ ys)) (xs ++ ys) ≡ cond b (share ∷ xs) xs ++ ys
kept true share xs ys = refl
kept false share xs ys = refl

pub placed_append : (xs ys : List Share) → placed (xs ++ ys) ≡ placed xs ++ placed ys
placed_append [] ys = refl
placed_append (x ∷ xs) ys = ap (λ z. cond (is_placed x.rule) (x ∷ z) z) (placed_append xs ys) ∙ kept (is_placed x.rule) x (placed xs) (placed ys)

no_addresses : (line : ℕ) (xs : List Share) → AreAddresses line xs → placed xs ≡ []
no_addresses line [] p = refl
no_addresses line (x ∷ xs) p = ap (λ r. cond (is_placed r) (x ∷ placed xs) (placed xs)) p.0 ∙ no_addresses line xs p.2

-- ---- readings

pub leaves_adds : {line : ℕ} {A : Type 0} {p : Elab A} → Leaves line p → Adds [] p
leaves_adds {line = line} {p = p} l = record {
  adds = λ s. let w = (l.leaves s).addresses in
      ap placed w.1 ∙ (placed_append s.shared w.0 ∙ ap (λ z. placed s.shared ++ z) (no_addresses line w.0 w.2));
}

pub bind_a : {A B : Type 0} {p : Elab A} {f : A → Elab B} {xs ys : List Share} → Adds xs p → ((a : A) → Adds ys (f a)) → Adds (xs ++ ys) (p >>= f)
bind_a {p = p} {xs = xs} {ys = ys} l m = record {
  adds = λ s. (m (p s).0).adds (p s).1 ∙ (ap (λ z. z ++ ys) (l.adds s) ∙ append_assoc (placed s.shared) xs ys);
}

-- the first adds nothing
pub skip : {A B : Type 0} {p : Elab A} {f : A → Elab B} {ys : List Share} → Adds [] p → ((a : A) → Adds ys (f a)) → Adds ys (p >>= f)
skip l m = bind_a l m

pub skip_n : {A B : Type 0} {p : Elab A} {q : Elab B} {ys : List Share} → Adds [] p → Adds ys q → Adds ys (p >> q)
skip_n l m = bind_a l (λ a. m)

pub same_adds : {A : Type 0} {p : Elab A} {xs ys : List Share} → xs ≡ ys → Adds xs p → Adds ys p
same_adds {p = p} is l = record { adds = λ s. l.adds s ∙ ap (λ z. placed s.shared ++ z) is }

-- what follows adds nothing
pub last : {A B : Type 0} {p : Elab A} {f : A → Elab B} {xs : List Share} → Adds xs p → ((a : A) → Adds [] (f a)) → Adds xs (p >>= f)
last {xs = xs} l m = same_adds (append-nil xs) (bind_a l m)

pub last_n : {A B : Type 0} {p : Elab A} {q : Elab B} {xs : List Share} → Adds xs p → Adds [] q → Adds xs (p >> q)
last_n {xs = xs} l m = same_adds (append-nil xs) (bind_a l (λ a. m))

pub done_a : {A : Type 0} (a : A) → Adds [] (pure a)
done_a a = record { adds = λ s. sym (append-nil (placed s.shared)) }

pub looking_a : {A : Type 0} {xs : List Share} (p : State → Elab A) → ((s : State) → Adds xs (p s)) → Adds xs (λ s. p s s)
looking_a p l = record { adds = λ s. (l s).adds s }

pub either_a : {A : Type 0} {xs : List Share} (b : Bool) (p q : Elab A) → Adds xs p → Adds xs q → Adds xs (cond b p q)
either_a true p q l m = l
either_a false p q l m = m

pub note_a : (b : Broken) → Adds [] (note b)
note_a b = record { adds = λ s. sym (append-nil (placed s.shared)) }

pub block_a : (line : ℕ) → Adds [] (block line)
block_a line = record { adds = λ s. sym (append-nil (placed s.shared)) }

pub leave_a : (start : ℕ) → Adds [] (leave start)
leave_a start = record { adds = λ s. sym (append-nil (placed s.shared)) }

pub bring_a : (cx : Context) (name : Name) (k : ℕ) (d : Declared) → Adds [] (bring cx name k d)
bring_a cx name k d = record { adds = λ s. sym (append-nil (placed s.shared)) }

number_a : (d : Declared) → Adds [] (number d)
number_a d = record { adds = λ s. sym (append-nil (placed s.shared)) }

noted_or_not : (b : Bool) (x : Broken) (s : State) → placed (cond b (note x s) (tt, s)).1.shared ≡ placed s.shared ++ []
noted_or_not true x s = sym (append-nil (placed s.shared))
noted_or_not false x s = sym (append-nil (placed s.shared))

twice_a : (cx : Context) (name : Name) → Adds [] (twice cx name)
unfolding twice
twice_a cx name = record { adds = λ s. noted_or_not (is_here cx name s) (Rule LocalTwice cx.line) s }

pub declare_a : (cx : Context) (name : Name) (d : Declared) → Adds [] (declare cx name d)
unfolding declare
declare_a cx name d = skip_n (twice_a cx name) (skip (number_a d) (λ k. skip_n (bring_a cx name k d) (done_a k)))
