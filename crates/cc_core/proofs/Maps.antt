-- Finite maps over names: what a map has at a name after entries were put in, and when the order of puts does not matter.
use Rattle.std.proofs.Common.{◌≡◌, ◌≢◌, ◌⊎◌, ℕ, ◌+◌, ◌≤◌, true, false, cond, List, [], ◌∷◌, Some, refl, sym, ap}
use Rattle.std.proofs.Common.{subst, ◌∙◌, ⊎_elim, inl, inr, arith}
use Rattle.std.proofs.lemmas.Bool.{cases_Bool, cases_eq}
use Rattle.std.specs.Ordering.{eq_by_cmp, is_eq}
use Rattle.std.specs.declared.cmp.Ordering.{Ordering}
use Rattle.std.specs.declared.cmp.Ordering.TheVariants.{Less, Equal, Greater}
use Rattle.std.specs.Cmp.{eq_by_cmp_equiv}
use Rattle.std.specs.Cmp.Lexicographic.{nat_list_cmp_total}
use Rattle.std.specs.FinMap as fin
use Rattle.cc_core.specs.Names.{Name, name_cmp, Map, puts, or_zero, count, added}

-- names that compare as equal are equal
tied_names : (a b : Name) → name_cmp a b ≡ Equal → a ≡ b
tied_names = fin.slice_cmp-IsAntisymmetric fin.nat_cmp-IsAntisymmetric

-- two names are equal or not
pub cases_name : (a b : Name) → (a ≡ b) ⊎ (a ≢ b)
cases_name [] [] = inl refl
cases_name [] (y ∷ b) = inr (λ e. cc)
cases_name (x ∷ a) [] = inr (λ e. cc)
cases_name (x ∷ a) (y ∷ b) = ⊎_elim
    (λ (e : x ≡ y). ⊎_elim (λ (f : a ≡ b). inl cc) (λ (f : a ≢ b). inr (λ g. let h : a ≡ b = cc in f h)) (cases_name a b))
    (λ (e : x ≡ y → ⊥). inr (λ g. let h : x ≡ y = cc in e h))
    (cases_eq x y)

tied : (q k : Name) (o : Ordering) → name_cmp q k ≡ o → is_eq o ≡ true → q ≡ k
tied q k Less e h = let f : false ≡ true = h in cc
tied q k Equal e h = tied_names q k e
tied q k Greater e h = let f : false ≡ true = h in cc

module _ {X : Type 0} where
  pub get_same : (m : Map X) (k : Name) (v : X) → fin.get (fin.insert m k v) k ≡ Some v
  get_same m k v =
      fin.get-insert nat_list_cmp_total m k v k ∙ ap (λ b. cond b (Some v) (fin.get m k)) ((eq_by_cmp_equiv nat_list_cmp_total).refl k)

  pub get_other : (m : Map X) (k : Name) (v : X) (q : Name) → q ≢ k → fin.get (fin.insert m k v) q ≡ fin.get m q
  get_other m k v q ne = ⊎_elim
      (λ (e : eq_by_cmp name_cmp q k ≡ true). absurd (ne (tied q k _ refl e)))
      (λ (e : eq_by_cmp name_cmp q k ≡ false).
      fin.get-insert nat_list_cmp_total m k v q ∙ ap (λ b. cond b (Some v) (fin.get m q)) e)
      (cases_Bool (eq_by_cmp name_cmp q k))

  pub same_map : (m n : Map X) → ((q : Name) → fin.get m q ≡ fin.get n q) → m ≡ n
  same_map m n h = fin.same_map nat_list_cmp_total tied_names m n h

  -- some entry has this name; this is one of the entries
  abbrev pub IsKey : Name → List (Name × X) → Type 0
  IsKey q [] = ⊥
  IsKey q (e ∷ es) = (q ≡ e.0) ⊎ IsKey q es

  abbrev pub IsEntry : Name → X → List (Name × X) → Type 0
  IsEntry q x [] = ⊥
  IsEntry q x (e ∷ es) = ((q ≡ e.0) × (x ≡ e.1)) ⊎ IsEntry q x es

  pub key_of_entry : (q : Name) (x : X) (es : List (Name × X)) → IsEntry q x es → IsKey q es
  key_of_entry q x [] h = h
  key_of_entry q x (e ∷ es) h =
      ⊎_elim (λ (a : (q ≡ e.0) × (x ≡ e.1)). inl a.0) (λ (b : IsEntry q x es). inr (key_of_entry q x es b)) h

  -- after entries were put in a name has what it had, or what one of them has
  pub puts_case : (es : List (Name × X)) (m : Map X) (q : Name)
      → (fin.get (puts es m) q ≡ fin.get m q) ⊎ ((x : X) × IsEntry q x es × (fin.get (puts es m) q ≡ Some x))
  puts_case [] m q = inl refl
  puts_case (e ∷ es) m q = ⊎_elim
      (λ (a : fin.get (puts es (fin.insert m e.0 e.1)) q ≡ fin.get (fin.insert m e.0 e.1) q). ⊎_elim
      (λ (f : q ≡ e.0). inr (
        e.1,
        inl (f, refl),
        a ∙ subst (λ x. fin.get (fin.insert m e.0 e.1) x ≡ Some e.1) (sym f) (get_same m e.0 e.1),
      ))
      (λ (f : q ≢ e.0). inl (a ∙ get_other m e.0 e.1 q f))
      (cases_name q e.0))
      (λ (b : (x : X) × IsEntry q x es × (fin.get (puts es (fin.insert m e.0 e.1)) q ≡ Some x)). inr (b.0, inr b.1, b.2))
      (puts_case es (fin.insert m e.0 e.1) q)

  pub puts_other : (es : List (Name × X)) (m : Map X) (q : Name) → (IsKey q es → ⊥) → fin.get (puts es m) q ≡ fin.get m q
  puts_other es m q none = ⊎_elim
      (λ (a : fin.get (puts es m) q ≡ fin.get m q). a)
      (λ (b : (x : X) × IsEntry q x es × (fin.get (puts es m) q ≡ Some x)). absurd (none (key_of_entry q b.0 es b.1)))
      (puts_case es m q)

  pub entry_of_key : (q : Name) (es : List (Name × X)) → IsKey q es → (x : X) × IsEntry q x es
  entry_of_key q [] h = absurd h
  entry_of_key q (e ∷ es) h =
      ⊎_elim (λ (a : q ≡ e.0). (e.1, inl (a, refl))) (λ (b : IsKey q es). let g = entry_of_key q es b in (g.0, inr g.1)) h

  -- a name of an entry has what some entry of that name has
  pub puts_key : (es : List (Name × X)) (m : Map X) (q : Name) → IsKey q es → (x : X) × IsEntry q x es × (fin.get (puts es m) q ≡ Some x)
  puts_key [] m q h = absurd h
  puts_key (e ∷ es) m q h = ⊎_elim
      (λ (f : q ≡ e.0). ⊎_elim
      (λ (a : fin.get (puts es (fin.insert m e.0 e.1)) q ≡ fin.get (fin.insert m e.0 e.1) q). (
        e.1,
        inl (f, refl),
        a ∙ subst (λ x. fin.get (fin.insert m e.0 e.1) x ≡ Some e.1) (sym f) (get_same m e.0 e.1),
      ))
      (λ (b : (x : X) × IsEntry q x es × (fin.get (puts es (fin.insert m e.0 e.1)) q ≡ Some x)). (b.0, inr b.1, b.2))
      (puts_case es (fin.insert m e.0 e.1) q))
      (λ (b : IsKey q es). let r = puts_key es (fin.insert m e.0 e.1) q b in (r.0, inr r.1, r.2))
      h

-- counts are raised, and at one processor alone
pub count-added_same : (m : Map ℕ) (q : Name) (n : ℕ) → count (added m q n) q ≡ count m q + n
count-added_same m q n = ap or_zero (get_same m q (count m q + n))

pub count-added_other : (m : Map ℕ) (q r : Name) (n : ℕ) → r ≢ q → count (added m q n) r ≡ count m r
count-added_other m q r n ne = ap or_zero (get_other m q (count m q + n) r ne)

pub count-added : (m : Map ℕ) (q r : Name) (n : ℕ) → count m r ≤ count (added m q n) r
count-added m q r n = ⊎_elim
    (λ (e : r ≡ q). subst (λ x. count m x ≤ count (added m q n) x) (sym e) (let a = count-added_same m q n in omega arith))
    (λ (e : r ≢ q). let a = count-added_other m q r n e in omega arith)
    (cases_name r q)
