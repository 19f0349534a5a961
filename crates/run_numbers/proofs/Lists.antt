-- Lists of names by processors, and maps whose names they number.
use Rattle.std.proofs.Common.{◌≡◌, ◌≢◌, ◌⊎◌, inl, inr, ⊎_elim, ℕ, zero, suc, List, [], ◌∷◌, ◌++◌, length, Option, Some, None, refl, sym, ap, ◌∙◌, subst}
use Rattle.std.specs.Prelude.{slice_get}
use Rattle.std.specs.FinMap as fin
use Rattle.cc_core.specs.Names.{Name, name_cmp, Map}
use Rattle.cc_core.specs.Numbers.{listed, listing}
use Rattle.cc_core.proofs.Maps.{cases_name, get_same, get_other}
use Rattle.run_numbers.specs.RunNumbers.{IsListed, AreNumbered, NumbersStay}

module _ {A : Type 0} where
  pub pushed_case : (xs : List A) (y x : A) (k : ℕ) → slice_get (xs ++ y ∷ []) k ≡ Some x → (slice_get xs k ≡ Some x) ⊎ ((k ≡ length xs) × (x ≡ y))
  pushed_case [] y x zero h = let e : x ≡ y = cc in inr (refl, e)
  pushed_case [] y x (suc k) h = let f : None ≡ Some x = h in cc
  pushed_case (z ∷ xs) y x zero h = inl h
  pushed_case (z ∷ xs) y x (suc k) h = ⊎_elim
      (λ (a : slice_get xs k ≡ Some x). inl a)
      (λ (b : (k ≡ length xs) × (x ≡ y)). inr (ap suc b.0, b.1))
      (pushed_case xs y x k h)

  pub pushed_old : (xs ys : List A) (x : A) (k : ℕ) → slice_get xs k ≡ Some x → slice_get (xs ++ ys) k ≡ Some x
  pushed_old [] ys x k h = let f : None ≡ Some x = h in cc
  pushed_old (z ∷ xs) ys x zero h = h
  pushed_old (z ∷ xs) ys x (suc k) h = pushed_old xs ys x k h

  pub pushed_new : (xs : List A) (y : A) → slice_get (xs ++ y ∷ []) (length xs) ≡ Some y
  pushed_new [] y = refl
  pushed_new (z ∷ xs) y = pushed_new xs y

abbrev pub names_in : Option (List Name) → List Name
names_in o = elim o [ None ↦ [] | Some ts ↦ ts ]

pub listed_same : (lists : Map (List Name)) (q x : Name) → listed (listing lists q x) q ≡ listed lists q ++ x ∷ []
listed_same lists q x = ap names_in (get_same lists q (listed lists q ++ x ∷ []))

pub listed_other : (lists : Map (List Name)) (q x r : Name) → r ≢ q → listed (listing lists q x) r ≡ listed lists r
listed_other lists q x r ne = ap names_in (get_other lists q (listed lists q ++ x ∷ []) r ne)

pub listed_empty : (q : Name) → listed fin.empty q ≡ []
listed_empty q = ap names_in (fin.get-empty name_cmp q)

module _ (lists : Map (List Name)) (q x : Name) where
  at : (r : Name) → r ≡ q → listed (listing lists q x) r ≡ listed lists q ++ x ∷ []
  at r e = ap (listed (listing lists q x)) e ∙ listed_same lists q x

  pub case : (r : Name) (k : ℕ) (y : Name) → IsListed (listing lists q x) r k y
      → IsListed lists r k y ⊎ ((r ≡ q) × (k ≡ length (listed lists q)) × (y ≡ x))
  case r k y h = ⊎_elim
      (λ (e : r ≡ q). ⊎_elim
      (λ (b : slice_get (listed lists q) k ≡ Some y). inl (subst (λ (u : Name). slice_get (listed lists u) k ≡ Some y) (sym e) b))
      (λ (b : (k ≡ length (listed lists q)) × (y ≡ x)). inr (e, b.0, b.1))
      (pushed_case (listed lists q) x y k (sym (ap (λ (us : List Name). slice_get us k) (at r e)) ∙ h)))
      (λ (ne : r ≢ q). inl (sym (ap (λ (us : List Name). slice_get us k) (listed_other lists q x r ne)) ∙ h))
      (cases_name r q)

  pub listing_keeps : NumbersStay lists (listing lists q x)
  listing_keeps = λ r k y h. ⊎_elim
      (λ (e : r ≡ q). ap (λ (us : List Name). slice_get us k) (at r e)
      ∙ pushed_old (listed lists q) (x ∷ []) y k (subst (λ (u : Name). slice_get (listed lists u) k ≡ Some y) e h))
      (λ (ne : r ≢ q). ap (λ (us : List Name). slice_get us k) (listed_other lists q x r ne) ∙ h)
      (cases_name r q)

  newest : IsListed (listing lists q x) q (length (listed lists q)) x
  newest = ap (λ (us : List Name). slice_get us (length (listed lists q))) (listed_same lists q x) ∙ pushed_new (listed lists q) x

  -- one more thing, under a free name
  module _ {X : Type 0} (things : Map X) (are : AreNumbered lists things) (a : X) (free : fin.get things x ≡ None) where
    apart : (r : Name) (k : ℕ) (y : Name) → IsListed lists r k y → y ≢ x
    apart r k y h e =
        let there = are.named r k y h in
        let both : None ≡ Some there.0 = sym free ∙ (sym (ap (fin.get things) e) ∙ there.1) in
        cc

    pub one_more : AreNumbered (listing lists q x) (fin.insert things x a)
    one_more = record {
      numbered = λ y b h. ⊎_elim
          (λ (e : y ≡ x). (
            q,
            length (listed lists q),
            subst (λ (u : Name). IsListed (listing lists q x) q (length (listed lists q)) u) (sym e) newest,
          ))
          (λ (ne : y ≢ x).
          let w = are.numbered y b (sym (get_other things x a y ne) ∙ h) in
          (w.0, w.1, listing_keeps w.0 w.1 y w.2))
          (cases_name y x);
      named = λ r k y h. ⊎_elim
          (λ (o : IsListed lists r k y). let w = are.named r k y o in (w.0, get_other things x a y (apart r k y o) ∙ w.1))
          (λ (b : (r ≡ q) × (k ≡ length (listed lists q)) × (y ≡ x)). (a, ap (fin.get (fin.insert things x a)) b.2 ∙ get_same things x a))
          (case r k y h);
      once = λ r u k j y h g. ⊎_elim
          (λ (o : IsListed lists r k y). ⊎_elim
          (λ (o' : IsListed lists u j y). are.once r u k j y o o')
          (λ (b : (u ≡ q) × (j ≡ length (listed lists q)) × (y ≡ x)). absurd (apart r k y o b.2))
          (case u j y g))
          (λ (b : (r ≡ q) × (k ≡ length (listed lists q)) × (y ≡ x)). ⊎_elim
          (λ (o' : IsListed lists u j y). absurd (apart u j y o' b.2))
          (λ (b' : (u ≡ q) × (j ≡ length (listed lists q)) × (y ≡ x)). (b.0 ∙ sym b'.0, b.1 ∙ sym b'.1))
          (case u j y g))
          (case r k y h);
    }

module _ {X : Type 0} (lists : Map (List Name)) (things : Map X) (are : AreNumbered lists things) where
  -- other things under the same names
  pub same_names : (others : Map X) → ((x : Name) (a : X) → fin.get others x ≡ Some a → (b : X) × (fin.get things x ≡ Some b))
      → ((x : Name) (a : X) → fin.get things x ≡ Some a → (b : X) × (fin.get others x ≡ Some b)) → AreNumbered lists others
  same_names others back forth = record {
    numbered = λ x a h. let w = back x a h in are.numbered x w.0 w.1;
    named = λ q k x h. let w = are.named q k x h in forth x w.0 w.1;
    once = are.once;
  }

  pub replaced : (t : Name) (before after : X) → fin.get things t ≡ Some before → AreNumbered lists (fin.insert things t after)
  replaced t before after there = same_names (fin.insert things t after)
      (λ x a h. ⊎_elim
      (λ (e : x ≡ t). (before, ap (fin.get things) e ∙ there))
      (λ (ne : x ≢ t). (a, sym (get_other things t after x ne) ∙ h))
      (cases_name x t))
      (λ x a h. ⊎_elim
      (λ (e : x ≡ t). (after, ap (fin.get (fin.insert things t after)) e ∙ get_same things t after))
      (λ (ne : x ≢ t). (a, get_other things t after x ne ∙ h))
      (cases_name x t))

abbrev nothing : (X : Type 0) → Map X
nothing X = fin.empty

-- nothing is numbered
pub none_numbered : {X : Type 0} → AreNumbered {X = X} fin.empty fin.empty
none_numbered {X} = record {
  numbered = λ x a h. absurd (absent x a h);
  named = λ q k x h. absurd (unlisted q k x h);
  once = λ q r k j x h g. absurd (unlisted q k x h);
}
  where
    absent : (x : Name) (a : X) → fin.get (nothing X) x ≡ Some a → ⊥
    absent x a h = let f : None ≡ Some a = sym (fin.get-empty name_cmp x) ∙ h in cc

    unlisted : (q : Name) (k : ℕ) (x : Name) → IsListed fin.empty q k x → ⊥
    unlisted q k x h = let f : None ≡ Some x = sym (ap (λ (us : List Name). slice_get us k) (listed_empty q)) ∙ h in cc
