-- Entries, counts and writes of different threads may be made in either order.
use Rattle.std.proofs.Common.{◌≡◌, ◌≢◌, ◌⊎◌, ℕ, zero, suc, ◌+◌, List, [], ◌∷◌, length, Option, Some, None, refl, sym, ap, subst, ◌∙◌, ⊎_elim, inl, inr, arith}
use Rattle.std.specs.Prelude.{slice_get, slice_set}
use Rattle.std.specs.FinMap as fin
use Rattle.std.proofs.lemmas.List.{set_comm}
use Rattle.cc_ops.specs.Values.{Void, Int, Null, Ptr, Result, Gives, Fails, on_gives}
use Rattle.cc_ops.specs.Cells.{written, write_at, write_cell}
use Rattle.cc_core.specs.Names.{Name, Map, Value, Cell, count, added, puts}
use Rattle.cc_core.specs.Config.{Object, Thread, cells_of, put_cells, write_value, write_all, count_threads, count_slots}
use Rattle.cc_core.proofs.Maps.{cases_name, get_same, get_other, same_map, IsKey, puts_other, count-added_same, count-added_other}

module _ {X : Type 0} where
  -- two entries of different names may be put in in either order
  pub swap : (m : Map X) (k j : Name) (v w : X) → k ≢ j → fin.insert (fin.insert m k v) j w ≡ fin.insert (fin.insert m j w) k v
  swap m k j v w ne = same_map _ _ (λ q. ⊎_elim
      (λ (e : q ≡ k). subst (λ x. fin.get (fin.insert (fin.insert m k v) j w) x ≡ fin.get (fin.insert (fin.insert m j w) k v) x) (sym e)
      (get_other (fin.insert m k v) j w k ne ∙ (get_same m k v ∙ sym (get_same (fin.insert m j w) k v))))
      (λ (e : q ≢ k). ⊎_elim
      (λ (f : q ≡ j). subst (λ x. fin.get (fin.insert (fin.insert m k v) j w) x ≡ fin.get (fin.insert (fin.insert m j w) k v) x) (sym f)
      (get_same (fin.insert m k v) j w ∙ sym (get_other (fin.insert m j w) k v j (λ x. ne (sym x)) ∙ get_same m j w)))
      (λ (f : q ≢ j).
      get_other (fin.insert m k v) j w q f
      ∙ (get_other m k v q e ∙ sym (get_other (fin.insert m j w) k v q e ∙ get_other m j w q f)))
      (cases_name q j))
      (cases_name q k))

  pub puts_insert : (es : List (Name × X)) (m : Map X) (k : Name) (v : X) → (IsKey k es → ⊥)
      → puts es (fin.insert m k v) ≡ fin.insert (puts es m) k v
  puts_insert [] m k v none = refl
  puts_insert (e ∷ es) m k v none =
      ap (puts es) (swap m k e.0 v e.1 (λ x. none (inl x))) ∙ puts_insert es (fin.insert m e.0 e.1) k v (λ x. none (inr x))

  -- two lists without a common name may be put in in either order
  pub puts_swap : (es fs : List (Name × X)) (m : Map X) → ((q : Name) → IsKey q es → IsKey q fs → ⊥)
      → puts es (puts fs m) ≡ puts fs (puts es m)
  puts_swap [] fs m apart = refl
  puts_swap (e ∷ es) fs m apart =
      ap (puts es) (sym (puts_insert fs m e.0 e.1 (λ x. apart e.0 (inl refl) x)))
      ∙ puts_swap es fs (fin.insert m e.0 e.1) (λ q a b. apart q (inr a) b)

  pub insert_twice : (m : Map X) (k : Name) (v w : X) → fin.insert (fin.insert m k v) k w ≡ fin.insert m k w
  insert_twice m k v w = same_map _ _ (λ q. ⊎_elim
      (λ (e : q ≡ k). subst (λ x. fin.get (fin.insert (fin.insert m k v) k w) x ≡ fin.get (fin.insert m k w) x) (sym e)
      (get_same (fin.insert m k v) k w ∙ sym (get_same m k w)))
      (λ (e : q ≢ k). get_other (fin.insert m k v) k w q e ∙ (get_other m k v q e ∙ sym (get_other m k w q e)))
      (cases_name q k))

-- counts may be raised in either order
pub added_swap : (m : Map ℕ) (q r : Name) (n k : ℕ) → added (added m q n) r k ≡ added (added m r k) q n
added_swap m q r n k = ⊎_elim
    (λ (e : r ≡ q). subst (λ x. added (added m q n) x k ≡ added (added m x k) q n) (sym e)
    (insert_twice m q (count m q + n) (count (added m q n) q + k)
    ∙ (ap (fin.insert m q) (same q) ∙ sym (insert_twice m q (count m q + k) (count (added m q k) q + n)))))
    (λ (e : r ≢ q).
    ap (λ x. fin.insert (added m q n) r (x + k)) (count-added_other m q r n e)
    ∙ (swap m q r (count m q + n) (count m r + k) (λ x. e (sym x))
    ∙ ap (λ x. fin.insert (added m r k) q (x + n)) (sym (count-added_other m r q k (λ x. e (sym x))))))
    (cases_name r q)
  where
    same : (o : Name) → count (added m o n) o + k ≡ count (added m o k) o + n
    same o = let a = count-added_same m o n in let b = count-added_same m o k in omega (arith, a, b)

threads_added : (es : List (Name × Thread)) (m : Map ℕ) (q : Name) (n : ℕ) → count_threads (added m q n) es ≡ added (count_threads m es) q n
threads_added [] m q n = refl
threads_added (e ∷ es) m q n =
    ap (λ x. count_threads x es) (added_swap m q e.1.home n 1) ∙ threads_added es (added m e.1.home 1) q n

pub threads_swap : (es fs : List (Name × Thread)) (m : Map ℕ)
    → count_threads (count_threads m es) fs ≡ count_threads (count_threads m fs) es
threads_swap es [] m = refl
threads_swap es (f ∷ fs) m =
    ap (λ x. count_threads x fs) (sym (threads_added es m f.1.home 1)) ∙ threads_swap es fs (added m f.1.home 1)

slots_added : (es : List (Name × Object)) (m : Map ℕ) (q : Name) (n : ℕ) → count_slots (added m q n) es ≡ added (count_slots m es) q n
slots_added [] m q n = refl
slots_added (e ∷ es) m q n =
    ap (λ x. count_slots x es) (added_swap m q e.1.home n (length e.1.cells)) ∙ slots_added es (added m e.1.home (length e.1.cells)) q n

pub slots_swap : (es fs : List (Name × Object)) (m : Map ℕ) → count_slots (count_slots m es) fs ≡ count_slots (count_slots m fs) es
slots_swap es [] m = refl
slots_swap es (f ∷ fs) m =
    ap (λ x. count_slots x fs) (sym (slots_added es m f.1.home (length f.1.cells)))
    ∙ slots_swap es fs (added m f.1.home (length f.1.cells))

-- cells

pub get_set_same : (cells : List Cell) (i : ℕ) (c d : Cell) → slice_get cells i ≡ Some d → slice_get (slice_set cells i c) i ≡ Some c
get_set_same [] i c d h = let f : None ≡ Some d = h in cc
get_set_same (b ∷ cells) zero c d h = refl
get_set_same (b ∷ cells) (suc i) c d h = get_set_same cells i c d h

pub get_set_other : (cells : List Cell) (i j : ℕ) (c : Cell) → i ≢ j → slice_get (slice_set cells i c) j ≡ slice_get cells j
get_set_other [] i j c ne = refl
get_set_other (d ∷ cells) zero zero c ne = absurd (ne refl)
get_set_other (d ∷ cells) zero (suc j) c ne = refl
get_set_other (d ∷ cells) (suc i) zero c ne = refl
get_set_other (d ∷ cells) (suc i) (suc j) c ne = get_set_other cells i j c (λ e. ne (ap suc e))

-- a write that may be made
pub record IsWrite (m : Map Object) (o : Name) (x : ℕ) (v : Value) : Type 0 where
  pub object : Object
  pub there : fin.get m o ≡ Some object
  pub old : Cell
  pub cell : slice_get object.cells x ≡ Some old
  pub new : Cell
  pub fits : written old v ≡ Gives new

abbrev pub with_cell : Object → ℕ → Cell → Object
with_cell a x c = record { home = a.home; cells = slice_set a.cells x c }

pub write_is : (m : Map Object) (o : Name) (x : ℕ) (v : Value) (w : IsWrite m o x v)
    → write_value m (Ptr o x) v ≡ fin.insert m o (with_cell w.object x w.new)
write_is m o x v w =
    let a : write_cell w.object.cells x v ≡ Gives (slice_set w.object.cells x w.new) =
    ap (write_at w.object.cells x v) w.cell ∙ ap (λ r. on_gives r (λ d. Gives (slice_set w.object.cells x d))) w.fits in
    ap (λ g. put_cells m o g (write_cell (cells_of g) x v)) w.there ∙ ap (put_cells m o (Some w.object)) a

-- the second write after the first, at another cell of one object
abbrev later : (m : Map Object) (o p : Name) (x y : ℕ) (v u : Value) (w : IsWrite m o x v) (z : IsWrite m p y u)
    → (o ≡ p) × (x ≢ y) × (fin.get m o ≡ Some z.object) → IsWrite (fin.insert m o (with_cell w.object x w.new)) o y u
later m o p x y v u w z e =
    let same : w.object ≡ z.object = let h : Some w.object ≡ Some z.object = sym w.there ∙ e.2 in cc in
    record {
      object = with_cell w.object x w.new;
      there = get_same m o (with_cell w.object x w.new);
      old = z.old;
      cell = get_set_other w.object.cells x y w.new e.1 ∙ (ap (λ (a : Object). slice_get a.cells y) same ∙ z.cell);
      new = z.new;
      fits = z.fits;
    }

-- writes of different cells of one object may be made in either order
write_swap : (m : Map Object) (o : Name) (x y : ℕ) (v u : Value) → x ≢ y → (w : IsWrite m o x v) (z : IsWrite m o y u)
    → write_value (write_value m (Ptr o x) v) (Ptr o y) u ≡ write_value (write_value m (Ptr o y) u) (Ptr o x) v
write_swap m o x y v u ne w z =
    let same : w.object ≡ z.object = let h : Some w.object ≡ Some z.object = sym w.there ∙ z.there in cc in
    let a = later m o o x y v u w z (refl, ne, z.there) in
    let b = later m o o y x u v z w (refl, (λ e. ne (sym e)), w.there) in
    ap (λ n. write_value n (Ptr o y) u) (write_is m o x v w)
    ∙ (write_is _ o y u a
    ∙ (insert_twice m o _ _
    ∙ (ap (λ (q : Object). fin.insert m o q)
    (subst (λ (s : Object). with_cell (with_cell w.object x w.new) y z.new ≡ with_cell (with_cell s y z.new) x w.new) same
    (λ i. record { home = w.object.home; cells = set_comm w.object.cells x y w.new z.new ne i }))
    ∙ sym (ap (λ n. write_value n (Ptr o x) v) (write_is m o y u z) ∙ (write_is _ o x v b ∙ insert_twice m o _ _)))))

write_apart : (m : Map Object) (o p : Name) (x y : ℕ) (v u : Value) → o ≢ p → (w : IsWrite m o x v) (z : IsWrite m p y u)
    → write_value (write_value m (Ptr o x) v) (Ptr p y) u ≡ write_value (write_value m (Ptr p y) u) (Ptr o x) v
write_apart m o p x y v u ne w z =
    let a : IsWrite (fin.insert m o (with_cell w.object x w.new)) p y u = record {
      object = z.object;
      there = get_other m o _ p (λ e. ne (sym e)) ∙ z.there;
      old = z.old;
      cell = z.cell;
      new = z.new;
      fits = z.fits;
    } in
    let b : IsWrite (fin.insert m p (with_cell z.object y z.new)) o x v = record {
      object = w.object;
      there = get_other m p _ o ne ∙ w.there;
      old = w.old;
      cell = w.cell;
      new = w.new;
      fits = w.fits;
    } in
    ap (λ n. write_value n (Ptr p y) u) (write_is m o x v w)
    ∙ (write_is _ p y u a
    ∙ (swap m o p _ _ ne ∙ sym (ap (λ n. write_value n (Ptr o x) v) (write_is m p y u z) ∙ write_is _ o x v b)))

-- of a list of at most one write: the one that it has
pub record IsOne (m : Map Object) (ws : List (Value × Value)) : Type 0 where
  pub o : Name
  pub x : ℕ
  pub v : Value
  pub is : ws ≡ (Ptr o x, v) ∷ []
  pub write : IsWrite m o x v

abbrev pub IsWriting : Map Object → List (Value × Value) → Type 0
IsWriting m ws = (ws ≡ []) ⊎ IsOne m ws

-- no cell is written by both
abbrev pub AreOthers : (m : Map Object) (ws us : List (Value × Value)) → Type 0
AreOthers m ws us = (a : IsOne m ws) (b : IsOne m us) → a.o ≡ b.o → a.x ≡ b.x → ⊥

pub cases_number : (x y : ℕ) → (x ≡ y) ⊎ (x ≢ y)
cases_number zero zero = inl refl
cases_number zero (suc y) = inr (λ e. let f : suc y ≡ zero = sym e in absurd (omega (arith, f)))
cases_number (suc x) zero = inr (λ e. let f : suc x ≡ zero = e in absurd (omega (arith, f)))
cases_number (suc x) (suc y) =
    ⊎_elim (λ (e : x ≡ y). inl (ap suc e)) (λ (n : x ≢ y). inr (λ e. n (omega (arith, e)))) (cases_number x y)

pub writes_swap : (m : Map Object) (ws us : List (Value × Value)) → IsWriting m ws → IsWriting m us → AreOthers m ws us
    → write_all (write_all m ws) us ≡ write_all (write_all m us) ws
writes_swap m ws us a b others = ⊎_elim
    (λ (e : ws ≡ []). subst (λ z. write_all (write_all m z) us ≡ write_all (write_all m us) z) (sym e) refl)
    (λ (w : IsOne m ws). ⊎_elim
    (λ (e : us ≡ []). subst (λ z. write_all (write_all m ws) z ≡ write_all (write_all m z) ws) (sym e) refl)
    (λ (z : IsOne m us). both w z)
    b)
    a
  where
    single : (w : IsOne m ws) (z : IsOne m us)
        → write_value (write_value m (Ptr w.o w.x) w.v) (Ptr z.o z.x) z.v ≡ write_value (write_value m (Ptr z.o z.x) z.v) (Ptr w.o w.x) w.v
    single w z = ⊎_elim
        (λ (e : w.o ≡ z.o). ⊎_elim
        (λ (f : w.x ≡ z.x). absurd (others w z e f))
        (λ (f : w.x ≢ z.x).
        subst (λ q. write_value (write_value m (Ptr w.o w.x) w.v) (Ptr q z.x) z.v ≡ write_value (write_value m (Ptr q z.x) z.v) (Ptr w.o w.x) w.v)
        e (write_swap m w.o w.x z.x w.v z.v f w.write (subst (λ q. IsWrite m q z.x z.v) (sym e) z.write)))
        (cases_number w.x z.x))
        (λ (e : w.o ≢ z.o). write_apart m w.o z.o w.x z.x w.v z.v e w.write z.write)
        (cases_name w.o z.o)

    both : (w : IsOne m ws) (z : IsOne m us) → write_all (write_all m ws) us ≡ write_all (write_all m us) ws
    both w z =
        subst (λ c. write_all (write_all m c) us ≡ write_all (write_all m us) c) (sym w.is)
        (subst (λ d. write_all (write_value m (Ptr w.o w.x) w.v) d ≡ write_value (write_all m d) (Ptr w.o w.x) w.v) (sym z.is)
        (single w z))

-- writes of objects that there are, and new objects

put_puts : (es : List (Name × Object)) (m : Map Object) (o : Name) (x : Option Object) (r : Result (List Cell)) → (IsKey o es → ⊥)
    → put_cells (puts es m) o x r ≡ puts es (put_cells m o x r)
put_puts es m o None r none = refl
put_puts es m o (Some x) (Fails kind) none = refl
put_puts es m o (Some x) (Gives cells) none = sym (puts_insert es m o _ none)

write_puts : (es : List (Name × Object)) (m : Map Object) (a v : Value) → ((o : Name) (x : ℕ) → a ≡ Ptr o x → IsKey o es → ⊥)
    → write_value (puts es m) a v ≡ puts es (write_value m a v)
write_puts es m Void v none = refl
write_puts es m (Int n) v none = refl
write_puts es m Null v none = refl
write_puts es m (Ptr o x) v none =
    ap (λ y. put_cells (puts es m) o y (write_cell (cells_of y) x v)) (puts_other es m o (none o x refl))
    ∙ put_puts es m o (fin.get m o) (write_cell (cells_of (fin.get m o)) x v) (none o x refl)

-- what is written is none of these new objects
abbrev pub IsOlder : Map Object → List (Value × Value) → List (Name × Object) → Type 0
IsOlder m ws es = (a : IsOne m ws) → IsKey a.o es → ⊥

writes_puts : (es : List (Name × Object)) (m n : Map Object) (ws : List (Value × Value)) → IsWriting m ws → IsOlder m ws es
    → write_all (puts es n) ws ≡ puts es (write_all n ws)
writes_puts es m n ws a older = ⊎_elim
    (λ (e : ws ≡ []). subst (λ z. write_all (puts es n) z ≡ puts es (write_all n z)) (sym e) refl)
    (λ (w : IsOne m ws). subst (λ z. write_all (puts es n) z ≡ puts es (write_all n z)) (sym w.is)
    (write_puts es n (Ptr w.o w.x) w.v (λ o x e k.
    let same : w.o ≡ o = let h : Ptr w.o w.x ≡ Ptr o x = e in cc in
    older w (subst (λ q. IsKey q es) (sym same) k))))
    a

pub objects_swap : (es fs : List (Name × Object)) (m : Map Object) (ws us : List (Value × Value)) → IsWriting m ws → IsWriting m us
    → AreOthers m ws us → IsOlder m us es → IsOlder m ws fs → ((q : Name) → IsKey q fs → IsKey q es → ⊥)
    → puts fs (write_all (puts es (write_all m ws)) us) ≡ puts es (write_all (puts fs (write_all m us)) ws)
objects_swap es fs m ws us a b others old_us old_ws apart =
    ap (puts fs) (writes_puts es m (write_all m ws) us b old_us)
    ∙ (puts_swap fs es (write_all (write_all m ws) us) apart
    ∙ (ap (λ z. puts es (puts fs z)) (writes_swap m ws us a b others)
    ∙ sym (ap (puts es) (writes_puts fs m (write_all m us) ws a old_ws))))
