-- What has ended stays so, and so does what is full.
use Rattle.std.proofs.Common.{◌≡◌, ◌≢◌, ℕ, zero, suc, List, [], ◌∷◌, length, Option, Some, None, refl, sym, ap, subst, ◌∙◌}
use Rattle.std.proofs.Common.{⊎_elim, arith}
use Rattle.std.specs.Prelude.{slice_get, slice_set, ℤ}
use Rattle.std.specs.FinMap as fin
use Rattle.cc_ops.specs.Values.{Void, Int, Null, Ptr, Plain, Empty, Full, Result, Gives, Fails}
use Rattle.cc_ops.specs.Cells.{write_at, write_cell}
use Rattle.cc_core.specs.Names.{Name, Map, Value, Cell}
use Rattle.cc_core.specs.Core.{Program, shapes}
use Rattle.cc_core.specs.Config.{Config, Live, Ended, Object, put_cells, write_value, write_all, cells_of}
use Rattle.cc_core.specs.Effects.{effect}
use Rattle.cc_core.specs.Steps.{settle, settle_all, Run}
use Rattle.cc_core.specs.Laws.{NamesAreFree, IsReached, ObjectStays}
use Rattle.cc_core.proofs.Maps.{cases_name, get_same, get_other, IsKey, puts_other}
use Rattle.cc_core.proofs.StepLaws.{IsStep, Met, Joined, step_case}
use Rattle.cc_core.proofs.Fresh.{Own, Copy, new_object_is, Grows, grows, settled_key_is, new_name, free_after, free_reached}

-- threads

module _ (p : Program) (t : Name) (s r : Config) (free : NamesAreFree s) (g : Grows p s r t) where
  ended_step : (u : Name) (v : Value) → fin.get s.threads u ≡ Some (Ended v) → fin.get r.threads u ≡ Some (Ended v)
  ended_step u v h =
      ap (λ z. fin.get z u) g.threads_are
      ∙ puts_other ((t, settle p g.after) ∷ settle_all p g.new) s.threads u (λ k. ⊎_elim
      (λ (e : u ≡ t). let f : Some (Ended v) ≡ Some (Live g.l) = sym h ∙ (ap (fin.get s.threads) e ∙ g.live) in cc)
      (λ (b : IsKey u (settle_all p g.new)).
      let none = (new_name p t s r free g u (settled_key_is p g.new u b)).4 in
      let f : Some (Ended v) ≡ None = sym h ∙ none in cc)
      k)
      ∙ h

ended_run : (p : Program) (ts : List Name) (s r : Config) → NamesAreFree s → Run p ts s r → (u : Name) (v : Value)
    → fin.get s.threads u ≡ Some (Ended v) → fin.get r.threads u ≡ Some (Ended v)
ended_run p [] s r free h u v e = subst (λ z. fin.get z.threads u ≡ Some (Ended v)) h e
ended_run p (t ∷ ts) s r free h u v e =
    let g = grows p t s h.0 (step_case p t s h.0 h.1) in
    ended_run p ts h.0 r (free_after p t s h.0 free g) h.2 u v (ended_step p t s h.0 free g u v e)

pub ended_reached : (p : Program) (ns : List ℤ) (ts : List Name) (s r : Config) → IsReached p ns s → Run p ts s r
    → (u : Name) (v : Value) → fin.get s.threads u ≡ Some (Ended v) → fin.get r.threads u ≡ Some (Ended v)
ended_reached p ns ts s r at run = ended_run p ts s r (free_reached p ns s at) run

-- cells

length-slice_set : (cells : List Cell) (i : ℕ) (c : Cell) → length (slice_set cells i c) ≡ length cells
length-slice_set [] i c = refl
length-slice_set (d ∷ cells) zero c = refl
length-slice_set (d ∷ cells) (suc i) c = ap suc (length-slice_set cells i c)

-- a cell that may be written is not full
full_set : (cells : List Cell) (i : ℕ) (c d : Cell) (x : ℕ) (v : Value) → slice_get cells i ≡ Some c → (c ≡ Full v → ⊥)
    → slice_get cells x ≡ Some (Full v) → slice_get (slice_set cells i d) x ≡ Some (Full v)
full_set [] i c d x v at not_full h = h
full_set (b ∷ cells) zero c d zero v at not_full h = absurd (not_full (same (sym at ∙ h)))
  where
    same : Some c ≡ Some (Full v) → c ≡ Full v
    same e = cc
full_set (b ∷ cells) zero c d (suc x) v at not_full h = h
full_set (b ∷ cells) (suc i) c d zero v at not_full h = h
full_set (b ∷ cells) (suc i) c d (suc x) v at not_full h = full_set cells i c d x v at not_full h

stays : (a : Object) → ObjectStays a a
stays a = record { home = refl; size = refl; full = λ x v h. h }

stays_on : (a b c : Object) → ObjectStays a b → ObjectStays b c → ObjectStays a c
stays_on a b c x y = record { home = y.home ∙ x.home; size = y.size ∙ x.size; full = λ i v h. y.full i v (x.full i v h) }

abbrev with_cells : Object → List Cell → Object
with_cells a cells = record { home = a.home; cells = cells }

-- an object with what a write gives
abbrev Written : Object → Result (List Cell) → Type 0
Written a (Gives cells) = ObjectStays a (with_cells a cells)
Written a (Fails kind) = Unit {0}

written_stays : (a : Object) (i : ℕ) (v : Value) (c : Option Cell) → slice_get a.cells i ≡ c → Written a (write_at a.cells i v c)
written_stays a i v None at = tt
written_stays a i v (Some (Plain w)) at = record {
  home = refl;
  size = length-slice_set a.cells i (Plain v);
  full = λ x u h. full_set a.cells i (Plain w) (Plain v) x u at (λ e. cc) h;
}
written_stays a i v (Some Empty) at = record {
  home = refl;
  size = length-slice_set a.cells i (Full v);
  full = λ x u h. full_set a.cells i Empty (Full v) x u at (λ e. cc) h;
}
written_stays a i v (Some (Full w)) at = tt

-- what an object becomes
abbrev pub Becomes : Map Object → Name → Object → Type 0
Becomes m o a = (b : Object) × (fin.get m o ≡ Some b) × ObjectStays a b

put_stays : (m : Map Object) (q o : Name) (a c : Object) (cells : Result (List Cell)) → fin.get m q ≡ Some c → Written c cells
    → fin.get m o ≡ Some a → Becomes (put_cells m q (Some c) cells) o a
put_stays m q o a c (Fails kind) there w h = (a, h, stays a)
put_stays m q o a c (Gives cells) there w h = ⊎_elim
    (λ (e : o ≡ q).
    let same : Some c ≡ Some a = sym there ∙ (ap (fin.get m) (sym e) ∙ h) in
    let is : c ≡ a = some_same c a same in (
      with_cells c cells,
      subst (λ z. fin.get (fin.insert m q (with_cells c cells)) z ≡ Some (with_cells c cells)) (sym e)
          (get_same m q (with_cells c cells)),
      subst (λ (z : Object). ObjectStays z (with_cells c cells)) is w,
    ))
    (λ (ne : o ≢ q). (a, get_other m q (with_cells c cells) o ne ∙ h, stays a))
    (cases_name o q)
  where
    some_same : (x y : Object) → Some x ≡ Some y → x ≡ y
    some_same x y e = cc

put_at : (m : Map Object) (q o : Name) (i : ℕ) (v : Value) (a : Object) (x : Option Object) → fin.get m q ≡ x
    → fin.get m o ≡ Some a → Becomes (put_cells m q x (write_cell (cells_of x) i v)) o a
put_at m q o i v a None there h = (a, h, stays a)
put_at m q o i v a (Some c) there h = put_stays m q o a c _ there (written_stays c i v (slice_get c.cells i) refl) h

write_stays : (m : Map Object) (at v : Value) (o : Name) (a : Object) → fin.get m o ≡ Some a → Becomes (write_value m at v) o a
write_stays m Void v o a h = (a, h, stays a)
write_stays m (Int n) v o a h = (a, h, stays a)
write_stays m Null v o a h = (a, h, stays a)
write_stays m (Ptr q i) v o a h = put_at m q o i v a (fin.get m q) refl h

writes_stay : (ws : List (Value × Value)) (m : Map Object) (o : Name) (a : Object) → fin.get m o ≡ Some a → Becomes (write_all m ws) o a
writes_stay [] m o a h = (a, h, stays a)
writes_stay (w ∷ ws) m o a h =
    let b = write_stays m w.0 w.1 o a h in
    let c = writes_stay ws (write_value m w.0 w.1) o b.0 b.1 in
    (c.0, c.1, stays_on a b.0 c.0 b.2 c.2)

object_step : (p : Program) (t : Name) (s r : Config) → NamesAreFree s → IsStep p t s r → (o : Name) (a : Object)
    → fin.get s.objects o ≡ Some a → Becomes r.objects o a
object_step p t s r free (Met m) o a h =
    let e = effect (shapes p) t m.l m.ask m.found in
    let old = writes_stay e.writes s.objects o a h in
    let there : fin.get s.objects o ≡ None → ⊥ = λ none. let f : Some a ≡ None = sym h ∙ none in cc in
    let kept : fin.get r.objects o ≡ fin.get (write_all s.objects e.writes) o =
    ap (λ (z : Config). fin.get z.objects o) m.is ∙ puts_other e.objects (write_all s.objects e.writes) o
    (λ k. elim (new_object_is (shapes p) t m.l m.ask m.found o k) [
      | Own i ↦ there (ap (fin.get s.objects) i.named ∙ free.objects t m.l m.live i.number i.low)
      | Copy i ↦ there (ap (fin.get s.objects) i.named
          ∙ free.no_objects (m.l.threads ∷ t) (free.threads t m.l m.live m.l.threads (omega arith)) 0)
    ]) in
    (old.0, kept ∙ old.1, old.2)
object_step p t s r free (Joined j) o a h = (a, ap (λ (z : Config). fin.get z.objects o) j.is ∙ h, stays a)

object_run : (p : Program) (ts : List Name) (s r : Config) → NamesAreFree s → Run p ts s r → (o : Name) (a : Object)
    → fin.get s.objects o ≡ Some a → Becomes r.objects o a
object_run p [] s r free h o a e = (a, subst (λ z. fin.get z.objects o ≡ Some a) h e, stays a)
object_run p (t ∷ ts) s r free h o a e =
    let step = step_case p t s h.0 h.1 in
    let b = object_step p t s h.0 free step o a e in
    let c = object_run p ts h.0 r (free_after p t s h.0 free (grows p t s h.0 step)) h.2 o b.0 b.1 in
    (c.0, c.1, stays_on a b.0 c.0 b.2 c.2)

pub object_reached : (p : Program) (ns : List ℤ) (ts : List Name) (s r : Config) → IsReached p ns s → Run p ts s r
    → (o : Name) (a : Object) → fin.get s.objects o ≡ Some a → Becomes r.objects o a
object_reached p ns ts s r at run = object_run p ts s r (free_reached p ns s at) run
