-- The names of what a step makes are free, one after another.
use Rattle.std.proofs.Common.{◌≡◌, ◌≢◌, ◌⊎◌, inl, inr, ⊎_elim, ℕ, suc, ◌≤◌, List, [], ◌∷◌, length, drop, Option, Some, None, refl, sym, ap, ◌∙◌, arith}
use Rattle.std.specs.FinMap as fin
use Rattle.cc_ops.specs.Values.{Void, Int, Null, Ptr, Result, Gives, Fails}
use Rattle.cc_ops.specs.declared.kind.Kind.{Kind}
use Rattle.cc_core.specs.Names.{Name, name_cmp, Map, Value, Cell, puts}
use Rattle.cc_core.specs.Core.{Term, Program, Shapes, function_shape}
use Rattle.cc_core.specs.Asks.{Ask, Reads, Writes, Copies, Indexes, Shifts, Computes, Tests, Makes, MakesWith, Builds, Enters, Leaves}
use Rattle.cc_core.specs.Asks.{ForksAll, ForksOne, Joins, Spawns, Prints, Calls, Casts, NewProcessor}
use Rattle.cc_core.specs.Config.{Thread, State, Object, put_cells, write_value, write_all}
use Rattle.cc_core.specs.Effects.{effect, parameters}
use Rattle.cc_core.specs.Numbers.{listing, list_threads, list_objects}
use Rattle.cc_core.specs.Steps.{settle, settle_all, new_threads}
use Rattle.cc_core.proofs.Maps.{cases_name, get_same, get_other}
use Rattle.cc_core.proofs.Fresh.{head_of, writes_none}
use Rattle.run_numbers.specs.RunNumbers.{AreNumbered, NumbersStay}
use Rattle.run_numbers.proofs.Lists.{one_more, same_names, listing_keeps}

module _ {X : Type 0} where
  abbrev pub AllFree : Map X → List (Name × X) → Type 0
  AllFree things [] = Unit {0}
  AllFree things (e ∷ es) = (fin.get things e.0 ≡ None) × AllFree (fin.insert things e.0 e.1) es

  -- of the names k ∷ t those from one number on
  abbrev pub FreeFrom : Map X → Name → ℕ → Type 0
  FreeFrom things t k = (j : ℕ) → k ≤ j → fin.get things (j ∷ t) ≡ None

  pub free_on : (things : Map X) (t : Name) (k : ℕ) (a : X) → FreeFrom things t k → FreeFrom (fin.insert things (k ∷ t) a) t (suc k)
  free_on things t k a free j h = get_other things (k ∷ t) a (j ∷ t) other ∙ free j (omega (arith, h))
    where
      other : j ∷ t ≢ k ∷ t
      other e = let same : j ≡ k = head_of j k t t e in omega (arith, h, same)

pub threads_free : (p : Program) (things : Map State) (t : Name) (k : ℕ) (q : Name) (own : ℕ) (terms : List Term) → FreeFrom things t k
    → AllFree things (settle_all p (new_threads t k q own terms))
threads_free p things t k q own [] free = tt
threads_free p things t k q own (term ∷ terms) free =
    (free k (omega arith), threads_free p (fin.insert things (k ∷ t) _) t (suc k) q own terms (free_on things t k _ free))

parameters_free : (things : Map Object) (t : Name) (k : ℕ) (q : Name) (kinds : List (List Kind)) (vs : List Value) → FreeFrom things t k
    → AllFree things (parameters t k q kinds vs)
parameters_free things t k q [] vs free = tt
parameters_free things t k q (ks ∷ more) vs free = (
  free k (omega arith),
  parameters_free (fin.insert things (k ∷ t) _) t (suc k) q more (drop (length ks) vs) (free_on things t k _ free),
)

pub first_parameters_free : (t : Name) (q : Name) (kinds : List (List Kind)) (vs : List Value) → AllFree fin.empty (parameters t 0 q kinds vs)
first_parameters_free t q kinds vs = parameters_free fin.empty t 0 q kinds vs (λ j h. fin.get-empty name_cmp (j ∷ t))

-- thread t is l; the names that it gives next are free, and so is that of a branch's copy
module _ (h : Shapes) (t : Name) (l : Thread) (found : List Value) (things : Map Object) (free : FreeFrom things t l.objects)
    (copy : fin.get things (0 ∷ l.threads ∷ t) ≡ None) where
  one : fin.get things (l.objects ∷ t) ≡ None
  one = free l.objects (omega arith)

  pub effect_free : (ask : Ask Name) → AllFree things (effect h t l ask found).objects
  effect_free (Reads remote a) = tt
  effect_free (Writes remote a v) = tt
  effect_free (Copies a n) = tt
  effect_free (Indexes a n i) = tt
  effect_free (Shifts a i) = tt
  effect_free (Computes op vs) = tt
  effect_free Tests = tt
  effect_free (Makes kind n) = (one, tt)
  effect_free (MakesWith kind v) = (one, tt)
  effect_free (Builds c vs) = (one, tt)
  effect_free (Enters f this vs) = parameters_free things t l.objects l.home (function_shape h f).params vs free
  effect_free Leaves = tt
  effect_free (ForksAll n) = tt
  effect_free (ForksOne v) = (copy, tt)
  effect_free (Joins made) = tt
  effect_free (Spawns f this vs) = tt
  effect_free (Prints parts vs) = tt
  effect_free (Calls f this vs) = tt
  effect_free (Casts f this vs) = tt
  effect_free (NewProcessor c vs) = (one, tt)

-- ---- what is made is numbered

pub threads_numbered : (p : Program) (es : List (Name × Thread)) (lists : Map (List Name)) (things : Map State) → AreNumbered lists things
    → AllFree things (settle_all p es) → AreNumbered (list_threads lists es) (puts (settle_all p es) things)
threads_numbered p [] lists things are free = are
threads_numbered p (e ∷ es) lists things are free =
    threads_numbered p es (listing lists e.1.home e.0) (fin.insert things e.0 (settle p e.1))
    (one_more lists e.1.home e.0 things are (settle p e.1) free.0) free.1

pub objects_numbered : (es : List (Name × Object)) (lists : Map (List Name)) (things : Map Object) → AreNumbered lists things
    → AllFree things es → AreNumbered (list_objects lists es) (puts es things)
objects_numbered [] lists things are free = are
objects_numbered (e ∷ es) lists things are free =
    objects_numbered es (listing lists e.1.home e.0) (fin.insert things e.0 e.1) (one_more lists e.1.home e.0 things are e.1 free.0) free.1

pub threads_stay : (es : List (Name × Thread)) (lists : Map (List Name)) → NumbersStay lists (list_threads lists es)
threads_stay [] lists = λ q k x h. h
threads_stay (e ∷ es) lists =
    λ q k x h. threads_stay es (listing lists e.1.home e.0) q k x (listing_keeps lists e.1.home e.0 q k x h)

pub objects_stay : (es : List (Name × Object)) (lists : Map (List Name)) → NumbersStay lists (list_objects lists es)
objects_stay [] lists = λ q k x h. h
objects_stay (e ∷ es) lists =
    λ q k x h. objects_stay es (listing lists e.1.home e.0) q k x (listing_keeps lists e.1.home e.0 q k x h)

-- ---- writes change no name

put_some : (m : Map Object) (o q : Name) (a : Object) (x : Option Object) (cells : Result (List Cell)) → fin.get m q ≡ Some a
    → (b : Object) × (fin.get (put_cells m o x cells) q ≡ Some b)
put_some m o q a None cells h = (a, h)
put_some m o q a (Some x) (Fails kind) h = (a, h)
put_some m o q a (Some x) (Gives cells) h =
    let new : Object = record { home = x.home; cells = cells } in
    ⊎_elim
    (λ (e : q ≡ o). (new, ap (fin.get (fin.insert m o new)) e ∙ get_same m o new))
    (λ (ne : q ≢ o). (a, get_other m o new q ne ∙ h))
    (cases_name q o)

write_some : (m : Map Object) (to v : Value) (q : Name) (a : Object) → fin.get m q ≡ Some a
    → (b : Object) × (fin.get (write_value m to v) q ≡ Some b)
write_some m Void v q a h = (a, h)
write_some m (Int n) v q a h = (a, h)
write_some m Null v q a h = (a, h)
write_some m (Ptr o x) v q a h = put_some m o q a (fin.get m o) _ h

pub writes_some : (ws : List (Value × Value)) (m : Map Object) (q : Name) (a : Object) → fin.get m q ≡ Some a
    → (b : Object) × (fin.get (write_all m ws) q ≡ Some b)
writes_some [] m q a h = (a, h)
writes_some (w ∷ ws) m q a h =
    let one = write_some m w.0 w.1 q a h in
    writes_some ws (write_value m w.0 w.1) q one.0 one.1

pub none_or_some : {X : Type 0} (o : Option X) → (o ≡ None) ⊎ ((a : X) × (o ≡ Some a))
none_or_some None = inl refl
none_or_some (Some a) = inr (a, refl)

pub written_numbered : (ws : List (Value × Value)) (lists : Map (List Name)) (things : Map Object) → AreNumbered lists things
    → AreNumbered lists (write_all things ws)
written_numbered ws lists things are = same_names lists things are (write_all things ws)
    (λ x a h. ⊎_elim
    (λ (none : fin.get things x ≡ None). let both : None ≡ Some a = sym (writes_none ws things x none) ∙ h in cc)
    (λ (some : (b : Object) × (fin.get things x ≡ Some b)). some)
    (none_or_some (fin.get things x)))
    (λ x a h. writes_some ws things x a h)
