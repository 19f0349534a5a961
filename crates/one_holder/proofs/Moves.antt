-- What a step makes of the functions that threads are inside.
use Rattle.std.proofs.Common.{◌≡◌, ⊎_elim, ℕ, suc, ◌++◌, Bool, true, false, ◌&&◌, List, [], ◌∷◌, Some, None, refl, sym, ap, ◌∙◌, subst}
use Rattle.std.specs.Prelude.{if◌then◌else◌}
use Rattle.std.specs.FinMap as fin
use Rattle.cc_core.specs.Names.{Name, Map, Value, puts}
use Rattle.cc_core.specs.Core.{Term, Program, Shapes, function_shape, shapes}
use Rattle.cc_core.specs.Asks.{Ask, Enters, Leaves}
use Rattle.cc_core.specs.Config.{Config, Thread, State, Live}
use Rattle.cc_core.specs.Effects.{effect, answer, start_home, first_objects, is_call, left_behind}
use Rattle.cc_core.specs.Needs.{Verdict, Go, Hold, Bad, Free, and_also, any_holds, check, check_all, needs, object_there}
use Rattle.cc_core.specs.Steps.{Change, settle, settle_all, new_threads, change}
use Rattle.cc_core.proofs.Maps.{IsEntry, puts_case}
use Rattle.cc_core.proofs.StepLaws.{IsStep, Met, Joined}
use Rattle.cc_core.proofs.Fresh.{live_settled, settled_entry}

-- Among these threads one goes on inside the functions `after`, where it was inside those `before`: the same ones; or it has entered one more,
-- which is not atomic, or none of the threads held its object; or it has left the innermost.
pub data GoesOn (h : Shapes) (threads : List State) (before after : List (ℕ × Value)) : Type 0 where
  Same : after ≡ before → GoesOn h threads before after
  Entered : (f : ℕ) → (o : Value) → after ≡ (f, o) ∷ before → (function_shape h f).atomic && any_holds h o threads ≡ false
      → GoesOn h threads before after
  Left : after ≡ left_behind before → GoesOn h threads before after

-- ---- a function is entered only where its object is free

first_goes : (v w : Verdict Name) (vs : List Value) → and_also v w ≡ Go vs → (us : List Value) × (v ≡ Go us)
first_goes (Go us) w vs e = (us, refl)
first_goes Hold w vs e = cc
first_goes (Bad kind) w vs e = cc

then_goes : (v w : Verdict Name) (vs : List Value) → and_also v w ≡ Go vs → (us : List Value) × (w ≡ Go us)
then_goes (Go us) (Go ws) vs e = (ws, refl)
then_goes (Go us) Hold vs e = cc
then_goes (Go us) (Bad kind) vs e = cc
then_goes Hold w vs e = cc
then_goes (Bad kind) w vs e = cc

not_held : (b : Bool) (vs : List Value) → (if b then Hold else Go []) ≡ Go vs → b ≡ false
not_held true vs e = cc
not_held false vs e = refl

entered : (h : Shapes) (s : Config) (t : Name) (l : Thread) (f : ℕ) (o : Value) (vs : List Value) (found : List Value)
    → check_all h s t l (needs h (Enters f o vs)) ≡ Go found → (function_shape h f).atomic && any_holds h o (fin.values s.threads) ≡ false
entered h s t l f o vs found e =
    let behind = then_goes (object_there o) _ found e in
    let free = first_goes (check h s t l (Free f o)) _ behind.0 behind.1 in
    not_held ((function_shape h f).atomic && any_holds h o (fin.values s.threads)) free.0 free.1

pub inside_after : (h : Shapes) (s : Config) (t : Name) (l : Thread) (ask : Ask Name) (found : List Value)
    → check_all h s t l (needs h ask) ≡ Go found → GoesOn h (fin.values s.threads) l.inside (effect h t l ask found).inside
inside_after h s t l (Enters f o vs) found e = Entered f o refl (entered h s t l f o vs found e)
inside_after h s t l Leaves found e = Left refl
inside_after h s t l ask found e = Same refl

-- ---- a step, as far as it changes what threads are inside

-- thread t, which is l, goes on as `after`, beside new threads, which are inside nothing
pub record IsMove (p : Program) (t : Name) (s r : Config) : Type 0 where
  pub l : Thread
  pub live : fin.get s.threads t ≡ Some (Live l)
  pub after : Thread
  pub inside : GoesOn (shapes p) (fin.values s.threads) l.inside after.inside
  pub new : List (Name × Thread)
  pub nothing : (u : Name) (m : Thread) → IsEntry u m new → m.inside ≡ []
  pub threads_are : r.threads ≡ puts ((t, settle p after) ∷ settle_all p new) s.threads

new_inside : (t : Name) (k : ℕ) (q : Name) (own : ℕ) (terms : List Term) (u : Name) (m : Thread) → IsEntry u m (new_threads t k q own terms)
    → m.inside ≡ []
new_inside t k q own [] u m h = absurd h
new_inside t k q own (term ∷ terms) u m h = ⊎_elim
    (λ (a : (u ≡ k ∷ t) × (m ≡ _)). ap (λ (l : Thread). l.inside) a.1)
    (λ (b : IsEntry u m (new_threads t (suc k) q own terms)). new_inside t (suc k) q own terms u m b)
    h

either_inside : (b : Bool) (u v : Thread) (xs : List (ℕ × Value)) → u.inside ≡ xs → v.inside ≡ xs → (if b then u else v).inside ≡ xs
either_inside true u v xs h g = h
either_inside false u v xs h g = g

pub moves : (p : Program) (t : Name) (s r : Config) → IsStep p t s r → IsMove p t s r
moves p t s r (Met m) =
    let c : Change = change p t s m.l m.ask m.k m.found in
    let inside : c.thread.inside ≡ c.effect.inside = either_inside (is_call m.ask) _ _ c.effect.inside refl refl in
    record {
      l = m.l;
      live = m.live;
      after = c.thread;
      inside = subst (λ (es : List (ℕ × Value)). GoesOn (shapes p) (fin.values s.threads) m.l.inside es) (sym inside)
          (inside_after (shapes p) s t m.l m.ask m.found m.met);
      new = c.new;
      nothing = new_inside t m.l.threads (start_home s m.l m.ask) (first_objects m.ask)
          (c.effect.starts ++ (m.k (answer m.l m.ask c.effect m.found)).branches);
      threads_are = ap (λ (d : Config). d.threads) m.is;
    }
moves p t s r (Joined j) = record {
  l = j.l;
  live = j.live;
  after = record j.l { term = j.term; asked = None };
  inside = Same refl;
  new = [];
  nothing = λ u m h. absurd h;
  threads_are = ap (λ (d : Config). d.threads) j.is;
}

-- ---- which threads there are after puts

pub data IsThere (t : Name) (after : Thread) (new : List (Name × Thread)) (before : Map State) (u : Name) (m : Thread) : Type 0 where
  Itself : u ≡ t → m ≡ after → IsThere t after new before u m
  New : IsEntry u m new → IsThere t after new before u m
  Older : fin.get before u ≡ Some (Live m) → IsThere t after new before u m

some_live : (x : State) (m : Thread) → Some x ≡ Some (Live m) → x ≡ Live m
some_live x m e = cc

module _ (p : Program) (t : Name) (after : Thread) (new : List (Name × Thread)) (before : Map State) (u : Name) (m : Thread) where
  abbrev entries : List (Name × State)
  entries = (t, settle p after) ∷ settle_all p new

  of_entry : IsEntry u (Live m) entries → IsThere t after new before u m
  of_entry h = ⊎_elim
      (λ (a : (u ≡ t) × (Live m ≡ settle p after)). Itself a.0 (live_settled p after m (sym a.1)))
      (λ (b : IsEntry u (Live m) (settle_all p new)).
      let e = settled_entry p new u (Live m) b in
      New (subst (λ (x : Thread). IsEntry u x new) (sym (live_settled p e.0 m (sym e.2))) e.1))
      h

  pub there : fin.get (puts entries before) u ≡ Some (Live m) → IsThere t after new before u m
  there h = ⊎_elim
      (λ (a : fin.get (puts entries before) u ≡ fin.get before u). Older (sym a ∙ h))
      (λ (b : (x : State) × IsEntry u x entries × (fin.get (puts entries before) u ≡ Some x)).
      of_entry (subst (λ (x : State). IsEntry u x entries) (some_live b.0 m (sym b.2 ∙ h)) b.1))
      (puts_case entries before u)
