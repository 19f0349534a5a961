-- What a step is, with all that is known of it.
use Rattle.std.proofs.Common.{◌≡◌, ℕ, List, [], ◌∷◌, Option, Some, None, refl, sym, ap, subst, ◌∙◌, ⊎_elim}
use Rattle.std.specs.FinMap as fin
use Rattle.cc_core.specs.Names.{Name, Value, puts}
use Rattle.cc_core.specs.Core.{Term, Program, shapes}
use Rattle.cc_core.specs.Asks.{Ask, Answer}
use Rattle.cc_core.specs.Next.{Next, Ready, Asks, After, next}
use Rattle.cc_core.specs.Config.{Config, Thread, State, Live, Ended}
use Rattle.cc_core.specs.Needs.{Verdict, Go, Hold, Bad, needs, check_all}
use Rattle.cc_core.specs.Steps.{Waits, Faults, Moves, settled, settle, settle_all, decide, join, act, act_state, step}
use Rattle.cc_core.proofs.Maps.{IsEntry, puts_case}
use Rattle.cc_core.proofs.StepLaws.{IsMet}
use Rattle.cc_core.proofs.Fresh.{settled_entry, live_settled}
use Rattle.core_types.proofs.Basics.{same_some}
use Rattle.core_types.proofs.Kept.{Becomes}

-- thread t, which is l, takes the value that the thread that it asked has ended with
pub record IsJoin (p : Program) (t : Name) (s r : Config) : Type 0 where
  pub l : Thread
  pub live : fin.get s.threads t ≡ Some (Live l)
  pub line : ℕ
  pub ask : Ask Name
  pub k : Answer Name → After Term
  pub asks : next p l.term ≡ Asks line ask k
  pub made : ℕ
  pub asked : l.asked ≡ Some made
  pub value : Value
  pub ended : fin.get s.threads (made ∷ t) ≡ Some (Ended value)
  pub is : r ≡ record s {
    threads = fin.insert s.threads t
        (settle p (record l { term = (k (record { values = value ∷ []; made = [] })).left; asked = None }));
  }

pub data StepIs (p : Program) (t : Name) (s r : Config) : Type 0 where
  AMet : IsMet p t s r → StepIs p t s r
  AJoin : IsJoin p t s r → StepIs p t s r

moved : (a b : Config) → Moves a ≡ Moves b → b ≡ a
moved a b e = cc

module _ (p : Program) (t : Name) (s r : Config) where
  module _ (l : Thread) (live : fin.get s.threads t ≡ Some (Live l)) where
    decided : (line : ℕ) (ask : Ask Name) (k : Answer Name → After Term) (v : Verdict Name) → next p l.term ≡ Asks line ask k
        → check_all (shapes p) s t l (needs (shapes p) ask) ≡ v → decide p t s l line ask k v ≡ Moves r → StepIs p t s r
    decided line ask k (Go found) asks met e = AMet (record {
      l = l;
      live = live;
      line = line;
      ask = ask;
      k = k;
      asks = asks;
      found = found;
      met = met;
      is = moved _ _ e;
    })
    decided line ask k Hold asks met e = let f : Waits ≡ Moves r = e in cc
    decided line ask k (Bad kind) asks met e = let f : Faults kind line ≡ Moves r = e in cc

    joins : (line : ℕ) (ask : Ask Name) (k : Answer Name → After Term) → next p l.term ≡ Asks line ask k → (made : ℕ) → l.asked ≡ Some made
        → (x : Option State) → fin.get s.threads (made ∷ t) ≡ x → join p t s l k x ≡ Moves r → StepIs p t s r
    joins line ask k asks made was None there e = let f : Waits ≡ Moves r = e in cc
    joins line ask k asks made was (Some (Live m)) there e = let f : Waits ≡ Moves r = e in cc
    joins line ask k asks made was (Some (Ended x)) there e = AJoin (record {
      l = l;
      live = live;
      line = line;
      ask = ask;
      k = k;
      asks = asks;
      made = made;
      asked = was;
      value = x;
      ended = there;
      is = moved _ _ e;
    })

    acted : (n : Next Value Term) (asked : Option ℕ) → next p l.term ≡ n → l.asked ≡ asked → act p t s l n asked ≡ Moves r → StepIs p t s r
    acted (Ready v) asked is was e = let f : Waits ≡ Moves r = e in cc
    acted (Asks line ask k) None is was e = decided line ask k _ is refl e
    acted (Asks line ask k) (Some made) is was e = joins line ask k is made was _ refl e

  pub step_is : step p t s ≡ Moves r → StepIs p t s r
  step_is e = from (fin.get s.threads t) refl e
    where
      from : (x : Option State) → fin.get s.threads t ≡ x → act_state p t s x ≡ Moves r → StepIs p t s r
      from None is f = let g : Waits ≡ Moves r = f in cc
      from (Some (Ended v)) is f = let g : Waits ≡ Moves r = f in cc
      from (Some (Live l)) is f = acted l is (next p l.term) l.asked refl refl f

-- a thread that goes on asks for something
abbrev pub IsBusy : Next Value Term → Type 0
IsBusy (Ready v) = ⊥
IsBusy (Asks line ask k) = Unit {0}

pub busy : (p : Program) (l m : Thread) → settle p l ≡ Live m → IsBusy (next p l.term)
busy p l m e = from (next p l.term) e
  where
    from : (n : Next Value Term) → settled n l ≡ Live m → IsBusy n
    from (Ready v) f = let g : Ended v ≡ Live m = f in cc
    from (Asks line ask k) f = tt

-- the thread that moved; one that it made; one that there was before
pub data IsThere (p : Program) (s r : Config) (t : Name) (g : Becomes p s r t) (u : Name) (m : Thread) : Type 0 where
  Itself : m ≡ g.after → IsBusy (next p m.term) → IsThere p s r t g u m
  NewOne : IsEntry u m g.new → IsBusy (next p m.term) → IsThere p s r t g u m
  Older : fin.get s.threads u ≡ Some (Live m) → IsThere p s r t g u m

module _ (p : Program) (s r : Config) (t : Name) (g : Becomes p s r t) where
  abbrev entries : List (Name × State)
  entries = (t, settle p g.after) ∷ settle_all p g.new

  of_entry : (u : Name) (m : Thread) (z : State) → IsEntry u z entries → z ≡ Live m → IsThere p s r t g u m
  of_entry u m z h e = ⊎_elim
      (λ (a : (u ≡ t) × (z ≡ settle p g.after)).
      let f : settle p g.after ≡ Live m = sym a.1 ∙ e in
      let same : m ≡ g.after = live_settled p g.after m f in
      Itself same (subst (λ (x : Thread). IsBusy (next p x.term)) (sym same) (busy p g.after m f)))
      (λ (b : IsEntry u z (settle_all p g.new)).
      let i = settled_entry p g.new u z b in
      let f : settle p i.0 ≡ Live m = sym i.2 ∙ e in
      let same : m ≡ i.0 = live_settled p i.0 m f in
      NewOne (subst (λ x. IsEntry u x g.new) (sym same) i.1) (subst (λ (x : Thread). IsBusy (next p x.term)) (sym same) (busy p i.0 m f)))
      h

  pub there : (u : Name) (m : Thread) → fin.get r.threads u ≡ Some (Live m) → IsThere p s r t g u m
  there u m h =
      let f : fin.get (puts entries s.threads) u ≡ Some (Live m) = sym (ap (λ z. fin.get z u) g.threads_are) ∙ h in
      ⊎_elim
      (λ (a : fin.get (puts entries s.threads) u ≡ fin.get s.threads u). Older (sym a ∙ f))
      (λ (z : (z : State) × IsEntry u z entries × (fin.get (puts entries s.threads) u ≡ Some z)).
      of_entry u m z.0 z.1 (same_some z.0 (Live m) (sym z.2 ∙ f)))
      (puts_case entries s.threads u)
