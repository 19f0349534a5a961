-- What a move is: an ask that is met, or the value of a remote call that is taken. Both are a change that is applied.
use Rattle.std.proofs.Common.{◌≡◌, ℕ, ◌+◌, List, [], ◌∷◌, Option, Some, None, refl, sym, ap, ◌∙◌, arith}
use Rattle.std.proofs.Common.{append-nil}
use Rattle.std.specs.FinMap as fin
use Rattle.global_ptr.specs.declared.ends.FaultKind.{FaultKind}
use Rattle.cc_core.specs.Names.{Name, Value}
use Rattle.cc_core.specs.Core.{Term, Program, shapes}
use Rattle.cc_core.specs.Asks.{Ask, Answer}
use Rattle.cc_core.specs.Next.{Next, Ready, Asks, After, next}
use Rattle.cc_core.specs.Config.{Config, Thread, State, Live, Ended}
use Rattle.cc_core.specs.Needs.{Verdict, Go, Hold, Bad, needs, check_all}
use Rattle.cc_core.specs.Effects.{nothing}
use Rattle.cc_core.specs.Steps.{Waits, Moves, Faults, Change, settle, apply, change, decide, join, act, act_state, step}
use Rattle.cc_one_answer.specs.Apart.{IsAsking}

-- after the value of a remote call is taken
abbrev pub taken : Thread → (Answer Name → After Term) → Value → Change
taken l k v = record {
  thread = record l { term = (k (record { values = v ∷ []; made = [] })).left; asked = None };
  new = [];
  effect = nothing l;
}

-- t's needs are met
pub record IsMet (p : Program) (t : Name) (s s1 : Config) : Type 0 where
  pub a : IsAsking p s t
  pub found : List Value
  pub met : check_all (shapes p) s t a.l (needs (shapes p) a.ask) ≡ Go found
  pub is : s1 ≡ apply p t (change p t s a.l a.ask a.k found) s

-- t waits for the thread that it made for a remote call
pub record IsWaiting (p : Program) (s : Config) (t : Name) : Type 0 where
  pub l : Thread
  pub line : ℕ
  pub ask : Ask Name
  pub k : Answer Name → After Term
  pub live : fin.get s.threads t ≡ Some (Live l)
  pub asks : next p l.term ≡ Asks line ask k
  pub made : ℕ
  pub asked : l.asked ≡ Some made

pub record IsTaken (p : Program) (t : Name) (s s1 : Config) : Type 0 where
  pub a : IsWaiting p s t
  pub v : Value
  pub ended : fin.get s.threads (a.made ∷ t) ≡ Some (Ended v)
  pub is : s1 ≡ apply p t (taken a.l a.k v) s

pub data IsMove (p : Program) (t : Name) (s s1 : Config) : Type 0 where
  Met : IsMet p t s s1 → IsMove p t s s1
  Taken : IsTaken p t s s1 → IsMove p t s s1

pub record IsBroken (p : Program) (s : Config) (t : Name) : Type 0 where
  pub a : IsAsking p s t
  pub kind : FaultKind
  pub bad : check_all (shapes p) s t a.l (needs (shapes p) a.ask) ≡ Bad kind

-- a join changes its own thread alone
pub taken_is : (p : Program) (t : Name) (s : Config) (l : Thread) (k : Answer Name → After Term) (v : Value)
    → apply p t (taken l k v) s ≡ record s { threads = fin.insert s.threads t (settle p (taken l k v).thread) }
taken_is p t s l k v = λ i. record {
  threads = fin.insert s.threads t (settle p (taken l k v).thread);
  objects = s.objects;
  output = (append-nil s.output) i;
  processors = sum i;
  threads_made = s.threads_made;
  slots_made = s.slots_made;
}
  where
    sum : s.processors + 0 ≡ s.processors
    sum = omega arith

module _ (p : Program) (t : Name) (s : Config) where
  met_is : (r q : Config) → Moves r ≡ Moves q → q ≡ r
  met_is r q e = cc

  module _ (s1 : Config) (l : Thread) (live : fin.get s.threads t ≡ Some (Live l)) where
    decided : (line : ℕ) (ask : Ask Name) (k : Answer Name → After Term) (v : Verdict Name) → next p l.term ≡ Asks line ask k → l.asked ≡ None
        → check_all (shapes p) s t l (needs (shapes p) ask) ≡ v → decide p t s l line ask k v ≡ Moves s1 → IsMove p t s s1
    decided line ask k (Go found) asks free met e = Met (record {
      a = record { l = l; line = line; ask = ask; k = k; live = live; asks = asks; not_asked = free };
      found = found;
      met = met;
      is = met_is _ _ e;
    })
    decided line ask k Hold asks free met e = let f : Waits ≡ Moves s1 = e in cc
    decided line ask k (Bad kind) asks free met e = let f : Faults kind line ≡ Moves s1 = e in cc

    joined : (line : ℕ) (ask : Ask Name) (k : Answer Name → After Term) (made : ℕ) (kid : Option State) → next p l.term ≡ Asks line ask k
        → l.asked ≡ Some made → fin.get s.threads (made ∷ t) ≡ kid → join p t s l k kid ≡ Moves s1 → IsMove p t s s1
    joined line ask k made None asks asked is e = let f : Waits ≡ Moves s1 = e in cc
    joined line ask k made (Some (Live l')) asks asked is e = let f : Waits ≡ Moves s1 = e in cc
    joined line ask k made (Some (Ended v)) asks asked is e = Taken (record {
      a = record { l = l; line = line; ask = ask; k = k; live = live; asks = asks; made = made; asked = asked };
      v = v;
      ended = is;
      is = met_is _ _ e ∙ sym (taken_is p t s l k v);
    })

    acted : (n : Next Value Term) (asked : Option ℕ) → next p l.term ≡ n → l.asked ≡ asked → act p t s l n asked ≡ Moves s1
        → IsMove p t s s1
    acted (Ready v) asked is f e = let g : Waits ≡ Moves s1 = e in cc
    acted (Asks line ask k) None is f e = decided line ask k _ is f refl e
    acted (Asks line ask k) (Some made) is f e = joined line ask k made _ is f refl e

  pub move_case : (s1 : Config) → step p t s ≡ Moves s1 → IsMove p t s s1
  move_case s1 e = from (fin.get s.threads t) refl e
    where
      from : (x : Option State) → fin.get s.threads t ≡ x → act_state p t s x ≡ Moves s1 → IsMove p t s s1
      from None is f = let g : Waits ≡ Moves s1 = f in cc
      from (Some (Ended v)) is f = let g : Waits ≡ Moves s1 = f in cc
      from (Some (Live l)) is f = acted s1 l is (next p l.term) l.asked refl refl f

  module _ (kind : FaultKind) (at : ℕ) (l : Thread) (live : fin.get s.threads t ≡ Some (Live l)) where
    decided_bad : (line : ℕ) (ask : Ask Name) (k : Answer Name → After Term) (v : Verdict Name) → next p l.term ≡ Asks line ask k
        → l.asked ≡ None → check_all (shapes p) s t l (needs (shapes p) ask) ≡ v → decide p t s l line ask k v ≡ Faults kind at
        → IsBroken p s t
    decided_bad line ask k (Go found) asks free met e =
        let f : Moves (apply p t (change p t s l ask k found) s) ≡ Faults kind at = e in cc
    decided_bad line ask k Hold asks free met e = let f : Waits ≡ Faults kind at = e in cc
    decided_bad line ask k (Bad j) asks free met e = record {
      a = record { l = l; line = line; ask = ask; k = k; live = live; asks = asks; not_asked = free };
      kind = j;
      bad = met;
    }

    joined_bad : (k : Answer Name → After Term) (kid : Option State) → join p t s l k kid ≡ Faults kind at → IsBroken p s t
    joined_bad k None e = let f : Waits ≡ Faults kind at = e in cc
    joined_bad k (Some (Live l')) e = let f : Waits ≡ Faults kind at = e in cc
    joined_bad k (Some (Ended v)) e = let f : join p t s l k (Some (Ended v)) ≡ Faults kind at = e in cc

    acted_bad : (n : Next Value Term) (asked : Option ℕ) → next p l.term ≡ n → l.asked ≡ asked → act p t s l n asked ≡ Faults kind at
        → IsBroken p s t
    acted_bad (Ready v) asked is f e = let g : Waits ≡ Faults kind at = e in cc
    acted_bad (Asks line ask k) None is f e = decided_bad line ask k _ is f refl e
    acted_bad (Asks line ask k) (Some made) is f e = joined_bad k _ e

  pub fault_case : (kind : FaultKind) (at : ℕ) → step p t s ≡ Faults kind at → IsBroken p s t
  fault_case kind at e = from (fin.get s.threads t) refl e
    where
      from : (x : Option State) → fin.get s.threads t ≡ x → act_state p t s x ≡ Faults kind at → IsBroken p s t
      from None is f = let g : Waits ≡ Faults kind at = f in cc
      from (Some (Ended v)) is f = let g : Waits ≡ Faults kind at = f in cc
      from (Some (Live l)) is f = acted_bad kind at l is (next p l.term) l.asked refl refl f

-- and back: what a thread's next move is

step_is : (p : Program) (s : Config) (t : Name) (a : IsAsking p s t)
    → step p t s ≡ decide p t s a.l a.line a.ask a.k (check_all (shapes p) s t a.l (needs (shapes p) a.ask))
step_is p s t a =
    ap (act_state p t s) a.live
    ∙ (ap (λ n. act p t s a.l n a.l.asked) a.asks ∙ ap (act p t s a.l (Asks a.line a.ask a.k)) a.not_asked)

pub step_goes : (p : Program) (s : Config) (t : Name) (a : IsAsking p s t) (found : List Value)
    → check_all (shapes p) s t a.l (needs (shapes p) a.ask) ≡ Go found
    → step p t s ≡ Moves (apply p t (change p t s a.l a.ask a.k found) s)
step_goes p s t a found h = step_is p s t a ∙ ap (decide p t s a.l a.line a.ask a.k) h

pub step_breaks : (p : Program) (s : Config) (t : Name) (a : IsAsking p s t) (kind : FaultKind)
    → check_all (shapes p) s t a.l (needs (shapes p) a.ask) ≡ Bad kind → step p t s ≡ Faults kind a.line
step_breaks p s t a kind h = step_is p s t a ∙ ap (decide p t s a.l a.line a.ask a.k) h

pub step_takes : (p : Program) (s : Config) (t : Name) (a : IsWaiting p s t) (v : Value)
    → fin.get s.threads (a.made ∷ t) ≡ Some (Ended v) → step p t s ≡ Moves (apply p t (taken a.l a.k v) s)
step_takes p s t a v h =
    ap (act_state p t s) a.live
    ∙ (ap (λ n. act p t s a.l n a.l.asked) a.asks
    ∙ (ap (act p t s a.l (Asks a.line a.ask a.k)) a.asked
    ∙ (ap (join p t s a.l a.k) h ∙ ap Moves (sym (taken_is p t s a.l a.k v)))))
