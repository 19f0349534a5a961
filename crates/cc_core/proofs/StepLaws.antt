-- What a step is: a thread's ask that is met, or the join of a remote call.
use Rattle.std.proofs.Common.{◌≡◌, ℕ, ◌≤◌, List, [], ◌∷◌, ◌++◌, length, Option, Some, None, refl, sym, ap, ◌∙◌, subst, arith}
use Rattle.std.proofs.Common.{append_assoc, append-nil}
use Rattle.std.specs.FinMap as fin
use Rattle.cc_core.specs.Names.{Name, Map, Value, count, added}
use Rattle.cc_core.specs.Core.{Term, Program, shapes}
use Rattle.cc_core.specs.Asks.{Ask, Answer}
use Rattle.cc_core.specs.Next.{Next, Ready, Asks, After, next}
use Rattle.cc_core.specs.Config.{Config, Thread, State, Live, Ended, Object, count_slots, count_threads}
use Rattle.cc_core.specs.Needs.{Verdict, Go, Hold, Bad, needs, check_all}
use Rattle.cc_core.specs.Steps.{Moves, settle, apply, change, decide, join, act, act_state, step, Run}
use Rattle.cc_core.specs.Laws.{GoesOn, CountsGrow}
use Rattle.cc_core.proofs.Maps.{count-added}

-- thread t, which is l, asks at a line, its needs are met, and r is what follows
pub record IsMet (p : Program) (t : Name) (s r : Config) : Type 0 where
  pub l : Thread
  pub live : fin.get s.threads t ≡ Some (Live l)
  pub line : ℕ
  pub ask : Ask Name
  pub k : Answer Name → After Term
  pub asks : next p l.term ≡ Asks line ask k
  pub found : List Value
  pub met : check_all (shapes p) s t l (needs (shapes p) ask) ≡ Go found
  pub is : r ≡ apply p t (change p t s l ask k found) s

-- thread t, which is l, takes the value of the thread that it asked
pub record IsJoined (p : Program) (t : Name) (s r : Config) : Type 0 where
  pub l : Thread
  pub live : fin.get s.threads t ≡ Some (Live l)
  pub term : Term
  pub is : r ≡ record s { threads = fin.insert s.threads t (settle p (record l { term = term; asked = None })) }

pub data IsStep (p : Program) (t : Name) (s r : Config) : Type 0 where
  Met : IsMet p t s r → IsStep p t s r
  Joined : IsJoined p t s r → IsStep p t s r

moved : (r q : Config) → Moves r ≡ Moves q → q ≡ r
moved r q e = cc

module _ (p : Program) (t : Name) (s r : Config) (l : Thread) (live : fin.get s.threads t ≡ Some (Live l)) where
  decided : (line : ℕ) (ask : Ask Name) (k : Answer Name → After Term) (v : Verdict Name) → next p l.term ≡ Asks line ask k
      → check_all (shapes p) s t l (needs (shapes p) ask) ≡ v → decide p t s l line ask k v ≡ Moves r → IsStep p t s r
  decided line ask k (Go found) asks met e = Met (record {
    l = l;
    live = live;
    line = line;
    ask = ask;
    k = k;
    asks = asks;
    found = found;
    met = met;
    is = moved _ _ e;
  })
  decided line ask k Hold asks met e = cc
  decided line ask k (Bad kind) asks met e = cc

  joined : (k : Answer Name → After Term) (kid : Option State) → join p t s l k kid ≡ Moves r → IsStep p t s r
  joined k None e = cc
  joined k (Some (Live l')) e = cc
  joined k (Some (Ended v)) e = Joined (record {
    l = l;
    live = live;
    term = (k (record { values = v ∷ []; made = [] })).left;
    is = moved _ _ e;
  })

  acted : (n : Next Value Term) (asked : Option ℕ) → next p l.term ≡ n → act p t s l n asked ≡ Moves r → IsStep p t s r
  acted (Ready v) asked is e = cc
  acted (Asks line ask k) None is e = decided line ask k _ is refl e
  acted (Asks line ask k) (Some kid) is e = joined k _ e

pub step_case : (p : Program) (t : Name) (s r : Config) → step p t s ≡ Moves r → IsStep p t s r
step_case p t s r e = from (fin.get s.threads t) refl e
  where
    from : (x : Option State) → fin.get s.threads t ≡ x → act_state p t s x ≡ Moves r → IsStep p t s r
    from None is f = cc
    from (Some (Ended v)) is f = cc
    from (Some (Live l)) is f = acted p t s r l is (next p l.term) l.asked refl f

-- what is printed comes behind

goes_on : (s r q : List ℕ) → GoesOn s r → GoesOn r q → GoesOn s q
goes_on s r q a b = (a.0 ++ b.0, b.1 ∙ ap (λ x. x ++ b.0) a.1 ∙ append_assoc s a.0 b.0)

output_step : (p : Program) (t : Name) (s r : Config) → IsStep p t s r → GoesOn s.output r.output
output_step p t s r (Met m) = ((change p t s m.l m.ask m.k m.found).effect.prints, ap (λ (c : Config). c.output) m.is)
output_step p t s r (Joined j) = ([], ap (λ (c : Config). c.output) j.is ∙ sym (append-nil s.output))

pub output_run : (p : Program) (ts : List Name) (s r : Config) → Run p ts s r → GoesOn s.output r.output
output_run p [] s r h = ([], sym (append-nil s.output ∙ ap (λ (c : Config). c.output) h))
output_run p (t ∷ ts) s r h =
    goes_on s.output h.0.output r.output (output_step p t s h.0 (step_case p t s h.0 h.1)) (output_run p ts h.0 r h.2)

-- counts do not fall

threads_grow : (new : List (Name × Thread)) (m : Map ℕ) (q : Name) → count m q ≤ count (count_threads m new) q
threads_grow [] m q = omega arith
threads_grow (e ∷ es) m q =
    let a = count-added m e.1.home q 1 in let b = threads_grow es (added m e.1.home 1) q in omega (arith, a, b)

slots_grow : (new : List (Name × Object)) (m : Map ℕ) (q : Name) → count m q ≤ count (count_slots m new) q
slots_grow [] m q = omega arith
slots_grow (e ∷ es) m q =
    let n = length e.1.cells in let a = count-added m e.1.home q n in let b = slots_grow es (added m e.1.home n) q in omega (arith, a, b)

counts_stay : (s : Config) → CountsGrow s s
counts_stay s = record { processors = omega arith; threads = λ q. omega arith; slots = λ q. omega arith }

counts_step : (p : Program) (t : Name) (s r : Config) → IsStep p t s r → CountsGrow s r
counts_step p t s r (Met m) =
    let c = change p t s m.l m.ask m.k m.found in
    let grown : CountsGrow s (apply p t c s) = record {
      processors = omega arith;
      threads = threads_grow c.new s.threads_made;
      slots = slots_grow c.effect.objects s.slots_made;
    } in
    subst (CountsGrow s) (sym m.is) grown
counts_step p t s r (Joined j) = subst (CountsGrow s) (sym j.is) (record {
  processors = omega arith;
  threads = λ q. omega arith;
  slots = λ q. omega arith;
})

pub counts_run : (p : Program) (ts : List Name) (s r : Config) → Run p ts s r → CountsGrow s r
counts_run p [] s r h = subst (CountsGrow s) h (counts_stay s)
counts_run p (t ∷ ts) s r h =
    let a = counts_step p t s h.0 (step_case p t s h.0 h.1) in
    let b = counts_run p ts h.0 r h.2 in
    record {
      processors = omega (arith, a.processors, b.processors);
      threads = λ q. let x = a.threads q in let y = b.threads q in omega (arith, x, y);
      slots = λ q. let x = a.slots q in let y = b.slots q in omega (arith, x, y);
    }

-- runs compose

pub run_joined : (p : Program) (ts us : List Name) (s r q : Config) → Run p ts s r → Run p us r q → Run p (ts ++ us) s q
run_joined p [] us s r q a b = subst (λ x. Run p us x q) (sym a) b
run_joined p (t ∷ ts) us s r q a b = (a.0, a.1, run_joined p ts us a.0 r q a.2 b)

pub run_cut : (p : Program) (ts us : List Name) (s q : Config) → Run p (ts ++ us) s q → (r : Config) × Run p ts s r × Run p us r q
run_cut p [] us s q h = (s, refl, h)
run_cut p (t ∷ ts) us s q h = let g = run_cut p ts us h.0 q h.2 in (g.0, (h.0, h.1, g.1), g.2)
