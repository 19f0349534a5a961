-- What a step makes of the numbers.
use Rattle.std.proofs.Common.{◌≡◌, ℕ, List, [], ◌∷◌, Option, Some, None, refl}
use Rattle.std.specs.FinMap as fin
use Rattle.cc_core.specs.Names.{Name, Value}
use Rattle.cc_core.specs.Core.{Term, Program, shapes}
use Rattle.cc_core.specs.Asks.{Ask, Answer}
use Rattle.cc_core.specs.Next.{Next, Ready, Asks, After, next}
use Rattle.cc_core.specs.Config.{Config, Thread, State, Live, Ended}
use Rattle.cc_core.specs.Needs.{Verdict, Go, Hold, Bad, needs, check_all}
use Rattle.cc_core.specs.Numbers.{Numbers, numbers_after, of_verdict, of_next, changes, after_change, numbers_step}
use Rattle.cc_core.specs.Steps.{Moves, settle, apply, change, decide, join, act, act_state, step}

-- thread t, which is l, asks and goes on: what it makes is numbered
pub record IsMet (p : Program) (t : Name) (s r : Config) (n after : Numbers) : Type 0 where
  pub l : Thread
  pub live : fin.get s.threads t ≡ Some (Live l)
  pub ask : Ask Name
  pub k : Answer Name → After Term
  pub found : List Value
  pub is : r ≡ apply p t (change p t s l ask k found) s
  pub numbers : after ≡ numbers_after n (change p t s l ask k found).new (change p t s l ask k found).effect.objects

-- thread t, which is l, takes the value of the thread that it asked: nothing is made
pub record IsJoined (p : Program) (t : Name) (s r : Config) (n after : Numbers) : Type 0 where
  pub l : Thread
  pub live : fin.get s.threads t ≡ Some (Live l)
  pub thread : Thread
  pub home : thread.home ≡ l.home
  pub is : r ≡ record s { threads = fin.insert s.threads t (settle p thread) }
  pub numbers : after ≡ n

pub data IsNumberedStep (p : Program) (t : Name) (s r : Config) (n after : Numbers) : Type 0 where
  Met : IsMet p t s r n after → IsNumberedStep p t s r n after
  Joined : IsJoined p t s r n after → IsNumberedStep p t s r n after

moved : (r q : Config) → Moves r ≡ Moves q → q ≡ r
moved r q e = cc

module _ (p : Program) (t : Name) (s r : Config) (n : Numbers) where
  module _ (l : Thread) (live : fin.get s.threads t ≡ Some (Live l)) where
    decided : (line : ℕ) (ask : Ask Name) (k : Answer Name → After Term) (v : Verdict Name) → decide p t s l line ask k v ≡ Moves r
        → IsNumberedStep p t s r n (after_change n (of_verdict p t s l ask k v))
    decided line ask k (Go found) e =
        Met (record { l = l; live = live; ask = ask; k = k; found = found; is = moved _ _ e; numbers = refl })
    decided line ask k Hold e = cc
    decided line ask k (Bad kind) e = cc

    joined : (k : Answer Name → After Term) (kid : Option State) → join p t s l k kid ≡ Moves r → IsNumberedStep p t s r n n
    joined k None e = cc
    joined k (Some (Live l')) e = cc
    joined k (Some (Ended v)) e = Joined (record {
      l = l;
      live = live;
      thread = record l { term = (k (record { values = v ∷ []; made = [] })).left; asked = None };
      home = refl;
      is = moved _ _ e;
      numbers = refl;
    })

    acted : (x : Next Value Term) (asked : Option ℕ) → act p t s l x asked ≡ Moves r
        → IsNumberedStep p t s r n (after_change n (of_next p t s l x asked))
    acted (Ready v) asked e = cc
    acted (Asks line ask k) None e = decided line ask k (check_all (shapes p) s t l (needs (shapes p) ask)) e
    acted (Asks line ask k) (Some kid) e = joined k _ e

  from : (x : Option State) → fin.get s.threads t ≡ x → act_state p t s x ≡ Moves r
      → IsNumberedStep p t s r n (after_change n (changes p t s x))
  from None is e = cc
  from (Some (Ended v)) is e = cc
  from (Some (Live l)) is e = acted l is (next p l.term) l.asked e

  pub numbered_step : step p t s ≡ Moves r → IsNumberedStep p t s r n (numbers_step p t s n)
  numbered_step e = from (fin.get s.threads t) refl e
