-- The first asks of main, and its end.
use Rattle.std.proofs.Common.{◌≡◌, ℕ, List, [], ◌∷◌, length, Some, None, refl, ap, ◌∙◌}
use Rattle.std.specs.FinMap as fin
use Rattle.std.specs.Prelude.{ℤ}
use Rattle.cc_ops.specs.Values.{Void}
use Rattle.cc_core.specs.Asks.{Ask, Answer}
use Rattle.cc_core.specs.Config.{Config, Thread, Live}
use Rattle.cc_core.specs.Core.{Program, Term, function, shapes}
use Rattle.cc_core.specs.Effects.{addresses, parameters}
use Rattle.cc_core.specs.Names.{Name, Value}
use Rattle.cc_core.specs.Needs.{Verdict, Go, Hold, needs, check_all}
use Rattle.cc_core.specs.Next.{After, Next, Ready, Asks, next, entered}
use Rattle.cc_core.specs.Steps.{Waits, Moves, decide, act, act_state, change, apply, settled, settle, step, ints, start}
use Rattle.cc_core.proofs.Maps.{get_same}
use Rattle.core_types.specs.Runs.{IsReachedFrom}
use Rattle.wrong_programs.specs.Wrong.{Asking}

-- a thread of a run asks this
abbrev pub asking : (p : Program) (ns : List ℤ) (s : Config) → IsReachedFrom p ns s → (t : Name) (l : Thread) → fin.get s.threads t ≡ Some (Live l)
    → (line : ℕ) (ask : Ask Name) (go : Answer Name → After Term) → next p l.term ≡ Asks line ask go → Asking p
asking p ns s reached t l live line ask go asks = record {
  ints = ns;
  config = s;
  reached = reached;
  name = t;
  thread = l;
  live = live;
  line = line;
  ask = ask;
  go = go;
  asks = asks;
}

module _ (p : Program) (ns : List ℤ) where
  -- the thread of main, where a run begins
  abbrev pub first : Thread
  first =
      let made = parameters [] 0 [] (function p p.main).shape.params (ints ns) in
      record {
        home = [];
        term = entered p p.main Void (addresses made);
        asked = None;
        threads = 0;
        objects = length made;
        inside = (p.main, Void) ∷ [];
      }

  module _ (line : ℕ) (ask : Ask Name) (go : Answer Name → After Term) (asks : next p first.term ≡ Asks line ask go) where
    pub first_live : fin.get (start p ns).threads [] ≡ Some (Live first)
    first_live = get_same fin.empty [] (settle p first) ∙ ap (λ (n : Next Value Term). Some (settled n first)) asks

    -- main asks this first
    abbrev pub at_start : length ns ≡ length (function p p.main).shape.params → Asking p
    at_start many = asking p ns (start p ns) (many, ([], refl)) [] first first_live line ask go asks

-- ---- one step after another

-- what is left of a thread, the configuration after its step, and whether the step's needs are met
abbrev left_by : Program → Name → Config → (l : Thread) → (found : List Value) → Next Value Term → Thread
left_by p t s l found (Ready v) = l
left_by p t s l found (Asks line ask go) = (change p t s l ask go found).thread

abbrev stepped_by : Program → Name → Config → (l : Thread) → (found : List Value) → Next Value Term → Config
stepped_by p t s l found (Ready v) = s
stepped_by p t s l found (Asks line ask go) = apply p t (change p t s l ask go found) s

abbrev checked_by : Program → Name → Config → Thread → Next Value Term → Verdict Name
checked_by p t s l (Ready v) = Hold
checked_by p t s l (Asks line ask go) = check_all (shapes p) s t l (needs (shapes p) ask)

module _ (p : Program) (t : Name) (s : Config) (l : Thread) where
  abbrev pub left : (found : List Value) → Thread
  left found = left_by p t s l found (next p l.term)

  abbrev pub stepped : (found : List Value) → Config
  stepped found = stepped_by p t s l found (next p l.term)

  abbrev pub checked : Verdict Name
  checked = checked_by p t s l (next p l.term)

  module _ (live : fin.get s.threads t ≡ Some (Live l)) (free : l.asked ≡ None) where
    acts : (n : Next Value Term) → next p l.term ≡ n → step p t s ≡ act p t s l n None
    acts n is = ap (act_state p t s) live ∙ (ap (λ m. act p t s l m l.asked) is ∙ ap (act p t s l n) free)

    goes_by : (found : List Value) (n : Next Value Term) → next p l.term ≡ n → checked_by p t s l n ≡ Go found
        → step p t s ≡ Moves (stepped_by p t s l found n)
    goes_by found (Ready v) is met = let e : Hold ≡ Go found = met in cc
    goes_by found (Asks line ask go) is met = acts (Asks line ask go) is ∙ ap (decide p t s l line ask go) met

    pub goes : (found : List Value) → checked ≡ Go found → step p t s ≡ Moves (stepped found)
    goes found met = goes_by found (next p l.term) refl met

    holds_by : (n : Next Value Term) → next p l.term ≡ n → checked_by p t s l n ≡ Hold → step p t s ≡ Waits
    holds_by (Ready v) is met = acts (Ready v) is
    holds_by (Asks line ask go) is met = acts (Asks line ask go) is ∙ ap (decide p t s l line ask go) met

    pub holds : checked ≡ Hold → step p t s ≡ Waits
    holds met = holds_by (next p l.term) refl met
