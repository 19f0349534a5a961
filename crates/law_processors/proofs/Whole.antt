-- A move of the machine is one of the mesh that it shows, and so a step of the run, or nothing.
use Rattle.law_mesh.specs.Moves.{Step}
use Rattle.law_mesh.specs.Source.{Leads, IsStep}
use Rattle.law_processors.specs.Alone.{Label}
use Rattle.law_processors.specs.Follow.{IsPlaced}
use Rattle.std.specs.List.{AllByRecursion}
use Rattle.law_processors.proofs.Placed.{ArePlaced, moves_placed}
use Rattle.law_processors.proofs.Edits.{map_append}
use Rattle.std.proofs.Common.{◌≡◌, ◌<◌, ℕ, zero, suc, ◌+◌, List, [], ◌∷◌, ◌++◌, length, map, Option, Some, None, refl, sym, ap, ◌∙◌, subst, arith, ℤ}
use Rattle.std.specs.Option.{option_and_then}
use Rattle.std.specs.Prelude.{slice_get}
use Rattle.std.proofs.lemmas.Option.{none-some}
use Rattle.global_ptr.specs.declared.ends.FaultKind.{FaultKind}
use Rattle.cc_ops.specs.declared.kind.Kind.{Kind}
use Rattle.cc_ops.specs.declared.number.ThreadNo.{ThreadNo}
use Rattle.cc_ops.specs.Shelves.{Shelf, no_shelf}
use Rattle.cc_ops.specs.Machine.{Values}
use Rattle.cc_core.specs.Config.{Config}
use Rattle.cc_core.specs.Core.{Program, function}
use Rattle.cc_core.specs.Names.{Name}
use Rattle.cc_core.specs.Numbers.{Numbers, first_numbers}
use Rattle.cc_core.specs.Source.{IsProgram}
use Rattle.cc_core.specs.Steps as core
use Rattle.cc_core.specs.Effects.{cells_with}
use Rattle.cc_code.specs.Layout.{layout}
use Rattle.numbered_runs.specs.Changes.{with_new}
use Rattle.numbered_runs.specs.Alike.{ints}
use Rattle.numbered_runs.specs.Effects.{parameters, put_things}
use Rattle.numbered_runs.specs.Stands.{IsThread}
use Rattle.law_mesh.specs.Begins.{first_fiber, first_mesh}
use Rattle.law_mesh.specs.Local.{put_all_on}
use Rattle.law_mesh.specs.Moves.{FaultsAt}
use Rattle.law_mesh.specs.Queues.{Hand, Ready, OfCell, OfLock, Inbox, Outbox, Makes, Itself, Hold, FitsAt, pushed}
use Rattle.law_processors.specs.Processors.{Own, Goes, Entry, Lives, Processor, Processors, lists, caller_of, Runs, with_processor, printing}
use Rattle.law_processors.specs.Machine.{Moves, TakesUp, PutsBack, MovesOn, ServesFirst, ServesWoken, Delivers, Faults, MovesBadly, ServesBadly, WakesBadly, MakesBadly, Run, one_or_none, line_of}
use Rattle.law_processors.specs.Machine as machine
use Rattle.law_mesh.specs.Source.{IsOfRun, GoesOnInRun}
use Rattle.law_mesh.specs.Spots.{Mesh, Spot, Active, Calling, Fiber}
use Rattle.law_processors.specs.Follow.{MeshRun, GoesTo, steps_of, step_of}
use Rattle.law_processors.specs.Follow as follow
use Rattle.law_processors.specs.Whole.{first_processors, StandsFor, Follows}
use Rattle.law_mesh.proofs.Queues.{appear}
use Rattle.law_processors.proofs.Edits.{SameLists, same_hold, pushes_ready}
use Rattle.law_processors.proofs.Base.{append_none}
use Rattle.law_processors.proofs.Pieces.{at_first, reached, run_on, silent_output, nothing}
use Rattle.law_processors.proofs.Hands.{taken_up, put_back}
use Rattle.law_processors.proofs.Works.{Fine, moved_fine, served_fine, woken_fine}
use Rattle.law_processors.proofs.Mails.{delivers}
use Rattle.law_processors.proofs.Making.{FineMake, made_fine, item_more}
use Rattle.law_mesh.proofs.Source.{run_goes_on, run_faults, run_begins}

-- ---- moves

module _ (m : Processors) (n : Mesh) (runs : Runs m n) where
  -- what prints nothing
  silent_goes : (m' : Processors) → GoesTo n [] (printing [] m') → GoesTo n [] m'
  silent_goes m' g = subst (λ bytes. GoesTo n [] (record { code = m'.code; all = m'.all; makes = m'.makes; output = bytes })) (append_none m'.output) g

  pub machine_moves : (step : Option Label) (m' : Processors) → Moves m step m' → GoesTo n (map step_of (one_or_none step)) m'
  machine_moves _ _ (TakesUp q p front i back there hand ready) =
      let a = taken_up m q p there p m.output n (at_first m q p there n runs) front i back hand ready in
      silent_goes (with_processor m q _) (reached m q p there n [] _ [] (nothing m q p there n _ (m.output ++ []) (silent_output m q p there n _ a)))
  machine_moves _ _ (PutsBack q p i there hand) =
      let a = put_back m q p there p m.output n (at_first m q p there n runs) i hand in
      silent_goes (with_processor m q _) (reached m q p there n [] _ [] (nothing m q p there n _ (m.output ++ []) (silent_output m q p there n _ a)))
  machine_moves _ _ (MovesOn q p i step prints p' there hand e) = reached m q p there n (map step_of (one_or_none step)) p' prints (subst (Fine m n runs q p there) e (moved_fine m n runs q p there))
  machine_moves _ _ (ServesFirst q p message rest step prints p' there first e) = reached m q p there n (map step_of (one_or_none step)) p' prints (subst (Fine m n runs q p there) e (served_fine m n runs q p there))
  machine_moves _ _ (ServesWoken q p front t post back step prints p' there ready e) =
      reached m q p there n (map step_of (one_or_none step)) p' prints (subst (Fine m n runs q p there) e (woken_fine m n runs q p there front t post back ready))
  machine_moves _ _ (machine.Makes message rest step prints m' first e) = subst (FineMake m n runs) e (made_fine m n runs)
  machine_moves _ _ (Delivers q p front message back there out alike) = delivers m n runs q p there front message back out

  pub machine_faults : (kind : FaultKind) (t : ThreadNo) → Faults m kind t → FaultsAt n t kind (line_of m t)
  machine_faults kind t (MovesBadly q p there e) = subst (Fine m n runs q p there) e (moved_fine m n runs q p there)
  machine_faults kind t (ServesBadly q p there e) = subst (Fine m n runs q p there) e (served_fine m n runs q p there)
  machine_faults kind t (WakesBadly q p front u post back there ready e) = subst (Fine m n runs q p there) e (woken_fine m n runs q p there front u post back ready)
  machine_faults kind t (MakesBadly e) = subst (FineMake m n runs) e (made_fine m n runs)

pub machine_runs : (m : Processors) (n : Mesh) → Runs m n → (steps : List Label) (m' : Processors) → Run m steps m' → GoesTo n (map step_of steps) m'
machine_runs m n runs _ _ machine.Stays = record { mesh = n; run = follow.Stays; runs = runs }
machine_runs m n runs _ m' (machine.Then {a = a} {step = step} {m1 = m1} r v) =
    let g = machine_runs m n runs a m1 r in
    let h = machine_moves m1 g.mesh g.runs step m' v in
    record {
      mesh = h.mesh;
      run = subst (λ ls. MeshRun n ls h.mesh) (sym (map_append step_of a (one_or_none step)))
          (run_on (map step_of a) g.mesh (map step_of (one_or_none step)) h.mesh g.run h.run);
      runs = h.runs;
    }

both_placed : (xs ys : List Label) → AllByRecursion IsPlaced xs → AllByRecursion IsPlaced ys → AllByRecursion IsPlaced (xs ++ ys)
both_placed [] ys a b = b
both_placed (x ∷ xs) ys a b = (a.0, both_placed xs ys a.1 b)

one_placed : (step : Option Label) → ArePlaced step → AllByRecursion IsPlaced (one_or_none step)
one_placed None h = tt
one_placed (Some l) h = (h, tt)

run_placed : (m : Processors) (n : Mesh) → Runs m n → (steps : List Label) (m' : Processors) → Run m steps m' → AllByRecursion IsPlaced steps
run_placed m n runs _ _ machine.Stays = tt
run_placed m n runs _ m' (machine.Then {a = a} {step = step} {m1 = m1} r v) =
    let g = machine_runs m n runs a m1 r in
    both_placed a (one_or_none step) (run_placed m n runs a m1 r) (one_placed step (moves_placed m1 g.mesh g.runs step m' v))

-- ---- runs of the program

run_append : (p : Program) (xs ys : List Name) (s r t : Config) → core.Run p xs s r → core.Run p ys r t → core.Run p (xs ++ ys) s t
run_append p [] ys s r t a b = subst (λ z. core.Run p ys z t) (sym a) b
run_append p (x ∷ xs) ys s r t a b = (a.0, a.1, run_append p xs ys a.0 r t a.2 b)

length_append : {X : Type 0} (xs ys : List X) → length (xs ++ ys) ≡ length xs + length ys
length_append [] ys = omega arith
length_append (x ∷ xs) ys = let e = length_append xs ys in omega arith

length_map : {X Y : Type 0} (f : X → Y) (xs : List X) → length (map f xs) ≡ length xs
length_map f [] = refl
length_map f (x ∷ xs) = ap suc (length_map f xs)

-- what a run of the mesh is of the program's
record MeshFollows (p : Program) (s : Config) (k : Numbers) (steps : List Step) (n : Mesh) : Type 0 where
  config : Config
  numbers : Numbers
  threads : List Name
  count : length threads ≡ length steps
  run : core.Run p threads s config
  leads : Leads p steps s k config numbers
  after : IsOfRun p n config numbers

leads_on : (p : Program) (l : Step) (ls : List Step) (s : Config) (k : Numbers) (r : Config) (j : Numbers) (t : Config) (i : Numbers) → Leads p ls s k r j
    → IsStep p r j l t i → Leads p (ls ++ l ∷ []) s k t i
leads_on p l [] s k r j t i h step = (t, i, subst (λ z. IsStep p s z l t i) (sym h.1) (subst (λ z. IsStep p z j l t i) (sym h.0) step), (refl, refl))
leads_on p l (x ∷ xs) s k r j t i h step = (h.0, h.1, h.2, leads_on p l xs h.0 h.1 r j t i h.3 step)

one_more : (p : Program) (s : Config) (k : Numbers) (steps : List Step) (n1 n2 : Mesh) (l : Option Step) (f : MeshFollows p s k steps n1)
    → GoesOnInRun p f.config f.numbers l n2 → MeshFollows p s k (steps ++ steps_of l) n2
one_more p s k steps n1 n2 None f g = record {
  config = g.config;
  numbers = g.numbers;
  threads = f.threads;
  count = f.count ∙ ap (λ ls. length ls) (sym (append_none steps));
  run = subst (core.Run p f.threads s) g.is.0 f.run;
  leads = subst (λ ls. Leads p ls s k g.config g.numbers) (sym (append_none steps))
      (subst (λ z. Leads p steps s k g.config z) g.is.1 (subst (λ z. Leads p steps s k z f.numbers) g.is.0 f.leads));
  after = g.after;
}
one_more p s k steps n1 n2 (Some l) f g = record {
  config = g.config;
  numbers = g.numbers;
  threads = f.threads ++ g.is.name ∷ [];
  count = let e = f.count in let d = length_append f.threads (g.is.name ∷ []) in let c = length_append steps (l ∷ []) in omega (arith, e, d, c);
  run = run_append p f.threads (g.is.name ∷ []) s f.config g.config f.run (g.config, g.is.steps, refl);
  leads = leads_on p l steps s k f.config f.numbers g.config g.numbers f.leads g.is;
  after = g.after;
}

mesh_follows : (p : Program) (s : Config) (k : Numbers) (n : Mesh) → IsOfRun p n s k → (steps : List Step) (n' : Mesh) → MeshRun n steps n'
    → MeshFollows p s k steps n'
mesh_follows p s k n of _ _ follow.Stays = record { config = s; numbers = k; threads = []; count = refl; run = refl; leads = (refl, refl); after = of }
mesh_follows p s k n of _ n' (follow.Then {a = a} {l = l} {n1 = n1} r v) =
    let f = mesh_follows p s k n of a n1 r in
    one_more p s k a n1 n' l f (run_goes_on p n1 f.config f.numbers f.after l n' v)

pub runs_follow : (p : Program) (m : Processors) (s : Config) (k : Numbers) → StandsFor p m s k → (steps : List Label) (m' : Processors) → Run m steps m'
    → Follows p s k steps m'
runs_follow p m s k stands steps m' r =
    let g = machine_runs m stands.mesh stands.runs steps m' r in
    let f = mesh_follows p s k stands.mesh stands.of_run (map step_of steps) g.mesh g.run in
    record {
      config = f.config;
      numbers = f.numbers;
      threads = f.threads;
      count = f.count ∙ length_map step_of steps;
      run = f.run;
      leads = f.leads;
      placed = run_placed m stands.mesh stands.runs steps m' r;
      after = record { mesh = g.mesh; runs = g.runs; of_run = f.after };
    }

pub faults_follow : (p : Program) (m : Processors) (s : Config) (k : Numbers) → StandsFor p m s k → (kind : FaultKind) (t : ThreadNo) → Faults m kind t
    → (x : Name) × IsThread k t x × (core.step p x s ≡ core.Faults kind (line_of m t))
faults_follow p m s k stands kind t h =
    run_faults p stands.mesh s k stands.of_run t kind (line_of m t) (machine_faults m stands.mesh stands.runs kind t h)

pub same_output : (p : Program) (m : Processors) (s : Config) (k : Numbers) → StandsFor p m s k → m.output ≡ s.output
same_output p m s k stands = stands.runs.output ∙ stands.of_run.stands.output

-- ---- where the machine begins

first_put : (s : Shelf) (ks : List (List Kind)) (vs : Values) → put_things (s ∷ []) (parameters 0 ks vs) ≡ put_all_on s (parameters 0 ks vs) ∷ []
first_put s [] vs = refl
first_put s (kinds ∷ ks) vs = first_put (with_new (cells_with kinds vs) s) ks _

module _ (p : Program) (is : List ℤ) where
  abbrev empty : Processor
  empty = record {
    shelf = put_all_on no_shelf (parameters 0 (function p p.main).shape.params (ints is));
    table = Lives (first_fiber p is) Goes None ∷ [];
    hand = None;
    ready = [];
    cells = λ o x. [];
    locks = λ o. None;
    inbox = [];
    outbox = [];
  }

  abbrev before : Processors
  before = record { code = layout p; all = empty ∷ []; makes = []; output = [] }

  no_lists : SameLists (λ k. []) (lists before)
  no_lists (Hand zero) = refl
  no_lists (Hand (suc j)) = refl
  no_lists (Ready zero) = refl
  no_lists (Ready (suc j)) = refl
  no_lists (OfCell a x) = by a.processor
    where
      by : (i : ℕ) → [] ≡ lists before (OfCell (record { processor = i; object = a.object }) x)
      by zero = refl
      by (suc i) = refl
  no_lists (OfLock a) = by a.processor
    where
      by : (i : ℕ) → [] ≡ lists before (OfLock (record { processor = i; object = a.object }))
      by zero = refl
      by (suc i) = refl
  no_lists (Inbox zero) = refl
  no_lists (Inbox (suc j)) = refl
  no_lists (Outbox zero) = refl
  no_lists (Outbox (suc j)) = refl
  no_lists Makes = refl

  no_threads : Hold (layout p) (λ k. []) ([] ∷ [])
  no_threads = record { lies = λ t. None; each = λ t k. refl; fits = λ t. subst (λ o. FitsAt (layout p) t o None) (sym (item_more [] t)) refl }

  first_hold : Hold (layout p) (lists (first_processors p is)) ((Active (first_fiber p is) ∷ []) ∷ [])
  first_hold =
      same_hold (layout p) (pushed (lists before) (Ready 0) (Itself (record { processor = 0; thread = 0 }))) (lists (first_processors p is)) ((Active (first_fiber p is) ∷ []) ∷ [])
      (pushes_ready before 0 empty refl (Own 0) empty)
      (appear (layout p) (lists before) ([] ∷ []) (same_hold (layout p) (λ k. []) (lists before) ([] ∷ []) no_lists no_threads) 0 [] refl (first_fiber p is))

  no_callers : (t : ThreadNo) (i j : ℕ) → caller_of (option_and_then (λ (es : List Entry). slice_get es j) (slice_get ((Lives (first_fiber p is) Goes None ∷ []) ∷ []) i)) ≡ Some t → ⊥
  no_callers t zero zero e = none-some t e
  no_callers t zero (suc j) e = none-some t e
  no_callers t (suc i) j e = none-some t e

  no_calls : (i j : ℕ) (kid : ThreadNo) (f : Fiber) → option_and_then (λ (ps : List Spot). slice_get ps j) (slice_get ((Active (first_fiber p is) ∷ []) ∷ []) i) ≡ Some (Calling kid f) → ⊥
  no_calls zero zero kid f e = let d : Some (Active (first_fiber p is)) ≡ Some (Calling kid f) = e in let z : Active (first_fiber p is) ≡ Calling kid f = cc in cc
  no_calls zero (suc j) kid f e = none-some (Calling kid f) e
  no_calls (suc i) j kid f e = none-some (Calling kid f) e

  first_runs : Runs (first_processors p is) (first_mesh p is)
  first_runs = record {
    code = refl;
    shelves = sym (first_put no_shelf (function p p.main).shape.params (ints is));
    output = refl;
    entries = ((refl, tt), tt);
    lists = first_hold;
    callers = λ t kid e. absurd (no_callers t kid.processor kid.thread e);
    askers = λ t kid f e. absurd (no_calls t.processor t.thread kid f e);
  }

pub machine_begins : (p : Program) → IsProgram p → p.main < length p.functions → (is : List ℤ) → StandsFor p (first_processors p is) (core.start p is) (first_numbers p is)
machine_begins p source main is = record { mesh = first_mesh p is; runs = first_runs p is; of_run = run_begins p source main is }
