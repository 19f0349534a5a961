-- At the limit: silent moves alone, or a step or a fault that is found; and what a run is of the program's.
use Rattle.std.specs.Prelude.{slice_get, Some}
use Rattle.std.proofs.Common.{◌≡◌, ℕ, zero, suc, ◌+◌, ◌<◌, ◌≤◌, List, [], ◌∷◌, length, map, Bool, true, false, Option, Some, None, refl, sym, ap, ◌∙◌, subst, arith, ℤ}
use Rattle.std.specs.Prelude.{if◌then◌else◌}
use Rattle.std.proofs.lemmas.Option.{none-some, same_Some}
use Rattle.global_ptr.specs.declared.ends.FaultKind.{FaultKind}
use Rattle.global_ptr.specs.declared.ends.Standing.{Standing}
use Rattle.cc_ops.specs.Values.{Cell, Result, Gives, Fails}
use Rattle.cc_ops.specs.Classes.{construct}
use Rattle.cc_ops.specs.Machine.{Address, same_address, Values}
use Rattle.cc_core.specs.Asks.{NewProcessor}
use Rattle.cc_core.specs.Config.{Config}
use Rattle.cc_core.specs.Core.{Program, class_shape}
use Rattle.cc_core.specs.Names.{Name}
use Rattle.cc_core.specs.Numbers.{Post, Get, Put, Call, Cast, Make, Numbers, first_numbers}
use Rattle.cc_core.specs.Source.{IsProgram}
use Rattle.cc_core.specs.Steps as core
use Rattle.cc_core.specs.Needs.{Verdict, Go, Hold, Bad, and_also, of_result}
use Rattle.cc_ops.specs.declared.number.ThreadNo.{ThreadNo}
use Rattle.numbered_runs.proofs.Lists.{get_changed}
use Rattle.law_mesh.specs.Spots.{Mesh, verdict}
use Rattle.law_mesh.specs.Queues.{OfCell, Makes, Message, Asks, Answers, Mail, target}
use Rattle.law_processors.specs.Processors.{Processor, Processors, Runs, lists, printing, with_processor}
use Rattle.law_processors.specs.Alone.{Did, Went, Failed, nobody, served}
use Rattle.law_processors.specs.Machine.{Faults, ServesBadly, MakesBadly, Run, Stays, Then, ServesFirst, one_or_none, makes_first, makes_so, made, made_for, seen_by_makes, line_of}
use Rattle.law_processors.specs.Machine as machine
use Rattle.law_rounds.specs.Turn.{Note, Idle, Fault, CanGo, ByStep, ByFault, SettleIs, Still, FindsStep, FindsFault, SettlesWell, with_first, serves_now, ServesWell}
use Rattle.law_processors.specs.Whole.{root, first_processors, StandsFor, Follows}
use Rattle.law_processors.specs.Busy.{busy_count, mail_count, AllFree}
use Rattle.law_rounds.specs.Round.{Due, deliver_all, Settles, AllStill, OneStill, Steps, Fails, due_all, Drains, Rests, MakeWaits, Finds, DrainsOn, RoundEnd, EndsWell, FoundSo}
use Rattle.law_rounds.specs.Round.{StandsWith, StandsAtRest, StandsAtFault, StandsDrained, StandsAtLimit, RestsWith, WithResult, WithLiving, RunIs, RunFollows}
use Rattle.law_mesh.proofs.Queues.{asking_is, IsAsking, IsPosted, IsDelayed, answer_is, IsAnswer, IsGiven, IsResult}
use Rattle.law_processors.proofs.AtRest.{at_rest, left_so, main_ends}
use Rattle.law_processors.proofs.Ordered.{OrderlyAll, run_orderly, first_orderly}
use Rattle.law_rounds.proofs.Order.{turn_runs}
use Rattle.law_processors.proofs.Base.{append_none}
use Rattle.law_processors.specs.Alone.{Label, ServedStep}
use Rattle.law_processors.specs.Follow.{step_of, IsPlaced}
use Rattle.std.specs.List.{AllByRecursion}
use Rattle.law_mesh.specs.Source.{Leads}
use Rattle.law_rounds.specs.Round.{FaultsBy}
use Rattle.law_rounds.proofs.Turns.{run_then}
use Rattle.law_rounds.proofs.Rounds.{one_turn, Silently, all_delivered, rounds_done}
use Rattle.law_processors.proofs.Whole.{runs_follow, faults_follow, same_output, machine_begins}

-- ---- silent moves alone

pub record Settled (m m' : Processors) (found : Bool) : Type 0 where
  pub silently : Silently m m'
  pub found_so : FoundSo found m'

goes_by : (m m1 : Processors) (steps : List Label) (k : ℕ) → length steps ≡ suc k → Run m steps m1 → CanGo m
goes_by m m1 [] k e r = absurd (omega (arith, e))
goes_by m m1 (l ∷ ls) k e r = ByStep l ls m1 r

fails_by : (m m1 : Processors) (kind : FaultKind) (t : ThreadNo) (steps : List Label) → Run m steps m1 → Faults m1 kind t → CanGo m
fails_by m m1 kind t [] r f = ByFault m1 kind t r f
fails_by m m1 kind t (l ∷ ls) r f = ByStep l ls m1 r

silent_by : (m m1 : Processors) (steps : List Label) → length steps ≡ 0 → Run m steps m1 → Run m [] m1
silent_by m m1 [] e r = r
silent_by m m1 (l ∷ ls) e r = absurd (omega (arith, e))

-- of one processor
pub settle_well : (m : Processors) (q : ℕ) (p : Processor) → slice_get m.all q ≡ Some p → p.hand ≡ None → (p' : Processor) (found : Bool) → SettleIs m.code q p p' found
    → SettlesWell m q p' found
settle_well m q p there free p' _ (Still {prints = prints} {notes = notes} turn none) =
    let r = turn_runs m q p there 1 0 p' prints notes Idle turn free in
    (prints, silent_by m (printing prints (with_processor m q p')) r.steps (sym r.counted ∙ none) r.run, r.ended.0, r.ended.1, r.ended.2)
settle_well m q p there free _ _ (FindsStep {p' = p'} {prints = prints} {notes = notes} {e = e} {k = k} turn some) =
    let r = turn_runs m q p there 1 0 p' prints notes e turn free in goes_by m (printing prints (with_processor m q p')) r.steps k (sym r.counted ∙ some) r.run
settle_well m q p there free _ _ (FindsFault {p' = p'} {prints = prints} {notes = notes} {kind = kind} {t = t} turn) =
    let r = turn_runs m q p there 1 0 p' prints notes (Fault kind t) turn free in fails_by m (printing prints (with_processor m q p')) kind t r.steps r.run r.ended.1

-- a move by itself
one_move : (m m' : Processors) (step : Option Label) → machine.Moves m step m' → Run m (one_or_none step) m'
one_move m m' step move = Then {a = []} Stays move

-- A message served by itself is one move.
served_so : (m : Processors) (q : ℕ) (first : Processor) (message : Message) (rest : List Message) → slice_get m.all q ≡ Some first
    → first.inbox ≡ message ∷ rest → (d : Did Processor) → served m.code q first ≡ d → ServesWell m q d
served_so m q first message rest there lies (Went step prints p) z =
    one_move m (printing prints (with_processor m q p)) step (ServesFirst q first message rest step prints p there lies z)
served_so m q first message rest there lies (Failed kind t) z = ServesBadly q first there z

pub serve_well : (m : Processors) (q : ℕ) (p : Processor) → slice_get m.all q ≡ Some p → (message : Message)
    → ServesWell (with_processor m q (with_first message p)) q (serves_now m.code q message p)
serve_well m q p there message =
    served_so (with_processor m q (with_first message p)) q (with_first message p) message p.inbox
    (get_changed m.all q (λ o. with_first message p) p there) refl (serves_now m.code q message p) refl

settles_so : (ds : List Due) (m m' : Processors) (found : Bool) → Settles ds m m' found → AllFree m.all → Settled m m' found
settles_so _ m _ _ AllStill free = record { silently = record { run = Stays; free = free }; found_so = tt }
settles_so _ m m' found (OneStill {d = d} {ds = ds} {m1 = m1} {notes = notes} turn none later) free =
    let r = one_turn m 1 d m1 notes Idle turn free in
    let s = settles_so ds m1 m' found later (r.free tt) in
    let first : Run m [] m1 = silent_by m m1 r.steps (sym r.counted ∙ none) r.run in
    record { silently = record { run = run_then m m1 m' [] [] first s.silently.run; free = s.silently.free }; found_so = s.found_so }
settles_so _ m _ _ (Steps {d = d} {m1 = m1} {notes = notes} {k = k} {e = e} turn some) free =
    let r = one_turn m 1 d m1 notes e turn free in
    record { silently = record { run = Stays; free = free }; found_so = goes_by m m1 r.steps k (sym r.counted ∙ some) r.run }
settles_so _ m _ _ (Fails {d = d} {m1 = m1} {notes = notes} {kind = kind} {t = t} turn) free =
    let r = one_turn m 1 d m1 notes (Fault kind t) turn free in
    let f = r.fault kind t refl in
    record { silently = record { run = Stays; free = free }; found_so = fails_by m m1 kind t r.steps r.run f.1 }

-- ---- a Make that waits

never_makes : (a b : Bool) (x y : FaultKind) (r : Result (List (Cell Address))) → ◌≡◌ {A = Verdict Address}
    (and_also (if a then Go [] else Bad x) (and_also (if b then Go [] else Bad y) (and_also (of_result r (λ cells. [])) (Go [])))) Hold → ⊥
never_makes true true x y (Gives cells) e = cc
never_makes true true x y (Fails kind) e = cc
never_makes true false x y r e = cc
never_makes false b x y r e = cc

module _ (m : Processors) (n : Mesh) (runs : Runs m n) where
  make_goes : (t : ThreadNo) (c : ℕ) (vs : Values) (rest : List Message) → m.makes ≡ Asks t (Make c vs) ∷ rest → CanGo m
  make_goes t c vs rest e = by (verdict (seen_by_makes m) 0 nobody (NewProcessor c vs)) refl
    where
      by : (v : Verdict Address) → verdict (seen_by_makes m) 0 nobody (NewProcessor c vs) ≡ v → CanGo m
      by (Go found) d =
          let so : made m ≡ makes_so t c vs rest m (Go found) = ap (λ ms. makes_first ms m) e ∙ ap (makes_so t c vs rest m) d in
          ByStep _ [] _ (machine.Then Stays (machine.Makes (Asks t (Make c vs)) rest (Some (ServedStep None t (Make c vs))) [] _ e so))
      by Hold d = absurd (never_makes _ _ _ _ (construct same_address (class_shape m.code.shapes c) vs) d)
      by (Bad kind) d =
          let so : made m ≡ Failed kind t = ap (λ ms. makes_first ms m) e ∙ ap (makes_so t c vs rest m) d in
          ByFault m kind t Stays (MakesBadly so)

  post_goes : (t : ThreadNo) (post : Post) (rest : List Message) → m.makes ≡ Asks t post ∷ rest → target post ≡ None → CanGo m
  post_goes t (Make c vs) rest e none = make_goes t c vs rest e
  post_goes t (Get a) rest e none = absurd (none-some _ (sym none))
  post_goes t (Put a v) rest e none = absurd (none-some _ (sym none))
  post_goes t (Call h o vs) rest e none = absurd (none-some _ (sym none))
  post_goes t (Cast h o vs) rest e none = absurd (none-some _ (sym none))

  pub makes_go : (x : Message) (rest : List Message) → m.makes ≡ x ∷ rest → CanGo m
  makes_go (Asks t post) rest e = by (asking_is m.code (lists m) n.spots runs.lists Makes [] (map Mail rest) t post (ap (map Mail) e))
    where
      by : IsAsking m.code (lists m) n.spots runs.lists Makes [] (map Mail rest) t post → CanGo m
      by (IsPosted f stands posts lies) = post_goes t post rest e lies
      by (IsDelayed b x f stands d) = let z : Makes ≡ OfCell b x = d in absurd (cc)
  makes_go (Answers t v) rest e = by (answer_is m.code (lists m) n.spots runs.lists Makes [] (map Mail rest) t v (ap (map Mail) e))
    where
      by : IsAnswer m.code (lists m) n.spots runs.lists Makes [] (map Mail rest) t v → CanGo m
      by (IsGiven vs f stands given lies) = absurd lies
      by (IsResult kid f stands calls lies) = absurd lies

-- ---- draining

abbrev pub Rested : Bool → Processors → Type 0
Rested true m = Unit {0}
Rested false m = (busy_count m.all + mail_count m.all ≡ 0) × (m.makes ≡ [])

pub record DrainedSo (m m' : Processors) (found : Bool) : Type 0 where
  pub silently : Silently m m'
  pub found_so : FoundSo found m'
  pub rested : Rested found m'

pub drains_so : (m m' : Processors) (found : Bool) → Drains m m' found → AllFree m.all
    → ((x : Processors) → Run m [] x → (y : Message) (ys : List Message) → x.makes ≡ y ∷ ys → CanGo x) → DrainedSo m m' found
drains_so m _ _ (Rests none empty) free goes = record { silently = record { run = Stays; free = free }; found_so = tt; rested = (none, empty) }
drains_so m _ _ (MakeWaits {x = x} {xs = xs} e) free goes =
    record { silently = record { run = Stays; free = free }; found_so = goes m Stays x xs e; rested = tt }
drains_so m m' _ (Finds some empty settles) free goes =
    let s = settles_so (due_all m) m m' true settles free in record { silently = s.silently; found_so = s.found_so; rested = tt }
drains_so m m' found (DrainsOn {m1 = m1} some empty settles later) free goes =
    let s = settles_so (due_all m) m m1 false settles free in
    let d = all_delivered m1 s.silently.free in
    let first : Run m [] (deliver_all m1) = run_then m m1 (deliver_all m1) [] [] s.silently.run d.run in
    let r = drains_so (deliver_all m1) m' found later d.free (λ x run y ys e. goes x (run_then m (deliver_all m1) x [] [] first run) y ys e) in
    record {
      silently = record { run = run_then m (deliver_all m1) m' [] [] first r.silently.run; free = r.silently.free };
      found_so = r.found_so;
      rested = r.rested;
    }

-- ---- the run of the program

first_free : (p : Program) (is : List ℤ) → AllFree (first_processors p is).all
first_free p is zero r e = ap (λ (x : Processor). x.hand) (sym (same_Some (root p is) r e))
first_free p is (suc q) r e = absurd (none-some r e)

-- what can go on by the machine can in the run
module _ (p : Program) (m : Processors) (s : Config) (k : Numbers) (stands : StandsFor p m s k) where
  first_moves : (ts : List Name) (j : ℕ) (r : Config) → length ts ≡ suc j → core.Run p ts s r → (t : Name) × core.CanMove (core.step p t s)
  first_moves [] j r e run = absurd (omega (arith, e))
  first_moves (t ∷ ts) j r e run = (t, subst core.CanMove (sym run.1) tt)

  none_moved : (ts : List Name) (r : Config) → length ts ≡ 0 → core.Run p ts s r → s ≡ r
  none_moved [] r e run = run
  none_moved (t ∷ ts) r e run = absurd (omega (arith, e))

  pub can_move : CanGo m → (t : Name) × core.CanMove (core.step p t s)
  can_move (ByStep l ls m' r) = let f = runs_follow p m s k stands (l ∷ ls) m' r in first_moves f.threads (length ls) f.config f.count f.run
  can_move (ByFault m' kind t r fault) =
      let f = runs_follow p m s k stands [] m' r in
      let g = faults_follow p m' f.config f.numbers f.after kind t fault in
      let same : s ≡ f.config = none_moved f.threads f.config f.count f.run in
      (g.0, subst (λ z. core.CanMove (core.step p g.0 z)) (sym same) (subst core.CanMove (sym g.2) tt))

module _ (p : Program) (source : IsProgram p) (main : p.main < length p.functions) (is : List ℤ) (seed limit : ℕ) where
  pub record FollowsTo (m : Processors) (steps : List Label) (output : List ℕ) (e : RoundEnd) (s : Standing) : Type 0 where
    pub config : Config
    pub numbers : Numbers
    pub threads : List Name
    pub run : core.Run p threads (core.start p is) config
    pub count : length threads ≡ length steps
    pub leads : Leads p (map step_of steps) (core.start p is) (first_numbers p is) config numbers
    pub placed : AllByRecursion IsPlaced steps
    pub prints : output ≡ config.output
    pub stands : core.Stands p limit (length steps) config s
    pub faults : FaultsBy p config numbers e s

  first_stands : StandsFor p (first_processors p is) (core.start p is) (first_numbers p is)
  first_stands = machine_begins p source main is

  follow_to : (m : Processors) (steps : List Label) → Run (first_processors p is) steps m → Follows p (core.start p is) (first_numbers p is) steps m
  follow_to m steps r = runs_follow p (first_processors p is) (core.start p is) (first_numbers p is) first_stands steps m r

  -- silent moves come behind
  behind : (m m' : Processors) (steps : List Label) → Run (first_processors p is) steps m → Run m [] m' → Run (first_processors p is) steps m'
  behind m m' steps r q = subst (λ z. Run (first_processors p is) z m') (append_none steps) (run_then (first_processors p is) m m' steps [] r q)

  orderly_to : (m : Processors) (steps : List Label) → Run (first_processors p is) steps m → OrderlyAll m.code m.all
  orderly_to m steps r = run_orderly (first_processors p is) first_stands.mesh first_stands.runs (first_orderly p is) steps m r

  rests_as : (m : Processors) (z : Standing) (steps : ℕ) → RestsWith m z → (s : Config) (k : Numbers) → StandsFor p m s k → OrderlyAll m.code m.all → AllFree m.all
      → busy_count m.all + mail_count m.all ≡ 0 → m.makes ≡ [] → core.Stands p limit steps s z
  rests_as m _ steps (WithResult {v = v} none result) s k stands orderly free quiet empty =
      (at_rest p m s k stands orderly free quiet empty, left_so p m s k stands orderly free quiet empty ∙ none, main_ends p m s k stands orderly free quiet empty v result)
  rests_as m _ steps (WithLiving living some) s k stands orderly free quiet empty =
      (at_rest p m s k stands orderly free quiet empty, left_so p m s k stands orderly free quiet empty ∙ living, some)

  at_end : (m at : Processors) (e : RoundEnd) (s : Standing) (steps : List Label) → StandsWith limit m at e s → Run (first_processors p is) steps m
      → EndsWell e (length steps) limit m → FollowsTo at steps at.output e s × (length steps ≤ limit)
  at_end m _ _ s steps (StandsAtRest rests) r ended =
      let f = follow_to m steps r in
      (record { config = f.config; numbers = f.numbers; threads = f.threads; run = f.run; count = f.count; leads = f.leads; placed = f.placed; faults = tt; prints = same_output p m f.config f.numbers f.after; stands = rests_as m s (length steps) rests f.config f.numbers f.after (orderly_to m steps r) ended.1 ended.2 ended.3 }, ended.0)
  at_end m _ _ _ steps (StandsAtFault {kind = kind} {t = t}) r ended =
      let f = follow_to m steps r in
      let g = faults_follow p m f.config f.numbers f.after kind t ended.1 in (
        record {
          config = f.config;
          numbers = f.numbers;
          threads = f.threads;
          run = f.run;
          count = f.count;
          leads = f.leads;
          placed = f.placed;
          faults = g;
          prints = same_output p m f.config f.numbers f.after;
          stands = ((g.0, g.2), let h = ended.0 in omega (arith, h));
        },
        let h = ended.0 in omega (arith, h),
      )
  at_end m at _ s steps (StandsDrained drains rests) r ended =
      let goes : (x : Processors) → Run m [] x → (y : Message) (ys : List Message) → x.makes ≡ y ∷ ys → CanGo x =
      λ x run y ys e. let f = follow_to x steps (behind m x steps r run) in makes_go x f.after.mesh f.after.runs y ys e in
      let d = drains_so m at false drains ended.1 goes in
      let f = follow_to at steps (behind m at steps r d.silently.run) in (
        record { config = f.config; numbers = f.numbers; threads = f.threads; run = f.run; count = f.count; leads = f.leads; placed = f.placed; faults = tt; prints = same_output p at f.config f.numbers f.after; stands = rests_as at s (length steps) rests f.config f.numbers f.after (orderly_to at steps (behind m at steps r d.silently.run)) d.silently.free d.rested.0 d.rested.1 },
        let h = ended.0 in omega (arith, h),
      )
  at_end m at _ _ steps (StandsAtLimit drains) r ended =
      let goes : (x : Processors) → Run m [] x → (y : Message) (ys : List Message) → x.makes ≡ y ∷ ys → CanGo x =
      λ x run y ys e. let f = follow_to x steps (behind m x steps r run) in makes_go x f.after.mesh f.after.runs y ys e in
      let d = drains_so m at true drains ended.1 goes in
      let f = follow_to at steps (behind m at steps r d.silently.run) in
      let c = can_move p at f.config f.numbers f.after d.found_so in (
        record {
          config = f.config;
          numbers = f.numbers;
          threads = f.threads;
          run = f.run;
          count = f.count;
          leads = f.leads;
          placed = f.placed;
          faults = tt;
          prints = same_output p at f.config f.numbers f.after;
          stands = (refl, (let h = ended.0 in omega (arith, h)), c.0, c.1);
        },
        let h = ended.0 in omega (arith, h),
      )

  pub run_follows : (output : List ℕ) (s : Standing) (notes : List Note) → (run : RunIs p is seed limit output s notes) → RunFollows p is limit output s notes run.end
  run_follows output s notes run =
      let d = rounds_done seed seed limit (first_processors p is) run.last notes run.end run.rounds (first_free p is) in
      let e = at_end run.last run.at run.end s d.steps run.stands d.run d.ended in
      record {
        run = record {
          steps = e.0.threads;
          last = e.0.config;
          run = e.0.run;
          within = let h = e.1 in let c = e.0.count in omega (arith, h, c);
          written = sym (run.prints ∙ e.0.prints);
          stands = subst (λ n. core.Stands p limit n e.0.config s) (sym e.0.count) e.0.stands;
        };
        counted = e.0.count ∙ sym d.counted;
        each = ap (λ ls. length ls) d.labels ∙ sym d.counted;
        numbers = e.0.numbers;
        leads = subst (λ ls. Leads p (map step_of ls) (core.start p is) (first_numbers p is) e.0.config e.0.numbers) (sym d.labels) e.0.leads;
        placed = subst (λ ls. AllByRecursion IsPlaced ls) (sym d.labels) e.0.placed;
        faults = e.0.faults;
      }
