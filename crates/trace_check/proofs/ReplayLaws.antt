-- A step of a replay goes on with the entry, or is the first reason against it.
use Rattle.std.proofs.Common.{◌≡◌, ◌≢◌, ⊎_elim, inl, inr, ℕ, suc, ◌<◌, List, [], ◌∷◌, Option, Some, None, refl, sym, ap, ◌∙◌, subst, arith}
use Rattle.std.specs.Prelude.{true, false, is_some}
use Rattle.std.specs.Option.{option_and_then}
use Rattle.std.proofs.lemmas.Bool.{true≢false}
use Rattle.std.specs.FinMap as fin
use Rattle.global_ptr.specs.declared.ends.ProgFault.{ProgFault}
use Rattle.cc_core.specs.Names.{Name}
use Rattle.cc_core.specs.Core.{Program}
use Rattle.cc_core.specs.Config.{State, Live, Ended}
use Rattle.cc_core.specs.Numbers.{Post, posts}
use Rattle.cc_core.specs.Steps as core
use Rattle.cc_explains.specs.declared.why.Why.{Why}
use Rattle.cc_explains.specs.declared.why.Why.TheVariants.{NoThread, OtherRequest, NotEnabled, Faults, OtherEnd}
use Rattle.cc_explains.specs.Places.{Place, Step, behind}
use Rattle.cc_explains.specs.Moves.{posted_at, asker, IsLiveThread, NoneLives, HasToWait, HasFault, Posts}
use Rattle.cc_explains.specs.Explains.{IsRequest}
use Rattle.cc_explains.specs.Unexplained.{AgainstOwn, AgainstServing, IsFirst, row}
use Rattle.cc_explains.proofs.Failing.{lives, mover_lives, one_name}
use Rattle.cc_explains.proofs.Reading.{one_message}
use Rattle.cc_walk.specs.Answers.{Follows}
use Rattle.cc_walk.specs.Posted.{IsPosted, AsksFor}
use Rattle.cc_walk.specs.Views.{machine_of}
use Rattle.cc_walk.specs.declared.walk.Stepped.{Stepped}
use Rattle.cc_walk.specs.declared.walk.Stepped.TheVariants as stepped
use Rattle.numbered_runs.specs.Machine.{Machine}
use Rattle.numbered_runs.specs.Stands.{thread_named}
use Rattle.rsr_message.specs.declared.requests.Request.{Request}
use Rattle.rsr_message.specs.Requests.{SpellsEither}
use Rattle.cc_ops.specs.declared.number.ThreadNo.{ThreadNo}
use Rattle.trace_check.specs.Replays.{IsAt, MakesStep, ReplaysOwn, ReplaysServing, TellsLife}
use Rattle.trace_check.specs.declared.replay.Replay.{Replay}

-- ---- who lives

fault_lives : (p : Program) (a : Place) (t : ThreadNo) → (h : HasFault p a t) → IsLiveThread a t h.2.0
fault_lives p a t (kind, line, (x, named, faults)) =
    record { named = named; lives = lives p x a.config (subst core.CanMove (sym faults) tt) }

-- a thread that posts a request lives
poster_lives : (p : Program) (a : Place) (t : ThreadNo) → Posts p a t → NoneLives a t → ⊥
poster_lives p a t posted none = from (thread_named a.numbers t) refl _ refl posted
  where
    from : (o : Option Name) → thread_named a.numbers t ≡ o → (q : Option State) → option_and_then (λ x. fin.get a.config.threads x) o ≡ q
        → posts p a.config a.numbers q ≢ None → ⊥
    from o named None is some = some refl
    from o named (Some (Ended v)) is some = some refl
    from None named (Some (Live l)) is some = cc
    from (Some x) named (Some (Live l)) is some = none x (record { named = named; lives = (l, is) })

-- whoever makes a step, waits or is at a fault lives
pub stepped_lives : (p : Program) (t : ThreadNo) (a : Place) (old new : Machine) (result : Stepped) → Follows p a.config a.numbers t old result new
    → result ≢ stepped.Gone → result ≢ stepped.Memory → (x : Name) × IsLiveThread a t x
stepped_lives p t a old new stepped.Moved (x, r, named, moves, stands) gone memory =
    (x, record { named = named; lives = mover_lives p x a.config r moves })
stepped_lives p t a old new stepped.Blocked (x, named, live, waits, same) gone memory = (x, record { named = named; lives = live })
stepped_lives p t a old new stepped.Gone h gone memory = absurd (gone refl)
stepped_lives p t a old new (stepped.Fault fault) (x, named, faults, same) gone memory =
    (x, fault_lives p a t (fault.kind, fault.line, (x, named, faults)))
stepped_lives p t a old new stepped.Memory h gone memory = absurd (memory refl)

-- a thread does not wait at a fault
wait_or_fault : (p : Program) (a : Place) (t : ThreadNo) → HasToWait p a t → HasFault p a t → ⊥
wait_or_fault p a t (x, live, waits) (kind, line, (y, named, faults)) =
    let same : x ≡ y = one_name a t x y live.named named in
    let both : core.Waits ≡ core.Faults kind line = sym waits ∙ (ap (λ (z : Name). core.step p z a.config) same ∙ faults) in
    cc

-- ---- the first reason of the table

-- a reason with no row before it
first_no_thread : (H : Why → Type 0) → H NoThread → IsFirst H NoThread
first_no_thread H h = record { holds = h; first = λ other less. absurd (omega (arith, less)) }

first_other_request : (H : Why → Type 0) → H OtherRequest → ¬ H NoThread → IsFirst H OtherRequest
first_other_request H h thread = record { holds = h; first = before }
  where
    before : (other : Why) → row other < 1 → ¬ H other
    before NoThread less = thread
    before OtherRequest less = absurd (omega (arith, less))
    before NotEnabled less = absurd (omega (arith, less))
    before Faults less = absurd (omega (arith, less))
    before OtherEnd less = absurd (omega (arith, less))

first_not_enabled : (H : Why → Type 0) → H NotEnabled → ¬ H NoThread → ¬ H OtherRequest → IsFirst H NotEnabled
first_not_enabled H h thread request = record { holds = h; first = before }
  where
    before : (other : Why) → row other < 2 → ¬ H other
    before NoThread less = thread
    before OtherRequest less = request
    before NotEnabled less = absurd (omega (arith, less))
    before Faults less = absurd (omega (arith, less))
    before OtherEnd less = absurd (omega (arith, less))

first_faults : (H : Why → Type 0) → H Faults → ¬ H NoThread → ¬ H OtherRequest → ¬ H NotEnabled → IsFirst H Faults
first_faults H h thread request enabled = record { holds = h; first = before }
  where
    before : (other : Why) → row other < 3 → ¬ H other
    before NoThread less = thread
    before OtherRequest less = request
    before NotEnabled less = enabled
    before Faults less = absurd (omega (arith, less))
    before OtherEnd less = absurd (omega (arith, less))

-- ---- what the walk answers

module _ (p : Program) (t : ThreadNo) (a : Place) (old new : Replay) (here : IsAt p old a) where
  pub moved : Follows p a.config a.numbers t (machine_of old.walk) stepped.Moved (machine_of new.walk) → new.made ≡ suc old.made
      → MakesStep p t a None new
  moved (x, r, named, moves, stands) counted = (x, r, named, moves, record { stands = stands; made = counted ∙ ap suc here.made })

pub waited : (p : Program) (t : ThreadNo) (a : Place) (old new : Machine) → Follows p a.config a.numbers t old stepped.Blocked new → HasToWait p a t
waited p t a old new (x, named, live, waits, same) = (x, record { named = named; lives = live }, waits)

pub gone : (p : Program) (t : ThreadNo) (a : Place) (old new : Machine) → Follows p a.config a.numbers t old stepped.Gone new → NoneLives a t
gone p t a old new (none, same) = λ x live. none x live.named live.lives

pub faulted : (p : Program) (t : ThreadNo) (a : Place) (old new : Machine) (fault : ProgFault)
    → Follows p a.config a.numbers t old (stepped.Fault fault) new → HasFault p a t
faulted p t a old new fault (x, named, faults, same) = (fault.kind, fault.line, (x, named, faults))

-- ---- what the thread asks

no_post : (t : ThreadNo) (post : Option Post) → IsPosted t post None → post ≡ None
no_post t None h = refl
no_post t (Some post) h = absurd h

pub asks_none : (p : Program) (t : ThreadNo) (a : Place) (o : Option Request) → AsksFor p a.config a.numbers t o → is_some o ≡ false
    → posted_at p a t ≡ None
asks_none p t a None h is = no_post t (posted_at p a t) h
asks_none p t a (Some r) h is = absurd (true≢false is)

pub asks_some : (p : Program) (t : ThreadNo) (a : Place) (o : Option Request) → AsksFor p a.config a.numbers t o → is_some o ≡ true → Posts p a t
asks_some p t a None h is = absurd (true≢false (sym is))
asks_some p t a (Some r) h is = λ none. subst (λ (post : Option Post). IsPosted t post (Some r)) none h

-- ---- a step of the thread's own

pub posts_stops : (p : Program) (t : ThreadNo) (a : Place) → Posts p a t → IsFirst (AgainstOwn p t a) NotEnabled
posts_stops p t a posted = first_not_enabled (AgainstOwn p t a) (inr posted) (poster_lives p a t posted) (λ h. h)

pub own_goes_on : (p : Program) (t : ThreadNo) (a : Place) (why : Option Why) (new : Replay) → posted_at p a t ≡ None → MakesStep p t a why new
    → ReplaysOwn p t a why new
own_goes_on p t a None new own (x, r, named, moves, at) =
    let m : Step = record { place = a; thread = x } in
    (behind p x a r, (m ∷ [], (refl, r, moves, refl), (refl, (record { thread = named; own = own }, tt))), at)
own_goes_on p t a (Some NoThread) new own h = first_no_thread (AgainstOwn p t a) h
own_goes_on p t a (Some OtherRequest) new own h = absurd h
own_goes_on p t a (Some NotEnabled) new own h = first_not_enabled (AgainstOwn p t a) (inl h) (λ none. none h.0 h.1) (λ other. other)
own_goes_on p t a (Some Faults) new own h =
    first_faults (AgainstOwn p t a) h (λ none. none h.2.0 (fault_lives p a t h)) (λ other. other)
    (λ stops. ⊎_elim (λ waits. wait_or_fault p a t waits h) (λ posted. posted own) stops)
own_goes_on p t a (Some OtherEnd) new own h = absurd h

-- ---- the step of a request

module _ (p : Program) (at : Option ℕ) (bytes : List ℕ) (a : Place) where
  pub no_message : ((r : Request) → SpellsEither r bytes → ⊥) → IsFirst (AgainstServing p at bytes a) NoThread
  no_message none = first_no_thread (AgainstServing p at bytes a) (λ r spelled. absurd (none r spelled))

  module _ (q : Request) (spelled : SpellsEither q bytes) where
    same : (o : Request) → SpellsEither o bytes → q ≡ o
    same o its = one_message q o bytes spelled its

    none_named : NoneLives a (asker q) → IsFirst (AgainstServing p at bytes a) NoThread
    none_named none = first_no_thread (AgainstServing p at bytes a) (λ o its. subst (λ (z : Request). NoneLives a (asker z)) (same o its) none)

    -- not that request: refused for it, where its asker lives
    pub other_request : (¬ IsRequest p at bytes a q) → TellsLife a (asker q) true → IsFirst (AgainstServing p at bytes a) OtherRequest
    other_request differs (x, live) = first_other_request (AgainstServing p at bytes a) (q, spelled, differs) (λ none. none q spelled x live)

    pub dead_asker : TellsLife a (asker q) false → IsFirst (AgainstServing p at bytes a) NoThread
    dead_asker none = none_named none

    module _ (is : IsRequest p at bytes a q) where
      no_other : ¬ AgainstServing p at bytes a OtherRequest
      no_other (o, its, differs) = differs (subst (IsRequest p at bytes a) (same o its) is)

      pub serving_goes_on : (why : Option Why) (new : Replay) → MakesStep p (asker q) a why new → ReplaysServing p at bytes a why new
      serving_goes_on None new (x, r, named, moves, there) =
          let m : Step = record { place = a; thread = x } in
          (behind p x a r, (m ∷ [], (refl, r, moves, refl), (m, refl, record { request = q; is = is; thread = named })), there)
      serving_goes_on (Some NoThread) new h = none_named h
      serving_goes_on (Some OtherRequest) new h = absurd h
      serving_goes_on (Some NotEnabled) new h =
          first_not_enabled (AgainstServing p at bytes a) (q, spelled, h) (λ none. none q spelled h.0 h.1) no_other
      serving_goes_on (Some Faults) new h =
          first_faults (AgainstServing p at bytes a) (q, spelled, h) (λ none. none q spelled h.2.0 (fault_lives p a (asker q) h)) no_other
          (λ stops. wait_or_fault p a (asker q) (subst (λ (z : Request). HasToWait p a (asker z)) (sym (same stops.0 stops.1)) stops.2) h)
      serving_goes_on (Some OtherEnd) new h = absurd h
