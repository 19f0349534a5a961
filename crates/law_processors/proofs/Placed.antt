-- A request is served where it goes.
use Rattle.std.proofs.Common.{◌≡◌, ℕ, List, [], ◌∷◌, ◌++◌, map, slice_get, Bool, true, false, if◌then◌else◌, Option, Some, None, refl, ap, ◌∙◌, subst}
use Rattle.std.specs.Option.{option_map_or}
use Rattle.global_ptr.specs.declared.ends.FaultKind.TheVariants.{NullPointer}
use Rattle.cc_ops.specs.Machine.{Address}
use Rattle.cc_ops.specs.Values.{Value}
use Rattle.cc_ops.specs.declared.number.ThreadNo.{ThreadNo}
use Rattle.cc_core.specs.Asks.{Ask, Answer}
use Rattle.cc_core.specs.Numbers.{Post, Get, Put, Call, Cast, Make}
use Rattle.cc_core.specs.Needs.{Verdict, Go, Hold, Bad}
use Rattle.cc_code.specs.Code.{Code, Then, Move, Silent, Does, Ends, Stuck, move}
use Rattle.numbered_runs.specs.Posts.{posted}
use Rattle.law_mesh.specs.Spots.{Fiber, Mesh, verdict}
use Rattle.law_mesh.specs.Queues.{Mail, Message, Asks, Answers, Inbox, Ready, OfCell, target, holds_none}
use Rattle.law_mesh.proofs.Queues.{IsAsking, IsDelayed, IsPosted, asking_is}
use Rattle.law_processors.specs.Processors.{Waiter, Asked, Goes, Joins, Asking, Has, Entry, Lives, Ended, Processor, Processors, Runs, lists, waiter_item}
use Rattle.law_processors.specs.Alone.{Label, OwnStep, Did, Went, Failed, asks_here, asks_null, is_taken, goes_into, enters_later, seen, send}
use Rattle.law_processors.specs.Alone.{effect_here, stepped_here, may_step, decided, asks_itself, asks_by, moves_by, entry_moves, hand_moves}
use Rattle.law_processors.specs.Alone.{put_hand, put_entry, served_so, serves, told, serves_inbox}
use Rattle.law_processors.specs.Machine.{without_ready, seen_by_makes, makes_so, makes_first, made, Moves, TakesUp, PutsBack, MovesOn, ServesFirst, ServesWoken, Delivers}
use Rattle.law_processors.specs.Machine as machine
use Rattle.law_processors.specs.Follow.{IsPlaced}
use Rattle.law_processors.proofs.Edits.{map_append}

abbrev pub ArePlaced : Option Label → Type 0
ArePlaced None = Unit {0}
ArePlaced (Some l) = IsPlaced l

module _ {A : Type 0} where
  abbrev pub Placed : Did A → Type 0
  Placed (Went step prints a) = ArePlaced step
  Placed (Failed kind t) = Unit {0}

-- ---- the thread in the hand

module _ (code : Code) (q n : ℕ) (f : Fiber) (caller : Option ThreadNo) (ask : Ask Address) (k : Answer Address → Then Address) (p : Processor) where
  decided_placed : (v : Verdict Address) → Placed (decided code q n f caller ask k p v)
  decided_placed (Go found) = by (may_step code q n f caller ask k p found)
    where
      by : (b : Bool) → Placed (if b then Went (Some (OwnStep (record { processor = q; thread = n }))) (effect_here code q n f caller ask k p found).prints
          (stepped_here code q n f caller ask k p found) else Went None [] p)
      by true = tt
      by false = tt
  decided_placed Hold = tt
  decided_placed (Bad kind) = tt

  itself_placed : Placed (asks_itself code q n f caller ask k p)
  itself_placed = by (is_taken p n (goes_into code.shapes ask))
    where
      by : (b : Bool) → Placed (if b then Went None [] (enters_later n (goes_into code.shapes ask) p) else decided code q n f caller ask k p (verdict (seen code q p) q f ask))
      by true = tt
      by false = decided_placed (verdict (seen code q p) q f ask)

  asks_placed : (o : Option Post) → Placed (asks_by code q n f caller ask k p o)
  asks_placed None = by (asks_null ask) (asks_here q f ask)
    where
      by : (b c : Bool) → Placed (if b then Failed NullPointer (record { processor = q; thread = n }) else (if c then asks_itself code q n f caller ask k p else Went None [] p))
      by true c = tt
      by false true = itself_placed
      by false false = tt
  asks_placed (Some post) = by (holds_none code.shapes f.inside)
    where
      by : (b : Bool) → Placed (if b then Went None [] (send (Asks (record { processor = q; thread = n }) post) (put_hand None (put_entry n (Lives f Asking caller) p))) else Went None [] p)
      by true = tt
      by false = tt

module _ (code : Code) (q : ℕ) (p : Processor) where
  move_placed : (n : ℕ) (f : Fiber) (caller : Option ThreadNo) (mv : Move Address) → Placed (moves_by code q n f caller mv p)
  move_placed n f caller (Silent c) = tt
  move_placed n f caller (Does line ask k) = asks_placed code q n f caller ask k p (posted ask)
  move_placed n f caller (Ends v) = tt
  move_placed n f caller Stuck = tt

  entry_placed : (n : ℕ) (o : Option Entry) → Placed (entry_moves code q n o p)
  entry_placed n None = tt
  entry_placed n (Some (Ended v)) = tt
  entry_placed n (Some (Lives f Goes caller)) = move_placed n f caller (move code f.thread)
  entry_placed n (Some (Lives f Joins caller)) = tt
  entry_placed n (Some (Lives f Asking caller)) = tt
  entry_placed n (Some (Lives f (Has v) caller)) = tt

  hand_placed : (o : Option ℕ) → Placed (hand_moves code q o p)
  hand_placed None = tt
  hand_placed (Some n) = entry_placed n (slice_get p.table n)

  -- ---- requests

  so_placed : (t : ThreadNo) (post : Post) (v : Verdict Address) (after before : Processor) → target post ≡ Some q → Placed (served_so q t post v after before)
  so_placed t post (Go found) after before on = on
  so_placed t post Hold after before on = tt
  so_placed t post (Bad kind) after before on = tt

  told_placed : (i : ℕ) (v : Value Address) (o : Option Entry) (after before : Processor) → Placed (told code i v o after before)
  told_placed i v None after before = tt
  told_placed i v (Some (Ended u)) after before = tt
  told_placed i v (Some (Lives f Goes caller)) after before = tt
  told_placed i v (Some (Lives f Joins caller)) after before = tt
  told_placed i v (Some (Lives f Asking caller)) after before = tt
  told_placed i v (Some (Lives f (Has u) caller)) after before = tt

module _ (m : Processors) (n : Mesh) (runs : Runs m n) where
  module _ (q : ℕ) (p : Processor) (there : slice_get m.all q ≡ Some p) where
    inbox_placed : (messages : List Message) → p.inbox ≡ messages → Placed (serves_inbox m.code q messages p)
    inbox_placed [] e = tt
    inbox_placed (Answers t v ∷ rest) e = told_placed m.code q p t.thread v _ _ _
    inbox_placed (Asks t post ∷ rest) e = by (asking_is m.code (lists m) n.spots runs.lists (Inbox q) [] (map Mail rest) t post at)
      where
        at : lists m (Inbox q) ≡ [] ++ Mail (Asks t post) ∷ map Mail rest
        at = ap (λ o. option_map_or (λ (z : Processor). map Mail z.inbox) o []) there ∙ ap (map Mail) e

        by : IsAsking m.code (lists m) n.spots runs.lists (Inbox q) [] (map Mail rest) t post
            → Placed (serves m.code q t post (record p { inbox = rest }) p)
        by (IsDelayed b x f stands d) = let z : Inbox q ≡ OfCell b x = d in absurd (cc)
        by (IsPosted f stands posts lies) = so_placed m.code q p t post _ (record p { inbox = rest }) p lies

    woken_placed : (front : List Waiter) (t : ThreadNo) (post : Post) (back : List Waiter) → p.ready ≡ front ++ Asked t post ∷ back
        → Placed (serves m.code q t post (without_ready (front ++ back) p) p)
    woken_placed front t post back e =
        by (asking_is m.code (lists m) n.spots runs.lists (Ready q) (map (waiter_item q) front) (map (waiter_item q) back) t post at)
      where
        at : lists m (Ready q) ≡ map (waiter_item q) front ++ Mail (Asks t post) ∷ map (waiter_item q) back
        at = ap (λ o. option_map_or (λ (z : Processor). map (waiter_item q) z.ready) o []) there
            ∙ (ap (map (waiter_item q)) e ∙ map_append (waiter_item q) front (Asked t post ∷ back))

        by : IsAsking m.code (lists m) n.spots runs.lists (Ready q) (map (waiter_item q) front) (map (waiter_item q) back) t post
            → Placed (serves m.code q t post (without_ready (front ++ back) p) p)
        by (IsDelayed b x f stands d) = let z : Ready q ≡ OfCell b x = d in absurd (cc)
        by (IsPosted f stands posts lies) = so_placed m.code q p t post _ (without_ready (front ++ back) p) p lies

  verdict_placed : (t : ThreadNo) (c : ℕ) (vs : List (Value Address)) (rest : List Message) (v : Verdict Address) → Placed (makes_so t c vs rest m v)
  verdict_placed t c vs rest (Go found) = refl
  verdict_placed t c vs rest Hold = tt
  verdict_placed t c vs rest (Bad kind) = tt

  makes_placed : (messages : List Message) → Placed (makes_first messages m)
  makes_placed [] = tt
  makes_placed (Answers t v ∷ rest) = tt
  makes_placed (Asks t (Get a) ∷ rest) = tt
  makes_placed (Asks t (Put a v) ∷ rest) = tt
  makes_placed (Asks t (Call h o vs) ∷ rest) = tt
  makes_placed (Asks t (Cast h o vs) ∷ rest) = tt
  makes_placed (Asks t (Make c vs) ∷ rest) = verdict_placed t c vs rest _

  pub moves_placed : (step : Option Label) (m' : Processors) → Moves m step m' → ArePlaced step
  moves_placed _ _ (TakesUp q p front i back there hand ready) = tt
  moves_placed _ _ (PutsBack q p i there hand) = tt
  moves_placed _ _ (MovesOn q p i step prints p' there hand e) = subst Placed e (hand_placed m.code q p p.hand)
  moves_placed _ _ (ServesFirst q p message rest step prints p' there first e) = subst Placed e (inbox_placed q p there p.inbox refl)
  moves_placed _ _ (ServesWoken q p front t post back step prints p' there ready e) = subst Placed e (woken_placed q p there front t post back ready)
  moves_placed _ _ (machine.Makes message rest step prints m' first e) = subst Placed e (makes_placed m.makes)
  moves_placed _ _ (Delivers q p front message back there out alike) = tt

  pub step_placed : (l : Label) (m' : Processors) → Moves m (Some l) m' → IsPlaced l
  step_placed l m' h = moves_placed (Some l) m' h
