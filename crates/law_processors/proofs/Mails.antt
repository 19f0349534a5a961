-- A message is delivered; a Make is served.
use Rattle.std.proofs.Common.{◌≡◌, inr, ℕ, List, [], ◌∷◌, ◌++◌, map, Option, Some, None, refl, sym, ap, ◌∙◌, subst}
use Rattle.std.specs.Prelude.{slice_get}
use Rattle.std.proofs.lemmas.Option.{none-some, same_Some}
use Rattle.cc_ops.specs.Values.{Value}
use Rattle.cc_ops.specs.Machine.{Address}
use Rattle.cc_ops.specs.declared.number.ThreadNo.{ThreadNo}
use Rattle.cc_ops.specs.Shelves.{changed}
use Rattle.cc_core.specs.Numbers.{Post}
use Rattle.cc_code.specs.Code.{Code}
use Rattle.code_names.specs.Same.{Pairwise}
use Rattle.law_mesh.specs.Spots.{Spot, Posted, Answered, Called, Mesh, item_in}
use Rattle.law_mesh.specs.Queues.{Queue, Hand, Ready, OfCell, OfLock, Inbox, Outbox, Makes, Message, Asks, Answers, asker, Item, Mail, Hold as HoldLists, MayLie, AsksAt, AnswersAt, target}
use Rattle.law_processors.specs.Processors.{Processor, Processors, IsEntry, caller_of, lists, shelves_of, tables_of, Runs, with_processor}
use Rattle.law_processors.specs.Alone.{send}
use Rattle.law_processors.specs.Machine.{goes_to, receive, without_first, arrives, goes_off, delivered}
use Rattle.law_processors.specs.Follow.{Stays, GoesTo}
use Rattle.law_mesh.proofs.Local.{changed_alike, changed_same, changed_twice}
use Rattle.law_mesh.proofs.Queues.{asking_is, IsAsking, IsPosted, IsDelayed, answer_is, IsAnswer, IsGiven, IsResult}
use Rattle.law_processors.proofs.Edits.{Pulls, Pushes, carried_over, pulls_out, pushes_out, pushes_in, in_outbox_now, map_changed, map_append, map_at}
use Rattle.law_processors.proofs.Base.{put_same}

-- ---- a message is carried

-- the machine with other lists
pub runs_so : (m m' : Processors) (n : Mesh) → Runs m n → m.code ≡ m'.code → shelves_of m.all ≡ shelves_of m'.all → tables_of m.all ≡ tables_of m'.all → m.output ≡ m'.output
    → HoldLists m'.code (lists m') n.spots → Runs m' n
runs_so m m' n r code shelves tables output hold = record {
  code = sym code ∙ r.code;
  shelves = sym shelves ∙ r.shelves;
  output = sym output ∙ r.output;
  entries = subst (λ ts. Pairwise (Pairwise IsEntry) ts n.spots) tables r.entries;
  lists = hold;
  callers = λ t kid e. r.callers t kid (ap (λ ts. caller_of (item_in ts kid)) tables ∙ e);
  askers = λ t kid f e. ap (λ ts. caller_of (item_in ts kid)) (sym tables) ∙ r.askers t kid f e;
}

-- where a message may lie it may lie at its target
module _ (m : Processors) (n : Mesh) (runs : Runs m n) (k : Queue) (front back : List Item) (not_cell : (b : Address) (x : ℕ) → k ≡ OfCell b x → ⊥) where
  pub may_go : (message : Message) → lists m k ≡ front ++ Mail message ∷ back → (l : Queue)
      → ((t : ThreadNo) (post : Post) → message ≡ Asks t post → AsksAt post l) → ((t : ThreadNo) (v : Value Address) → message ≡ Answers t v → AnswersAt t.processor l)
      → (s : Spot) × (item_in n.spots (asker message) ≡ Some s) × MayLie m.code (asker message) s (Some (l, Mail message))
  may_go (Asks t post) at l asks answers = by (asking_is m.code (lists m) n.spots runs.lists k front back t post at)
    where
      by : IsAsking m.code (lists m) n.spots runs.lists k front back t post
          → (s : Spot) × (item_in n.spots t ≡ Some s) × MayLie m.code t s (Some (l, Mail (Asks t post)))
      by (IsPosted f stands posts lies) = (Posted f, stands, (l, post, asks t post refl, posts, refl))
      by (IsDelayed b x f stands e) = absurd (not_cell b x e)
  may_go (Answers t v) at l asks answers = by (answer_is m.code (lists m) n.spots runs.lists k front back t v at)
    where
      by : IsAnswer m.code (lists m) n.spots runs.lists k front back t v
          → (s : Spot) × (item_in n.spots t ≡ Some s) × MayLie m.code t s (Some (l, Mail (Answers t v)))
      by (IsGiven vs f stands given lies) = (Answered vs f, stands, (l, v, answers t v refl, given, refl))
      by (IsResult kid f stands calls lies) = (Called kid v f, stands, (calls, inr (l, answers t v refl, refl)))

  -- it lies in another list
  pub mail_carried : (message : Message) → lists m k ≡ front ++ Mail message ∷ back → (m1 m2 : Processors) → Pulls m m1 k front back → (l : Queue)
      → Pushes m1 m2 l (Mail message)
      → ((t : ThreadNo) (post : Post) → message ≡ Asks t post → AsksAt post l) → ((t : ThreadNo) (v : Value Address) → message ≡ Answers t v → AnswersAt t.processor l)
      → HoldLists m.code (lists m2) n.spots
  mail_carried message at m1 m2 pulls l pushes asks answers =
      let s = may_go message at l asks answers in
      subst (HoldLists m.code (lists m2)) (put_same n.spots (asker message) s.0 s.1)
      (carried_over m.code m n.spots runs.lists k front back (Mail message) at s.0 s.1 m1 m2 pulls l (Mail message) pushes refl s.0 s.2)

-- ---- delivery

module _ {X : Type 0} (f : Processor → X) where
  same_changed : (all : List Processor) (q : ℕ) (p p' : Processor) → slice_get all q ≡ Some p → f p ≡ f p' → map f all ≡ map f (changed all q (λ o. p'))
  same_changed all q p p' there e =
      sym (map_changed f all q p'
      ∙ (changed_alike (map f all) q (λ o. f p') (λ z. z) (λ z at. sym e ∙ same_Some (f p) z (sym (map_at f all q p there) ∙ at))
      ∙ changed_same (map f all) q))

goes_somewhere : (t : ThreadNo) (post : Post) (message : Message) → message ≡ Asks t post → goes_to message ≡ target post
goes_somewhere t post message e = ap goes_to e

module _ (m : Processors) (n : Mesh) (runs : Runs m n) (q : ℕ) (p : Processor) (there : slice_get m.all q ≡ Some p) (front : List Message) (message : Message) (back : List Message)
    (out : p.outbox ≡ front ++ message ∷ back) where
  p1 : Processor
  p1 = without_first (front ++ back) p

  abbrev m1 : Processors
  m1 = with_processor m q (without_first (front ++ back) p)

  same : changed m.all q (λ o. p) ≡ m.all
  same = changed_alike m.all q (λ o. p) (λ z. z) (λ z at. same_Some p z (sym there ∙ at)) ∙ changed_same m.all q

  now : lists m (Outbox q) ≡ map Mail front ++ Mail message ∷ map Mail back
  now = subst (λ all. lists (record { code = m.code; all = all; makes = m.makes; output = m.output }) (Outbox q) ≡ map Mail front ++ Mail message ∷ map Mail back) same
      (in_outbox_now m q p there front message back p out)

  pulls : Pulls m m1 (Outbox q) (map Mail front) (map Mail back)
  pulls = subst (λ all. Pulls (record { code = m.code; all = all; makes = m.makes; output = m.output }) m1 (Outbox q) (map Mail front) (map Mail back)) same
      (pulls_out m q p there front back p)

  not_cell : (b : Address) (x : ℕ) → Outbox q ≡ OfCell b x → ⊥
  not_cell b x e = let d : Outbox q ≡ OfCell b x = e in cc

  -- the message may lie there
  reaches : (m2 : Processors) (l : Queue) → Pushes m1 m2 l (Mail message) → m.code ≡ m2.code → shelves_of m.all ≡ shelves_of m2.all → tables_of m.all ≡ tables_of m2.all → m.output ≡ m2.output
      → ((t : ThreadNo) (post : Post) → message ≡ Asks t post → AsksAt post l) → ((t : ThreadNo) (v : Value Address) → message ≡ Answers t v → AnswersAt t.processor l)
      → GoesTo n [] m2
  reaches m2 l pushes code shelves tables output asks answers = record {
    mesh = n;
    run = Stays;
    runs = runs_so m m2 n runs code shelves tables output
        (subst (λ (c : Code). HoldLists c (lists m2) n.spots) code
        (mail_carried m n runs (Outbox q) (map Mail front) (map Mail back) not_cell message now m1 m2 pulls l pushes asks answers));
  }

  to_makes : goes_to message ≡ None → GoesTo n [] (goes_off m1 q message None)
  to_makes none = reaches (goes_off m1 q message None) Makes pushes refl (same_changed (λ (r : Processor). r.shelf) m.all q p (without_first (front ++ back) p) there refl)
      (same_changed (λ (r : Processor). r.table) m.all q p (without_first (front ++ back) p) there refl) refl
      (λ t post e. sym (ap goes_to e) ∙ none) (λ t v e. absurd (none-some t.processor (sym none ∙ ap goes_to e)))
    where
      pushes : Pushes m1 (goes_off m1 q message None) Makes (Mail message)
      pushes (Hand j) = refl
      pushes (Ready j) = refl
      pushes (OfCell b x) = refl
      pushes (OfLock b) = refl
      pushes (Inbox j) = refl
      pushes (Outbox j) = refl
      pushes Makes = sym (map_append Mail m.makes (message ∷ []))

  to_one : (r : ℕ) → goes_to message ≡ Some r → (o : Option Processor) → slice_get m1.all r ≡ o → GoesTo n [] (arrives m1 q r message o)
  to_one r some None at = reaches (arrives m1 q r message None) (Outbox q) pushes refl (shelves ∙ ap shelves_of (sym all_is)) (tables ∙ ap tables_of (sym all_is)) refl (λ t post e. tt) (λ t v e. tt)
    where
      p2 : Processor
      p2 = send message (without_first (front ++ back) p)

      all_is : changed (changed m.all q (λ o. without_first (front ++ back) p)) q (send message) ≡ changed m.all q (λ o. send message (without_first (front ++ back) p))
      all_is = changed_twice m.all q (λ o. without_first (front ++ back) p) (send message)

      shelves : shelves_of m.all ≡ shelves_of (changed m.all q (λ o. send message (without_first (front ++ back) p)))
      shelves = same_changed (λ (r : Processor). r.shelf) m.all q p (send message (without_first (front ++ back) p)) there refl

      tables : tables_of m.all ≡ tables_of (changed m.all q (λ o. send message (without_first (front ++ back) p)))
      tables = same_changed (λ (r : Processor). r.table) m.all q p (send message (without_first (front ++ back) p)) there refl

      pushes : Pushes m1 (arrives m1 q r message None) (Outbox q) (Mail message)
      pushes = subst (λ all. Pushes m1 (record { code = m.code; all = all; makes = m.makes; output = m.output }) (Outbox q) (Mail message)) (sym all_is)
          (pushes_out m q p there message (without_first (front ++ back) p))
  to_one r some (Some p2) at = reaches (arrives m1 q r message (Some p2)) (Inbox r) pushes refl
      (same_changed (λ (r : Processor). r.shelf) m.all q p (without_first (front ++ back) p) there refl ∙ same_changed (λ (r : Processor). r.shelf) m1.all r p2 (receive message p2) at refl)
      (same_changed (λ (r : Processor). r.table) m.all q p (without_first (front ++ back) p) there refl ∙ same_changed (λ (r : Processor). r.table) m1.all r p2 (receive message p2) at refl) refl
      (λ t post e. sym (ap goes_to e) ∙ some) (λ t v e. same_Some r t.processor (sym some ∙ ap goes_to e))
    where
      same2 : changed (changed m.all q (λ o. without_first (front ++ back) p)) r (λ o. p2) ≡ changed m.all q (λ o. without_first (front ++ back) p)
      same2 = changed_alike m1.all r (λ o. p2) (λ z. z) (λ z z_at. same_Some p2 z (sym at ∙ z_at)) ∙ changed_same m1.all r

      pushes : Pushes m1 (arrives m1 q r message (Some p2)) (Inbox r) (Mail message)
      pushes = subst (λ all. Pushes (record { code = m.code; all = all; makes = m.makes; output = m.output }) (arrives m1 q r message (Some p2)) (Inbox r) (Mail message)) same2
          (pushes_in m1 r p2 at message p2)

  pub delivers : GoesTo n [] (delivered m q p message (front ++ back))
  delivers = by (goes_to message) refl
    where
      by : (o : Option ℕ) → goes_to message ≡ o → GoesTo n [] (goes_off m1 q message o)
      by None e = to_makes e
      by (Some r) e = to_one r e (slice_get m1.all r) refl
