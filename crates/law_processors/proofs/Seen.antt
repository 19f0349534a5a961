-- What an ask finds on a processor it finds in the mesh.
use Rattle.std.proofs.Common.{◌≡◌, ℕ, zero, suc, List, [], ◌∷◌, length, map, Bool, true, false, ◌&&◌, Option, Some, None, refl, sym, ap, ◌∙◌}
use Rattle.std.specs.Prelude.{slice_get}
use Rattle.std.specs.Option.{option_and_then}
use Rattle.std.proofs.lemmas.Bool.{false≢true}
use Rattle.std.proofs.lemmas.List.{length-map}
use Rattle.cc_ops.specs.Values.{Value, Void, Int, Null, Ptr}
use Rattle.cc_ops.specs.Machine.{Address}
use Rattle.cc_ops.specs.declared.number.ThreadNo.{ThreadNo}
use Rattle.cc_ops.specs.Shelves.{Shelf, no_shelf, home_in}
use Rattle.cc_core.specs.Asks.{Ask, Reads, Writes, Copies, Indexes, Shifts, Computes, Tests, Makes, MakesWith, Builds, Enters, Leaves}
use Rattle.cc_core.specs.Asks.{ForksAll, ForksOne, Joins, Spawns, Prints, Calls, Casts, NewProcessor}
use Rattle.cc_core.specs.Numbers.{Post, Get, Put, Call, Cast, Make}
use Rattle.cc_core.specs.Needs.{verdict_on_all}
use Rattle.cc_code.specs.Code.{Code}
use Rattle.code_names.specs.Same.{Pairwise}
use Rattle.numbered_runs.specs.Looks.{needs}
use Rattle.numbered_runs.proofs.Lists.{get_changed, pairwise_length, pairwise_right}
use Rattle.law_mesh.specs.Spots.{Fiber, Spot, Active, Parked, Posted, Delayed, Answered, Calling, Called, Gone, Mesh, made_of, looks, verdict, is_gone, kid_gone}
use Rattle.law_mesh.specs.Local.{IsOn, KidsOn, KidOn, AnsweredOn, AreOn}
use Rattle.law_processors.specs.Processors.{Goes, Joins as JoinsBranches, Asking, Has, Entry, Lives, Ended, Processor, Processors, IsEntry}
use Rattle.law_processors.specs.Alone.{alone_at, seen_entry, seen, is_on, all_on, kid_on, kids_on, asks_here, nobody, ask_of}
use Rattle.law_mesh.proofs.Answers.{answered_alike}
use Rattle.law_mesh.proofs.Queues.{same_number}
use Rattle.law_processors.proofs.Edits.{map_at}
use Rattle.law_processors.proofs.Base.{Base, tables_with, row_at}

-- ---- a list of which one item is known

pub alone_there : {X : Type 0} (q : ℕ) (none x : X) → slice_get (alone_at q none x) q ≡ Some x
alone_there zero none x = refl
alone_there (suc q) none x = alone_there q none x

made_alone : (q : ℕ) (xs ys : List Spot) → length xs ≡ length ys → (h : ℕ) → made_of (alone_at q [] xs) h ≡ made_of (alone_at q [] ys) h
made_alone zero xs ys e zero = e
made_alone zero xs ys e (suc h) = refl
made_alone (suc q) xs ys e zero = refl
made_alone (suc q) xs ys e (suc h) = made_alone q xs ys e h

gone_one : (e : Entry) (p : Spot) → IsEntry e p → is_gone (Some p) ≡ is_gone (Some (seen_entry e))
gone_one (Lives f Goes k) (Active g) h = refl
gone_one (Lives f Goes k) (Parked r g) h = refl
gone_one (Lives f JoinsBranches k) (Parked r g) h = refl
gone_one (Lives f Asking k) (Posted g) h = refl
gone_one (Lives f Asking k) (Delayed a x g) h = refl
gone_one (Lives f Asking k) (Answered vs g) h = refl
gone_one (Lives f Asking k) (Calling kid g) h = refl
gone_one (Lives f Asking k) (Called kid v g) h = refl
gone_one (Lives f (Has u) k) (Called kid v g) h = refl
gone_one (Ended u) (Gone v) h = refl
gone_one e p h = absurd h

gone_in_row : (es : List Entry) (ps : List Spot) → Pairwise IsEntry es ps → (j : ℕ) → is_gone (slice_get ps j) ≡ is_gone (slice_get (map seen_entry es) j)
gone_in_row [] [] h j = refl
gone_in_row [] (p ∷ ps) h j = absurd h
gone_in_row (e ∷ es) [] h j = absurd h
gone_in_row (e ∷ es) (p ∷ ps) h zero = gone_one e p h.0
gone_in_row (e ∷ es) (p ∷ ps) h (suc j) = gone_in_row es ps h.1 j

gone_in_table : (q : ℕ) (es : List Entry) (ps : List Spot) → Pairwise IsEntry es ps → (i j : ℕ)
    → is_gone (option_and_then (λ (xs : List Spot). slice_get xs j) (slice_get (alone_at q [] ps) i))
    ≡ is_gone (option_and_then (λ (xs : List Spot). slice_get xs j) (slice_get (alone_at q [] (map seen_entry es)) i))
gone_in_table zero es ps h zero j = gone_in_row es ps h j
gone_in_table zero es ps h (suc i) j = refl
gone_in_table (suc q) es ps h zero j = refl
gone_in_table (suc q) es ps h (suc i) j = gone_in_table q es ps h i j

-- ---- tests

pub both_true : (a b : Bool) → a && b ≡ true → (a ≡ true) × (b ≡ true)
both_true true b h = (refl, h)
both_true false b h = absurd (false≢true h)

pub is_on_so : (q : ℕ) (v : Value Address) → is_on q v ≡ true → IsOn q v
is_on_so q Void e = tt
is_on_so q (Int n) e = tt
is_on_so q Null e = tt
is_on_so q (Ptr a x) e = same_number a.processor q e

pub all_on_so : (q : ℕ) (es : List (ℕ × Value Address)) → all_on q es ≡ true → AreOn q es
all_on_so q [] e = tt
all_on_so q (x ∷ es) e = let b = both_true (is_on q x.1) (all_on q es) e in (is_on_so q x.1 b.0, all_on_so q es b.1)

kid_on_so : (q : ℕ) (kid : Option ThreadNo) → kid_on q kid ≡ true → KidOn q kid
kid_on_so q None e = tt
kid_on_so q (Some t) e = same_number t.processor q e

kids_on_so : (q : ℕ) (kids : List (Option ThreadNo)) → kids_on q kids ≡ true → KidsOn q kids
kids_on_so q [] e = tt
kids_on_so q (kid ∷ kids) e = let b = both_true (kid_on q kid) (kids_on q kids) e in (kid_on_so q kid b.0, kids_on_so q kids b.1)

pub answered_here : (q : ℕ) (f : Fiber) (ask : Ask Address) → asks_here q f ask ≡ true → AnsweredOn q q f ask
answered_here q f (Reads remote a) e = is_on_so q a e
answered_here q f (Writes remote a v) e = is_on_so q a e
answered_here q f (Copies a n) e = is_on_so q a e
answered_here q f (Enters g o vs) e = (refl, is_on_so q o e)
answered_here q f (ForksOne v) e = (refl, is_on_so q v e)
answered_here q f (Joins made) e = kids_on_so q f.kids e
answered_here q f (Calls g o vs) e = absurd (false≢true e)
answered_here q f (Casts g o vs) e = absurd (false≢true e)
answered_here q f (NewProcessor c vs) e = absurd (false≢true e)
answered_here q f (Indexes a n i) e = tt
answered_here q f (Shifts a i) e = tt
answered_here q f (Computes op vs) e = tt
answered_here q f Tests e = tt
answered_here q f (Makes kind n) e = refl
answered_here q f (MakesWith kind v) e = refl
answered_here q f (Builds c vs) e = refl
answered_here q f Leaves e = tt
answered_here q f (ForksAll n) e = refl
answered_here q f (Spawns g o vs) e = refl
answered_here q f (Prints parts vs) e = tt

-- ---- the mesh of which one processor is known

module _ (code : Code) (shelves : List Shelf) (q : ℕ) (es : List Entry) (ps : List Spot) (alike : Pairwise IsEntry es ps) (h h' : Address → Option ThreadNo) (o o' : List ℕ)
    (i : ℕ) (f : Fiber) where
  abbrev known : Mesh
  known = record { code = code; shelves = shelves; spots = alone_at q [] ps; holder = h; output = o }

  abbrev told : Mesh
  told = record { code = code; shelves = shelves; spots = alone_at q [] (map seen_entry es); holder = h'; output = o' }

  made_so : (p : ℕ) → made_of known.spots p ≡ made_of told.spots p
  made_so = made_alone q ps (map seen_entry es) (sym (pairwise_length IsEntry es ps alike) ∙ sym (length-map es seen_entry))

  kid_so : (kids : List (Option ThreadNo)) (k : ℕ) → kid_gone known.spots kids k ≡ kid_gone told.spots kids k
  kid_so [] k = refl
  kid_so (None ∷ kids) zero = refl
  kid_so (Some t ∷ kids) zero = gone_in_table q es ps alike t.processor t.thread
  kid_so (kid ∷ kids) (suc k) = kid_so kids k

  looks_so : looks known i f ≡ looks told i f
  looks_so = λ j. record (looks known i f) {
    ended = λ k. kid_so f.kids k j;
    threads = made_so i j;
    threads_at = λ p. made_so (home_in p) j;
  }

  pub verdict_so : (ask : Ask Address) → verdict known i f ask ≡ verdict told i f ask
  verdict_so ask = ap (λ w. verdict_on_all code.shapes w (needs code.shapes ask)) looks_so

module _ (m : Processors) (q : ℕ) (p0 : Processor) (there : slice_get m.all q ≡ Some p0) (p : Processor) (output : List ℕ) (n : Mesh)
    (base : Base m q p.shelf p.table output n) where
  pub shelf_there : slice_get n.shelves q ≡ Some p.shelf
  shelf_there =
      ap (λ ss. slice_get ss q) (sym base.shelves)
      ∙ get_changed _ q (λ o. p.shelf) p0.shelf (map_at (λ (r : Processor). r.shelf) m.all q p0 there)

  pub row_there : (ps : List Spot) × (slice_get n.spots q ≡ Some ps) × Pairwise IsEntry p.table ps
  row_there = pairwise_right (Pairwise IsEntry) (tables_with m q p.table) n.spots base.entries q p.table (row_at m q p0 there p.table)

  -- of a thread of any processor
  pub seen_so : (i : ℕ) (f : Fiber) (ask : Ask Address) → AnsweredOn q i f ask → verdict n i f ask ≡ verdict (seen m.code q p) i f ask
  seen_so i f ask on =
      let r = row_there in
      answered_alike q i n (alone_at q no_shelf p.shelf) (alone_at q [] r.0)
      (shelf_there ∙ sym (alone_there q no_shelf p.shelf)) (r.1 ∙ sym (alone_there q [] r.0)) f ask on
      ∙ (verdict_so n.code (alone_at q no_shelf p.shelf) q p.table r.0 r.2 n.holder (λ b. None) n.output [] i f ask
      ∙ ap (λ (c : Code). verdict (seen c q p) i f ask) (sym base.code))

-- what a request finds it finds without the thread that asks
pub asked_by_nobody : (m : Mesh) (i q : ℕ) (f : Fiber) (post : Post) → verdict m i f (ask_of post) ≡ verdict m q nobody (ask_of post)
asked_by_nobody m i q f (Get a) = refl
asked_by_nobody m i q f (Put a v) = refl
asked_by_nobody m i q f (Call g o vs) = refl
asked_by_nobody m i q f (Cast g o vs) = refl
asked_by_nobody m i q f (Make c vs) = refl
