-- The tables and the objects of the machine, and those of the mesh that it shows.
use Rattle.law_mesh.specs.Moves.{Step}
use Rattle.std.proofs.Common.{◌≡◌, ℕ, zero, suc, List, [], ◌∷◌, ◌++◌, length, map, Bool, true, false, Option, Some, None, refl, sym, ap, ◌∙◌, subst}
use Rattle.std.proofs.lemmas.Option.{none-some, same_Some}
use Rattle.std.proofs.lemmas.Bool.{false≢true}
use Rattle.std.specs.Option.{option_and_then}
use Rattle.std.specs.Prelude.{slice_get}
use Rattle.cc_ops.specs.declared.number.ThreadNo.{ThreadNo}
use Rattle.cc_ops.specs.Shelves.{Shelf, changed}
use Rattle.code_names.specs.Same.{Pairwise}
use Rattle.numbered_runs.proofs.Lists.{then_found, get_changed, pairwise_push, pairwise_changed, pairwise_length, pairwise_right}
use Rattle.law_mesh.specs.Spots.{Fiber, Spot, Active, Posted, Calling, Mesh, item_in, put_item}
use Rattle.law_mesh.specs.Moves.{Moves, with_spot, push_item}
use Rattle.law_mesh.specs.Queues.{same_thread, Hold}
use Rattle.law_processors.specs.Processors.{Goes, Joins, Asking, Has, Entry, Lives, Ended, Processor, Processors, IsEntry, caller_of, shelves_of, tables_of, lists, Runs, with_processor, printing}
use Rattle.law_processors.specs.Follow.{MeshRun, Then}
use Rattle.law_mesh.proofs.Lists.{both_put, item_right, item_left, put_found, put_elsewhere, push_found, push_elsewhere}
use Rattle.law_mesh.proofs.Local.{changed_twice, changed_alike, changed_same}
use Rattle.law_mesh.proofs.Queues.{thread_itself, one_thread}
use Rattle.law_processors.proofs.Edits.{map_changed, map_at}

pub append_none : {X : Type 0} (xs : List X) → xs ++ [] ≡ xs
append_none [] = refl
append_none (x ∷ xs) = ap (λ ys. x ∷ ys) (append_none xs)

pub apart_if : (u t : ThreadNo) → same_thread u t ≡ false → u ≡ t → ⊥
apart_if u t e d = absurd (false≢true (sym e ∙ subst (λ v. same_thread v t ≡ true) (sym d) (thread_itself t)))

module _ {A : Type 0} where
  -- what is put where it stands
  pub put_same : (table : List (List A)) (t : ThreadNo) (x : A) → item_in table t ≡ Some x → put_item table t x ≡ table
  put_same table t x e =
      changed_alike table t.processor _ (λ xs. xs) (λ xs at. by xs at) ∙ changed_same table t.processor
    where
      by : (xs : List A) → slice_get table t.processor ≡ Some xs → changed xs t.thread (λ y. x) ≡ xs
      by xs at =
          changed_alike xs t.thread (λ y. x) (λ y. y) (λ y there. same_Some x y (sym e ∙ then_found (λ (zs : List A). slice_get zs t.thread) (slice_get table t.processor) xs y at there))
          ∙ changed_same xs t.thread

module _ {A B : Type 0} (S : A → B → Type 0) where
  -- on the right alone
  pub right_put : (us : List (List A)) (vs : List (List B)) (t : ThreadNo) (y : B) → ((x : A) → item_in us t ≡ Some x → S x y)
      → Pairwise (Pairwise S) us vs → Pairwise (Pairwise S) us (put_item vs t y)
  right_put us vs t y s h =
      pairwise_changed (Pairwise S) (Pairwise S) us vs t.processor _
      (λ xs ys at _ g. pairwise_changed S S xs ys t.thread _ (λ x z at' _ _. s x (then_found (λ (zs : List A). slice_get zs t.thread) (slice_get us t.processor) xs x at at'))
      (λ i x z _ _ _ r. r) g)
      (λ i xs ys _ _ _ g. g) h

  pub both_push : (us : List (List A)) (vs : List (List B)) (q : ℕ) (x : A) (y : B) → S x y → Pairwise (Pairwise S) us vs
      → Pairwise (Pairwise S) (push_item us q x) (push_item vs q y)
  both_push [] [] q x y s h = tt
  both_push [] (v ∷ vs) q x y s h = absurd h
  both_push (u ∷ us) [] q x y s h = absurd h
  both_push (u ∷ us) (v ∷ vs) zero x y s h = (pairwise_push S u v x y h.0 s, h.1)
  both_push (u ∷ us) (v ∷ vs) (suc q) x y s h = (h.0, both_push us vs q x y s h.1)

-- a thread that does not wait for the end of another
abbrev pub NotCalling : Spot → Type 0
NotCalling (Calling kid f) = ⊥
NotCalling p = Unit {0}

not_calling : (p : Spot) → NotCalling p → (kid : ThreadNo) (f : Fiber) → p ≡ Calling kid f → ⊥
not_calling p free kid f e = subst NotCalling e free

-- The tables and objects, where processor q has these, and the output.
module _ (m : Processors) (q : ℕ) where
  abbrev pub own_no : ℕ → ThreadNo
  own_no i = record { processor = q; thread = i }

  abbrev pub tables_with : List Entry → List (List Entry)
  tables_with table = changed (tables_of m.all) q (λ o. table)

  abbrev pub shelves_with : Shelf → List Shelf
  shelves_with s = changed (shelves_of m.all) q (λ o. s)

  abbrev pub CallsFrom : List (List Entry) → List (List Spot) → Type 0
  CallsFrom tables spots = (t kid : ThreadNo) → caller_of (item_in tables kid) ≡ Some t → (f : Fiber) × (item_in spots t ≡ Some (Calling kid f))

  abbrev pub AsksFrom : List (List Entry) → List (List Spot) → Type 0
  AsksFrom tables spots = (t kid : ThreadNo) (f : Fiber) → item_in spots t ≡ Some (Calling kid f) → caller_of (item_in tables kid) ≡ Some t

  pub record Base (s : Shelf) (table : List Entry) (output : List ℕ) (n : Mesh) : Type 0 where
    pub code : m.code ≡ n.code
    pub shelves : shelves_with s ≡ n.shelves
    pub printed : output ≡ n.output
    pub entries : Pairwise (Pairwise IsEntry) (tables_with table) n.spots
    pub callers : CallsFrom (tables_with table) n.spots
    pub askers : AsksFrom (tables_with table) n.spots

  module _ (p0 : Processor) (there : slice_get m.all q ≡ Some p0) where
    pub row_at : (table : List Entry) → slice_get (tables_with table) q ≡ Some table
    row_at table = get_changed (tables_of m.all) q (λ o. table) p0.table (map_at (λ (r : Processor). r.table) m.all q p0 there)

    pub entry_at : (table : List Entry) (i : ℕ) (e : Entry) → slice_get table i ≡ Some e
        → item_in (tables_with table) (record { processor = q; thread = i }) ≡ Some e
    entry_at table i e at = then_found (λ (es : List Entry). slice_get es i) (slice_get (tables_with table) q) table e (row_at table) at

    -- ---- the machine and the mesh

    pub base_of : (n : Mesh) → Runs m n → Base p0.shelf p0.table m.output n
    base_of n r = record {
      code = r.code;
      shelves = shelves_now ∙ r.shelves;
      printed = r.output;
      entries = subst (λ ts. Pairwise (Pairwise IsEntry) ts n.spots) (sym tables_now) r.entries;
      callers = subst (λ ts. CallsFrom ts n.spots) (sym tables_now) r.callers;
      askers = subst (λ ts. AsksFrom ts n.spots) (sym tables_now) r.askers;
    }
      where
        same : {X : Type 0} (f : Processor → X) → changed (map f m.all) q (λ o. f p0) ≡ map f m.all
        same f =
            changed_alike (map f m.all) q (λ o. f p0) (λ z. z) (λ z at. same_Some (f p0) z (sym (map_at f m.all q p0 there) ∙ at))
            ∙ changed_same (map f m.all) q

        shelves_now : shelves_with p0.shelf ≡ shelves_of m.all
        shelves_now = same (λ (r : Processor). r.shelf)

        tables_now : tables_with p0.table ≡ tables_of m.all
        tables_now = same (λ (r : Processor). r.table)

    pub to_runs : (p : Processor) (prints : List ℕ) (n : Mesh) → Base p.shelf p.table (m.output ++ prints) n
        → Hold m.code (lists (with_processor m q p)) n.spots → Runs (printing prints (with_processor m q p)) n
    to_runs p prints n b h = record {
      code = b.code;
      shelves = map_changed (λ (r : Processor). r.shelf) m.all q p ∙ b.shelves;
      output = b.printed;
      entries = subst (λ ts. Pairwise (Pairwise IsEntry) ts n.spots) (sym (map_changed (λ (r : Processor). r.table) m.all q p)) b.entries;
      lists = h;
      callers = subst (λ ts. CallsFrom ts n.spots) (sym (map_changed (λ (r : Processor). r.table) m.all q p)) b.callers;
      askers = subst (λ ts. AsksFrom ts n.spots) (sym (map_changed (λ (r : Processor). r.table) m.all q p)) b.askers;
    }

    -- ---- changes

    module _ (s : Shelf) (table : List Entry) (output : List ℕ) (n : Mesh) (b : Base s table output n) where
      pub base_silent : Base s table (output ++ []) n
      base_silent = record { code = b.code; shelves = b.shelves; printed = append_none output ∙ b.printed; entries = b.entries; callers = b.callers; askers = b.askers }

      -- what stands in the mesh
      pub spot_of_entry : (t : ThreadNo) (e : Entry) → item_in (tables_with table) t ≡ Some e → (p : Spot) × (item_in n.spots t ≡ Some p) × IsEntry e p
      spot_of_entry t e at = item_right IsEntry (tables_with table) n.spots b.entries t e at

      pub entry_of_spot : (t : ThreadNo) (p : Spot) → item_in n.spots t ≡ Some p → (e : Entry) × (item_in (tables_with table) t ≡ Some e) × IsEntry e p
      entry_of_spot t p at = item_left IsEntry (tables_with table) n.spots b.entries t p at

      -- who calls goes on calling
      calls_on : (t : ThreadNo) (p p' : Spot) → item_in n.spots t ≡ Some p → NotCalling p → (u kid : ThreadNo) (f : Fiber)
          → item_in n.spots u ≡ Some (Calling kid f) → item_in (put_item n.spots t p') u ≡ Some (Calling kid f)
      calls_on t p p' at free u kid f e = by (same_thread u t) refl
        where
          by : (c : Bool) → same_thread u t ≡ c → item_in (put_item n.spots t p') u ≡ Some (Calling kid f)
          by true d = absurd (not_calling p free kid f (same_Some p (Calling kid f) (sym at ∙ (ap (item_in n.spots) (sym (one_thread u t d)) ∙ e))))
          by false d = put_elsewhere n.spots t u p' (apart_if u t d) ∙ e

      -- and nobody else calls
      calls_before : (t : ThreadNo) (p p' : Spot) → item_in n.spots t ≡ Some p → NotCalling p' → (u kid : ThreadNo) (f : Fiber)
          → item_in (put_item n.spots t p') u ≡ Some (Calling kid f) → item_in n.spots u ≡ Some (Calling kid f)
      calls_before t p p' at free u kid f e = by (same_thread u t) refl
        where
          by : (c : Bool) → same_thread u t ≡ c → item_in n.spots u ≡ Some (Calling kid f)
          by true d = absurd (not_calling p' free kid f (same_Some p' (Calling kid f)
              (sym (put_found n.spots t p p' at) ∙ (ap (item_in (put_item n.spots t p')) (sym (one_thread u t d)) ∙ e))))
          by false d = sym (put_elsewhere n.spots t u p' (apart_if u t d)) ∙ e

      pub right_put_here : (t : ThreadNo) (p p' : Spot) → item_in n.spots t ≡ Some p → ((e : Entry) → IsEntry e p → IsEntry e p')
          → Pairwise (Pairwise IsEntry) (tables_with table) (put_item n.spots t p')
      right_put_here t p p' at same = right_put IsEntry (tables_with table) n.spots t p' (λ e there'. by e there') b.entries
        where
          by : (e : Entry) → item_in (tables_with table) t ≡ Some e → IsEntry e p'
          by e there' =
              let r = spot_of_entry t e there' in
              same e (subst (IsEntry e) (same_Some r.0 p (sym r.1 ∙ at)) r.2)

      -- a thread stands elsewhere
      pub base_spot : (t : ThreadNo) (p p' : Spot) → item_in n.spots t ≡ Some p → NotCalling p → NotCalling p' → ((e : Entry) → IsEntry e p → IsEntry e p')
          → Base s table output (with_spot n t p')
      base_spot t p p' at free free' same = record {
        code = b.code;
        shelves = b.shelves;
        printed = b.printed;
        entries = right_put_here t p p' at same;
        callers = λ u kid e. let r = b.callers u kid e in (r.0, calls_on t p p' at free u kid r.0 r.1);
        askers = λ u kid f e. b.askers u kid f (calls_before t p p' at free' u kid f e);
      }

      put_table : (i : ℕ) (e : Entry) → tables_with (changed table i (λ o. e)) ≡ put_item (tables_with table) (record { processor = q; thread = i }) e
      put_table i e = sym (changed_twice (tables_of m.all) q (λ o. table) (λ es. changed es i (λ o. e)))

      -- a thread of this processor is changed
      pub base_put : (i : ℕ) (e e' : Entry) (p p' : Spot) → slice_get table i ≡ Some e → item_in n.spots (record { processor = q; thread = i }) ≡ Some p
          → NotCalling p → NotCalling p' → IsEntry e' p' → caller_of (Some e') ≡ caller_of (Some e)
          → Base s (changed table i (λ o. e')) output (with_spot n (record { processor = q; thread = i }) p')
      base_put i e e' p p' at stands free free' is same = record {
        code = b.code;
        shelves = b.shelves;
        printed = b.printed;
        entries = subst (λ ts. Pairwise (Pairwise IsEntry) ts (put_item n.spots (record { processor = q; thread = i }) p')) (sym (put_table i e'))
            (both_put IsEntry (tables_with table) n.spots (record { processor = q; thread = i }) e' p' is b.entries);
        callers = λ u kid c.
            let r = b.callers u kid (before u kid (ap (λ ts. caller_of (item_in ts kid)) (sym (put_table i e')) ∙ c)) in
            (r.0, calls_on (record { processor = q; thread = i }) p p' stands free u kid r.0 r.1);
        askers = λ u kid f c. ap (λ ts. caller_of (item_in ts kid)) (put_table i e')
            ∙ (same_caller kid ∙ b.askers u kid f (calls_before (record { processor = q; thread = i }) p p' stands free' u kid f c));
      }
        where
          entry : item_in (tables_with table) (own_no i) ≡ Some e
          entry = entry_at table i e at

          same_caller : (kid : ThreadNo) → caller_of (item_in (put_item (tables_with table) (own_no i) e') kid) ≡ caller_of (item_in (tables_with table) kid)
          same_caller kid = by (same_thread kid (own_no i)) refl
            where
              by : (z : Bool) → same_thread kid (own_no i) ≡ z → caller_of (item_in (put_item (tables_with table) (own_no i) e') kid) ≡ caller_of (item_in (tables_with table) kid)
              by true d =
                  ap (λ v. caller_of (item_in (put_item (tables_with table) (own_no i) e') v)) (one_thread kid (own_no i) d)
                  ∙ (ap caller_of (put_found (tables_with table) (own_no i) e e' entry) ∙ (same ∙ (sym (ap caller_of entry)
                  ∙ ap (λ v. caller_of (item_in (tables_with table) v)) (sym (one_thread kid (own_no i) d)))))
              by false d = ap caller_of (put_elsewhere (tables_with table) (own_no i) kid e' (apart_if kid (own_no i) d))

          before : (u kid : ThreadNo) → caller_of (item_in (put_item (tables_with table) (own_no i) e') kid) ≡ Some u → caller_of (item_in (tables_with table) kid) ≡ Some u
          before u kid c = sym (same_caller kid) ∙ c

      push_table : (e : Entry) → tables_with (table ++ e ∷ []) ≡ push_item (tables_with table) q e
      push_table e = sym (changed_twice (tables_of m.all) q (λ o. table) (λ es. es ++ e ∷ []))

      abbrev pub with_new_spot : Spot → Mesh
      with_new_spot p = record { code = n.code; shelves = n.shelves; spots = push_item n.spots q p; holder = n.holder; output = n.output }

      row_of_spots : (row : List Spot) × (slice_get n.spots q ≡ Some row) × (length table ≡ length row)
      row_of_spots =
          let r = pairwise_right (Pairwise IsEntry) (tables_with table) n.spots b.entries q table (row_at table) in
          (r.0, r.1, pairwise_length IsEntry table r.0 r.2)

      pub spots_row : (row : List Spot) × (slice_get n.spots q ≡ Some row) × (length table ≡ length row)
      spots_row = row_of_spots

      stays_on : (p : Spot) (u : ThreadNo) (x : Spot) → item_in n.spots u ≡ Some x → item_in (push_item n.spots q p) u ≡ Some x
      stays_on p u x e =
          let row = row_of_spots in
          push_elsewhere n.spots q row.0 row.1 p u (λ d. none-some x (sym (none_there d) ∙ e)) ∙ e
        where
          none_there : u ≡ record { processor = q; thread = length row_of_spots.0 } → item_in n.spots u ≡ None
          none_there d = ap (item_in n.spots) d ∙ (ap (λ o. option_and_then (λ (ps : List Spot). slice_get ps (length row_of_spots.0)) o) row_of_spots.1 ∙ past row_of_spots.0)
            where
              past : (ps : List Spot) → slice_get ps (length ps) ≡ None
              past [] = refl
              past (z ∷ ps) = past ps

      -- a thread is made, whose caller waits for it
      pub base_make : (f : Fiber) (caller : Option ThreadNo)
          → ((u : ThreadNo) → caller ≡ Some u → (g : Fiber) × (item_in n.spots u ≡ Some (Calling (record { processor = q; thread = length table }) g)))
          → Base s (table ++ Lives f Goes caller ∷ []) output (with_new_spot (Active f))
      base_make f caller waits = record {
        code = b.code;
        shelves = b.shelves;
        printed = b.printed;
        entries = subst (λ ts. Pairwise (Pairwise IsEntry) ts (push_item n.spots q (Active f))) (sym (push_table (Lives f Goes caller)))
            (both_push IsEntry (tables_with table) n.spots q (Lives f Goes caller) (Active f) refl b.entries);
        callers = λ u kid c. by u kid (ap (λ ts. caller_of (item_in ts kid)) (sym (push_table (Lives f Goes caller))) ∙ c);
        askers = λ u kid g c. asks u kid g c;
      }
        where
          by : (u kid : ThreadNo) → caller_of (item_in (push_item (tables_with table) q (Lives f Goes caller)) kid) ≡ Some u
              → (g : Fiber) × (item_in (push_item n.spots q (Active f)) u ≡ Some (Calling kid g))
          by u kid c = at (same_thread kid (own_no (length table))) refl
            where
              at : (z : Bool) → same_thread kid (own_no (length table)) ≡ z → (g : Fiber) × (item_in (push_item n.spots q (Active f)) u ≡ Some (Calling kid g))
              at true d =
                  let now : caller ≡ Some u =
                  sym (ap caller_of (push_found (tables_with table) q table (row_at table) (Lives f Goes caller)))
                  ∙ (ap (λ v. caller_of (item_in (push_item (tables_with table) q (Lives f Goes caller)) v)) (sym (one_thread kid (own_no (length table)) d)) ∙ c) in
                  let r = waits u now in
                  (r.0, stays_on (Active f) u (Calling kid r.0) (r.1 ∙ ap (λ v. Some (Calling v r.0)) (sym (one_thread kid (own_no (length table)) d))))
              at false d =
                  let r = b.callers u kid
                  (sym (ap caller_of (push_elsewhere (tables_with table) q table (row_at table) (Lives f Goes caller) kid (apart_if kid (own_no (length table)) d))) ∙ c) in
                  (r.0, stays_on (Active f) u (Calling kid r.0) r.1)

          asks : (u kid : ThreadNo) (g : Fiber) → item_in (push_item n.spots q (Active f)) u ≡ Some (Calling kid g) → caller_of (item_in (tables_with (table ++ Lives f Goes caller ∷ [])) kid) ≡ Some u
          asks u kid g c = at (same_thread u spot_no) refl
            where
              row : (row : List Spot) × (slice_get n.spots q ≡ Some row) × (length table ≡ length row)
              row = spots_row

              spot_no : ThreadNo
              spot_no = record { processor = q; thread = length spots_row.0 }

              old : caller_of (item_in (tables_with table) kid) ≡ Some u → caller_of (item_in (tables_with (table ++ Lives f Goes caller ∷ [])) kid) ≡ Some u
              old d = ap (λ ts. caller_of (item_in ts kid)) (push_table (Lives f Goes caller)) ∙ is_old (same_thread kid (own_no (length table))) refl
                where
                  is_old : (z : Bool) → same_thread kid (own_no (length table)) ≡ z → caller_of (item_in (push_item (tables_with table) q (Lives f Goes caller)) kid) ≡ Some u
                  is_old true s =
                      let none : item_in (tables_with table) (own_no (length table)) ≡ None =
                      ap (λ o. option_and_then (λ (es : List Entry). slice_get es (length table)) o) (row_at table) ∙ past table in
                      absurd (none-some u (sym (ap caller_of (ap (item_in (tables_with table)) (one_thread kid (own_no (length table)) s) ∙ none)) ∙ d))
                    where
                      past : (es : List Entry) → slice_get es (length es) ≡ None
                      past [] = refl
                      past (z ∷ es) = past es
                  is_old false s = ap caller_of (push_elsewhere (tables_with table) q table (row_at table) (Lives f Goes caller) kid (apart_if kid (own_no (length table)) s)) ∙ d

              at : (z : Bool) → same_thread u spot_no ≡ z → caller_of (item_in (tables_with (table ++ Lives f Goes caller ∷ [])) kid) ≡ Some u
              at true d =
                  absurd (not_calling (Active f) tt kid g (same_Some (Active f) (Calling kid g)
                  (sym (push_found n.spots q spots_row.0 spots_row.1 (Active f)) ∙ (ap (item_in (push_item n.spots q (Active f))) (sym (one_thread u spot_no d)) ∙ c))))
              at false d = old (b.askers u kid g (sym (push_elsewhere n.spots q spots_row.0 spots_row.1 (Active f) u (apart_if u spot_no d)) ∙ c))

      -- a thread is made for a call, and its caller waits for it
      pub base_call : (t : ThreadNo) (f : Fiber) (g : Fiber) → item_in n.spots t ≡ Some (Posted f)
          → Base s (table ++ Lives g Goes (Some t) ∷ []) output
          (record { code = n.code; shelves = n.shelves; spots = put_item (push_item n.spots q (Active g)) t (Calling (own_no (length table)) f); holder = n.holder; output = n.output })
      base_call t f g stands = record {
        code = b.code;
        shelves = b.shelves;
        printed = b.printed;
        entries = right_put IsEntry (tables_with (table ++ Lives g Goes (Some t) ∷ [])) (push_item n.spots q (Active g)) t (Calling (own_no (length table)) f)
            (λ e e_at. let r = item_right IsEntry (tables_with (table ++ Lives g Goes (Some t) ∷ [])) (push_item n.spots q (Active g)) pushed_both t e e_at in
            calling e (subst (IsEntry e) (same_Some r.0 (Posted f) (sym r.1 ∙ stays_on (Active g) t (Posted f) stands)) r.2)) pushed_both;
        callers = λ u kid c. calls_from u kid (same_thread kid (own_no (length table))) refl (ap (λ ts. caller_of (item_in ts kid)) (sym (push_table (Lives g Goes (Some t)))) ∙ c);
        askers = λ u kid h c. ap (λ ts. caller_of (item_in ts kid)) (push_table (Lives g Goes (Some t))) ∙ asks_from u kid h (same_thread u t) refl c;
      }
        where
          pushed_both : Pairwise (Pairwise IsEntry) (tables_with (table ++ Lives g Goes (Some t) ∷ [])) (push_item n.spots q (Active g))
          pushed_both = subst (λ ts. Pairwise (Pairwise IsEntry) ts (push_item n.spots q (Active g))) (sym (push_table (Lives g Goes (Some t))))
              (both_push IsEntry (tables_with table) n.spots q (Lives g Goes (Some t)) (Active g) refl b.entries)

          calling : (e : Entry) → IsEntry e (Posted f) → IsEntry e (Calling (own_no (length table)) f)
          calling (Lives h Goes c) d = absurd d
          calling (Lives h Joins c) d = absurd d
          calling (Lives h Asking c) d = d
          calling (Lives h (Has w) c) d = absurd d
          calling (Ended w) d = absurd d

          there' : item_in (push_item n.spots q (Active g)) t ≡ Some (Posted f)
          there' = stays_on (Active g) t (Posted f) stands

          no_old : item_in (tables_with table) (own_no (length table)) ≡ None
          no_old = ap (λ o. option_and_then (λ (es : List Entry). slice_get es (length table)) o) (row_at table) ∙ past table
            where
              past : (es : List Entry) → slice_get es (length es) ≡ None
              past [] = refl
              past (z ∷ es) = past es

          calls_from : (u kid : ThreadNo) (z : Bool) → same_thread kid (own_no (length table)) ≡ z
              → caller_of (item_in (push_item (tables_with table) q (Lives g Goes (Some t))) kid) ≡ Some u
              → (h : Fiber) × (item_in (put_item (push_item n.spots q (Active g)) t (Calling (own_no (length table)) f)) u ≡ Some (Calling kid h))
          calls_from u kid true d c =
              let same : t ≡ u = same_Some t u
              (sym (ap caller_of (push_found (tables_with table) q table (row_at table) (Lives g Goes (Some t))))
              ∙ (ap (λ v. caller_of (item_in (push_item (tables_with table) q (Lives g Goes (Some t))) v)) (sym (one_thread kid (own_no (length table)) d)) ∙ c)) in (
                f,
                ap (item_in (put_item (push_item n.spots q (Active g)) t (Calling (own_no (length table)) f))) (sym same)
                    ∙ (put_found (push_item n.spots q (Active g)) t (Posted f) (Calling (own_no (length table)) f) there'
                    ∙ ap (λ v. Some (Calling v f)) (sym (one_thread kid (own_no (length table)) d))),
              )
          calls_from u kid false d c =
              let r = b.callers u kid (sym (ap caller_of (push_elsewhere (tables_with table) q table (row_at table) (Lives g Goes (Some t)) kid (apart_if kid (own_no (length table)) d))) ∙ c) in
              let not_t : u ≡ t → ⊥ = λ x. (let y : Posted f ≡ Calling kid r.0 = same_Some (Posted f) (Calling kid r.0) (sym stands ∙ (ap (item_in n.spots) (sym x) ∙ r.1)) in cc) in
              (r.0, put_elsewhere (push_item n.spots q (Active g)) t u (Calling (own_no (length table)) f) not_t ∙ stays_on (Active g) u (Calling kid r.0) r.1)

          asks_from : (u kid : ThreadNo) (h : Fiber) (z : Bool) → same_thread u t ≡ z
              → item_in (put_item (push_item n.spots q (Active g)) t (Calling (own_no (length table)) f)) u ≡ Some (Calling kid h)
              → caller_of (item_in (push_item (tables_with table) q (Lives g Goes (Some t))) kid) ≡ Some u
          asks_from u kid h true d c =
              let x : Calling (own_no (length table)) f ≡ Calling kid h = same_Some (Calling (own_no (length table)) f) (Calling kid h)
              (sym (put_found (push_item n.spots q (Active g)) t (Posted f) (Calling (own_no (length table)) f) there')
              ∙ (ap (item_in (put_item (push_item n.spots q (Active g)) t (Calling (own_no (length table)) f))) (sym (one_thread u t d)) ∙ c)) in
              let y : own_no (length table) ≡ kid = cc in
              ap (λ v. caller_of (item_in (push_item (tables_with table) q (Lives g Goes (Some t))) v)) (sym y)
              ∙ (ap caller_of (push_found (tables_with table) q table (row_at table) (Lives g Goes (Some t))) ∙ ap (λ v. Some v) (sym (one_thread u t d)))
          asks_from u kid h false d c =
              older (same_thread u (own_no (length spots_row.0))) refl
            where
              in_pushed : item_in (push_item n.spots q (Active g)) u ≡ Some (Calling kid h)
              in_pushed = sym (put_elsewhere (push_item n.spots q (Active g)) t u (Calling (own_no (length table)) f) (apart_if u t d)) ∙ c

              kept_on : caller_of (item_in (tables_with table) kid) ≡ Some u → (w : Bool) → same_thread kid (own_no (length table)) ≡ w
                  → caller_of (item_in (push_item (tables_with table) q (Lives g Goes (Some t))) kid) ≡ Some u
              kept_on e true x = absurd (none-some u (sym (ap caller_of (ap (item_in (tables_with table)) (one_thread kid (own_no (length table)) x) ∙ no_old)) ∙ e))
              kept_on e false x = ap caller_of (push_elsewhere (tables_with table) q table (row_at table) (Lives g Goes (Some t)) kid (apart_if kid (own_no (length table)) x)) ∙ e

              older : (w : Bool) → same_thread u (own_no (length spots_row.0)) ≡ w → caller_of (item_in (push_item (tables_with table) q (Lives g Goes (Some t))) kid) ≡ Some u
              older true x =
                  absurd (not_calling (Active g) tt kid h (same_Some (Active g) (Calling kid h)
                  (sym (push_found n.spots q spots_row.0 spots_row.1 (Active g)) ∙ (ap (item_in (push_item n.spots q (Active g))) (sym (one_thread u (own_no (length spots_row.0)) x)) ∙ in_pushed))))
              older false x =
                  kept_on (b.askers u kid h (sym (push_elsewhere n.spots q spots_row.0 spots_row.1 (Active g) u (apart_if u (own_no (length spots_row.0)) x)) ∙ in_pushed))
                  (same_thread kid (own_no (length table))) refl

-- ---- runs of the mesh

pub then_silent : {n : Mesh} {a : List Step} {n1 n2 : Mesh} → MeshRun n a n1 → Moves n1 None n2 → MeshRun n a n2
then_silent {n = n} {a = a} {n1 = n1} {n2 = n2} r v = subst (λ k. MeshRun n k n2) (append_none a) (Then r v)
