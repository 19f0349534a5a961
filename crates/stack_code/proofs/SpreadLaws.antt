-- Depths are spread soundly, and once no place is pending each reached depth is known.
use Rattle.std.proofs.Common.{◌≡◌, ◌≢◌, ℕ, suc, zero, ◌+◌, ◌<◌, ◌≤◌, List, [], ◌∷◌, ◌++◌, length, get_or, set, cond, eqb, Bool, true, false, ◌&&◌, Option, Some, None, refl, sym, ap, ◌∙◌, subst, arith, inl, inr, ◌⊎◌, length-append, map}
use Rattle.std.specs.Prelude.{slice_get, Contains}
use Rattle.std.proofs.lemmas.List.{get_or-set_same, get_or-set_other, length-set}
use Rattle.std.proofs.lemmas.Bool.{eqb-true, eqb-false, cases_eq, cases_lt, ltb-true, false≢true}
use Rattle.std.proofs.lemmas.Option.{slice_get_within, slice_get_past}
use Rattle.cc_code.specs.Code.{Instr, AndI, OrI, ForkI, EachI, Placed, Code, entry}
use Rattle.cc_code.specs.Depth.{less, raised, deeper}
use Rattle.cc_code.specs.declared.depth.Depth.{Depth}
use Rattle.cc_code.specs.declared.depth.Depth.TheVariants.{Exactly, Several}
use Rattle.cc_code.specs.Valid.{Way, ways, taken, given, goes_on, targets_of, target_depth, same_function, Leads, Reached, begins, follows, meet, suits_at, IsBadDepth}
use Rattle.stack_code.specs.Spread.{Spread, known_at, raised_to, arrived, gone, gone_with, handed_on, handed, next_way, Covers, Waits, IsSpread, room, slack, work}

covers_itself : (d : Depth) → Covers (Some d) d
covers_itself (Exactly a) = refl
covers_itself Several = tt

raised_none_at : (a b : ℕ) (t : Bool) → eqb a b ≡ t → cond t None (Some Several) ≡ None → Exactly a ≡ Exactly b
raised_none_at a b true e h = ap Exactly (eqb-true a b e)
raised_none_at a b false e h = cc

raised_none : (k : Option Depth) (d : Depth) → raised k d ≡ None → Covers k d
raised_none None d h = cc
raised_none (Some Several) d h = tt
raised_none (Some (Exactly a)) Several h = cc
raised_none (Some (Exactly a)) (Exactly b) h = raised_none_at a b (eqb a b) refl h

raised_at : (a b : ℕ) (e : Depth) (t : Bool) → eqb a b ≡ t → cond t None (Some Several) ≡ Some e → (e ≡ Several) × (a ≢ b)
raised_at a b e true p h = cc
raised_at a b e false p h = (cc, eqb-false a b p)

abbrev exact : Depth → ℕ
exact (Exactly a) = a
exact Several = 0

-- what is known of a place only rises, to what covers the new depth
raised_new : (k : Option Depth) (d e : Depth) → raised k d ≡ Some e → Covers (Some e) d
raised_new None d e h = let same : d ≡ e = cc in subst (λ (x : Depth). Covers (Some x) d) same (covers_itself d)
raised_new (Some Several) d e h = cc
raised_new (Some (Exactly a)) Several e h = let same : Several ≡ e = cc in subst (λ (x : Depth). Covers (Some x) Several) same tt
raised_new (Some (Exactly a)) (Exactly b) e h =
    subst (λ (x : Depth). Covers (Some x) (Exactly b)) (sym (raised_at a b e (eqb a b) refl h).0) tt

raised_grows : (k : Option Depth) (d e : Depth) → raised k d ≡ Some e → (x : Depth) → Covers k x → Covers (Some e) x
raised_grows None d e h x c = absurd c
raised_grows (Some Several) d e h x c = cc
raised_grows (Some (Exactly a)) Several e h x c = let same : Several ≡ e = cc in subst (λ (y : Depth). Covers (Some y) x) same tt
raised_grows (Some (Exactly a)) (Exactly b) e h x c =
    subst (λ (y : Depth). Covers (Some y) x) (sym (raised_at a b e (eqb a b) refl h).0) tt

raised_reached : (code : Code) (at : ℕ) (k : Option Depth) (d e : Depth) → raised k d ≡ Some e → ((x : Depth) → k ≡ Some x → Reached code at x) → Reached code at d → Reached code at e
raised_reached code at None d e h old new = let same : d ≡ e = cc in subst (λ (x : Depth). Reached code at x) same new
raised_reached code at (Some Several) d e h old new = cc
raised_reached code at (Some (Exactly a)) Several e h old new =
    let same : Several ≡ e = cc in subst (λ (x : Depth). Reached code at x) same new
raised_reached code at (Some (Exactly a)) (Exactly b) e h old new =
    let facts = raised_at a b e (eqb a b) refl h in
    subst (λ (x : Depth). Reached code at x) (sym facts.0) (meet (old (Exactly a) refl) new (λ same. facts.1 (ap exact same)))

waits_more : (ps qs : List ℕ) (b : ℕ) → Waits ps b → Waits (ps ++ qs) b
waits_more [] qs b w = absurd w
waits_more (p ∷ ps) qs b (inl e) = inl e
waits_more (p ∷ ps) qs b (inr w) = inr (waits_more ps qs b w)

waits_last : (ps : List ℕ) (b : ℕ) → Waits (ps ++ b ∷ []) b
waits_last [] b = inl refl
waits_last (p ∷ ps) b = inr (waits_last ps b)

waits_split : (ps : List ℕ) (a b : ℕ) → Waits (ps ++ a ∷ []) b → Waits ps b ⊎ (a ≡ b)
waits_split [] a b (inl e) = inr e
waits_split [] a b (inr w) = absurd w
waits_split (p ∷ ps) a b (inl e) = inl (inl e)
waits_split (p ∷ ps) a b (inr w) = elim (waits_split ps a b w) [ inl v ↦ inl (inr v) | inr e ↦ inr e ]

-- what a step of spreading keeps
pub record Step (s s' : Spread) : Type 0 where
  pub size : length s'.known ≡ length s.known
  pub grows : (b : ℕ) (e : Depth) → Covers (known_at s b) e → Covers (known_at s' b) e
  pub waits : (b : ℕ) (d : Depth) → known_at s' b ≡ Some d → (known_at s b ≡ Some d) ⊎ Waits s'.pending b
  pub stay : (b : ℕ) → Waits s.pending b → Waits s'.pending b
  pub come : (b : ℕ) → Waits s'.pending b → Waits s.pending b ⊎ (b < length s.known)

same_step : (s : Spread) → Step s s
same_step s = record { size = refl; grows = λ b e c. c; waits = λ b d k. inl k; stay = λ b w. w; come = λ b w. inl w }

both_steps : (s s' s'' : Spread) → Step s s' → Step s' s'' → Step s s''
both_steps s s' s'' one two = record {
  size = two.size ∙ one.size;
  grows = λ b e c. two.grows b e (one.grows b e c);
  waits = λ b d k. elim (two.waits b d k) [ inl k' ↦ elim (one.waits b d k') [ inl k'' ↦ inl k'' | inr w ↦ inr (two.stay b w) ] | inr w ↦ inr w ];
  stay = λ b w. two.stay b (one.stay b w);
  come = λ b w. elim (two.come b w) [ inl w' ↦ one.come b w' | inr lt ↦ inr (subst (λ (n : ℕ). b < n) one.size lt) ];
}

abbrev pub Sound : Code → Spread → Type 0
Sound code s = (b : ℕ) (d : Depth) → known_at s b ≡ Some d → Reached code b d

arrived_step : (s : Spread) (to : ℕ) (d : Depth) (r : Option Depth) → to < length s.known → raised (known_at s to) d ≡ r → Step s (raised_to s to r)
arrived_step s to d None lt h = same_step s
arrived_step s to d (Some e) lt h =
    let s' = raised_to s to (Some e) in
    let here : known_at s' to ≡ Some e = get_or-set_same s.known to (Some e) None lt in
    record {
      size = length-set s.known to (Some e);
      grows = λ b x c. elim (cases_eq b to) [
        | inl same ↦ let at : known_at s to ≡ known_at s b = ap (known_at s) (sym same) in
            subst (λ (k : Option Depth). Covers k x) (sym here ∙ ap (known_at s') (sym same))
            (raised_grows (known_at s to) d e h x (subst (λ (k : Option Depth). Covers k x) (sym at) c))
        | inr other ↦ subst (λ (k : Option Depth). Covers k x) (sym (get_or-set_other s.known to b (Some e) None other)) c
      ];
      waits = λ b x k. elim (cases_eq b to) [
        | inl same ↦ inr (subst (Waits (s.pending ++ to ∷ [])) (sym same) (waits_last s.pending to))
        | inr other ↦ inl (sym (get_or-set_other s.known to b (Some e) None other) ∙ k)
      ];
      stay = λ b w. waits_more s.pending (to ∷ []) b w;
      come = λ b w. elim (waits_split s.pending to b w) [ inl w' ↦ inl w' | inr e ↦ inr (subst (λ (n : ℕ). n < length s.known) e lt) ];
    }

arrived_new : (s : Spread) (to : ℕ) (d : Depth) (r : Option Depth) → to < length s.known → raised (known_at s to) d ≡ r → Covers (known_at (raised_to s to r) to) d
arrived_new s to d None lt h = raised_none (known_at s to) d h
arrived_new s to d (Some e) lt h =
    subst (λ (k : Option Depth). Covers k d) (sym (get_or-set_same s.known to (Some e) None lt)) (raised_new (known_at s to) d e h)

arrived_sound : (code : Code) (s : Spread) (to : ℕ) (d : Depth) (r : Option Depth) → to < length s.known → raised (known_at s to) d ≡ r → Sound code s → Reached code to d → Sound code (raised_to s to r)
arrived_sound code s to d None lt h sound new b x k = sound b x k
arrived_sound code s to d (Some e) lt h sound new b x k =
    elim (cases_eq b to) [
      | inl same ↦
          let here : known_at (raised_to s to (Some e)) to ≡ Some e = get_or-set_same s.known to (Some e) None lt in
          let is : Some e ≡ Some x = sym here ∙ (ap (known_at (raised_to s to (Some e))) (sym same) ∙ k) in
          let e' : e ≡ x = cc in
          subst (λ (y : Depth). Reached code b y) e' (subst (λ (n : ℕ). Reached code n e) (sym same) (raised_reached code to (known_at s to) d e h (sound to) new))
      | inr other ↦ sound b x (sym (get_or-set_other s.known to b (Some e) None other) ∙ k)
    ]

-- ways that are gone

abbrev way_gone : Code → ℕ → Spread → Way → Bool → Spread
way_gone code b s way inside = cond inside (arrived s way.0 way.1) s

and_left : (a b : Bool) → (a && b) ≡ true → a ≡ true
and_left true b h = refl
and_left false b h = cc

inside_lt : (code : Code) (b c : ℕ) → same_function code b c ≡ true → c < length code.places
inside_lt code b c h = ltb-true c (length code.places) (and_left _ _ h)

way_step : (code : Code) (b : ℕ) (s : Spread) (way : Way) (t : Bool) → same_function code b way.0 ≡ t → length s.known ≡ length code.places → Step s (way_gone code b s way t)
way_step code b s way true h size =
    arrived_step s way.0 way.1 _ (omega (arith, inside_lt code b way.0 h, size)) refl
way_step code b s way false h size = same_step s

gone_step : (code : Code) (b : ℕ) (ws : List Way) (s : Spread) → length s.known ≡ length code.places → Step s (gone code b s ws)
gone_step code b [] s size = same_step s
gone_step code b (w ∷ ws) s size =
    let s' = way_gone code b s w (same_function code b w.0) in
    let one = way_step code b s w (same_function code b w.0) refl size in
    both_steps s s' (gone code b s' ws) one (gone_step code b ws s' (one.size ∙ size))

gone_covers : (code : Code) (b c : ℕ) (e : Depth) (ws : List Way) (s : Spread) → length s.known ≡ length code.places → same_function code b c ≡ true → Contains ws (c, e) → Covers (known_at (gone code b s ws) c) e
gone_covers code b c e [] s size inside (k, lt, is) = absurd (omega arith)
gone_covers code b c e (w ∷ ws) s size inside (zero, lt, is) =
    let s' = way_gone code b s w (same_function code b w.0) in
    let step = way_step code b s w (same_function code b w.0) refl size in
    let rest = gone_step code b ws s' (step.size ∙ size) in
    let here : Covers (known_at (arrived s c e) c) e = arrived_new s c e _ (omega (arith, inside_lt code b c inside, size)) refl in
    let going : arrived s c e ≡ s' = ap (λ (t : Bool). way_gone code b s (c, e) t) (sym inside) ∙ ap (λ (v : Way). way_gone code b s v (same_function code b v.0)) (sym is) in
    rest.grows c e (subst (λ (x : Spread). Covers (known_at x c) e) going here)
gone_covers code b c e (w ∷ ws) s size inside (suc k, lt, is) =
    let s' = way_gone code b s w (same_function code b w.0) in
    let step = way_step code b s w (same_function code b w.0) refl size in
    gone_covers code b c e ws s' (step.size ∙ size) inside (k, omega arith, is)

gone_sound : (code : Code) (b : ℕ) (ws : List Way) (s : Spread) → length s.known ≡ length code.places → Sound code s → ((c : ℕ) (e : Depth) → Contains ws (c, e) → same_function code b c ≡ true → Reached code c e) → Sound code (gone code b s ws)
gone_sound code b [] s size sound all = sound
gone_sound code b (w ∷ ws) s size sound all =
    let s' = way_gone code b s w (same_function code b w.0) in
    let step = way_step code b s w (same_function code b w.0) refl size in
    gone_sound code b ws s' (step.size ∙ size) (way_sound code b s w (same_function code b w.0) refl size sound (all w.0 w.1 (0, omega arith, refl)))
    (λ c e h. all c e (suc h.0, omega (arith, h.1), h.2))
  where
    way_sound : (code : Code) (b : ℕ) (s : Spread) (w : Way) (t : Bool) → same_function code b w.0 ≡ t → length s.known ≡ length code.places → Sound code s → (same_function code b w.0 ≡ true → Reached code w.0 w.1) → Sound code (way_gone code b s w t)
    way_sound code b s w true h size sound reached = arrived_sound code s w.0 w.1 _ (omega (arith, inside_lt code b w.0 h, size)) refl sound (reached h)
    way_sound code b s w false h size sound reached = sound

-- a place hands on its depth

gone_with_step : (code : Code) (b : ℕ) (s : Spread) (i : Instr) (r : Option Depth) → length s.known ≡ length code.places → Step s (gone_with code b s i r)
gone_with_step code b s i None size = same_step s
gone_with_step code b s i (Some rest) size = gone_step code b (ways b i rest) s size

handed_on_step : (code : Code) (b : ℕ) (s : Spread) (i : Option Placed) (d : Option Depth) → length s.known ≡ length code.places → Step s (handed_on code b s i d)
handed_on_step code b s None d size = same_step s
handed_on_step code b s (Some i) None size = same_step s
handed_on_step code b s (Some i) (Some d) size = gone_with_step code b s i.instr (less (taken code.shapes i.instr) d) size

pub handed_step : (code : Code) (b : ℕ) (s : Spread) → length s.known ≡ length code.places → Step s (handed code b s)
handed_step code b s size = handed_on_step code b s (slice_get code.places b) (known_at s b) size

gone_with_sound : (code : Code) (b : ℕ) (s : Spread) (i : Placed) (d : Depth) (r : Option Depth) → length s.known ≡ length code.places → Sound code s → slice_get code.places b ≡ Some i → Reached code b d → less (taken code.shapes i.instr) d ≡ r → Sound code (gone_with code b s i.instr r)
gone_with_sound code b s i d None size sound stands reached finds = sound
gone_with_sound code b s i d (Some rest) size sound stands reached finds =
    gone_sound code b (ways b i.instr rest) s size sound
    (λ c e h inside. follows reached (record { placed = i; stands = stands; rest = rest; finds = finds; way = h; inside = inside }))

handed_on_sound : (code : Code) (b : ℕ) (s : Spread) (i : Option Placed) (d : Option Depth) → length s.known ≡ length code.places → Sound code s → slice_get code.places b ≡ i → known_at s b ≡ d → Sound code (handed_on code b s i d)
handed_on_sound code b s None d size sound stands k = sound
handed_on_sound code b s (Some i) None size sound stands k = sound
handed_on_sound code b s (Some i) (Some d) size sound stands k =
    gone_with_sound code b s i d (less (taken code.shapes i.instr) d) size sound stands (sound b d k) refl

handed_covers : (code : Code) (b c : ℕ) (d e : Depth) (s : Spread) → length s.known ≡ length code.places → known_at s b ≡ Some d → Leads code b d c e → Covers (known_at (handed code b s) c) e
handed_covers code b c d e s size k l =
    let going : handed code b s ≡ gone code b s (ways b l.placed.instr l.rest) =
    ap (λ (i : Option Placed). handed_on code b s i (known_at s b)) l.stands
    ∙ (ap (λ (x : Option Depth). handed_on code b s (Some l.placed) x) k ∙ ap (gone_with code b s l.placed.instr) l.finds) in
    subst (λ (x : Spread). Covers (known_at x c) e) (sym going) (gone_covers code b c e (ways b l.placed.instr l.rest) s size l.inside l.way)

-- the last place that waits hands on its depth
pub handed_spread : (code : Code) (known : List (Option Depth)) (rest : List ℕ) (b n : ℕ) → IsSpread code (record { known = known; pending = rest ++ b ∷ [] }) n → IsSpread code (handed code b (record { known = known; pending = rest })) n
handed_spread code known rest b n old =
    let s : Spread = record { known = known; pending = rest } in
    let s' = handed code b s in
    let step = handed_step code b s old.size in
    record {
      size = step.size ∙ old.size;
      inside = λ c w. elim (step.come c w) [ inl w' ↦ old.inside c (waits_more rest (b ∷ []) c w') | inr lt ↦ subst (λ (n : ℕ). c < n) old.size lt ];
      sound = handed_on_sound code b s (slice_get code.places b) (known_at s b) old.size old.sound refl refl;
      handed = λ c d k. elim (step.waits c d k) [
        | inl k' ↦ elim (old.handed c d k') [
          | inl w ↦ elim (waits_split rest b c w) [
            | inl w' ↦ inl (step.stay c w')
            | inr same ↦ inr (λ c' e l. handed_covers code b c' d e s old.size (ap (known_at s) same ∙ k') (subst (λ (n : ℕ). Leads code n d c' e) (sym same) l))
          ]
          | inr all ↦ inr (λ c' e l. step.grows c' e (all c' e l))
        ]
        | inr w ↦ inl w
      ];
      begun = λ f lt stands. step.grows (entry code f) (Exactly 0) (old.begun f lt stands);
    }

-- what is known of places where nothing waits

-- ways with more than one depth go where ways with one go
abbrev Wider : List Way → List Way → Type 0
Wider [] [] = Unit {0}
Wider [] (y ∷ ys) = ⊥
Wider (x ∷ xs) [] = ⊥
Wider (x ∷ xs) (y ∷ ys) = (x.0 ≡ y.0) × Covers (Some y.1) x.1 × Wider xs ys

wider_target : (i : Instr) (rest : Depth) → Covers (Some (target_depth i Several)) (target_depth i rest)
wider_target (AndI to) rest = tt
wider_target (OrI to) rest = tt
wider_target (ForkI targets) rest = refl
wider_target (EachI to k) rest = refl
wider_target i rest = tt

wider_targets : (i : Instr) (rest : Depth) (ts : List ℕ) → Wider (map (λ to. (to, target_depth i rest)) ts) (map (λ to. (to, target_depth i Several)) ts)
wider_targets i rest [] = tt
wider_targets i rest (t ∷ ts) = (refl, wider_target i rest, wider_targets i rest ts)

wider_ways_at : (b : ℕ) (i : Instr) (rest : Depth) (on : Bool) (ts : List ℕ) → Wider (cond on ((suc b, deeper rest (given i)) ∷ []) [] ++ map (λ to. (to, target_depth i rest)) ts) (cond on ((suc b, deeper Several (given i)) ∷ []) [] ++ map (λ to. (to, target_depth i Several)) ts)
wider_ways_at b i rest true ts = (refl, tt, wider_targets i rest ts)
wider_ways_at b i rest false ts = wider_targets i rest ts

wider_contains : (xs ys : List Way) (c : ℕ) (e : Depth) → Wider xs ys → Contains xs (c, e) → (e' : Depth) × Contains ys (c, e') × Covers (Some e') e
wider_contains [] ys c e w (k, lt, is) = absurd (omega arith)
wider_contains (x ∷ xs) [] c e w h = absurd w
wider_contains (x ∷ xs) (y ∷ ys) c e w (zero, lt, is) =
    let to : y.0 ≡ c = sym w.0 ∙ ap (λ (v : Way). v.0) is in
    let at : x.1 ≡ e = ap (λ (v : Way). v.1) is in
    (y.1, (0, omega arith, ap (λ (n : ℕ). (n, y.1)) to), subst (Covers (Some y.1)) at w.1)
wider_contains (x ∷ xs) (y ∷ ys) c e w (suc k, lt, is) =
    let r = wider_contains xs ys c e w.2 (k, omega arith, is) in
    (r.0, (suc r.1.0, omega (arith, r.1.1), r.1.2), r.2)

several_leads : (code : Code) (b c : ℕ) (d e : Depth) → Leads code b d c e → (e' : Depth) × Leads code b Several c e' × Covers (Some e') e
several_leads code b c d e l =
    let i = l.placed.instr in
    let r = wider_contains (ways b i l.rest) (ways b i Several) c e (wider_ways_at b i l.rest (goes_on i) (targets_of i)) l.way in
    (r.0, record { placed = l.placed; stands = l.stands; rest = Several; finds = refl; way = r.1; inside = l.inside }, r.2)

covers_more : (k : Option Depth) (e e' : Depth) → Covers k e' → Covers (Some e') e → Covers k e
covers_more None e e' c w = absurd c
covers_more (Some Several) e e' c w = tt
covers_more (Some (Exactly a)) e e' c w = subst (λ (x : Depth). Covers (Some x) e) (sym c) w

lead_covers : (code : Code) (s : Spread) (b c : ℕ) (d e : Depth) (k : Option Depth) (n : ℕ) → IsSpread code s n → ((x : ℕ) → Waits s.pending x → ⊥) → known_at s b ≡ k → Covers k d → Leads code b d c e → Covers (known_at s c) e
lead_covers code s b c d e None n spread none is covers l = absurd covers
lead_covers code s b c d e (Some (Exactly a)) n spread none is covers l =
    elim (spread.handed b (Exactly a) is) [ inl w ↦ absurd (none b w) | inr all ↦ all c e (subst (λ (x : Depth). Leads code b x c e) (sym covers) l) ]
lead_covers code s b c d e (Some Several) n spread none is covers l =
    let r = several_leads code b c d e l in
    elim (spread.handed b Several is) [ inl w ↦ absurd (none b w) | inr all ↦ covers_more (known_at s c) e r.0 (all c r.0 r.1) r.2 ]

meet_covers : (k : Option Depth) (d e : Depth) → Covers k d → Covers k e → d ≢ e → Covers k Several
meet_covers None d e c c' ne = absurd c
meet_covers (Some Several) d e c c' ne = tt
meet_covers (Some (Exactly a)) d e c c' ne = absurd (ne (sym c ∙ c'))

-- each depth that a place is reached with is known
pub reached_known : (code : Code) (s : Spread) → IsSpread code s (length code.entries) → ((x : ℕ) → Waits s.pending x → ⊥) → (b : ℕ) (d : Depth) → Reached code b d → b < length code.places → Covers (known_at s b) d
reached_known code s spread none _ _ (begins f lt) stands = spread.begun f lt stands
reached_known code s spread none c e (follows {b = b} {d = d} r l) stands =
    lead_covers code s b c d e (known_at s b) (length code.entries) spread none refl (reached_known code s spread none b d r (slice_get_within code.places b l.placed l.stands)) l
reached_known code s spread none b _ (meet {d = d} {e = e} r r' ne) stands =
    meet_covers (known_at s b) d e (reached_known code s spread none b d r stands) (reached_known code s spread none b e r' stands) ne

-- behind all places only functions begin
pub reached_outside : (code : Code) (b : ℕ) (d : Depth) → Reached code b d → length code.places ≤ b → d ≡ Exactly 0
reached_outside code _ _ (begins f lt) out = refl
reached_outside code c e (follows r l) out = absurd (omega (arith, inside_lt code _ c l.inside))
reached_outside code b _ (meet r r' ne) out = absurd (ne (reached_outside code b _ r out ∙ sym (reached_outside code b _ r' out)))

-- functions begin

pub begun_spread : (code : Code) (s : Spread) (f : ℕ) → IsSpread code s f → f < length code.entries → entry code f < length code.places → IsSpread code (arrived s (entry code f) (Exactly 0)) (f + 1)
begun_spread code s f old lt stands =
    let to = entry code f in
    let inside : to < length s.known = omega (arith, old.size, stands) in
    let step = arrived_step s to (Exactly 0) (raised (known_at s to) (Exactly 0)) inside refl in
    record {
      size = step.size ∙ old.size;
      inside = λ c w. elim (step.come c w) [ inl w' ↦ old.inside c w' | inr more ↦ subst (λ (n : ℕ). c < n) old.size more ];
      sound = arrived_sound code s to (Exactly 0) (raised (known_at s to) (Exactly 0)) inside refl old.sound (begins f lt);
      handed = λ c d k. elim (step.waits c d k) [
        | inl k' ↦ elim (old.handed c d k') [ inl w ↦ inl (step.stay c w) | inr all ↦ inr (λ c' e l. step.grows c' e (all c' e l)) ]
        | inr w ↦ inl w
      ];
      begun = λ g more place. elim (cases_eq g f) [
        | inl same ↦ subst (λ (n : ℕ). Covers (known_at (arrived s to (Exactly 0)) (entry code n)) (Exactly 0)) (sym same)
            (arrived_new s to (Exactly 0) (raised (known_at s to) (Exactly 0)) inside refl)
        | inr other ↦ step.grows (entry code g) (Exactly 0) (old.begun g (omega arith) place)
      ];
    }

pub skipped_spread : (code : Code) (s : Spread) (f : ℕ) → IsSpread code s f → length code.places ≤ entry code f → IsSpread code s (f + 1)
skipped_spread code s f old out = record {
  size = old.size;
  inside = old.inside;
  sound = old.sound;
  handed = old.handed;
  begun = λ g more place. elim (cases_eq g f) [
    | inl same ↦ absurd (let here : entry code g < length code.places = place in omega (arith, here, out, ap (entry code) same))
    | inr other ↦ old.begun g (omega arith) place
  ];
}

raised_room : (k : Option Depth) (d e : Depth) → raised k d ≡ Some e → room (Some e) < room k
raised_room None d (Exactly a) h = omega arith
raised_room None d Several h = omega arith
raised_room (Some Several) d e h = cc
raised_room (Some (Exactly a)) Several e h = let same : Several ≡ e = cc in subst (λ (x : Depth). room (Some x) < 1) same (omega arith)
raised_room (Some (Exactly a)) (Exactly b) e h =
    subst (λ (x : Depth). room (Some x) < 1) (sym (raised_at a b e (eqb a b) refl h).0) (omega arith)

slack_set : (ks : List (Option Depth)) (i : ℕ) (e : Depth) → i < length ks → room (Some e) < room (get_or ks i None) → slack (set ks i (Some e)) < slack ks
slack_set [] i e lt less = absurd (omega arith)
slack_set (k ∷ ks) zero e lt less = omega arith
slack_set (k ∷ ks) (suc i) e lt less = let rest = slack_set ks i e (omega arith) less in omega arith

arrived_work : (s : Spread) (to : ℕ) (d : Depth) (r : Option Depth) → to < length s.known → raised (known_at s to) d ≡ r → work (raised_to s to r) ≤ work s
arrived_work s to d None lt h = omega arith
arrived_work s to d (Some e) lt h =
    omega (arith, slack_set s.known to e lt (raised_room (known_at s to) d e h), length-append s.pending (to ∷ []))

way_work : (code : Code) (b : ℕ) (s : Spread) (way : Way) (t : Bool) → same_function code b way.0 ≡ t → length s.known ≡ length code.places → work (way_gone code b s way t) ≤ work s
way_work code b s way true h size = arrived_work s way.0 way.1 (raised (known_at s way.0) way.1) (omega (arith, inside_lt code b way.0 h, size)) refl
way_work code b s way false h size = omega arith

gone_work : (code : Code) (b : ℕ) (ws : List Way) (s : Spread) → length s.known ≡ length code.places → work (gone code b s ws) ≤ work s
gone_work code b [] s size = omega arith
gone_work code b (w ∷ ws) s size =
    let s' = way_gone code b s w (same_function code b w.0) in
    let one = way_step code b s w (same_function code b w.0) refl size in
    let first = way_work code b s w (same_function code b w.0) refl size in
    let rest = gone_work code b ws s' (one.size ∙ size) in
    omega (arith, first, rest)

handed_on_work : (code : Code) (b : ℕ) (s : Spread) (i : Option Placed) (d : Option Depth) → length s.known ≡ length code.places → work (handed_on code b s i d) ≤ work s
handed_on_work code b s None d size = omega arith
handed_on_work code b s (Some i) None size = omega arith
handed_on_work code b s (Some i) (Some d) size = gone_with_work (less (taken code.shapes i.instr) d)
  where
    gone_with_work : (r : Option Depth) → work (gone_with code b s i.instr r) ≤ work s
    gone_with_work None = omega arith
    gone_with_work (Some rest) = gone_work code b (ways b i.instr rest) s size

-- a place that waits hands on its depth, and there is less to do
pub handed_work : (code : Code) (b : ℕ) (known : List (Option Depth)) (rest : List ℕ) → length known ≡ length code.places → work (handed code b (record { known = known; pending = rest })) < work (record { known = known; pending = rest ++ b ∷ [] })
handed_work code b known rest size =
    let s : Spread = record { known = known; pending = rest } in
    let less = handed_on_work code b s (slice_get code.places b) (known_at s b) size in
    omega (arith, less, length-append rest (b ∷ []))

-- a function begins within the code, and behind it
pub begun_to : (code : Code) (s s' : Spread) (f to : ℕ) → IsSpread code s f → s' ≡ arrived s to (Exactly 0) → to ≡ entry code f → f < length code.entries → to < length code.places → IsSpread code s' (f + 1)
begun_to code s s' f to old is at lt stands =
    subst (λ (x : Spread). IsSpread code x (f + 1)) (sym (is ∙ ap (λ (n : ℕ). arrived s n (Exactly 0)) at))
    (begun_spread code s f old lt (subst (λ (n : ℕ). n < length code.places) at stands))

pub begun_past : (code : Code) (s : Spread) (f to : ℕ) → IsSpread code s f → to ≡ entry code f → length code.places ≤ to → IsSpread code s (f + 1)
begun_past code s f to old at out = skipped_spread code s f old (subst (λ (n : ℕ). length code.places ≤ n) at out)

gone_both : (code : Code) (b : ℕ) (s : Spread) (xs ys : List Way) → gone code b s (xs ++ ys) ≡ gone code b (gone code b s xs) ys
gone_both code b s [] ys = refl
gone_both code b s (x ∷ xs) ys = gone_both code b (way_gone code b s x (same_function code b x.0)) xs ys

-- all ways of an instruction are the one to the next place and those to its targets
pub goes_all : (code : Code) (b : ℕ) (i : Instr) (rest d : Depth) (ts : List ℕ) (s s1 s2 : Spread) → s1 ≡ gone code b s (next_way b i rest) → ts ≡ targets_of i → d ≡ target_depth i rest → s2 ≡ gone code b s1 (map (λ to. (to, d)) ts) → s2 ≡ gone code b s (ways b i rest)
goes_all code b i rest d ts s s1 s2 first targets depth all =
    all
    ∙ (ap (λ (x : List ℕ). gone code b s1 (map (λ to. (to, d)) x)) targets
    ∙ (ap (λ (x : Depth). gone code b s1 (map (λ to. (to, x)) (targets_of i))) depth
    ∙ (ap (λ (x : Spread). gone code b x (map (λ to. (to, target_depth i rest)) (targets_of i))) first
    ∙ sym (gone_both code b s (next_way b i rest) (map (λ to. (to, target_depth i rest)) (targets_of i))))))

-- a place is taken off those that wait

pub pops_inside : (code : Code) (s : Spread) (n : ℕ) (rest : List ℕ) (b : ℕ) → IsSpread code s n → s.pending ≡ rest ++ b ∷ [] → b < length code.places
pops_inside code s n rest b spread e = spread.inside b (subst (λ (l : List ℕ). Waits l b) (sym e) (waits_last rest b))

pub pops_spread : (code : Code) (s s' : Spread) (n : ℕ) (rest : List ℕ) (b : ℕ) → IsSpread code s n → s.pending ≡ rest ++ b ∷ [] → s' ≡ handed code b (record { known = s.known; pending = rest }) → IsSpread code s' n
pops_spread code s s' n rest b spread e is =
    let old : IsSpread code (record { known = s.known; pending = rest ++ b ∷ [] }) n =
    subst (λ (l : List ℕ). IsSpread code (record { known = s.known; pending = l }) n) e spread in
    subst (λ (x : Spread). IsSpread code x n) (sym is) (handed_spread code s.known rest b n old)

pub pops_work : (code : Code) (s s' : Spread) (n : ℕ) (rest : List ℕ) (b : ℕ) → IsSpread code s n → s.pending ≡ rest ++ b ∷ [] → s' ≡ handed code b (record { known = s.known; pending = rest }) → work s' < work s
pops_work code s s' n rest b spread e is =
    subst (λ (x : Spread). work x < work s) (sym is)
    (subst (λ (l : List ℕ). work (handed code b (record { known = s.known; pending = rest })) < work (record { known = s.known; pending = l })) (sym e)
    (handed_work code b s.known rest spread.size))

-- what is known tells which depths are bad

nothing_waits : (s : Spread) → s.pending ≡ [] → (x : ℕ) → Waits s.pending x → ⊥
nothing_waits s e x w = let P : List ℕ → Type 0 = λ l. Waits l x in subst P e w

pub known_bad : (code : Code) (s : Spread) (n b : ℕ) (d : Depth) → IsSpread code s n → known_at s b ≡ Some d → suits_at code.shapes (slice_get code.places b) d ≡ false → IsBadDepth code b
known_bad code s n b d spread k bad = (d, spread.sound b d k, bad)

known_good_at : (code : Code) (b : ℕ) (k : Option Depth) (d : Depth) → ((x : Depth) → k ≡ Some x → suits_at code.shapes (slice_get code.places b) x ≡ true) → Covers k d → suits_at code.shapes (slice_get code.places b) d ≡ true
known_good_at code b None d all c = absurd c
known_good_at code b (Some Several) d all c = absurd (false≢true (all Several refl))
known_good_at code b (Some (Exactly a)) d all c = subst (λ (x : Depth). suits_at code.shapes (slice_get code.places b) x ≡ true) c (all (Exactly a) refl)

pub known_good : (code : Code) (s : Spread) (b : ℕ) → IsSpread code s (length code.entries) → s.pending ≡ [] → b < length code.places → ((x : Depth) → known_at s b ≡ Some x → suits_at code.shapes (slice_get code.places b) x ≡ true) → IsBadDepth code b → ⊥
known_good code s b spread done lt all bad =
    false≢true (sym bad.2 ∙ known_good_at code b (known_at s b) bad.0 all (reached_known code s spread (nothing_waits s done) b bad.0 bad.1 lt))

-- a bad depth stands at an instruction
pub bad_inside : (code : Code) (b : ℕ) → IsBadDepth code b → b < length code.places
bad_inside code b bad = elim (cases_lt b (length code.places)) [ inl lt ↦ lt | inr out ↦ absurd (outside out) ]
  where
    outside : length code.places ≤ b → ⊥
    outside out =
        let at : bad.0 ≡ Exactly 0 = reached_outside code b bad.0 bad.1 out in
        let good : suits_at code.shapes (slice_get code.places b) bad.0 ≡ true =
        ap (suits_at code.shapes (slice_get code.places b)) at
        ∙ ap (λ (i : Option Placed). suits_at code.shapes i (Exactly 0)) (slice_get_past code.places b out) in
        false≢true (sym bad.2 ∙ good)
