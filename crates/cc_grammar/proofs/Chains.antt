-- A place or a call is a root with its tails, and how it ends tells which it is.
use Rattle.std.proofs.Common.{◌≡◌, ℕ, Bool, List, [], ◌∷◌, ◌++◌, Option, Some, None, ◌⊎◌, inl, inr, refl, ap, sym, ◌∙◌}
use denote.Hole.Carrier
use Rattle.cc_tree.specs.declared.expressions.Expr.{Expr}
use Rattle.cc_tree.specs.declared.expressions.ExprKind.{out-ExprKind}
use Rattle.cc_tree.specs.declared.expressions.ExprKind.TheVariants as e
use Rattle.cc_tree.specs.declared.expressions.Suffix.{Suffix, out-Suffix}
use Rattle.cc_tree.specs.declared.expressions.Suffix.TheVariants as suffix
use Rattle.cc_grammar.specs.declared.parts.Name.{Name}
use Rattle.cc_grammar.specs.declared.parts.Ending.{Ending}
use Rattle.cc_grammar.specs.declared.parts.Ending.TheVariants.{Place, Call, Neither}
use Rattle.cc_grammar.specs.Lexeme.{Lexemes}
use Rattle.cc_grammar.specs.Symbol.{Symbol, Repeats, ◌>>=◌, ◌or◌, many, never}
use Rattle.cc_grammar.specs.Nodes.{named, posted, node, member_of}
use Rattle.cc_grammar.specs.Endings.{ending, root_ending, tail_ending}
use Rattle.cc_grammar.specs.Expressions as g
use Rattle.cc_grammar.proofs.Same.{Same, back, ◌then◌}

-- ---- how nodes end

pub name_place : (t : Name) → root_ending (named t None) ≡ Place
unfolding root_ending out-ExprKind Carrier.out Carrier.roll
name_place t = refl

name_call : (t : Name) (xs : List Expr) → root_ending (named t (Some xs)) ≡ Call
unfolding root_ending out-ExprKind Carrier.out Carrier.roll
name_call t xs = refl

this_neither : (line : ℕ) → root_ending (node e.This line) ≡ Neither
unfolding root_ending out-ExprKind Carrier.out Carrier.roll
this_neither line = refl

paren_neither : (x : Expr) (line : ℕ) → root_ending (node (e.Paren x) line) ≡ Neither
unfolding root_ending out-ExprKind Carrier.out Carrier.roll
paren_neither x line = refl

index_place : (x : Expr) → tail_ending (suffix.Index x) ≡ Place
unfolding tail_ending out-Suffix Carrier.out
index_place x = refl

field_place : (arrow : Bool) (t : Name) → tail_ending (member_of arrow t None) ≡ Place
unfolding tail_ending out-Suffix Carrier.out
field_place arrow t = refl

call_on_call : (arrow : Bool) (t : Name) (xs : List Expr) → tail_ending (member_of arrow t (Some xs)) ≡ Call
unfolding tail_ending out-Suffix Carrier.out
call_on_call arrow t xs = refl

-- ---- lists of tails

snoc : {A : Type 0} (s : Lexemes → Lexemes → A → Type 0) (a m b : Lexemes) (xs : List A) (l : A) → Repeats s a m xs → s m b l → Repeats s a b (xs ++ l ∷ [])
snoc s a m b [] l h i = (b, rw h i, refl)
snoc s a m b (x ∷ xs) l (n, h, j) i = (n, h, snoc s n m b xs l j i)

record Last {A : Type 0} (s : Lexemes → Lexemes → A → Type 0) (a b : Lexemes) (xs : List A) : Type 0 where
  front : List A
  last : A
  between : Lexemes
  same : xs ≡ front ++ last ∷ []
  spells : Repeats s a between front
  ends : s between b last

unsnoc : {A : Type 0} (s : Lexemes → Lexemes → A → Type 0) (a b : Lexemes) (x : A) (xs : List A) → Repeats s a b (x ∷ xs) → Last s a b (x ∷ xs)
unsnoc s a b x [] (m, h, i) = record { front = []; last = x; between = a; same = refl; spells = refl; ends = rw (← i) h }
unsnoc s a b x (y ∷ ys) (m, h, i) =
    let v = unsnoc s m b y ys i in
    record { front = x ∷ v.front; last = v.last; between = v.between; same = ap (λ zs. x ∷ zs) v.same; spells = (m, h, v.spells); ends = v.ends }

ending_snoc : (x : Expr) (xs : List Suffix) (l : Suffix) → ending x (xs ++ l ∷ []) ≡ tail_ending l
ending_snoc x [] l = refl
ending_snoc x (y ∷ []) l = refl
ending_snoc x (y ∷ z ∷ zs) l = ending_snoc x (z ∷ zs) l

-- ---- what a root and a tail may be

abbrev pub by_ending : {B : Type 0} → Ending → Symbol B → Symbol B → Symbol B
by_ending Place s t = s
by_ending Call s t = t
by_ending Neither s t = never

module _ (n : ℕ) (ge gu : Symbol Expr) where
  -- roots and tails that end so
  record Ends (ended : Ending) (alone : Symbol Expr) (last : Symbol Suffix) : Type 0 where
    tail : (a b : Lexemes) (l : Suffix) → last.spells a b l → (g.tail n ge gu).spells a b l × (tail_ending l ≡ ended)
    tail_front : (a c : Lexemes) → last.front a c → (g.tail n ge gu).front a c
    root : (a b : Lexemes) (x : Expr) → alone.spells a b x → (g.root n ge gu).spells a b x × (root_ending x ≡ ended)
    root_front : (a c : Lexemes) → alone.front a c → (g.root n ge gu).front a c

  place_tail_front : (a c : Lexemes) → (g.place_tail n ge gu).front a c → (g.tail n ge gu).front a c
  unfolding g.tail g.place_tail
  place_tail_front a c (inl h) = inl h
  place_tail_front a c (inr (inl h)) = inr (inl h)
  place_tail_front a c (inr (inr (m, arrow, h, inl i))) = inr (inr (m, arrow, h, inl i))
  place_tail_front a c (inr (inr (m, arrow, h, inr (b, t, i, j)))) = inr (inr (m, arrow, h, inr (b, t, i, inl (inr j))))

  place_tail_to : (a b : Lexemes) (l : Suffix) → (g.place_tail n ge gu).spells a b l → (g.tail n ge gu).spells a b l × (tail_ending l ≡ Place)
  unfolding g.tail g.place_tail
  place_tail_to a b l (inl h) = (inl h, (let (m, x, w, (p, q)) = h in rw (← q) (index_place x)))
  place_tail_to a b l (inr (m, arrow, h, (c, t, i, (p, q)))) = (inr (m, arrow, h, (c, t, i, (c, None, inr (refl, refl), (p, q)))), rw (← q) (field_place arrow t))

  places_end : Ends Place (g.name_alone n ge gu) (g.place_tail n ge gu)
  unfolding g.root g.name_alone
  places_end = record {
    tail = place_tail_to;
    tail_front = place_tail_front;
    root = λ a b x (m, t, h, (p, q)). (inl (m, t, h, (m, None, inr (refl, refl), (p, q))), rw (← q) (name_place t));
    root_front = λ a c h. elim h [ inl i ↦ inl (inl i) | inr (m, t, i, p) ↦ inl (inr (m, t, i, inl (inr p))) ];
  }

  call_tail_front : (a c : Lexemes) → (g.call_tail n ge gu).front a c → (g.tail n ge gu).front a c
  unfolding g.tail g.call_tail
  call_tail_front a c (inl h) = inr (inl h)
  call_tail_front a c (inr (m, arrow, h, inl i)) = inr (inr (m, arrow, h, inl i))
  call_tail_front a c (inr (m, arrow, h, inr (b, t, i, inl j))) = inr (inr (m, arrow, h, inr (b, t, i, inl (inl (inl j)))))
  call_tail_front a c (inr (m, arrow, h, inr (b, t, i, inr (d, xs, j, p)))) = inr (inr (m, arrow, h, inr (b, t, i, inl (inl (inr (d, xs, j, p))))))

  call_tail_to : (a b : Lexemes) (l : Suffix) → (g.call_tail n ge gu).spells a b l → (g.tail n ge gu).spells a b l × (tail_ending l ≡ Call)
  unfolding g.tail g.call_tail
  call_tail_to a b l (m, arrow, h, (c, t, i, (d, xs, j, (p, q)))) = (inr (m, arrow, h, (c, t, i, (d, Some xs, inl (d, xs, j, (refl, refl)), (p, q)))), rw (← q) (call_on_call arrow t xs))

  calls_end : Ends Call (g.name_called n ge gu) (g.call_tail n ge gu)
  unfolding g.root g.name_called
  calls_end = record {
    tail = call_tail_to;
    tail_front = call_tail_front;
    root = λ a b x (m, t, h, (c, xs, i, (p, q))). (inl (m, t, h, (c, Some xs, inl (c, xs, i, (refl, refl)), (p, q))), rw (← q) (name_call t xs));
    root_front = λ a c h. elim h [
      | inl i ↦ inl (inl i)
      | inr (m, t, i, inl j) ↦ inl (inr (m, t, i, inl (inl (inl j))))
      | inr (m, t, i, inr (d, xs, j, p)) ↦ inl (inr (m, t, i, inl (inl (inr (d, xs, j, p)))))
    ];
  }

  -- a tail ends as a place or as a call
  tail_cases : (a b : Lexemes) (l : Suffix) → (g.tail n ge gu).spells a b l
      → ((tail_ending l ≡ Place) × (g.place_tail n ge gu).spells a b l) ⊎ ((tail_ending l ≡ Call) × (g.call_tail n ge gu).spells a b l)
  unfolding g.tail g.place_tail g.call_tail
  tail_cases a b l (inl h) = inl ((let (m, x, w, (p, q)) = h in rw (← q) (index_place x)), inl h)
  tail_cases a b l (inr (m, arrow, h, (c, t, i, (d, o, inl (d2, xs, j, (p1, q1)), (p, q))))) =
      inr (rw (← q, ← q1) (call_on_call arrow t xs), (m, arrow, h, (c, t, i, (d2, xs, j, (rw p1 p, (let z = rw (← q1) at q in z))))))
  tail_cases a b l (inr (m, arrow, h, (c, t, i, (d, o, inr (p1, q1), (p, q))))) =
      inl (rw (← q, ← q1) (field_place arrow t), inr (m, arrow, h, (c, t, i, (rw p1 p, (let z = rw (← q1) at q in z)))))

  root_cases : (a b : Lexemes) (x : Expr) → (g.root n ge gu).spells a b x
      → ((root_ending x ≡ Place) × (g.name_alone n ge gu).spells a b x) ⊎ (((root_ending x ≡ Call) × (g.name_called n ge gu).spells a b x) ⊎ (root_ending x ≡ Neither))
  unfolding g.root g.paren g.name_alone g.name_called
  root_cases a b x (inl (m, t, h, (c, o, inl (d, xs, i, (p1, q1)), (p, q)))) =
      inr (inl (rw (← q, ← q1) (name_call t xs), (m, t, h, (d, xs, i, (rw p1 p, (let z = rw (← q1) at q in z))))))
  root_cases a b x (inl (m, t, h, (c, o, inr (p1, q1), (p, q)))) =
      inl (rw (← q, ← q1) (name_place t), (m, t, h, (rw p1 p, (let z = rw (← q1) at q in z))))
  root_cases a b x (inr (inl (m, line, h, (p, q)))) = inr (inr (rw (← q) (this_neither line)))
  root_cases a b x (inr (inr (m, line, h, (c, y, i, (d, u, j, (p, q)))))) = inr (inr (rw (← q) (paren_neither y line)))

  -- ---- fronts of chains are all the same

  abbrev Started : Lexemes → Lexemes → Type 0
  Started a c = (g.root n ge gu).front a c ⊎ ((m : Lexemes) × (x : Expr) × (g.root n ge gu).spells a m x × (many (g.tail n ge gu)).front m c)

  abbrev wholes : Symbol Expr → Symbol Suffix → Symbol Expr
  wholes alone last = alone or g.chain n ge gu last

  module _ {ended : Ending} {alone : Symbol Expr} {last : Symbol Suffix} (k : Ends ended alone last) (none : (b : Lexemes) → (g.tail n ge gu).front b b) where
    started : (a c : Lexemes) → (wholes alone last).front a c → Started a c
    unfolding g.chain
    started a c (inl h) = inl (k.root_front a c h)
    started a c (inr (inl h)) = inl h
    started a c (inr (inr (m, x, h, inl i))) = inr (m, x, h, i)
    started a c (inr (inr (m, x, h, inr (m2, xs, i, inl j)))) = inr (m, x, h, (m2, xs, i, k.tail_front m2 c j))
    started a c (inr (inr (m, x, h, inr (m2, xs, i, inr (m3, l, r, p))))) =
        inr (m, x, h, (m3, xs ++ l ∷ [], snoc (g.tail n ge gu).spells m m2 m3 xs l i (k.tail m2 m3 l r).0, rw p (none c)))

    from_started : (a c : Lexemes) → Started a c → (wholes alone last).front a c
    unfolding g.chain
    from_started a c (inl h) = inr (inl h)
    from_started a c (inr (m, x, h, i)) = inr (inr (m, x, h, inl i))

  -- a root with its tails is a place, a call, or neither
  data Whole (a b : Lexemes) (x : Expr) (xs : List Suffix) : Type 0 where
    AsPlace : ending x xs ≡ Place → (wholes (g.name_alone n ge gu) (g.place_tail n ge gu)).spells a b (posted x xs) → Whole a b x xs
    AsCall : ending x xs ≡ Call → (wholes (g.name_called n ge gu) (g.call_tail n ge gu)).spells a b (posted x xs) → Whole a b x xs
    AsNeither : ending x xs ≡ Neither → Whole a b x xs

  whole : (a m b : Lexemes) (x : Expr) (xs : List Suffix) → (g.root n ge gu).spells a m x → Repeats (g.tail n ge gu).spells m b xs → Whole a b x xs
  unfolding g.chain
  whole a m b x [] h i = elim (root_cases a m x h) [
    | inl (r, w) ↦ AsPlace r (inl (rw (← i) w))
    | inr (inl (r, w)) ↦ AsCall r (inl (rw (← i) w))
    | inr (inr r) ↦ AsNeither r
  ]
  whole a m b x (x1 ∷ xs) h i =
      let v = unsnoc (g.tail n ge gu).spells m b x1 xs i in
      let e : ending x (x1 ∷ xs) ≡ tail_ending v.last = ap (ending x) v.same ∙ ending_snoc x v.front v.last in
      let q : posted x (v.front ++ v.last ∷ []) ≡ posted x (x1 ∷ xs) = ap (posted x) (sym v.same) in
      elim (tail_cases v.between b v.last v.ends) [
        | inl (r, w) ↦ AsPlace (e ∙ r) (inr (m, x, h, (v.between, v.front, v.spells, (b, v.last, w, (refl, q)))))
        | inr (r, w) ↦ AsCall (e ∙ r) (inr (m, x, h, (v.between, v.front, v.spells, (b, v.last, w, (refl, q)))))
      ]

  -- ---- what goes on from a chain, by its end

  module _ {B : Type 0} (finish : Ending → Expr → Symbol B) where
    abbrev going : Symbol B
    going = g.root n ge gu >>= (λ x. many (g.tail n ge gu) >>= (λ xs. finish (ending x xs) (posted x xs)))

    move : (d e : Ending) (x : Expr) (a b : Lexemes) (y : B) → d ≡ e → (finish e x).spells a b y → (finish d x).spells a b y
    move d e x a b y i h = rw i h

    move_front : (d e : Ending) (x : Expr) (a c : Lexemes) → d ≡ e → (finish e x).front a c → (finish d x).front a c
    move_front d e x a c i h = rw i h

    module _ {ended : Ending} {alone : Symbol Expr} {last : Symbol Suffix} (k : Ends ended alone last) (none : (b : Lexemes) → (g.tail n ge gu).front b b) where
      to_going : (a b : Lexemes) (y : B) → (wholes alone last >>= finish ended).spells a b y → going.spells a b y
      unfolding g.chain
      to_going a b y (m, x, inl h, j) = let v = k.root a m x h in (m, x, v.0, (m, [], refl, move (root_ending x) ended x m b y v.1 j))
      to_going a b y (m, x, inr (m1, x1, h, (m2, xs, i, (m3, l, r, (p, q)))), j) =
          let v = k.tail m2 m3 l r in
          let z : (finish ended (posted x1 (xs ++ l ∷ []))).spells m3 b y = rw (p, q) j in
          (m1, x1, h, (m3, xs ++ l ∷ [], snoc (g.tail n ge gu).spells m1 m2 m3 xs l i v.0, move (ending x1 (xs ++ l ∷ [])) ended _ m3 b y (ending_snoc x1 xs l ∙ v.1) z))

      front_to_going : (a c : Lexemes) → (wholes alone last >>= finish ended).front a c → going.front a c
      unfolding g.chain
      front_to_going a c (inl h) = elim (started k none a c h) [ inl i ↦ inl i | inr w ↦ inr (w.0, w.1, w.2, inl w.3) ]
      front_to_going a c (inr (m, x, inl h, j)) = let v = k.root a m x h in inr (m, x, v.0, inr (m, [], refl, move_front (root_ending x) ended x m c v.1 j))
      front_to_going a c (inr (m, x, inr (m1, x1, h, (m2, xs, i, (m3, l, r, (p, q)))), j)) =
          let v = k.tail m2 m3 l r in
          let z : (finish ended (posted x1 (xs ++ l ∷ []))).front m3 c = rw (p, q) j in
          inr (m1, x1, h, inr (m3, xs ++ l ∷ [], snoc (g.tail n ge gu).spells m1 m2 m3 xs l i v.0, move_front (ending x1 (xs ++ l ∷ [])) ended _ m3 c (ending_snoc x1 xs l ∙ v.1) z))

  -- ---- places and calls

  abbrev pub places : Symbol Expr
  places = wholes (g.name_alone n ge gu) (g.place_tail n ge gu)

  abbrev pub calls : Symbol Expr
  calls = wholes (g.name_called n ge gu) (g.call_tail n ge gu)

  abbrev pub going_on : {B : Type 0} → (Expr → Symbol B) → (Expr → Symbol B) → Symbol B
  going_on kp kc = going (λ e x. by_ending e (kp x) (kc x))

  module _ {B : Type 0} (none : (b : Lexemes) → (g.tail n ge gu).front b b) (kp kc : Expr → Symbol B) where
    abbrev finish : Ending → Expr → Symbol B
    finish e x = by_ending e (kp x) (kc x)

    from_going : (a b : Lexemes) (y : B) → (going_on kp kc).spells a b y → ((places >>= kp) or (calls >>= kc)).spells a b y
    from_going a b y (m, x, h, (m2, xs, i, j)) = elim (whole a m m2 x xs h i) [
      | AsPlace r w ↦ inl (m2, posted x xs, w, move finish Place (ending x xs) (posted x xs) m2 b y (sym r) j)
      | AsCall r w ↦ inr (m2, posted x xs, w, move finish Call (ending x xs) (posted x xs) m2 b y (sym r) j)
      | AsNeither r ↦ absurd (move finish Neither (ending x xs) (posted x xs) m2 b y (sym r) j)
    ]

    front_from_going : (a c : Lexemes) → (going_on kp kc).front a c → ((places >>= kp) or (calls >>= kc)).front a c
    front_from_going a c (inl h) = inl (inl (from_started places_end none a c (inl h)))
    front_from_going a c (inr (m, x, h, inl i)) = inl (inl (from_started places_end none a c (inr (m, x, h, i))))
    front_from_going a c (inr (m, x, h, inr (m2, xs, i, j))) = elim (whole a m m2 x xs h i) [
      | AsPlace r w ↦ inl (inr (m2, posted x xs, w, move_front finish Place (ending x xs) (posted x xs) m2 c (sym r) j))
      | AsCall r w ↦ inr (inr (m2, posted x xs, w, move_front finish Call (ending x xs) (posted x xs) m2 c (sym r) j))
      | AsNeither r ↦ inl (inl (from_started places_end none a c (inr (m, x, h, (m2, xs, i, rw (move_front finish Neither (ending x xs) (posted x xs) m2 c (sym r) j) (none c))))))
    ]

    -- a place or a call, and what goes on from it, is a root with its tails that goes on by its end
    pub chained : Same ((places >>= kp) or (calls >>= kc)) (going_on kp kc)
    chained = record {
      to = λ a b y h. elim h [ inl i ↦ to_going finish places_end none a b y i | inr i ↦ to_going finish calls_end none a b y i ];
      from = from_going;
      front_to = λ a c h. elim h [ inl i ↦ front_to_going finish places_end none a c i | inr i ↦ front_to_going finish calls_end none a c i ];
      front_from = front_from_going;
    }

  module _ {B : Type 0} (none : (b : Lexemes) → (g.tail n ge gu).front b b) (kp : Expr → Symbol B) where
    dropped : {s : Symbol Expr} (a c : Lexemes) → ((a b : Lexemes) (x : Expr) → s.spells a b x → s.front a b) → (s >>= (λ _. never {A = B})).front a c → s.front a c
    dropped a c full (inl h) = h
    dropped a c full (inr (m, x, h, i)) = rw (← i) (full a m x h)

    -- what is a front of a call is one of a place, too
    no_calls : ((a b : Lexemes) (x : Expr) → calls.spells a b x → calls.front a b) → Same ((places >>= kp) or (calls >>= (λ _. never))) (places >>= kp)
    no_calls full = record {
      to = λ a b y h. elim h [ inl i ↦ i | inr w ↦ absurd w.3 ];
      from = λ a b y h. inl h;
      front_to = λ a c h. elim h [ inl i ↦ i | inr i ↦ inl (from_started places_end none a c (started calls_end none a c (dropped a c full i))) ];
      front_from = λ a c h. inl h;
    }

    -- and the other way round
    no_places : ((a b : Lexemes) (x : Expr) → places.spells a b x → places.front a b) → Same ((places >>= (λ _. never)) or (calls >>= kp)) (calls >>= kp)
    no_places full = record {
      to = λ a b y h. elim h [ inl w ↦ absurd w.3 | inr i ↦ i ];
      from = λ a b y h. inr h;
      front_to = λ a c h. elim h [ inl i ↦ inl (from_started calls_end none a c (started places_end none a c (dropped a c full i))) | inr i ↦ i ];
      front_from = λ a c h. inr h;
    }

    pub places_going : ((a b : Lexemes) (x : Expr) → calls.spells a b x → calls.front a b) → Same (places >>= kp) (going_on kp (λ _. never))
    places_going full = back (no_calls full) then chained none kp (λ _. never)

    pub calls_going : ((a b : Lexemes) (x : Expr) → places.spells a b x → places.front a b) → Same (calls >>= kp) (going_on (λ _. never) kp)
    calls_going full = back (no_places full) then chained none (λ _. never) kp
