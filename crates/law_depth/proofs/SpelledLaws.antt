-- How deep nests what a symbol spells.
use Rattle.std.proofs.Common.{◌≡◌, ℕ, zero, suc, ◌*◌, ◌≤◌, List, [], ◌∷◌, ◌++◌, ◌⊎◌, inl, inr, Some, None, subst, arith}
use Rattle.cc_grammar.specs.Expressions.{level, args, bracketed, paren, tail, root, prim, prefix, creation, postfix, unary_line, product, sum, order, equal, conjunction, expr_line}
use Rattle.cc_grammar.specs.Expressions.{name_alone, name_called, place_tail, call_tail, chain, place_line, call_line, unary, expr, inner_expr, inner_unary, place, call, sum_at}
use Rattle.cc_grammar.specs.Lexeme.{Lexemes}
use Rattle.cc_grammar.specs.Symbol.{Symbol, Repeats, listed, never}
use Rattle.cc_lexer.specs.declared.token.Mark.{Mark}
use Rattle.cc_tree.specs.declared.expressions.BinaryOp.{BinaryOp}
use Rattle.cc_tree.specs.declared.expressions.UnaryOp.{UnaryOp}
use Rattle.cc_tree.specs.declared.expressions.Expr.{Expr}
use Rattle.cc_tree.specs.declared.expressions.Suffix.{Suffix}
use Rattle.law_depth.specs.Depth.{EachOf, IfSome, Tail, Operand, NestsTo}
use Rattle.law_depth.proofs.NestLaws.{deeper, int_nests, null_nests, this_nests, named_nests, paren_nests, prefixed_nests, new_int_nests, new_class_nests}
use Rattle.law_depth.proofs.NestLaws.{each_deeper, some_deeper, posted_nests, chained_nests, linked_nests, index_nests, member_nests}

-- ---- what a symbol spells

abbrev pub Holds : {A : Type 0} → (A → Type 0) → (Lexemes → Lexemes → A → Type 0) → Type 0
Holds {A} P R = (a b : Lexemes) (x : A) → R a b x → P x

pub seq : {A B : Type 0} {P : A → Type 0} {Q : B → Type 0} {R : Lexemes → Lexemes → A → Type 0} {S : A → Lexemes → Lexemes → B → Type 0}
    → Holds P R → ((x : A) → P x → Holds Q (S x)) → Holds Q (λ a c y. (b : Lexemes) × (x : A) × R a b x × S x b c y)
seq f h a c y p = h p.1 (f a p.0 p.1 p.2) p.0 c y p.3

pub skip : {A B : Type 0} {Q : B → Type 0} (R : Lexemes → Lexemes → A → Type 0) {S : A → Lexemes → Lexemes → B → Type 0}
    → ((x : A) → Holds Q (S x)) → Holds Q (λ a c y. (b : Lexemes) × (x : A) × R a b x × S x b c y)
skip R h a c y p = h p.1 p.0 c y p.3

pub gives : {A : Type 0} (Q : A → Type 0) (x : A) → Q x → Holds Q (λ a b y. (a ≡ b) × (x ≡ y))
gives Q x q a b y p = subst Q p.1 q

pub choose : {A : Type 0} {P : A → Type 0} {R S : Lexemes → Lexemes → A → Type 0} → Holds P R → Holds P S → Holds P (λ a b x. R a b x ⊎ S a b x)
choose f h a b x p = elim p [ inl l ↦ f a b x l | inr r ↦ h a b x r ]

pub each : {A : Type 0} {P : A → Type 0} {R : Lexemes → Lexemes → A → Type 0} → Holds P R → Holds (EachOf P) (Repeats R)
each f a b [] p = tt
each f a b (x ∷ xs) p = (f a p.0 x p.1, each f p.0 b xs p.2)

pub maybe : {A : Type 0} {P : A → Type 0} {R : Lexemes → Lexemes → A → Type 0} → Holds P R
    → Holds (IfSome P) (λ a c y. ((b : Lexemes) × (x : A) × R a b x × ((b ≡ c) × (Some x ≡ y))) ⊎ ((a ≡ c) × (None ≡ y)))
maybe {P = P} f a c y p = elim p [ inl l ↦ subst (IfSome P) (l.3).1 (f a l.0 l.1 l.2) | inr r ↦ subst (IfSome P) r.1 tt ]

pub nothing : {A : Type 0} (P : A → Type 0) → Holds P (λ a b x. ⊥)
nothing P a b x p = absurd p

each_behind : {A : Type 0} (P : A → Type 0) (xs : List A) (x : A) → EachOf P xs → P x → EachOf P (xs ++ x ∷ [])
each_behind P [] x p q = (q, tt)
each_behind P (y ∷ xs) x p q = (p.0, each_behind P xs x p.1 q)

-- so many more
abbrev pub up : ℕ → ℕ → ℕ
up zero d = d
up (suc k) d = suc (up k d)

-- ---- expressions, where those within a level nest at most d deep

-- a level of operators
level_spelled : (d : ℕ) (R : Lexemes → Lexemes → BinaryOp → Type 0) (S : Lexemes → Lexemes → Expr → Type 0) → Holds (NestsTo d) S
    → Holds (NestsTo (suc d)) (level (record { spells = R; front = λ a c. Unit {0} }) (record { spells = S; front = λ a c. Unit {0} })).spells
level_spelled d R S f = seq f (λ x p. seq (each (skip {Q = Operand (NestsTo d)} _ (λ o. seq f (λ y q. gives _ _ (linked_nests d o y q)))))
    (λ ls q. gives _ _ (chained_nests d x ls p q)))

module _ (n d : ℕ) (inner opened : Symbol Expr) (f : Holds (NestsTo d) inner.spells) (g : Holds (NestsTo (suc d)) opened.spells) where
  listed_spelled : Holds (EachOf (NestsTo d)) (listed inner).spells
  listed_spelled = choose (seq f (λ x p. seq (each (skip {Q = NestsTo d} _ (λ m. f))) (λ xs q. gives _ (x ∷ xs) (p, q)))) (gives _ [] tt)

  pub args_spelled : Holds (EachOf (NestsTo d)) (args n inner opened).spells
  unfolding args
  args_spelled = skip _ (λ o. seq listed_spelled (λ xs p. skip _ (λ m. gives _ xs p)))

  pub bracketed_spelled : Holds (NestsTo d) (bracketed n inner opened).spells
  unfolding bracketed
  bracketed_spelled = skip _ (λ o. seq f (λ x p. skip _ (λ m. gives _ x p)))

  paren_spelled : Holds (NestsTo (suc d)) (paren n inner opened).spells
  unfolding paren
  paren_spelled = skip _ (λ line. seq f (λ x p. skip _ (λ m. gives _ _ (paren_nests d x line p))))

  tail_spelled : Holds (Tail (NestsTo (suc d))) (tail n inner opened).spells
  unfolding tail
  tail_spelled = choose (seq bracketed_spelled (λ x p. gives _ _ (index_nests (suc d) x (deeper d (suc d) (omega arith) x p))))
      (skip _ (λ arrow. skip _ (λ t. seq (maybe args_spelled) (λ xs p. gives _ _ (member_nests (suc d) arrow t xs (some_deeper d xs p))))))

  root_spelled : Holds (NestsTo (suc d)) (root n inner opened).spells
  unfolding root
  root_spelled = choose (skip _ (λ t. seq (maybe args_spelled) (λ xs p. gives _ _ (named_nests d t xs p))))
      (choose (skip _ (λ line. gives _ _ (this_nests d line))) paren_spelled)

  prim_spelled : Holds (NestsTo (suc d)) (prim n inner opened).spells
  unfolding prim
  prim_spelled = choose (skip _ (λ i. gives _ _ (int_nests d i.value i.line)))
      (choose (skip _ (λ line. gives _ _ (null_nests d line))) root_spelled)

  prefix_spelled : (m : Mark) (op : UnaryOp) → Holds (NestsTo (suc (suc d))) (prefix n inner opened m op).spells
  unfolding prefix
  prefix_spelled m op = skip _ (λ line. seq g (λ x p. gives _ _ (prefixed_nests (suc d) op x line p)))

  creation_spelled : Holds (NestsTo (suc d)) (creation n inner opened).spells
  unfolding creation
  creation_spelled = choose
      (skip _ (λ line. skip _ (λ s. skip _ (λ w. seq (maybe bracketed_spelled) (λ o p. gives _ _ (new_int_nests d s o line p))))))
      (skip _ (λ line. skip _ (λ t. seq (maybe args_spelled) (λ xs p. gives _ _ (new_class_nests d t.text xs line p)))))

  postfix_spelled : Holds (NestsTo (suc (suc d))) (postfix n inner opened).spells
  unfolding postfix
  postfix_spelled = seq prim_spelled (λ x p. seq (each tail_spelled) (λ ss q. gives _ _ (posted_nests (suc d) x ss p q)))

  created : Holds (NestsTo (suc (suc d))) (creation n inner opened).spells
  created a b x p = deeper (suc d) (suc (suc d)) (omega arith) x (creation_spelled a b x p)

  unary_line_spelled : Holds (NestsTo (suc (suc d))) (unary_line n inner opened).spells
  unfolding unary_line
  unary_line_spelled = choose (prefix_spelled _ _) (choose (prefix_spelled _ _) (choose (prefix_spelled _ _) (choose (prefix_spelled _ _)
      (choose created postfix_spelled))))

  product_spelled : Holds (NestsTo (up 3 d)) (product n inner opened).spells
  unfolding product
  product_spelled = level_spelled (up 2 d) _ _ unary_line_spelled

  pub sum_spelled : Holds (NestsTo (up 4 d)) (sum n inner opened).spells
  unfolding sum
  sum_spelled = level_spelled (up 3 d) _ _ product_spelled

  order_spelled : Holds (NestsTo (up 5 d)) (order n inner opened).spells
  unfolding order
  order_spelled = level_spelled (up 4 d) _ _ sum_spelled

  equal_spelled : Holds (NestsTo (up 6 d)) (equal n inner opened).spells
  unfolding equal
  equal_spelled = level_spelled (up 5 d) _ _ order_spelled

  conjunction_spelled : Holds (NestsTo (up 7 d)) (conjunction n inner opened).spells
  unfolding conjunction
  conjunction_spelled = level_spelled (up 6 d) _ _ equal_spelled

  pub expr_line_spelled : Holds (NestsTo (up 8 d)) (expr_line n inner opened).spells
  unfolding expr_line
  expr_line_spelled = level_spelled (up 7 d) _ _ conjunction_spelled

  -- ---- places and calls

  place_tail_spelled : Holds (Tail (NestsTo (suc d))) (place_tail n inner opened).spells
  unfolding place_tail
  place_tail_spelled = choose (seq bracketed_spelled (λ x p. gives _ _ (index_nests (suc d) x (deeper d (suc d) (omega arith) x p))))
      (skip _ (λ arrow. skip _ (λ t. gives _ _ (member_nests (suc d) arrow t None tt))))

  call_tail_spelled : Holds (Tail (NestsTo (suc d))) (call_tail n inner opened).spells
  unfolding call_tail
  call_tail_spelled = skip _ (λ arrow. skip _ (λ t. seq args_spelled (λ xs p. gives _ _ (member_nests (suc d) arrow t (Some xs) (each_deeper d xs p)))))

  chain_spelled : (last : Symbol Suffix) → Holds (Tail (NestsTo (suc d))) last.spells → Holds (NestsTo (suc (suc d))) (chain n inner opened last).spells
  unfolding chain
  chain_spelled last h = seq root_spelled (λ x p. seq (each tail_spelled) (λ ss q. seq h (λ l r.
      gives _ _ (posted_nests (suc d) x (ss ++ l ∷ []) p (each_behind (Tail (NestsTo (suc d))) ss l q r)))))

  name_alone_spelled : Holds (NestsTo (suc (suc d))) (name_alone n inner opened).spells
  unfolding name_alone
  name_alone_spelled = skip _ (λ t. gives _ _ (named_nests (suc d) t None tt))

  name_called_spelled : Holds (NestsTo (suc (suc d))) (name_called n inner opened).spells
  unfolding name_called
  name_called_spelled = skip _ (λ t. seq args_spelled (λ xs p. gives _ _ (named_nests (suc d) t (Some xs) (each_deeper d xs p))))

  pub place_line_spelled : Holds (NestsTo (suc (suc d))) (place_line n inner opened).spells
  unfolding place_line
  place_line_spelled = choose (prefix_spelled _ _) (choose name_alone_spelled (chain_spelled _ place_tail_spelled))

  pub call_line_spelled : Holds (NestsTo (suc (suc d))) (call_line n inner opened).spells
  unfolding call_line
  call_line_spelled = choose name_called_spelled (chain_spelled _ call_tail_spelled)

-- ---- within so many levels

-- how deep nests what stands within a level that is opened where so many may be
abbrev pub within : ℕ → ℕ
within zero = 0
within (suc n) = up 8 (within n)

within_is : (n : ℕ) → within n ≡ 8 * n
within_is zero = omega arith
within_is (suc n) = let rest : within n ≡ 8 * n = within_is n in omega (arith, rest)

Levels : ℕ → Type 0
Levels n = Holds (NestsTo (up 8 (within n))) (expr n).spells × Holds (NestsTo (suc (suc (within n)))) (unary n).spells

levels : (n : ℕ) → Levels n
unfolding Levels expr unary
levels zero = (
  expr_line_spelled zero 0 never never (nothing _) (nothing _),
  unary_line_spelled zero 0 never never (nothing _) (nothing _),
)
levels (suc n) =
    let r = levels n in
    let g : Holds (NestsTo (suc (within (suc n)))) (unary n).spells =
    λ a b x p. deeper (suc (suc (within n))) (suc (within (suc n))) (omega arith) x (r.1 a b x p) in (
      expr_line_spelled (suc n) (within (suc n)) (expr n) (unary n) r.0 g,
      unary_line_spelled (suc n) (within (suc n)) (expr n) (unary n) r.0 g,
    )

pub inner_expr_spelled : (n : ℕ) → Holds (NestsTo (within n)) (inner_expr n).spells
unfolding inner_expr Levels
inner_expr_spelled zero = nothing _
inner_expr_spelled (suc n) = (levels n).0

pub inner_unary_spelled : (n : ℕ) → Holds (NestsTo (suc (within n))) (inner_unary n).spells
unfolding inner_unary Levels
inner_unary_spelled zero = nothing _
inner_unary_spelled (suc n) = λ a b x p. deeper (suc (suc (within n))) (suc (within (suc n))) (omega arith) x ((levels n).1 a b x p)

-- ---- and so within 64

pub few : (n : ℕ) → n ≤ 64 → up 8 (within n) ≤ 1000
few n le = let is : within n ≡ 8 * n = within_is n in omega (arith, is, le)

pub expr_nests : (n : ℕ) (a b : Lexemes) (x : Expr) → n ≤ 64 → (expr n).spells a b x → NestsTo 1000 x
unfolding Levels
expr_nests n a b x le p = deeper (up 8 (within n)) 1000 (few n le) x ((levels n).0 a b x p)

pub place_nests : (n : ℕ) (a b : Lexemes) (x : Expr) → n ≤ 64 → (place n).spells a b x → NestsTo 1000 x
place_nests n a b x le p =
    let f : up 8 (within n) ≤ 1000 = few n le in
    deeper (suc (suc (within n))) 1000 (omega (arith, f)) x
    (place_line_spelled n (within n) (inner_expr n) (inner_unary n) (inner_expr_spelled n) (inner_unary_spelled n) a b x p)

pub call_nests : (n : ℕ) (a b : Lexemes) (x : Expr) → n ≤ 64 → (call n).spells a b x → NestsTo 1000 x
call_nests n a b x le p =
    let f : up 8 (within n) ≤ 1000 = few n le in
    deeper (suc (suc (within n))) 1000 (omega (arith, f)) x
    (call_line_spelled n (within n) (inner_expr n) (inner_unary n) (inner_expr_spelled n) (inner_unary_spelled n) a b x p)

pub sum_nests : (n : ℕ) (a b : Lexemes) (x : Expr) → n ≤ 64 → (sum_at n).spells a b x → NestsTo 1000 x
sum_nests n a b x le p =
    let f : up 8 (within n) ≤ 1000 = few n le in
    deeper (up 4 (within n)) 1000 (omega (arith, f)) x
    (sum_spelled n (within n) (inner_expr n) (inner_unary n) (inner_expr_spelled n) (inner_unary_spelled n) a b x p)
