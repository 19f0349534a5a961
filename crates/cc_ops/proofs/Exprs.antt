-- How each form of a constructor's expression is seen, and what its value is by its parts' values.
use Rattle.std.specs.Prelude.{◌≡◌, ℕ, ◌+◌, ◌≤◌, ◌==◌, if◌then◌else◌, Bool, true, false, List, ◌∷◌, refl}
use Rattle.std.proofs.Common.{◌∙◌, ap, sym, arith}
use denote.Hole.Carrier as Carrier
use Rattle.cc_ops.specs.declared.operator.Op.{Op}
use Rattle.cc_ops.specs.declared.build.BuildExpr as rust
use Rattle.cc_ops.specs.declared.build.BuildExpr.{Row_of-BuildExpr, end_of-BuildExpr, more_of-BuildExpr}
use Rattle.cc_ops.specs.declared.build.BuildExpr.TheVariants as e
use Rattle.cc_ops.specs.declared.build.BuildExpr.TheBlock as block
use Rattle.cc_ops.specs.declared.build.BuildExpr.TheBlock.{hidden-the_row-BuildExpr-0, hidden-the_row-BuildExpr-1}
use Rattle.cc_ops.specs.Values.{Value, Void, is_zero, Result, Gives, Fails, on_gives, first, second}
use Rattle.cc_ops.specs.Operators.{compute, operate, truth_of}
use Rattle.cc_ops.specs.Classes.{BuildExpr, BuildExprs, NoParts, MoreParts, Apply, Both, Either, evaluate, evaluate_all}
use Rattle.cc_ops.specs.Shapes.{expr_of, exprs_of, part_of, parts_of, Pair, first_two}

-- the forms

part_of-boxed : (x : rust.BuildExpr) → part_of (hidden-the_row-BuildExpr-1 x) ≡ expr_of x
unfolding hidden-the_row-BuildExpr-1 Carrier.hidden
part_of-boxed x = refl

parts_of-items : {m : _} (row : Row_of-BuildExpr m) → parts_of row ≡ exprs_of (block.items-the_row-BuildExpr m row)
parts_of-items end_of-BuildExpr = refl
parts_of-items (more_of-BuildExpr x rest) = ap (MoreParts (expr_of x)) (parts_of-items rest)

pub expr_of-Op : (op : Op) (es : List rust.BuildExpr) → expr_of (e.Op op es) ≡ Apply op (exprs_of es)
expr_of-Op op es =
    ap (Apply op) (parts_of-items (hidden-the_row-BuildExpr-0 es) ∙ ap exprs_of (block.items_hidden-the_row-BuildExpr-0 es))

pub expr_of-And : (a b : rust.BuildExpr) → expr_of (e.And a b) ≡ Both (expr_of a) (expr_of b)
expr_of-And a b =
    ap (λ x. Both x (part_of (hidden-the_row-BuildExpr-1 b))) (part_of-boxed a) ∙ ap (Both (expr_of a)) (part_of-boxed b)

pub expr_of-Or : (a b : rust.BuildExpr) → expr_of (e.Or a b) ≡ Either (expr_of a) (expr_of b)
expr_of-Or a b =
    ap (λ x. Either x (part_of (hidden-the_row-BuildExpr-1 b))) (part_of-boxed a) ∙ ap (Either (expr_of a)) (part_of-boxed b)

pub ruleset exprs = (expr_of-And, expr_of-Or)

-- the values

not_zero : {A : Type 0} (n : ℕ) (v w : A) → 2 ≤ n → (if n == 0 then v else w) ≡ w
not_zero n v w h = grind arith

not_one : {A : Type 0} (n : ℕ) (v w : A) → 2 ≤ n → (if n == 1 then v else w) ≡ w
not_one n v w h = grind arith

-- a value in front of the others
in_front : {A B : Type 0} (r : Result (List A)) (a : A) (f : List A → Result B)
    → on_gives (on_gives r (λ vs. Gives (a ∷ vs))) f ≡ on_gives r (λ vs. f (a ∷ vs))
in_front (Gives vs) a f = refl
in_front (Fails kind) a f = refl

module _ {N : Type 0} (same : N → N → Bool) (args : List (Value N)) where
  -- a value, then those of the other parts, of which f keeps something
  abbrev front : Result (Value N) → BuildExprs → (List (Value N) → Pair N) → Result (Pair N)
  front r es f = on_gives (on_gives r (λ a. on_gives (evaluate_all same args es) (λ vs. Gives (a ∷ vs)))) (λ vs. Gives (f vs))

  later-step : (r : Result (Value N)) (n : ℕ) (v w : Value N) (es : BuildExprs) → 2 ≤ n
      → ((v w : Value N) → first_two same args (n + 1) v w es ≡ on_gives (evaluate_all same args es) (λ vs. Gives (v, w)))
      → on_gives r (λ a. first_two same args (n + 1) (if n == 0 then a else v) (if n == 1 then a else w) es) ≡ front r es (λ vs. (v, w))
  later-step (Gives a) n v w es h rest =
      rw (not_zero n a v h, not_one n a w h) (rest v w ∙ sym (in_front (evaluate_all same args es) a (λ vs. Gives (v, w))))
  later-step (Fails kind) n v w es h rest = refl

  -- from the third part on nothing is kept
  first_two-later : (n : ℕ) (v w : Value N) (es : BuildExprs) → 2 ≤ n
      → first_two same args n v w es ≡ on_gives (evaluate_all same args es) (λ vs. Gives (v, w))
  first_two-later n v w NoParts h = refl
  first_two-later n v w (MoreParts e es) h =
      later-step (evaluate same args e) n v w es h (λ v' w'. first_two-later (n + 1) v' w' es (omega arith))

  second-step : (r : Result (Value N)) (v : Value N) (es : BuildExprs)
      → on_gives r (λ a. first_two same args 2 v a es) ≡ front r es (λ vs. (v, first vs))
  second-step (Gives a) v es =
      first_two-later 2 v a es (omega arith) ∙ sym (in_front (evaluate_all same args es) a (λ vs. Gives (v, first vs)))
  second-step (Fails kind) v es = refl

  first_two-second : (v : Value N) (es : BuildExprs)
      → first_two same args 1 v Void es ≡ on_gives (evaluate_all same args es) (λ vs. Gives (v, first vs))
  first_two-second v NoParts = refl
  first_two-second v (MoreParts e es) = second-step (evaluate same args e) v es

  first-step : (r : Result (Value N)) (es : BuildExprs)
      → on_gives r (λ a. first_two same args 1 a Void es) ≡ front r es (λ vs. (first vs, second vs))
  first-step (Gives a) es =
      first_two-second a es ∙ sym (in_front (evaluate_all same args es) a (λ vs. Gives (first vs, second vs)))
  first-step (Fails kind) es = refl

  first_two-all : (es : BuildExprs)
      → first_two same args 0 Void Void es ≡ on_gives (evaluate_all same args es) (λ vs. Gives (first vs, second vs))
  first_two-all NoParts = refl
  first_two-all (MoreParts e es) = first-step (evaluate same args e) es

  abbrev pub applied : Op → Result (Pair N) → Result (Value N)
  applied op r = on_gives r (λ pair. operate same op pair.0 pair.1)

  joined : (op : Op) (r : Result (List (Value N)))
      → on_gives r (compute same op) ≡ applied op (on_gives r (λ vs. Gives (first vs, second vs)))
  joined op (Gives vs) = refl
  joined op (Fails kind) = refl

  -- an operator's value by its first two parts' values
  pub evaluate-Apply : (op : Op) (es : BuildExprs)
      → evaluate same args (Apply op es) ≡ applied op (first_two same args 0 Void Void es)
  evaluate-Apply op es = joined op (evaluate_all same args es) ∙ ap (applied op) (sym (first_two-all es))

  -- the right part counts, where the left one does not decide
  pub evaluate-Both : (a b : BuildExpr) (v : Value N) → Gives v ≡ evaluate same args a → is_zero v ≡ false
      → evaluate same args (Both a b) ≡ truth_of (evaluate same args b)
  evaluate-Both a b v left holds = rw (← left, holds) refl

  pub evaluate-Either : (a b : BuildExpr) (v : Value N) → Gives v ≡ evaluate same args a → is_zero v ≡ true
      → evaluate same args (Either a b) ≡ truth_of (evaluate same args b)
  evaluate-Either a b v left holds = rw (← left, holds) refl
