-- A copy of an operator's parts, one after the other.
use Rattle.std.proofs.Common.{◌≡◌, ℕ, suc, ◌+◌, ◌<◌, List, [], ◌∷◌, ◌++◌, length, drop, get_or, sym, ap, ◌∙◌, arith}
use Rattle.std.proofs.Math.Seq.{drop-cons}
use Rattle.cc_ops.specs.declared.build.BuildExpr.{BuildExpr}
use Rattle.cc_ops.specs.Classes.{MoreParts}
use Rattle.cc_ops.specs.Shapes.{expr_of, exprs_of}

exprs_push : (xs : List BuildExpr) (c e : BuildExpr) (ys : List BuildExpr) → expr_of c ≡ expr_of e
    → exprs_of ((xs ++ c ∷ []) ++ ys) ≡ exprs_of (xs ++ e ∷ ys)
exprs_push [] c e ys h = ap (λ x. MoreParts x (exprs_of ys)) h
exprs_push (x ∷ xs) c e ys h = ap (MoreParts (expr_of x)) (exprs_push xs c e ys h)

-- one part more
pub copied_more : (es copy new : List BuildExpr) (i : ℕ) (c e : BuildExpr) → i < length es → e ≡ get_or es i e → expr_of c ≡ expr_of e
    → new ≡ copy ++ c ∷ [] → exprs_of (copy ++ drop i es) ≡ exprs_of es → exprs_of (new ++ drop (i + 1) es) ≡ exprs_of es
copied_more es copy new i c e lt is same new_is so_far =
    let next : suc i ≡ i + 1 = omega arith in
    let split : drop i es ≡ e ∷ drop (i + 1) es =
    drop-cons es i e lt ∙ (ap (λ x. x ∷ drop (suc i) es) (sym is) ∙ ap (λ (k : ℕ). e ∷ drop k es) next) in
    ap (λ l. exprs_of (l ++ drop (i + 1) es)) new_is
    ∙ (exprs_push copy c e (drop (i + 1) es) same ∙ (ap (λ l. exprs_of (copy ++ l)) (sym split) ∙ so_far))
