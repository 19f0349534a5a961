-- The test whether two names are the same tells just that.
use Rattle.std.proofs.Common.{◌≡◌, Bool, true, false, ◌==◌, ◌&&◌, [], ◌∷◌, refl, ap, ◌∙◌}
use Rattle.std.proofs.lemmas.Bool.{eqb-true, eq-eqb}
use Rattle.cc_core.specs.Names.{Name, same_name}

both_are : (a b : Bool) → a && b ≡ true → (a ≡ true) × (b ≡ true)
both_are true b is = (refl, is)
both_are false b is = let f : false ≡ true = is in cc

pub told_same : (a b : Name) → same_name a b ≡ true → a ≡ b
told_same [] [] is = refl
told_same [] (y ∷ b) is = let f : false ≡ true = is in cc
told_same (x ∷ a) [] is = let f : false ≡ true = is in cc
told_same (x ∷ a) (y ∷ b) is =
    let parts = both_are (x == y) (same_name a b) is in
    let first : x ≡ y = eqb-true x y parts.0 in
    let rest : a ≡ b = told_same a b parts.1 in
    cc

pub told_itself : (a : Name) → same_name a a ≡ true
told_itself [] = refl
told_itself (x ∷ a) = ap (λ (b : Bool). b && same_name a a) (eq-eqb x x refl) ∙ told_itself a
