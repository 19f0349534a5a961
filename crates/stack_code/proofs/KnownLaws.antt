-- What is known of a place tells whether its depth is bad.
use Rattle.std.proofs.Common.{◌≡◌, ℕ, ◌<◌, Bool, true, false, Option, Some, None, refl, sym, ap, ◌∙◌, subst, length, []}
use Rattle.std.specs.Prelude.{slice_get, not, ◌↔◌, IsTrue}
use Rattle.std.proofs.lemmas.Bool.{false≢true}
use Rattle.cc_code.specs.Code.{Code}
use Rattle.cc_code.specs.declared.depth.Depth.{Depth}
use Rattle.cc_code.specs.declared.depth.Depth.TheVariants.{Several}
use Rattle.cc_code.specs.Valid.{suits_at, IsBadDepth}
use Rattle.stack_code.specs.Spread.{Spread, known_at, IsSpread}
use Rattle.stack_code.proofs.SpreadLaws.{known_bad, known_good}

abbrev depth_in : Option Depth → Depth
depth_in None = Several
depth_in (Some d) = d

pub unsuited_some : (code : Code) (s : Spread) (b : ℕ) (d : Depth) (r : Bool) → IsSpread code s (length code.entries) → s.pending ≡ [] → b < length code.places → known_at s b ≡ Some d → r ≡ suits_at code.shapes (slice_get code.places b) d → IsTrue (not r) ↔ IsBadDepth code b
unsuited_some code s b d true spread done lt k is = (
  λ e. absurd (false≢true e),
  λ bad. absurd (known_good code s b spread done lt
      (λ x k'. let same : d ≡ x = ap depth_in (sym k ∙ k') in
      subst (λ (y : Depth). suits_at code.shapes (slice_get code.places b) y ≡ true) same (sym is)) bad),
)
unsuited_some code s b d false spread done lt k is = (λ _. known_bad code s (length code.entries) b d spread k (sym is), λ _. refl)

some_none : (x : Depth) → None ≡ Some x → ⊥
some_none x e = cc

pub unsuited_none : (code : Code) (s : Spread) (b : ℕ) → IsSpread code s (length code.entries) → s.pending ≡ [] → b < length code.places → known_at s b ≡ None → IsTrue false ↔ IsBadDepth code b
unsuited_none code s b spread done lt k =
    (λ e. absurd (false≢true e), λ bad. absurd (known_good code s b spread done lt (λ x k'. absurd (some_none x (sym k ∙ k'))) bad))
