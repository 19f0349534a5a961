-- What a request's step makes: a call and a cast one thread, any other none.
use Rattle.std.proofs.Common.{◌≡◌, ℕ, List, [], ◌∷◌, ◌++◌, true, false, Option, None, refl, sym}
use Rattle.std.proofs.lemmas.Bool.{false≢true}
use Rattle.cc_ops.specs.Machine.{Address, Values}
use Rattle.cc_ops.specs.declared.number.ThreadNo.{ThreadNo}
use Rattle.cc_core.specs.Asks.{Ask}
use Rattle.cc_core.specs.Asks.{Reads, Writes}
use Rattle.cc_core.specs.Asks.{Calls, Casts, NewProcessor}
use Rattle.cc_core.specs.Effects.{branch_count, is_call}
use Rattle.code_names.specs.Same.{Pairwise}
use Rattle.numbered_runs.specs.Steps.{numbers_on}
use Rattle.law_mesh.specs.Spots.{Fiber, Mesh, strangers}
use Rattle.law_mesh.specs.Moves.{is_away, effect_of}
use Rattle.law_mesh.specs.Shows.{IsKid}
use Rattle.law_mesh.proofs.Branches.{Forks}

pub record IsPlain (m : Mesh) (q : ℕ) (f : Fiber) (ask : Ask Address) (found : Values) (more : List (Option ThreadNo)) : Type 0 where
  pub branches : branch_count ask ≡ 0
  pub inside : (effect_of m q f ask found).inside ≡ f.inside
  pub kids : (h n : ℕ) → Pairwise IsKid more (numbers_on h n ((effect_of m q f ask found).starts ++ []))
  pub none : Forks ask → ⊥

module _ (m : Mesh) (q : ℕ) (f : Fiber) (found : Values) where
  pub away_plain : (ask : Ask Address) → is_away ask ≡ true → is_call ask ≡ false → IsPlain m q f ask found (strangers ask)
  away_plain (Reads remote a) away call = record { branches = refl; inside = refl; kids = λ h n. tt; none = λ x. x }
  away_plain (Writes remote a v) away call = record { branches = refl; inside = refl; kids = λ h n. tt; none = λ x. x }
  away_plain (Casts g o vs) away call = record { branches = refl; inside = refl; kids = λ h n. (tt, tt); none = λ x. x }
  away_plain (NewProcessor c vs) away call = record { branches = refl; inside = refl; kids = λ h n. tt; none = λ x. x }
  away_plain (Calls g o vs) away call = absurd (false≢true (sym call))
  away_plain ask away call = absurd (false≢true away)

  pub call_plain : (ask : Ask Address) → is_call ask ≡ true → IsPlain m q f ask found (None ∷ [])
  call_plain (Calls g o vs) call = record { branches = refl; inside = refl; kids = λ h n. (tt, tt); none = λ x. x }
  call_plain ask call = absurd (false≢true call)
