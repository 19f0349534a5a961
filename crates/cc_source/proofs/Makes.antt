-- How many variables a reading makes.
use Rattle.std.proofs.Common.{◌≡◌, ℕ, ◌+◌, ◌≤◌, List, [], ◌∷◌, ◌++◌, length, refl, arith, length-append}
use Rattle.cc_names.specs.Table.{Name}
use Rattle.cc_scopes.specs.declared.state.State.{State}
use Rattle.cc_scopes.specs.declared.types.Declared.{Declared}
use Rattle.cc_scopes.specs.Elab.{Elab, ◌>>=◌, pure}
use Rattle.cc_scopes.specs.Scope.{Context, number, declare}
use Rattle.cc_source.proofs.Sound.{itself, Reads, no_shapes}
use Rattle.cc_source.proofs.StateLaws.{twice_runs, bring_runs}

-- at least so many
pub record Makes {A : Type 0} (c : ℕ) (p : Elab A) : Type 0 where
  pub more : (s : State) → length s.made + c ≤ length (p s).1.made

pub makes_none : (cx : Context) {A : Type 0} {P : Type 0} {p : Elab A} {Q : State → A → Type 0}
    → ((last : State) → Reads no_shapes last cx P p (Q last))
    → Makes 0 p
makes_none cx {p = p} r = record {
  more = λ s.
      let le : length s.made ≤ length (p s).1.made = ((r (p s).1).run s (itself (p s).1)).0.0 in
      omega (arith, le);
}

pub makes_then : {A B : Type 0} {p : Elab A} {f : A → Elab B} (a b c : ℕ) → c ≡ a + b → Makes a p → ((x : A) → Makes b (f x)) → Makes c (p >>= f)
makes_then {p = p} {f = f} a b c is r q = record {
  more = λ s.
      let first : length s.made + a ≤ length (p s).1.made = r.more s in
      let second : length (p s).1.made + b ≤ length (f (p s).0 (p s).1).1.made = (q (p s).0).more (p s).1 in
      omega (arith, first, second, is);
}

pub makes_pure : {A : Type 0} (a : A) → Makes 0 (pure a)
makes_pure a = record { more = λ s. omega arith }

one_more_made : (ds : List Declared) (d : Declared) → length ds + 1 ≤ length (ds ++ d ∷ [])
one_more_made ds d = let l : length (ds ++ d ∷ []) ≡ length ds + 1 = length-append ds (d ∷ []) in omega (arith, l)

pub makes_one : (cx : Context) (name : Name) (d : Declared) → Makes 1 (declare cx name d)
unfolding declare
makes_one cx name d =
    makes_then 0 1 1 refl (makes_none cx {P = Unit {0}} (λ last. twice_runs no_shapes last cx name)) (λ u.
    makes_then {p = number d} 1 0 1 refl (record { more = λ s. one_more_made s.made d }) (λ k.
    makes_then 0 0 0 refl (makes_none cx {P = ⊥} (λ last. bring_runs no_shapes last cx name k d (λ x. absurd x) (λ x. absurd x))) (λ v. makes_pure k)))
