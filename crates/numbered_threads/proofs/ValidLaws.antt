-- In valid code silent instructions come to an end: each circle of them has a jump, and valid code has no jump in a circle.
use Rattle.std.proofs.Common.{◌≡◌, ◌⊎◌, inl, inr, ℕ, suc, ◌<◌, Option, Some, None, refl, ap, subst, arith}
use Rattle.std.specs.Prelude.{slice_get}
use Rattle.cc_code.specs.Code.{Instr, PushI, ThisI, VariableI, FieldI, DropI, JumpI, Placed, Code}
use Rattle.cc_code.specs.Settles.{leads, silent_to, Settles}
use Rattle.cc_code.specs.Stands.{Has}
use Rattle.cc_code.specs.Valid.{IsValid, LeadsSilently, step, steps}
use Rattle.numbered_threads.proofs.WayLaws.{settles_without_circles}

abbrev unwrapped : Option ℕ → ℕ
unwrapped None = 0
unwrapped (Some c) = c

none_some : {A : Type 0} (c : ℕ) → None ≡ Some c → A
none_some c e = cc

module _ (code : Code) where
  -- a jump stands at a place
  abbrev Jumps : ℕ → Type 0
  Jumps b = (line : ℕ) × (to : ℕ) × Has code line b (JumpI to)

  -- a jump is on the way from one place to another
  record Jumped (b c : ℕ) : Type 0 where
    at : ℕ
    jumps : Jumps at
    to_it : (b ≡ at) ⊎ LeadsSilently code b at
    from_it : LeadsSilently code at c

  joined : (a b c : ℕ) → LeadsSilently code a b → LeadsSilently code b c → LeadsSilently code a c
  joined a b c (step e) m = steps e m
  joined a b c (steps {c = d} e l) m = steps e (joined d b c l m)

  next_or_jump : (b c line : ℕ) (i : Instr) → slice_get code.places b ≡ Some (record { instr = i; line = line }) → leads b i ≡ Some c
      → (suc b ≡ c) ⊎ Jumps b
  next_or_jump b c line (PushI k) at e = inl (ap unwrapped e)
  next_or_jump b c line ThisI at e = inl (ap unwrapped e)
  next_or_jump b c line (VariableI k) at e = inl (ap unwrapped e)
  next_or_jump b c line (FieldI o) at e = inl (ap unwrapped e)
  next_or_jump b c line DropI at e = inl (ap unwrapped e)
  next_or_jump b c line (JumpI to) at e = inr (line, to, at)
  next_or_jump b c line i at e = none_some c e

  one_step : (b c : ℕ) (p : Option Placed) → slice_get code.places b ≡ p → silent_to b p ≡ Some c → (suc b ≡ c) ⊎ Jumps b
  one_step b c None at e = none_some c e
  one_step b c (Some i) at e = next_or_jump b c i.line i.instr at e

  jump_at : (b c : ℕ) → Jumps b → LeadsSilently code b c → Jumped b c
  jump_at b c j l = record { at = b; jumps = j; to_it = inl refl; from_it = l }

  jump_later : (b d c : ℕ) → silent_to b (slice_get code.places b) ≡ Some d → Jumped d c → Jumped b c
  jump_later b d c e j = record {
    at = j.at;
    jumps = j.jumps;
    to_it = inr (elim j.to_it [
      | inl same ↦ subst (λ (x : ℕ). LeadsSilently code b x) same (step e)
      | inr l ↦ steps e l
    ]);
    from_it = j.from_it;
  }

  rises_or_jumps : (b c : ℕ) → LeadsSilently code b c → (b < c) ⊎ Jumped b c
  rises_or_jumps b c (step e) = elim (one_step b c (slice_get code.places b) refl e) [
    | inl next ↦ inl (omega (arith, next))
    | inr j ↦ inr (jump_at b c j (step e))
  ]
  rises_or_jumps b c (steps {c = d} e l) = elim (rises_or_jumps d c l) [
    | inr j ↦ inr (jump_later b d c e j)
    | inl rises ↦ elim (one_step b d (slice_get code.places b) refl e) [
      | inl next ↦ inl (omega (arith, next, rises))
      | inr j ↦ inr (jump_at b c j (steps e l))
    ]
  ]

  round : (b : ℕ) → Jumped b b → (at : ℕ) × Jumps at × LeadsSilently code at at
  round b j = (
    j.at,
    j.jumps,
    elim j.to_it [
      | inl same ↦ subst (λ (x : ℕ). LeadsSilently code j.at x) same j.from_it
      | inr l ↦ joined j.at b j.at j.from_it l
    ],
  )

  no_circle : IsValid code → (b : ℕ) → LeadsSilently code b b → ⊥
  no_circle valid b l = elim (rises_or_jumps b b l) [
    | inl rises ↦ absurd (omega (arith, rises))
    | inr j ↦
        let circle = round b j in
        (valid circle.0).0 (inr (inr (circle.1.0, circle.1.1, circle.1.2, circle.2)))
  ]

  pub valid_code_settles : IsValid code → (b : ℕ) → Settles code b
  valid_code_settles valid = settles_without_circles code (no_circle valid)
