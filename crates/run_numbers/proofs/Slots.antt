-- No cell was made on a processor that has no number.
use Rattle.std.proofs.Common.{◌≡◌, ◌≢◌, ℕ, List, [], ◌∷◌, length, Some, refl, sym, ap, ◌∙◌, subst}
use Rattle.std.specs.Prelude.{slice_get, ℤ}
use Rattle.std.specs.FinMap as fin
use Rattle.cc_core.specs.Names.{Name, name_cmp, Map, count, added, or_zero}
use Rattle.cc_core.specs.Core.{Program, function}
use Rattle.cc_core.specs.Config.{Config, Object, count_slots}
use Rattle.cc_core.specs.Effects.{parameters}
use Rattle.cc_core.specs.Numbers.{Numbers, listed, listing, list_objects, numbers_step}
use Rattle.cc_core.specs.Steps.{change, ints}
use Rattle.cc_core.proofs.Maps.{count-added_other}
use Rattle.run_numbers.specs.RunNumbers.{IsNumbered, begins, goes_on, IsListed}
use Rattle.run_numbers.proofs.Changes.{IsNumberedStep, Met, Joined, numbered_step}
use Rattle.run_numbers.proofs.Free.{objects_stay}
use Rattle.run_numbers.proofs.Lists.{listed_same, pushed_new}
use Rattle.run_numbers.proofs.Processors.{object_is_housed, processors_stay_numbered}

abbrev HasNoNumber : List Name → Name → Type 0
HasNoNumber processors q = (j : ℕ) → slice_get processors j ≡ Some q → ⊥

-- Where none of the objects that are made is on q, no cell is made there.
not_there : (q : Name) (es : List (Name × Object)) (lists : Map (List Name)) (counts : Map ℕ)
    → ((home : Name) (k : ℕ) (o : Name) → IsListed (list_objects lists es) home k o → home ≢ q) → count (count_slots counts es) q ≡ count counts q
not_there q [] lists counts away = refl
not_there q (e ∷ es) lists counts away =
    let home : Name = e.1.home in
    let k : ℕ = length (listed lists home) in
    let newest : IsListed (listing lists home e.0) home k e.0 =
    ap (λ (us : List Name). slice_get us k) (listed_same lists home e.0) ∙ pushed_new (listed lists home) e.0 in
    let other : home ≢ q = away home k e.0 (objects_stay es (listing lists home e.0) home k e.0 newest) in
    not_there q es (listing lists home e.0) (added counts home (length e.1.cells)) away
    ∙ count-added_other counts home q (length e.1.cells) (λ e. other (sym e))

module _ (p : Program) (ns : List ℤ) where
  -- Each object is on a processor that has a number.
  elsewhere : (s : Config) (n : Numbers) → IsNumbered p ns s n → (q : Name) → HasNoNumber n.processors q → (home : Name) (k : ℕ) (o : Name)
      → IsListed n.objects home k o → home ≢ q
  elsewhere s n h q none home k o listed_there is =
      let housed = object_is_housed p ns s n h home k o listed_there in none housed.0 (housed.1 ∙ ap (λ (u : Name). Some u) is)

  module _ (t : Name) (s r : Config) (n : Numbers) (after : Numbers) (now : IsNumbered p ns r after) (q : Name) (none : HasNoNumber after.processors q)
      (before : count s.slots_made q ≡ 0) where
    stepped : IsNumberedStep p t s r n after → count r.slots_made q ≡ 0
    stepped (Met m) =
        let es : List (Name × Object) = (change p t s m.l m.ask m.k m.found).effect.objects in
        let lists : after.objects ≡ list_objects n.objects es = ap (λ (a : Numbers). a.objects) m.numbers in
        let away = subst (λ (all : Map (List Name)). (home : Name) (k : ℕ) (o : Name) → IsListed all home k o → home ≢ q) lists
        (elsewhere r after now q none) in
        ap (λ (c : Config). count c.slots_made q) m.is ∙ (not_there q es n.objects s.slots_made away ∙ before)
    stepped (Joined m) = ap (λ (c : Config). count c.slots_made q) m.is ∙ before

  pub slots_housed : (s : Config) (n : Numbers) → IsNumbered p ns s n → (q : Name) → HasNoNumber n.processors q → count s.slots_made q ≡ 0
  slots_housed s n begins q none =
      not_there q (parameters [] 0 [] (function p p.main).shape.params (ints ns)) fin.empty fin.empty (elsewhere s n begins q none)
      ∙ ap or_zero (fin.get-empty name_cmp q)
  slots_housed r n' (goes_on t s n h e) q none =
      let before : count s.slots_made q ≡ 0 = slots_housed s n h q (λ j there. none j (processors_stay_numbered p t s r n e j q there)) in
      stepped t s r n (numbers_step p t s n) (goes_on t s n h e) q none before (numbered_step p t s r n e)
