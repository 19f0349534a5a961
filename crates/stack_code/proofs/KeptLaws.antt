-- Code that is made stays in order.
use Rattle.std.proofs.Common.{◌≡◌, ℕ, suc, zero, ◌+◌, ◌-◌, ◌<◌, ◌≤◌, ◌^◌, List, [], ◌∷◌, ◌++◌, length, map, get_or, set, cond, leb, true, refl, sym, ap, ◌∙◌, subst, arith, inl, inr, length-append}
use Rattle.std.specs.Prelude.{count_by, nat_le, slice_get, Some}
use Rattle.std.specs.Option.{option_map}
use Rattle.std.proofs.lemmas.Option.{slice_get-map, slice_get-get_or}
use Rattle.std.specs.List.{AllByRecursion}
use Rattle.std.proofs.lemmas.List.{get_or_append_left, length-map, get_or-map, map-set, get_or_default, get_or_past}
use Rattle.std.proofs.Math.Seq.{get_or-append_seam}
use Rattle.std.proofs.lemmas.List.Sums.{sum_by-cons}
use Rattle.std.proofs.lemmas.Bool.{le-leb, cases_lt}
use Rattle.cc_ops.specs.declared.shape.ClassShape.{ClassShape as ClassShape'}
use Rattle.cc_code.specs.Code.{Placed}
use Rattle.cc_code.specs.Code.{entry}
use Rattle.cc_code.specs.Valid.{function_at, end_of}
use Rattle.stack_code.specs.declared.instr.Instr.{Instr as TextInstr}
use Rattle.stack_code.specs.declared.draft.Place.{Place}
use Rattle.stack_code.specs.declared.draft.Begun.{Begun}
use Rattle.stack_code.specs.View.{code_with, instr_of, aimed, placed_of, placed_at, with_target}
use Rattle.stack_code.specs.Kept.{IsKept, IsFunShape, begins}

all_counted : (es : List ℕ) (n : ℕ) → ((f : ℕ) → f < length es → get_or es f 0 ≤ n) → count_by (λ e. nat_le e n) es ≡ length es
all_counted [] n h = refl
all_counted (e ∷ es) n h =
    let first : leb e n ≡ true = le-leb e n (h 0 (omega arith)) in
    let counted : count_by (λ x. nat_le x n) (e ∷ es) ≡ 1 + count_by (λ x. nat_le x n) es =
    sum_by-cons (λ x. cond (leb x n) 1 0) e es ∙ ap (λ b. cond b 1 0 + count_by (λ x. nat_le x n) es) first in
    let rest = all_counted es n (λ f lt. h (suc f) (omega arith)) in
    omega (arith, counted, rest)

-- behind all entries a place lies in the last function
pub last_function : (ps : List Place) (fs : List Begun) (cs : List ClassShape') (b : ℕ) → IsKept ps fs cs → length ps ≤ b → function_at (code_with ps fs cs) b ≡ length fs - 1
last_function ps fs cs b k behind =
    let all : count_by (λ e. nat_le e b) (map begins fs) ≡ length (map begins fs) =
    all_counted (map begins fs) b (λ f lt. omega (arith, k.within f (omega (arith, lt, length-map fs begins)))) in
    ap (λ n. n - 1) (all ∙ length-map fs begins)

pub push_kept : (ps : List Place) (fs : List Begun) (cs : List ClassShape') (p : Place) → IsKept ps fs cs → p.function ≡ length fs - 1 → length ps + 1 < 2 ^ 32 → IsKept (ps ++ p ∷ []) fs cs
push_kept ps fs cs p k last few =
    record {
      owned = λ b q lt. elim (cases_lt b (length ps)) [
        | inl before ↦ ap (λ (x : Place). x.function) (get_or_append_left ps (p ∷ []) q b before) ∙ k.owned b q before
        | inr behind ↦
            let here : b ≡ length ps = omega (arith, lt, length-append ps (p ∷ [])) in
            ap (λ n. (get_or (ps ++ p ∷ []) n q).function) here
            ∙ (ap (λ (x : Place). x.function) (get_or-append_seam ps p [] q) ∙ (last ∙ sym (last_function ps fs cs b k behind)))
      ];
      ordered = k.ordered;
      within = λ f lt. omega (arith, k.within f lt, length-append ps (p ∷ []));
      few_places = omega (arith, length-append ps (p ∷ []));
      few_functions = k.few_functions;
      few_classes = k.few_classes;
      functions_fit = k.functions_fit;
      classes_fit = k.classes_fit;
    }

pub aim_code : (ps : List Place) (fs : List Begun) (cs : List ClassShape') (at which to : ℕ) (old : Place) (new : TextInstr) → at < length ps → old ≡ get_or ps at old → instr_of new ≡ aimed (instr_of old.instr) which to → code_with (set ps at (record { instr = new; line = old.line; function = old.function })) fs cs ≡ with_target (code_with ps fs cs) at which to
aim_code ps fs cs at which to old new lt stands e =
    let code = code_with ps fs cs in
    let here : placed_at code at ≡ placed_of old = get_or-map placed_of ps at old _ lt ∙ ap placed_of (sym stands) in
    let item : Place = record { instr = new; line = old.line; function = old.function } in
    let same : placed_of item ≡ record (placed_at code at) { instr = aimed (placed_at code at).instr which to } =
    ap (λ i. record { instr = i; line = old.line }) e ∙ ap (λ (q : Placed). record { instr = aimed q.instr which to; line = q.line }) (sym here) in
    ap (λ l. record { places = l; entries = code.entries; shapes = code.shapes })
    (map-set placed_of ps at item ∙ ap (λ q. set (map placed_of ps) at q) same)

-- the shape of each function fits
pub fits_at : (fs : List Begun) (k : ℕ) (b : Begun) → AllByRecursion (λ f. IsFunShape f.shape) fs → k < length fs → b ≡ get_or fs k b → IsFunShape b.shape
fits_at [] k b all lt is = absurd (omega arith)
fits_at (f ∷ fs) zero b all lt is = subst (λ (x : Begun). IsFunShape x.shape) (sym is) all.0
fits_at (f ∷ fs) (suc k) b all lt is = fits_at fs k b all.1 (omega arith) is

-- where a function begins
pub entry_read : (fs : List Begun) (f : ℕ) (b : Begun) → f < length fs → b ≡ get_or fs f b → b.entry ≡ get_or (map begins fs) f 0
entry_read fs f b lt is = ap begins is ∙ sym (get_or-map begins fs f b 0 lt)

-- the instruction that stands at a place
pub place_read : (ps : List Place) (b : ℕ) (p : Place) → b < length ps → p ≡ get_or ps b p → slice_get (map placed_of ps) b ≡ Some (placed_of p)
place_read ps b p lt is =
    slice_get-map placed_of ps b ∙ ap (option_map placed_of) (slice_get-get_or ps b p lt ∙ ap Some (sym is))

-- a function ends behind its beginning, within the code
pub end_ordered : (ps : List Place) (fs : List Begun) (cs : List ClassShape') (f : ℕ) → IsKept ps fs cs → f < length fs → (entry (code_with ps fs cs) f ≤ end_of (code_with ps fs cs) f) × (end_of (code_with ps fs cs) f ≤ length (map placed_of ps))
end_ordered ps fs cs f k lt =
    let size = length-map ps placed_of in
    let count = length-map fs begins in
    elim (cases_lt (suc f) (length fs)) [
      | inl more ↦
          let next = get_or_default (map begins fs) (suc f) (length (map placed_of ps)) 0 (omega (arith, more, count)) in
          let up = k.ordered f (suc f) (omega arith) more in
          let within = k.within (suc f) more in
          (omega (arith, up, next), omega (arith, within, next, size))
      | inr last ↦
          let next = get_or_past (map begins fs) (suc f) (length (map placed_of ps)) (omega (arith, last, count)) in
          let within = k.within f lt in
          (omega (arith, within, next, size), omega (arith, next))
    ]

-- a function ends where the next one begins
pub end_next : (ps : List Place) (fs : List Begun) (cs : List ClassShape') (f : ℕ) (b : Begun) → f + 1 < length fs → b ≡ get_or fs (f + 1) b → b.entry ≡ end_of (code_with ps fs cs) f
end_next ps fs cs f b lt is =
    let next : f + 1 ≡ suc f = omega arith in
    ap begins is
    ∙ (sym (get_or-map begins fs (f + 1) b (length (map placed_of ps)) lt)
    ∙ ap (λ (k : ℕ). get_or (map begins fs) k (length (map placed_of ps))) next)
