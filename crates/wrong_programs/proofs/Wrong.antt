-- Each program goes wrong.
use Rattle.std.proofs.Common.{◌≡◌, ℕ, List, [], ◌∷◌, Some, refl, sym, ap, subst, ◌∙◌, ⊎_elim}
use Rattle.cc_ops.specs.Values.{Constant, VoidC, NullC, constant, Void, Null}
use Rattle.cc_core.specs.Config.{Object}
use Rattle.cc_core.specs.Core.{Return, Push}
use Rattle.cc_core.specs.Names.{Name, Value}
use Rattle.cc_core.specs.Steps.{start}
use Rattle.cc_core.proofs.Maps.{get_same}
use Rattle.core_types.specs.Kinds.{IsInt, IsAddress}
use Rattle.wrong_programs.specs.Wrong.{Asking, AsksWrongly, UsesAnothersObject, EndsWithNoInt}
use Rattle.wrong_programs.specs.Programs.{zero, only, program, operand, start_value, argument, argument_count, constant_assigned, this_outside}
use Rattle.wrong_programs.specs.Programs.{pointer_returned, main_of_pointers, nothing_returned, global_as_local}
use Rattle.wrong_programs.proofs.Begun.{asking, at_start, first, first_live, goes}

-- ---- what is asked first

pub operand_wrong : AsksWrongly operand
operand_wrong = (at_start operand [] _ _ _ refl refl, λ k. let e : k.1 ≡ Null = let z = k.2 in cc in subst IsInt e k.4)

pub start_value_wrong : AsksWrongly start_value
start_value_wrong = (at_start start_value [] _ _ _ refl refl, λ k. k)

pub argument_wrong : AsksWrongly argument
argument_wrong = (at_start argument [] _ _ _ refl refl, λ k. k.1.0)

pub argument_count_wrong : AsksWrongly argument_count
argument_count_wrong = (at_start argument_count [] _ _ _ refl refl, λ k. k.1)

pub constant_assigned_wrong : AsksWrongly constant_assigned
constant_assigned_wrong = (at_start constant_assigned [] _ _ _ refl refl, λ k. k)

-- void is neither an int nor an address
no_void : (v w : Value) → ◌≡◌ {A = List Value} (Void ∷ Null ∷ []) (v ∷ w ∷ []) → Void ≡ v
no_void v w e = cc

pub this_outside_wrong : AsksWrongly this_outside
this_outside_wrong = (
  at_start this_outside [] _ _ _ refl refl,
  λ k. ⊎_elim (λ a. subst IsInt (sym (no_void a.0 a.1 a.2)) a.3) (λ b. subst IsAddress (sym (no_void b.0 b.1 b.2)) b.3) k,
)

-- ---- main ends

returned : (c : Constant) → (IsInt (constant c) → ⊥) → EndsWithNoInt (program [] zero [] (only (Return (Push c))))
returned c other =
    let p = program [] zero [] (only (Return (Push c))) in
    let s = start p [] in
    let step = goes p [] s (first p []) (first_live p [] _ _ _ refl) refl [] refl in
    ([], _, constant c, (refl, ([] ∷ [], (_, step, refl))), get_same s.threads [] _, other)

pub pointer_returned_wrong : EndsWithNoInt pointer_returned
pointer_returned_wrong = returned NullC (λ k. k)

pub nothing_returned_wrong : EndsWithNoInt nothing_returned
nothing_returned_wrong = returned VoidC (λ k. k)

-- at its end a function gives its default
pub main_of_pointers_wrong : EndsWithNoInt main_of_pointers
main_of_pointers_wrong =
    let s = start main_of_pointers [] in
    let step = goes main_of_pointers [] s (first main_of_pointers []) (first_live main_of_pointers [] _ _ _ refl) refl [] refl in
    ([], _, Null, (refl, ([] ∷ [], (_, step, refl))), get_same s.threads [] _, λ k. k)

-- ---- another processor's object

same_object : (a b : Object) → Some a ≡ Some b → a ≡ b
same_object a b e = cc

not_root : (k : ℕ) → ◌≡◌ {A = Name} (k ∷ []) [] → ⊥
not_root k e = cc

abbrev read_elsewhere : Asking global_as_local
read_elsewhere =
    let p = global_as_local in
    let s = start p [] in
    let step = goes p [] s (first p []) (first_live p [] _ _ _ refl) refl [] refl in
    asking p [] _ (refl, ([] ∷ [], (_, step, refl))) [] _ (get_same s.threads [] _) _ _ _ refl

pub global_as_local_wrong : UsesAnothersObject global_as_local
global_as_local_wrong = (
  read_elsewhere,
  λ k. not_root 0 (ap (λ (x : Object). x.home) (same_object _ k.0 (sym (get_same (start global_as_local []).objects (0 ∷ []) _) ∙ k.1)) ∙ k.2),
)
