-- What a function gives that gives nothing is put into a variable.
use Rattle.std.proofs.Common.{◌≡◌, ℕ, [], ◌∷◌, Some, refl, ap}
use Rattle.std.specs.FinMap as fin
use Rattle.global_ptr.specs.declared.ends.FaultKind.TheVariants.{StoreFull}
use Rattle.cc_core.specs.Config.{Config, Thread, Live}
use Rattle.cc_core.specs.Names.{Map, name_cmp, or_zero}
use Rattle.cc_core.specs.Needs.{Go, and_also, room, most_slots}
use Rattle.cc_core.specs.Steps.{Moves, step, start}
use Rattle.cc_core.proofs.Maps.{get_same}
use Rattle.wrong_programs.specs.Wrong.{Asking, AsksWrongly}
use Rattle.wrong_programs.specs.Programs.{void_used}
use Rattle.wrong_programs.proofs.Begun.{asking, first, first_live, left, stepped, goes}

abbrev s0 : Config
s0 = start void_used []

abbrev l0 : Thread
l0 = first void_used []

abbrev s1 : Config
s1 = stepped void_used [] s0 l0 []

abbrev l1 : Thread
l1 = left void_used [] s0 l0 []

none_made : or_zero (let m : Map ℕ = fin.empty in fin.get m []) ≡ 0
none_made = ap or_zero (fin.get-empty name_cmp [])

enters : step void_used [] s0 ≡ Moves s1
enters = goes void_used [] s0 l0 (first_live void_used [] _ _ _ refl) refl []
    (ap (λ (n : ℕ). and_also (Go []) (and_also (Go []) (and_also (Go []) (and_also (room n 0 most_slots StoreFull) (Go []))))) none_made)

live1 : fin.get s1.threads [] ≡ Some (Live l1)
live1 = get_same s0.threads [] (Live l1)

abbrev s2 : Config
s2 = stepped void_used [] s1 l1 []

abbrev l2 : Thread
l2 = left void_used [] s1 l1 []

leaves : step void_used [] s1 ≡ Moves s2
leaves = goes void_used [] s1 l1 live1 refl [] refl

live2 : fin.get s2.threads [] ≡ Some (Live l2)
live2 = get_same s1.threads [] (Live l2)

abbrev begins : Asking void_used
begins = asking void_used [] s2 (refl, ([] ∷ [] ∷ [], (s1, enters, (s2, leaves, refl)))) [] l2 live2 _ _ _ refl

pub void_used_wrong : AsksWrongly void_used
void_used_wrong = (begins, λ k. k)
