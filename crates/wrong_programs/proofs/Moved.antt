-- A pointer is moved on from a member to the next one, which holds no int.
use Rattle.std.proofs.Common.{◌≡◌, ℕ, [], ◌∷◌, Option, Some, refl, ap, subst}
use Rattle.std.specs.Prelude.{pos, slice_get}
use Rattle.std.specs.FinMap as fin
use Rattle.cc_ops.specs.Values.{Int, Null, Ptr, Plain}
use Rattle.global_ptr.specs.declared.ends.FaultKind.TheVariants.{StoreFull}
use Rattle.cc_core.specs.Config.{Config, Thread, Live, Object, cells_of}
use Rattle.cc_core.specs.Names.{Map, Value, name_cmp, or_zero}
use Rattle.cc_core.specs.Needs.{Go, and_also, room, most_slots, read}
use Rattle.cc_core.specs.Steps.{Moves, step, start}
use Rattle.cc_core.proofs.Maps.{get_same}
use Rattle.core_types.specs.Kinds.{IsInt}
use Rattle.wrong_programs.specs.Wrong.{Asking, AsksWrongly}
use Rattle.wrong_programs.specs.Programs.{member_address}
use Rattle.wrong_programs.proofs.Begun.{asking, first, first_live, left, stepped, goes}

abbrev s0 : Config
s0 = start member_address []

abbrev l0 : Thread
l0 = first member_address []

abbrev s1 : Config
s1 = stepped member_address [] s0 l0 []

abbrev l1 : Thread
l1 = left member_address [] s0 l0 []

none_made : or_zero (let m : Map ℕ = fin.empty in fin.get m []) ≡ 0
none_made = ap or_zero (fin.get-empty name_cmp [])

builds : step member_address [] s0 ≡ Moves s1
builds = goes member_address [] s0 l0 (first_live member_address [] _ _ _ refl) refl []
    (ap (λ (n : ℕ). and_also (room n 2 most_slots StoreFull) (Go [])) none_made)

live1 : fin.get s1.threads [] ≡ Some (Live l1)
live1 = get_same s0.threads [] (Live l1)

-- behind the first cell

abbrev next_cell : Value
next_cell = Ptr (0 ∷ []) 1

abbrev s2 : Config
s2 = stepped member_address [] s1 l1 (next_cell ∷ [])

abbrev l2 : Thread
l2 = left member_address [] s1 l1 (next_cell ∷ [])

shifts : step member_address [] s1 ≡ Moves s2
shifts = goes member_address [] s1 l1 live1 refl (next_cell ∷ []) refl

live2 : fin.get s2.threads [] ≡ Some (Live l2)
live2 = get_same s1.threads [] (Live l2)

abbrev object : Object
object = record { home = []; cells = Plain (Int (pos 0)) ∷ Plain Null ∷ [] }

abbrev s3 : Config
s3 = stepped member_address [] s2 l2 (Null ∷ [])

abbrev l3 : Thread
l3 = left member_address [] s2 l2 (Null ∷ [])

reads : step member_address [] s2 ≡ Moves s3
reads = goes member_address [] s2 l2 live2 refl (Null ∷ [])
    (ap (λ (x : Option Object). and_also (read (slice_get (cells_of x) 1)) (Go [])) (get_same s0.objects (0 ∷ []) object))

live3 : fin.get s3.threads [] ≡ Some (Live l3)
live3 = get_same s2.threads [] (Live l3)

abbrev adds : Asking member_address
adds = asking member_address [] s3 (refl, ([] ∷ [] ∷ [] ∷ [], (s1, builds, (s2, shifts, (s3, reads, refl))))) [] l3 live3 _ _ _ refl

pub member_address_wrong : AsksWrongly member_address
member_address_wrong = (adds, λ k. let e : k.0 ≡ Null = let z = k.2 in cc in subst IsInt e k.3)
