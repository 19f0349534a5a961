-- A thread waits inside an atomic function.
use Rattle.std.proofs.Common.{◌≡◌, ◌≢◌, ℕ, ◌+◌, Bool, true, false, [], ◌∷◌, Option, Some, None, refl, sym, ap, subst, ◌∙◌, ⊎_elim, inl}
use Rattle.std.specs.Prelude.{if◌then◌else◌, slice_get}
use Rattle.std.specs.FinMap as fin
use Rattle.cc_ops.specs.Values.{Ptr}
use Rattle.global_ptr.specs.declared.ends.FaultKind.TheVariants.{StoreFull}
use Rattle.cc_core.specs.Config.{Config, Thread, State, Live, Object, cells_of}
use Rattle.cc_core.specs.Core.{shapes}
use Rattle.cc_core.specs.Names.{Name, Map, Value, name_cmp, or_zero, count}
use Rattle.cc_core.specs.Needs.{Go, Hold, and_also, room, most_slots, read, is_inside, any_holds}
use Rattle.cc_core.specs.Steps.{Moves, Waits, step, start}
use Rattle.cc_core.proofs.Maps.{cases_name, get_same, get_other, count-added_same}
use Rattle.one_holder.proofs.Values.{holds_found}
use Rattle.wrong_programs.specs.Wrong.{WaitsInside}
use Rattle.wrong_programs.specs.Programs.{atomic_reads}
use Rattle.wrong_programs.proofs.Begun.{asking, first, first_live, left, stepped, goes, holds}

not_true : (b : Bool) → (b ≡ true → ⊥) → b ≡ false
not_true true f = absurd (f refl)
not_true false f = refl

-- the states of a map of one name
abbrev nothing : Map State
nothing = fin.empty

one_state : (a b : State) (u : Name) (x : State) → fin.get (fin.insert (fin.insert nothing [] a) [] b) u ≡ Some x → x ≡ b
one_state a b u x there = ⊎_elim
    (λ (e : u ≡ []).
    let z : Some x ≡ Some b =
    sym there ∙ (ap (λ (k : Name). fin.get (fin.insert (fin.insert nothing [] a) [] b) k) e ∙ get_same (fin.insert nothing [] a) [] b) in
    cc)
    (λ (e : u ≢ []).
    let z : None ≡ Some x =
    sym (get_other (fin.insert nothing [] a) [] b u e ∙ (get_other nothing [] a u e ∙ fin.get-empty name_cmp u)) ∙ there in
    cc)
    (cases_name u [])

abbrev o : Value
o = Ptr (0 ∷ []) 0

abbrev s0 : Config
s0 = start atomic_reads []

abbrev l0 : Thread
l0 = first atomic_reads []

abbrev s1 : Config
s1 = stepped atomic_reads [] s0 l0 []

abbrev l1 : Thread
l1 = left atomic_reads [] s0 l0 []

abbrev s2 : Config
s2 = stepped atomic_reads [] s1 l1 []

abbrev l2 : Thread
l2 = left atomic_reads [] s1 l1 []

-- no cell was made before the object
none_made : or_zero (let m : Map ℕ = fin.empty in fin.get m []) ≡ 0
none_made = ap or_zero (fin.get-empty name_cmp [])

builds : step atomic_reads [] s0 ≡ Moves s1
builds = goes atomic_reads [] s0 l0 (first_live atomic_reads [] _ _ _ refl) refl []
    (ap (λ (n : ℕ). and_also (room n 1 most_slots StoreFull) (Go [])) none_made)

live1 : fin.get s1.threads [] ≡ Some (Live l1)
live1 = get_same s0.threads [] (Live l1)

unheld : any_holds (shapes atomic_reads) o (fin.values s1.threads) ≡ false
unheld = not_true _ (λ held.
    let h = holds_found (shapes atomic_reads) o s1.threads held in
    let same : Live h.1 ≡ Live l1 = one_state _ (Live l1) h.0 (Live h.1) h.2 in
    let same : h.1 ≡ l1 = cc in
    let e : false ≡ true = subst (λ (l : Thread). is_inside (shapes atomic_reads) o l.inside ≡ true) same h.3 in
    cc)

enters : step atomic_reads [] s1 ≡ Moves s2
enters = goes atomic_reads [] s1 l1 live1 refl []
    (ap (λ (b : Bool). and_also (Go []) (and_also (if b then Hold else Go []) (and_also (Go [])
    (and_also (room (count s1.slots_made []) 0 most_slots StoreFull) (Go []))))) unheld
    ∙ ap (λ (n : ℕ). and_also (Go []) (and_also (Go []) (and_also (Go []) (and_also (room n 0 most_slots StoreFull) (Go [])))))
    (count-added_same fin.empty [] 1 ∙ ap (λ (n : ℕ). n + 1) none_made))

live2 : fin.get s2.threads [] ≡ Some (Live l2)
live2 = get_same s1.threads [] (Live l2)

waits : step atomic_reads [] s2 ≡ Waits
waits = holds atomic_reads [] s2 l2 live2 refl
    (ap (λ (x : Option Object). and_also (read (slice_get (cells_of x) 0)) (Go [])) (get_same s0.objects (0 ∷ []) _))

pub atomic_reads_wrong : WaitsInside atomic_reads
atomic_reads_wrong = (
  asking atomic_reads [] s2 (refl, ([] ∷ [] ∷ [], (s1, builds, (s2, enters, refl)))) [] l2 live2 _ _ _ refl,
  inl refl,
  waits,
)
