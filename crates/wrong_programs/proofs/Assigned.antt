-- A variable of an int is assigned null, and then added to.
use Rattle.std.proofs.Common.{◌≡◌, List, [], ◌∷◌, Option, Some, refl, ap, subst, ◌∙◌}
use Rattle.std.specs.Prelude.{ℤ, pos, slice_get}
use Rattle.std.specs.FinMap as fin
use Rattle.cc_ops.specs.Cells.{write_cell}
use Rattle.cc_ops.specs.Values.{Int, Null, Plain}
use Rattle.cc_core.specs.Config.{Config, Thread, Live, Object, cells_of, put_cells}
use Rattle.cc_core.specs.Names.{Name}
use Rattle.cc_core.specs.Needs.{Go, and_also, read, writable}
use Rattle.cc_core.specs.Steps.{Moves, step, start}
use Rattle.cc_core.proofs.Maps.{get_same}
use Rattle.core_types.specs.Kinds.{IsInt}
use Rattle.wrong_programs.specs.Wrong.{Asking, AsksWrongly}
use Rattle.wrong_programs.specs.Programs.{assigned}
use Rattle.wrong_programs.proofs.Begun.{asking, first, first_live, left, stepped, goes}

abbrev ns : List ℤ
ns = pos 0 ∷ []

abbrev variable : Name
variable = 0 ∷ []

abbrev before : Object
before = record { home = []; cells = Plain (Int (pos 0)) ∷ [] }

abbrev after : Object
after = record { home = []; cells = Plain Null ∷ [] }

abbrev s0 : Config
s0 = start assigned ns

abbrev l0 : Thread
l0 = first assigned ns

abbrev s1 : Config
s1 = stepped assigned [] s0 l0 []

abbrev l1 : Thread
l1 = left assigned [] s0 l0 []

there : fin.get s0.objects variable ≡ Some before
there = get_same fin.empty variable before

writes : step assigned [] s0 ≡ Moves s1
writes = goes assigned [] s0 l0 (first_live assigned ns _ _ _ refl) refl []
    (ap (λ (x : Option Object). and_also (writable (slice_get (cells_of x) 0)) (Go [])) there)

live1 : fin.get s1.threads [] ≡ Some (Live l1)
live1 = get_same s0.threads [] (Live l1)

written : fin.get s1.objects variable ≡ Some after
written =
    ap (λ (x : Option Object). fin.get (put_cells s0.objects variable x (write_cell (cells_of x) 0 Null)) variable) there
    ∙ get_same s0.objects variable after

abbrev s2 : Config
s2 = stepped assigned [] s1 l1 (Null ∷ [])

abbrev l2 : Thread
l2 = left assigned [] s1 l1 (Null ∷ [])

reads : step assigned [] s1 ≡ Moves s2
reads = goes assigned [] s1 l1 live1 refl (Null ∷ [])
    (ap (λ (x : Option Object). and_also (read (slice_get (cells_of x) 0)) (Go [])) written)

live2 : fin.get s2.threads [] ≡ Some (Live l2)
live2 = get_same s1.threads [] (Live l2)

abbrev adds : Asking assigned
adds = asking assigned ns s2 (refl, ([] ∷ [] ∷ [], (s1, writes, (s2, reads, refl)))) [] l2 live2 _ _ _ refl

pub assigned_wrong : AsksWrongly assigned
assigned_wrong = (adds, λ k. let e : k.0 ≡ Null = let z = k.2 in cc in subst IsInt e k.3)
