-- A local pointer is sent to another processor, and used there.
use Rattle.std.proofs.Common.{◌≡◌, ◌≢◌, ℕ, ◌+◌, List, [], ◌∷◌, Option, Some, None, refl, sym, ap, ◌∙◌}
use Rattle.std.specs.Prelude.{ℤ, pos, slice_get}
use Rattle.std.specs.FinMap as fin
use Rattle.cc_ops.specs.Values.{Int, Ptr, Plain}
use Rattle.global_ptr.specs.declared.ends.FaultKind.TheVariants.{StoreFull, ThreadsFull}
use Rattle.cc_core.specs.Config.{Config, Thread, Live, Object, cells_of, home_of}
use Rattle.cc_core.specs.Core.{Starts}
use Rattle.cc_core.specs.Names.{Name, Map, Value, name_cmp, or_zero, count, added}
use Rattle.cc_core.specs.Needs.{Go, and_also, room, most_slots, most_threads, read}
use Rattle.cc_core.specs.Steps.{Moves, step, start}
use Rattle.cc_core.proofs.Maps.{get_same, get_other, count-added_same, count-added_other}
use Rattle.wrong_programs.specs.Wrong.{Asking, UsesAnothersObject}
use Rattle.wrong_programs.specs.Programs.{local_sent}
use Rattle.wrong_programs.proofs.Begun.{asking, first, first_live, left, stepped, goes}

abbrev ns : List ℤ
ns = pos 0 ∷ []

-- the variable of main, the object of the other processor, the thread that is made there, and its parameter
abbrev variable : Name
variable = 0 ∷ []

abbrev elsewhere : Name
elsewhere = 1 ∷ []

abbrev callee : Name
callee = 0 ∷ []

abbrev parameter : Name
parameter = 0 ∷ 0 ∷ []

not_first : ◌≢◌ {A = Name} variable elsewhere
not_first e = cc

not_second : ◌≢◌ {A = Name} variable parameter
not_second e = cc

not_root : ◌≢◌ {A = Name} elsewhere []
not_root e = cc

root_not_callee : ◌≢◌ {A = Name} callee []
root_not_callee e = cc

-- main makes an object on a new processor

abbrev s0 : Config
s0 = start local_sent ns

abbrev l0 : Thread
l0 = first local_sent ns

abbrev s1 : Config
s1 = stepped local_sent [] s0 l0 []

abbrev l1 : Thread
l1 = left local_sent [] s0 l0 []

makes : step local_sent [] s0 ≡ Moves s1
makes = goes local_sent [] s0 l0 (first_live local_sent ns _ _ _ refl) refl [] refl

live1 : fin.get s1.threads [] ≡ Some (Live l1)
live1 = get_same s0.threads [] (Live l1)

-- it calls a function there, with the address of its variable

abbrev cell : Object
cell = record { home = elsewhere; cells = Plain (Int (pos 0)) ∷ [] }

there : fin.get s1.objects elsewhere ≡ Some cell
there = get_same s0.objects elsewhere cell

abbrev s2 : Config
s2 = stepped local_sent [] s1 l1 []

abbrev no_counts : Map ℕ
no_counts = fin.empty

none_made : (q : Name) → count no_counts q ≡ 0
none_made q = ap or_zero (fin.get-empty name_cmp q)

calls : step local_sent [] s1 ≡ Moves s2
calls = goes local_sent [] s1 l1 live1 refl []
    (ap (λ (x : Option Object). and_also (Go []) (and_also (room (count s1.threads_made (home_of x)) 1 most_threads ThreadsFull) (Go []))) there
    ∙ ap (λ (n : ℕ). and_also (Go []) (and_also (room n 1 most_threads ThreadsFull) (Go [])))
    (count-added_other no_counts [] elsewhere 1 not_root ∙ none_made elsewhere))

-- the thread that is made there enters the function

abbrev l2 : Thread
l2 = record {
  home = home_of (fin.get s1.objects elsewhere);
  term = Starts 1 (Ptr elsewhere 0) (Ptr variable 0 ∷ []);
  asked = None;
  threads = 0;
  objects = 0;
  inside = [];
}

live2 : fin.get s2.threads callee ≡ Some (Live l2)
live2 = get_same (fin.insert s1.threads [] _) callee (Live l2)

abbrev s3 : Config
s3 = stepped local_sent callee s2 l2 []

abbrev l3 : Thread
l3 = left local_sent callee s2 l2 []

enters : step local_sent callee s2 ≡ Moves s3
enters = goes local_sent callee s2 l2 live2 refl []
    (ap (λ (x : Option Object). and_also (Go []) (and_also (Go []) (and_also (Go [])
    (and_also (room (count s2.slots_made (home_of x)) 1 most_slots StoreFull) (Go []))))) there
    ∙ ap (λ (n : ℕ). and_also (Go []) (and_also (Go []) (and_also (Go []) (and_also (room n 1 most_slots StoreFull) (Go [])))))
    (count-added_same (added no_counts [] 1) elsewhere 1
    ∙ ap (λ (n : ℕ). n + 1) (count-added_other no_counts [] elsewhere 1 not_root ∙ none_made elsewhere)))

live3 : fin.get s3.threads callee ≡ Some (Live l3)
live3 = get_same s2.threads callee (Live l3)

-- it reads its parameter, and then reads where that leads to

abbrev sent : Value
sent = Ptr variable 0

abbrev held : Object
held = record { home = l2.home; cells = Plain sent ∷ [] }

abbrev s4 : Config
s4 = stepped local_sent callee s3 l3 (sent ∷ [])

abbrev l4 : Thread
l4 = left local_sent callee s3 l3 (sent ∷ [])

reads : step local_sent callee s3 ≡ Moves s4
reads = goes local_sent callee s3 l3 live3 refl (sent ∷ [])
    (ap (λ (x : Option Object). and_also (read (slice_get (cells_of x) 0)) (Go [])) (get_same s2.objects parameter held))

live4 : fin.get s4.threads callee ≡ Some (Live l4)
live4 = get_same s3.threads callee (Live l4)

abbrev main_variable : Object
main_variable = record { home = []; cells = Plain (Int (pos 0)) ∷ [] }

variable_there : fin.get s4.objects variable ≡ Some main_variable
variable_there =
    get_other s2.objects parameter held variable not_second
    ∙ (get_other s0.objects elsewhere cell variable not_first ∙ get_same fin.empty variable main_variable)

same_object : (a b : Object) → Some a ≡ Some b → a ≡ b
same_object a b e = cc

abbrev read_there : Asking local_sent
read_there =
    asking local_sent ns s4
    (refl, ([] ∷ [] ∷ callee ∷ callee ∷ [], (s1, makes, (s2, calls, (s3, enters, (s4, reads, refl)))))) callee l4 live4 _ _ _ refl

pub local_sent_wrong : UsesAnothersObject local_sent
local_sent_wrong = (
  read_there,
  λ k. not_root (sym (ap (λ (x : Object). x.home) (same_object _ k.0 (sym variable_there ∙ k.1)) ∙ (k.2 ∙ ap home_of there))),
)
