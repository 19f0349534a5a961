-- The objects of each processor, in the order made, where an object is named by numbers.
use Rattle.std.specs.Prelude.{ℕ, zero, suc, ◌+◌, Bool, false, List, [], ◌∷◌, ◌++◌, length, slice_get, Option}
use Rattle.std.specs.Option.{option_and_then, option_map_or}
use Rattle.cc_ops.specs.Values.{Value, Cell, Ptr, Void, Int, Null}
use Rattle.cc_ops.specs.Machine.{Address}

-- held: a thread is inside an atomic function of it
pub record Thing : Type 0 where
  pub cells : List (Cell Address)
  pub held : Bool

-- the objects of a processor, and how many cells were made there
pub record Shelf : Type 0 where
  pub things : List Thing
  pub slots : ℕ

-- an item of a list is changed, or nothing where there is no such item
abbrev pub changed : {X : Type 0} → List X → ℕ → (X → X) → List X
changed [] i f = []
changed (x ∷ xs) zero f = f x ∷ xs
changed (x ∷ xs) (suc i) f = x ∷ changed xs i f

abbrev pub thing_in : List Shelf → Address → Option Thing
thing_in shelves a = option_and_then (λ s. slice_get s.things a.object) (slice_get shelves a.processor)

abbrev pub cell_in : List Shelf → Address → ℕ → Option (Cell Address)
cell_in shelves a x = option_and_then (λ t. slice_get t.cells x) (thing_in shelves a)

abbrev pub cells_in : List Shelf → Address → List (Cell Address)
cells_in shelves a = option_map_or (λ t. t.cells) (thing_in shelves a) []

abbrev pub is_held : List Shelf → Value Address → Bool
is_held shelves Void = false
is_held shelves (Int n) = false
is_held shelves Null = false
is_held shelves (Ptr a x) = option_map_or (λ t. t.held) (thing_in shelves a) false

abbrev pub slots_in : List Shelf → ℕ → ℕ
slots_in shelves q = option_map_or (λ s. s.slots) (slice_get shelves q) 0

abbrev pub no_shelf : Shelf
no_shelf = record { things = []; slots = 0 }

abbrev pub change_thing : List Shelf → Address → (Thing → Thing) → List Shelf
change_thing shelves a f = changed shelves a.processor (λ s. record { things = changed s.things a.object f; slots = s.slots })

-- after a write of a cell, a note of who is inside, and a new object
abbrev pub put_cell : List Shelf → Address → ℕ → Cell Address → List Shelf
put_cell shelves a x c = change_thing shelves a (λ t. record { cells = changed t.cells x (λ d. c); held = t.held })

abbrev pub put_held : List Shelf → Address → Bool → List Shelf
put_held shelves a held = change_thing shelves a (λ t. record { cells = t.cells; held = held })

abbrev pub put_thing : List Shelf → ℕ → List (Cell Address) → List Shelf
put_thing shelves q cells = changed shelves q (λ s. record {
  things = s.things ++ record { cells = cells; held = false } ∷ [];
  slots = s.slots + length cells;
})

-- the address of the object that a processor makes next
abbrev pub next_address : List Shelf → ℕ → Value Address
next_address shelves q = Ptr (record { processor = q; object = option_map_or (λ s. length s.things) (slice_get shelves q) 0 }) 0

-- the processor of the object that a pointer leads to; the first one where it leads to none
abbrev pub home_in : Value Address → ℕ
home_in Void = 0
home_in (Int n) = 0
home_in Null = 0
home_in (Ptr a x) = a.processor
