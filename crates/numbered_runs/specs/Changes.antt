-- Changes of an object and of a processor's objects.
use Rattle.std.specs.Prelude.{ℕ, ◌+◌, Bool, false, List, [], ◌∷◌, ◌++◌, length}
use Rattle.cc_ops.specs.Values.{Cell}
use Rattle.cc_ops.specs.Machine.{Address}
use Rattle.cc_ops.specs.Shelves.{Thing, Shelf, changed}

abbrev pub with_cell : ℕ → Cell Address → Thing → Thing
with_cell x c t = record { cells = changed t.cells x (λ d. c); held = t.held }

abbrev pub with_held : Bool → Thing → Thing
with_held held t = record { cells = t.cells; held = held }

abbrev pub with_thing : ℕ → (Thing → Thing) → Shelf → Shelf
with_thing o f s = record { things = changed s.things o f; slots = s.slots }

abbrev pub with_new : List (Cell Address) → Shelf → Shelf
with_new cells s = record { things = s.things ++ record { cells = cells; held = false } ∷ []; slots = s.slots + length cells }
