-- How the locks are kept.
use Rattle.std.specs.Prelude.{◌≡◌, ◌≢◌, ℕ, Option, nat_eq}
use Rattle.std.specs.HashMap.{get, HashMap}
use Rattle.std.specs.declared.hash.FoldHasher.{FoldHasher}
use Rattle.std.specs.declared.hash.BuildHasherDefault.{BuildHasherDefault}
use Rattle.atomic_objects.specs.HeldObjects.{Held}

-- the locks of the objects that are held
abbrev pub LockTable : Type 0
LockTable = HashMap ℕ Held (BuildHasherDefault FoldHasher)

-- one object becomes held so, or free, and all others stay
pub record Sets (old new : LockTable) (object : ℕ) (entry : Option Held) : Type 0 where
  pub here : get nat_eq new object ≡ entry
  pub others : (other : ℕ) → other ≢ object → get nat_eq new other ≡ get nat_eq old other
