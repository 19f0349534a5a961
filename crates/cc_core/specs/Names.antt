-- Names, and finite maps over them. They do not depend on the order of steps, as numbers would. This project's own.
-- A name is a path with its last number first: the k-th thread that t makes is k ∷ t, and so is the k-th object that t makes, from 0.
-- The first thread, of main, is []. A processor is named by its first object; the root, which is made with none, by [].
use Rattle.std.specs.Prelude.{ℕ, ◌+◌, Bool, true, false, ◌&&◌, ◌==◌, List, [], ◌∷◌, Option, Some, None}
use Rattle.std.specs.Ordering.{nat_cmp}
use Rattle.std.specs.declared.cmp.Ordering.{Ordering}
use Rattle.std.specs.Cmp.Lexicographic.{slice_cmp}
use Rattle.std.specs.FinMap as fin
use Rattle.cc_ops.specs.Values as values

abbrev pub Name : Type 0
Name = List ℕ

abbrev pub same_name : Name → Name → Bool
same_name [] [] = true
same_name [] (b ∷ y) = false
same_name (a ∷ x) [] = false
same_name (a ∷ x) (b ∷ y) = (a == b) && same_name x y

abbrev pub name_cmp : Name → Name → Ordering
name_cmp = slice_cmp nat_cmp

-- a finite map from names
abbrev pub Map : Type 0 → Type 0
Map X = fin.FinMap name_cmp X

abbrev pub Value : Type 0
Value = values.Value Name

abbrev pub Cell : Type 0
Cell = values.Cell Name

-- a map after entries were put into it, one after another
abbrev pub puts : {X : Type 0} → List (Name × X) → Map X → Map X
puts [] m = m
puts (e ∷ es) m = puts es (fin.insert m e.0 e.1)

abbrev pub or_zero : Option ℕ → ℕ
or_zero None = 0
or_zero (Some n) = n

-- the count of a processor q: 0 where there is no entry
abbrev pub count : Map ℕ → Name → ℕ
count m q = or_zero (fin.get m q)

abbrev pub added : Map ℕ → Name → ℕ → Map ℕ
added m q n = fin.insert m q (count m q + n)
