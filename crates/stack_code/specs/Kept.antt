-- What holds of code while it is made.
use Rattle.std.specs.Prelude.{◌≡◌, ℕ, ◌^◌, ◌<◌, ◌≤◌, length, get_or, All, List, map, ◌+◌, [], ◌∷◌, Option, Some, None, if◌then◌else◌, codes, bytes_eq}
use Rattle.std.specs.List.{AllByRecursion}
use Rattle.cc_ops.specs.Classes.{ClassShape, arity, size}
use Rattle.cc_ops.specs.declared.shape.FunShape.{FunShape}
use Rattle.cc_ops.specs.declared.shape.ClassShape.{ClassShape as ClassShape'}
use Rattle.cc_ops.specs.Shapes.{shape_of}
use Rattle.cc_code.specs.Code.{Code}
use Rattle.cc_code.specs.Valid.{function_at, IsValid}
use Rattle.stack_code.specs.declared.draft.Draft.{Draft}
use Rattle.stack_code.specs.declared.draft.Place.{Place}
use Rattle.stack_code.specs.declared.draft.Begun.{Begun}
use Rattle.stack_code.specs.View.{code_with, drafted}

abbrev pub begins : Begun → ℕ
begins f = f.entry

-- each parameter has a cell, there are at most eight cells, and the parameters are variables
pub record IsFunShape (f : FunShape) : Type 0 where
  pub cells : All (λ kinds. 0 < length kinds) f.params
  pub few : arity f.params ≤ 8
  pub variables : length f.params ≤ f.vars

-- at most eight values make an object, which has a cell or more, and fewer than 2^32
pub record IsClassShape (c : ClassShape) : Type 0 where
  pub few : c.params ≤ 8
  pub some : 0 < length c.cells
  pub runs : All (λ run. 0 < run.count) c.cells
  pub small : size c.cells < 2 ^ 32

-- each place says in which function it lies, functions begin in order, and numbers of 32 bits name places, and of 16 functions and classes
pub record IsKept (places : List Place) (functions : List Begun) (classes : List ClassShape') : Type 0 where
  pub owned : (b : ℕ) (p : Place) → b < length places → (get_or places b p).function ≡ function_at (code_with places functions classes) b
  pub ordered : (f g : ℕ) → f ≤ g → g < length functions → get_or (map begins functions) f 0 ≤ get_or (map begins functions) g 0
  pub within : (f : ℕ) → f < length functions → get_or (map begins functions) f 0 ≤ length places
  pub few_places : length places < 2 ^ 32
  pub few_functions : length functions ≤ 65536
  pub few_classes : length classes ≤ 65536
  pub functions_fit : AllByRecursion (λ f. IsFunShape f.shape) functions
  pub classes_fit : AllByRecursion (λ c. IsClassShape (shape_of c)) classes

abbrev pub Keeps : Draft → Type 0
Keeps d = IsKept d.places.items d.functions.items d.classes.items

-- the number of the first function with the name main, where these have the numbers from k on
abbrev pub main_from : ℕ → List FunShape → Option ℕ
main_from k [] = None
main_from k (f ∷ fs) = if bytes_eq f.name (codes "main") then Some k else main_from (k + 1) fs

abbrev pub main_of : Code → Option ℕ
main_of code = main_from 0 code.shapes.functions

-- what holds of code that is closed, where main is the number of the function of that name
pub record IsClosed (d : Draft) (main : Option ℕ) : Type 0 where
  pub kept : Keeps d
  pub valid : IsValid (drafted d)
  pub is_main : main ≡ main_of (drafted d)
