-- Well-typed programs.
use Rattle.std.specs.Prelude.{◌≡◌, ℕ, ◌+◌, ◌<◌, true, false, List, [], ◌∷◌, ◌++◌, map, length, Option, Some, None, slice_get}
use Rattle.cc_ops.specs.Classes.{BuildExpr, Literal, Param, Apply, Both, Either, BuildExprs, NoParts, MoreParts, BuildSet, size}
use Rattle.cc_ops.specs.declared.kind.Kind.{Kind}
use Rattle.cc_ops.specs.declared.shape.CellRun.{CellRun}
use Rattle.cc_core.specs.Names.{Name}
use Rattle.cc_core.specs.Core.{Program, function, shapes, class_shape}
use Rattle.core_types.specs.Types.{ValueType, AnInt, Target, Cells, ObjectOf, MemberOf, PartOf, Holds, Types, function_types, class_types, member, is_sync}
use Rattle.core_types.specs.Types.{IsKind, IsConstant, AreOperands, IsCopied}
use Rattle.core_types.specs.Values.{World}
use Rattle.core_types.specs.Typing.{scope_of, is_atomic, Gives, AreTyped}

-- plain cells of these kinds hold values of these types
abbrev pub AreKinds : List Kind → List ValueType → Type 0
AreKinds [] us = us ≡ []
AreKinds (kind ∷ kinds) us = (u : ValueType) × (more : List ValueType)
    × IsKind kind u × (is_sync kind ≡ false) × AreKinds kinds more × (us ≡ u ∷ more)

module _ (y : Types) where
  -- values of these types make a variable of this target: a plain cell, or an object of a class with a plain cell for each of them
  abbrev pub IsParameter : List ValueType → Target → Type 0
  IsParameter us (Cells sync u) = (sync ≡ false) × (us ≡ u ∷ [])
  IsParameter us (ObjectOf c) = IsCopied y c us
  IsParameter us (MemberOf c o) = ⊥
  IsParameter us (PartOf c sync u) = ⊥

  -- the first variables are the parameters, and each takes a value for each of its cells
  abbrev pub AreParameters : List (List Kind) → List ValueType → (vars : List Target) → Type 0
  AreParameters [] us vars = us ≡ []
  AreParameters (kinds ∷ more) us vars = (a : Target) × (these : List ValueType) × (us' : List ValueType) × (vars' : List Target)
      × AreKinds kinds these × IsParameter these a × AreParameters more us' vars' × (us ≡ these ++ us') × (vars ≡ a ∷ vars')

-- expressions of a constructor, whose parameters have these types
module _ (params : List ValueType) where
  abbrev mutual
    pub IsBuilt : BuildExpr → ValueType → Type 0
    IsBuilt (Literal c) u = IsConstant c u
    IsBuilt (Param k) u = slice_get params k ≡ Some u
    IsBuilt (Apply op es) u = (us : List ValueType) × AreBuilt es us × AreOperands op us × (u ≡ AnInt)
    IsBuilt (Both a b) u = IsBuilt a AnInt × IsBuilt b AnInt × (u ≡ AnInt)
    IsBuilt (Either a b) u = IsBuilt a AnInt × IsBuilt b AnInt × (u ≡ AnInt)

    pub AreBuilt : BuildExprs → List ValueType → Type 0
    AreBuilt NoParts us = us ≡ []
    AreBuilt (MoreParts e es) us = (u : ValueType) × (more : List ValueType) × IsBuilt e u × AreBuilt es more × (us ≡ u ∷ more)

module _ (y : Types) (c : ℕ) where
  -- the cells of a class, from offset `at` on
  abbrev pub AreRuns : (at : ℕ) → List CellRun → Type 0
  AreRuns at [] = Unit {0}
  AreRuns at (run ∷ more) =
      ((j : ℕ) → j < run.count → (u : ValueType) × IsKind run.kind u × (member y c (at + j) ≡ Some (Holds (is_sync run.kind) u)))
      × AreRuns (at + run.count) more

  -- what an assignment of the constructor writes to has this type
  abbrev pub IsSetAt : Option BuildExpr → BuildSet → ValueType → Type 0
  IsSetAt None set u = (sync : _) × (member y c set.offset ≡ Some (Holds sync u))
  IsSetAt (Some e) set u = IsBuilt (class_types y c).params e AnInt
      × (sync : _) × ((j : ℕ) → j < set.length → member y c (set.offset + j) ≡ Some (Holds sync u))

  abbrev pub AreSets : List BuildSet → Type 0
  AreSets [] = Unit {0}
  AreSets (set ∷ more) =
      (u : ValueType) × IsSetAt set.index set u × Gives (IsBuilt (class_types y c).params set.value) u × AreSets more

-- a program is well typed with these tables
pub record HasTypes (p : Program) (y : Types) : Type 0 where
  -- no value of a run stands in a source: so it is typed in every world and on every processor
  pub bodies : (f : ℕ) (w : World) (q : Name) → AreTyped p y w q (scope_of (function_types y f)) (function p f).body
  pub ends : (f : ℕ) → IsConstant (function p f).default (function_types y f).result
  pub parameters : (f : ℕ) → AreParameters y (function p f).shape.params (function_types y f).params (function_types y f).vars
  -- a class has as many cells as its objects
  pub sizes : (c : ℕ) → length (class_types y c).cells ≡ size (class_shape (shapes p) c).cells
  pub runs : (c : ℕ) → AreRuns y c 0 (class_shape (shapes p) c).cells
  pub sets : (c : ℕ) → AreSets y c (class_shape (shapes p) c).sets
  -- an atomic function never waits
  pub atomics : (f : ℕ) → is_atomic p f ≡ true → (function_types y f).waits ≡ false
  -- main is a function of ints, one for each parameter, that gives an int
  pub main_alone : (function_types y p.main).this ≡ None
  pub main_result : (function_types y p.main).result ≡ AnInt
  pub main_params : (function_types y p.main).params ≡ map (λ (kinds : List Kind). AnInt) (function p p.main).shape.params

abbrev pub WellTyped : Program → Type 0
WellTyped p = (y : Types) × HasTypes p y
