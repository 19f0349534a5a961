-- The shapes of functions and classes, and what a constructor makes of a new object.
use Rattle.std.specs.Prelude.{ℕ, ◌+◌, Bool, true, false, if◌then◌else◌, Option, Some, None, List, []}
use Rattle.std.specs.Prelude.{◌∷◌, ◌++◌, length, replicate, get_or}
use Rattle.cc_ops.specs.Values.{Value, Void, Constant, constant, Cell, fresh, Result, Gives, on_gives}
use Rattle.cc_ops.specs.Values.{is_zero}
use Rattle.cc_ops.specs.Cells.{write_cell}
use Rattle.cc_ops.specs.Addresses.{element}
use Rattle.cc_ops.specs.Operators.{compute, truth, truth_of}
use Rattle.cc_ops.specs.declared.kind.Kind.{Kind}
use Rattle.cc_ops.specs.declared.operator.Op.{Op}
use Rattle.cc_ops.specs.declared.shape.CellRun.{CellRun}

-- an expression of a constructor: constants, the constructor's parameters by number, operators, `&&` and `||`
mutual
  pub data BuildExpr : Type 0 where
    Literal : Constant → BuildExpr
    Param : (k : ℕ) → BuildExpr
    Apply : Op → BuildExprs → BuildExpr
    Both : BuildExpr → BuildExpr → BuildExpr
    Either : BuildExpr → BuildExpr → BuildExpr

  pub data BuildExprs : Type 0 where
    NoParts : BuildExprs
    MoreParts : BuildExpr → BuildExprs → BuildExprs

-- an assignment of a constructor: to the cell at an offset, or to an element of the array of that length that begins there
pub record BuildSet : Type 0 where
  pub offset : ℕ
  pub length : ℕ
  pub index : Option BuildExpr
  pub value : BuildExpr

-- a class: its cells in order, how many values its constructor takes, and the constructor's assignments in order
pub record ClassShape : Type 0 where
  pub cells : List CellRun
  pub params : ℕ
  pub sets : List BuildSet

-- the number of values that a call hands over: one for each cell of a parameter
abbrev pub arity : List (List Kind) → ℕ
arity [] = 0
arity (kinds ∷ more) = length kinds + arity more

abbrev pub all_kinds : List (List Kind) → List Kind
all_kinds [] = []
all_kinds (kinds ∷ more) = kinds ++ all_kinds more

-- the number of a class's cells
abbrev pub size : List CellRun → ℕ
size [] = 0
size (run ∷ more) = run.count + size more

abbrev pub fresh_cells : {N : Type 0} → List CellRun → List (Cell N)
fresh_cells [] = []
fresh_cells (run ∷ more) = replicate run.count (fresh run.kind) ++ fresh_cells more

-- what a constructor does with the values of its parameters
module _ {N : Type 0} (same : N → N → Bool) (args : List (Value N)) where
  abbrev mutual
    pub evaluate : BuildExpr → Result (Value N)
    evaluate (Literal c) = Gives (constant c)
    evaluate (Param k) = Gives (get_or args k Void)
    evaluate (Apply op es) = on_gives (evaluate_all es) (compute same op)
    evaluate (Both a b) = on_gives (evaluate a) (λ v. if is_zero v then Gives (truth false) else truth_of (evaluate b))
    evaluate (Either a b) = on_gives (evaluate a) (λ v. if is_zero v then truth_of (evaluate b) else Gives (truth true))

    pub evaluate_all : BuildExprs → Result (List (Value N))
    evaluate_all NoParts = Gives []
    evaluate_all (MoreParts e es) = on_gives (evaluate e) (λ v. on_gives (evaluate_all es) (λ vs. Gives (v ∷ vs)))

  -- the offset of the cell that is assigned
  abbrev pub place : BuildSet → Option BuildExpr → Result ℕ
  place set None = Gives set.offset
  place set (Some e) = on_gives (evaluate e) (λ v. on_gives (element set.length v) (λ i. Gives (set.offset + i)))

  -- the place comes before the value
  abbrev pub assign : List (Cell N) → BuildSet → Result (List (Cell N))
  assign cells set = on_gives (place set set.index) (λ i. on_gives (evaluate set.value) (λ v. write_cell cells i v))

  -- in order, and the first fault counts
  abbrev pub assign_all : List (Cell N) → List BuildSet → Result (List (Cell N))
  assign_all cells [] = Gives cells
  assign_all cells (set ∷ more) = on_gives (assign cells set) (λ cells'. assign_all cells' more)

-- the cells of a new object of a class, made from its constructor's arguments, or the constructor's fault
abbrev pub construct : {N : Type 0} → (same : N → N → Bool) → ClassShape → List (Value N) → Result (List (Cell N))
construct same c args = assign_all same args (fresh_cells c.cells) c.sets
