-- The shapes of classes in Rust as the definitions have them.
use Rattle.std.specs.Prelude.{ℕ, ◌+◌, ◌==◌, if◌then◌else◌, Bool, List, [], ◌∷◌, map, Option, Some, None}
use Rattle.global_ptr.specs.declared.values.Value.{Value}
use Rattle.global_ptr.specs.declared.values.Value.TheVariants as machine
use Rattle.cc_ops.specs.declared.build.BuildExpr as rust
use Rattle.cc_ops.specs.declared.build.BuildExpr.{Row_of-BuildExpr, end_of-BuildExpr, more_of-BuildExpr}
use Rattle.cc_ops.specs.declared.build.BuildSet as rust_set
use Rattle.cc_ops.specs.declared.shape.ClassShape as rust_class
use Rattle.cc_ops.specs.Values as values
use Rattle.cc_ops.specs.Values.{Constant, VoidC, IntC, NullC, Result, Gives, on_gives}
use Rattle.cc_ops.specs.Machine.{Address, value_of}
use Rattle.cc_ops.specs.Classes.{BuildExpr, Literal, Param, Apply, Both, Either, BuildExprs, NoParts, MoreParts}
use Rattle.cc_ops.specs.Classes.{BuildSet, ClassShape, evaluate}

-- a constant; a text holds no pointer
abbrev pub constant_of : Value → Constant
constant_of machine.Void = VoidC
constant_of (machine.Int n) = IntC n
constant_of machine.Null = NullC
constant_of (machine.Ptr a) = NullC

-- Rust's lists of parts are rows here, and a boxed part is a row of one
abbrev mutual
  pub expr_of : rust.BuildExpr → BuildExpr
  expr_of (rust.Value v) = Literal (constant_of v)
  expr_of (rust.Param k) = Param k
  expr_of (rust.Op' op shape parts) = Apply op (parts_of parts)
  expr_of (rust.And' shape a shape' b) = Both (part_of a) (part_of b)
  expr_of (rust.Or' shape a shape' b) = Either (part_of a) (part_of b)

  pub part_of : {m : _} → Row_of-BuildExpr m → BuildExpr
  part_of end_of-BuildExpr = Literal VoidC
  part_of (more_of-BuildExpr e rest) = expr_of e

  pub parts_of : {m : _} → Row_of-BuildExpr m → BuildExprs
  parts_of end_of-BuildExpr = NoParts
  parts_of (more_of-BuildExpr e rest) = MoreParts (expr_of e) (parts_of rest)

abbrev pub exprs_of : List rust.BuildExpr → BuildExprs
exprs_of [] = NoParts
exprs_of (e ∷ es) = MoreParts (expr_of e) (exprs_of es)

abbrev pub index_of : Option rust.BuildExpr → Option BuildExpr
index_of None = None
index_of (Some e) = Some (expr_of e)

abbrev pub set_of : rust_set.BuildSet → BuildSet
set_of s = record { offset = s.offset; length = s.length; index = index_of s.index; value = expr_of s.value }

abbrev pub shape_of : rust_class.ClassShape → ClassShape
shape_of c = record { cells = c.cells; params = c.params; sets = map set_of c.sets }

abbrev pub Pair : Type 0 → Type 0
Pair N = values.Value N × values.Value N

abbrev pub both_of : Value × Value → Pair Address
both_of pair = (value_of pair.0, value_of pair.1)

module _ {N : Type 0} (same : N → N → Bool) (args : List (values.Value N)) where
  -- the first two values of an operator's parts, of which those before place `at` are done, and gave v and w
  abbrev pub first_two : (at : ℕ) → (v w : values.Value N) → BuildExprs → Result (Pair N)
  first_two at v w NoParts = Gives (v, w)
  first_two at v w (MoreParts e es) =
      on_gives (evaluate same args e) (λ u. first_two (at + 1) (if at == 0 then u else v) (if at == 1 then u else w) es)
