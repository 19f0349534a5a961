-- What holds of the numbers of all variables in a term of the core language.
use Rattle.std.specs.Prelude.{ℕ, List}
use Rattle.cc_core.specs.declared.expression.Expression.{Expression}
use Rattle.cc_core.specs.Core.{Term, Push, This, Variable, Member, Index, At, Load, Unary, Binary, And, Or, New, NewObject, Call, Val, Body, Branch, Starts}
use Rattle.cc_core.specs.Core.{Terms, NoTerms, MoreTerms, MoreCells, Copied}
use Rattle.cc_core.specs.View.{term_of, terms_of}
use Rattle.cc_scopes.specs.declared.typed.Typed.{Typed}
use Rattle.cc_scopes.specs.declared.typed.Typed.TheVariants as typed

module _ (V : ℕ → Type 0) where
  abbrev mutual
    pub EachVariable : Term → Type 0
    EachVariable (Push c) = Unit {0}
    EachVariable This = Unit {0}
    EachVariable (Variable k) = V k
    EachVariable (Member x offset) = EachVariable x
    EachVariable (Index x n i) = EachVariable x × EachVariable i
    EachVariable (At x i) = EachVariable x × EachVariable i
    EachVariable (Load remote x) = EachVariable x
    EachVariable (Unary op x) = EachVariable x
    EachVariable (Binary op x y) = EachVariable x × EachVariable y
    EachVariable (And x y) = EachVariable x × EachVariable y
    EachVariable (Or x y) = EachVariable x × EachVariable y
    EachVariable (New kind n) = Unit {0}
    EachVariable (NewObject remote c xs) = EachVariableOf xs
    EachVariable (Call how f xs) = EachVariableOf xs
    EachVariable (Val v) = ⊥
    EachVariable (Body f this env ss) = ⊥
    EachVariable (Branch this env s) = ⊥
    EachVariable (Starts f this vs) = ⊥

    pub EachVariableOf : Terms → Type 0
    EachVariableOf NoTerms = Unit {0}
    EachVariableOf (MoreTerms x xs) = EachVariable x × EachVariableOf xs
    EachVariableOf (MoreCells x n xs) = ⊥
    EachVariableOf (Copied vs xs) = ⊥

  abbrev pub Names : Expression → Type 0
  Names x = EachVariable (term_of x)

  abbrev pub AllName : List Expression → Type 0
  AllName xs = EachVariableOf (terms_of xs)

  -- of what an expression is
  abbrev pub TypedNames : Typed → Type 0
  TypedNames typed.Broken = Unit {0}
  TypedNames typed.Spoiled = Unit {0}
  TypedNames (typed.Value v) = Names v.term
  TypedNames (typed.This class remote) = Unit {0}
  TypedNames (typed.Constant term value) = Names term
  TypedNames (typed.Place p) = Names p.address
  TypedNames (typed.Array p n) = Names p.address
  TypedNames (typed.Object o) = Names o.address
