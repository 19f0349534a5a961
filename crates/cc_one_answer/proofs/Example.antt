-- A program that is determinate, so that the law of one answer says something:
--     int main() { sync int s; int x = 1; par { s = x; { int z = s; while (z) break; } } cout << x; return x; }
use Rattle.std.proofs.Common.{◌≡◌, ◌≢◌, ℕ, zero, suc, true, false, [], ◌∷◌, length, None, refl, inl}
use Rattle.std.specs.Prelude.{pos}
use Rattle.cc_ops.specs.Values.{IntC}
use Rattle.cc_ops.specs.declared.kind.Kind.TheVariants.{Int as IntK, SyncInt as SyncIntK}
use Rattle.cc_core.specs.Core.{Term, Push, Variable, Load, NoTerms, MoreTerms, AtLine, Make, Set, Assign, Print, Number, While, Break, Par, Return}
use Rattle.cc_core.specs.Core.{Block, Stmts, NoStmts, MoreStmts, Program, Function, no_shape, function}
use Rattle.cc_core.specs.Effects.{numbers}
use Rattle.cc_core.specs.Types.{AnInt, AnAddress, Cells, FunctionTypes, Types, function_types}
use Rattle.cc_one_answer.specs.Sorts.{Valued, NamedCell}
use Rattle.cc_one_answer.specs.Determinate.{DetStmts, AreParameters, IsDeterminate}

abbrev read : ℕ → Term
read k = Load false (Variable k)

abbrev second : Stmts
second =
    MoreStmts (AtLine 1 (Set 2 IntK (read 0)))
    (MoreStmts (AtLine 1 (While (read 2) (AtLine 1 Break))) NoStmts)

abbrev parts : Stmts
parts =
    MoreStmts (AtLine 1 (Assign false (Variable 0) (read 1)))
    (MoreStmts (AtLine 1 (Block second)) NoStmts)

abbrev body : Stmts
body =
    MoreStmts (AtLine 1 (Make 0 SyncIntK 1))
    (MoreStmts (AtLine 1 (Set 1 IntK (Push (IntC (pos 1)))))
    (MoreStmts (AtLine 1 (Par parts))
    (MoreStmts (AtLine 1 (Print (Number ∷ []) (MoreTerms (read 1) NoTerms)))
    (MoreStmts (AtLine 1 (Return (read 1))) NoStmts))))

abbrev main : Function
main = record { shape = record no_shape { line = 1; vars = 3 }; default = IntC (pos 0); body = body }

abbrev program : Program
program = record { functions = main ∷ []; classes = []; main = 0 }

abbrev main_types : FunctionTypes
main_types = record {
  this = None;
  result = AnInt;
  params = [];
  vars = Cells true AnInt ∷ Cells false AnInt ∷ Cells false AnInt ∷ [];
}

abbrev types : Types
types = record { functions = main_types ∷ []; classes = []; makers = [] }

pub example : IsDeterminate program types
example = record {
  main = (
    (AnInt, refl),
    (
      (AnInt, refl, tt),
      (
        (
          (
            Valued (AnAddress (Cells true AnInt)),
            true,
            AnInt,
            refl,
            inl refl,
            (Cells true AnInt, refl, refl),
            (NamedCell AnInt, false, AnInt, (refl, refl), refl, (Cells false AnInt, refl, refl)),
          ),
          (
            (
              (AnInt, refl, (Valued (AnAddress (Cells true AnInt)), true, AnInt, refl, refl, (Cells true AnInt, refl, refl))),
              ((Valued AnInt, (NamedCell AnInt, false, AnInt, (refl, refl), refl, (Cells false AnInt, refl, refl)), tt), tt),
            ),
            tt,
          ),
        ),
        (
          (AnInt ∷ [], refl, (AnInt, [], refl, (NamedCell AnInt, false, AnInt, (refl, refl), refl, (Cells false AnInt, refl, refl)), refl)),
          ((NamedCell AnInt, false, AnInt, (refl, refl), refl, (Cells false AnInt, refl, refl)), tt),
        ),
      ),
    ),
  );
  functions = others;
  parameters = none;
  not_atomic = plain;
  runs = λ c. tt;
  sets = λ c. tt;
}
  where
    others : (f : ℕ) → f ≢ program.main
        → DetStmts types program.main (function_types types f) false (numbers 0 (length (function program f).shape.params)) (function program f).body
    others zero ne = absurd (ne refl)
    others (suc f) ne = tt

    none : (f : ℕ) → AreParameters (function_types types f).vars 0 (function program f).shape.params (function_types types f).params
    none zero = refl
    none (suc f) = refl

    plain : (f : ℕ) → (function program f).shape.atomic ≡ false
    plain zero = refl
    plain (suc f) = refl
