-- Small programs whose runs by rounds are known: so the definitions of turns, rounds and runs say something.
use Rattle.std.specs.Prelude.{ℕ, pos, List, [], ◌∷◌, true, false}
use Rattle.cc_ops.specs.Values.{IntC, Ptr}
use Rattle.cc_ops.specs.declared.kind.Kind.TheVariants as kinds
use Rattle.cc_core.specs.Core.{Function, Program, Stmt, Stmts, NoStmts, MoreStmts, AtLine, Print, Endl, NoTerms, MoreTerms, Return, Push, Par, Set, NewObject}
use Rattle.cc_core.specs.Core.{Drop, Call, Remote, Load, Variable}
use Rattle.cc_core.specs.Numbers.{Make}
use Rattle.cc_core.specs.Numbers as posts
use Rattle.cc_ops.specs.declared.number.ThreadNo.{ThreadNo}
use Rattle.law_mesh.specs.Queues.{Asks}
use Rattle.law_rounds.specs.Turn.{Note, Ran, Served, Made}

abbrev function_of : (line vars : ℕ) → Stmts → Function
function_of line vars body =
    record { shape = record { name = []; line = line; params = []; vars = vars; atomic = false }; default = IntC (pos 0); body = body }

-- `cout << endl;`, and `return n;`
abbrev ends_line : (line : ℕ) → Stmt
ends_line line = AtLine line (Print (Endl ∷ []) NoTerms)

abbrev gives : (line n : ℕ) → Stmts
gives line n = MoreStmts (AtLine line (Return (Push (IntC (pos n))))) NoStmts

abbrev thread : (processor thread : ℕ) → ThreadNo
thread q n = record { processor = q; thread = n }

-- int main() { cout << endl; return 5; }
abbrev pub prints_once : Program
prints_once = record { functions = function_of 1 0 (MoreStmts (ends_line 2) (gives 3 5)) ∷ []; classes = []; main = 0 }

abbrev pub notes_once : List Note
notes_once = Ran (thread 0 0) 2 ∷ []

-- int main() { par { cout << endl; cout << endl; } return 5; }
abbrev pub forks_two : Program
forks_two = record {
  functions = function_of 1 0 (MoreStmts (AtLine 2 (Par (MoreStmts (ends_line 3) (MoreStmts (ends_line 4) NoStmts)))) (gives 5 5)) ∷ [];
  classes = [];
  main = 0;
}

-- The fork is a step; each branch prints; main joins and returns.
abbrev pub notes_two : List Note
notes_two = Ran (thread 0 0) 1 ∷ Ran (thread 0 1) 1 ∷ Ran (thread 0 2) 1 ∷ Ran (thread 0 0) 2 ∷ []

-- global class C { int f() { cout << endl; return 3; } }; int main() { C *global c = new C; c->f(); return 5; }
abbrev pub calls_elsewhere : Program
calls_elsewhere = record {
  functions =
      function_of 1 1 (MoreStmts (AtLine 2 (Set 0 kinds.Ptr (NewObject true 0 NoTerms)))
      (MoreStmts (AtLine 3 (Drop (Call Remote 1 (MoreTerms (Load false (Variable 0)) NoTerms)))) (gives 4 5)))
      ∷ function_of 6 0 (MoreStmts (ends_line 7) (gives 8 3)) ∷ [];
  classes = record { cells = []; params = 0; sets = [] } ∷ [];
  main = 0;
}

-- The request for the processor is served; main keeps the pointer, reads it and calls; the other processor serves the call and runs it; main takes the
-- value and returns.
abbrev pub notes_elsewhere : List Note
notes_elsewhere =
    Made (Asks (thread 0 0) (Make 0 []))
    ∷ Ran (thread 0 0) 2
    ∷ Served 1 (Asks (thread 0 0) (posts.Call 1 (Ptr (record { processor = 1; object = 0 }) 0) []))
    ∷ Ran (thread 1 0) 3 ∷ Ran (thread 0 0) 2 ∷ []
