-- Programs that break one static rule each, as the front end would leave them if it did not refuse them. Above each stands its source, which
-- is one of tests/programs/check.
use Rattle.std.specs.Prelude.{ℕ, Bool, true, false, List, [], ◌∷◌, pos}
use Rattle.cc_ops.specs.Values.{VoidC, IntC, NullC, Constant}
use Rattle.cc_ops.specs.Classes.{ClassShape}
use Rattle.cc_ops.specs.declared.kind.Kind.{Kind}
use Rattle.cc_ops.specs.declared.kind.Kind.TheVariants.{Int as IntK, SyncInt as SyncIntK, Ptr as PtrK}
use Rattle.cc_ops.specs.declared.operator.Op.TheVariants.{Add, Eq}
use Rattle.cc_core.specs.Core.{Alone, On, Remote, Term, Push, This, Variable, Member, At, Load, Binary, NewObject, Call, NoTerms}
use Rattle.cc_core.specs.Core.{MoreTerms, Set, Build, Assign, Return, Stmt, Stmts, NoStmts, MoreStmts, Function, Program, no_shape}

abbrev number : ℕ → Term
number n = Push (IntC (pos n))

abbrev null : Term
null = Push NullC

abbrev read : ℕ → Term
read k = Load false (Variable k)

abbrev pub only : Stmt → Stmts
only s = MoreStmts s NoStmts

-- with one variable
abbrev function_of : List (List Kind) → Bool → Constant → Stmts → Function
function_of params atomic default body =
    record { shape = record no_shape { line = 1; params = params; vars = 1; atomic = atomic }; default = default; body = body }

-- main takes nothing
abbrev pub program : List ClassShape → Constant → List Function → Stmts → Program
program classes default more body = record { functions = function_of [] false default body ∷ more; classes = classes; main = 0 }

abbrev pub zero : Constant
zero = IntC (pos 0)

abbrev one_int : ClassShape
one_int = record { cells = record { kind = IntK; count = 1 } ∷ []; params = 0; sets = [] }

abbrev one_sync : ClassShape
one_sync = record { cells = record { kind = SyncIntK; count = 1 } ∷ []; params = 0; sets = [] }

-- int f(int n) { return n; }
abbrev takes_int : Function
takes_int = function_of ((IntK ∷ []) ∷ []) false zero (only (Return (read 0)))

-- int main() { return 1 + NULL; }
abbrev pub operand : Program
operand = program [] zero [] (only (Return (Binary Add (number 1) null)))

-- int main() { int x = NULL; return x; }
abbrev pub start_value : Program
start_value = program [] zero [] (MoreStmts (Set 0 IntK null) (only (Return (read 0))))

-- int main(int x) { x = NULL; return x + 1; }
abbrev pub assigned : Program
assigned = record {
  functions = function_of ((IntK ∷ []) ∷ []) false zero
      (MoreStmts (Assign false (Variable 0) null) (only (Return (Binary Add (read 0) (number 1))))) ∷ [];
  classes = [];
  main = 0;
}

-- void f() { } int main() { int x = f(); return 0; }
abbrev gives_nothing : Function
gives_nothing = function_of [] false VoidC NoStmts

abbrev pub void_used : Program
void_used = program [] zero (gives_nothing ∷ []) (MoreStmts (Set 0 IntK (Call Alone 1 NoTerms)) (only (Return (number 0))))

-- int main() { return f(NULL); }
abbrev pub argument : Program
argument = program [] zero (takes_int ∷ []) (only (Return (Call Alone 1 (MoreTerms null NoTerms))))

-- int main() { return f(); }
abbrev pub argument_count : Program
argument_count = program [] zero (takes_int ∷ []) (only (Return (Call Alone 1 NoTerms)))

-- const int n = 1; int main() { n = 2; return 0; }
abbrev pub constant_assigned : Program
constant_assigned = program [] zero [] (MoreStmts (Assign false (number 1) (number 2)) (only (Return (number 0))))

-- int main() { return this == NULL; }
abbrev pub this_outside : Program
this_outside = program [] zero [] (only (Return (Binary Eq This null)))

-- int main() { return NULL; }
abbrev pub pointer_returned : Program
pointer_returned = program [] zero [] (only (Return null))

-- int *main() { }
abbrev pub main_of_pointers : Program
main_of_pointers = program [] NullC [] NoStmts

-- int main() { return; }
abbrev pub nothing_returned : Program
nothing_returned = program [] zero [] (only (Return (Push VoidC)))

-- global class C { int n; }; int main() { C *p = new C; return p->n; }, without the variable p
abbrev pub global_as_local : Program
global_as_local = program (one_int ∷ []) zero [] (only (Return (Load false (Member (NewObject true 0 NoTerms) 0))))

-- class C { sync int s; atomic int f() { return s; } }; int main() { C c; return c.f(); }
abbrev sync_read : Function
sync_read = function_of [] true zero (only (Return (Load false (Member This 0))))

abbrev pub atomic_reads : Program
atomic_reads =
    program (one_sync ∷ []) zero (sync_read ∷ [])
    (MoreStmts (Build 0 0 NoTerms) (only (Return (Call On 1 (MoreTerms (Variable 0) NoTerms)))))

-- global class C { int n; int f(int *p) { return *p; } }; int main(int a) { return (new C)->f(&a); }
abbrev pointer_read : Function
pointer_read = function_of ((PtrK ∷ []) ∷ []) false zero (only (Return (Load false (read 0))))

abbrev pub local_sent : Program
local_sent = record {
  functions = function_of ((IntK ∷ []) ∷ []) false zero
      (only (Return (Call Remote 1 (MoreTerms (NewObject true 0 NoTerms) (MoreTerms (Variable 0) NoTerms))))) ∷ pointer_read ∷ [];
  classes = one_int ∷ [];
  main = 0;
}

-- class C { int a[1]; int *p; }; int main() { C c; int *q = &c.a[0]; return q[1] + 1; }, without the variable q
abbrev int_and_pointer : ClassShape
int_and_pointer = record {
  cells = record { kind = IntK; count = 1 } ∷ record { kind = PtrK; count = 1 } ∷ [];
  params = 0;
  sets = [];
}

abbrev pub member_address : Program
member_address =
    program (int_and_pointer ∷ []) zero []
    (MoreStmts (Build 0 0 NoTerms) (only (Return (Binary Add (Load false (At (Member (Variable 0) 0) (number 1))) (number 1)))))
