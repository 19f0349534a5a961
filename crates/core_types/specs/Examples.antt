-- Programs that are well typed, so that the laws say something of some; and programs that no table of types makes well typed, so that the rules
-- refuse something.
use Rattle.std.specs.Prelude.{ℕ, Bool, true, false, List, [], ◌∷◌, None, pos}
use Rattle.cc_ops.specs.Values.{VoidC, IntC, NullC, Constant}
use Rattle.cc_ops.specs.Classes.{Param, ClassShape}
use Rattle.cc_ops.specs.declared.kind.Kind.{Kind}
use Rattle.cc_ops.specs.declared.kind.Kind.TheVariants.{Int as IntK, SyncInt as SyncIntK, Ptr as PtrK}
use Rattle.cc_ops.specs.declared.operator.Op.TheVariants.{Add, Lt}
use Rattle.cc_core.specs.Core.{Alone, Remote, Term, Push, This, Variable, Member, Load, Binary, New, NewObject, Call, Terms, NoTerms}
use Rattle.cc_core.specs.Core.{MoreTerms, MoreCells, Make, Set, Build, Assign, Drop, Par, ParFor, Return, Stmts, NoStmts, MoreStmts, Function, Program}
use Rattle.cc_core.specs.Core.{no_shape}

-- class Pair { int a; int b; Pair(int x, int y) { a = x; b = y; } };
-- int sum(Pair u) { return u.a + u.b; }
-- global class Cell { int n; sync int s; Cell(int k) { n = k; } atomic void add(int k) { n = n + k; } int get() { return s; }
--     atomic void put(Pair u) { n = sum(u); } };
-- int main(int a) { Cell *global c = new Cell(a); par { c->add(a); c->s = 7; } parfor (int i = 0; i < a; i = i + 1) c->add(i);
--     Pair v(a, 2); c->put(v); return c->get(); }

abbrev read : ℕ → Term
read k = Load false (Variable k)

abbrev one : Term → Terms
one e = MoreTerms e NoTerms

abbrev two : Term → Term → Terms
two a b = MoreTerms a (MoreTerms b NoTerms)

abbrev cell_class : ClassShape
cell_class = record {
  cells = record { kind = IntK; count = 1 } ∷ record { kind = SyncIntK; count = 1 } ∷ [];
  params = 1;
  sets = record { offset = 0; length = 1; index = None; value = Param 0 } ∷ [];
}

abbrev pair_class : ClassShape
pair_class = record {
  cells = record { kind = IntK; count = 1 } ∷ record { kind = IntK; count = 1 } ∷ [];
  params = 2;
  sets = record { offset = 0; length = 1; index = None; value = Param 0 } ∷ record { offset = 1; length = 1; index = None; value = Param 1 } ∷ [];
}

-- a class of one local pointer
abbrev holder_class : ClassShape
holder_class = record { cells = record { kind = PtrK; count = 1 } ∷ []; params = 0; sets = [] }

-- variable k, which is an object of n cells, by value
abbrev copy : (k n : ℕ) → Terms
copy k n = MoreCells (Variable k) n NoTerms

abbrev number : ℕ → Term
number n = Push (IntC (pos n))

abbrev main_body : Stmts
main_body =
    MoreStmts (Set 1 PtrK (NewObject true 0 (one (read 0))))
    (MoreStmts (Par
    (MoreStmts (Drop (Call Remote 1 (two (read 1) (read 0)))) (MoreStmts (Assign true (Member (read 1) 1) (number 7)) NoStmts)))
    (MoreStmts (ParFor 2 (number 0) (Binary Lt (read 2) (read 0)) 1 (Binary Add (read 2) (number 1))
    (Drop (Call Remote 1 (two (read 1) (read 2)))))
    (MoreStmts (Build 3 1 (two (read 0) (number 2)))
    (MoreStmts (Drop (Call Remote 3 (MoreTerms (read 1) (copy 3 2))))
    (MoreStmts (Return (Call Remote 2 (one (read 1)))) NoStmts)))))

abbrev function_of : List (List Kind) → ℕ → Bool → Constant → Stmts → Function
function_of params vars atomic default body =
    record { shape = record no_shape { line = 1; params = params; vars = vars; atomic = atomic }; default = default; body = body }

abbrev main : Function
main = function_of ((IntK ∷ []) ∷ []) 4 false (IntC (pos 0)) main_body

abbrev add : Function
add = function_of ((IntK ∷ []) ∷ []) 1 true VoidC
    (MoreStmts (Assign false (Member This 0) (Binary Add (Load false (Member This 0)) (read 0))) NoStmts)

abbrev get : Function
get = function_of [] 0 false (IntC (pos 0)) (MoreStmts (Return (Load false (Member This 1))) NoStmts)

abbrev put : Function
put = function_of ((IntK ∷ IntK ∷ []) ∷ []) 1 true VoidC (MoreStmts (Assign false (Member This 0) (Call Alone 4 (copy 0 2))) NoStmts)

abbrev sum : Function
sum = function_of ((IntK ∷ IntK ∷ []) ∷ []) 1 false (IntC (pos 0))
    (MoreStmts (Return (Binary Add (Load false (Member (Variable 0) 0)) (Load false (Member (Variable 0) 1)))) NoStmts)

abbrev pub good : Program
good = record { functions = main ∷ add ∷ get ∷ put ∷ sum ∷ []; classes = cell_class ∷ pair_class ∷ []; main = 0 }

abbrev with_class : ClassShape → List Function → Stmts → Program
with_class c more body = record { functions = function_of [] 1 false (IntC (pos 0)) body ∷ more; classes = c ∷ []; main = 0 }

abbrev alone : List Function → Stmts → Program
alone = with_class cell_class

-- int main() { int x = new int; return x; }
abbrev pub pointer_as_int : Program
pointer_as_int = alone [] (MoreStmts (Set 0 IntK (New IntK 1)) (MoreStmts (Return (read 0)) NoStmts))

-- int main() { return new int; }
abbrev pub pointer_given : Program
pointer_given = alone [] (MoreStmts (Return (New IntK 1)) NoStmts)

-- class C { atomic int f() { sync int s; return s; } };
abbrev pub atomic_waits : Program
atomic_waits =
    alone (function_of [] 1 true (IntC (pos 0)) (MoreStmts (Make 0 SyncIntK 1) (MoreStmts (Return (read 0)) NoStmts)) ∷ [])
    (MoreStmts (Return (number 0)) NoStmts)

-- class C { void f(int *p) { *p; } }; with a call of f through a global pointer
abbrev pub local_sent : Program
local_sent =
    alone (function_of ((PtrK ∷ []) ∷ []) 1 false VoidC (MoreStmts (Drop (Load false (read 0))) NoStmts) ∷ [])
    (MoreStmts (Drop (Call Remote 1 (two (Push NullC) (New IntK 1)))) (MoreStmts (Return (number 0)) NoStmts))

-- class C { int *p; }; void f(C c) { *c.p; }
abbrev holder_read : Function
holder_read = function_of ((PtrK ∷ []) ∷ []) 1 false VoidC (MoreStmts (Drop (Load false (Load false (Member (Variable 0) 0)))) NoStmts)

-- int main() { C c; f(c); return 0; }; it is well typed
abbrev pub holder_kept : Program
holder_kept =
    with_class holder_class (holder_read ∷ [])
    (MoreStmts (Build 0 0 NoTerms) (MoreStmts (Drop (Call Alone 1 (copy 0 1))) (MoreStmts (Return (number 0)) NoStmts)))

-- the same with a call of f through a global pointer
abbrev pub holder_sent : Program
holder_sent =
    with_class holder_class (holder_read ∷ [])
    (MoreStmts (Build 0 0 NoTerms) (MoreStmts (Drop (Call Remote 1 (MoreTerms (Push NullC) (copy 0 1)))) (MoreStmts (Return (number 0)) NoStmts)))

-- void f(Cell c) {} with a call of f; Cell has a sync field
abbrev pub sync_copied : Program
sync_copied =
    alone (function_of ((IntK ∷ SyncIntK ∷ []) ∷ []) 1 false VoidC NoStmts ∷ [])
    (MoreStmts (Build 0 0 (one (number 1))) (MoreStmts (Drop (Call Alone 1 (copy 0 2))) (MoreStmts (Return (number 0)) NoStmts)))
