-- What the front end leaves is plain.
use Rattle.std.proofs.Common.{◌≡◌, ◌⊎◌, ℕ, ◌<◌, Bool, true, false, List, [], ◌∷◌, length, None, refl, sym, subst, ◌∙◌, ⊎_elim, inl, inr, arith}
use Rattle.std.specs.Prelude.{get_or}
use Rattle.cc_core.specs.Names.{Name}
use Rattle.cc_core.specs.Core.{Program, function, Function, no_function, Shapes, shapes, Term, Push, This, Variable, Member, Index, At, Load}
use Rattle.cc_core.specs.Core.{Unary, Binary, And, Or, New, NewObject, Call, Val, Body, Branch, Starts, Terms, NoTerms, MoreTerms}
use Rattle.cc_core.specs.Core.{MoreCells, Copied, Stmt, Empty, AtLine, Make, Set, Build, Assign, Drop, Print, If, IfElse, While, For}
use Rattle.cc_core.specs.Core.{Break, Continue, Par, ParFor, Spawn, Return, Block, Turn, Forks, Each, Wait, Left, Stmts, NoStmts}
use Rattle.cc_core.specs.Core.{MoreStmts}
use Rattle.cc_core.specs.Source.{IsTerm, AreTerms, IsStmt, AreStmts, IsProgram}
use Rattle.std.specs.FinMap as fin
use Rattle.core_types.specs.Types.{Types, function_types}
use Rattle.core_types.specs.Values.{World}
use Rattle.core_types.specs.Typing.{Scope, scope_of, branch, IsTyped, AreTyped}
use Rattle.core_types.specs.Programs.{HasTypes}
use Rattle.core_types.proofs.Inside.{IsPlain, ArePlain, IsPlainStmt, ArePlainStmts, IsPlainProgram}
use Rattle.core_types.proofs.Basics.{some_not_none}

mutual
  plain : (h : Shapes) (e : Term) → IsTerm h e → IsPlain e
  plain h (Push c) f = tt
  plain h This f = tt
  plain h (Variable k) f = tt
  plain h (Member e o) f = plain h e f
  plain h (Index e n i) f = (plain h e f.0, plain h i f.1)
  plain h (At e i) f = (plain h e f.0, plain h i f.1)
  plain h (Load remote e) f = plain h e f
  plain h (Unary op e) f = plain h e f.0
  plain h (Binary op a b) f = (plain h a f.0, plain h b f.1)
  plain h (And a b) f = (plain h a f.0, plain h b f.1)
  plain h (Or a b) f = (plain h a f.0, plain h b f.1)
  plain h (New kind n) f = tt
  plain h (NewObject remote c es) f = plains h es f.0
  plain h (Call how k es) f = plains h es f.0
  plain h (Val v) f = tt
  plain h (Body k this env ss) f = f
  plain h (Branch this env s) f = f
  plain h (Starts k this vs) f = f

  plains : (h : Shapes) (es : Terms) → AreTerms h es → ArePlain es
  plains h NoTerms f = tt
  plains h (MoreTerms e es) f = (plain h e f.0, plains h es f.1)
  plains h (MoreCells e n es) f = (plain h e f.0, plains h es f.1)
  plains h (Copied vs es) f = absurd f

-- a `return` stands only where it is typed
abbrev Returning : Scope → Bool → Type 0
Returning here r = (here.returns ≡ None) ⊎ (r ≡ true)

module _ (p : Program) (y : Types) (w : World) (q : Name) (h : Shapes) where
  mutual
    plain_stmt : (here : Scope) (r l : Bool) → Returning here r → (s : Stmt) → IsStmt h l s → IsTyped p y w q here s → IsPlainStmt r s
    plain_stmt here r l c Empty f t = tt
    plain_stmt here r l c (AtLine line s) f t = plain_stmt here r l c s f t
    plain_stmt here r l c (Make k kind n) f t = tt
    plain_stmt here r l c (Set k kind e) f t = plain h e f
    plain_stmt here r l c (Build k d es) f t = plains h es f.0
    plain_stmt here r l c (Assign remote a e) f t = (plain h a f.0, plain h e f.1)
    plain_stmt here r l c (Drop e) f t = plain h e f
    plain_stmt here r l c (Print parts es) f t = plains h es f.0
    plain_stmt here r l c (If e s) f t = (plain h e f.0, plain_stmt here r l c s f.1 t.1)
    plain_stmt here r l c (IfElse e s u) f t = (plain h e f.0, plain_stmt here r l c s f.1 t.1, plain_stmt here r l c u f.2 t.2)
    plain_stmt here r l c (While e s) f t = (plain h e f.0, plain_stmt here r true c s f.1 t.1)
    plain_stmt here r l c (For e step s) f t =
        (plain h e f.0, plain_stmt here r false c step f.1 t.1, plain_stmt here r true c s f.2 t.2)
    plain_stmt here r l c Break f t = tt
    plain_stmt here r l c Continue f t = tt
    plain_stmt here r l c (Par ss) f t = plain_stmts (branch here) false false (inl refl) ss f t.1
    plain_stmt here r l c (ParFor k start test line value s) f t =
        (plain h start f.0, plain h test f.1, plain h value f.2, plain_stmt (branch here) false false (inl refl) s f.3 t.5)
    plain_stmt here r l c (Spawn how k es) f t = plains h es f.0
    plain_stmt here r l c (Return e) f t = (
      ⊎_elim (λ (n : here.returns ≡ None). absurd (some_not_none t.0 (sym t.1 ∙ n))) (λ (n : r ≡ true). n) c,
      plain h e f,
    )
    plain_stmt here r l c (Block ss) f t = plain_stmts here r l c ss f t
    plain_stmt here r l c (Turn s u) f t = absurd f
    plain_stmt here r l c (Forks k test line value s made now) f t = absurd f
    plain_stmt here r l c (Each k test line value s made) f t = absurd f
    plain_stmt here r l c (Wait made) f t = tt
    plain_stmt here r l c (Left v) f t = f

    plain_stmts : (here : Scope) (r l : Bool) → Returning here r → (ss : Stmts) → AreStmts h l ss → AreTyped p y w q here ss → ArePlainStmts r ss
    plain_stmts here r l c NoStmts f t = tt
    plain_stmts here r l c (MoreStmts s ss) f t = (plain_stmt here r l c s f.0 t.0, plain_stmts here r l c ss f.1 t.1)

-- a function that is not there has no body
beyond : (fs : List Function) (k : ℕ) → (k < length fs) ⊎ (get_or fs k no_function ≡ no_function)
beyond [] k = inr refl
beyond (f ∷ fs) ℕ.zero = inl (omega arith)
beyond (f ∷ fs) (ℕ.suc k) = ⊎_elim (λ (e : k < length fs). inl (omega (arith, e))) (λ (e : get_or fs k no_function ≡ no_function). inr e) (beyond fs k)

pub plain_program : (p : Program) (y : Types) → HasTypes p y → IsProgram p → IsPlainProgram p
plain_program p y ok source = λ f. ⊎_elim
    (λ (lt : f < length p.functions).
    plain_stmts p y nothing [] (shapes p) (scope_of (function_types y f)) true false (inr refl) (function p f).body (source f lt)
    (ok.bodies f nothing []))
    (λ (e : function p f ≡ no_function). subst (λ (g : Function). ArePlainStmts true g.body) (sym e) tt)
    (beyond p.functions f)
  where
    nothing : World
    nothing = record { objects = fin.empty; threads = fin.empty }
