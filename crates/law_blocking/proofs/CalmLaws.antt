-- What is typed where nothing may wait is calm.
use Rattle.std.proofs.Common.{◌≡◌, ℕ, Bool, true, false, ◌||◌, List, refl, sym, subst, ◌∙◌}
use Rattle.std.proofs.lemmas.Bool.{true≢false}
use Rattle.cc_core.specs.Names.{Name}
use Rattle.cc_core.specs.Core.{How, Alone, On, Remote, Term, Push, This, Variable, Member, Index, At, Load, Unary, Binary, And, Or, New, NewObject}
use Rattle.cc_core.specs.Core.{Call, Val}
use Rattle.cc_core.specs.Core.{Body, Branch, Starts, Terms, NoTerms, MoreTerms, MoreCells, Copied, Stmt, Empty, AtLine, Make, Set, Build, Assign}
use Rattle.cc_core.specs.Core.{Drop, Print}
use Rattle.cc_core.specs.Core.{If, IfElse, While, For, Break, Continue, Par, ParFor, Spawn, Return, Block, Turn, Forks, Each, Wait, Left, Stmts}
use Rattle.cc_core.specs.Core.{NoStmts}
use Rattle.cc_core.specs.Core.{MoreStmts, Program, Shapes}
use Rattle.cc_core.specs.Source.{IsTerm, AreTerms, IsStmt, AreStmts}
use Rattle.core_types.specs.Types.{ValueType, AnInt, Pointer, Target, Cells, ObjectOf, Types, function_types, class_types, printed_types, IsCell}
use Rattle.core_types.specs.Types.{Allowed}
use Rattle.core_types.specs.Typing.{Scope, is_atomic, call_waits, HasType, HaveTypes, IsTyped, AreTyped}
use Rattle.core_types.specs.Values.{World}
use Rattle.law_blocking.specs.Calm.{IsPlain, IsCalmCall, IsCalmTerm, IsCalmStmt}
use Rattle.law_blocking.specs.Parts.{EachTerm, EachOfTerms, EachStmt, EachOfStmts}

neither : (a b : Bool) → (a || b) ≡ false → (a ≡ false) × (b ≡ false)
neither true b is = absurd (true≢false is)
neither false b is = (refl, is)

not_waiting : (waits b : Bool) → waits ≡ false → Allowed waits b → b ≡ false
not_waiting waits true calm is = absurd (true≢false (sym is ∙ calm))
not_waiting waits false calm is = refl

module _ (h : Shapes) (p : Program) (y : Types) (w : World) (q : Name) (May : ℕ → Type 0)
    (may : (f : ℕ) → (function_types y f).waits ≡ false → is_atomic p f ≡ false → May f) (here : Scope) (calm : here.waits ≡ false) where
  abbrev P : Term → Type 0
  P = IsCalmTerm p y w q May here

  abbrev Q : Stmt → Type 0
  Q = IsCalmStmt p y w q May here

  called : (how : How) (f : ℕ) → call_waits how (function_types y f).waits (is_atomic p f) ≡ false → IsCalmCall p y w q May here how f
  called Alone f no_wait = let n = neither (function_types y f).waits (is_atomic p f) no_wait in may f n.0 n.1
  called On f no_wait = let n = neither (function_types y f).waits (is_atomic p f) no_wait in may f n.0 n.1
  called Remote f no_wait = true≢false no_wait

  loaded : (remote sync : Bool) (e : Term) (a : Target) (v : ValueType) → HasType p y w q here e (Pointer remote a) → IsCell y a sync v
      → (remote || sync) ≡ false → (remote ≡ false) × IsPlain p y w q May here e
  loaded remote sync e a v typed cell no_wait =
      let n = neither remote sync no_wait in (n.0, (remote, a, v, typed, subst (λ s. IsCell y a s v) n.1 cell))

  mutual
    calm_term : (e : Term) (v : ValueType) → IsTerm h e → HasType p y w q here e v → EachTerm P Q e
    calm_term (Push c) v source typed = tt
    calm_term This v source typed = tt
    calm_term (Variable k) v source typed = tt
    calm_term (Member e o) v source (remote, c, typed, low, is) = (tt, calm_term e (Pointer remote (ObjectOf c)) source typed)
    calm_term (Index e n i) v source (remote, a, b, first, second, element, is) =
        (tt, calm_term e (Pointer remote a) source.0 first, calm_term i AnInt source.1 second)
    calm_term (At e i) v source (remote, sync, u, first, second, is) =
        (tt, calm_term e (Pointer remote (Cells sync u)) source.0 first, calm_term i AnInt source.1 second)
    calm_term (Load remote e) v source (a, sync, typed, cell, passes, allowed) =
        (loaded remote sync e a v typed cell (not_waiting here.waits (remote || sync) calm allowed), calm_term e (Pointer remote a) source typed)
    calm_term (Unary op e) v source (typed, operands, is) = (tt, calm_term e AnInt source.0 typed)
    calm_term (Binary op a b) v source (t, u, first, second, operands, is) = (tt, calm_term a t source.0 first, calm_term b u source.1 second)
    calm_term (And a b) v source (first, second, is) = (tt, calm_term a AnInt source.0 first, calm_term b AnInt source.1 second)
    calm_term (Or a b) v source (first, second, is) = (tt, calm_term a AnInt source.0 first, calm_term b AnInt source.1 second)
    calm_term (New kind n) v source typed = tt
    calm_term (NewObject remote c es) v source (typed, passes, allowed, is) =
        (not_waiting here.waits remote calm allowed, calm_terms es (class_types y c).params source.0 typed)
    calm_term (Call how f es) v source (us, call, typed, allowed, is) = (
      called how f (not_waiting here.waits (call_waits how (function_types y f).waits (is_atomic p f)) calm allowed),
      calm_terms es us source.0 typed,
    )
    calm_term (Val x) v source typed = absurd source
    calm_term (Body f this env ss) v source typed = absurd source
    calm_term (Branch this env s) v source typed = absurd source
    calm_term (Starts f this vs) v source typed = absurd source

    calm_terms : (es : Terms) (us : List ValueType) → AreTerms h es → HaveTypes p y w q here es us → EachOfTerms P Q es
    calm_terms NoTerms us source typed = tt
    calm_terms (MoreTerms e es) us source (u, more, (t, first, serves), rest, is) = (calm_term e t source.0 first, calm_terms es more source.1 rest)
    calm_terms (MoreCells e n es) us source (c, vs, more, first, copied, long, rest, is) =
        (calm_term e (Pointer false (ObjectOf c)) source.0 first, calm_terms es more source.1 rest)
    calm_terms (Copied xs es) us source typed = absurd source

  mutual
    calm_stmt : (loop : Bool) (s : Stmt) → IsStmt h loop s → IsTyped p y w q here s → EachStmt P Q s
    calm_stmt l Empty source typed = tt
    calm_stmt l (AtLine line s) source typed = (tt, calm_stmt l s source typed)
    calm_stmt l (Make k kind n) source typed = tt
    calm_stmt l (Set k kind e) source (u, is, at, (t, typed, serves)) = (tt, calm_term e t source typed)
    calm_stmt l (Build k c es) source (at, typed) = (tt, calm_terms es (class_types y c).params source.0 typed)
    calm_stmt l (Assign remote e e') source (a, sync, u, first, (t, second, serves), cell, passes, allowed) =
        (not_waiting here.waits remote calm allowed, calm_term e (Pointer remote a) source.0 first, calm_term e' t source.1 second)
    calm_stmt l (Drop e) source (u, typed) = (tt, calm_term e u source typed)
    calm_stmt l (Print parts es) source typed = (tt, calm_terms es (printed_types parts) source.0 typed)
    calm_stmt l (If c s) source (first, second) = (tt, calm_term c AnInt source.0 first, calm_stmt l s source.1 second)
    calm_stmt l (IfElse c s t) source (first, second, third) =
        (tt, calm_term c AnInt source.0 first, calm_stmt l s source.1 second, calm_stmt l t source.2 third)
    calm_stmt l (While c s) source (first, second) = (tt, calm_term c AnInt source.0 first, calm_stmt true s source.1 second)
    calm_stmt l (For c step s) source (first, second, third) =
        (tt, calm_term c AnInt source.0 first, calm_stmt false step source.1 second, calm_stmt true s source.2 third)
    calm_stmt l Break source typed = tt
    calm_stmt l Continue source typed = tt
    calm_stmt l (Par ss) source typed = absurd (true≢false (sym typed.0 ∙ calm))
    calm_stmt l (ParFor k start test line value s) source typed = absurd (true≢false (sym typed.0 ∙ calm))
    calm_stmt l (Spawn how f es) source (us, call, typed, waits) = absurd (true≢false (sym waits ∙ calm))
    calm_stmt l (Return e) source (u, returns, (t, typed, serves)) = (tt, calm_term e t source typed)
    calm_stmt l (Block ss) source typed = (tt, calm_stmts l ss source typed)
    calm_stmt l (Turn s t) source typed = absurd source
    calm_stmt l (Forks k test line value s made now) source typed = absurd source
    calm_stmt l (Each k test line value s made) source typed = absurd source
    calm_stmt l (Wait made) source typed = absurd source
    calm_stmt l (Left v) source typed = absurd source

    pub calm_stmts : (loop : Bool) (ss : Stmts) → AreStmts h loop ss → AreTyped p y w q here ss → EachOfStmts P Q ss
    calm_stmts l NoStmts source typed = tt
    calm_stmts l (MoreStmts s ss) source (first, rest) = (calm_stmt l s source.0 first, calm_stmts l ss source.1 rest)
