-- A thread that is inside a function that may not wait asks only for what never waits.
use Rattle.std.proofs.Common.{◌≡◌, ◌⊎◌, ℕ, Bool, true, false, cond, List, [], ◌∷◌, ◌++◌, Option, Some, None, refl, sym, ap, subst, ◌∙◌, ⊎_elim, inr}
use Rattle.std.specs.Prelude.{◌||◌, ◌&&◌, nat_le, nat_lt, map, length, ◌+◌}
use Rattle.std.specs.FinMap as fin
use Rattle.cc_ops.specs.Values.{Void, Int, Null, Ptr, Plain, Empty as EmptyCell, Full, Result, Gives, Fails}
use Rattle.cc_ops.specs.Classes.{arity}
use Rattle.global_ptr.specs.declared.ends.FaultKind.{FaultKind}
use Rattle.global_ptr.specs.declared.ends.FaultKind.TheVariants.{IndexOut}
use Rattle.cc_ops.specs.declared.shape.FunShape.{FunShape}
use Rattle.cc_core.specs.Names.{Name, Value, Cell}
use Rattle.cc_core.specs.Core.{Env, Program, function, Shapes, shapes, function_shape, Term, Push, This, Variable, Member, Index, At, Load}
use Rattle.cc_core.specs.Core.{Unary, Binary, And, Or, New, NewObject, Call, Val, Body, Branch, Starts, Terms, NoTerms, MoreTerms}
use Rattle.cc_core.specs.Core.{MoreCells, Copied, Stmt, Empty, AtLine, Make, Set, Build, Assign, Drop, Print, If, IfElse, While, For}
use Rattle.cc_core.specs.Core.{Break, Continue, Par, ParFor, Spawn, Return, Block, Turn, Forks, Each, Wait, Left, Stmts, NoStmts}
use Rattle.cc_core.specs.Core.{MoreStmts}
use Rattle.cc_core.specs.Asks.{Ask, Reads, Writes, Copies, Indexes, Shifts, Computes, Tests, Makes, MakesWith, Builds, Enters}
use Rattle.cc_core.specs.Asks.{Leaves, ForksAll, ForksOne, Joins, Spawns, Prints, Calls, Casts, NewProcessor}
use Rattle.cc_core.specs.Next.{Next, Ready, Asks, on_ready, Ending, Falls, Returns, Breaks, Continues, body_ends, branch_ends}
use Rattle.cc_core.specs.Next.{next_term, next_terms, next_stmt, next_stmts, next}
use Rattle.cc_core.specs.Config.{Config, Thread, cell, cells_of}
use Rattle.cc_core.specs.Needs.{Filled, Unfilled, AllCells, all_in, value_in, Object as ObjectNeed, Free, Deeper}
use Rattle.cc_core.specs.Needs.{Slots, Verdict, Go, Hold, Bad, room, read, writable, object_there, any_holds, needs, check, and_also, check_all, of_result}
use Rattle.core_types.specs.Types.{ValueType, Pointer, Target, Types, function_types, Allowed, IsCell}
use Rattle.core_types.specs.Values.{World, Fits}
use Rattle.core_types.specs.Typing.{Scope, scope_of, branch_of, nowhere, is_atomic, HasType, HaveTypes, IsTyped, AreTyped}
use Rattle.core_types.specs.Asks.{IsAsk}
use Rattle.core_types.specs.Programs.{HasTypes}
use Rattle.core_types.specs.Runs.{InStep}
use Rattle.core_types.specs.Atomic.{Entered}
use Rattle.core_types.proofs.Inside.{IsPlain, ArePlain, IsPlainProgram, IsVal, IsInside, AreInside, IsInsideStmt, AreInsideStmts}
use Rattle.core_types.proofs.Next.{NextIs, Here, InFunction, TermFits, TermsFit, ValuesFit, ValueFits, EndFits, StmtFits, StmtsFit, next_typed, terms_typed, stmt_typed, stmts_typed, at_top}
use Rattle.core_types.proofs.Insides as insides
use Rattle.core_types.proofs.Insides.{NextIn, term_inside, terms_inside, stmt_inside, stmts_inside}
use Rattle.core_types.proofs.Found.{cell_there}
use Rattle.core_types.proofs.Made.{shape_is}

false_true : (b : Bool) → b ≡ false → b ≡ true → ⊥
false_true b e f = let z : false ≡ true = sym e ∙ f in cc

allowed_false : (a b : Bool) → a ≡ false → Allowed a b → b ≡ false
allowed_false a true e f = absurd (false_true a e f)
allowed_false a false e f = refl

module _ (p : Program) (y : Types) (ok : HasTypes p y) (plain : IsPlainProgram p) (w : World) (q : Name) where
  -- one of these functions may not wait
  abbrev pub AnyCalm : Entered → Type 0
  AnyCalm [] = ⊥
  AnyCalm (g ∷ gs) = ((function_types y g.0).waits ≡ false) ⊎ AnyCalm gs

  -- what is asked is typed where nothing may wait
  abbrev pub IsCalm : {V A : Type 0} → Next V A → Type 0
  IsCalm (Ready v) = Unit {0}
  IsCalm (Asks line ask k) = (us : List ValueType) × IsAsk p y w q false ask us

  direct : {V A : Type 0} (b : Bool) (PV : V → Type 0) (PA : World → A → Type 0) (n : Next V A) → b ≡ false
      → NextIs p y ok w q b PV PA n → IsCalm n
  direct b PV PA (Ready v) e h = tt
  direct b PV PA (Asks line ask k) e h = (h.0, subst (λ z. IsAsk p y w q z ask h.0) e h.1)

  -- a part of it asks, or the part has a value and it goes on
  part : {V A W B : Type 0} (PV : V → Type 0) (PA : Entered → A → Type 0) (gs : Entered) (n : Next V A) (F : A → B) (go : V → Next W B)
      → IsCalm n → NextIn PV PA gs n → ((v : V) → PV v → IsCalm (on_ready n F go)) → IsCalm (on_ready n F go)
  part PV PA gs (Ready v) F go a i whole = whole v i
  part PV PA gs (Asks line ask k) F go a i whole = a

  -- or it goes on to what is calm
  goes_on : {V A W B : Type 0} (n : Next V A) (F : A → B) (go : V → Next W B) → IsCalm n → ((v : V) → IsCalm (go v)) → IsCalm (on_ready n F go)
  goes_on (Ready v) F go a whole = whole v
  goes_on (Asks line ask k) F go a whole = a

  calm_body : (f : ℕ) (end : Ending) → IsCalm (body_ends p f end)
  calm_body f (Falls env) = ([], refl)
  calm_body f (Returns v) = tt
  calm_body f (Breaks env) = ([], refl)
  calm_body f (Continues env) = ([], refl)

  calm_branch : (end : Ending) → IsCalm (branch_ends end)
  calm_branch (Falls env) = tt
  calm_branch (Returns v) = tt
  calm_branch (Breaks env) = tt
  calm_branch (Continues env) = tt

  -- where fs are the functions around it
  record Around (here : Scope) (this : Value) (env : Env) (fs gs : Entered) : Type 0 where
    place : Here p y ok w q here this env
    calm : AnyCalm fs → here.waits ≡ false
    inner : AnyCalm gs

  at_same : (fs gs : Entered) → AnyCalm gs → gs ≡ fs → AnyCalm fs
  at_same fs gs c s = subst AnyCalm s c

  at_end : (fs gs : Entered) (r : Bool) (end : Ending) → AnyCalm gs → insides.EndsInside p plain fs gs r end → AnyCalm fs
  at_end fs gs r (Falls env) c s = at_same fs gs c s
  at_end fs gs r (Returns v) c s = subst AnyCalm (sym s.2) (inr c)
  at_end fs gs r (Breaks env) c s = at_same fs gs c s
  at_end fs gs r (Continues env) c s = at_same fs gs c s

  -- the whole, where it stands in a function that may not wait

  whole : (here : Scope) (n : ℕ) (this : Value) (env : Env) (fs gs : Entered) → Around here this env fs gs → (e : Term) (u : ValueType)
      → HasType p y w q here e u → AnyCalm fs → IsCalm (next_term p n this env e)
  whole here n this env fs gs c e u f a =
      direct here.waits (ValueFits p y ok w q u) (TermFits p y ok w q here u) (next_term p n this env e) (c.calm a)
      (next_typed p y ok w q here n this env c.place e u f)

  wholes : (here : Scope) (n : ℕ) (this : Value) (env : Env) (fs gs : Entered) → Around here this env fs gs → (es : Terms) (us : List ValueType)
      → HaveTypes p y w q here es us → AnyCalm fs → IsCalm (next_terms p n this env es)
  wholes here n this env fs gs c es us f a =
      direct here.waits (ValuesFit p y ok w q us) (TermsFit p y ok w q here us) (next_terms p n this env es) (c.calm a)
      (terms_typed p y ok w q here n this env c.place es us f)

  whole_stmt : (here : Scope) (n : ℕ) (this : Value) (env : Env) (fs gs : Entered) → Around here this env fs gs → InFunction p y ok w q here this
      → (s : Stmt) → IsTyped p y w q here s → AnyCalm fs → IsCalm (next_stmt p n this env s)
  whole_stmt here n this env fs gs c i s f a =
      direct here.waits (EndFits p y ok w q here) (StmtFits p y ok w q here) (next_stmt p n this env s) (c.calm a)
      (stmt_typed p y ok w q here n this env c.place i s f)

  whole_stmts : (here : Scope) (n : ℕ) (this : Value) (env : Env) (fs gs : Entered) → Around here this env fs gs → InFunction p y ok w q here this
      → (ss : Stmts) → AreTyped p y w q here ss → AnyCalm fs → IsCalm (next_stmts p n this env ss)
  whole_stmts here n this env fs gs c i ss f a =
      direct here.waits (EndFits p y ok w q here) (StmtsFit p y ok w q here) (next_stmts p n this env ss) (c.calm a)
      (stmts_typed p y ok w q here n this env c.place i ss f)

  abbrev Same : (fs gs : Entered) → {V : Type 0} → V → Type 0
  Same fs gs = insides.Same p plain fs gs

  abbrev TermInside : (fs gs : Entered) → Entered → Term → Type 0
  TermInside = insides.TermInside p plain

  abbrev TermsInside : (fs gs : Entered) → Entered → Terms → Type 0
  TermsInside = insides.TermsInside p plain

  mutual
    calm_term : (here : Scope) (n : ℕ) (this : Value) (env : Env) (fs gs : Entered) → Around here this env fs gs → (e : Term) (u : ValueType)
        → HasType p y w q here e u → IsInside e fs gs → IsCalm (next_term p n this env e)
    calm_term here n this env fs gs c (Push k) u f i = tt
    calm_term here n this env fs gs c This u f i = tt
    calm_term here n this env fs gs c (Variable k) u f i = tt
    calm_term here n this env fs gs c (Member e o) u f i =
        part (Same fs gs) (TermInside fs gs) gs (next_term p n this env e) (λ z. Member z o) _ (calm_term here n this env fs gs c e _ f.2 i)
        (term_inside p plain n this env fs gs e i)
        (λ v s. whole here n this env fs gs c (Member e o) u f (at_same fs gs c.inner s))
    calm_term here n this env fs gs c (Index e size j) u f i = ⊎_elim
        (λ (a : IsInside e fs gs × IsPlain j).
        part (Same fs gs) (TermInside fs gs) gs (next_term p n this env e) (λ z. Index z size j) _ (calm_term here n this env fs gs c e _ f.3 a.0)
        (term_inside p plain n this env fs gs e a.0)
        (λ v s. whole here n this env fs gs c (Index e size j) u f (at_same fs gs c.inner s)))
        (λ (b : IsVal e × IsInside j fs gs).
        subst (λ z. HasType p y w q here (Index z size j) u → IsCalm (next_term p n this env (Index z size j))) (sym b.0.1)
        (λ f'. part (Same fs gs) (TermInside fs gs) gs (next_term p n this env j) (Index (Val b.0.0) size) _ (calm_term here n this env fs gs c j _ f.4 b.1)
        (term_inside p plain n this env fs gs j b.1)
        (λ v s. whole here n this env fs gs c (Index (Val b.0.0) size j) u f' (at_same fs gs c.inner s))) f)
        i
    calm_term here n this env fs gs c (At e j) u f i = ⊎_elim
        (λ (a : IsInside e fs gs × IsPlain j).
        part (Same fs gs) (TermInside fs gs) gs (next_term p n this env e) (λ z. At z j) _ (calm_term here n this env fs gs c e _ f.3 a.0)
        (term_inside p plain n this env fs gs e a.0)
        (λ v s. whole here n this env fs gs c (At e j) u f (at_same fs gs c.inner s)))
        (λ (b : IsVal e × IsInside j fs gs).
        subst (λ z. HasType p y w q here (At z j) u → IsCalm (next_term p n this env (At z j))) (sym b.0.1)
        (λ f'. part (Same fs gs) (TermInside fs gs) gs (next_term p n this env j) (At (Val b.0.0)) _ (calm_term here n this env fs gs c j _ f.4 b.1)
        (term_inside p plain n this env fs gs j b.1)
        (λ v s. whole here n this env fs gs c (At (Val b.0.0) j) u f' (at_same fs gs c.inner s))) f)
        i
    calm_term here n this env fs gs c (Load remote e) u f i =
        part (Same fs gs) (TermInside fs gs) gs (next_term p n this env e) (Load remote) _ (calm_term here n this env fs gs c e _ f.2 i)
        (term_inside p plain n this env fs gs e i)
        (λ v s. whole here n this env fs gs c (Load remote e) u f (at_same fs gs c.inner s))
    calm_term here n this env fs gs c (Unary op e) u f i =
        part (Same fs gs) (TermInside fs gs) gs (next_term p n this env e) (Unary op) _ (calm_term here n this env fs gs c e _ f.0 i)
        (term_inside p plain n this env fs gs e i)
        (λ v s. whole here n this env fs gs c (Unary op e) u f (at_same fs gs c.inner s))
    calm_term here n this env fs gs c (Binary op e j) u f i = ⊎_elim
        (λ (a : IsInside e fs gs × IsPlain j).
        part (Same fs gs) (TermInside fs gs) gs (next_term p n this env e) (λ z. Binary op z j) _ (calm_term here n this env fs gs c e _ f.2 a.0)
        (term_inside p plain n this env fs gs e a.0)
        (λ v s. whole here n this env fs gs c (Binary op e j) u f (at_same fs gs c.inner s)))
        (λ (b : IsVal e × IsInside j fs gs).
        subst (λ z. HasType p y w q here (Binary op z j) u → IsCalm (next_term p n this env (Binary op z j))) (sym b.0.1)
        (λ f'. part (Same fs gs) (TermInside fs gs) gs (next_term p n this env j) (Binary op (Val b.0.0)) _ (calm_term here n this env fs gs c j _ f.3 b.1)
        (term_inside p plain n this env fs gs j b.1)
        (λ v s. whole here n this env fs gs c (Binary op (Val b.0.0) j) u f' (at_same fs gs c.inner s))) f)
        i
    calm_term here n this env fs gs c (And a b) u f i =
        part (Same fs gs) (TermInside fs gs) gs (next_term p n this env a) (λ z. And z b) _ (calm_term here n this env fs gs c a _ f.0 i.0)
        (term_inside p plain n this env fs gs a i.0)
        (λ v s. whole here n this env fs gs c (And a b) u f (at_same fs gs c.inner s))
    calm_term here n this env fs gs c (Or a b) u f i =
        part (Same fs gs) (TermInside fs gs) gs (next_term p n this env a) (λ z. Or z b) _ (calm_term here n this env fs gs c a _ f.0 i.0)
        (term_inside p plain n this env fs gs a i.0)
        (λ v s. whole here n this env fs gs c (Or a b) u f (at_same fs gs c.inner s))
    calm_term here n this env fs gs c (New kind size) u f i = whole here n this env fs gs c (New kind size) u f (at_same fs gs c.inner i)
    calm_term here n this env fs gs c (NewObject remote k es) u f i =
        part (Same fs gs) (TermsInside fs gs) gs (next_terms p n this env es) (NewObject remote k) _ (calm_terms here n this env fs gs c es _ f.0 i)
        (terms_inside p plain n this env fs gs es i)
        (λ v s. whole here n this env fs gs c (NewObject remote k es) u f (at_same fs gs c.inner s))
    calm_term here n this env fs gs c (Call how k es) u f i =
        part (Same fs gs) (TermsInside fs gs) gs (next_terms p n this env es) (Call how k) _ (calm_terms here n this env fs gs c es _ f.2 i)
        (terms_inside p plain n this env fs gs es i)
        (λ v s. whole here n this env fs gs c (Call how k es) u f (at_same fs gs c.inner s))
    calm_term here n this env fs gs c (Val x) u f i = tt
    calm_term here n this env fs gs c (Body k this' env' ss) u f i =
        goes_on (next_stmts p (function p k).shape.line this' env' ss) (λ l. Body k this' l.0 l.1) (body_ends p k)
        (calm_stmts true (scope_of (function_types y k)) (function p k).shape.line this' env' ((k, this') ∷ fs) gs (record {
          place = record { object = f.0; vars = f.1 };
          calm = λ a. ⊎_elim
              (λ (e : (function_types y k).waits ≡ false). e)
              (λ (b : AnyCalm fs). allowed_false here.waits (function_types y k).waits (c.calm b) f.3)
              a;
          inner = c.inner;
        }) (record { f = k; is = refl }) (λ t. ((k, this'), fs, refl)) ss f.2 i)
        (calm_body k)
    calm_term here n this env fs gs c (Branch this' env' s) u f i =
        goes_on (next_stmt p 0 this' env' s) (λ l. Branch this' l.0 l.1) branch_ends
        (calm_stmt false (branch_of (function_types y f.0)) 0 this' env' fs gs (record {
          place = record { object = f.1; vars = f.2 };
          calm = λ a. absurd (false_true here.waits (c.calm a) f.4);
          inner = c.inner;
        }) (record { f = f.0; is = refl }) (λ e. let z : false ≡ true = e in cc) s f.3 i)
        calm_branch
    calm_term here n this env fs gs c (Starts k this' vs) u f i = whole here n this env fs gs c (Starts k this' vs) u f (at_same fs gs c.inner i)

    calm_terms : (here : Scope) (n : ℕ) (this : Value) (env : Env) (fs gs : Entered) → Around here this env fs gs → (es : Terms)
        (us : List ValueType) → HaveTypes p y w q here es us → AreInside es fs gs → IsCalm (next_terms p n this env es)
    calm_terms here n this env fs gs c NoTerms us f i = tt
    calm_terms here n this env fs gs c (MoreTerms e es) us f i = ⊎_elim
        (λ (a : IsInside e fs gs × ArePlain es).
        part (Same fs gs) (TermInside fs gs) gs (next_term p n this env e) (λ z. MoreTerms z es) _ (calm_term here n this env fs gs c e _ f.2.1 a.0)
        (term_inside p plain n this env fs gs e a.0)
        (λ v s. wholes here n this env fs gs c (MoreTerms e es) us f (at_same fs gs c.inner s)))
        (λ (b : IsVal e × AreInside es fs gs).
        subst (λ z. HaveTypes p y w q here (MoreTerms z es) us → IsCalm (next_terms p n this env (MoreTerms z es))) (sym b.0.1)
        (λ f'. part (Same fs gs) (TermsInside fs gs) gs (next_terms p n this env es) (MoreTerms (Val b.0.0)) _
        (calm_terms here n this env fs gs c es _ f.3 b.1) (terms_inside p plain n this env fs gs es b.1)
        (λ v s. wholes here n this env fs gs c (MoreTerms (Val b.0.0) es) us f' (at_same fs gs c.inner s))) f)
        i
    calm_terms here n this env fs gs c (MoreCells e size es) us f i =
        part (Same fs gs) (TermInside fs gs) gs (next_term p n this env e) (λ z. MoreCells z size es) _ (calm_term here n this env fs gs c e _ f.3 i.0)
        (term_inside p plain n this env fs gs e i.0)
        (λ v s. wholes here n this env fs gs c (MoreCells e size es) us f (at_same fs gs c.inner s))
    calm_terms here n this env fs gs c (Copied vs es) us f i =
        part (Same fs gs) (TermsInside fs gs) gs (next_terms p n this env es) (Copied vs) _ (calm_terms here n this env fs gs c es _ f.3 i)
        (terms_inside p plain n this env fs gs es i)
        (λ v s. wholes here n this env fs gs c (Copied vs es) us f (at_same fs gs c.inner s))

    calm_stmt : (r : Bool) (here : Scope) (n : ℕ) (this : Value) (env : Env) (fs gs : Entered) → Around here this env fs gs
        → InFunction p y ok w q here this → insides.Within p plain fs gs r → (s : Stmt) → IsTyped p y w q here s → IsInsideStmt r s fs gs
        → IsCalm (next_stmt p n this env s)
    calm_stmt r here n this env fs gs c m b Empty f i = tt
    calm_stmt r here n this env fs gs c m b (AtLine line s) f i =
        goes_on (next_stmt p line this env s) (λ l. (l.0, AtLine line l.1)) Ready (calm_stmt r here line this env fs gs c m b s f i) (λ v. tt)
    calm_stmt r here n this env fs gs c m b (Make k kind size) f i =
        whole_stmt here n this env fs gs c m (Make k kind size) f (at_same fs gs c.inner i)
    calm_stmt r here n this env fs gs c m b (Set k kind e) f i =
        part (Same fs gs) (TermInside fs gs) gs (next_term p n this env e) (λ z. (env, Set k kind z)) _ (calm_term here n this env fs gs c e _ f.3.1 i)
        (term_inside p plain n this env fs gs e i)
        (λ v s. whole_stmt here n this env fs gs c m (Set k kind e) f (at_same fs gs c.inner s))
    calm_stmt r here n this env fs gs c m b (Build k d es) f i =
        part (Same fs gs) (TermsInside fs gs) gs (next_terms p n this env es) (λ z. (env, Build k d z)) _ (calm_terms here n this env fs gs c es _ f.1 i)
        (terms_inside p plain n this env fs gs es i)
        (λ v s. whole_stmt here n this env fs gs c m (Build k d es) f (at_same fs gs c.inner s))
    calm_stmt r here n this env fs gs c m b (Assign remote e j) f i = ⊎_elim
        (λ (a : IsInside e fs gs × IsPlain j).
        part (Same fs gs) (TermInside fs gs) gs (next_term p n this env e) (λ z. (env, Assign remote z j)) _ (calm_term here n this env fs gs c e _ f.3 a.0)
        (term_inside p plain n this env fs gs e a.0)
        (λ v s. whole_stmt here n this env fs gs c m (Assign remote e j) f (at_same fs gs c.inner s)))
        (λ (d : IsVal e × IsInside j fs gs).
        subst (λ z. IsTyped p y w q here (Assign remote z j) → IsCalm (next_stmt p n this env (Assign remote z j))) (sym d.0.1)
        (λ f'. part (Same fs gs) (TermInside fs gs) gs (next_term p n this env j) (λ z. (env, Assign remote (Val d.0.0) z)) _
        (calm_term here n this env fs gs c j _ f.4.1 d.1) (term_inside p plain n this env fs gs j d.1)
        (λ v s. whole_stmt here n this env fs gs c m (Assign remote (Val d.0.0) j) f' (at_same fs gs c.inner s))) f)
        i
    calm_stmt r here n this env fs gs c m b (Drop e) f i =
        goes_on (next_term p n this env e) (λ z. (env, Drop z)) _ (calm_term here n this env fs gs c e _ f.1 i) (λ v. tt)
    calm_stmt r here n this env fs gs c m b (Print parts es) f i =
        part (Same fs gs) (TermsInside fs gs) gs (next_terms p n this env es) (λ z. (env, Print parts z)) _ (calm_terms here n this env fs gs c es _ f i)
        (terms_inside p plain n this env fs gs es i)
        (λ v s. whole_stmt here n this env fs gs c m (Print parts es) f (at_same fs gs c.inner s))
    calm_stmt r here n this env fs gs c m b (If e t) f i =
        goes_on (next_term p n this env e) (λ z. (env, If z t)) _ (calm_term here n this env fs gs c e _ f.0 i.0) (λ v. ([], refl))
    calm_stmt r here n this env fs gs c m b (IfElse e t u) f i =
        goes_on (next_term p n this env e) (λ z. (env, IfElse z t u)) _ (calm_term here n this env fs gs c e _ f.0 i.0) (λ v. ([], refl))
    calm_stmt r here n this env fs gs c m b (While e t) f i =
        whole_stmt here n this env fs gs c m (While e t) f (at_same fs gs c.inner i.0)
    calm_stmt r here n this env fs gs c m b (For e step t) f i =
        whole_stmt here n this env fs gs c m (For e step t) f (at_same fs gs c.inner i.0)
    calm_stmt r here n this env fs gs c m b Break f i = tt
    calm_stmt r here n this env fs gs c m b Continue f i = tt
    calm_stmt r here n this env fs gs c m b (Par ss) f i = whole_stmt here n this env fs gs c m (Par ss) f (at_same fs gs c.inner i.0)
    calm_stmt r here n this env fs gs c m b (ParFor k start test line value t) f i =
        part (Same fs gs) (TermInside fs gs) gs (next_term p n this env start) (λ z. (env, ParFor k z test line value t)) _
        (calm_term here n this env fs gs c start _ f.2 i.0) (term_inside p plain n this env fs gs start i.0)
        (λ v s. whole_stmt here n this env fs gs c m (ParFor k start test line value t) f (at_same fs gs c.inner s))
    calm_stmt r here n this env fs gs c m b (Spawn how k es) f i =
        part (Same fs gs) (TermsInside fs gs) gs (next_terms p n this env es) (λ z. (env, Spawn how k z)) _ (calm_terms here n this env fs gs c es _ f.2 i)
        (terms_inside p plain n this env fs gs es i)
        (λ v s. whole_stmt here n this env fs gs c m (Spawn how k es) f (at_same fs gs c.inner s))
    calm_stmt r here n this env fs gs c m b (Return e) f i =
        goes_on (next_term p n this env e) (λ z. (env, Return z)) _ (calm_term here n this env fs gs c e _ f.2.1 i.1) (λ v. ([], refl))
    calm_stmt r here n this env fs gs c m b (Block ss) f i =
        goes_on (next_stmts p n this env ss) (λ l. (l.0, Block l.1)) Ready (calm_stmts r here n this env fs gs c m b ss f i) (λ v. tt)
    calm_stmt r here n this env fs gs c m b (Turn t u) f i =
        part (insides.EndsInside p plain fs gs r) (insides.StmtInside p plain fs gs r) gs (next_stmt p n this env t) (λ l. (l.0, Turn l.1 u)) _
        (calm_stmt r here n this env fs gs c m b t f.0 i.0) (stmt_inside p plain r n this env fs gs b t i.0)
        (λ end s. whole_stmt here n this env fs gs c m (Turn t u) f (at_end fs gs r end c.inner s))
    calm_stmt r here n this env fs gs c m b (Forks k test line value t made now) f i =
        goes_on (next_term p n this env now) (λ z. (env, Forks k test line value t made z)) _ (calm_term here n this env fs gs c now _ f.2 i.0)
        (λ v. ([], refl))
    calm_stmt r here n this env fs gs c m b (Each k test line value t made) f i =
        whole_stmt here n this env fs gs c m (Each k test line value t made) f (at_same fs gs c.inner i.0)
    calm_stmt r here n this env fs gs c m b (Wait made) f i = whole_stmt here n this env fs gs c m (Wait made) f (at_same fs gs c.inner i)
    calm_stmt r here n this env fs gs c m b (Left v) f i = tt

    calm_stmts : (r : Bool) (here : Scope) (n : ℕ) (this : Value) (env : Env) (fs gs : Entered) → Around here this env fs gs
        → InFunction p y ok w q here this → insides.Within p plain fs gs r → (ss : Stmts) → AreTyped p y w q here ss → AreInsideStmts r ss fs gs
        → IsCalm (next_stmts p n this env ss)
    calm_stmts r here n this env fs gs c m b NoStmts f i = tt
    calm_stmts r here n this env fs gs c m b (MoreStmts t ss) f i =
        part (insides.EndsInside p plain fs gs r) (insides.StmtInside p plain fs gs r) gs (next_stmt p n this env t) (λ l. (l.0, MoreStmts l.1 ss)) _
        (calm_stmt r here n this env fs gs c m b t f.0 i.0) (stmt_inside p plain r n this env fs gs b t i.0)
        (λ end s. whole_stmts here n this env fs gs c m (MoreStmts t ss) f (at_end fs gs r end c.inner s))

  pub calm_thread : (e : Term) (u : ValueType) (gs : Entered) → HasType p y w q nowhere e u → IsInside e [] gs → AnyCalm gs → IsCalm (next p e)
  calm_thread e u gs f i a =
      calm_term nowhere 0 Void [] [] gs (record { place = at_top p y ok w q; calm = λ z. absurd z; inner = a }) e u f i

-- what is asked where nothing may wait never waits

not_both : (v z : Verdict Name) → (v ≡ Hold → ⊥) → (z ≡ Hold → ⊥) → and_also v z ≡ Hold → ⊥
not_both (Go a) (Go b) f g e = let x : Go (a ++ b) ≡ Hold = e in cc
not_both (Go a) Hold f g e = g refl
not_both (Go a) (Bad kind) f g e = let x : Bad kind ≡ Hold = e in cc
not_both Hold z f g e = f refl
not_both (Bad kind) z f g e = let x : Bad kind ≡ Hold = e in cc

go_on : (found : List Value) → Go found ≡ Hold → ⊥
go_on found e = cc

is_bad : (kind : FaultKind) → ◌≡◌ {A = Verdict Name} (Bad kind) Hold → ⊥
is_bad kind e = cc

result_goes : {A : Type 0} (r : Result A) (f : A → List Value) → of_result r f ≡ Hold → ⊥
result_goes (Gives x) f e = go_on _ e
result_goes (Fails kind) f e = is_bad kind e

room_goes : (made n most : ℕ) (kind : FaultKind) → room {N = Name} made n most kind ≡ Hold → ⊥
room_goes made n most kind e = from (nat_le (made + n) most) e
  where
    from : (b : Bool) → cond {A = Verdict Name} b (Go []) (Bad kind) ≡ Hold → ⊥
    from true f = go_on _ f
    from false f = is_bad kind f

write_goes : (c : Option Cell) → writable c ≡ Hold → ⊥
write_goes None e = is_bad _ e
write_goes (Some (Plain v)) e = go_on _ e
write_goes (Some EmptyCell) e = go_on _ e
write_goes (Some (Full v)) e = is_bad _ e

all_goes : (n : ℕ) (cells : List Cell) → all_in n cells ≡ Hold → ⊥
all_goes n cells e = from (nat_lt (length cells) n) e
  where
    from : (b : Bool) → cond b (Bad IndexOut) (Go (map value_in cells)) ≡ Hold → ⊥
    from true g = is_bad _ g
    from false g = go_on _ g

object_goes : (v : Value) → object_there v ≡ Hold → ⊥
object_goes Void e = go_on _ e
object_goes (Int n) e = is_bad _ e
object_goes Null e = is_bad _ e
object_goes (Ptr o x) e = go_on _ e

or_right : (a b : Bool) → a || b ≡ false → b ≡ false
or_right true b e = let x : true ≡ false = e in cc
or_right false b e = e

never_allowed : (b : Bool) → Allowed false b → b ≡ false
never_allowed true e = let x : false ≡ true = e in cc
never_allowed false e = refl

free_goes : (a b : Bool) → a ≡ false → cond {A = Verdict Name} (a && b) Hold (Go []) ≡ Hold → ⊥
free_goes true b e f = let x : true ≡ false = e in cc
free_goes false b e f = go_on _ f

module _ (p : Program) (y : Types) (w : World) (s : Config) (stored : InStep y w s.objects w.objects) (t : Name) (l : Thread) where
  abbrev h : Shapes
  h = shapes p

  write_at : (a : Value) → check h s t l (Unfilled a) ≡ Hold → ⊥
  write_at Void e = is_bad _ e
  write_at (Int n) e = is_bad _ e
  write_at Null e = is_bad _ e
  write_at (Ptr o x) e = write_goes (cell s o x) e

  -- a read of all cells never waits
  copy_at : (a : Value) (n : ℕ) → check h s t l (AllCells a n) ≡ Hold → ⊥
  copy_at Void n e = is_bad _ e
  copy_at (Int m) n e = is_bad _ e
  copy_at Null n e = is_bad _ e
  copy_at (Ptr o x) n e = all_goes n (cells_of (fin.get s.objects o)) e

  -- a plain cell always has a value
  read_cell : (o : Name) (x : ℕ) (a : Target) (sync : Bool) (u : ValueType) → Fits y w l.home (Ptr o x) (Pointer false a) → IsCell y a sync u
      → sync ≡ false → (c : Option Cell) → cell s o x ≡ c → read c ≡ Hold → ⊥
  read_cell o x a sync u f i e None at g = is_bad _ g
  read_cell o x a sync u f i e (Some (Plain v)) at g = go_on _ g
  read_cell o x a sync u f i e (Some EmptyCell) at g =
      let z = cell_there h s t l y w l.home stored o x false a sync u EmptyCell f i at in false_true sync e z.2.0
  read_cell o x a sync u f i e (Some (Full v)) at g = go_on _ g

  read_at : (x : Value) (a : Target) (sync : Bool) (u : ValueType) → Fits y w l.home x (Pointer false a) → IsCell y a sync u → sync ≡ false
      → check h s t l (Filled x) ≡ Hold → ⊥
  read_at Void a sync u f i e g = is_bad _ g
  read_at (Int n) a sync u f i e g = is_bad _ g
  read_at Null a sync u f i e g = is_bad _ g
  read_at (Ptr o x) a sync u f i e g = read_cell o x a sync u f i e (cell s o x) refl g

  last : (v : Verdict Name) → (v ≡ Hold → ⊥) → and_also v (Go []) ≡ Hold → ⊥
  last v f e = not_both v (Go []) f (go_on []) e

  deeper_goes : check h s t l Deeper ≡ Hold → ⊥
  deeper_goes e = room_goes _ _ _ _ e

  slots_goes : (n : ℕ) → check h s t l (Slots n) ≡ Hold → ⊥
  slots_goes n e = room_goes _ _ _ _ e

  pub never_holds : (ask : Ask Name) (us : List ValueType) → IsAsk p y w l.home false ask us
      → check_all h s t l (needs h ask) ≡ Hold → ⊥
  never_holds (Reads true x) us f e = let z : false ≡ true = f.6 in cc
  never_holds (Reads false x) us f e =
      last _ (read_at x f.0 f.1 f.2 f.3 f.4 (never_allowed f.1 f.6)) e
  never_holds (Writes remote x v) us f e = last _ (write_at x) e
  never_holds (Copies x n) us f e = last _ (copy_at x n) e
  never_holds (Indexes x n i) us f e = last _ (result_goes _ _) e
  never_holds (Shifts x i) us f e = last _ (result_goes _ _) e
  never_holds (Computes op vs) us f e = last _ (result_goes _ _) e
  never_holds Tests us f e = go_on [] e
  never_holds (Makes kind n) us f e = last _ (room_goes _ _ _ _) e
  never_holds (MakesWith kind v) us f e = last _ (room_goes _ _ _ _) e
  never_holds (Builds c vs) us f e = not_both _ _ (room_goes _ _ _ _) (last _ (result_goes _ _)) e
  never_holds (Enters k o vs) us f e =
      let free = or_right (function_types y k).waits (is_atomic p k) (never_allowed ((function_types y k).waits || is_atomic p k) f.2) in
      let slots = Slots (arity (function_shape h k).params) in
      not_both (check h s t l (ObjectNeed o)) (check_all h s t l (Free k o ∷ Deeper ∷ slots ∷ [])) (object_goes o)
      (not_both (check h s t l (Free k o)) (check_all h s t l (Deeper ∷ slots ∷ []))
      (free_goes (function_shape h k).atomic (any_holds h o (fin.values s.threads)) (ap (λ (z : FunShape). z.atomic) (shape_is p k) ∙ free))
      (not_both (check h s t l Deeper) (check_all h s t l (slots ∷ [])) deeper_goes (last (check h s t l slots) (slots_goes _)))) e
  never_holds Leaves us f e = go_on [] e
  never_holds (ForksAll n) us f e = let z : false ≡ true = f.0 in cc
  never_holds (ForksOne x) us f e = let z : false ≡ true = f.1 in cc
  never_holds (Joins made) us f e = let z : false ≡ true = f.0 in cc
  never_holds (Spawns k o vs) us f e = let z : false ≡ true = f.2 in cc
  never_holds (Prints parts vs) us f e = go_on [] e
  never_holds (Calls k o vs) us f e = let z : false ≡ true = f.1 in cc
  never_holds (Casts k o vs) us f e = let z : false ≡ true = f.1 in cc
  never_holds (NewProcessor c vs) us f e = let z : false ≡ true = f.2 in cc
