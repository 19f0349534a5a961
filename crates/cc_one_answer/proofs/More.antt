-- What is fine stays so in a world that goes on, and where its thread has made more.
use Rattle.std.proofs.Common.{◌≡◌, ◌⊎◌, ℕ, ◌≤◌, Bool, true, false, List, [], ◌∷◌, Option, Some, None}
use Rattle.std.proofs.Common.{⊎_elim, inl, inr, arith}
use Rattle.std.specs.Prelude.{slice_get}
use Rattle.cc_ops.specs.Values.{Void, Int, Null, Ptr, Plain, Empty as EmptyCell, Full}
use Rattle.cc_core.specs.Names.{Name, Value, Cell}
use Rattle.cc_core.specs.Core.{Env, Term, Push, This, Variable, Member, Index, At}
use Rattle.cc_core.specs.Core.{Load, Unary, Binary, And, Or, New, NewObject, Call, Val, Body, Branch, Starts, Terms, NoTerms, MoreTerms}
use Rattle.cc_core.specs.Core.{MoreCells, Copied, Stmt, Empty, AtLine, Make, Set, Build, Assign, Drop, Print, If, IfElse, While, For}
use Rattle.cc_core.specs.Core.{Break, Continue, Par, ParFor, Spawn, Return, Block, Turn, Forks, Each, Wait, Left, Stmts, NoStmts}
use Rattle.cc_core.specs.Core.{MoreStmts}
use Rattle.cc_core.specs.Next.{variable}
use Rattle.cc_core.specs.Types.{ValueType, NoValue, AnInt, AnAddress, Target, Cells, ObjectOf, FunctionTypes, Types, function_types, IsAmong, IsOwnPlace, declares}
use Rattle.cc_one_answer.specs.Sorts.{Sort, Valued, NamedCell, MemberAt, MemberCell}
use Rattle.cc_one_answer.specs.Sorts.{World, Grows, IsNameIn, IsMineIn, Leads, Fits, CellFits, AllFit, LeadsTo, HasSort}
use Rattle.cc_one_answer.specs.Determinate.{DetTerm, DetTerms, DetStmt, DetStmts}
use Rattle.cc_one_answer.specs.Owned.{OwnVars, IsOwnHere, PendTerm, PendTerms, PendStmt, PendStmts, IsDeclared, IsMarked, IsEntryOf, IsEntry}
use Rattle.cc_one_answer.specs.Owned.{FineEnv, IsThis, IsDone, IsToCome, IsLoop, FineTerm, FineTerms, FineStmt, FineStmts, FineHeader}

pub grows_same : (w : World) → Grows w w
grows_same w = record { types = λ o a h. h; kin = λ t k h. h }

pub grows_on : (a b c : World) → Grows a b → Grows b c → Grows a c
grows_on a b c f g = record { types = λ o x h. g.types o x (f.types o x h); kin = λ t k h. g.kin t k (f.kin t k h) }

module _ (w v : World) (g : Grows w v) where
  leads_more : (o : Name) (x : ℕ) (u : ValueType) → Leads w o x u → Leads v o x u
  leads_more o x NoValue h = h
  leads_more o x AnInt h = h
  leads_more o x (AnAddress (Cells sync u)) h = g.types o _ h
  leads_more o x (AnAddress (ObjectOf c)) h = (g.types o _ h.0, h.1)

  pub fits_more : (a : Value) (u : ValueType) → Fits w a u → Fits v a u
  fits_more Void u h = h
  fits_more (Int n) u h = h
  fits_more Null u h = h
  fits_more (Ptr o x) u h = leads_more o x u h

  pub cell_fits_more : (c : Cell) (a : Option Target) → CellFits w c a → CellFits v c a
  cell_fits_more c None h = h
  cell_fits_more c (Some (ObjectOf k)) h = h
  cell_fits_more (Plain x) (Some (Cells sync u)) h = (h.0, fits_more x u h.1)
  cell_fits_more EmptyCell (Some (Cells sync u)) h = h
  cell_fits_more (Full x) (Some (Cells sync u)) h = (h.0, fits_more x u h.1)

  pub all_fit_more : (xs : List Value) (us : List ValueType) → AllFit w xs us → AllFit v xs us
  all_fit_more xs [] h = h
  all_fit_more [] (u ∷ us) h = h
  all_fit_more (a ∷ xs) (u ∷ us) h = (fits_more a u h.0, all_fit_more xs us h.1)

  pub marked_more : (t : Name) (b n m : ℕ) → n ≤ m → IsMarked w t b n → IsMarked v t b m
  marked_more t b n m le h = let e = h.2 in (h.0, g.kin (b ∷ t) h.0 h.1, omega (arith, le, e))

  module _ (y : Types) (main : ℕ) (t : Name) (lent : List Name) where
    leads_to_more : (o : Name) (x : ℕ) (r : Sort) → LeadsTo w y t lent o x r → LeadsTo v y t lent o x r
    leads_to_more o x (Valued u) h = leads_more o x u h
    leads_to_more o x (NamedCell u) h = (g.types o _ h.0, h.1)
    leads_to_more o x (MemberAt c k) h = (g.types o _ h.0, h.1)
    leads_to_more o x (MemberCell sync u) h = (h.0, g.types o _ h.1, h.2)

    pub sort_more : (a : Value) (r : Sort) → HasSort w y t lent a r → HasSort v y t lent a r
    sort_more Void r h = h
    sort_more (Int n) r h = h
    sort_more Null r h = h
    sort_more (Ptr o x) r h = leads_to_more o x r h

    mine_more : (lo hi more : ℕ) (o : Name) → hi ≤ more → IsMineIn t lo hi o ⊎ IsNameIn o lent → IsMineIn t lo more o ⊎ IsNameIn o lent
    mine_more lo hi more o le h = ⊎_elim
        (λ (a : IsMineIn t lo hi o). let lt = a.3 in inl (a.0, a.1, a.2, omega (arith, le, lt)))
        (λ (b : IsNameIn o lent). inr b)
        h

    entry_of_more : (lo hi more : ℕ) → hi ≤ more → (o : Name) (x : ℕ) (a : Option Target) → IsEntryOf y main t lent w lo hi o x a
        → IsEntryOf y main t lent v lo more o x a
    entry_of_more lo hi more le o x None h = h
    entry_of_more lo hi more le o x (Some (Cells false u)) h = (g.types o _ h.0, mine_more lo hi more o le h.1)
    entry_of_more lo hi more le o x (Some (Cells true u)) h = g.types o _ h
    entry_of_more lo hi more le o x (Some (ObjectOf c)) h = (g.types o _ h.0, h.1)

    pub entry_more : (lo hi more : ℕ) → hi ≤ more → (z : Value) (a : Option Target) → IsEntry y main t lent w lo hi z a
        → IsEntry y main t lent v lo more z a
    entry_more lo hi more le Void a h = h
    entry_more lo hi more le (Int n) a h = h
    entry_more lo hi more le Null a h = h
    entry_more lo hi more le (Ptr o x) a h = entry_of_more lo hi more le o x a h

    pub env_more : (here : FunctionTypes) (lo hi more : ℕ) (env : Env) → hi ≤ more → FineEnv y main t lent w here lo hi env
        → FineEnv y main t lent v here lo more env
    env_more here lo hi more env le h = λ k. entry_more lo hi more le (variable env k Null) (slice_get here.vars k) (h k)

    pub this_more : (here : FunctionTypes) (this : Value) → IsThis y main t lent w here this → IsThis y main t lent v here this
    this_more here this h = λ c e. fits_more this (AnAddress (ObjectOf c)) (h c e)

    pub done_more : (e : Term) (r : Sort) → IsDone y main t lent w e r → IsDone y main t lent v e r
    done_more e r h = (h.0, h.1, sort_more h.0 r h.2)

    pub loop_more : (here : FunctionTypes) (lo hi more : ℕ) → hi ≤ more → (env : Env) (k : ℕ) (test : Term) (line : ℕ) (value : Term)
        (s : Stmt) (made : List ℕ) (mark : ℕ) → IsLoop y main t lent w here lo hi env k test line value s made mark
        → IsLoop y main t lent v here lo more env k test line value s made mark
    loop_more here lo hi more le env k test line value s made mark h =
        let high = h.high in
        record {
          low = h.low;
          high = omega (arith, high, le);
          type = h.type;
          typed = h.typed;
          own = h.own;
          older = λ j ne. entry_more lo mark mark (omega arith) (variable env j Null) (slice_get here.vars j) (h.older j ne);
          marked = λ b i. marked_more t b mark mark (omega arith) (h.marked b i);
          test_sort = h.test_sort;
          test_fine = h.test_fine;
          value_fine = h.value_fine;
          body_fine = h.body_fine;
        }

    abbrev F : FunctionTypes → (lo hi : ℕ) → Term → Sort → Type 0
    F = FineTerm y main t lent w

    abbrev D : FunctionTypes → Term → Sort → Type 0
    D = DetTerm y main

    module _ (hi more : ℕ) (le : hi ≤ more) where
      mutual
        pub term_more : (here : FunctionTypes) (lo : ℕ) (e : Term) (r : Sort) → FineTerm y main t lent w here lo hi e r
            → FineTerm y main t lent v here lo more e r
        term_more here lo (Push c) r h = h
        term_more here lo This r h = h
        term_more here lo (Variable k) r h = h
        term_more here lo (Member e o) r h = (h.0, h.1, term_more here lo e _ h.2, h.3)
        term_more here lo (Index a n i) r h = (
          h.0,
          h.1,
          h.2,
          ⊎_elim
              (λ (x : F here lo hi a h.0 × D here i h.1). inl (term_more here lo a h.0 x.0, x.1))
              (λ (x : IsDone y main t lent w a h.0 × F here lo hi i h.1). inr (done_more a h.0 x.0, term_more here lo i h.1 x.1))
              h.3,
        )
        term_more here lo (At a i) r h = (
          h.0,
          h.1,
          h.2,
          h.3,
          ⊎_elim
              (λ (x : F here lo hi a r × D here i h.2). inl (term_more here lo a r x.0, x.1))
              (λ (x : IsDone y main t lent w a r × F here lo hi i h.2). inr (done_more a r x.0, term_more here lo i h.2 x.1))
              h.4,
        )
        term_more here lo (Load remote e) r h = (h.0, h.1, h.2, h.3, h.4, term_more here lo e h.0 h.5)
        term_more here lo (Unary op e) r h = (h.0, term_more here lo e h.0 h.1)
        term_more here lo (Binary op a b) r h = (
          h.0,
          h.1,
          ⊎_elim
              (λ (x : F here lo hi a h.0 × D here b h.1). inl (term_more here lo a h.0 x.0, x.1))
              (λ (x : IsDone y main t lent w a h.0 × F here lo hi b h.1). inr (done_more a h.0 x.0, term_more here lo b h.1 x.1))
              h.2,
        )
        term_more here lo (And a b) r h = (h.0, h.1, term_more here lo a h.0 h.2, h.3)
        term_more here lo (Or a b) r h = (h.0, h.1, term_more here lo a h.0 h.2, h.3)
        term_more here lo (New kind n) r h = h
        term_more here lo (NewObject remote c es) r h = (terms_more here lo es _ h.0, h.1)
        term_more here lo (Call how f es) r h = (h.0, h.1, h.2, h.3, terms_more here lo es h.0 h.4)
        term_more here lo (Val a) r h = sort_more a r h
        term_more here lo (Body f this env ss) r h = (
          h.0,
          h.1,
          h.2,
          this_more (function_types y f) this h.3,
          env_more (function_types y f) lo hi more env le h.4,
          stmts_more (function_types y f) lo h.0 env ss h.5,
        )
        term_more here lo (Branch this env s) r h = (
          h.0,
          h.1,
          this_more (function_types y h.0) this h.2,
          env_more (function_types y h.0) lo hi more env le h.3,
          stmt_more (function_types y h.0) lo false env s h.4,
        )
        term_more here lo (Starts f this vs) r h =
            (h.0, h.1, this_more (function_types y f) this h.2, all_fit_more vs (function_types y f).params h.3)

        pub terms_more : (here : FunctionTypes) (lo : ℕ) (es : Terms) (us : List ValueType) → FineTerms y main t lent w here lo hi es us
            → FineTerms y main t lent v here lo more es us
        terms_more here lo NoTerms us h = h
        terms_more here lo (MoreTerms e es) us h = (
          h.0,
          h.1,
          h.2,
          ⊎_elim
              (λ (x : F here lo hi e (Valued h.0) × DetTerms y main here es h.1). inl (term_more here lo e (Valued h.0) x.0, x.1))
              (λ (x : IsDone y main t lent w e (Valued h.0) × FineTerms y main t lent w here lo hi es h.1).
              inr (done_more e (Valued h.0) x.0, terms_more here lo es h.1 x.1))
              h.3,
        )
        terms_more here lo (MoreCells e n es) us h = h
        terms_more here lo (Copied vs es) us h = h

        pub stmt_more : (here : FunctionTypes) (lo : ℕ) (prints : Bool) (env : Env) (s : Stmt)
            → FineStmt y main t lent w here lo hi prints env s → FineStmt y main t lent v here lo more prints env s
        stmt_more here lo prints env Empty h = h
        stmt_more here lo prints env (AtLine line s) h = stmt_more here lo prints env s h
        stmt_more here lo prints env (Make k kind n) h = h
        stmt_more here lo prints env (Set k kind e) h = (h.0, h.1, term_more here lo e (Valued h.0) h.2)
        stmt_more here lo prints env (Build k c es) h = (h.0, terms_more here lo es _ h.1)
        stmt_more here lo prints env (Assign remote a e) h = (
          h.0,
          h.1,
          h.2,
          h.3,
          h.4,
          ⊎_elim
              (λ (x : F here lo hi a h.0 × D here e (Valued h.2)). inl (term_more here lo a h.0 x.0, x.1))
              (λ (x : IsDone y main t lent w a h.0 × F here lo hi e (Valued h.2)).
              inr (done_more a h.0 x.0, term_more here lo e (Valued h.2) x.1))
              h.5,
        )
        stmt_more here lo prints env (Drop e) h = (h.0, term_more here lo e h.0 h.1)
        stmt_more here lo prints env (Print parts es) h = (h.0, h.1, terms_more here lo es h.0 h.2)
        stmt_more here lo prints env (If c s) h = (h.0, term_more here lo c h.0 h.1, stmt_more here lo prints env s h.2)
        stmt_more here lo prints env (IfElse c s z) h =
            (h.0, term_more here lo c h.0 h.1, stmt_more here lo prints env s h.2, stmt_more here lo prints env z h.3)
        stmt_more here lo prints env (While c s) h = h
        stmt_more here lo prints env (For c step s) h = h
        stmt_more here lo prints env Break h = h
        stmt_more here lo prints env Continue h = h
        stmt_more here lo prints env (Par ss) h = h
        stmt_more here lo prints env (ParFor k start test line value s) h =
            (h.0, h.1, h.2, term_more here lo start (Valued h.0) h.3, h.4, h.5, h.6)
        stmt_more here lo prints env (Spawn how f es) h = (h.0, h.1, h.2, terms_more here lo es h.0 h.3)
        stmt_more here lo prints env (Return e) h = term_more here lo e _ h
        stmt_more here lo prints env (Block ss) h = stmts_more here lo prints env ss h
        stmt_more here lo prints env (Turn s z) h = ⊎_elim
            (λ (x : FineStmt y main t lent w here lo hi prints env s × IsToCome y main t lent w here lo prints env z).
            inl (stmt_more here lo prints env s x.0, x.1))
            (λ (x : (k : ℕ) × (test : Term) × (line : ℕ) × (value : Term) × (body : Stmt) × (made : List ℕ) × (mark : ℕ) × (u : ValueType)
            × (z ≡ Forks k test line value body made test) × (slice_get here.vars k ≡ Some (Cells false u))
            × IsLoop y main t lent w here lo hi env k test line value body made mark × FineHeader y main t lent w here mark hi env k u s).
            inr (
              x.0,
              x.1,
              x.2,
              x.3,
              x.4,
              x.5,
              x.6,
              x.7,
              x.8,
              x.9,
              loop_more here lo hi more le env x.0 x.1 x.2 x.3 x.4 x.5 x.6 x.10,
              header_more here x.6 env x.0 x.7 s x.11,
            ))
            h
        stmt_more here lo prints env (Forks k test line value s made now) h =
            (h.0, h.1, term_more here h.0 now h.1 h.2, loop_more here lo hi more le env k test line value s made h.0 h.3)
        stmt_more here lo prints env (Each k test line value s made) h =
            (h.0, loop_more here lo hi more le env k test line value s made h.0 h.1)
        stmt_more here lo prints env (Wait made) h = h
        stmt_more here lo prints env (Left a) h = fits_more a here.result h

        pub header_more : (here : FunctionTypes) (mark : ℕ) (env : Env) (k : ℕ) (u : ValueType) (s : Stmt)
            → FineHeader y main t lent w here mark hi env k u s → FineHeader y main t lent v here mark more env k u s
        header_more here mark env k u Empty h = h
        header_more here mark env k u (AtLine line s) h = header_more here mark env k u s h
        header_more here mark env k u (Make j kind n) h = h
        header_more here mark env k u (Set j kind e) h = h
        header_more here mark env k u (Build j c es) h = h
        header_more here mark env k u (Assign remote a e) h = (h.0, h.1, term_more here mark e (Valued u) h.2)
        header_more here mark env k u (Drop e) h = h
        header_more here mark env k u (Print parts es) h = h
        header_more here mark env k u (If c s) h = h
        header_more here mark env k u (IfElse c s z) h = h
        header_more here mark env k u (While c s) h = h
        header_more here mark env k u (For c step s) h = h
        header_more here mark env k u Break h = h
        header_more here mark env k u Continue h = h
        header_more here mark env k u (Par ss) h = h
        header_more here mark env k u (ParFor j start test line value s) h = h
        header_more here mark env k u (Spawn how f es) h = h
        header_more here mark env k u (Return e) h = h
        header_more here mark env k u (Block ss) h = h
        header_more here mark env k u (Turn s z) h = h
        header_more here mark env k u (Forks j test line value s made now) h = h
        header_more here mark env k u (Each j test line value s made) h = h
        header_more here mark env k u (Wait made) h = h
        header_more here mark env k u (Left v) h = h

        pub stmts_more : (here : FunctionTypes) (lo : ℕ) (prints : Bool) (env : Env) (ss : Stmts)
            → FineStmts y main t lent w here lo hi prints env ss → FineStmts y main t lent v here lo more prints env ss
        stmts_more here lo prints env NoStmts h = h
        stmts_more here lo prints env (MoreStmts s ss) h = (h.0, stmt_more here lo prints env s h.1, h.2, h.3)

-- a part of the source is fine

module _ (y : Types) (main : ℕ) (t : Name) (lent : List Name) (w : World) (here : FunctionTypes) (lo hi : ℕ) where
  mutual
    pub term_of : (e : Term) (r : Sort) → DetTerm y main here e r → FineTerm y main t lent w here lo hi e r
    term_of (Push c) r h = h
    term_of This r h = h
    term_of (Variable k) r h = h
    term_of (Member e o) r h = (h.0, h.1, term_of e _ h.2, h.3)
    term_of (Index a n i) r h = (h.0, h.1, h.2, inl (term_of a h.0 h.3, h.4))
    term_of (At a i) r h = (h.0, h.1, h.2, h.3, inl (term_of a r h.4, h.5))
    term_of (Load remote e) r h = (h.0, h.1, h.2, h.3, h.4, term_of e h.0 h.5)
    term_of (Unary op e) r h = (h.0, term_of e h.0 h.1)
    term_of (Binary op a b) r h = (h.0, h.1, inl (term_of a h.0 h.2, h.3))
    term_of (And a b) r h = (h.0, h.1, term_of a h.0 h.2, h.3)
    term_of (Or a b) r h = (h.0, h.1, term_of a h.0 h.2, h.3)
    term_of (New kind n) r h = h
    term_of (NewObject remote c es) r h = (terms_of es _ h.0, h.1)
    term_of (Call how f es) r h = (h.0, h.1, h.2, h.3, terms_of es h.0 h.4)
    term_of (Val v) r h = absurd h
    term_of (Body f this env ss) r h = absurd h
    term_of (Branch this env s) r h = absurd h
    term_of (Starts f this vs) r h = absurd h

    pub terms_of : (es : Terms) (us : List ValueType) → DetTerms y main here es us → FineTerms y main t lent w here lo hi es us
    terms_of NoTerms us h = h
    terms_of (MoreTerms e es) us h = (h.0, h.1, h.2, inl (term_of e (Valued h.0) h.3, h.4))
    terms_of (MoreCells e n es) us h = h
    terms_of (Copied vs es) us h = h

  own_place : (own : List ℕ) (env : Env) (a : Term) → OwnVars t lo env own → IsOwnPlace own a → IsOwnHere t lo env a
  own_place own env (Push c) vars h = h
  own_place own env This vars h = h
  own_place own env (Variable k) vars h = vars k h
  own_place own env (Member e o) vars h = h
  own_place own env (Index (Push c) n i) vars h = h
  own_place own env (Index This n i) vars h = h
  own_place own env (Index (Variable k) n i) vars h = vars k h
  own_place own env (Index (Member e o) n i) vars h = h
  own_place own env (Index (Index a m j) n i) vars h = absurd h
  own_place own env (Index (At a j) n i) vars h = h
  own_place own env (Index (Load remote e) n i) vars h = h
  own_place own env (Index (Unary op e) n i) vars h = h
  own_place own env (Index (Binary op a b) n i) vars h = h
  own_place own env (Index (And a b) n i) vars h = h
  own_place own env (Index (Or a b) n i) vars h = h
  own_place own env (Index (New kind m) n i) vars h = h
  own_place own env (Index (NewObject remote c es) n i) vars h = h
  own_place own env (Index (Call how f es) n i) vars h = h
  own_place own env (Index (Val v) n i) vars h = absurd h
  own_place own env (Index (Body f this e ss) n i) vars h = h
  own_place own env (Index (Branch this e s) n i) vars h = h
  own_place own env (Index (Starts f this vs) n i) vars h = h
  own_place own env (At a i) vars h = h
  own_place own env (Load remote e) vars h = h
  own_place own env (Unary op e) vars h = h
  own_place own env (Binary op a b) vars h = h
  own_place own env (And a b) vars h = h
  own_place own env (Or a b) vars h = h
  own_place own env (New kind n) vars h = h
  own_place own env (NewObject remote c es) vars h = h
  own_place own env (Call how f es) vars h = h
  own_place own env (Val v) vars h = absurd h
  own_place own env (Body f this e ss) vars h = h
  own_place own env (Branch this e s) vars h = h
  own_place own env (Starts f this vs) vars h = h

  declared_ones : (k : ℕ) (own : List ℕ) (s : Stmt) → IsAmong k (declares s own) → IsAmong k own ⊎ IsDeclared k s
  declared_ones k own Empty h = inl h
  declared_ones k own (AtLine line s) h = declared_ones k own s h
  declared_ones k own (Make j kind n) h = ⊎_elim (λ (a : k ≡ j). inr a) (λ (b : IsAmong k own). inl b) h
  declared_ones k own (Set j kind e) h = ⊎_elim (λ (a : k ≡ j). inr a) (λ (b : IsAmong k own). inl b) h
  declared_ones k own (Build j c es) h = ⊎_elim (λ (a : k ≡ j). inr a) (λ (b : IsAmong k own). inl b) h
  declared_ones k own (Assign remote a e) h = inl h
  declared_ones k own (Drop e) h = inl h
  declared_ones k own (Print parts es) h = inl h
  declared_ones k own (If c z) h = inl h
  declared_ones k own (IfElse c z x) h = inl h
  declared_ones k own (While c z) h = inl h
  declared_ones k own (For c step z) h = inl h
  declared_ones k own Break h = inl h
  declared_ones k own Continue h = inl h
  declared_ones k own (Par ss) h = inl h
  declared_ones k own (ParFor j start test line value z) h = inl h
  declared_ones k own (Spawn how f es) h = inl h
  declared_ones k own (Return e) h = inl h
  declared_ones k own (Block ss) h = inl h
  declared_ones k own (Turn z x) h = inl h
  declared_ones k own (Forks j test line value z made now) h = inl h
  declared_ones k own (Each j test line value z made) h = inl h
  declared_ones k own (Wait made) h = inl h
  declared_ones k own (Left v) h = inl h

  mutual
    pub stmt_of : (prints : Bool) (own : List ℕ) (env : Env) (s : Stmt) → OwnVars t lo env own → DetStmt y main here prints own s
        → FineStmt y main t lent w here lo hi prints env s
    stmt_of prints own env Empty vars h = h
    stmt_of prints own env (AtLine line s) vars h = stmt_of prints own env s vars h
    stmt_of prints own env (Make k kind n) vars h = h
    stmt_of prints own env (Set k kind e) vars h = (h.0, h.1, term_of e _ h.2)
    stmt_of prints own env (Build k c es) vars h = (h.0, terms_of es _ h.1)
    stmt_of prints own env (Assign remote a e) vars h = (
      h.0,
      h.1,
      h.2,
      h.3,
      ⊎_elim
          (λ (x : h.1 ≡ true). inl x)
          (λ (x : (h.0 ≡ NamedCell h.2) × IsOwnPlace own a). inr (x.0, own_place own env a vars x.1))
          h.4,
      inl (term_of a h.0 h.5, h.6),
    )
    stmt_of prints own env (Drop e) vars h = (h.0, term_of e h.0 h.1)
    stmt_of prints own env (Print parts es) vars h = (h.0, h.1, terms_of es h.0 h.2)
    stmt_of prints own env (If c s) vars h = (h.0, term_of c h.0 h.1, stmt_of prints own env s vars h.2)
    stmt_of prints own env (IfElse c s z) vars h =
        (h.0, term_of c h.0 h.1, stmt_of prints own env s vars h.2, stmt_of prints own env z vars h.3)
    stmt_of prints own env (While c s) vars h = (own, vars, h)
    stmt_of prints own env (For c step s) vars h = (own, vars, h)
    stmt_of prints own env Break vars h = h
    stmt_of prints own env Continue vars h = h
    stmt_of prints own env (Par ss) vars h = h
    stmt_of prints own env (ParFor k start test line value s) vars h = (h.0, h.1, h.2, term_of start _ h.3, h.4, h.5, h.6)
    stmt_of prints own env (Spawn how f es) vars h = (h.0, h.1, h.2, terms_of es h.0 h.3)
    stmt_of prints own env (Return e) vars h = term_of e _ h
    stmt_of prints own env (Block ss) vars h = stmts_of prints own env ss vars h
    stmt_of prints own env (Turn s z) vars h = absurd h
    stmt_of prints own env (Forks k test line value s made now) vars h = absurd h
    stmt_of prints own env (Each k test line value s made) vars h = absurd h
    stmt_of prints own env (Wait made) vars h = absurd h
    stmt_of prints own env (Left v) vars h = absurd h

    pub stmts_of : (prints : Bool) (own : List ℕ) (env : Env) (ss : Stmts) → OwnVars t lo env own → DetStmts y main here prints own ss
        → FineStmts y main t lent w here lo hi prints env ss
    stmts_of prints own env NoStmts vars h = h
    stmts_of prints own env (MoreStmts s ss) vars h = (
      declares s own,
      stmt_of prints own env s vars h.0,
      λ k i. ⊎_elim (λ (a : IsAmong k own). inl (vars k a)) (λ (b : IsDeclared k s). inr b) (declared_ones k own s i),
      h.1,
    )

-- nothing is pending in a part of the source
module _ (y : Types) (main : ℕ) (here : FunctionTypes) (b : ℕ) where
  mutual
    pub quiet : (e : Term) (r : Sort) → DetTerm y main here e r → PendTerm e b → ⊥
    quiet (Push c) r h p = p
    quiet This r h p = p
    quiet (Variable k) r h p = p
    quiet (Member e o) r h p = quiet e _ h.2 p
    quiet (Index a n i) r h p = ⊎_elim (λ (x : PendTerm a b). quiet a h.0 h.3 x) (λ (x : PendTerm i b). quiet i h.1 h.4 x) p
    quiet (At a i) r h p = ⊎_elim (λ (x : PendTerm a b). quiet a r h.4 x) (λ (x : PendTerm i b). quiet i h.2 h.5 x) p
    quiet (Load remote e) r h p = quiet e h.0 h.5 p
    quiet (Unary op e) r h p = quiet e h.0 h.1 p
    quiet (Binary op x z) r h p = ⊎_elim (λ (q : PendTerm x b). quiet x h.0 h.2 q) (λ (q : PendTerm z b). quiet z h.1 h.3 q) p
    quiet (And x z) r h p = quiet x h.0 h.2 p
    quiet (Or x z) r h p = quiet x h.0 h.2 p
    quiet (New kind n) r h p = p
    quiet (NewObject remote c es) r h p = quiet_all es _ h.0 p
    quiet (Call how f es) r h p = quiet_all es h.0 h.4 p
    quiet (Val v) r h p = p
    quiet (Body f this env ss) r h p = h
    quiet (Branch this env s) r h p = h
    quiet (Starts f this vs) r h p = p

    pub quiet_all : (es : Terms) (us : List ValueType) → DetTerms y main here es us → PendTerms es b → ⊥
    quiet_all NoTerms us h p = p
    quiet_all (MoreTerms e es) us h p =
        ⊎_elim (λ (x : PendTerm e b). quiet e _ h.3 x) (λ (x : PendTerms es b). quiet_all es h.1 h.4 x) p
    quiet_all (MoreCells e n es) us h p = p
    quiet_all (Copied vs es) us h p = p

  mutual
    pub quiet_stmt : (prints : Bool) (own : List ℕ) (s : Stmt) → DetStmt y main here prints own s → PendStmt s b → ⊥
    quiet_stmt prints own Empty h p = p
    quiet_stmt prints own (AtLine line s) h p = quiet_stmt prints own s h p
    quiet_stmt prints own (Make k kind n) h p = p
    quiet_stmt prints own (Set k kind e) h p = quiet e _ h.2 p
    quiet_stmt prints own (Build k c es) h p = quiet_all es _ h.1 p
    quiet_stmt prints own (Assign remote a e) h p =
        ⊎_elim (λ (x : PendTerm a b). quiet a h.0 h.5 x) (λ (x : PendTerm e b). quiet e _ h.6 x) p
    quiet_stmt prints own (Drop e) h p = quiet e h.0 h.1 p
    quiet_stmt prints own (Print parts es) h p = quiet_all es h.0 h.2 p
    quiet_stmt prints own (If c s) h p = quiet c h.0 h.1 p
    quiet_stmt prints own (IfElse c s z) h p = quiet c h.0 h.1 p
    quiet_stmt prints own (While c s) h p = p
    quiet_stmt prints own (For c step s) h p = p
    quiet_stmt prints own Break h p = p
    quiet_stmt prints own Continue h p = p
    quiet_stmt prints own (Par ss) h p = p
    quiet_stmt prints own (ParFor k start test line value s) h p = quiet start _ h.3 p
    quiet_stmt prints own (Spawn how f es) h p = quiet_all es h.0 h.3 p
    quiet_stmt prints own (Return e) h p = quiet e _ h p
    quiet_stmt prints own (Block ss) h p = quiet_stmts prints own ss h p
    quiet_stmt prints own (Turn s z) h p = h
    quiet_stmt prints own (Forks k test line value s made now) h p = h
    quiet_stmt prints own (Each k test line value s made) h p = h
    quiet_stmt prints own (Wait made) h p = h
    quiet_stmt prints own (Left v) h p = p

    pub quiet_stmts : (prints : Bool) (own : List ℕ) (ss : Stmts) → DetStmts y main here prints own ss → PendStmts ss b → ⊥
    quiet_stmts prints own NoStmts h p = p
    quiet_stmts prints own (MoreStmts s ss) h p = quiet_stmt prints own s h.0 p
