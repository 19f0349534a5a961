-- The laws on runs of well-typed programs.
use Rattle.std.proofs.Common.{◌≡◌, ℕ, zero, suc, length, true, false, List, [], ◌∷◌, Some, sym, ap, subst, ◌∙◌, ⊎_elim, inl, inr, Option, None, ◌⊎◌, refl}
use Rattle.std.specs.Prelude.{ℤ, slice_get, map}
use Rattle.std.specs.FinMap as fin
use Rattle.std.proofs.lemmas.List.{length-map}
use Rattle.cc_ops.specs.Values.{Int, Plain, Empty, Full, Void, Null, Ptr}
use Rattle.cc_core.specs.Names.{Name, Value, Cell}
use Rattle.cc_core.specs.Core.{Program, Term}
use Rattle.cc_core.specs.Asks.{Ask, Answer, Reads, Writes, Copies, Indexes, Shifts, Computes, Tests, Makes, MakesWith, Builds, Enters}
use Rattle.cc_core.specs.Asks.{Leaves, ForksAll, ForksOne, Joins, Spawns, Prints, Calls, Casts, NewProcessor}
use Rattle.cc_core.specs.Next.{After, Asks, next}
use Rattle.cc_core.specs.Config.{Config, Thread, Live, Ended, Object}
use Rattle.core_types.specs.Types.{ValueType, Pointer, Target, ObjectOf, Types, class_types, IsCopied, AllCross, IsValue, CellType, Holds}
use Rattle.core_types.specs.Values.{World, IsWhole, cell_type, Fits, CellFits}
use Rattle.core_types.specs.Asks.{IsAsk}
use Rattle.core_types.specs.Programs.{HasTypes, WellTyped}
use Rattle.core_types.specs.Runs.{InStep, IsReachedFrom}
use Rattle.core_types.specs.Kinds.{HasKinds, StaysHere, IsInt, IsAddress, IsWholeAt}
use Rattle.core_types.specs.Homes.{TypesCross, KeepHomes, HoldsAt}
use Rattle.core_types.proofs.Basics.{no_pointer, no_int, leads_of, crosses, same_some}
use Rattle.core_types.proofs.AskKinds.{kinds_of_ask, stays_of_ask, near_is, ask_typed}
use Rattle.core_types.proofs.Start.{reached_has_types, main_is_int}

pub main_int : (p : Program) → WellTyped p → (ns : List ℤ) (s : Config) (v : Value) → IsReachedFrom p ns s
    → fin.get s.threads [] ≡ Some (Ended v) → (n : ℤ) × (v ≡ Int n)
main_int p ok ns s v h e = main_is_int p ok.0 ok.1 ns s v h e

pub kinds : (p : Program) → WellTyped p → (ns : List ℤ) (s : Config) → IsReachedFrom p ns s → (t : Name) (l : Thread)
    → fin.get s.threads t ≡ Some (Live l) → (line : ℕ) (ask : Ask Name) (k : Answer Name → After Term) → next p l.term ≡ Asks line ask k
    → HasKinds p ask
kinds p ok ns s h t l live line ask k asks =
    let c = reached_has_types p ok.0 ok.1 ns s h in
    let a = ask_typed p ok.0 ok.1 c.0 s c.1 t l live line ask k asks in
    kinds_of_ask p ok.0 ok.1 c.0 l.home true ask a.0 a.1

pub stays : (p : Program) → WellTyped p → (ns : List ℤ) (s : Config) → IsReachedFrom p ns s → (t : Name) (l : Thread)
    → fin.get s.threads t ≡ Some (Live l) → (line : ℕ) (ask : Ask Name) (k : Answer Name → After Term) → next p l.term ≡ Asks line ask k
    → StaysHere s l.home ask
stays p ok ns s h t l live line ask k asks =
    let c = reached_has_types p ok.0 ok.1 ns s h in
    let a = ask_typed p ok.0 ok.1 c.0 s c.1 t l live line ask k asks in
    stays_of_ask p ok.0 ok.1 c.0 l.home s c.1.objects true ask a.0 a.1

types_cross : (p : Program) (y : Types) (w : World) (q : Name) (ask : Ask Name) (us : List ValueType) → IsAsk p y w q true ask us → TypesCross y ask us
types_cross p y w q (Reads false x) us f = tt
types_cross p y w q (Reads true x) us f = subst AllCross (sym f.7) (f.5, tt)
types_cross p y w q (Writes remote x v) us f = tt
types_cross p y w q (Copies x n) us f = tt
types_cross p y w q (Indexes x n i) us f = tt
types_cross p y w q (Shifts x i) us f = tt
types_cross p y w q (Computes op vs) us f = tt
types_cross p y w q Tests us f = tt
types_cross p y w q (Makes kind n) us f = tt
types_cross p y w q (MakesWith kind v) us f = tt
types_cross p y w q (Builds c vs) us f = tt
types_cross p y w q (Enters k o vs) us f = tt
types_cross p y w q Leaves us f = tt
types_cross p y w q (ForksAll n) us f = tt
types_cross p y w q (ForksOne x) us f = tt
types_cross p y w q (Joins made) us f = tt
types_cross p y w q (Spawns k o vs) us f = tt
types_cross p y w q (Prints parts vs) us f = tt
types_cross p y w q (Calls k o vs) us f = (f.0.4, f.0.5)
types_cross p y w q (Casts k o vs) us f = f.0.4
types_cross p y w q (NewProcessor c vs) us f = f.1

pub homes : (p : Program) (y : Types) → HasTypes p y → (ns : List ℤ) (s : Config) → IsReachedFrom p ns s → KeepHomes p y s
homes p y ok ns s h =
    let c = reached_has_types p y ok ns s h in
    let near = λ (q : Name) (v : Value) (a : Target) (f : Fits y c.0 q v (Pointer false a)). near_is p y ok c.0 q s c.1.objects v a f in (
      c.0,
      record {
        typed = c.1;
        local = near;
        cells = λ o x e i sync a v there known type holds.
            let b = c.1.objects o e known in
            let same : b.0 ≡ x = same_some b.0 x (sym b.1 ∙ there) in
            let home : e.home ≡ x.home = sym b.2.0 ∙ ap (λ (z : Object). z.home) same in
            let value : Fits y c.0 e.home v (Pointer false a) = ⊎_elim
            (λ (g : slice_get x.cells i ≡ Some (Plain v)).
            (subst (CellFits y c.0 e.home (Plain v)) type (b.2.1 i (Plain v) (ap (λ (z : Object). slice_get z.cells i) same ∙ g))).1)
            (λ (g : slice_get x.cells i ≡ Some (Full v)).
            (subst (CellFits y c.0 e.home (Full v)) type (b.2.1 i (Full v) (ap (λ (z : Object). slice_get z.cells i) same ∙ g))).1)
            holds in
            near x.home v a (subst (λ z. Fits y c.0 z v (Pointer false a)) home value);
        crossing = λ q r v u k f. crosses y c.0 q r v u k f;
        sent = λ t l live line ask k asks.
            let a = ask_typed p y ok c.0 s c.1 t l live line ask k asks in (a.0, a.1, types_cross p y c.0 l.home ask a.0 a.1);
      },
    )

-- cells hold values

value_or : (y : Types) (w : World) (q : Name) (v : Value) (u : ValueType) → IsValue u → Fits y w q v u → IsInt v ⊎ IsAddress v
value_or y w q Void u i f = absurd (subst IsValue f i)
value_or y w q (Int n) u i f = inl tt
value_or y w q Null u i f = inr tt
value_or y w q (Ptr o x) u i f = inr tt

cell_value : (y : Types) (w : World) (q : Name) (c : Cell) (v : Value) (a : Option CellType) → (c ≡ Plain v) ⊎ (c ≡ Full v)
    → CellFits y w q c a → IsInt v ⊎ IsAddress v
cell_value y w q c v None e f = absurd f
cell_value y w q c v (Some (Holds sync u)) e f = ⊎_elim
    (λ (p : c ≡ Plain v). let g = subst (λ z. CellFits y w q z (Some (Holds sync u))) p f in value_or y w q v u g.2 g.1)
    (λ (p : c ≡ Full v). let g = subst (λ z. CellFits y w q z (Some (Holds sync u))) p f in value_or y w q v u g.2 g.1)
    e

pub cells_hold : (p : Program) → WellTyped p → (ns : List ℤ) (s : Config) → IsReachedFrom p ns s → (o : Name) (x : Object)
    → fin.get s.objects o ≡ Some x → (i : ℕ) (v : Value) → HoldsAt x i v → IsInt v ⊎ IsAddress v
cells_hold p ok ns s h o x there i v holds =
    let c = reached_has_types p ok.0 ok.1 ns s h in
    let e = c.1.known o x there in
    let b = c.1.objects o e.0 e.1 in
    let same : b.0 ≡ x = same_some b.0 x (sym b.1 ∙ there) in
    ⊎_elim
    (λ (g : slice_get x.cells i ≡ Some (Plain v)).
    cell_value ok.0 c.0 e.0.home (Plain v) v _ (inl refl) (b.2.1 i (Plain v) (ap (λ (z : Object). slice_get z.cells i) same ∙ g)))
    (λ (g : slice_get x.cells i ≡ Some (Full v)).
    cell_value ok.0 c.0 e.0.home (Full v) v _ (inr refl) (b.2.1 i (Full v) (ap (λ (z : Object). slice_get z.cells i) same ∙ g)))
    holds

-- class arguments are whole

plain_cell : (y : Types) (w : World) (q : Name) (c : Cell) (us : List ValueType) (i : ℕ) → CellFits y w q c (slice_get (map (Holds false) us) i)
    → (v : Value) × (c ≡ Plain v)
plain_cell y w q c [] i f = absurd f
plain_cell y w q (Plain v) (u ∷ us) zero f = (v, refl)
plain_cell y w q Empty (u ∷ us) zero f = let z : false ≡ true = f.0 in cc
plain_cell y w q (Full v) (u ∷ us) zero f = let z : false ≡ true = f.0 in cc
plain_cell y w q c (u ∷ us) (suc i) f = plain_cell y w q c us i f

whole_at : (y : Types) (w : World) (q : Name) (s : Config) → InStep y w s.objects w.objects → (from : Value) (n c : ℕ) (us : List ValueType)
    → Fits y w q from (Pointer false (ObjectOf c)) → IsCopied y c us → length us ≡ n → IsWholeAt s from n
whole_at y w q s stored Void n c us f i many = no_pointer false (ObjectOf c) f
whole_at y w q s stored (Int k) n c us f i many = no_int false (ObjectOf c) f
whole_at y w q s stored Null n c us f i many = tt
whole_at y w q s stored (Ptr o x) n c us f i many =
    let d = leads_of y w q o x false (ObjectOf c) f in
    let b = stored o d.0 d.1 in
    let all : length b.0.cells ≡ length (class_types y c).cells = subst (λ r. IsWhole y r b.0.cells) d.2.0 b.2.2 in (
      b.0,
      b.1,
      all ∙ (ap length i ∙ (length-map us (Holds false) ∙ many)),
      λ k z g. plain_cell y w d.0.home z us k (subst (λ r. CellFits y w d.0.home z (slice_get r k)) i
          (subst (λ r. CellFits y w d.0.home z (cell_type y r k)) d.2.0 (b.2.1 k z g))),
    )

pub copies : (p : Program) → WellTyped p → (ns : List ℤ) (s : Config) → IsReachedFrom p ns s → (t : Name) (l : Thread)
    → fin.get s.threads t ≡ Some (Live l) → (line : ℕ) (from : Value) (n : ℕ) (k : Answer Name → After Term)
    → next p l.term ≡ Asks line (Copies from n) k → IsWholeAt s from n
copies p ok ns s h t l live line from n k asks =
    let c = reached_has_types p ok.0 ok.1 ns s h in
    let a = ask_typed p ok.0 ok.1 c.0 s c.1 t l live line (Copies from n) k asks in
    whole_at ok.0 c.0 l.home s c.1.objects from n a.1.0 a.0 a.1.1 a.1.2 a.1.3
