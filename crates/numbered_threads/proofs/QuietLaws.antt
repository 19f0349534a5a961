-- Silent moves come to an end where silent instructions do.
use Rattle.std.proofs.Common.{◌≡◌, ◌⊎◌, inl, inr, ℕ, zero, suc, ◌<◌, ◌≤◌, List, [], ◌∷◌, length, Option, Some, None, refl, sym, ap, ◌∙◌, subst, arith}
use Rattle.std.specs.Prelude.{slice_get}
use Rattle.cc_ops.specs.Values.{Value}
use Rattle.cc_ops.specs.Operators.{takes}
use Rattle.cc_core.specs.Core.{class_shape}
use Rattle.cc_core.specs.Source.{operands, values}
use Rattle.cc_code.specs.Code.{Instr, PushI, ThisI, VariableI, FieldI, DropI, JumpI, EndI, IndexI, AtI, LoadI, StoreI, OpI, TestI, AndI}
use Rattle.cc_code.specs.Code.{OrI, MakeI, SetI, BuildI, NewI, NewObjectI, CallI, SpawnI, CellsI, RetI, ForkI, EachI, JoinI, PrintI}
use Rattle.cc_code.specs.Code.{Placed, Code, Frame, Thread, Runs, Starting, Finished, Move, Silent, Does, Ends, Stuck, popped, with_popped}
use Rattle.cc_code.specs.Code.{top_one, top_two, act, fetched, move}
use Rattle.cc_code.specs.Settles.{silent_to, Settles}
use Rattle.numbered_threads.specs.Numbered.{IsSilent}
use Rattle.numbered_threads.specs.Quiet.{after_silent, run_quietly, quiet_end}
use Rattle.numbered_threads.proofs.WayLaws.{silent_way, way_bounded, way_falls}

-- how many silent instructions are on the way of a thread
abbrev pub moves_left : {N : Type 0} → Code → Thread N → ℕ
moves_left code (Runs f fs ops) = silent_way code (suc (length code.places)) f.place
moves_left code (Starting g this vs) = 0
moves_left code (Finished v) = 0

module _ {N : Type 0} where
  silent_or_not : (m : Move N) → ((d : Thread N) × (m ≡ Silent d)) ⊎ (¬ IsSilent m)
  silent_or_not (Silent d) = inl (d, refl)
  silent_or_not (Does n q k) = inr (λ s. s)
  silent_or_not (Ends v) = inr (λ s. s)
  silent_or_not Stuck = inr (λ s. s)

  on_loud : (go : Thread N → Thread N) (c : Thread N) (m : Move N) → ¬ IsSilent m → after_silent go c m ≡ c
  on_loud go c (Silent d) loud = absurd (loud tt)
  on_loud go c (Does n q k) loud = refl
  on_loud go c (Ends v) loud = refl
  on_loud go c Stuck loud = refl

module _ {N : Type 0} (code : Code) where
  -- a move that is silent leaves fewer silent moves than that
  abbrev Falls : ℕ → Move N → Type 0
  Falls k (Silent d) = moves_left code d < k
  Falls k m = Unit {0}

  falls_one : (k : ℕ) (ops : List (Value N)) (go : Value N → List (Value N) → Move N)
      → ((v : Value N) (rest : List (Value N)) → Falls k (go v rest)) → Falls k (top_one ops go)
  falls_one k [] go h = tt
  falls_one k (v ∷ ops) go h = h v ops

  falls_two : (k : ℕ) (ops : List (Value N)) (go : Value N → Value N → List (Value N) → Move N)
      → ((v w : Value N) (rest : List (Value N)) → Falls k (go v w rest)) → Falls k (top_two ops go)
  falls_two k [] go h = tt
  falls_two k (v ∷ []) go h = tt
  falls_two k (v ∷ w ∷ ops) go h = h w v ops

  falls_all : (k : ℕ) (o : Option (List (Value N) × List (Value N))) (go : List (Value N) → List (Value N) → Move N)
      → ((vs rest : List (Value N)) → Falls k (go vs rest)) → Falls k (with_popped o go)
  falls_all k None go h = tt
  falls_all k (Some p) go h = h p.0 p.1

module _ {N : Type 0} (code : Code) (settles : (b : ℕ) → Settles code b) (f : Frame N) (fs : List (Frame N)) where
  abbrev here : ℕ
  here = silent_way code (suc (length code.places)) f.place

  goes_to : (c : ℕ) (n : ℕ) (i : Instr) → slice_get code.places f.place ≡ Some (record { instr = i; line = n })
      → silent_to f.place (Some (record { instr = i; line = n })) ≡ Some c → silent_way code (suc (length code.places)) c < here
  goes_to c n i at e = way_falls code settles f.place c (ap (silent_to f.place) at ∙ e)

  falls : (ops : List (Value N)) (n : ℕ) (i : Instr) → slice_get code.places f.place ≡ Some (record { instr = i; line = n })
      → Falls code here (act code f fs ops n i)
  falls ops n (PushI c) at = goes_to (suc f.place) n (PushI c) at refl
  falls ops n ThisI at = goes_to (suc f.place) n ThisI at refl
  falls ops n (VariableI k) at = goes_to (suc f.place) n (VariableI k) at refl
  falls ops n (FieldI o) at = falls_one code here ops _ (λ v rest. goes_to (suc f.place) n (FieldI o) at refl)
  falls ops n DropI at = falls_one code here ops _ (λ v rest. goes_to (suc f.place) n DropI at refl)
  falls ops n (JumpI to) at = goes_to to n (JumpI to) at refl
  falls ops n EndI at = tt
  falls ops n (IndexI size) at = falls_two code here ops _ (λ v w rest. tt)
  falls ops n AtI at = falls_two code here ops _ (λ v w rest. tt)
  falls ops n (LoadI remote) at = falls_one code here ops _ (λ v rest. tt)
  falls ops n (StoreI remote) at = falls_two code here ops _ (λ v w rest. tt)
  falls ops n (OpI op) at = falls_all code here (popped (takes op) ops []) _ (λ vs rest. tt)
  falls ops n (TestI to) at = falls_one code here ops _ (λ v rest. tt)
  falls ops n (AndI to) at = falls_one code here ops _ (λ v rest. tt)
  falls ops n (OrI to) at = falls_one code here ops _ (λ v rest. tt)
  falls ops n (MakeI k kind size) at = tt
  falls ops n (SetI k kind) at = falls_one code here ops _ (λ v rest. tt)
  falls ops n (BuildI k c) at = falls_all code here (popped (class_shape code.shapes c).params ops []) _ (λ vs rest. tt)
  falls ops n (NewI kind size) at = tt
  falls ops n (NewObjectI remote c) at = falls_all code here (popped (class_shape code.shapes c).params ops []) _ (λ vs rest. tt)
  falls ops n (CallI how g) at = falls_all code here (popped (operands code.shapes how g) ops []) _ (λ vs rest. tt)
  falls ops n (SpawnI how g) at = falls_all code here (popped (operands code.shapes how g) ops []) _ (λ vs rest. tt)
  falls ops n (CellsI size) at = falls_one code here ops _ (λ v rest. tt)
  falls ops n RetI at = falls_one code here ops _ (λ v rest. tt)
  falls ops n (ForkI targets) at = tt
  falls ops n (EachI to k) at = tt
  falls ops n JoinI at = tt
  falls ops n (PrintI parts) at = falls_all code here (popped (values parts) ops []) _ (λ vs rest. tt)

  fetched_falls : (ops : List (Value N)) (p : Option Placed) → slice_get code.places f.place ≡ p → Falls code here (fetched code f fs ops p)
  fetched_falls ops None at = tt
  fetched_falls ops (Some p) at = falls ops p.line p.instr at

module _ {N : Type 0} (code : Code) where
  goes : (n : ℕ) (c d : Thread N) → move code c ≡ Silent d → run_quietly code (suc n) c ≡ run_quietly code n d
  goes n c d e = ap (λ (m : Move N). after_silent (run_quietly code n) c m) e

  stays : (n : ℕ) (c : Thread N) → ¬ IsSilent (move code c) → run_quietly code n c ≡ c
  stays zero c loud = refl
  stays (suc n) c loud = on_loud (run_quietly code n) c (move code c) loud

  -- where a thread has come to the end of its silent moves, it has
  no_more : (n : ℕ) (c : Thread N) → ¬ IsSilent (move code (run_quietly code n c)) → run_quietly code (suc n) c ≡ run_quietly code n c
  no_more zero c loud = stays 1 c loud
  no_more (suc n) c loud = elim (silent_or_not (move code c)) [
    | inl s ↦
        let on : run_quietly code (suc n) c ≡ run_quietly code n s.0 = goes n c s.0 s.1 in
        goes (suc n) c s.0 s.1 ∙ no_more n s.0 (subst (λ (d : Thread N). ¬ IsSilent (move code d)) on loud) ∙ sym on
    | inr still ↦ stays (suc (suc n)) c still ∙ sym (stays (suc n) c still)
  ]

  pub quiet_end_stays : (c : Thread N) → ¬ IsSilent (move code c) → quiet_end code c ≡ c
  unfolding quiet_end
  quiet_end_stays = stays (suc (length code.places))

  -- what every silent move keeps is kept
  pub kept_quietly : (P : Thread N → Type 0) → ((c d : Thread N) → P c → move code c ≡ Silent d → P d) → (n : ℕ) (c : Thread N) → P c
      → P (run_quietly code n c)
  kept_quietly P keeps zero c h = h
  kept_quietly P keeps (suc n) c h = elim (silent_or_not (move code c)) [
    | inl s ↦ subst P (sym (goes n c s.0 s.1)) (kept_quietly P keeps n s.0 (keeps c s.0 h s.1))
    | inr still ↦ subst P (sym (stays (suc n) c still)) h
  ]

module _ {N : Type 0} (code : Code) (settles : (b : ℕ) → Settles code b) where
  falls_by_one : (c : Thread N) → Falls code (moves_left code c) (move code c)
  falls_by_one (Runs f fs ops) = fetched_falls code settles f fs ops (slice_get code.places f.place) refl
  falls_by_one (Starting g this vs) = tt
  falls_by_one (Finished v) = tt

  -- each silent move leaves fewer
  pub moves_fall : (c d : Thread N) → move code c ≡ Silent d → moves_left code d < moves_left code c
  moves_fall c d e = subst (Falls code (moves_left code c)) e (falls_by_one c)

  moves_bounded : (c : Thread N) → moves_left code c ≤ length code.places
  moves_bounded (Runs f fs ops) = way_bounded code settles (suc (length code.places)) f.place
  moves_bounded (Starting g this vs) = omega arith
  moves_bounded (Finished v) = omega arith

  ends : (n : ℕ) (c : Thread N) → moves_left code c ≤ n → ¬ IsSilent (move code (run_quietly code n c))
  ends zero c h = elim (silent_or_not (move code c)) [
    | inl s ↦ absurd (omega (arith, h, moves_fall c s.0 s.1))
    | inr loud ↦ loud
  ]
  ends (suc n) c h = elim (silent_or_not (move code c)) [
    | inl s ↦ subst (λ (d : Thread N). ¬ IsSilent (move code d)) (sym (goes code n c s.0 s.1)) (ends n s.0 (omega (arith, h, moves_fall c s.0 s.1)))
    | inr loud ↦ subst (λ (d : Thread N). ¬ IsSilent (move code d)) (sym (stays code (suc n) c loud)) loud
  ]

  pub quiet_end_is_loud : (c : Thread N) → ¬ IsSilent (move code (quiet_end code c))
  unfolding quiet_end
  quiet_end_is_loud c = let few : moves_left code c ≤ suc (length code.places) = omega (arith, moves_bounded c) in ends (suc (length code.places)) c few

  -- a silent move on the way changes nothing of where it ends
  pub quiet_end_goes : (c d : Thread N) → move code c ≡ Silent d → quiet_end code c ≡ quiet_end code d
  unfolding quiet_end
  quiet_end_goes c d e =
      let n : ℕ = length code.places in goes code n c d e ∙ sym (no_more code n d (ends n d (moves_bounded d)))
