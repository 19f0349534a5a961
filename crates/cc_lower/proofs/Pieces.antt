-- Pieces of code, one behind the other.
use Rattle.std.proofs.Common.{◌≡◌, ℕ, suc, ◌+◌, List, [], ◌∷◌, ◌++◌, length, get_or, sym, ap, ◌∙◌, arith, append_assoc, append-nil, length-append}
use Rattle.std.specs.Prelude.{slice_set}
use Rattle.std.proofs.Math.Seq.{set-append_seam, get_or-append_seam}
use Rattle.cc_code.specs.Code.{Instr, EndI, Placed, Code}
use Rattle.cc_code.specs.Layout.{placed}
use Rattle.cc_follows.proofs.Lays.{after}
use Rattle.stack_code.specs.View.{with_target, aimed}
use Rattle.cc_lower.specs.Emitted.{put, here, aim_here}

-- the code with these instructions behind it
abbrev pub behind : Code → List Placed → Code
behind c xs = record { places = c.places ++ xs; entries = c.entries; shapes = c.shapes }

pub after_length : (b : ℕ) (xs : List Placed) → after b xs ≡ b + length xs
after_length b [] = omega arith
after_length b (x ∷ xs) =
    let h = after_length (suc b) xs in
    let e : suc b + length xs ≡ b + suc (length xs) = omega arith in
    h ∙ e

pub behind_nothing : (c : Code) → c ≡ behind c []
behind_nothing c = ap (λ (l : List Placed). record { places = l; entries = c.entries; shapes = c.shapes }) (sym (append-nil c.places))

pub join : (c : Code) (xs ys : List Placed) → behind (behind c xs) ys ≡ behind c (xs ++ ys)
join c xs ys = ap (λ (l : List Placed). record { places = l; entries = c.entries; shapes = c.shapes }) (append_assoc c.places xs ys)

pub regroup : (c : Code) (xs ys zs : List Placed) → behind c ((xs ++ ys) ++ zs) ≡ behind c (xs ++ (ys ++ zs))
regroup c xs ys zs = ap (behind c) (append_assoc xs ys zs)

pub here_behind : (c : Code) (xs : List Placed) → here (behind c xs) ≡ after (here c) xs
here_behind c xs = length-append c.places xs ∙ sym (after_length (here c) xs)

pub here_put : (c : Code) (n : ℕ) (i : Instr) → here (put c n i) ≡ suc (here c)
here_put c n i = here_behind c (placed n i)

-- a piece that depends on where it begins
pub next : (c d : Code) (xs : List Placed) (f : ℕ → List Placed) (k : ℕ) → d ≡ behind c xs → after (here c) xs ≡ k → behind d (f (here d)) ≡ behind c (xs ++ f k)
next c d xs f k is end =
    ap (λ (x : Code). behind x (f (here x))) is
    ∙ (ap (λ (m : ℕ). behind (behind c xs) (f m)) (here_behind c xs ∙ end) ∙ join c xs (f k))

pub last : (c d : Code) (xs : List Placed) (n : ℕ) (i : Instr) → d ≡ behind c xs → put d n i ≡ behind c (xs ++ placed n i)
last c d xs n i is = ap (λ (x : Code). put x n i) is ∙ join c xs (placed n i)

-- two pieces
pub two : (c d e : Code) (xs : List Placed) (f : ℕ → List Placed) (k : ℕ) → d ≡ behind c xs → e ≡ behind d (f (here d)) → after (here c) xs ≡ k → e ≡ behind c (xs ++ f k)
two c d e xs f k one other end = other ∙ next c d xs f k one end

-- two pieces and an instruction
pub three : (c d e : Code) (xs : List Placed) (f : ℕ → List Placed) (k n : ℕ) (i : Instr) → d ≡ behind c xs → e ≡ behind d (f (here d)) → after (here c) xs ≡ k → put e n i ≡ behind c (xs ++ (f k ++ placed n i))
three c d e xs f k n i one other end = last c e (xs ++ f k) n i (two c d e xs f k one other end) ∙ regroup c xs (f k) (placed n i)

-- another target of an instruction that stands behind the code
abbrev retargeted : (which to at : ℕ) → List Placed → List Placed
retargeted which to at l =
    let old = get_or l at (record { instr = EndI; line = 0 }) in slice_set l at (record { instr = aimed old.instr which to; line = old.line })

pub seam : (c : Code) (n : ℕ) (i : Instr) (xs : List Placed) (which to : ℕ) → with_target (behind (put c n i) xs) (here c) which to ≡ behind (put c n (aimed i which to)) xs
seam c n i xs which to =
    let p : Placed = record { instr = i; line = n } in
    let q : Placed = record { instr = aimed i which to; line = n } in
    let flat : (c.places ++ p ∷ []) ++ xs ≡ c.places ++ p ∷ xs = append_assoc c.places (p ∷ []) xs in
    let back : c.places ++ q ∷ xs ≡ (c.places ++ q ∷ []) ++ xs = sym (append_assoc c.places (q ∷ []) xs) in
    let old : get_or (c.places ++ p ∷ xs) (length c.places) (record { instr = EndI; line = 0 }) ≡ p = get_or-append_seam c.places p xs _ in
    let at : retargeted which to (length c.places) (c.places ++ p ∷ xs) ≡ c.places ++ q ∷ xs =
    ap (λ (o : Placed). slice_set (c.places ++ p ∷ xs) (length c.places) (record { instr = aimed o.instr which to; line = o.line })) old
    ∙ set-append_seam c.places p xs q in
    ap (λ (l : List Placed). record { places = l; entries = c.entries; shapes = c.shapes })
    (ap (retargeted which to (length c.places)) flat ∙ (at ∙ back))

-- an instruction whose target is the place behind what follows it
pub patched : (c one e : Code) (xs : List Placed) (n : ℕ) (i : Instr) (zs : ℕ → List Placed) (k out : ℕ) → one ≡ behind c xs → after (here c) xs ≡ k → e ≡ behind (put one n i) (zs (here (put one n i))) → after (suc k) (zs (suc k)) ≡ out → aim_here e (here one) ≡ behind c (xs ++ (placed n (aimed i 0 out) ++ zs (suc k)))
patched c one e xs n i zs k out is end goes stops =
    let d = behind c xs in
    let start : here d ≡ k = here_behind c xs ∙ end in
    let first : here (put d n i) ≡ suc k = here_put d n i ∙ ap suc start in
    let whole : e ≡ behind (put d n i) (zs (suc k)) =
    goes ∙ (ap (λ (o : Code). behind (put o n i) (zs (here (put o n i)))) is ∙ ap (λ (m : ℕ). behind (put d n i) (zs m)) first) in
    let behind_all : here e ≡ out =
    ap here whole ∙ (here_behind (put d n i) (zs (suc k)) ∙ (ap (λ (m : ℕ). after m (zs (suc k))) first ∙ stops)) in
    let aims : aim_here e (here one) ≡ with_target (behind (put d n i) (zs (suc k))) (here d) 0 out =
    ap (λ (x : Code). with_target x (here one) 0 (here e)) whole
    ∙ (ap (λ (m : ℕ). with_target (behind (put d n i) (zs (suc k))) m 0 (here e)) (ap here is)
    ∙ ap (λ (m : ℕ). with_target (behind (put d n i) (zs (suc k))) (here d) 0 m) behind_all) in
    aims
    ∙ (seam d n i (zs (suc k)) 0 out
    ∙ (join d (placed n (aimed i 0 out)) (zs (suc k)) ∙ join c xs (placed n (aimed i 0 out) ++ zs (suc k))))
