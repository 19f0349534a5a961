-- How blanks are found.
use Rattle.std.proofs.Common.{◌≡◌, ◌↔◌, ◌⊎◌, inl, inr, ℕ, suc, ◌+◌, ◌<◌, ◌≤◌, Bool, true, false, ◌==◌, not, cond, [], ◌∷◌, ◌++◌, length, take, drop, get_or, refl, ap, sym, ◌∙◌, arith, zero-add, add-zero, length-drop, length-append}
use Rattle.std.proofs.Math.Seq.{take-add}
use Rattle.std.proofs.lemmas.Slice.Eq.{starts_is}
use Rattle.std.proofs.lemmas.Bool.{cases_order, and_parts, not-true, ne_eqb}
use Rattle.std.proofs.lemmas.Bool.Decides.{Decides-eqb}
use Rattle.std.proofs.lemmas.List.Sums.{sum_by-cons, sum_by-append}
use Rattle.std.specs.Prelude.{codes, nat_eq, count_by, IsTrue, Ok, Err}
use Rattle.std.specs.List.{starts_with, list_all}
use Rattle.cc_lexer.specs.declared.class.Class.TheVariants as class
use Rattle.cc_lexer.specs.declared.piece.Piece.TheVariants as piece
use Rattle.cc_lexer.specs.declared.token.TokenKind.{TokenKind}
use Rattle.cc_lexer.specs.declared.token.TokenKind.TheVariants.{Name}
use Rattle.cc_lexer.specs.declared.fault.LexFault.TheVariants.{BadByte, OpenComment}
use Rattle.cc_lexer.specs.Spelling.{Text}
use Rattle.cc_lexer.specs.Cut.{Begins, HasNoPlace, IsFirstPlace, is_blank, is_line_feed, line_length, is_indent, IsBlank, byte, line_comment, comment, include_line, NoneStands}
use Rattle.cc_lexer.specs.Faults.{open_comment, bad_byte}
use Rattle.cc_lexer.specs.Next.{class_at, IsNext}
use Rattle.cc_lexer.proofs.Classes.{class_of}
use Rattle.cc_lexer.proofs.Moves.{stands_class}
use Rattle.cc_lexer.proofs.Apart.{no_comment, no_string, only_include}
use Rattle.cc_lexer.proofs.Fronts.{front_passes}
use Rattle.cc_lexer.proofs.Views.{HasFirst, viewed}

pub begins_test : (here bytes : Text) (r : Bool) → r ≡ starts_with nat_eq here bytes → (IsTrue r) ↔ Begins here bytes
begins_test here bytes r e =
    let w = starts_is Decides-eqb here bytes r e in
    ((λ h. (drop (length bytes) here, w.0 h)), (λ h. w.1 h.0 h.1))

-- the bytes stand neither here nor before
pub past : (bytes text : Text) (at : ℕ) (r : Bool) → (IsTrue r) ↔ Begins (drop at text) bytes → r ≡ false → ((k : ℕ) → Begins (drop k text) bytes → at ≤ k) → (k : ℕ) → Begins (drop k text) bytes → at + 1 ≤ k
past bytes text at r e f h k b = go (cases_order at k)
  where
    go : (at ≡ k) ⊎ ((at < k) ⊎ (k < at)) → at + 1 ≤ k
    go (inl same) = absurd (let i = rw (sym same) at b in let t = e.1 i in cc)
    go (inr (inl l)) = omega (arith, l)
    go (inr (inr l)) = absurd (omega (arith, l, h k b))

-- they stand nowhere
pub nowhere : (bytes text : Text) → 0 < length bytes → ((k : ℕ) → Begins (drop k text) bytes → length text ≤ k) → HasNoPlace bytes text
nowhere bytes text some h k b =
    let n = ap length b.1 in
    omega (arith, h k b, some, length-drop k text, length-append bytes b.0, n)

-- ---- line feeds

single_feed : (here : Text) (v : HasFirst is_blank here) → count_by is_line_feed (take 1 here) ≡ cond (v.first == 10) 1 0
single_feed here v = ap (λ t. count_by is_line_feed (take 1 t)) v.parts ∙ go (v.first == 10)
  where
    go : (x : Bool) → 0 + cond x 1 0 ≡ cond x 1 0
    go true = refl
    go false = refl

-- no line feed is counted where none is
pub none_counted : (xs : Text) → list_all (λ b. not (is_line_feed b)) xs ≡ true → count_by is_line_feed xs ≡ 0
none_counted [] h = refl
none_counted (x ∷ xs) h =
    let w = and_parts (not (is_line_feed x)) (list_all (λ b. not (is_line_feed b)) xs) h in
    sum_by-cons (λ b. cond (is_line_feed b) 1 0) x xs ∙ rw (not-true (is_line_feed x) w.0, none_counted xs w.1) refl

-- the rest of a line has none
line_feeds_none : (here : Text) → count_by is_line_feed (take (line_length here) here) ≡ 0
line_feeds_none here = none_counted (take (line_length here) here) (front_passes (λ b. not (is_line_feed b)) here)

-- a comment has those of its inside
comment_feeds : (inside : Text) (n : ℕ) → Begins (drop n inside) (codes "*/") → count_by is_line_feed (take (n + 4) (codes "/*" ++ inside)) ≡ count_by is_line_feed (take n inside)
comment_feeds inside n b =
    let P : Text → ℕ = count_by is_line_feed in
    let s : n + 4 ≡ suc (suc (n + 2)) = omega arith in
    let t : take (n + 2) inside ≡ take n inside ++ codes "*/" = take-add n 2 inside ∙ ap (λ u. take n inside ++ take 2 u) b.1 in
    let c : P (take n inside ++ codes "*/") ≡ P (take n inside) = sum_by-append (λ x. cond (is_line_feed x) 1 0) (take n inside) (codes "*/") ∙ add-zero (P (take n inside)) in
    rw s (sum_by-cons (λ x. cond (is_line_feed x) 1 0) 47 (42 ∷ take (n + 2) inside) ∙ ap (λ k. 0 + k) (sum_by-cons (λ x. cond (is_line_feed x) 1 0) 42 (take (n + 2) inside)) ∙ zero-add _ ∙ zero-add (P (take (n + 2) inside)) ∙ ap P t ∙ c)

-- ---- what is next

module _ (before here : Text) where
  pub single_next : class_at here ≡ class.Blank → IsBlank before here 1
  single_next e = let v = viewed here class.Blank e in byte v.parts v.passes

  first_is : (v : HasFirst is_blank here) → get_or here 0 0 ≡ v.first
  first_is v = ap (λ t. get_or t 0 0) v.parts

  pub one_feed : class_at here ≡ class.Blank → get_or here 0 0 ≡ 10 → 1 ≡ count_by is_line_feed (take 1 here)
  one_feed e h =
      let v = viewed here class.Blank e in
      sym (single_feed here v ∙ ap (λ b. cond (b == 10) 1 0) (sym (first_is v) ∙ h))

  pub no_feed : class_at here ≡ class.Blank → (get_or here 0 0 ≡ 10 → ⊥) → 0 ≡ count_by is_line_feed (take 1 here)
  no_feed e h =
      let v = viewed here class.Blank e in
      sym (single_feed here v ∙ rw (ne_eqb v.first 10 (λ f. h (first_is v ∙ f))) refl)

  pub line_next : class_at here ≡ class.LineComment → IsNext before here (Ok (piece.Blank (line_length here) 0))
  line_next e = (line_comment (viewed here class.LineComment e), sym (line_feeds_none here))

  pub include_next : Begins here (codes "#include") → IsTrue (is_indent before) → IsNext before here (Ok (piece.Blank (line_length here) 0))
  include_next b h = (include_line b h, sym (line_feeds_none here))

  none_stands : class_at here ≡ class.Hash → NoneStands here
  none_stands e kind n s = apart kind (sym e ∙ stands_class here kind n s)
    where
      apart : (k : TokenKind) → class.Hash ≡ class_of k → ⊥
      apart Name h = cc
      apart _ h = cc

  pub no_include_next : class_at here ≡ class.Hash → (Begins here (codes "#include") → IsTrue (is_indent before) → ⊥) → IsNext before here (Err (BadByte (length before)))
  no_include_next e h =
      let v = viewed here class.Hash e in
      bad_byte (omega (arith, ap length v.parts))
      (λ n b. let w = only_include before here n b (λ f. cc) (λ f. cc) (λ f. cc) in h w.0 w.1)
      (none_stands e) (no_comment here class.Hash e (λ f. cc)) (no_string here class.Hash e (λ f. cc))

  module _ (inside : Text) (opened : class_at here ≡ class.Comment) (inside_is : inside ≡ drop 2 here) where
    pub comment_next : (n feeds : ℕ) → IsFirstPlace (codes "*/") inside n → feeds ≡ count_by is_line_feed (take n inside) → IsNext before here (Ok (piece.Blank (n + 4) feeds))
    comment_next n feeds p f =
        let b = viewed here class.Comment opened in
        let q : IsFirstPlace (codes "*/") (drop 2 here) n = rw inside_is at p in
        let g : inside ≡ b.0 = inside_is ∙ ap (drop 2) b.1 in
        (comment b q, f ∙ sym (ap (λ t. count_by is_line_feed (take (n + 4) t)) (b.1 ∙ ap (λ t. codes "/*" ++ t) (sym g)) ∙ comment_feeds inside n p.found))

    pub open_comment_next : HasNoPlace (codes "*/") inside → IsNext before here (Err (OpenComment (length before)))
    open_comment_next h = open_comment (viewed here class.Comment opened) (λ k b. h k (rw (sym inside_is) at b))
