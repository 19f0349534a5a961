-- The longest mark at a place.
use Rattle.std.proofs.Common.{◌≡◌, ◌⊎◌, inl, inr, ℕ, zero, suc, ◌≤◌, true, ◌&&◌, [], ◌∷◌, length, take, get_or, refl, ap, sym, ◌∙◌, arith, length-take, length-take-le}
use Rattle.std.proofs.lemmas.Bool.{and_parts, leb-true}
use Rattle.std.specs.Prelude.{codes, nat_le, Ok, Err}
use Rattle.cc_lexer.specs.declared.class.Class.TheVariants as class
use Rattle.cc_lexer.specs.declared.piece.Piece.TheVariants as piece
use Rattle.cc_lexer.specs.declared.token.Mark.{Mark}
use Rattle.cc_lexer.specs.declared.token.Mark.TheVariants as mark
use Rattle.cc_lexer.specs.declared.token.TokenKind.{TokenKind}
use Rattle.cc_lexer.specs.declared.token.TokenKind.TheVariants.{Mark as Marked}
use Rattle.cc_lexer.specs.declared.fault.LexFault.TheVariants.{BadByte}
use Rattle.cc_lexer.specs.Spelling.{Text, mark_text, Spells}
use Rattle.cc_lexer.specs.Cut.{Begins, NoneStands, IsBlank}
use Rattle.cc_lexer.specs.Faults.{bad_byte}
use Rattle.cc_lexer.specs.Next.{class_at, IsNext}
use Rattle.cc_lexer.proofs.Classes.{class_of}
use Rattle.cc_lexer.proofs.Moves.{stands_class}
use Rattle.cc_lexer.proofs.Apart.{no_comment, no_string, only_include}
use Rattle.cc_lexer.proofs.Views.{HasFirst, viewed}
use Rattle.cc_lexer.proofs.Longest.{longest_of}

sizes : (m : Mark) → (nat_le 1 (length (mark_text m)) && nat_le (length (mark_text m)) 2) ≡ true
sizes mark.OpenParen = refl
sizes _ = refl

one_or_two : (m : Mark) → (length (mark_text m) ≡ 1) ⊎ (length (mark_text m) ≡ 2)
one_or_two m =
    let n = length (mark_text m) in
    let w = and_parts (nat_le 1 n) (nat_le n 2) (sizes m) in
    go n (leb-true 1 n w.0) (leb-true n 2 w.1)
  where
    go : (n : ℕ) → 1 ≤ n → n ≤ 2 → (n ≡ 1) ⊎ (n ≡ 2)
    go zero h i = absurd (omega arith)
    go (suc zero) h i = inl refl
    go (suc (suc zero)) h i = inr refl
    go (suc (suc (suc n))) h i = absurd (omega arith)

size_is : (here : Text) (m : Mark) (n : ℕ) → n ≤ length here → take n here ≡ mark_text m → n ≡ length (mark_text m)
size_is here m n h e = sym (length-take-le n here h) ∙ ap length e

-- the mark of a token in this class
marks_of : (other : TokenKind) (text : Text) → Spells other text → class.Other ≡ class_of other → (m : Mark) × (text ≡ mark_text m)
marks_of (Marked m) text h e = (m, h)
marks_of _ text h e = cc

module _ (before here : Text) (class_is : class_at here ≡ class.Other) where
  most_two : (other : TokenKind) (n : ℕ) → n ≤ length here → Spells other (take n here) → class.Other ≡ class_of other → n ≤ 2
  most_two other n h s e = let w = marks_of other (take n here) s e in go n w.0 (size_is here w.0 n h w.1) (one_or_two w.0)
    where
      go : (k : ℕ) (m : Mark) → k ≡ length (mark_text m) → (length (mark_text m) ≡ 1) ⊎ (length (mark_text m) ≡ 2) → k ≤ 2
      go k m p (inl q) = omega (arith, p, q)
      go k m p (inr q) = omega (arith, p, q)

  pub double_next : (m : Mark) → length (mark_text m) ≡ 2 → take 2 here ≡ mark_text m → IsNext before here (Ok (piece.Token (Marked m) 2))
  double_next m size e =
      (longest_of here (Marked m) 2 class_is (omega (arith, ap length e, size, length-take 2 here)) e (λ other n h s same. most_two other n h s same), tt)

  module _ (no_double : (m : Mark) → (length (mark_text m) ≡ 2) × (take 2 here ≡ mark_text m) → ⊥) where
    -- a mark that stands here is the first byte
    is_first : (m : Mark) (n : ℕ) → n ≤ length here → take n here ≡ mark_text m → (n ≡ 1) × (get_or here 0 0 ∷ [] ≡ mark_text m)
    is_first m n h e = go n (size_is here m n h e) (one_or_two m) e
      where
        first : (t : Text) → HasFirst (λ b. true) t → take 1 t ≡ get_or t 0 0 ∷ []
        first [] v = let p = v.parts in cc
        first (b ∷ bs) v = refl

        go : (k : ℕ) → k ≡ length (mark_text m) → (length (mark_text m) ≡ 1) ⊎ (length (mark_text m) ≡ 2) → take k here ≡ mark_text m → (k ≡ 1) × (get_or here 0 0 ∷ [] ≡ mark_text m)
        go k p (inl q) f = let s : k ≡ 1 = p ∙ q in (s, sym (first here (viewed here class.Other class_is)) ∙ (rw s at f))
        go k p (inr q) f = let s : k ≡ 2 = p ∙ q in absurd (no_double m (q, rw s at f))

    pub single_next : (m : Mark) → get_or here 0 0 ∷ [] ≡ mark_text m → IsNext before here (Ok (piece.Token (Marked m) 1))
    single_next m e =
        let v = viewed here class.Other class_is in
        let f : take 1 here ≡ mark_text m = ap (take 1) v.parts ∙ ap (λ b. b ∷ []) (sym (ap (λ t. get_or t 0 0) v.parts)) ∙ e in (
          longest_of here (Marked m) 1 class_is (omega (arith, ap length v.parts)) f
              (λ other n h s same. let w = marks_of other (take n here) s same in omega (arith, (is_first w.0 n h w.1).0)),
          tt,
        )

    module _ (no_single : (m : Mark) → get_or here 0 0 ∷ [] ≡ mark_text m → ⊥) where
      none_stands : NoneStands here
      none_stands kind n s =
          let w = marks_of kind (take n here) s.spelled (sym class_is ∙ stands_class here kind n s) in
          no_single w.0 (is_first w.0 n s.within w.1).1

      no_hash : Begins here (codes "#include") → ⊥
      no_hash b = let e : class_at here ≡ class.Hash = ap class_at b.1 in cc

      no_blank : (n : ℕ) → IsBlank before here n → ⊥
      no_blank n h =
          let w = only_include before here n h (λ e. cc) (λ e. cc) (λ e. cc) in no_hash w.0

      pub no_mark_next : IsNext before here (Err (BadByte (length before)))
      no_mark_next =
          let v = viewed here class.Other class_is in
          bad_byte (omega (arith, ap length v.parts)) no_blank none_stands (no_comment here class.Other class_is (λ e. cc)) (no_string here class.Other class_is (λ e. cc))
