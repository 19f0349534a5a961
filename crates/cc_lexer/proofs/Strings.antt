-- A string at a place, or where it breaks off.
use Rattle.std.proofs.Common.{◌≡◌, ℕ, ◌+◌, ◌-◌, ◌<◌, ◌≤◌, true, false, [], ◌∷◌, ◌++◌, length, take, drop, get_or, ap, sym, ◌∙◌, arith, length-drop, length-take-le, length-append, take-append-drop}
use Rattle.std.proofs.lemmas.Bool.{eqb-true, ne_eqb}
use Rattle.std.proofs.lemmas.List.{drop_more, drop_all, take_at, get_or-drop, append_assoc}
use Rattle.std.specs.Prelude.{codes, Ok, Err}
use Rattle.cc_lexer.specs.declared.class.Class.TheVariants as class
use Rattle.cc_lexer.specs.declared.piece.Piece.TheVariants as piece
use Rattle.cc_lexer.specs.declared.token.TokenKind.{TokenKind}
use Rattle.cc_lexer.specs.declared.token.TokenKind.TheVariants.{Str}
use Rattle.cc_lexer.specs.declared.fault.LexFault.TheVariants.{BadByte, OpenString}
use Rattle.cc_lexer.specs.Spelling.{Text, is_inside, IsString, Spells}
use Rattle.cc_lexer.specs.Cut.{Begins}
use Rattle.cc_lexer.specs.Faults.{goes_on, is_line_end, BreaksOff, IsFault, open_string, bad_inside}
use Rattle.cc_lexer.specs.Next.{class_at, IsNext}
use Rattle.cc_lexer.proofs.Classes.{class_of}
use Rattle.cc_lexer.proofs.Views.{viewed}
use Rattle.cc_lexer.proofs.Longest.{longest_of}
use Rattle.cc_lexer.proofs.Insides.{inside_once, string_size, string_parts, quote_halts}

apart : (a b : ℕ) (s t : Text) → a ∷ s ≡ b ∷ t → a < b → ⊥
apart a b s t e h = let f : a ≡ b = cc in omega (arith, f, h)

strings_of : (other : TokenKind) (text : Text) → Spells other text → class.Quote ≡ class_of other → IsString text
strings_of Str text h e = h
strings_of _ text h e = cc

module _ (before here tail : Text) (n : ℕ) (quote : class_at here ≡ class.Quote) (tail_is : tail ≡ drop 1 here) (within : n ≤ length tail) (sound : is_inside (take n tail) ≡ true) (stops : goes_on (drop n tail) ≡ false) where
  abbrev inside : Text
  inside = take n tail

  abbrev rest : Text
  rest = drop n tail

  tail_length : length tail ≡ length here - 1
  tail_length = ap length tail_is ∙ length-drop 1 here

  size : length inside ≡ n
  size = length-take-le n tail within

  opened : here ≡ 34 ∷ tail
  opened =
      let v = viewed here class.Quote quote in
      v.parts ∙ ap (λ b. b ∷ v.rest) (eqb-true v.first 34 v.passes) ∙ ap (λ t. 34 ∷ t) (sym (tail_is ∙ ap (drop 1) v.parts))

  parts : here ≡ codes "\"" ++ inside ++ rest
  parts = opened ∙ ap (λ t. 34 ∷ t) (sym (take-append-drop n tail))

  rest_is : (b : ℕ) → n + 1 < length here → b ≡ get_or here (n + 1) b → rest ≡ b ∷ drop (n + 1) tail
  rest_is b h read =
      let e : get_or tail n b ≡ b = ap (λ t. get_or t n b) tail_is ∙ get_or-drop 1 here n b ∙ ap (λ k. get_or here k b) (omega arith) ∙ sym read in
      drop_more tail n b (omega (arith, h, tail_length)) ∙ ap (λ x. x ∷ drop (n + 1) tail) e

  broken : (Begins rest (codes "\"") → ⊥) → BreaksOff here inside rest
  broken h = record { parts = parts; sound = sound; stops = stops; not_closed = h }

  -- ---- closed

  spelled : n + 1 < length here → 34 ≡ get_or here (n + 1) 34 → take (n + 2) here ≡ codes "\"" ++ inside ++ codes "\""
  spelled h read =
      let p : here ≡ (codes "\"" ++ inside ++ codes "\"") ++ drop (n + 1) tail = parts ∙ ap (λ t. codes "\"" ++ inside ++ t) (rest_is 34 h read) ∙ sym (append_assoc (codes "\"" ++ inside) (codes "\"") (drop (n + 1) tail)) in
      ap (take (n + 2)) p ∙ take_at (codes "\"" ++ inside ++ codes "\"") _ (n + 2) (omega (arith, size, length-append (codes "\"" ++ inside) (codes "\""), length-append (codes "\"") inside))

  most : (other : TokenKind) (m : ℕ) → m ≤ length here → Spells other (take m here) → class.Quote ≡ class_of other → m ≤ n + 2
  most other m i s same =
      let w = strings_of other (take m here) s same in
      let p : 34 ∷ (inside ++ rest) ≡ 34 ∷ (w.0 ++ (codes "\"" ++ drop m here)) = sym parts ∙ string_parts here w.0 m w.2 in
      let k = inside_once inside w.0 rest (codes "\"" ++ drop m here) sound w.1 stops (quote_halts (drop m here)) cc in
      omega (arith, size, k.0, string_size here w.0 m i w.2)

  pub string_next : n + 1 < length here → (b : ℕ) → b ≡ get_or here (n + 1) b → b ≡ 34 → IsNext before here (Ok (piece.Token Str (n + 2)))
  string_next h b read e =
      let r : 34 ≡ get_or here (n + 1) 34 = rw e at read in
      (longest_of here Str (n + 2) quote (omega (arith, h)) (inside, sound, spelled h r) most, tt)

  -- ---- not closed

  pub open_at_end : length here ≤ n + 1 → IsNext before here (Err (OpenString (length before)))
  open_at_end h =
      let r : rest ≡ [] = drop_all n tail (omega (arith, h, tail_length)) in
      open_string (broken (λ b. let e : [] ≡ 34 ∷ b.0 = sym r ∙ b.1 in cc)) (ap is_line_end r)

  pub open_at_line_feed : n + 1 < length here → (b : ℕ) → b ≡ get_or here (n + 1) b → b ≡ 10 → IsNext before here (Err (OpenString (length before)))
  open_at_line_feed h b read e =
      let r : rest ≡ 10 ∷ drop (n + 1) tail = rest_is b h read ∙ ap (λ x. x ∷ drop (n + 1) tail) e in
      open_string (broken (λ q. apart 10 34 _ _ (sym r ∙ q.1) (omega arith))) (ap is_line_end r)

  pub bad_byte_inside : n + 1 < length here → (b : ℕ) → b ≡ get_or here (n + 1) b → (b ≡ 34 → ⊥) → (b ≡ 10 → ⊥) → IsNext before here (Err (BadByte (length before + 1 + n)))
  bad_byte_inside h b read no_quote no_feed =
      let r = rest_is b h read in
      let not_closed : Begins rest (codes "\"") → ⊥ = λ q. let e : b ∷ drop (n + 1) tail ≡ 34 ∷ q.0 = sym r ∙ q.1 in no_quote cc in
      let f : IsFault before here (BadByte (length before + 1 + length inside)) = bad_inside (broken not_closed) (ap is_line_end r ∙ ne_eqb b 10 no_feed) in
      rw size at f
