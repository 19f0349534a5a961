-- Steps of the code that reads and writes numbers and values.
use Rattle.std.proofs.Common.{◌≡◌, ℕ, ◌+◌, List, [], ◌∷◌, ◌++◌, length, take, drop, get_or, refl, sym, ◌∙◌, ap, subst, arith, ℤ, FitsSigned}
use Rattle.std.specs.Int.{w8, w16, w32, w64, from_be_bytes, to_be_bytes, cast_signed, cast_unsigned}
use Rattle.std.proofs.lemmas.List.{length-take-le, take-append-drop, append_assoc}
use Rattle.std.proofs.lemmas.Int.{to_z-of_z}
use mir.Val.{Fits}
use Rattle.global_ptr.specs.declared.values.Addr.{Addr}
use Rattle.marshal.specs.Spellings.{IsBytes, AnyBytes, IsByte, IsNumber, IsSignedNumber, ◌▸◌, Takes, BeginsWith, IsPartial, Puts}
use Rattle.marshal.specs.Values.{SpellsAddress, IsValue}
use Rattle.marshal.proofs.NumberLaws.{IsBytes-tail, IsBytes-front, number_of_2, number_of_4, signed_of_8}
use Rattle.marshal.proofs.ValueLaws.{length-address}

pub IsBytes-of : (bytes : List ℕ) → ((i : ℕ) → Fits w8 (get_or bytes i 0)) → IsBytes bytes
IsBytes-of bytes all i = (all i).fits

-- the bytes are a front of that length, and the rest
cut_front : (n : ℕ) (bytes front rest : List ℕ) → IsBytes bytes → front ≡ take n bytes → rest ≡ drop n bytes → length rest + n ≡ length bytes → (bytes ≡ front ++ rest) × AnyBytes n front
cut_front n bytes front rest all is left long =
    let whole : front ++ rest ≡ bytes = cc (take-append-drop n bytes) in
    (sym whole, record { long = ap length is ∙ length-take-le n bytes (omega arith); all = IsBytes-front front rest (subst IsBytes (sym whole) all) })

pub takes_16 : (bytes front rest : List ℕ) (n : ℕ) → IsBytes bytes → front ≡ take 2 bytes → rest ≡ drop 2 bytes → length rest + 2 ≡ length bytes → n ≡ from_be_bytes w16 front → Takes (IsNumber w16 n) bytes rest
takes_16 bytes front rest n all is left long number =
    let cut = cut_front 2 bytes front rest all is left long in
    record { spelling = front; spelled = subst (λ k. IsNumber w16 k front) (sym number) (number_of_2 front cut.1); whole = cut.0 }

pub takes_32 : (bytes front rest : List ℕ) (n : ℕ) → IsBytes bytes → front ≡ take 4 bytes → rest ≡ drop 4 bytes → length rest + 4 ≡ length bytes → n ≡ from_be_bytes w32 front → Takes (IsNumber w32 n) bytes rest
takes_32 bytes front rest n all is left long number =
    let cut = cut_front 4 bytes front rest all is left long in
    record { spelling = front; spelled = subst (λ k. IsNumber w32 k front) (sym number) (number_of_4 front cut.1); whole = cut.0 }

pub begins_signed : (bytes front rest : List ℕ) (n : ℤ) → IsBytes bytes → front ≡ take 8 bytes → rest ≡ drop 8 bytes → length rest + 8 ≡ length bytes → n ≡ cast_signed w64 (from_be_bytes w64 front) → BeginsWith (IsSignedNumber n) bytes 8
begins_signed bytes front rest n all is left long number =
    let cut = cut_front 8 bytes front rest all is left long in
    record { spelling = front; rest = rest; spelled = subst (λ k. IsSignedNumber k front) (sym number) (signed_of_8 front cut.1); long = cut.1.long; whole = cut.0 }

pub begins_address : (a : Addr) (bytes behind_processor behind_object behind_offset : List ℕ) → Takes (IsNumber w32 a.processor) bytes behind_processor → Takes (IsNumber w32 a.object) behind_processor behind_object → Takes (IsNumber w32 a.offset) behind_object behind_offset → BeginsWith (SpellsAddress a) bytes 12
begins_address a bytes behind_processor behind_object behind_offset p o f =
    let spelled : SpellsAddress a (p.spelling ++ (o.spelling ++ f.spelling)) = record { front = p.spelling; back = o.spelling ++ f.spelling; first = p.spelled; second = record { front = o.spelling; back = f.spelling; first = o.spelled; second = f.spelled; whole = refl }; whole = refl } in
    let parts : bytes ≡ p.spelling ++ (o.spelling ++ (f.spelling ++ behind_offset)) = cc in
    record {
      spelling = p.spelling ++ (o.spelling ++ f.spelling);
      rest = behind_offset;
      spelled = spelled;
      long = length-address a _ spelled;
      whole = parts ∙ sym (append_assoc p.spelling (o.spelling ++ f.spelling) behind_offset ∙ ap (λ l. p.spelling ++ l) (append_assoc o.spelling f.spelling behind_offset));
    }

pub begins_tagged : (tag : ℕ) (P : List ℕ → Type 0) (bytes rest : List ℕ) (first n : ℕ) → bytes ≡ first ∷ rest → first ≡ tag → BeginsWith P rest n → BeginsWith (IsByte tag ▸ P) bytes (n + 1)
begins_tagged tag P bytes rest first n cut is b = record {
  spelling = tag ∷ b.spelling;
  rest = b.rest;
  spelled = record { front = tag ∷ []; back = b.spelling; first = refl; second = b.spelled; whole = refl };
  long = (let long = b.long in omega arith);
  whole = cut ∙ cc (is, b.whole);
}

-- the tag is read, and too few bytes for what follows it
pub tagged_is_partial : (tag : ℕ) (bytes rest : List ℕ) (first : ℕ) → bytes ≡ first ∷ rest → first ≡ tag → IsPartial IsValue (tag ∷ rest) → IsPartial IsValue bytes
tagged_is_partial tag bytes rest first cut is partial = subst (IsPartial IsValue) (ap (λ b. b ∷ rest) (sym is) ∙ sym cut) partial

pub IsBytes-rest : (bytes rest : List ℕ) (first : ℕ) → ((i : ℕ) → Fits w8 (get_or bytes i 0)) → bytes ≡ first ∷ rest → IsBytes rest
IsBytes-rest bytes rest first all cut = IsBytes-tail first rest (subst IsBytes cut (IsBytes-of bytes all))

pub puts_follow : (P Q : List ℕ → Type 0) (old between new : List ℕ) → Puts P old between → Puts Q between new → Puts (P ▸ Q) old new
puts_follow P Q old between new p q = record {
  spelling = p.spelling ++ q.spelling;
  spelled = record { front = p.spelling; back = q.spelling; first = p.spelled; second = q.spelled; whole = refl };
  whole = q.whole ∙ ap (λ l. l ++ q.spelling) p.whole ∙ append_assoc old p.spelling q.spelling;
}

pub puts_byte : (byte : ℕ) (old new : List ℕ) → new ≡ old ++ byte ∷ [] → Puts (IsByte byte) old new
puts_byte byte old new put = record { spelling = byte ∷ []; spelled = refl; whole = put }

-- the number as the code has it, cast to its bits and back
pub puts_signed : (old new bytes : List ℕ) (n : ℤ) → FitsSigned w64 n → bytes ≡ to_be_bytes w64 (cast_unsigned w64 (cast_signed w64 (cast_unsigned w64 n))) → new ≡ old ++ bytes → Puts (IsSignedNumber n) old new
puts_signed old new bytes n fits is put = record {
  spelling = bytes;
  spelled = record { fits = fits; big_endian = is ∙ ap (λ z. to_be_bytes w64 (cast_unsigned w64 z)) (to_z-of_z w64 n fits) };
  whole = put;
}
