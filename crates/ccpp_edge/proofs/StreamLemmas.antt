-- Bytes that are written in several pieces, one after another.
use Rattle.std.proofs.Common.{◌≡◌, ℕ, List, ◌++◌, Option, Some, None, ◌∙◌, sym, ap, append_assoc, take, drop}
use Rattle.std.proofs.lemmas.List.{take-append-drop}
use Rattle.std.specs.Io.KnownBytes.{Appends, Keeps}

-- a front of the bytes was appended, and the rest is left
abbrev pub Wrote : Option (List ℕ) → Option (List ℕ) → List ℕ → List ℕ → Type 0
Wrote old new bytes rest = (front : List ℕ) × (bytes ≡ front ++ rest) × Appends old new front

appends_both : (old mid new : Option (List ℕ)) (front more : List ℕ) → Appends old mid front → Appends mid new more → Appends old new (front ++ more)
appends_both None mid new front more one other = tt
appends_both (Some a) None new front more one other = absurd one
appends_both (Some a) (Some b) None front more one other = absurd other
appends_both (Some a) (Some b) (Some c) front more one other = other ∙ ap (λ bytes. bytes ++ more) one ∙ append_assoc a front more

appends_kept : (old mid new : Option (List ℕ)) (front : List ℕ) → Appends old mid front → Keeps mid new → Appends old new front
appends_kept None mid new front one kept = tt
appends_kept (Some a) None new front one kept = absurd one
appends_kept (Some a) (Some b) None front one kept = absurd kept
appends_kept (Some a) (Some b) (Some c) front one kept = kept ∙ one

-- after one more write, which took so many bytes
pub Wrote-more : (old mid new : Option (List ℕ)) (bytes rest : List ℕ) (taken : ℕ) → Wrote old mid bytes rest → Appends mid new (take taken rest) → Wrote old new bytes (drop taken rest)
Wrote-more old mid new bytes rest taken (front, split, wrote) more = (
  front ++ take taken rest,
  split ∙ ap (λ xs. front ++ xs) (sym (take-append-drop taken rest)) ∙ sym (append_assoc front (take taken rest) (drop taken rest)),
  appends_both old mid new front (take taken rest) wrote more,
)

-- after a write that failed
pub Wrote-kept : (old mid new : Option (List ℕ)) (bytes rest : List ℕ) → Wrote old mid bytes rest → Keeps mid new → Wrote old new bytes rest
Wrote-kept old mid new bytes rest (front, split, wrote) kept = (front, split, appends_kept old mid new front wrote kept)
