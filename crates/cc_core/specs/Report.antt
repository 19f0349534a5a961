-- The report of a run, as bytes.
use Rattle.std.specs.Prelude.{ℕ, ◌-◌, ◌==◌, List, [], ◌∷◌, ◌++◌, length, slice_get, Option, Some, None, if◌then◌else◌, codes, decimal}
use Rattle.std.specs.Fmt.{signed_decimal}
use Rattle.global_ptr.specs.Texts.{fault_name}
use Rattle.global_ptr.specs.declared.ends.Standing.{Standing}
use Rattle.global_ptr.specs.declared.ends.Standing.TheVariants.{Done, Blocked, Fault, Limit}

abbrev pub standing_text : Standing → List ℕ
standing_text (Done v) = codes "done " ++ signed_decimal v
standing_text (Blocked k) = codes "blocked " ++ decimal k
standing_text (Fault fault) = codes "fault " ++ fault_name fault.kind ++ codes " line " ++ decimal fault.line
standing_text (Limit n) = codes "limit " ++ decimal n

-- whether a source shares what makes its answers depend on the order of steps: the rule that it breaks, by its name, and the line
pub data Sharing : Type 0 where
  Determinate : Sharing
  Shared : (rule : List ℕ) → (line : ℕ) → Sharing

abbrev pub sharing_text : Sharing → List ℕ
sharing_text Determinate = codes "determinate"
sharing_text (Shared rule line) = codes "shared " ++ rule ++ codes " line " ++ decimal line

-- a line feed after a last byte that is none
abbrev pub line_end : (last : Option ℕ) → List ℕ
line_end None = []
line_end (Some b) = if b == 10 then [] else 10 ∷ []

abbrev pub line : List ℕ → List ℕ
line text = text ++ 10 ∷ []

-- the output, ended by a line feed where it is not empty, and a line each for the standing and the sharing
abbrev pub report : (output : List ℕ) → Standing → Sharing → List ℕ
report output standing sharing =
    output ++ line_end (slice_get output (length output - 1))
    ++ line (codes "== " ++ standing_text standing) ++ line (codes "== " ++ sharing_text sharing)
