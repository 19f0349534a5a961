-- What is answered on sources: by every command why one is refused, and by `check`, `share` and `code` what is said of its program.
use Rattle.std.specs.Prelude.{ℕ, List, codes}
use Rattle.cc_code.specs.Layout.{layout}
use Rattle.cc_shared.specs.OneAnswer.{core_of}
use Rattle.cc_core.specs.Report.{line, sharing_text}
use Rattle.cc_engine.specs.Report.{sharing_of}
use Rattle.cc_tree.specs.declared.declarations.Program.{Program}
use Rattle.code_listing.specs.Listing.{listing_of}
use Rattle.ccpp_source.specs.declared.source.Refusal.{Refusal}
use Rattle.ccpp_source.specs.Source.{IsSource, IsRefusedFor, refusal_text}
use Rattle.ccpp_top.specs.declared.status.Status.{Status}
use Rattle.ccpp_top.specs.declared.status.Status.TheVariants.{Done, SourceRefused}

-- What is answered on a file of these bytes by a command that says so of programs: why it is refused, exactly where it is no
-- source; else what is said of its program.
pub data OnSource (Says : Program → (text : List ℕ) → Status → Type 0) (source : List ℕ) : (text : List ℕ) → Status → Type 0 where
  refused : (why : Refusal) → IsRefusedFor source why → OnSource Says source (line (refusal_text why)) SourceRefused
  said : (program : Program) {text : List ℕ} {end : Status} → IsSource source program → Says program text end → OnSource Says source text end

-- ---- the commands

pub data SaysOk (program : Program) : (text : List ℕ) → Status → Type 0 where
  ok : SaysOk program (line (codes "ok")) Done

pub data SaysSharing (program : Program) : (text : List ℕ) → Status → Type 0 where
  sharing : SaysSharing program (line (sharing_text (sharing_of program))) Done

-- the listing of the code of its core, which is the layout
pub data SaysCode (program : Program) : (text : List ℕ) → Status → Type 0 where
  listed : SaysCode program (listing_of (layout (core_of program))) Done

-- what `check` answers
abbrev pub Checks : (source text : List ℕ) → Status → Type 0
Checks = OnSource SaysOk

-- what `share` answers
abbrev pub Shares : (source text : List ℕ) → Status → Type 0
Shares = OnSource SaysSharing

-- what `code` answers
abbrev pub Lists : (source text : List ℕ) → Status → Type 0
Lists = OnSource SaysCode
