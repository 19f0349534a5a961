-- What `message` answers.
use Rattle.std.specs.Prelude.{ℕ, List, ◌++◌, length, codes, decimal}
use Rattle.std.specs.List.{flat_map}
use Rattle.cc_core.specs.Report.{line}
use Rattle.rsr_message.specs.declared.faults.MessageFault.{MessageFault}
use Rattle.rsr_message.specs.declared.requests.Request.{Request}
use Rattle.rsr_message.specs.Lines.{line_of, fault_name}
use Rattle.rsr_message.specs.Streams.{SpellsAll, IsStream}
use Rattle.rsr_message.specs.Listings.{FirstFault}
use Rattle.ccpp_top.specs.declared.status.Status.{Status}
use Rattle.ccpp_top.specs.declared.status.Status.TheVariants.{Done, No}

-- the lines of the requests, and how many they are
abbrev pub listing : List Request → List ℕ
listing requests = flat_map line_of requests ++ line (codes "== messages " ++ decimal (length requests))

-- What is answered on a file of these bytes: the listing of the requests that they spell; where they spell none, why, and the
-- byte at which that shows.
pub data Messages (bytes : List ℕ) : (text : List ℕ) → Status → Type 0 where
  listed : (requests : List Request) → SpellsAll requests bytes → Messages bytes (listing requests) Done
  none : (fault : MessageFault) (at : ℕ) → (IsStream bytes → ⊥) → FirstFault bytes fault at → Messages bytes (line (codes "no " ++ (fault_name fault ++ (codes " at " ++ decimal at)))) No
