-- Files of messages: what is listed of one, and why another is none.
use Rattle.std.specs.Prelude.{◌≡◌, ℕ, ◌+◌, List, length, Result, Ok, Err}
use Rattle.std.specs.List.{flat_map}
use Rattle.marshal.specs.Spellings.{IsPartial, IsWrongAt}
use Rattle.rsr_message.specs.declared.faults.MessageFault.{MessageFault}
use Rattle.rsr_message.specs.declared.faults.MessageFault.TheVariants.{Short}
use Rattle.rsr_message.specs.declared.faults.MessageFault.TheVariants as message
use Rattle.rsr_message.specs.declared.listing.Listing.{Listing}
use Rattle.rsr_message.specs.declared.listing.ListFault.{ListFault}
use Rattle.rsr_message.specs.declared.listing.ListFault.TheVariants.{No, Memory}
use Rattle.rsr_message.specs.declared.requests.Request.{Request}
use Rattle.rsr_message.specs.Lines.{line_of}
use Rattle.rsr_message.specs.Refusals.{IsWrongMessage}
use Rattle.rsr_message.specs.Streams.{SpellsAll, IsStream, CutsInto, place_of}

-- the bytes spell these requests, and each has its line
pub record Lists (bytes : List ℕ) (listing : Listing) : Type 0 where
  pub requests : List Request
  pub spelled : SpellsAll requests bytes
  pub lines : listing.lines ≡ flat_map line_of requests
  pub messages : listing.messages ≡ length requests

-- the bytes are no list of messages, but more bytes would make one of them
pub record EndsWithin (bytes : List ℕ) : Type 0 where
  pub none : IsStream bytes → ⊥
  pub partial : IsPartial IsStream bytes

-- behind whole messages a message is refused so, and no list of messages has a byte as it stands at this place
pub record BreaksAt (bytes : List ℕ) (fault : MessageFault) (at : ℕ) : Type 0 where
  pub requests : List Request
  pub message : List ℕ
  pub cut : CutsInto bytes requests message
  pub wrong : IsWrongMessage message fault
  pub first : IsWrongAt IsStream bytes at

-- why bytes are no list of messages: they end within one, or have a wrong byte
pub data FirstFault (bytes : List ℕ) (fault : MessageFault) (at : ℕ) : Type 0 where
  ends : fault ≡ Short → at ≡ length bytes → EndsWithin bytes → FirstFault bytes fault at
  breaks : BreaksAt bytes fault at → FirstFault bytes fault at

-- what is told of so many bytes where behind some of them, which are messages, a message is refused so
abbrev pub fault_behind : (used len : ℕ) → MessageFault → ListFault
fault_behind used len Short = No Short len
fault_behind used len message.Memory = Memory
fault_behind used len fault = No fault (used + place_of fault)

-- what is said of the bytes
abbrev pub Tells : List ℕ → Result Listing ListFault → Type 0
Tells bytes (Ok listing) = Lists bytes listing
Tells bytes (Err (No fault at)) = FirstFault bytes fault at
Tells bytes (Err Memory) = Unit {0}
