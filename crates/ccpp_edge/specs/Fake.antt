-- A shelf and a sink in memory, of whose calls some are to fail. This project's own.
use Rattle.std.specs.Prelude.{◌≢◌, ◌==◌, ℕ, Bool, List, Option, bytes_eq, if◌then◌else◌}
use Rattle.std.specs.List.{AllPairs, find, list_any}
use Rattle.std.specs.Option.{option_map}
use Rattle.ccpp_edge.specs.Count.{raised}
use Rattle.ccpp_edge.specs.declared.calls.Calls.{Calls}
use Rattle.ccpp_edge.specs.declared.mem_shelf.NamedBytes.{NamedBytes}

-- what a shelf in memory holds, and the calls that it took
pub record FakeShelf : Type 0 where
  pub files : List NamedBytes
  pub calls : Calls

-- what was written to a sink in memory, and the calls that it took
pub record FakeSink : Type 0 where
  pub written : List ℕ
  pub calls : Calls

-- whether the next call is one of those that are to fail
abbrev pub next_fails : Calls → Bool
next_fails calls = list_any (λ number. number == calls.made) calls.failing

-- after one more call, which is a fault where it is to fail
abbrev pub counted : Calls → Calls
counted calls = record calls {
  made = raised calls.made;
  faults = if next_fails calls then raised calls.faults else calls.faults;
}

-- no two files have one name
abbrev pub NamesDiffer : List NamedBytes → Type 0
NamesDiffer files = AllPairs (λ one other. one.name ≢ other.name) files

-- the bytes of the file of this name, where there is one
abbrev pub bytes_under : List NamedBytes → List ℕ → Option (List ℕ)
bytes_under files name = option_map (λ file. file.bytes) (find (λ file. bytes_eq file.name name) files)
