use Rattle.std.proofs.Common.{◌≡◌, ℕ, List, Option, Some, None, MatchOption}
use Rattle.std.specs.Option.{option_map}
use Rattle.effect_journal.specs.Journal.{Lacks}
use Rattle.effect_journal.specs.Reading.{cut}
use Rattle.effect_journal.proofs.ReadLaws.{IsNext, no_line, cut_parts}
use Rattle.effect_journal.proofs.read.next_line.Goals as goal

next_of : {A : Type 0} (o : Option A) (f : A → List ℕ × List ℕ) (text : List ℕ) → option_map f o ≡ cut 10 text → MatchOption o (Lacks 10 text) (λ x. let parts = f x in IsNext text parts.0 parts.1)
next_of None f text e = no_line text e
next_of (Some x) f text e = let parts = f x in cut_parts text parts.0 parts.1 e

pub returns : goal.returns
returns c = next_of c.split_once.result (λ parts. (parts.0.now, parts.1.now)) c.args.text.now c.split_once.ensures
