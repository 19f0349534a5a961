-- Threads of the code that name objects by numbers, as the machine does, and threads of the source.
use Rattle.std.specs.Prelude.{◌≡◌, Bool, true}
use Rattle.cc_ops.specs.Machine.{Address}
use Rattle.cc_core.specs.Names.{Name, Value}
use Rattle.cc_core.specs.Core.{Term, Program}
use Rattle.cc_core.specs.Asks.{Answer}
use Rattle.cc_core.specs.Next.{Next, Ready, Asks, After}
use Rattle.cc_code.specs.Code.{Code, Thread, Then, Move, Silent, Does, Ends, Stuck}
use Rattle.cc_code.specs.Agrees.{Same}
use Rattle.code_names.specs.Same.{Pairwise, Told, SameValue, SameThread, SameAsk, SameAnswer}

-- which numbers stand for which names
abbrev pub Naming : Type 0
Naming = Address → Name → Bool

-- what stands for the same still does, where more is named
abbrev pub IsLater : (before after : Naming) → Type 0
IsLater before after = (a : Address) (o : Name) → before a o ≡ true → after a o ≡ true

-- A thread of the code stands for thread t of the source: it is, but for names, one that does what t does.
pub record Stands (p : Program) (code : Code) (naming : Naming) (c : Thread Address) (t : Term) : Type 0 where
  pub named : Thread Name
  pub same : SameThread (Told naming) c named
  pub follows : Same p code t named

abbrev pub IsSilent : {N : Type 0} → Move N → Type 0
IsSilent (Silent c) = Unit {0}
IsSilent (Does n q j) = ⊥
IsSilent (Ends v) = ⊥
IsSilent Stuck = ⊥

-- after the same answer, by which time more may be named, what is left stands for what is left, and so do the branches, one by one
abbrev pub GoesOnAlike : Program → Code → (after : Naming) → (Answer Address → Then Address) → (Answer Name → After Term) → Type 0
GoesOnAlike p code after j k =
    (x : Answer Address) (y : Answer Name) → SameAnswer (Told after) x y
    → Stands p code after (j x).left (k y).left × Pairwise (Stands p code after) (j x).branches (k y).branches

-- A move of the code that is not silent, and what the source does next: the same end, or the same question at the same line. The code is
-- never stuck.
abbrev pub MovesAlike : Program → Code → (before after : Naming) → Next Value Term → Move Address → Type 0
MovesAlike p code before after (Ready v) (Ends w) = SameValue (Told before) w v
MovesAlike p code before after (Asks line q k) (Does n r j) = (n ≡ line) × SameAsk (Told before) r q × GoesOnAlike p code after j k
MovesAlike p code before after n m = ⊥
