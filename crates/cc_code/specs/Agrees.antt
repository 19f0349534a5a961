-- A thread of the code does what a thread of the source does: it asks the same at the same line, and goes on so after the same answer.
use Rattle.std.specs.Prelude.{◌≡◌, ℕ, zero, suc, ◌<◌, List, [], ◌∷◌, length}
use Rattle.cc_core.specs.Names.{Name, Value}
use Rattle.cc_core.specs.Core.{Term, Program, function}
use Rattle.cc_core.specs.Asks.{Answer}
use Rattle.cc_core.specs.Next.{Next, Ready, Asks, next}
use Rattle.cc_code.specs.Code.{Thread, Move, Silent, Does, Ends, Stuck, Code, move}
use Rattle.cc_code.specs.Stands.{FunctionStands}

-- a relation of what a thread does next to a thread of the code
abbrev pub Relation : Type 1
Relation = Next Value Term → Thread Name → Type 0

-- the branches, one by one
abbrev pub AllAgree : Program → Relation → List Term → List (Thread Name) → Type 0
AllAgree p R [] [] = Unit {0}
AllAgree p R [] (c ∷ cs) = ⊥
AllAgree p R (t ∷ ts) [] = ⊥
AllAgree p R (t ∷ ts) (c ∷ cs) = R (next p t) c × AllAgree p R ts cs

-- one move of the code: silent, the same end, or the same question
abbrev pub Agrees : Program → Relation → Next Value Term → Move Name → Type 0
Agrees p R n (Silent c) = R n c
Agrees p R (Ready v) (Ends w) = v ≡ w
Agrees p R (Asks l a k) (Ends w) = ⊥
Agrees p R (Ready v) (Does d b j) = ⊥
Agrees p R (Asks l a k) (Does d b j) =
    (l ≡ d) × (a ≡ b) × ((x : Answer Name) → R (next p (k x).left) (j x).left × AllAgree p R (k x).branches (j x).branches)
Agrees p R n Stuck = ⊥

-- for n moves of the code
abbrev pub Follows : Program → Code → ℕ → Relation
Follows p code zero n c = Unit {0}
Follows p code (suc m) n c = Agrees p (Follows p code m) n (move code c)

-- related at every number of moves: a thread of the source and a thread of the code
abbrev pub Same : Program → Code → Term → Thread Name → Type 0
Same p code t c = (n : ℕ) → Follows p code n (next p t) c

-- all functions of the program stand in the code
abbrev pub ProgramStands : Program → Code → Type 0
ProgramStands p code = (g : ℕ) → g < length code.shapes.functions → FunctionStands code g (function p g)
