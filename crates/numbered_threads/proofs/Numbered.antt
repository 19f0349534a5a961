-- Threads with numbers follow the source, since threads with names do.
use Rattle.std.proofs.Common.{◌≡◌, ℕ, suc, ◌<◌, List, [], ◌∷◌, length, refl, sym, ◌∙◌, subst}
use Rattle.cc_ops.specs.Values as values
use Rattle.cc_ops.specs.Machine.{Address}
use Rattle.cc_core.specs.Names.{Name, Value}
use Rattle.cc_core.specs.Core.{Term, Program, Starts, function_shape}
use Rattle.cc_core.specs.Asks.{Ask, Answer}
use Rattle.cc_core.specs.Next.{Next, Ready, Asks, After, next, entered}
use Rattle.cc_code.specs.Code.{Code, Thread, Runs, Starting, Then, Move, Silent, Does, Ends, Stuck, enter_at, move}
use Rattle.cc_code.specs.Agrees.{Relation, AllAgree, Agrees, Follows, Same, ProgramStands}
use Rattle.cc_follows.proofs.Follows.{thread_follows, start_follows, one_move}
use Rattle.code_names.specs.Same.{Pairwise, Told, SameValue, SameValues, SameThread, SameAsk, SameAnswer, SameThen, SameMove}
use Rattle.code_names.proofs.Values.{thread_later, resized_same}
use Rattle.code_names.proofs.Moves.{move_same}
use Rattle.numbered_threads.specs.Numbered.{Naming, IsLater, Stands, IsSilent, GoesOnAlike, MovesAlike}

module _ (p : Program) (code : Code) where
  -- what the law of names says of a thread that follows: for any number of moves
  abbrev always : Relation
  always n d = (k : ℕ) → Follows p code k n d

  pub entered_stands : ProgramStands p code → (g : ℕ) → g < length code.shapes.functions → (naming : Naming)
      → (this : values.Value Address) (that : Value) → SameValue (Told naming) this that
      → (xs : List (values.Value Address)) (ys : List Value) → SameValues (Told naming) xs ys
      → Stands p code naming (Runs (enter_at code g this xs) [] []) (entered p g that ys)
  entered_stands stands g below naming this that h xs ys e = record {
    named = Runs (enter_at code g that ys) [] [];
    same = (
      record {
        this = h;
        vars = resized_same (Told naming) (function_shape code.shapes g).vars xs ys e;
        place = refl;
        made = refl;
      },
      tt,
      tt,
    );
    follows = λ n. thread_follows p code stands n g below that ys;
  }

  pub started_stands : ProgramStands p code → (g : ℕ) → g < length code.shapes.functions → (naming : Naming)
      → (this : values.Value Address) (that : Value) → SameValue (Told naming) this that
      → (vs : List (values.Value Address)) (ws : List Value) → SameValues (Told naming) vs ws
      → Stands p code naming (Starting g this vs) (Starts g that ws)
  started_stands stands g below naming this that h vs ws e = record {
    named = Starting g that ws;
    same = (refl, h, e);
    follows = λ n. start_follows p code stands n g below that ws;
  }

  pub later_stands : (before after : Naming) → IsLater before after → (c : Thread Address) (t : Term) → Stands p code before c t
      → Stands p code after c t
  later_stands before after more c t s = record {
    named = s.named;
    same = thread_later (Told before) (Told after) more c s.named s.same;
    follows = s.follows;
  }

  -- ---- a silent move

  module _ (naming : Naming) (d : Thread Address) (t : Term) where
    silent_stands : (e : Thread Name) → Same p code t e → (m : Move Name) → move code e ≡ m
        → SameMove (Told naming) (Told naming) (Silent d) m → Stands p code naming d t
    silent_stands e follows (Silent e') is s = record {
      named = e';
      same = s;
      follows = λ n. subst (λ (m : Move Name). Agrees p (Follows p code n) (next p t) m) is (follows (suc n));
    }
    silent_stands e follows (Does n q j) is s = absurd s
    silent_stands e follows (Ends v) is s = absurd s
    silent_stands e follows Stuck is s = absurd s

  pub quiet_stands : (naming : Naming) (c d : Thread Address) (t : Term) → Stands p code naming c t → move code c ≡ Silent d
      → Stands p code naming d t
  quiet_stands naming c d t s is =
      silent_stands naming d t s.named s.follows (move code s.named) refl
      (subst (λ (m : Move Address). SameMove (Told naming) (Told naming) m (move code s.named)) is
      (move_same (Told naming) (Told naming) (λ a o h. h) code c s.named s.same))

  -- ---- a move that is not silent

  module _ (before after : Naming) where
    branches_stand : (cs : List (Thread Address)) (ds : List (Thread Name)) (ts : List Term) → Pairwise (SameThread (Told after)) cs ds
        → AllAgree p always ts ds → Pairwise (Stands p code after) cs ts
    branches_stand [] [] [] h g = tt
    branches_stand [] [] (t ∷ ts) h g = absurd g
    branches_stand [] (d ∷ ds) ts h g = absurd h
    branches_stand (c ∷ cs) [] ts h g = absurd h
    branches_stand (c ∷ cs) (d ∷ ds) [] h g = absurd g
    branches_stand (c ∷ cs) (d ∷ ds) (t ∷ ts) h g =
        (record { named = d; same = h.0; follows = g.0 }, branches_stand cs ds ts h.1 g.1)

    goes_on : (j' : Answer Address → Then Address) (j : Answer Name → Then Name) (k : Answer Name → After Term)
        → ((x : Answer Address) (y : Answer Name) → SameAnswer (Told after) x y → SameThen (Told after) (j' x) (j y))
        → ((y : Answer Name) → always (next p (k y).left) (j y).left × AllAgree p always (k y).branches (j y).branches)
        → GoesOnAlike p code after j' k
    goes_on j' j k met agree = λ x y e. (
      record { named = (j y).left; same = (met x y e).left; follows = (agree y).0 },
      branches_stand (j' x).branches (j y).branches (k y).branches (met x y e).branches (agree y).1,
    )

    alike : (n : Next Value Term) (m' : Move Address) (m : Move Name) → SameMove (Told before) (Told after) m' m → Agrees p always n m
        → ¬ IsSilent m' → MovesAlike p code before after n m'
    alike n (Silent c) m s a loud = absurd (loud tt)
    alike (Ready v) (Ends w') (Ends w) s a loud = subst (λ (u : Value). SameValue (Told before) w' u) (sym a) s
    alike (Asks line q k) (Ends w') (Ends w) s a loud = absurd a
    alike n (Ends w') (Silent d) s a loud = absurd s
    alike n (Ends w') (Does b r j) s a loud = absurd s
    alike n (Ends w') Stuck s a loud = absurd s
    alike (Ready v) (Does b' r' j') (Does b r j) s a loud = absurd a
    alike (Asks line q k) (Does b' r' j') (Does b r j) s a loud = (
      s.0 ∙ sym a.0,
      subst (λ (u : Ask Name). SameAsk (Told before) r' u) (sym a.1) s.1,
      goes_on j' j k s.2 a.2,
    )
    alike n (Does b' r' j') (Silent d) s a loud = absurd s
    alike n (Does b' r' j') (Ends w) s a loud = absurd s
    alike n (Does b' r' j') Stuck s a loud = absurd s
    alike n Stuck (Silent d) s a loud = absurd s
    alike n Stuck (Does b r j) s a loud = absurd s
    alike n Stuck (Ends w) s a loud = absurd s
    alike n Stuck Stuck s a loud = absurd a

    pub moves_alike : IsLater before after → (c : Thread Address) (t : Term) → Stands p code before c t → ¬ IsSilent (move code c)
        → MovesAlike p code before after (next p t) (move code c)
    moves_alike more c t s loud =
        alike (next p t) (move code c) (move code s.named) (move_same (Told before) (Told after) more code c s.named s.same)
        (one_move p code t s.named s.follows) loud
