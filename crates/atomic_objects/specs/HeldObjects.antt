-- What contracts see of the locks of objects.
use Rattle.std.specs.Prelude.{ℕ, List, [], ◌∷◌, ◌++◌, Option, Some, None, ◌==◌, if◌then◌else◌, refl}
use Rattle.std.specs.Ordering.{nat_cmp}
use Rattle.std.specs.FinMap.{FinMap, insert, remove}
use Rattle.std.specs.Coded.{Coded, code_by, coded×, coded_ℕ, coded_list}
use Rattle.atomic_objects.specs.declared.table.Entered.{Entered}
use Rattle.atomic_objects.specs.declared.table.Entered.TheVariants.{Now, Busy}

-- the thread that holds an object, and those that wait for it, first to last
pub record Held : Type 0 where
  pub holder : ℕ
  pub waiters : List ℕ

abbrev pub held_code : Coded Held
held_code =
    code_by (ℕ × List ℕ) (coded× coded_ℕ (coded_list coded_ℕ)) (λ h. (h.holder, h.waiters)) (λ p. record { holder = p.0; waiters = p.1 }) (λ _. refl)

-- the objects that are held, by their numbers; all others are free
abbrev pub HeldObjects : Type 0
HeldObjects = FinMap nat_cmp Held

-- an object becomes held so, or free where there is `None`, and all others stay
abbrev pub set_object : HeldObjects → ℕ → Option Held → HeldObjects
set_object m object None = remove m object
set_object m object (Some h) = insert m object h

-- held by a thread alone
abbrev pub held_by : ℕ → Held
held_by thread = record { holder = thread; waiters = [] }

-- what a thread is told that enters: an object that is free, or that it holds, is its own now
abbrev pub answer : Option Held → ℕ → Entered
answer None thread = Now
answer (Some h) thread = if h.holder == thread then Now else Busy h.holder

abbrev pub after_enter : Option Held → ℕ → Option Held
after_enter None thread = Some (held_by thread)
after_enter (Some h) thread = Some h

abbrev pub after_wait : Option Held → ℕ → Option Held
after_wait None thread = None
after_wait (Some h) thread = Some (record h { waiters = h.waiters ++ thread ∷ [] })

-- the first of those that wait
abbrev pub first : List ℕ → Option ℕ
first [] = None
first (thread ∷ threads) = Some thread

-- the first of those that wait holds the object next; where nobody waits it is free
abbrev pub handed : List ℕ → Option Held
handed [] = None
handed (thread ∷ threads) = Some (record { holder = thread; waiters = threads })

abbrev pub next : Option Held → Option ℕ
next None = None
next (Some h) = first h.waiters

abbrev pub after_leave : Option Held → Option Held
after_leave None = None
after_leave (Some h) = handed h.waiters
