-- How what a thread asks is answered: as the machine of numbers answers it.
use Rattle.std.specs.Prelude.{◌≡◌, ℕ, List, [], ◌∷◌, ◌++◌, map, Option, Some, None, Result, Ok, Err}
use Rattle.cc_ops.specs.Values.{Value}
use Rattle.cc_ops.specs.Machine.{Address, value_of, Values}
use Rattle.cc_ops.specs.Shelves.{Shelf}
use Rattle.cc_core.specs.Asks.{Ask}
use Rattle.cc_core.specs.Needs.{Verdict, Go, Hold, Bad}
use Rattle.cc_core.specs.Effects.{left_behind, is_call, branch_count}
use Rattle.cc_code.specs.Code.{Thread}
use Rattle.numbered_runs.specs.Machine.{Machine, Runner}
use Rattle.numbered_runs.specs.Looks.{needs, check_all}
use Rattle.numbered_runs.specs.Effects as model
use Rattle.numbered_runs.specs.Effects.{effect, write_all, more_shelves, put_things, addresses, held_after, start_home}
use Rattle.cc_walk.specs.Views.{inside_of, started}
use Rattle.cc_walk.specs.declared.effect.Found.{Found}
use Rattle.cc_walk.specs.declared.effect.Found.TheVariants as found
use Rattle.cc_walk.specs.declared.effect.Entry.{Entry}
use Rattle.cc_walk.specs.declared.effect.Entry.TheVariants as entry
use Rattle.cc_walk.specs.declared.effect.Start.{Start}
use Rattle.cc_walk.specs.declared.effect.Effect.{Effect}
use Rattle.cc_walk.specs.declared.stop.Stop.{Stop}
use Rattle.cc_walk.specs.declared.stop.Stop.TheVariants as stop

abbrev pub values_of : Found → Values
values_of found.Nothing = []
values_of (found.One v) = value_of v ∷ []
values_of (found.Many vs) = map value_of vs

-- the functions that a thread is inside afterwards
abbrev pub inside_after : Entry → List (ℕ × Value Address) → List (ℕ × Value Address)
inside_after entry.Stays inside = inside
inside_after (entry.Enters e) inside = inside_of e ∷ inside
inside_after entry.Leaves inside = left_behind inside

-- a thread is made for a call, on this processor, or none is
abbrev pub IsStarted : (home : ℕ) → Option Start → List (Thread Address) → Type 0
IsStarted home None threads = threads ≡ []
IsStarted home (Some s) threads = (s.processor ≡ home) × (threads ≡ started s ∷ [])

-- the objects before new ones are made
abbrev pub ground : Machine → model.Effect → List Shelf
ground w m = more_shelves m.processors (write_all w.shelves m.writes)

-- Of a machine, whose thread on processor q, which is r, asks: what the answer gives, the objects afterwards and what is printed by then.
module _ (w : Machine) (q : ℕ) (r : Runner) (ask : Ask Address) where
  -- the machine's effect, where the needs of the ask found these values
  pub record HasEffect (found : Values) (e : Effect) (objects : List Shelf) (text : List ℕ) : Type 0 where
    pub values : let m = effect w q r ask found in values_of e.found ≡ addresses (ground w m) m.objects ++ found
    pub shelves : let m = effect w q r ask found in objects ≡ held_after w.code.shapes r.inside ask (put_things (ground w m) m.objects)
    pub output : text ≡ w.output ++ (effect w q r ask found).prints
    pub inside : inside_after e.entry r.inside ≡ (effect w q r ask found).inside
    pub starts : IsStarted (start_home q ask) e.start (effect w q r ask found).starts
    pub calls : e.calls ≡ is_call ask
    pub branches : e.branches ≡ branch_count ask
    pub processors : e.processors ≡ (effect w q r ask found).processors

  -- Nothing is said where the thread has to wait, and after want of memory. A fault changes nothing.
  abbrev pub Answers : Verdict Address → Result Effect Stop → List Shelf → List ℕ → Type 0
  Answers (Go found) (Ok e) shelves output = HasEffect found e shelves output
  Answers (Bad kind) (Err (stop.Fault k)) shelves output = (k ≡ kind) × (shelves ≡ w.shelves) × (output ≡ w.output)
  Answers Hold result shelves output = Unit {0}
  Answers verdict (Err stop.Memory) shelves output = Unit {0}
  Answers verdict result shelves output = ⊥

  abbrev pub IsAnswered : Result Effect Stop → List Shelf → List ℕ → Type 0
  IsAnswered = Answers (check_all w q r (needs w.code.shapes ask))
