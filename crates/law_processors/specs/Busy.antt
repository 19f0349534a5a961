-- Which processors are busy, how much mail is under way, and how many threads live.
use Rattle.std.specs.Prelude.{◌≡◌, ℕ, suc, ◌+◌, List, [], ◌∷◌, length, slice_get, Bool, true, false, Some, None}
use Rattle.law_mesh.specs.Queues.{Message}
use Rattle.law_processors.specs.Processors.{Waiter, Entry, Lives, Ended, Processor}

-- a processor with a ready waiter or a message is busy
abbrev pub waits_for_turn : List Waiter → List Message → Bool
waits_for_turn [] [] = false
waits_for_turn _ _ = true

abbrev pub busy : Processor → Bool
busy p = waits_for_turn p.ready p.inbox

abbrev pub one_more_if : Bool → ℕ → ℕ
one_more_if true n = suc n
one_more_if false n = n

abbrev pub busy_count : List Processor → ℕ
busy_count [] = 0
busy_count (p ∷ ps) = one_more_if (busy p) (busy_count ps)

-- how many messages are under way
abbrev pub mail_count : List Processor → ℕ
mail_count [] = 0
mail_count (p ∷ ps) = length p.outbox + mail_count ps

-- how many threads live
abbrev pub lives_in : Entry → Bool
lives_in (Lives f s k) = true
lives_in (Ended v) = false

abbrev pub living_in : List Entry → ℕ
living_in [] = 0
living_in (e ∷ es) = one_more_if (lives_in e) (living_in es)

abbrev pub all_living_in : List (List Entry) → ℕ
all_living_in [] = 0
all_living_in (es ∷ more) = living_in es + all_living_in more

-- no processor runs a thread
abbrev pub AllFree : List Processor → Type 0
AllFree all = (q : ℕ) (p : Processor) → slice_get all q ≡ Some p → p.hand ≡ None
