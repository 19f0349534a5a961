-- All that a run has come to, by numbers: the objects and the threads of each processor, in the order made.
use Rattle.std.specs.Prelude.{ℕ, suc, ◌+◌, List, [], ◌∷◌, ◌++◌, length, slice_get, Option, Some, None}
use Rattle.std.specs.Option.{option_and_then, option_map_or}
use Rattle.cc_ops.specs.Values.{Value}
use Rattle.cc_ops.specs.Machine.{Address}
use Rattle.cc_ops.specs.Shelves.{Shelf, changed}
use Rattle.cc_ops.specs.declared.number.ThreadNo.{ThreadNo}
use Rattle.cc_code.specs.Code.{Code, Thread}

-- A thread that has not ended: what it has left to do; where it stands at a remote call, the thread that was made for it; the threads that
-- it made, in order; and the functions that it is inside, each with its object, the innermost first.
pub record Runner : Type 0 where
  pub thread : Thread Address
  pub asked : Option ThreadNo
  pub kids : List ThreadNo
  pub inside : List (ℕ × Value Address)

-- a thread goes on, or has ended with a value
pub data Progress : Type 0 where
  Goes : Runner → Progress
  Over : Value Address → Progress

-- shelves, threads: of each processor
pub record Machine : Type 0 where
  pub code : Code
  pub shelves : List Shelf
  pub threads : List (List Progress)
  pub output : List ℕ

abbrev pub thread_in : List (List Progress) → ThreadNo → Option Progress
thread_in threads t = option_and_then (λ ts. slice_get ts t.thread) (slice_get threads t.processor)

abbrev pub put_thread : List (List Progress) → ThreadNo → Progress → List (List Progress)
put_thread threads t x = changed threads t.processor (λ ts. changed ts t.thread (λ y. x))

abbrev pub push_thread : List (List Progress) → ℕ → Progress → List (List Progress)
push_thread threads q x = changed threads q (λ ts. ts ++ x ∷ [])

-- how many were made on a processor
abbrev pub made_in : List (List Progress) → ℕ → ℕ
made_in threads q = option_map_or (λ ts. length ts) (slice_get threads q) 0

-- the value that a thread has ended with
abbrev pub ended_with : Option Progress → Option (Value Address)
ended_with None = None
ended_with (Some (Goes r)) = None
ended_with (Some (Over v)) = Some v

-- how many go on
abbrev pub going : List Progress → ℕ
going [] = 0
going (Goes r ∷ xs) = suc (going xs)
going (Over v ∷ xs) = going xs

abbrev pub all_going : List (List Progress) → ℕ
all_going [] = 0
all_going (xs ∷ more) = going xs + all_going more
