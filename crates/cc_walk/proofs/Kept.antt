-- A thread stays where it is, whatever is made behind others.
use Rattle.std.proofs.Common.{◌≡◌, ℕ, zero, suc, List, [], ◌∷◌, ◌++◌, Option, Some, None, slice_get}
use Rattle.std.specs.Option.{option_and_then}
use Rattle.cc_ops.specs.declared.number.ThreadNo.{ThreadNo}
use Rattle.cc_ops.specs.Shelves.{changed}
use Rattle.numbered_runs.specs.Machine.{Progress, thread_in, push_thread}
use Rattle.numbered_runs.specs.Steps.{more_tables, push_all}

in_longer : {X : Type 0} (xs ys : List X) (i : ℕ) (x : X) → slice_get xs i ≡ Some x → slice_get (xs ++ ys) i ≡ Some x
in_longer [] ys i x is = let none : None ≡ Some x = is in cc
in_longer (y ∷ xs) ys zero x is = is
in_longer (y ∷ xs) ys (suc i) x is = in_longer xs ys i x is

module _ {X : Type 0} (i : ℕ) (a : X) where
  -- the item at i of list p
  abbrev at : List (List X) → (p : ℕ) → Option X
  at lists p = option_and_then (λ xs. slice_get xs i) (slice_get lists p)

  at_longer : (lists more : List (List X)) (p : ℕ) → at lists p ≡ Some a → at (lists ++ more) p ≡ Some a
  at_longer [] more p is = let none : None ≡ Some a = is in cc
  at_longer (xs ∷ lists) more zero is = is
  at_longer (xs ∷ lists) more (suc p) is = at_longer lists more p is

  at_changed : (f : List X → List X) → ((xs : List X) → slice_get xs i ≡ Some a → slice_get (f xs) i ≡ Some a)
      → (lists : List (List X)) (p q : ℕ) → at lists p ≡ Some a → at (changed lists q f) p ≡ Some a
  at_changed f keeps [] p q is = is
  at_changed f keeps (xs ∷ lists) zero zero is = keeps xs is
  at_changed f keeps (xs ∷ lists) zero (suc q) is = is
  at_changed f keeps (xs ∷ lists) (suc p) zero is = is
  at_changed f keeps (xs ∷ lists) (suc p) (suc q) is = at_changed f keeps lists p q is

module _ (t : ThreadNo) (a : Progress) where
  stays_tables : (n : ℕ) (threads : List (List Progress)) → thread_in threads t ≡ Some a → thread_in (more_tables n threads) t ≡ Some a
  stays_tables zero threads is = is
  stays_tables (suc n) threads is = stays_tables n (threads ++ [] ∷ []) (at_longer t.thread a threads ([] ∷ []) t.processor is)

  stays_pushed : (q : ℕ) (xs : List Progress) (threads : List (List Progress)) → thread_in threads t ≡ Some a → thread_in (push_all threads q xs) t ≡ Some a
  stays_pushed q [] threads is = is
  stays_pushed q (x ∷ xs) threads is =
      stays_pushed q xs (push_thread threads q x)
      (at_changed t.thread a (λ ts. ts ++ x ∷ []) (λ ts here. in_longer ts (x ∷ []) t.thread a here) threads t.processor q is)

  pub stays_made : (n q : ℕ) (xs : List Progress) (threads : List (List Progress)) → thread_in threads t ≡ Some a
      → thread_in (push_all (more_tables n threads) q xs) t ≡ Some a
  stays_made n q xs threads is = stays_pushed q xs (more_tables n threads) (stays_tables n threads is)
