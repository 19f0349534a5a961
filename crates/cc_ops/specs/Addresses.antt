-- The addresses of elements.
use Rattle.std.specs.Prelude.{ℕ, not, ◌&&◌, ◌||◌, ℤ, pos, ◌+ℤ◌, int_lt, nat_abs, if◌then◌else◌}
use Rattle.global_ptr.specs.declared.ends.FaultKind.TheVariants.{IndexOut, NullPointer}
use Rattle.cc_ops.specs.Values.{Value, Void, Int, Null, Ptr, int_of, moved, last_offset, Result, Gives, Fails, on_gives}

-- the place of an element of an array of n cells: its index is 0 to n - 1
abbrev pub element : {N : Type 0} → ℕ → Value N → Result ℕ
element n v = if int_lt (int_of v) (pos n) && not (int_lt (int_of v) (pos 0)) then Gives (nat_abs (int_of v)) else Fails IndexOut

-- the address of an element of an array of n cells
abbrev pub indexed : {N : Type 0} → Value N → ℕ → Value N → Result (Value N)
indexed a n i = on_gives (element n i) (λ k. Gives (moved a k))

-- the address i cells behind a pointer's
abbrev pub shifted : {N : Type 0} → Value N → ℤ → Result (Value N)
shifted Void i = Fails NullPointer
shifted (Int n) i = Fails NullPointer
shifted Null i = Fails NullPointer
shifted (Ptr o x) i =
    if int_lt (pos x +ℤ i) (pos 0) || int_lt (pos last_offset) (pos x +ℤ i)
    then Fails IndexOut
    else Gives (Ptr o (nat_abs (pos x +ℤ i)))
