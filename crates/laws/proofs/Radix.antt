-- Remainder and quotient by a number that is no numeral, of a number given by its digits. Assumes nothing.
use mathlib.Core.Path.{◌≡◌}
use Prim.Native.Nat.{ℕ, ◌+◌, ◌*◌, ◌/◌, ◌%◌, ◌<◌}
use lib.Arith.{digits_div, digits_mod}

pub rem_of : (q g m i : ℕ) → m < q → i ≡ g * q + m → i % q ≡ m
rem_of q g m i h e = rw e (digits_mod g h)

pub quot_of : (q g m i : ℕ) → m < q → i ≡ g * q + m → i / q ≡ g
quot_of q g m i h e = rw e (digits_div g h)
