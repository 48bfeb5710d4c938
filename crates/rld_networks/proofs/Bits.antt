-- A power of two that does not fit a number of 128 bits is greater than any such number.
use Rattle.std.proofs.Common.{◌≡◌, ℕ, ◌/◌, ◌%◌, ◌^◌, ◌<◌, sym, arith}
use Rattle.std.proofs.Math.Nat.{div-eq_of_lt, mod-eq_of_lt}

exceeds : (number size : ℕ) → number < 2 ^ 128 → ¬ (size < 2 ^ 128) → number < size
exceeds number size fits larger = omega arith

pub without_all : (number bits : ℕ) → number < 2 ^ 128 → ¬ (2 ^ bits < 2 ^ 128) → 0 ≡ number / 2 ^ bits
without_all number bits fits larger = sym (div-eq_of_lt (exceeds number (2 ^ bits) fits larger))

pub all_bits : (number bits : ℕ) → number < 2 ^ 128 → ¬ (2 ^ bits < 2 ^ 128) → number ≡ number % 2 ^ bits
all_bits number bits fits larger = sym (mod-eq_of_lt (exceeds number (2 ^ bits) fits larger))
