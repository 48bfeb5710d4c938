-- Tallies: how many of some numbers are each number.
use Rattle.std.specs.Prelude.{ℕ, ◌-◌, ◌^◌, ◌==◌, min, List, map, count_by}
use Rattle.std.specs.List.{range_with_len}

-- a number in a counter: it stops at 2^64 - 1
abbrev pub kept : ℕ → ℕ
kept number = min number (2 ^ 64 - 1)

-- how many of the numbers are this one
unfoldable pub how_many : (number : ℕ) → (numbers : List ℕ) → ℕ
how_many number numbers = count_by (λ one. one == number) numbers

-- how many of the numbers are 0, how many are 1, and so on below a size
unfoldable pub tally_of : (size : ℕ) → (numbers : List ℕ) → List ℕ
tally_of size numbers = map (λ number. kept (how_many number numbers)) (range_with_len 0 size)
