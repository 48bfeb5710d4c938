-- How long answers took, in microseconds, by the powers of two.
use Rattle.std.specs.Prelude.{ℕ, ◌^◌, nat_le, List, map, sum}
use Rattle.std.specs.List.{position_or_len, range_with_len}
use Rattle.rld_counts.specs.Tally.{kept, tally_of}

-- the bound of each bucket, a power of two; the last bucket has none
unfoldable pub bounds : List ℕ
bounds = map (λ bucket. 2 ^ bucket) (range_with_len 0 24)

-- the bucket of a time: the first whose bound is at least as great
abbrev pub bucket_of : (micros : ℕ) → ℕ
bucket_of micros = position_or_len (λ bound. nat_le micros bound) bounds

-- the number of times in each bucket, and their sum
pub record Times : Type 0 where
  pub buckets : List ℕ
  pub micros : ℕ

abbrev pub times_of : (times : List ℕ) → Times
times_of times = record {
  buckets = tally_of 25 (map bucket_of times);
  micros = kept (sum times);
}
