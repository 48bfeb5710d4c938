-- What receipts say of the lines of shards.
use Rattle.std.specs.Prelude.{◌≡◌, ℕ, ◌+◌, ◌<◌, ◌≤◌, ◌==◌, List, length, map, filter, slice_get, slice_index, Some}
use Rattle.std.specs.List.{count_by, flat_map}
use Rattle.rsl_record.specs.Segments.{shard_lines}
use Rattle.rsl_record.specs.declared.receipt.Receipt.{Receipt}
use Rattle.rsl_shard.specs.declared.segment.Segment.{Segment}

-- the receipt is the line at its position, counted over all segments of its shard
abbrev pub IsItsLine : List Segment → Receipt → Type 0
IsItsLine segments receipt =
    slice_get (shard_lines receipt.shard segments) receipt.position ≡ Some receipt.line

-- the positions of a pass's receipts of a shard, in the order of its calls
abbrev pub positions_of : (shard : ℕ) → List Receipt → List ℕ
positions_of shard receipts =
    map (λ (receipt : Receipt). receipt.position)
    (filter (λ (receipt : Receipt). receipt.shard == shard) receipts)

-- a position is not above the one before it
pub record FallsAt (positions : List ℕ) (position at : ℕ) : Type 0 where
  pub within : at + 1 < length positions
  pub it : slice_index positions (at + 1) ≡ position
  pub falls : position ≤ slice_index positions at

abbrev pub FallsTo : List ℕ → (position : ℕ) → Type 0
FallsTo positions position = (at : ℕ) × FallsAt positions position at

-- how many receipts of all passes have this position of a shard
abbrev pub times : (shard position : ℕ) → (passes : List (List Receipt)) → ℕ
times shard position passes =
    count_by (λ (other : ℕ). other == position) (flat_map (positions_of shard) passes)
