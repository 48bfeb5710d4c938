-- When a record is settled, and the first fault of one that is not.
--
-- A record is the passes that were given back, each as the list of its receipts, and the segments
-- of all shards: those that were handed out, in the order given, and then the present journals.
use Rattle.std.specs.Prelude.{◌≡◌, ◌≢◌, ℕ, ◌<◌, ◌≤◌, ◌⊎◌, ⊤, List, length, All}
use Rattle.std.specs.List.{Contains}
use Rattle.std.specs.List.Sorted.{IsStrictlyIncreasing}
use Rattle.rsl_accounts.specs.Configuration.{Configuration}
use Rattle.rsl_record.specs.Receipts.{FallsTo, IsItsLine, positions_of, times}
use Rattle.rsl_record.specs.Segments.{HasJoined}
use Rattle.rsl_record.specs.declared.close_fault.CloseFault.{CloseFault}
use Rattle.rsl_record.specs.declared.close_fault.CloseFault.TheVariants.{MissingPass, MissingSegment, Mismatch, NoMemory}
use Rattle.rsl_record.specs.declared.receipt.Receipt.{Receipt}
use Rattle.rsl_shard.specs.declared.segment.Segment.{Segment}

-- Every opened pass is given; the segments of each shard join; each receipt is the line at its
-- position; a pass's receipts of a shard rise; and no two receipts share a position.
pub record IsSettled (config : Configuration) (opened : ℕ) (passes : List (List Receipt))
    (segments : List Segment) : Type 0 where
  pub given : length passes ≡ opened
  pub joined : (shard : ℕ) → HasJoined config segments shard
  pub lines : All (All (IsItsLine segments)) passes
  pub rising : (shard : ℕ) → All (λ pass. IsStrictlyIncreasing (positions_of shard pass)) passes
  pub once : (shard position : ℕ) → times shard position passes ≤ 1

-- a receipt of a pass that is not the line at its position
pub record IsNoLine (segments : List Segment) (shard position : ℕ) (passes : List (List Receipt))
    (pass : List Receipt) (receipt : Receipt) : Type 0 where
  pub given : Contains passes pass
  pub kept : Contains pass receipt
  pub of_shard : receipt.shard ≡ shard
  pub at : receipt.position ≡ position
  pub wrong : IsItsLine segments receipt → ⊥

-- a receipt of this position is at fault
abbrev pub IsMismatch : List Segment → (passes : List (List Receipt)) → (shard position : ℕ)
    → Type 0
IsMismatch segments passes shard position =
    ((pass : List Receipt) × (receipt : Receipt)
    × IsNoLine segments shard position passes pass receipt)
    ⊎ (((pass : List Receipt) × Contains passes pass
    × FallsTo (positions_of shard pass) position)
    ⊎ (1 < times shard position passes))

-- The fault is there, and none of those that come before it: first the passes, then the segments,
-- of these the lowest shard, and then the receipts.
abbrev pub IsCloseFault : Configuration → (opened : ℕ) → (passes : List (List Receipt))
    → List Segment → CloseFault → Type 0
IsCloseFault config opened passes segments MissingPass = length passes ≢ opened
IsCloseFault config opened passes segments (MissingSegment shard) =
    (length passes ≡ opened) × (HasJoined config segments shard → ⊥)
    × ((lower : ℕ) → lower < shard → HasJoined config segments lower)
IsCloseFault config opened passes segments (Mismatch shard position) =
    (length passes ≡ opened) × ((each : ℕ) → HasJoined config segments each)
    × IsMismatch segments passes shard position
IsCloseFault config opened passes segments NoMemory = ⊤
