-- What the parts of a settling give to one another.
use Rattle.std.specs.Prelude.{◌≡◌, ℕ, ◌<◌, ◌≤◌, ◌⊎◌, ⊤, List, [], slice_get, Option, Some, None}
use Rattle.std.specs.List.{Contains}
use Rattle.rsl_accounts.specs.Configuration.{Configuration}
use Rattle.rsl_record.specs.Receipts.{FallsTo, positions_of}
use Rattle.rsl_record.specs.Segments.{AllGoOn, HasJoined, of_shard}
use Rattle.rsl_record.specs.Settled.{IsMismatch}
use Rattle.rsl_record.specs.declared.chain.Chain.{Chain}
use Rattle.rsl_record.specs.declared.close_fault.CloseFault.{CloseFault}
use Rattle.rsl_record.specs.declared.close_fault.CloseFault.TheVariants.{MissingPass, MissingSegment, Mismatch, NoMemory}
use Rattle.rsl_record.specs.declared.receipt.Receipt.{Receipt}
use Rattle.rsl_shard.specs.declared.line.Line.{Line}
use Rattle.rsl_shard.specs.declared.segment.Segment.{Segment}

-- segments of a shard follow a chain
abbrev pub GoOn : Chain → List Segment → Type 0
GoOn chain segments =
    AllGoOn chain.books.setup chain.lines chain.books.books segments

-- a fault of what has to hold of a shard's segments
abbrev pub IsBreak : (shard : ℕ) → Type 0 → CloseFault → Type 0
IsBreak shard Holds MissingPass = ⊥
IsBreak shard Holds (MissingSegment named) = (named ≡ shard) × (Holds → ⊥)
IsBreak shard Holds (Mismatch named position) = ⊥
IsBreak shard Holds NoMemory = ⊤

-- the lowest number of a segment that is not the number of a shard, if there is one
abbrev pub IsLowestAstray : (shards : ℕ) → List Segment → Option ℕ → Type 0
IsLowestAstray shards segments None = (shard : ℕ) → shards ≤ shard → of_shard shard segments ≡ []
IsLowestAstray shards segments (Some lowest) =
    (shards ≤ lowest) × (of_shard lowest segments ≡ [] → ⊥)
    × ((shard : ℕ) → shards ≤ shard → shard < lowest → of_shard shard segments ≡ [])

-- the first shard whose segments do not join
abbrev pub IsSegmentFault : Configuration → List Segment → CloseFault → Type 0
IsSegmentFault config segments MissingPass = ⊥
IsSegmentFault config segments (MissingSegment shard) =
    (HasJoined config segments shard → ⊥)
    × ((lower : ℕ) → lower < shard → HasJoined config segments lower)
IsSegmentFault config segments (Mismatch shard position) = ⊥
IsSegmentFault config segments NoMemory = ⊤

-- one of a pass's receipts of this position of a shard is not the line there
pub record IsMismatchIn (lines : List Line) (shard : ℕ) (receipts : List Receipt) (position : ℕ)
    (receipt : Receipt) : Type 0 where
  pub kept : Contains receipts receipt
  pub of_shard : receipt.shard ≡ shard
  pub at : receipt.position ≡ position
  pub wrong : slice_get lines position ≡ Some receipt.line → ⊥

-- a receipt of the shard is the line at its position
abbrev pub IsAmong : List Line → (shard : ℕ) → Receipt → Type 0
IsAmong lines shard receipt =
    receipt.shard ≡ shard → slice_get lines receipt.position ≡ Some receipt.line

-- a fault of a pass's receipts of a shard
abbrev pub IsFaultOfPass : List Line → (shard : ℕ) → List Receipt → CloseFault → Type 0
IsFaultOfPass lines shard receipts MissingPass = ⊥
IsFaultOfPass lines shard receipts (MissingSegment named) = ⊥
IsFaultOfPass lines shard receipts (Mismatch named position) =
    (named ≡ shard)
    × (((receipt : Receipt) × IsMismatchIn lines shard receipts position receipt)
    ⊎ FallsTo (positions_of shard receipts) position)
IsFaultOfPass lines shard receipts NoMemory = ⊤

-- a fault of a pass among passes
abbrev pub IsFaultOfPasses : List Line → (shard : ℕ) → List (List Receipt) → CloseFault → Type 0
IsFaultOfPasses lines shard passes fault =
    (pass : List Receipt) × Contains passes pass × IsFaultOfPass lines shard pass fault

-- a receipt of a pass is of a number that is not that of a shard
pub record IsOfNoShard (shards : ℕ) (receipts : List Receipt) (receipt : Receipt) : Type 0 where
  pub kept : Contains receipts receipt
  pub past : shards ≤ receipt.shard

-- a fault of the shards' numbers in a pass's receipts
abbrev pub IsNumberFaultOfPass : (shards : ℕ) → List Receipt → CloseFault → Type 0
IsNumberFaultOfPass shards receipts MissingPass = ⊥
IsNumberFaultOfPass shards receipts (MissingSegment shard) = ⊥
IsNumberFaultOfPass shards receipts (Mismatch shard position) =
    (receipt : Receipt) × IsOfNoShard shards receipts receipt × (receipt.shard ≡ shard)
    × (receipt.position ≡ position)
IsNumberFaultOfPass shards receipts NoMemory = ⊥

-- a fault of the shards' numbers in the receipts of one of the passes
abbrev pub IsNumberFaultOfPasses : (shards : ℕ) → List (List Receipt) → CloseFault → Type 0
IsNumberFaultOfPasses shards passes fault =
    (pass : List Receipt) × Contains passes pass × IsNumberFaultOfPass shards pass fault

-- a fault of receipts
abbrev pub IsFaultOfReceipts : List Segment → (passes : List (List Receipt)) → CloseFault → Type 0
IsFaultOfReceipts segments passes MissingPass = ⊥
IsFaultOfReceipts segments passes (MissingSegment shard) = ⊥
IsFaultOfReceipts segments passes (Mismatch shard position) =
    IsMismatch segments passes shard position
IsFaultOfReceipts segments passes NoMemory = ⊤
