-- What one step makes of the shards of a run.
use Rattle.std.specs.Prelude.{◌≡◌, ℕ, ◌-◌, ◌^◌, ◌<◌, ◌≤◌, ◌⊎◌, List, ◌∷◌, length, set, slice_get, Some}
use Rattle.rsl_accounts.specs.Configuration.{Configuration}
use Rattle.rsl_event.specs.declared.event.Decision.{Decision}
use Rattle.rsl_event.specs.declared.event.Decision.TheVariants.{Done}
use Rattle.rsl_event.specs.declared.meaning.Dropped.{Dropped}
use Rattle.rsl_event.specs.declared.meaning.Dropped.TheVariants as drops
use Rattle.rsl_event.specs.declared.meaning.Meaning.{Meaning}
use Rattle.rsl_shard.specs.Moves.{moves_of}
use Rattle.rsl_shard.specs.Restep.{decision_by}
use Rattle.rsl_shard.specs.Seen.{ShardSeen, books_of, total_of, with_line}
use Rattle.rsl_shard.specs.Setup.{setup_of}
use Rattle.rsl_shard.specs.declared.moved.Move.{Move}
use Rattle.rsl_shard.specs.declared.moves.Moves.{Moves}
use Rattle.rsl_shard.specs.declared.moves.Moves.TheVariants.{Nothing, One, Each}
use Rattle.rsl_steps.specs.Books.{answer_by_book}
use Rattle.rsl_steps.specs.Ran.{AreShards}
use Rattle.rsl_steps.specs.declared.step.Answer.{Answer}
use Rattle.rsl_steps.specs.declared.step.Answer.TheVariants as answers
use Rattle.rsl_steps.specs.declared.step.Step.{Step}

-- each shard has room for another line
abbrev pub HaveShardsRoom : List ShardSeen → Type 0
HaveShardsRoom shards =
    (number : ℕ) (seen : ShardSeen) → slice_get shards number ≡ Some seen
    → total_of seen < 2 ^ 64 - 1

-- there is a shard for each number of the configuration
pub record AreReady (config : Configuration) (shards : List ShardSeen) : Type 0 where
  pub count : length shards ≡ config.settings.shards
  pub setup : (number : ℕ) (seen : ShardSeen) → slice_get shards number ≡ Some seen
      → seen.setup ≡ setup_of config number
  pub room : HaveShardsRoom shards

-- one shard has made a move, which its books decided
pub record IsMovedAt (number : ℕ) (moved : Move) (decision : Decision) (old new : List ShardSeen)
    : Type 0 where
  pub seen : ShardSeen
  pub there : slice_get old number ≡ Some seen
  pub moved_on : new ≡ set old number (with_line seen moved decision)
  pub decided : decision ≡ decision_by seen.setup (books_of seen) moved

-- The moves of a datagram are made: one moves its shard, and is decided by it; all else is done,
-- and changes nothing. So is a restart's datagram, whose sweeps are separate steps.
abbrev pub AreMade : Moves → Decision → (old new : List ShardSeen) → Type 0
AreMade (One shard moved) decision old new = IsMovedAt shard moved decision old new
AreMade (Each moved) decision old new = (decision ≡ Done) × (new ≡ old)
AreMade Nothing decision old new = (decision ≡ Done) × (new ≡ old)

-- the decision on a datagram of this meaning
abbrev pub IsDecided : Configuration → (moment : ℕ) → Meaning → Decision
    → (old new : List ShardSeen) → Type 0
IsDecided config moment meaning decision old new =
    AreMade (moves_of config moment meaning) decision old new

-- a sweep or a tick moves its shard, and is quiet; if there is no such shard nothing changes
pub record IsNotThere (number : ℕ) (old new : List ShardSeen) : Type 0 where
  pub past : length old ≤ number
  pub same : new ≡ old

abbrev pub IsQuietAt : Answer → (number : ℕ) → Move → (old new : List ShardSeen) → Type 0
IsQuietAt answers.Refused number moved old new = new ≡ old
IsQuietAt answers.Quiet number moved old new =
    ((decision : Decision) × IsMovedAt number moved decision old new) ⊎ IsNotThere number old new
IsQuietAt _ number moved old new = ⊥

-- a refused step changes nothing; another is answered, and the shards have made its moves
pub record IsStepTaken (config : Configuration) (boot : ℕ) (before : List Step) (step : Step)
    (answer : Answer) (new : List ShardSeen) : Type 0 where
  pub answered : answer ≡ answer_by_book config boot before step
  pub moved : AreShards config boot (step ∷ before) new

abbrev pub Takes : Configuration → (boot : ℕ) → (before : List Step) → Step → Answer
    → (old new : List ShardSeen) → Type 0
Takes config boot before step answers.Refused old new = new ≡ old
Takes config boot before step answer old new =
    IsStepTaken config boot before step answer new

-- a datagram for which memory was refused is a refused step
abbrev pub answer_to_drop : Dropped → Answer
answer_to_drop drops.NoMemory = answers.Refused
answer_to_drop dropped = answers.Dropped dropped
