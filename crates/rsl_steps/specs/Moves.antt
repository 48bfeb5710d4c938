-- The moves of a run's shards, from its steps.
use Rattle.std.specs.Prelude.{ℕ, ◌==◌, List, reverse, filter_map, Option, Some, None, Result, Ok, Err, if◌then◌else◌}
use Rattle.rsl_accounts.specs.Configuration.{Configuration}
use Rattle.rsl_event.specs.Meaning.{meaning}
use Rattle.rsl_event.specs.declared.meaning.Dropped.{Dropped}
use Rattle.rsl_event.specs.declared.meaning.Meaning.{Meaning}
use Rattle.rsl_shard.specs.Moves.{moves_of}
use Rattle.rsl_shard.specs.declared.moved.Move.{Move}
use Rattle.rsl_shard.specs.declared.moved.Move.TheVariants as moves
use Rattle.rsl_shard.specs.declared.moves.Moves.{Moves}
use Rattle.rsl_shard.specs.declared.moves.Moves.TheVariants.{Nothing, One, Each}
use Rattle.rsl_steps.specs.declared.step.Step.{Step}
use Rattle.rsl_steps.specs.declared.step.Step.TheVariants as steps
use Rattle.rsl_steps.specs.declared.step.Step.TheVariants.{Datagram}

-- the move of a shard among the moves of a datagram. A restart's datagram moves no shard: its
-- sweeps are separate steps.
abbrev pub move_to : (shard : ℕ) → Moves → Option Move
move_to shard (One other moved) = if other == shard then Some moved else None
move_to shard (Each moved) = None
move_to shard Nothing = None

-- the move of a datagram of this meaning for a shard, if any
abbrev pub move_in : Configuration → (shard moment : ℕ) → Result Meaning Dropped → Option Move
move_in config shard moment (Ok meaning) = move_to shard (moves_of config moment meaning)
move_in config shard moment (Err dropped) = None

-- the move of a step for a shard, if any
abbrev pub move_of : Configuration → (boot shard : ℕ) → Step → Option Move
move_of config boot shard (Datagram moment port source octets) =
    move_in config shard moment (meaning config boot port source octets)
move_of config boot shard (steps.Sweep other moment nas delay) =
    if shard == other then Some (moves.Sweep moment nas delay) else None
move_of config boot shard (steps.Tick other moment) =
    if shard == other then Some (moves.Tick moment) else None

-- the moves of a shard, in the order of the steps, which are listed newest first
unfoldable pub shard_moves : Configuration → (boot shard : ℕ) → (before : List Step) → List Move
shard_moves config boot shard before = filter_map (move_of config boot shard) (reverse before)
