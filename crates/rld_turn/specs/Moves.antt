-- The move that a datagram adds to a batch, and its decision.
use Rattle.std.specs.Prelude.{ℕ, List, Option, Some, None}
use Rattle.rsl_accounts.specs.Configuration.{Configuration}
use Rattle.rsl_event.specs.declared.event.Decision.{Decision}
use Rattle.rsl_event.specs.declared.event.Decision.TheVariants.{Done}
use Rattle.rsl_event.specs.declared.meaning.Meaning.{Meaning}
use Rattle.rsl_shard.specs.Moves.{moves_of}
use Rattle.rsl_shard.specs.declared.moved.Move.{Move}
use Rattle.rsl_shard.specs.declared.moves.Moves.{Moves}
use Rattle.rsl_shard.specs.declared.moves.Moves.TheVariants.{Nothing, One, Each}
use Rattle.rld_books.specs.Server.{ServerSeen, decision_in}

-- the one move that these make in the log: a restart is one sweep there
abbrev pub in_log : Moves → Option Move
in_log Nothing = None
in_log (One shard moved) = Some moved
in_log (Each moved) = Some moved

-- the move of a meaning at a moment: its own, a restart's sweep or a stray; a reject has none
abbrev pub move_of : Configuration → (moment : ℕ) → Meaning → Option Move
move_of config moment meant = in_log (moves_of config moment meant)

-- the decision of the books on a meaning with this move
abbrev pub decided : ServerSeen → Option Move → Decision
decided books None = Done
decided books (Some moved) = decision_in books moved
