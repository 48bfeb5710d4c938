-- The moves of shards: those that a datagram makes, by its meaning, those that a shard takes, and
-- what they are to its accounts.
use Rattle.std.specs.Prelude.{◌≡◌, ℕ, ◌<◌, ◌==◌, ◌%◌, List, filter_map, Option, Some, None, if◌then◌else◌}
use Rattle.rsl_accounts.specs.Configuration.{Configuration}
use Rattle.rsl_event.specs.Prepared.{IsOfOneAccount}
use Rattle.rsl_event.specs.declared.meaning.Meaning.{Meaning}
use Rattle.rsl_event.specs.declared.meaning.Meaning.TheVariants as meanings
use Rattle.rsl_event.specs.declared.event.Act.TheVariants as acts
use Rattle.rsl_event.specs.declared.event.Event.{Event}
use Rattle.rsl_shard.specs.Setup.{Setup, setup_of}
use Rattle.rsl_shard.specs.declared.line.Line.{Line}
use Rattle.rsl_shard.specs.declared.moved.Move.{Move}
use Rattle.rsl_shard.specs.declared.moved.Move.TheVariants.{Own, Sweep, Tick, Stray}
use Rattle.rsl_shard.specs.declared.moves.Moves.{Moves}
use Rattle.rsl_shard.specs.declared.moves.Moves.TheVariants.{Nothing, One, Each}

-- The moves of a meaning at a moment: an own act moves the account's shard, a stray shard 0, and a
-- restart sweeps every shard. All else moves none.
abbrev pub moves_of : Configuration → (moment : ℕ) → Meaning → Moves
moves_of config moment (meanings.Own account act) =
    One (account % config.settings.shards)
    (Own account (record { moment = moment; act = act }))
moves_of config moment (meanings.Stray note) = One 0 (Stray moment note)
moves_of config moment (meanings.Restart nas delay) = Each (Sweep moment nas delay)
moves_of config moment meanings.Bare = Nothing
moves_of config moment meanings.Reject = Nothing

-- an account of a shard: accounts are dealt to the shards in turn
pub record IsOfShard (setup : Setup) (account : ℕ) : Type 0 where
  pub there : account < setup.accounts
  pub of_shard : account % setup.shards ≡ setup.shard

-- an account of a shard, and an event of one account
pub record IsOwn (setup : Setup) (account : ℕ) (event : Event) : Type 0 where
  pub own_account : IsOfShard setup account
  pub act : IsOfOneAccount event.act

-- a move that a shard takes: an own move has to be an ask, an alive or a stop of one of its
-- accounts
abbrev pub IsTaken : Setup → Move → Type 0
IsTaken setup (Own account event) = IsOwn setup account event
IsTaken setup _ = Unit {0}

-- a move that every shard takes: of no account
abbrev pub IsOfAll : Move → Type 0
IsOfAll (Own account event) = ⊥
IsOfAll _ = Unit {0}

-- the shard exists and takes the move
pub record IsTakenAt (config : Configuration) (shard : ℕ) (moved : Move) : Type 0 where
  pub there : shard < config.settings.shards
  pub taken : IsTaken (setup_of config shard) moved

-- the shards of some moves exist and take them
abbrev pub AreTaken : Configuration → Moves → Type 0
AreTaken config Nothing = Unit {0}
AreTaken config (One shard moved) = IsTakenAt config shard moved
AreTaken config (Each moved) = IsOfAll moved

-- the event of a move for an account of the shard: its own event, a sweep or a tick
abbrev pub event_to : (account : ℕ) → Move → Option Event
event_to account (Own other event) = if other == account then Some event else None
event_to account (Sweep moment nas delay) =
    Some (record { moment = moment; act = acts.Sweep nas delay })
event_to account (Tick moment) = Some (record { moment = moment; act = acts.Tick })
event_to account (Stray moment note) = None

-- an account's own events among lines, in order
unfoldable pub own_in : (account : ℕ) → List Line → List Event
own_in account lines = filter_map (λ line. event_to account line.moved) lines
