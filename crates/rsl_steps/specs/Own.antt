-- The steps of a run, as one account's events.
use Rattle.std.specs.Prelude.{ℕ, ◌==◌, ◌%◌, Bool, List, reverse, filter_map, Option, Some, None, Result, Ok, if◌then◌else◌}
use Rattle.rsl_accounts.specs.Configuration.{Configuration}
use Rattle.rsl_event.specs.Meaning.{meaning}
use Rattle.rsl_event.specs.declared.event.Event.{Event}
use Rattle.rsl_event.specs.declared.meaning.Meaning.{Meaning}
use Rattle.rsl_event.specs.declared.meaning.Meaning.TheVariants.{Own}
use Rattle.rsl_event.specs.declared.meaning.Dropped.{Dropped}
use Rattle.rsl_steps.specs.declared.step.Step.{Step}
use Rattle.rsl_steps.specs.declared.step.Step.TheVariants as steps
use Rattle.rsl_steps.specs.declared.step.Step.TheVariants.{Datagram}
use Rattle.rsl_event.specs.declared.event.Act.TheVariants as acts

-- the own event of a meaning for an account, if any
abbrev pub own_event : (account moment : ℕ) → Result Meaning Dropped → Option Event
own_event account moment (Ok (Own other act)) =
    if other == account then Some (record { moment = moment; act = act }) else None
own_event account moment _ = None

-- whether the account is of the shard
abbrev pub is_of_shard : Configuration → (account shard : ℕ) → Bool
is_of_shard config account shard = account % config.settings.shards == shard

-- the event of a step for an account: its own packet, or a sweep or a tick of its shard
abbrev pub event_of : Configuration → (boot account : ℕ) → Step → Option Event
event_of config boot account (Datagram moment port source octets) =
    own_event account moment (meaning config boot port source octets)
event_of config boot account (steps.Sweep shard moment nas delay) =
    if is_of_shard config account shard
    then Some (record { moment = moment; act = acts.Sweep nas delay })
    else None
event_of config boot account (steps.Tick shard moment) =
    if is_of_shard config account shard
    then Some (record { moment = moment; act = acts.Tick })
    else None

-- an account's own events among steps, in order
unfoldable pub own_events : Configuration → (boot account : ℕ) → List Step → List Event
own_events config boot account steps = filter_map (event_of config boot account) steps

-- an account's own events among steps listed newest first, as those before a step of a run are
unfoldable pub own : Configuration → (boot account : ℕ) → (before : List Step) → List Event
own config boot account before = own_events config boot account (reverse before)
