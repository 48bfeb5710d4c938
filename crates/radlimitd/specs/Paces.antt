-- The pace of a server's logs.
use Rattle.rld_config.specs.declared.sync.SyncPolicy.{SyncPolicy}
use Rattle.rld_config.specs.declared.sync.SyncPolicy.TheVariants as policies
use Rattle.rld_log.specs.declared.pace.Pace.{Pace}
use Rattle.rld_log.specs.declared.pace.Pace.TheVariants as paces

abbrev pub pace_of : SyncPolicy → Pace
pace_of policies.Always = paces.Always
pace_of policies.Second = paces.Second
pace_of policies.Never = paces.Never
