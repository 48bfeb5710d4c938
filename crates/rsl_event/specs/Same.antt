-- Tests of equality: each is true exactly if the two values are equal.
use Rattle.std.specs.Prelude.{Bool, true, false, ◌&&◌, ◌==◌}
use Rattle.rsl_accounts.specs.Configuration.{same_octets}
use Rattle.rsl_event.specs.declared.event.Key.{Key}
use Rattle.rsl_event.specs.declared.nas.Nas.{Nas}
use Rattle.rsl_event.specs.declared.nas.NasName.{NasName}
use Rattle.rsl_event.specs.declared.nas.NasName.TheVariants.{Identifier, Address, Unnamed}

unfoldable pub same_key : Key → Key → Bool
same_key a b =
    same_octets a.source.address b.source.address
    && a.source.port == b.source.port
    && a.id == b.id
    && same_octets a.authenticator b.authenticator

unfoldable pub same_name : NasName → NasName → Bool
same_name (Identifier a) (Identifier b) = same_octets a b
same_name (Address a) (Address b) = same_octets a b
same_name Unnamed Unnamed = true
same_name _ _ = false

unfoldable pub same_nas : Nas → Nas → Bool
same_nas a b = a.client == b.client && same_name a.name b.name
