-- Tests of equality: each is true exactly if the two values are equal.
use Rattle.std.specs.Prelude.{Bool, ◌&&◌}
use Rattle.rsl_session.specs.declared.session.Session.{Session}
use Rattle.rsl_session.specs.declared.bundle.Bundle.{Bundle}
pub use Rattle.rsl_accounts.specs.Configuration.{same_octets}
unfoldable pub use Rattle.rsl_event.specs.Same.{same_key, same_name, same_nas}

unfoldable pub same_session : Session → Session → Bool
same_session a b = same_nas a.nas b.nas && same_octets a.id b.id

unfoldable pub same_bundle : Bundle → Bundle → Bool
same_bundle a b = same_nas a.nas b.nas && same_octets a.id b.id
