-- Where the request to disconnect a session goes.
use Rattle.std.specs.Prelude.{◌≡◌, ℕ, List, Result}
use Rattle.rsl_accounts.specs.Configuration.{Configuration}
use Rattle.rld_books.specs.Server.{ServerSeen}
use Rattle.rld_control.specs.Disconnecting.{port_of, sent_to}
use Rattle.rld_control.specs.Stops.{IsStopOf}
use Rattle.rld_control.specs.declared.disconnected.DisconnectFault.{DisconnectFault}
use Rattle.rld_control.specs.declared.named.NamedSession.{NamedSession}
use Rattle.rld_control.specs.declared.stop.Stop.{Stop}
use Rattle.rld_state.specs.Held.{is_held_in}

-- the request for a session goes to the port of its client, where the books hold a link that its Stop ends
pub record GoesTo (config : Configuration) (books : ServerSeen) (named : NamedSession)
    (found : Result ℕ DisconnectFault) : Type 0 where
  pub stop : Stop
  pub named_is : IsStopOf config named stop
  pub is : found ≡ sent_to (port_of config named.client) (is_held_in books stop)
