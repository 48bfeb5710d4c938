-- How networks fit accounts.
use Rattle.std.specs.Prelude.{◌≡◌, List, None}
use Rattle.rld_config.specs.Server.{shadowed_client, unknown_client, unsigned_client}
use Rattle.rld_networks.specs.declared.network.Network.{Network}
use Rattle.rsl_accounts.specs.Configuration.{Configuration}

-- The client of each network is there, and signs where it has to; and no network takes the address of another
-- client.
pub record AreFit (networks : List Network) (config : Configuration) : Type 0 where
  pub known : unknown_client networks config ≡ None
  pub signing : unsigned_client networks config ≡ None
  pub apart : shadowed_client networks config ≡ None
