-- What a shard knows of the configuration: its own number, and how many shards and accounts there
-- are.
use Rattle.std.specs.Prelude.{ℕ, ◌<◌, ◌≤◌, length}
use Rattle.rsl_accounts.specs.Configuration.{Configuration}

pub record Setup : Type 0 where
  pub shard : ℕ
  pub shards : ℕ
  pub accounts : ℕ

abbrev pub setup_of : Configuration → (shard : ℕ) → Setup
setup_of config shard =
    record { shard = shard; shards = config.settings.shards; accounts = length config.accounts }

-- the shard is one of at most 4, and there are at most 16,384 accounts
pub record IsSetup (setup : Setup) : Type 0 where
  pub shard : setup.shard < setup.shards
  pub shards : setup.shards ≤ 4
  pub accounts : setup.accounts ≤ 16384
