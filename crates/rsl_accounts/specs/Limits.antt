-- The limits of an account's rules, and of a whole configuration.
use Rattle.std.specs.Prelude.{◌≡◌, ◌≢◌, ℕ, ◌≤◌, List, All, IfSome, length as length_of, false, true}
use Rattle.rsl_accounts.specs.declared.entry.Entry.{Entry}
use Rattle.rsl_accounts.specs.declared.rules.Rules.{Rules}
use Rattle.rsl_accounts.specs.declared.settings.Settings.{Settings}
use Rattle.rsl_accounts.specs.Configuration.{Configuration, addresses, names, comes_twice}
use Rattle.rsl_accounts.specs.Settings.{rules_of}
use Rattle.rsl_accounts.specs.Version.{knows_own_times, least_secret, reply_room}

-- the seconds of a time of a rule
pub record IsTime (seconds : ℕ) : Type 0 where
  pub some : 1 ≤ seconds
  pub within_a_day : seconds ≤ 86400

-- the seconds of an interim interval (RFC 2869 section 5.16: at least 60)
pub record IsInterval (seconds : ℕ) : Type 0 where
  pub a_minute : 60 ≤ seconds
  pub within_a_day : seconds ≤ 86400

-- every number of the rules is within its limits
pub record RulesFit (rules : Rules) : Type 0 where
  pub places : rules.places ≤ 64
  pub a_port : 1 ≤ rules.ports
  pub ports : rules.ports ≤ 16
  pub reserve : IsTime rules.reserve
  pub live : IsTime rules.live
  pub grace : IsTime rules.grace
  pub closed : IsTime rules.closed
  pub keep : IsTime rules.keep
  pub keep_within_reserve : rules.keep ≤ rules.reserve

-- every number of the settings is within its limits
pub record SettingsFit (settings : Settings) : Type 0 where
  pub a_version : 1 ≤ settings.version
  pub version : settings.version ≤ 3
  pub a_shard : 1 ≤ settings.shards
  pub shards : settings.shards ≤ 4
  pub reserve : IsTime settings.reserve
  pub live : IsTime settings.live
  pub grace : IsTime settings.grace
  pub closed : IsTime settings.closed
  pub keep : IsTime settings.keep
  pub keep_within_reserve : settings.keep ≤ settings.reserve
  pub interim : knows_own_times settings.version ≡ true → IfSome settings.interim IsInterval

-- a secret or a password: 1 to 128 octets without NUL
pub record IsSecret (text : List ℕ) : Type 0 where
  pub some : 1 ≤ length_of text
  pub length : length_of text ≤ 128
  pub no_nul : All (λ octet. octet ≢ 0) text

-- a name: 1 to 64 octets, each a visible ASCII character
pub record IsName (text : List ℕ) : Type 0 where
  pub some : 1 ≤ length_of text
  pub length : length_of text ≤ 64
  pub visible : All (λ octet. (33 ≤ octet) × (octet ≤ 126)) text

-- the account is within its limits, and its times are its own or those of the settings
pub record IsAccount (settings : Settings) (entry : Entry) : Type 0 where
  pub name : IsName entry.name
  pub password : IfSome entry.password IsSecret
  pub rules : RulesFit entry.rules
  pub times : entry.rules ≡ rules_of settings entry
  pub service_type : IfSome entry.service_type (λ number. 1 ≤ number)
  pub framed_protocol : IfSome entry.framed_protocol (λ number. 1 ≤ number)
  pub session_timeout : IfSome entry.session_timeout (λ number. 1 ≤ number)
  pub idle_timeout : IfSome entry.idle_timeout (λ number. 1 ≤ number)
  pub interim : IfSome entry.interim IsInterval
  pub reply : length_of entry.reply ≤ reply_room settings.version

-- all of the configuration is within its limits, and no two clients have one address, and no two
-- accounts one name
pub record IsConfiguration (config : Configuration) : Type 0 where
  pub settings : SettingsFit config.settings
  pub a_client : 1 ≤ length_of config.clients
  pub clients : length_of config.clients ≤ 256
  pub an_account : 1 ≤ length_of config.accounts
  pub accounts : length_of config.accounts ≤ 16384
  pub secrets : All (λ client. IsSecret client.secret) config.clients
  pub long_secrets : All (λ client. least_secret config.settings.version ≤ length_of client.secret)
      config.clients
  pub trusted_sign : All (λ client. client.trusted ≡ true → client.signed ≡ true) config.clients
  pub disconnect_ports : All (λ client. IfSome client.disconnect (λ port. 1 ≤ port)) config.clients
  pub each_account : All (IsAccount config.settings) config.accounts
  pub addresses_differ : comes_twice (addresses config.clients) ≡ false
  pub names_differ : comes_twice (names config.accounts) ≡ false
