-- The session limit of an account, and the times that the settings give it.
use Rattle.std.specs.Prelude.{ℕ, if◌then◌else◌, Option, None, unwrap_or}
use Rattle.std.specs.Option.{option_or}
use Rattle.rsl_accounts.specs.declared.entry.Entry.{Entry}
use Rattle.rsl_accounts.specs.declared.rules.Rules.{Rules}
use Rattle.rsl_accounts.specs.declared.settings.Settings.{Settings}
use Rattle.rsl_accounts.specs.Version.{knows_own_times}

-- a session limit whose times are filled in later
abbrev pub rules_of_places : (places ports : ℕ) → Rules
rules_of_places places ports = record {
  places = places;
  ports = ports;
  reserve = 0;
  live = 0;
  grace = 0;
  closed = 0;
  keep = 0;
}

-- a time of an account: its own if the version knows one, else the file's
abbrev pub own_time : (version : ℕ) → (own : Option ℕ) → (common : ℕ) → ℕ
own_time version own common = if knows_own_times version then unwrap_or own common else common

-- the interim interval of an account's accepts: its own, else the file's, and none if the version
-- knows none
abbrev pub interim_of : Settings → Entry → Option ℕ
interim_of settings entry =
    if knows_own_times settings.version then option_or entry.interim settings.interim else None

-- the session limit of an account, with its times
abbrev pub rules_of : Settings → Entry → Rules
rules_of settings entry = record {
  places = entry.rules.places;
  ports = entry.rules.ports;
  reserve = settings.reserve;
  live = own_time settings.version entry.own_live settings.live;
  grace = own_time settings.version entry.own_grace settings.grace;
  closed = settings.closed;
  keep = settings.keep;
}
