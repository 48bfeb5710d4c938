-- The contents of a script with another line.
use Rattle.std.specs.Prelude.{◌&&◌, nat_lt, if◌then◌else◌, ◌++◌, length, Option, None, Some, option_to_list, option_and_then, unwrap_or}
use Rattle.rsl_accounts.specs.declared.settings.Settings.{Settings}
use Rattle.rsl_script.specs.declared.line.ScriptLine.{ScriptLine}
use Rattle.rsl_script.specs.declared.verb.Setting.TheVariants.{Shards, Reserve, Live, Grace, Closed, Keep}
use Rattle.rsl_script.specs.Script.{Contents, account_said, client_said, event_said, is_configuration, value_said}

abbrev pub with_setting : Settings → ScriptLine → Settings
with_setting settings line = record {
  version = settings.version;
  shards = unwrap_or (value_said Shards line) settings.shards;
  reserve = unwrap_or (value_said Reserve line) settings.reserve;
  live = unwrap_or (value_said Live line) settings.live;
  grace = unwrap_or (value_said Grace line) settings.grace;
  closed = unwrap_or (value_said Closed line) settings.closed;
  keep = unwrap_or (value_said Keep line) settings.keep;
  interim = settings.interim;
  station = settings.station;
  delay_time = settings.delay_time;
}

abbrev pub contents_with : Contents → ScriptLine → Contents
contents_with so_far line = record {
  settings = with_setting so_far.settings line;
  clients = so_far.clients ++ option_to_list (client_said line);
  accounts = so_far.accounts ++ option_to_list (account_said line);
  events = so_far.events ++ option_to_list (event_said line);
}

-- a configuration line after an event line is not taken
abbrev pub with_next_line : Contents → ScriptLine → Option Contents
with_next_line so_far line =
    if is_configuration line && nat_lt 0 (length so_far.events)
    then None
    else Some (contents_with so_far line)

-- nor is a line that says nothing right
unfoldable pub with_said : Contents → Option ScriptLine → Option Contents
with_said so_far said = option_and_then (with_next_line so_far) said
