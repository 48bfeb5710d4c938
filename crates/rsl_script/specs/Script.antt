-- A script: what the lines of a text say together, or the number of its first wrong line.
use Rattle.std.specs.Prelude.{ℕ, ◌+◌, Bool, true, false, ◌&&◌, if◌then◌else◌, List, [], ◌∷◌, ◌++◌, length, map, filter_map, Option, None, Some, Result, Ok, Err}
use Rattle.std.specs.List.{list_any}
use Rattle.rsl_accounts.specs.declared.client.Client.{Client}
use Rattle.rsl_accounts.specs.declared.entry.Entry.{Entry}
use Rattle.rsl_accounts.specs.declared.settings.Settings.{Settings}
use Rattle.rsl_script.specs.declared.event_line.EventLine.{EventLine}
use Rattle.rsl_script.specs.declared.fault.ScriptFault.{ScriptFault}
use Rattle.rsl_script.specs.declared.fault.ScriptFault.TheVariants as faults
use Rattle.rsl_script.specs.declared.line.ScriptLine.{ScriptLine}
use Rattle.rsl_script.specs.declared.line.ScriptLine.TheVariants as lines
use Rattle.rsl_script.specs.declared.script.Script.{Script}
use Rattle.rsl_script.specs.declared.verb.Setting.{Setting}
use Rattle.rsl_script.specs.declared.verb.Setting.TheVariants.{Shards, Reserve, Live, Grace, Closed, Keep}
use Rattle.rsl_script.specs.Line.{line_of}
use Rattle.rsl_script.specs.Words.{text_lines}

-- what a script holds
pub record Contents : Type 0 where
  pub settings : Settings
  pub clients : List Client
  pub accounts : List Entry
  pub events : List EventLine

abbrev pub contents : Script → Contents
contents script = record {
  settings = script.settings;
  clients = script.clients.items;
  accounts = script.accounts.items;
  events = script.events.items;
}

-- the part of a line that says this kind of thing
abbrev pub client_said : ScriptLine → Option Client
client_said (lines.Client client) = Some client
client_said _ = None

abbrev pub account_said : ScriptLine → Option Entry
account_said (lines.Account account) = Some account
account_said _ = None

abbrev pub event_said : ScriptLine → Option EventLine
event_said (lines.Event event) = Some event
event_said _ = None

abbrev pub is_same : Setting → Setting → Bool
is_same Shards Shards = true
is_same Reserve Reserve = true
is_same Live Live = true
is_same Grace Grace = true
is_same Closed Closed = true
is_same Keep Keep = true
is_same _ _ = false

abbrev pub value_said : Setting → ScriptLine → Option ℕ
value_said setting (lines.Set other value) = if is_same setting other then Some value else None
value_said setting _ = None

-- the last of some values, or else the first one
abbrev pub last_of : (first : ℕ) → List ℕ → ℕ
last_of first [] = first
last_of first (value ∷ rest) = last_of value rest

-- the value of the last line that sets it, or else `otherwise`
abbrev pub setting_in : Setting → (otherwise : ℕ) → List ScriptLine → ℕ
setting_in setting otherwise said = last_of otherwise (filter_map (value_said setting) said)

-- what lines say together: settings, and clients, accounts and events in the order of their lines
unfoldable pub contents_of : List ScriptLine → Contents
contents_of said = record {
  settings = record {
    version = 2;
    shards = setting_in Shards 1 said;
    reserve = setting_in Reserve 60 said;
    live = setting_in Live 900 said;
    grace = setting_in Grace 900 said;
    closed = setting_in Closed 3600 said;
    keep = setting_in Keep 10 said;
    interim = None;
    station = false;
    delay_time = true;
  };
  clients = filter_map client_said said;
  accounts = filter_map account_said said;
  events = filter_map event_said said;
}

abbrev pub is_configuration : ScriptLine → Bool
is_configuration (lines.Set setting value) = true
is_configuration (lines.Client client) = true
is_configuration (lines.Account account) = true
is_configuration _ = false

abbrev pub is_event : Option ScriptLine → Bool
is_event (Some (lines.Event event)) = true
is_event _ = false

-- whether a line after these is wrong: it says nothing right, or is a configuration line after an
-- event line
abbrev pub is_wrong : (before : List (Option ScriptLine)) → Option ScriptLine → Bool
is_wrong before None = true
is_wrong before (Some line) = is_configuration line && list_any is_event before

-- the number of the first wrong line, of lines after these. Lines are numbered from 1
unfoldable pub first_wrong : (before : List (Option ScriptLine)) → List (Option ScriptLine) → Option ℕ
first_wrong before [] = None
first_wrong before (line ∷ rest) =
    if is_wrong before line
    then Some (length before + 1)
    else first_wrong (before ++ line ∷ []) rest

abbrev pub unless_wrong : Option ℕ → Contents → Result Contents ScriptFault
unless_wrong None said = Ok said
unless_wrong (Some number) said = Err (faults.Line number)

-- the script of a text
unfoldable pub script_of : (text : List ℕ) → Result Contents ScriptFault
script_of text =
    unless_wrong (first_wrong [] (map line_of (text_lines text)))
    (contents_of (filter_map line_of (text_lines text)))
