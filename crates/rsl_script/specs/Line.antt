-- What a line of a script says.
use Rattle.std.specs.Prelude.{ℕ, true, false, List, [], ◌∷◌, codes, if◌then◌else◌, Option, None, Some, option_map, unwrap_or}
use Rattle.rsl_accounts.specs.Address.{address_of}
use Rattle.rsl_accounts.specs.Settings.{rules_of_places}
use Rattle.rsl_accounts.specs.declared.entry.Entry.{Entry}
use Rattle.rsl_script.specs.declared.line.ScriptLine.{ScriptLine}
use Rattle.rsl_script.specs.declared.line.Options.{Options}
use Rattle.rsl_script.specs.declared.line.ScriptLine.TheVariants as lines
use Rattle.rsl_script.specs.declared.verb.Verb.{Verb}
use Rattle.rsl_script.specs.declared.verb.Verb.TheVariants.{Set, Client, Account, Event}
use Rattle.rsl_script.specs.Event.{read_event}
use Rattle.rsl_script.specs.Reads.{◌>>=◌}
use Rattle.rsl_script.specs.Values.{leading_number, read_flag, read_number}
use Rattle.rsl_script.specs.Verb.{setting_of, verb_of}
use Rattle.rsl_script.specs.Words.{is_printed, is_silent, are_words, line_words}

-- a setting: NAME VALUE
unfoldable pub set_line : (words : List (List ℕ)) → Option ScriptLine
set_line (name ∷ value ∷ []) = do
  setting ← setting_of name
  value ← read_number value
  Some (lines.Set setting value)
set_line _ = None

-- a client: ADDRESS SECRET [signed], the last word if its requests must be signed
unfoldable pub client_line : (words : List (List ℕ)) → Option ScriptLine
client_line (address ∷ secret ∷ rest) = do
  address ← address_of address
  signed ← read_flag (codes "signed") rest
  Some (lines.Client (record {
    address = address;
    secret = secret;
    signed = signed;
    trusted = false;
    disconnect = None;
  }))
client_line _ = None

-- the optional words of an account: [PORTS] [live=N] [grace=N] [station], each at most once and in
-- this order
unfoldable pub read_options : (words : List (List ℕ)) → Option Options
read_options words =
    let ports = leading_number (codes "") words in
    let live = leading_number (codes "live=") ports.1 in
    let grace = leading_number (codes "grace=") live.1 in do
      station ← read_flag (codes "station") grace.1
      Some (record { ports = ports.0; live = live.0; grace = grace.0; station = station })

-- an account with one port, unless ports are given, and the times of the settings, unless it has
-- its own; it counts by stations if its line says so, and its accepts have no further attributes
abbrev pub account_with : (name password : List ℕ) → (places : ℕ) → Options → Entry
account_with name password places options = record {
  name = name;
  password = Some password;
  rules = rules_of_places places (unwrap_or options.ports 1);
  service_type = None;
  framed_protocol = None;
  session_timeout = None;
  idle_timeout = None;
  own_live = options.live;
  own_grace = options.grace;
  own_station = if options.station then Some true else None;
  interim = None;
  disabled = false;
  port_limit = true;
  reply = [];
}

-- an account: NAME PASSWORD PLACES, and its optional words
unfoldable pub account_line : (words : List (List ℕ)) → Option ScriptLine
account_line (name ∷ password ∷ places ∷ rest) = do
  places ← read_number places
  options ← read_options rest
  Some (lines.Account (account_with name password places options))
account_line _ = None

-- what the words after the first say
unfoldable pub said_about : Verb → (words : List (List ℕ)) → Option ScriptLine
said_about Set words = set_line words
said_about Client words = client_line words
said_about Account words = account_line words
said_about (Event verb) words = option_map lines.Event (read_event verb words)

-- what the words of a line say
unfoldable pub said_in : (words : List (List ℕ)) → Option ScriptLine
said_in [] = None
said_in (word ∷ rest) = do
  verb ← verb_of word
  said_about verb rest

-- what a line says, or nothing if it is wrong
unfoldable pub line_of : (octets : List ℕ) → Option ScriptLine
line_of octets =
    if is_printed octets
    then if is_silent octets
    then Some lines.Silent
    else if are_words (line_words octets) then said_in (line_words octets) else None
    else None
