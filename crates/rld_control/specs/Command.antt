-- What a line asks a running server for: a word, and after it those that it wants, each after one
-- space.
use Rattle.std.specs.Prelude.{ℕ, List, [], ◌++◌, codes, Option, Some, None, ◌||◌, bytes_eq, if◌then◌else◌}
use Rattle.std.specs.Option.{option_map}
use Rattle.rld_values.specs.Read.{octets_of_word}
use Rattle.rld_values.specs.Values.{word}
use Rattle.rld_control.specs.Listing.{listing_of, listing_words}
use Rattle.rld_control.specs.Named.{named_server_of, named_server_words, named_session_of, session_words}
use Rattle.rld_control.specs.Words.{by_first_word}
use Rattle.rld_control.specs.declared.command.Command.{Command}
use Rattle.rld_control.specs.declared.command.Command.TheVariants.{Status, Ready, Accounts, Sessions, Links, Free, FreeServer, Disconnect, Ask, Reload, Stop}
use Rattle.rld_control.specs.declared.form.Form.{Form}
use Rattle.rld_control.specs.declared.form.Form.TheVariants.{Lines, Json}
use Rattle.rld_control.specs.declared.form.Selection.{Selection}
use Rattle.rld_control.specs.declared.form.Selection.TheVariants.{All, Held, Full}

-- ---- writing

abbrev pub form_flag : Form → List ℕ
form_flag Lines = []
form_flag Json = codes " --json"

abbrev pub selection_flag : Selection → List ℕ
selection_flag All = []
selection_flag Held = codes " --held"
selection_flag Full = codes " --full"

-- the line of a command
abbrev pub line_of : Command → List ℕ
line_of (Status form) = codes "status" ++ form_flag form
line_of (Accounts form selection) = codes "accounts" ++ form_flag form ++ selection_flag selection
line_of (Sessions Lines account) = codes "sessions " ++ word account
line_of (Sessions Json account) = codes "sessions --json " ++ word account
line_of (Links listing) = codes "links " ++ listing_words listing
line_of (Free session) = codes "free " ++ session_words session
line_of (FreeServer server) = codes "free-server " ++ named_server_words server
line_of (Disconnect session) = codes "disconnect " ++ session_words session
line_of (Ask form) = codes "ask " ++ form
line_of Ready = codes "ready"
line_of Reload = codes "reload"
line_of Stop = codes "stop"

-- ---- reading

-- the command of a single word
abbrev pub command_alone : (word : List ℕ) → Option Command
command_alone word =
    if bytes_eq word (codes "status") then Some (Status Lines)
    else if bytes_eq word (codes "accounts") then Some (Accounts Lines All)
    else if bytes_eq word (codes "ready") then Some Ready
    else if bytes_eq word (codes "reload") then Some Reload
    else if bytes_eq word (codes "stop") then Some Stop
    else None

-- the command `status` with flags
abbrev pub status_with : (flags : List ℕ) → Option Command
status_with flags = if bytes_eq flags (codes "--json") then Some (Status Json) else None

-- the command `accounts` with flags
abbrev pub accounts_with : (flags : List ℕ) → Option Command
accounts_with flags =
    if bytes_eq flags (codes "--json") then Some (Accounts Json All)
    else if bytes_eq flags (codes "--held") then Some (Accounts Lines Held)
    else if bytes_eq flags (codes "--full") then Some (Accounts Lines Full)
    else if bytes_eq flags (codes "--json --held") || bytes_eq flags (codes "--held --json") then Some (Accounts Json Held)
    else if bytes_eq flags (codes "--json --full") || bytes_eq flags (codes "--full --json") then Some (Accounts Json Full)
    else None

-- the command `sessions` with the word of an account
abbrev pub sessions_of : Form → (word : List ℕ) → Option Command
sessions_of form word = option_map (λ (account : List ℕ). Sessions form account) (octets_of_word word)

-- the command `sessions` with a flag before the word
abbrev pub flagged_sessions : (flag word : List ℕ) → Option Command
flagged_sessions flag word = if bytes_eq flag (codes "--json") then sessions_of Json word else None

abbrev pub sessions_with : (words : List ℕ) → Option Command
sessions_with words = by_first_word flagged_sessions (sessions_of Lines words) words

-- the command of a word with others after it
abbrev pub command_with : (word words : List ℕ) → Option Command
command_with word words =
    if bytes_eq word (codes "sessions") then sessions_with words
    else if bytes_eq word (codes "free") then option_map Free (named_session_of words)
    else if bytes_eq word (codes "links") then option_map Links (listing_of words)
    else if bytes_eq word (codes "free-server") then option_map FreeServer (named_server_of words)
    else if bytes_eq word (codes "disconnect") then option_map Disconnect (named_session_of words)
    else if bytes_eq word (codes "ask") then Some (Ask words)
    else if bytes_eq word (codes "status") then status_with words
    else if bytes_eq word (codes "accounts") then accounts_with words
    else None

-- the command of a line
abbrev pub command_of : (line : List ℕ) → Option Command
command_of line = by_first_word command_with (command_alone line) line
