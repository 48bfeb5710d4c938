-- What the arguments of the program ask for.
use Rattle.std.specs.Prelude.{ℕ, ◌==◌, ◌&&◌, ◌||◌, nat_le, Bool, false, List, [], ◌∷◌, length, codes, bytes_eq, if◌then◌else◌, Option, None, Some, Result, Ok, Err}
use Rattle.rld_words.specs.declared.command.Command.{Command}
use Rattle.rld_words.specs.declared.command.Command.TheVariants.{Do, HelpOn, Help, HelpOnVersion, Version}
use Rattle.rld_words.specs.declared.command.Misuse.{Misuse}
use Rattle.rld_words.specs.declared.command.Misuse.TheVariants.{NoCommand, UnknownCommand, Words}
use Rattle.rld_words.specs.declared.topic.Topic.{Topic}
use Rattle.rld_words.specs.declared.topic.Topic.TheVariants as topics

-- the command of a name
abbrev pub topic_of : (word : List ℕ) → Option Topic
topic_of word =
    if bytes_eq word (codes "check") then Some topics.Check
    else if bytes_eq word (codes "init") then Some topics.Init
    else if bytes_eq word (codes "run") then Some topics.Run
    else if bytes_eq word (codes "status") then Some topics.Status
    else if bytes_eq word (codes "ready") then Some topics.Ready
    else if bytes_eq word (codes "accounts") then Some topics.Accounts
    else if bytes_eq word (codes "sessions") then Some topics.Sessions
    else if bytes_eq word (codes "free") then Some topics.Free
    else if bytes_eq word (codes "disconnect") then Some topics.Disconnect
    else if bytes_eq word (codes "ask") then Some topics.Ask
    else if bytes_eq word (codes "reload") then Some topics.Reload
    else if bytes_eq word (codes "stop") then Some topics.Stop
    else if bytes_eq word (codes "reply") then Some topics.Reply
    else if bytes_eq word (codes "lines") then Some topics.Lines
    else if bytes_eq word (codes "export") then Some topics.Export
    else if bytes_eq word (codes "rebase") then Some topics.Rebase
    else None

abbrev pub is_between : (least most words : ℕ) → Bool
is_between least most words = nat_le least words && nat_le words most

-- how many words a command takes: the name of a file or a folder, or of several files; flags and how long to wait, as
-- two words, or those of a session or an account, as one or more
abbrev pub takes : Topic → (words : ℕ) → Bool
takes topics.Lines words = nat_le 1 words
takes topics.Export words = is_between 1 6 words
takes topics.Sessions words = nat_le 1 words
takes topics.Reply words = words == 2
takes topics.Free words = nat_le 2 words
takes topics.Disconnect words = nat_le 2 words
takes topics.Ask words = nat_le 2 words
takes topics.Check words = words == 1
takes topics.Init words = words == 1
takes topics.Run words = words == 1
takes topics.Status words = is_between 1 4 words
takes topics.Ready words = words == 1
takes topics.Accounts words = is_between 1 5 words
takes topics.Reload words = words == 1 || words == 3
takes topics.Stop words = words == 1
takes topics.Rebase words = words == 1

-- the flag that asks for help
abbrev pub is_flag : (word : List ℕ) → Bool
is_flag word = bytes_eq word (codes "--help") || bytes_eq word (codes "-h")

abbrev pub is_help : (word : List ℕ) → Bool
is_help word = bytes_eq word (codes "help") || is_flag word

abbrev pub is_version : (word : List ℕ) → Bool
is_version word =
    bytes_eq word (codes "version")
    || bytes_eq word (codes "--version")
    || bytes_eq word (codes "-V")

-- the one word after a command asks for help on it
abbrev pub asks_for_help : List (List ℕ) → Bool
asks_for_help (word ∷ []) = is_flag word
asks_for_help [] = false
asks_for_help (word ∷ other ∷ words) = false

-- a command by the words after its name, or help on it
abbrev pub to_do : Topic → (words : List (List ℕ)) → Result Command Misuse
to_do topic words =
    if asks_for_help words then Ok (HelpOn topic)
    else if takes topic (length words) then Ok (Do topic)
    else Err (Words topic)

-- the command of a name, if there is one
abbrev pub named_to_do : Option Topic → (words : List (List ℕ)) → Result Command Misuse
named_to_do (Some topic) words = to_do topic words
named_to_do None words = Err UnknownCommand

abbrev pub about : (word : List ℕ) → (words : List (List ℕ)) → Result Command Misuse
about word words = named_to_do (topic_of word) words

-- whether nothing follows
abbrev pub is_alone : (words : List (List ℕ)) → Bool
is_alone words = length words == 0

-- help on the command of a name, if there is one
abbrev pub help_on_named : Option Topic → Result Command Misuse
help_on_named (Some topic) = Ok (HelpOn topic)
help_on_named None = Err UnknownCommand

-- help on the command that the next word names, or on all
abbrev pub help_on : (words : List (List ℕ)) → Result Command Misuse
help_on [] = Ok Help
help_on (word ∷ words) =
    if is_help word then Ok Help
    else if is_version word then Ok HelpOnVersion
    else help_on_named (topic_of word)

-- the version, or help on that
abbrev pub version_of : (words : List (List ℕ)) → Result Command Misuse
version_of words =
    if is_alone words then Ok Version
    else if asks_for_help words then Ok HelpOnVersion
    else Err UnknownCommand

-- the words after the name of the program
abbrev pub command_of : List (List ℕ) → Result Command Misuse
command_of [] = Err NoCommand
command_of (word ∷ words) =
    if is_help word then help_on words
    else if is_version word then version_of words
    else about word words
