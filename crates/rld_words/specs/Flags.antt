-- Which flags a command has.
use Rattle.std.specs.Prelude.{ℕ, ◌==◌, Bool, true, false, List, codes, bytes_eq, if◌then◌else◌, Option, None, Some}
use Rattle.rld_words.specs.declared.flag.Flag.{Flag}
use Rattle.rld_words.specs.declared.flag.Flag.TheVariants as flags
use Rattle.rld_words.specs.declared.topic.Topic.{Topic}
use Rattle.rld_words.specs.declared.topic.Topic.TheVariants as topics

abbrev pub is_flag_of : Topic → Flag → Bool
is_flag_of topics.Status flags.Timeout = true
is_flag_of topics.Status flags.Json = true
is_flag_of topics.Accounts flags.Timeout = true
is_flag_of topics.Accounts flags.Json = true
is_flag_of topics.Accounts flags.Held = true
is_flag_of topics.Accounts flags.Full = true
is_flag_of topics.Sessions flags.Timeout = true
is_flag_of topics.Sessions flags.Json = true
is_flag_of topics.Sessions flags.Nas = true
is_flag_of topics.Sessions flags.Client = true
is_flag_of topics.Sessions flags.State = true
is_flag_of topics.Sessions flags.Older = true
is_flag_of topics.Reload flags.Timeout = true
is_flag_of topics.Free flags.Nas = true
is_flag_of topics.Free flags.Yes = true
is_flag_of topics.Free flags.Disconnect = true
is_flag_of topics.Export flags.Csv = true
is_flag_of topics.Export flags.Since = true
is_flag_of topics.Export flags.Until = true
is_flag_of topic flag = false

abbrev pub if_of : Topic → Flag → Option Flag
if_of topic flag = if is_flag_of topic flag then Some flag else None

-- the flag of a command that a word is
abbrev pub flag_of : Topic → (word : List ℕ) → Option Flag
flag_of topic word =
    if bytes_eq word (codes "--timeout") then if_of topic flags.Timeout
    else if bytes_eq word (codes "--json") then if_of topic flags.Json
    else if bytes_eq word (codes "--held") then if_of topic flags.Held
    else if bytes_eq word (codes "--full") then if_of topic flags.Full
    else if bytes_eq word (codes "--nas") then if_of topic flags.Nas
    else if bytes_eq word (codes "--client") then if_of topic flags.Client
    else if bytes_eq word (codes "--state") then if_of topic flags.State
    else if bytes_eq word (codes "--older") then if_of topic flags.Older
    else if bytes_eq word (codes "--yes") then if_of topic flags.Yes
    else if bytes_eq word (codes "--disconnect") then if_of topic flags.Disconnect
    else if bytes_eq word (codes "--csv") then if_of topic flags.Csv
    else if bytes_eq word (codes "--since") then if_of topic flags.Since
    else if bytes_eq word (codes "--until") then if_of topic flags.Until
    else None

-- whether the word after it is its value
abbrev pub has_value : Flag → Bool
has_value flags.Timeout = true
has_value flags.Nas = true
has_value flags.Client = true
has_value flags.State = true
has_value flags.Older = true
has_value flags.Since = true
has_value flags.Until = true
has_value flag = false

-- each flag has a number of its own
abbrev pub number_of : Flag → ℕ
number_of flags.Timeout = 0
number_of flags.Json = 1
number_of flags.Held = 2
number_of flags.Full = 3
number_of flags.Nas = 4
number_of flags.Client = 5
number_of flags.State = 6
number_of flags.Older = 7
number_of flags.Yes = 8
number_of flags.Disconnect = 9
number_of flags.Csv = 10
number_of flags.Since = 11
number_of flags.Until = 12

abbrev pub is_same : (flag other : Flag) → Bool
is_same flag other = number_of flag == number_of other
