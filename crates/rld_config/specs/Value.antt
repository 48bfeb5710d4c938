-- The value of a TOML table under a key of the server's file, or the fault of that key.
use Rattle.std.specs.Prelude.{ℕ, pos, Bool, ◌&&◌, if◌then◌else◌, List, [], ◌∷◌, length, codes, bytes_eq, Option, None, Some, ok_or, is_some, option_map, Result, Ok, Err}
use Rattle.std.specs.List.{list_all}
use Rattle.toml.specs.Data.{Data, string, integer, boolean, array, table, Items, no_items, item, Members, no_members, member, get, as_table}
use Rattle.std.specs.declared.net.ip_addr.IpAddr.{IpAddr}
use Rattle.rsl_accounts.specs.Address.{address_of}
use Rattle.rld_networks.specs.Address.{canonical, ip_address_of}
use Rattle.rld_networks.specs.Prefix.{prefix_of}
use Rattle.rld_networks.specs.declared.prefix.Prefix.{Prefix}
use Rattle.rld_config.specs.declared.archive.Archive.{Archive}
use Rattle.rld_config.specs.declared.archive.Archive.TheVariants.{Keep, Nothing, Days}
use Rattle.rld_config.specs.declared.fault.ServerFault.{ServerFault}
use Rattle.rld_config.specs.declared.fault.ServerFault.TheVariants.{Unknown, Missing, BadValue}
use Rattle.rld_config.specs.declared.key.Key.{Key}
use Rattle.rld_config.specs.declared.key.Key.TheVariants as key
use Rattle.rld_config.specs.declared.new_history.NewHistory.{NewHistory}
use Rattle.rld_config.specs.declared.new_history.NewHistory.TheVariants.{Begins, Refused}
use Rattle.rld_config.specs.declared.part.Part.{Part}
use Rattle.rld_config.specs.declared.sync.SyncPolicy.{SyncPolicy}
use Rattle.rld_config.specs.declared.sync.SyncPolicy.TheVariants.{Always, Second, Never}
use Rattle.rld_config.specs.Key.{key_name, knows, takes_number, is_between, is_group, is_path}

-- the value under a key
abbrev pub member_in : Data → Key → Option Data
member_in value key = get (key_name key) value

-- a value as a number, a path, a group, an address, a prefix, a word and a table, if it is within
-- the key's limits
abbrev pub number_of : Key → Data → Option ℕ
number_of key (integer (pos number)) = if takes_number key number then Some number else None
number_of key _ = None

abbrev pub path_of : Data → Option (List ℕ)
path_of (string text) = if is_path text then Some text else None
path_of _ = None

abbrev pub group_of : Data → Option (List ℕ)
group_of (string text) = if is_group text then Some text else None
group_of _ = None

abbrev pub address_value : Data → Option (List ℕ)
address_value (string text) = address_of text
address_value _ = None

-- an IPv4 or IPv6 address: ::ffff:a.b.c.d is a.b.c.d
abbrev pub ip_address_value : Data → Option IpAddr
ip_address_value (string text) = option_map canonical (ip_address_of text)
ip_address_value _ = None

abbrev pub prefix_value : Data → Option Prefix
prefix_value (string text) = prefix_of text
prefix_value _ = None

abbrev pub flag_value : Data → Option Bool
flag_value (boolean flag) = Some flag
flag_value _ = None

-- the outcome of a start that finds no history, where one must exist
abbrev pub new_history_of : (must_exist : Bool) → NewHistory
new_history_of must_exist = if must_exist then Refused else Begins

abbrev pub new_history_value : Data → Option NewHistory
new_history_value value = option_map new_history_of (flag_value value)

abbrev pub sync_word : List ℕ → Option SyncPolicy
sync_word text =
    if bytes_eq text (codes "always") then Some Always
    else if bytes_eq text (codes "second") then Some Second
    else if bytes_eq text (codes "never") then Some Never
    else None

abbrev pub sync_value : Data → Option SyncPolicy
sync_value (string text) = sync_word text
sync_value _ = None

abbrev pub archive_word : List ℕ → Option Archive
archive_word text =
    if bytes_eq text (codes "keep") then Some Keep
    else if bytes_eq text (codes "none") then Some Nothing
    else None

-- a word, or a number of days
abbrev pub archive_value : Data → Option Archive
archive_value (string text) = archive_word text
archive_value (integer (pos number)) =
    if takes_number key.Archive number then Some (Days number) else None
archive_value _ = None

abbrev pub list_of : Items → List Data
list_of no_items = []
list_of (item value rest) = value ∷ list_of rest

abbrev pub are_tables : List Data → Bool
are_tables items = list_all (λ value. is_some (as_table value)) items

-- 1 to `most` tables
abbrev pub tables_of_list : (most : ℕ) → List Data → Option (List Data)
tables_of_list most items =
    if are_tables items && is_between 1 most (length items) then Some items else None

abbrev pub tables_of : (most : ℕ) → Data → Option (List Data)
tables_of most (array items) = tables_of_list most (list_of items)
tables_of most _ = None

-- the value of a key that a table must have, and of an optional one, or the fault
abbrev pub required : {T : Type 0} → Part → Key → (Data → Option T) → Option Data
    → Result T ServerFault
required part key value_of None = Err (Missing part key)
required part key value_of (Some value) = ok_or (value_of value) (BadValue part key)

abbrev pub or_default : {T : Type 0} → Part → Key → (Data → Option T) → T → Option Data
    → Result T ServerFault
or_default part key value_of default None = Ok default
or_default part key value_of default (Some value) = ok_or (value_of value) (BadValue part key)

-- the text of an optional key, or the fault
abbrev pub optional : {T : Type 0} → Part → Key → (Data → Option T) → Option Data
    → Result (Option T) ServerFault
optional part key value_of None = Ok None
optional part key value_of (Some value) =
    ok_or (option_map Some (value_of value)) (BadValue part key)

-- `Unknown` of the first key that the table may not have, in the order of octets
abbrev pub unknown_of : Part → Members → Option ServerFault
unknown_of part no_members = None
unknown_of part (member name value rest) =
    if knows part name then unknown_of part rest else Some (Unknown part name)

abbrev pub unknown_in : Part → Data → Option ServerFault
unknown_in part (table members) = unknown_of part members
unknown_in part _ = None

-- the function of a value, or its fault
abbrev pub and_then : {T U : Type 0} → Result T ServerFault → (T → Result U ServerFault)
    → Result U ServerFault
and_then (Ok value) next = next value
and_then (Err fault) next = Err fault

-- the fault, if there is one
abbrev pub fault_or : {T : Type 0} → Option ServerFault → Result T ServerFault
    → Result T ServerFault
fault_or None result = result
fault_or (Some fault) result = Err fault
