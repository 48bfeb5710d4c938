-- The configuration of an account file: the value of each field or its fault, and the parts that they make.
use Rattle.std.specs.Prelude.{ℕ, ◌+◌, pos, Bool, true, false, ◌&&◌, not, nat_le, min, bytes_eq, if◌then◌else◌, List, [], ◌∷◌, ◌++◌, length, Option, None, Some, option_map, unwrap_or, ok_or, Result, Ok, Err, is_some}
use Rattle.std.specs.List.{list_all, list_any, flat_map}
use Rattle.std.specs.Result.{result_map_both}
use Rattle.std.specs.Str.{is_utf8}
use Rattle.toml.specs.Data.{Data, string, integer, boolean, array, table, Items, no_items, item, Members, no_members, member, get, as_table}
use Rattle.toml.specs.Parse.{parse_document}
use Rattle.rsl_accounts.specs.declared.client.Client.{Client}
use Rattle.rsl_accounts.specs.declared.entry.Entry.{Entry}
use Rattle.rsl_accounts.specs.declared.fault.ConfigFault.{ConfigFault}
use Rattle.rsl_accounts.specs.declared.fault.ConfigFault.TheVariants.{NotToml, Unknown, Missing, BadValue, BadReply, UnknownProfile, ReplyTooLong}
use Rattle.rsl_accounts.specs.declared.field.Field.{Field}
use Rattle.rsl_accounts.specs.declared.field.Field.TheVariants as field
use Rattle.rsl_accounts.specs.declared.part.Part.{Part}
use Rattle.rsl_accounts.specs.declared.part.Part.TheVariants as part
use Rattle.rsl_accounts.specs.declared.settings.Settings.{Settings}
use Rattle.rsl_accounts.specs.Address.{address_of}
use Rattle.rsl_accounts.specs.Configuration.{Configuration, configuration_of, fault_or}
use Rattle.rsl_accounts.specs.Field.{field_key, takes_number, takes_count, takes_text}
use Rattle.rsl_accounts.specs.Part.{knows}
use Rattle.rsl_account_file.specs.Common.{Common, ProfileSeen, octets_of}
use Rattle.rsl_reply.specs.declared.attribute.ReplyAttribute.{ReplyAttribute}
use Rattle.rsl_reply.specs.declared.dictionary.Dictionary.{Dictionary}
use Rattle.rsl_accounts.specs.declared.reply_fault.ReplyFault.{ReplyFault}
use Rattle.rsl_accounts.specs.declared.reply_fault.ReplyFault.TheVariants.{NotText}
use Rattle.rsl_reply.specs.Attribute.{is_same}
use Rattle.rsl_reply.specs.Reading.{attribute_of_text}
use Rattle.rsl_accounts.specs.Settings.{rules_of_places}
use Rattle.rsl_accounts.specs.Version.{is_strict, knows_own_times}
use Rattle.rsl_accounts.specs.Walk.{secret_len_fault, trust_fault}

-- the table that the text is, if it is UTF-8 and TOML
unfoldable pub file_of : List ℕ → Option Data
file_of text = if is_utf8 text then option_map table (parse_document text) else None

-- the value under the key of a field
abbrev pub member_in : Data → Field → Option Data
member_in value field = get (field_key field) value

-- a value as a number, a text, the octets of an address, a boolean and an array of tables, if it is
-- within the field's limits
abbrev pub number_of : Field → Data → Option ℕ
number_of field (integer (pos number)) = if takes_number field number then Some number else None
number_of field _ = None

abbrev pub text_of : Field → Data → Option (List ℕ)
text_of field (string text) = if takes_text field text then Some text else None
text_of field _ = None

abbrev pub address_value : Data → Option (List ℕ)
address_value (string text) = address_of text
address_value _ = None

abbrev pub boolean_value : Data → Option Bool
boolean_value (boolean flag) = Some flag
boolean_value _ = None

abbrev pub list_of : Items → List Data
list_of no_items = []
list_of (item value rest) = value ∷ list_of rest

abbrev pub are_tables : List Data → Bool
are_tables items = list_all (λ value. is_some (as_table value)) items

abbrev pub tables_of_list : Field → List Data → Option (List Data)
tables_of_list field items =
    if are_tables items && takes_count field (length items) then Some items else None

abbrev pub tables_of : Field → Data → Option (List Data)
tables_of field (array items) = tables_of_list field (list_of items)
tables_of field _ = None

-- the value of a field that a table must have, and of an optional one, or the fault
abbrev pub required : {T : Type 0} → Field → (Data → Option T) → Option Data → Result T ConfigFault
required field value_of None = Err (Missing field)
required field value_of (Some value) = ok_or (value_of value) (BadValue field)

abbrev pub optional : {T : Type 0} → Field → (Data → Option T) → Option Data
    → Result (Option T) ConfigFault
optional field value_of None = Ok None
optional field value_of (Some value) =
    result_map_both Some (λ fault. fault) (ok_or (value_of value) (BadValue field))

unfoldable pub number_in : Data → Field → Result ℕ ConfigFault
number_in value field = required field (number_of field) (member_in value field)

unfoldable pub option_in : Data → Field → Result (Option ℕ) ConfigFault
option_in value field = optional field (number_of field) (member_in value field)

-- the number of a field that version 3 lets a table leave out: it is `default` then
unfoldable pub number_or_in : (version : ℕ) → Data → Field → (default : ℕ) → Result ℕ ConfigFault
number_or_in version value field default =
    if is_strict version
    then result_map_both (λ number. unwrap_or number default) (λ fault. fault) (option_in value field)
    else number_in value field

unfoldable pub text_in : Data → Field → Result (List ℕ) ConfigFault
text_in value field = required field (text_of field) (member_in value field)

unfoldable pub option_text_in : Data → Field → Result (Option (List ℕ)) ConfigFault
option_text_in value field = optional field (text_of field) (member_in value field)

unfoldable pub tables_in : Data → Field → Result (List Data) ConfigFault
tables_in value field = required field (tables_of field) (member_in value field)

unfoldable pub address_in : Data → Result (List ℕ) ConfigFault
address_in value = required field.Address address_value (member_in value field.Address)

unfoldable pub option_flag_in : Data → Field → Result (Option Bool) ConfigFault
option_flag_in value field = optional field boolean_value (member_in value field)

unfoldable pub flag_in : Data → Field → (default : Bool) → Result Bool ConfigFault
flag_in value field default =
    result_map_both (λ flag. unwrap_or flag default) (λ fault. fault) (option_flag_in value field)

-- whether a client signs: in version 3 unless it says otherwise, before only if it says so
abbrev pub signed_in : (version : ℕ) → Data → Result Bool ConfigFault
signed_in version value = flag_in value field.Signed (is_strict version)

-- whether an account is disabled: only if it says so, and only in version 3
abbrev pub disabled_in : (version : ℕ) → Data → Result Bool ConfigFault
disabled_in version value =
    if is_strict version then flag_in value field.Disabled false else Ok false

-- whether fresh asks end a link of their own station, or the delay of an Accounting-On or
-- Accounting-Off counts, as the head says: only if it says so, and only in version 3
unfoldable pub head_flag_in : (version : ℕ) → Data → Field → Result Bool ConfigFault
head_flag_in version value field =
    if is_strict version then flag_in value field false else Ok false

-- whether an account's fresh asks end a link of their own station, if it says so: only version 3
-- knows it
unfoldable pub own_station_in : (version : ℕ) → Data → Result (Option Bool) ConfigFault
own_station_in version value =
    if is_strict version then option_flag_in value field.Station else Ok None

-- `Unknown` of the first key that the table may not have, in the order of octets
abbrev pub unknown_of : Part → Members → Option ConfigFault
unknown_of part no_members = None
unknown_of part (member name value rest) =
    if knows part name then unknown_of part rest else Some (Unknown part name)

abbrev pub unknown_in : Part → Data → Option ConfigFault
unknown_in part (table members) = unknown_of part members
unknown_in part _ = None

-- `Unknown` of the first unknown key, in version 3
abbrev pub misspelled_in : (version : ℕ) → Part → Data → Option ConfigFault
misspelled_in version part value = if is_strict version then unknown_in part value else None

-- an account's own time, or the interim interval: version 1 knows neither
unfoldable pub own_in : (version : ℕ) → Data → Field → Result (Option ℕ) ConfigFault
own_in version value field = if knows_own_times version then option_in value field else Ok None

-- the function of a value, or its fault
abbrev pub and_then : {T U : Type 0} → Result T ConfigFault → (T → Result U ConfigFault)
    → Result U ConfigFault
and_then (Ok value) next = next value
and_then (Err fault) next = Err fault

-- a client's secret, if it is long enough for the version
unfoldable pub secret_in : (version : ℕ) → Data → Result (List ℕ) ConfigFault
secret_in version value =
    and_then (text_in value field.Secret) (λ secret.
    fault_or (secret_len_fault version (length secret)) (Ok secret))

-- a client that does not say so is not trusted; one that is has to sign, and only version 3 knows it
unfoldable pub trusted_in : (version : ℕ) → (signed : Bool) → Data → Result Bool ConfigFault
trusted_in version signed value =
    if is_strict version
    then and_then (flag_in value field.Trusted false) (λ trusted.
    fault_or (trust_fault signed trusted) (Ok trusted))
    else Ok false

-- the port of a table `disconnect`: its one key
unfoldable pub port_in : (version : ℕ) → Data → Result ℕ ConfigFault
port_in version value =
    fault_or (misspelled_in version part.Disconnect value) (number_in value field.Port)

abbrev pub disconnect_of : (version : ℕ) → Option Data → Result (Option ℕ) ConfigFault
disconnect_of version None = Ok None
disconnect_of version (Some value) =
    if is_some (as_table value)
    then result_map_both Some (λ fault. fault) (port_in version value)
    else Err (BadValue field.Disconnect)

-- the UDP port at which a client takes Disconnect-Requests (RFC 5176), if it does: only version 3 knows it
unfoldable pub disconnect_in : (version : ℕ) → Data → Result (Option ℕ) ConfigFault
disconnect_in version value =
    if is_strict version then disconnect_of version (member_in value field.Disconnect) else Ok None

-- an account's password, which version 3 lets it leave out
unfoldable pub password_in : (version : ℕ) → Data → Result (Option (List ℕ)) ConfigFault
password_in version value =
    if is_strict version then option_text_in value field.Password
    else result_map_both Some (λ fault. fault) (text_in value field.Password)

-- the attribute that an item of a list `reply` writes, or its fault by its place
abbrev pub reply_attribute : Part → (name : List ℕ) → (place : ℕ) → Result ReplyAttribute ReplyFault
    → Result ReplyAttribute ConfigFault
reply_attribute part name place (Ok attribute) = Ok attribute
reply_attribute part name place (Err fault) = Err (BadReply part name place fault)

abbrev pub reply_item : Dictionary → Part → (name : List ℕ) → (place : ℕ) → Data
    → Result ReplyAttribute ConfigFault
reply_item names part name place (string text) =
    reply_attribute part name place (attribute_of_text names text)
reply_item names part name place _ = reply_attribute part name place (Err NotText)

-- these attributes, and those of all items after them
unfoldable pub replies_from : Dictionary → Part → (name : List ℕ) → (place : ℕ)
    → (before : List ReplyAttribute) → List Data → Result (List ReplyAttribute) ConfigFault
replies_from names part name place before [] = Ok before
replies_from names part name place before (value ∷ values) =
    and_then (reply_item names part name place value) (λ attribute.
    replies_from names part name (place + 1) (before ++ attribute ∷ []) values)

-- the attributes that a list writes
unfoldable pub reply_list : Dictionary → Part → (name : List ℕ) → Data
    → Result (List ReplyAttribute) ConfigFault
reply_list names part name (array items) = replies_from names part name 1 [] (list_of items)
reply_list names part name _ = Err (BadValue field.Reply)

-- a table of a profile: its list alone
unfoldable pub profile_in : (version : ℕ) → Dictionary → (name : List ℕ) → Data
    → Result ProfileSeen ConfigFault
profile_in version names name value =
    fault_or (misspelled_in version part.Profile value)
    (and_then (required field.Reply Some (member_in value field.Reply)) (λ list.
    and_then (reply_list names part.Profile name list) (λ attributes.
    Ok (record { name = name; attributes = attributes }))))

-- these profiles, and those of all members after them
unfoldable pub profiles_from : (version : ℕ) → Dictionary → (before : List ProfileSeen) → Members
    → Result (List ProfileSeen) ConfigFault
profiles_from version names before no_members = Ok before
profiles_from version names before (member name value rest) =
    and_then (profile_in version names name value) (λ profile.
    profiles_from version names (before ++ profile ∷ []) rest)

abbrev pub profiles_of : (version : ℕ) → Dictionary → Option Data
    → Result (List ProfileSeen) ConfigFault
profiles_of version names None = Ok []
profiles_of version names (Some (table members)) = profiles_from version names [] members
profiles_of version names (Some _) = Err (BadValue field.Profile)

-- what the head of a file has for its accounts, which only version 3 knows
unfoldable pub shared_in : Dictionary → (version : ℕ) → Data → Result Common ConfigFault
shared_in names version value =
    if is_strict version
    then and_then (flag_in value field.PortLimit true) (λ port_limit.
    and_then (profiles_of version names (member_in value field.Profile)) (λ profiles.
    Ok (record { names = names; port_limit = port_limit; profiles = profiles })))
    else Ok (record { names = names; port_limit = true; profiles = [] })

-- the attributes of the first profile with a name
abbrev pub profile_named : List ProfileSeen → (name : List ℕ) → Option (List ReplyAttribute)
profile_named [] name = None
profile_named (profile ∷ profiles) name =
    if bytes_eq profile.name name then Some profile.attributes else profile_named profiles name

-- those of the profile of an account, by the name that its table has
abbrev pub profile_of : List ProfileSeen → (account : List ℕ) → Option Data
    → Result (List ReplyAttribute) ConfigFault
profile_of profiles account None = Ok []
profile_of profiles account (Some (string name)) =
    ok_or (profile_named profiles name) (UnknownProfile account)
profile_of profiles account (Some _) = Err (BadValue field.Profile)

abbrev pub own_reply : Dictionary → (account : List ℕ) → Option Data
    → Result (List ReplyAttribute) ConfigFault
own_reply names account None = Ok []
own_reply names account (Some value) = reply_list names part.Account account value

-- an account's attribute takes the place of its profile's of that name, unless it is added
abbrev pub takes_place : ReplyAttribute → ReplyAttribute → Bool
takes_place profiles own = not own.adds && is_same own.target profiles.target

abbrev pub stays : (own : List ReplyAttribute) → ReplyAttribute → Bool
stays own profiles = not (list_any (takes_place profiles) own)

abbrev pub staying : (own : List ReplyAttribute) → ReplyAttribute → List ℕ
staying own profiles = if stays own profiles then profiles.octets else []

-- the octets of those of its profile that stay, and then of its own
abbrev pub joined : (front own : List ReplyAttribute) → List ℕ
joined front own = flat_map (staying own) front ++ octets_of own

-- these, if they are not too many
abbrev pub short_reply : (account : List ℕ) → List ℕ → Result (List ℕ) ConfigFault
short_reply account octets =
    if nat_le (length octets) 1000 then Ok octets else Err (ReplyTooLong account)

-- the profile is looked at before the account's own
unfoldable pub reply_in : (version : ℕ) → Common → (account : List ℕ) → Data
    → Result (List ℕ) ConfigFault
reply_in version shared account value =
    if is_strict version
    then and_then (profile_of shared.profiles account (member_in value field.Profile)) (λ front.
    and_then (own_reply shared.names account (member_in value field.Reply)) (λ own.
    short_reply account (joined front own)))
    else Ok []

-- whether accepts have a Port-Limit: where an account does not say so, as the head says
abbrev pub port_limit_in : (version : ℕ) → (common : Bool) → Data → Result Bool ConfigFault
port_limit_in version common value =
    if is_strict version then flag_in value field.PortLimit common else Ok true

-- the parts of a file, by the values of their fields in the order of the walk
unfoldable pub settings_in : Data → Result Settings ConfigFault
settings_in value =
    and_then (number_in value field.Version) (λ version.
    fault_or (misspelled_in version part.Head value)
    (and_then (number_or_in version value field.Shards 1) (λ shards.
    and_then (number_or_in version value field.ReserveSecs 60) (λ reserve.
    and_then (number_or_in version value field.LiveSecs 900) (λ live.
    and_then (number_or_in version value field.GraceSecs 900) (λ grace.
    and_then (number_or_in version value field.ClosedSecs 3600) (λ closed.
    and_then (number_or_in version value field.KeepSecs (min 15 reserve)) (λ keep.
    and_then (own_in version value field.InterimSecs) (λ interim.
    and_then (head_flag_in version value field.Station) (λ station.
    and_then (head_flag_in version value field.DelayTime) (λ delay_time.
    Ok (record {
      version = version;
      shards = shards;
      reserve = reserve;
      live = live;
      grace = grace;
      closed = closed;
      keep = keep;
      interim = interim;
      station = station;
      delay_time = delay_time;
    }))))))))))))

unfoldable pub client_in : (version : ℕ) → Data → Result Client ConfigFault
client_in version value =
    fault_or (misspelled_in version part.Client value)
    (and_then (address_in value) (λ address.
    and_then (secret_in version value) (λ secret.
    and_then (signed_in version value) (λ signed.
    and_then (trusted_in version signed value) (λ trusted.
    and_then (disconnect_in version value) (λ disconnect.
    Ok (record {
      address = address;
      secret = secret;
      signed = signed;
      trusted = trusted;
      disconnect = disconnect;
    })))))))

-- the times of the rules are filled in later, and so is the file's own `interim_secs`
unfoldable pub entry_in : (version : ℕ) → Common → Data → Result Entry ConfigFault
entry_in version shared value =
    fault_or (misspelled_in version part.Account value)
    (and_then (text_in value field.Name) (λ name.
    and_then (password_in version value) (λ password.
    and_then (number_in value field.Places) (λ places.
    and_then (number_or_in version value field.Ports 1) (λ ports.
    and_then (option_in value field.ServiceType) (λ service_type.
    and_then (option_in value field.FramedProtocol) (λ framed_protocol.
    and_then (option_in value field.SessionTimeout) (λ session_timeout.
    and_then (option_in value field.IdleTimeout) (λ idle_timeout.
    and_then (own_in version value field.OwnLive) (λ own_live.
    and_then (own_in version value field.OwnGrace) (λ own_grace.
    and_then (own_in version value field.InterimSecs) (λ interim.
    and_then (own_station_in version value) (λ own_station.
    and_then (disabled_in version value) (λ disabled.
    and_then (port_limit_in version shared.port_limit value) (λ port_limit.
    and_then (reply_in version shared name value) (λ reply.
    Ok (record {
      name = name;
      password = password;
      rules = rules_of_places places ports;
      service_type = service_type;
      framed_protocol = framed_protocol;
      session_timeout = session_timeout;
      idle_timeout = idle_timeout;
      own_live = own_live;
      own_grace = own_grace;
      interim = interim;
      own_station = own_station;
      disabled = disabled;
      port_limit = port_limit;
      reply = reply;
    })))))))))))))))))

-- each value, or the first fault
abbrev pub each : {T : Type 0} → (Data → Result T ConfigFault) → List Data
    → Result (List T) ConfigFault
each part_in [] = Ok []
each part_in (value ∷ values) =
    and_then (part_in value) (λ part.
    and_then (each part_in values) (λ parts.
    Ok (part ∷ parts)))

-- the first fault of the walk over the file, or else the configuration of its parts: first the
-- settings, then how many clients and accounts there are, then each client, then each account
unfoldable pub configuration_of_file : Dictionary → Data → Result Configuration ConfigFault
configuration_of_file names file =
    and_then (settings_in file) (λ settings.
    and_then (shared_in names settings.version file) (λ shared.
    and_then (tables_in file field.Client) (λ client_tables.
    and_then (tables_in file field.Account) (λ account_tables.
    and_then (each (client_in settings.version) client_tables) (λ clients.
    and_then (each (entry_in settings.version shared) account_tables) (λ accounts.
    configuration_of settings clients accounts))))))

abbrev pub configuration_of_parsed : Dictionary → Option Data → Result Configuration ConfigFault
configuration_of_parsed names None = Err NotToml
configuration_of_parsed names (Some file) = configuration_of_file names file

-- the configuration of the text of an account file
abbrev pub configuration_of_text : Dictionary → List ℕ → Result Configuration ConfigFault
configuration_of_text names text = configuration_of_parsed names (file_of text)
