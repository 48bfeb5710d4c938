-- The walk over settings, clients and accounts: in which order their values are checked, and the first fault.
use Rattle.std.specs.Prelude.{ℕ, Bool, not, ◌||◌, List, [], ◌∷◌, ◌++◌, if◌then◌else◌, nat_le, length, Option, None, Some}
use Rattle.std.specs.List.{flat_map}
use Rattle.rsl_accounts.specs.declared.client.Client.{Client}
use Rattle.rsl_accounts.specs.declared.entry.Entry.{Entry}
use Rattle.rsl_accounts.specs.declared.fault.ConfigFault.{ConfigFault}
use Rattle.rsl_accounts.specs.declared.fault.ConfigFault.TheVariants.{BadValue}
use Rattle.rsl_accounts.specs.declared.field.Field.{Field}
use Rattle.rsl_accounts.specs.declared.field.Field.TheVariants as field
use Rattle.rsl_accounts.specs.declared.settings.Settings.{Settings}
use Rattle.rsl_accounts.specs.Field.{takes_number, takes_count, takes_text}
use Rattle.rsl_accounts.specs.Version.{knows_own_times, least_secret, reply_room}

-- the fault of a field, unless its value is right
abbrev pub fault_unless : (is_right : Bool) → Field → Option ConfigFault
fault_unless is_right field = if is_right then None else Some (BadValue field)

unfoldable pub number_fault : Field → ℕ → Option ConfigFault
number_fault field number = fault_unless (takes_number field number) field

unfoldable pub text_fault : Field → List ℕ → Option ConfigFault
text_fault field text = fault_unless (takes_text field text) field

unfoldable pub count_fault : Field → ℕ → Option ConfigFault
count_fault field count = fault_unless (takes_count field count) field

-- the fault of an optional number
abbrev pub option_fault : Field → Option ℕ → Option ConfigFault
option_fault field None = None
option_fault field (Some number) = number_fault field number

-- the fault of a text that may be left out
abbrev pub option_text_fault : Field → Option (List ℕ) → Option ConfigFault
option_text_fault field None = None
option_text_fault field (Some text) = text_fault field text

-- the fault of the seconds between interim updates, which version 1 does not know
abbrev pub interim_fault : (version : ℕ) → Option ℕ → Option ConfigFault
interim_fault version interim =
    if knows_own_times version then option_fault field.InterimSecs interim else None

-- the fault of a client's secret with this number of octets
abbrev pub secret_len_fault : (version length : ℕ) → Option ConfigFault
secret_len_fault version length = fault_unless (nat_le (least_secret version) length) field.Secret

-- the fault of a client that is trusted and does not sign
abbrev pub trust_fault : (signed trusted : Bool) → Option ConfigFault
trust_fault signed trusted = fault_unless (signed || not trusted) field.Trusted

-- the fault of reply attributes whose length is `len`
abbrev pub reply_len_fault : (version length : ℕ) → Option ConfigFault
reply_len_fault version length = fault_unless (nat_le length (reply_room version)) field.Reply

-- the checks of the settings, each the fault of a field or `None`
unfoldable pub settings_checks : Settings → List (Option ConfigFault)
settings_checks settings =
    number_fault field.Version settings.version
    ∷ number_fault field.Shards settings.shards
    ∷ number_fault field.ReserveSecs settings.reserve
    ∷ number_fault field.LiveSecs settings.live
    ∷ number_fault field.GraceSecs settings.grace
    ∷ number_fault field.ClosedSecs settings.closed
    ∷ number_fault field.KeepSecs settings.keep
    ∷ interim_fault settings.version settings.interim
    ∷ []

-- the checks of how many clients and accounts there are
unfoldable pub count_checks : (clients accounts : ℕ) → List (Option ConfigFault)
count_checks clients accounts =
    count_fault field.Client clients ∷ count_fault field.Account accounts ∷ []

-- the checks of a client: any four octets are an address, one that is trusted has to sign, and the port at
-- which it takes Disconnect-Requests is not 0
unfoldable pub client_checks : (version : ℕ) → Client → List (Option ConfigFault)
client_checks version client =
    text_fault field.Secret client.secret
    ∷ secret_len_fault version (length client.secret)
    ∷ trust_fault client.signed client.trusted
    ∷ option_fault field.Port client.disconnect
    ∷ []

-- the checks of an account in every version
unfoldable pub common_checks : Entry → List (Option ConfigFault)
common_checks entry =
    text_fault field.Name entry.name
    ∷ option_text_fault field.Password entry.password
    ∷ number_fault field.Places entry.rules.places
    ∷ number_fault field.Ports entry.rules.ports
    ∷ option_fault field.ServiceType entry.service_type
    ∷ option_fault field.FramedProtocol entry.framed_protocol
    ∷ option_fault field.SessionTimeout entry.session_timeout
    ∷ option_fault field.IdleTimeout entry.idle_timeout
    ∷ []

-- the checks of an account's own times, which version 1 does not know
unfoldable pub own_times_checks : Entry → List (Option ConfigFault)
own_times_checks entry =
    option_fault field.OwnLive entry.own_live
    ∷ option_fault field.OwnGrace entry.own_grace
    ∷ option_fault field.InterimSecs entry.interim
    ∷ []

unfoldable pub own_checks : (version : ℕ) → Entry → List (Option ConfigFault)
own_checks version entry = if knows_own_times version then own_times_checks entry else []

unfoldable pub reply_checks : (version : ℕ) → Entry → List (Option ConfigFault)
reply_checks version entry = reply_len_fault version (length entry.reply) ∷ []

unfoldable pub account_checks : (version : ℕ) → Entry → List (Option ConfigFault)
account_checks version entry =
    common_checks entry ++ own_checks version entry ++ reply_checks version entry

-- the checks of the whole walk: the settings, how many clients and accounts there are, then each
-- client, then each account
unfoldable pub walk_over : Settings → List Client → List Entry → List (Option ConfigFault)
walk_over settings clients accounts =
    settings_checks settings
    ++ count_checks (length clients) (length accounts)
    ++ flat_map (client_checks settings.version) clients
    ++ flat_map (account_checks settings.version) accounts

-- the first fault of some checks
abbrev pub first_fault : List (Option ConfigFault) → Option ConfigFault
first_fault [] = None
first_fault (None ∷ rest) = first_fault rest
first_fault (Some fault ∷ rest) = Some fault
