-- The configuration of some settings, clients and accounts: the checks that they have to pass, and
-- what is looked up in it.
use Rattle.std.specs.Prelude.{◌≡◌, ℕ, Bool, false, ◌||◌, if◌then◌else◌, nat_lt, nat_eq, List, [], ◌∷◌, ◌++◌, ◌*◌, map, position, slice_get, unwrap_or, Option, None, Some, is_none, Result, Ok, Err}
use Rattle.std.specs.Cmp.Lexicographic.{pointwise}
use Rattle.std.specs.List.{list_any}
use Rattle.std.specs.Option.{option_map_or}
use Rattle.rsl_accounts.specs.declared.client.Client.{Client}
use Rattle.rsl_accounts.specs.declared.entry.Entry.{Entry}
use Rattle.rsl_accounts.specs.declared.fault.ConfigFault.{ConfigFault}
use Rattle.rsl_accounts.specs.declared.fault.ConfigFault.TheVariants.{TwiceClient, TwiceAccount, KeepTooLong}
use Rattle.rsl_accounts.specs.declared.settings.Settings.{Settings}
use Rattle.rsl_accounts.specs.Settings.{rules_of, interim_of}
use Rattle.rsl_accounts.specs.Walk.{walk_over, first_fault}

-- clients and accounts are in the order of the file, in which they are numbered from 0
pub record Configuration : Type 0 where
  pub settings : Settings
  pub clients : List Client
  pub accounts : List Entry

abbrev pub same_octets : List ℕ → List ℕ → Bool
same_octets = pointwise nat_eq

-- whether an element is in the list twice
abbrev pub comes_twice : List (List ℕ) → Bool
comes_twice [] = false
comes_twice (x ∷ xs) = list_any (λ later. same_octets later x) xs || comes_twice xs

abbrev pub addresses : List Client → List (List ℕ)
addresses clients = map (λ client. client.address) clients

abbrev pub names : List Entry → List (List ℕ)
names accounts = map (λ account. account.name) accounts

abbrev pub fault_if : Bool → ConfigFault → Option ConfigFault
fault_if wrong fault = if wrong then Some fault else None

-- the checks of a configuration, in their order
unfoldable pub checks_of : Settings → List Client → List Entry → List (Option ConfigFault)
checks_of settings clients accounts =
    walk_over settings clients accounts
    ++ fault_if (comes_twice (addresses clients)) TwiceClient
    ∷ fault_if (comes_twice (names accounts)) TwiceAccount
    ∷ fault_if (nat_lt settings.reserve settings.keep) KeepTooLong
    ∷ []

-- the checks before memory is allocated for the names pass
abbrev pub PassesBeforeNames : Settings → List Client → List Entry → Type 0
PassesBeforeNames settings clients accounts =
    (first_fault (walk_over settings clients accounts) ≡ None)
    × (comes_twice (addresses clients) ≡ false)

-- the account, with its times and its interim interval
abbrev pub with_times : Settings → Entry → Entry
with_times settings entry =
    record entry { rules = rules_of settings entry; interim = interim_of settings entry }

-- the fault, if there is one
abbrev pub fault_or : {T : Type 0} → Option ConfigFault → Result T ConfigFault
    → Result T ConfigFault
fault_or None result = result
fault_or (Some fault) result = Err fault

-- the first fault, or the configuration
unfoldable pub configuration_of : Settings → List Client → List Entry
    → Result Configuration ConfigFault
configuration_of settings clients accounts =
    fault_or (first_fault (checks_of settings clients accounts))
    (Ok (record
    { settings = settings; clients = clients; accounts = map (with_times settings) accounts }))

-- whether an account's live time is under two of its interim intervals: then one lost update lets
-- its sessions lapse
abbrev pub has_short_live : Entry → Bool
has_short_live entry =
    option_map_or (λ seconds. nat_lt entry.rules.live (2 * seconds)) entry.interim false

-- whether the requests of some client may ask without a password
abbrev pub has_trusted : List Client → Bool
has_trusted clients = list_any (λ client. client.trusted) clients

-- the number of the first account that nobody can log in to: it has no password, and no client is
-- trusted
abbrev pub first_without_login : Configuration → Option ℕ
first_without_login config =
    if has_trusted config.clients then None
    else position (λ entry. is_none entry.password) config.accounts

-- the number of the client with the address
abbrev pub client_number : Configuration → List ℕ → Option ℕ
client_number config address =
    position (λ client. same_octets address client.address) config.clients

-- the number of the account with the name
abbrev pub account_number : Configuration → List ℕ → Option ℕ
account_number config name = position (λ account. same_octets name account.name) config.accounts

-- whether an account counts by stations: as it says itself, else as the settings say
abbrev pub counts_stations : Configuration → (account : ℕ) → Bool
counts_stations config account =
    option_map_or (λ found. unwrap_or found.own_station config.settings.station)
    (slice_get config.accounts account) false
