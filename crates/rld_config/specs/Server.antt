-- The contents of a server's file, or its first fault.
use Rattle.std.specs.Prelude.{ℕ, ◌+◌, Bool, false, not, ◌==◌, ◌&&◌, ◌||◌, if◌then◌else◌, List, [], ◌∷◌, ◌++◌, length, map, Option, None, Some, find, option_map, ok_or, is_some, position, Result, Ok, Err}
use Rattle.std.specs.List.{list_any, slice_get}
use Rattle.std.specs.Net.Addr.{ipv4_octets}
use Rattle.std.specs.Option.{option_map_or}
use Rattle.std.specs.declared.net.ip_addr.IpAddr.{IpAddr}
use Rattle.std.specs.declared.net.ip_addr.IpAddr.TheVariants.{V4}
use Rattle.std.specs.declared.net.ipv4_addr.Ipv4Addr.{Ipv4Addr}
use Rattle.toml.specs.Data.{Data, table}
use Rattle.rld_config.specs.declared.archive.Archive.{Archive}
use Rattle.rld_config.specs.declared.archive.Archive.TheVariants.{Days, Keep, Nothing}
use Rattle.rld_config.specs.declared.ask.AskSettings.{AskSettings}
use Rattle.rld_config.specs.declared.control.ControlSocket.{ControlSocket}
use Rattle.rld_config.specs.declared.fault.ServerFault.{ServerFault}
use Rattle.rld_config.specs.declared.fault.ServerFault.TheVariants.{NotToml, BadValue, ShadowedClient, TakenPort, TakenPrefix, UnknownClient, UnsignedClient, UntrustedClient}
use Rattle.rld_config.specs.declared.head.Head.{Head}
use Rattle.rld_config.specs.declared.key.Key.{Key}
use Rattle.rld_config.specs.declared.key.Key.TheVariants as key
use Rattle.rld_config.specs.declared.listen.Listen.{Listen}
use Rattle.rld_config.specs.declared.new_history.NewHistory.{NewHistory}
use Rattle.rld_config.specs.declared.new_history.NewHistory.TheVariants.{Begins}
use Rattle.rld_config.specs.declared.part.Part.{Part}
use Rattle.rld_config.specs.declared.part.Part.TheVariants as part
use Rattle.rld_config.specs.declared.server.ServerFile.{ServerFile}
use Rattle.rld_config.specs.declared.sync.SyncPolicy.{SyncPolicy}
use Rattle.rld_config.specs.declared.sync.SyncPolicy.TheVariants.{Always}
use Rattle.rld_config.specs.declared.trust.Trust.{Trust}
use Rattle.rld_config.specs.declared.web.Web.{Web}
use Rattle.rld_networks.specs.Address.{covers, ipv4, same_address}
use Rattle.rld_networks.specs.Networks.{client_of}
use Rattle.rld_networks.specs.Prefix.{same_prefix}
use Rattle.rld_networks.specs.declared.network.Network.{Network}
use Rattle.rld_networks.specs.declared.prefix.Prefix.{Prefix}
use Rattle.rsl_account_file.specs.File.{file_of}
use Rattle.rsl_accounts.specs.Configuration.{Configuration, client_number, same_octets}
use Rattle.rsl_accounts.specs.Version.{is_strict}
use Rattle.rsl_accounts.specs.declared.client.Client.{Client}
use Rattle.rld_config.specs.Value.{member_in, number_of, path_of, address_value, ip_address_value, prefix_value, flag_value, new_history_value, sync_value, archive_value, tables_of, required, or_default, optional, group_of, unknown_in, and_then, fault_or}

-- the contents of a server's file
pub record Server : Type 0 where
  pub accounts : List ℕ
  pub state : List ℕ
  pub new_history : NewHistory
  pub sync : SyncPolicy
  pub archive : Archive
  pub archive_megabytes : Option ℕ
  pub listens : List Listen
  pub networks : List Network
  pub control : ControlSocket
  pub web : Option Web
  pub ask : Option AskSettings
  pub trust : Trust

abbrev pub server_in : ServerFile → Server
server_in file = record {
  accounts = file.accounts;
  state = file.state;
  new_history = file.new_history;
  sync = file.sync;
  archive = file.archive;
  archive_megabytes = file.archive_megabytes;
  listens = file.listens.items;
  networks = file.networks.items;
  control = file.control;
  web = file.web;
  ask = file.ask;
  trust = file.trust;
}

-- the wildcard address, for every IPv4 address of the machine, and the loopback address
abbrev pub any_address : IpAddr
any_address = ipv4 (0 ∷ 0 ∷ 0 ∷ 0 ∷ [])

abbrev pub own_address : List ℕ
own_address = 127 ∷ 0 ∷ 0 ∷ 1 ∷ []

-- the default of `listen`
abbrev pub default_listen : Listen
default_listen = record {
  address = any_address;
  auth = 1812;
  acct = 1813;
  receivers = 1;
  status_server = false;
}

-- the value of each key of a table
unfoldable pub path_in : Part → Data → Key → Result (List ℕ) ServerFault
path_in part value key = required part key path_of (member_in value key)

unfoldable pub path_or_none_in : Part → Data → Key → Result (Option (List ℕ)) ServerFault
path_or_none_in part value key = optional part key path_of (member_in value key)

unfoldable pub group_in : Part → Data → Result (Option (List ℕ)) ServerFault
group_in part value = optional part key.Group group_of (member_in value key.Group)

unfoldable pub port_in : Part → Data → Key → (default : ℕ) → Result ℕ ServerFault
port_in part value key default = or_default part key (number_of key) default (member_in value key)

unfoldable pub needed_port_in : Part → Data → Key → Result ℕ ServerFault
needed_port_in part value key = required part key (number_of key) (member_in value key)

unfoldable pub address_in : Part → Data → (default : List ℕ) → Result (List ℕ) ServerFault
address_in part value default =
    or_default part key.Address address_value default (member_in value key.Address)

unfoldable pub ip_address_in : Part → Data → Result IpAddr ServerFault
ip_address_in part value =
    or_default part key.Address ip_address_value any_address (member_in value key.Address)

-- false by default
unfoldable pub flag_in : Part → Data → Key → Result Bool ServerFault
flag_in part value key = or_default part key flag_value false (member_in value key)

unfoldable pub prefix_in : Part → Data → Result Prefix ServerFault
prefix_in part value = required part key.Prefix prefix_value (member_in value key.Prefix)

unfoldable pub client_in : Part → Data → Result (List ℕ) ServerFault
client_in part value = required part key.Client address_value (member_in value key.Client)

-- a start that finds no history begins one by default
unfoldable pub new_history_in : Data → Result NewHistory ServerFault
new_history_in file =
    or_default part.Head key.StateMustExist new_history_value Begins (member_in file key.StateMustExist)

-- each answer is synced by default
unfoldable pub sync_in : Data → Result SyncPolicy ServerFault
sync_in file = or_default part.Head key.Sync sync_value Always (member_in file key.Sync)

-- a week by default
unfoldable pub archive_in : Data → Result Archive ServerFault
archive_in file =
    or_default part.Head key.Archive archive_value (Days 7) (member_in file key.Archive)

-- how many megabytes the logs of the archive may have where the file does not say it: any number where all
-- files are kept
abbrev pub megabytes_by_default : Archive → Option ℕ
megabytes_by_default Keep = None
megabytes_by_default Nothing = Some 2000
megabytes_by_default (Days days) = Some 2000

-- how many megabytes the logs of an archive that is kept so may have
unfoldable pub megabytes_in : Archive → Data → Result (Option ℕ) ServerFault
megabytes_in archive file =
    or_default part.Head key.ArchiveMegabytes (λ value. option_map Some (number_of key.ArchiveMegabytes value))
    (megabytes_by_default archive) (member_in file key.ArchiveMegabytes)

unfoldable pub head_in : Data → Result Head ServerFault
head_in file =
    fault_or (unknown_in part.Head file)
    (and_then (path_in part.Head file key.Accounts) (λ accounts.
    and_then (path_in part.Head file key.State) (λ state.
    and_then (new_history_in file) (λ new_history.
    and_then (sync_in file) (λ sync.
    and_then (archive_in file) (λ archive.
    and_then (megabytes_in archive file) (λ megabytes.
    Ok (record {
      accounts = accounts;
      state = state;
      new_history = new_history;
      sync = sync;
      archive = archive;
      archive_megabytes = megabytes;
    }))))))))

unfoldable pub listen_in : (number : ℕ) → Data → Result Listen ServerFault
listen_in number value =
    fault_or (unknown_in (part.Listen number) value)
    (and_then (ip_address_in (part.Listen number) value) (λ address.
    and_then (port_in (part.Listen number) value key.Auth 1812) (λ auth.
    and_then (port_in (part.Listen number) value key.Acct 1813) (λ acct.
    and_then (port_in (part.Listen number) value key.Receivers 1) (λ receivers.
    and_then (flag_in (part.Listen number) value key.StatusServer) (λ status.
    Ok (record {
      address = address;
      auth = auth;
      acct = acct;
      receivers = receivers;
      status_server = status;
    })))))))

unfoldable pub network_in : (number : ℕ) → Data → Result Network ServerFault
network_in number value =
    fault_or (unknown_in (part.Network number) value)
    (and_then (prefix_in (part.Network number) value) (λ prefix.
    and_then (client_in (part.Network number) value) (λ client.
    Ok (record { prefix = prefix; client = client }))))

-- what each table says, in the file's order, numbered from this number, or the first fault
abbrev pub each : {T : Type 0} → (ℕ → Data → Result T ServerFault) → (number : ℕ) → List Data
    → Result (List T) ServerFault
each says number [] = Ok []
each says number (value ∷ values) =
    and_then (says number value) (λ said.
    and_then (each says (number + 1) values) (λ others.
    Ok (said ∷ others)))

-- whether two addresses cannot have the same port: a socket at one receives what comes to the other
abbrev pub addresses_meet : IpAddr → IpAddr → Bool
addresses_meet one other = covers one other || covers other one

abbrev pub takes_port : (address : IpAddr) → (port : ℕ) → Listen → Bool
takes_port address port listen =
    addresses_meet address listen.address && (port == listen.auth || port == listen.acct)

-- the first port of a table that an earlier table has, or that it has twice
abbrev pub taken_port : (before : List Listen) → Listen → Option ServerFault
taken_port before listen =
    if list_any (takes_port listen.address listen.auth) before
    then Some (TakenPort (part.Listen (length before + 1)) key.Auth)
    else if list_any (takes_port listen.address listen.acct) before || listen.acct == listen.auth
    then Some (TakenPort (part.Listen (length before + 1)) key.Acct)
    else None

-- the prefix of a table, if an earlier table has it
abbrev pub taken_prefix : (before : List Network) → Network → Option ServerFault
taken_prefix before network =
    if list_any (λ other. same_prefix network.prefix other.prefix) before
    then Some (TakenPrefix (part.Network (length before + 1)) key.Prefix)
    else None

abbrev pub first_of : Option ServerFault → Option ServerFault → Option ServerFault
first_of None other = other
first_of (Some fault) other = Some fault

-- the first fault of tables, each given the earlier ones
abbrev pub first_taken : {T : Type 0} → (List T → T → Option ServerFault) → (before tables : List T)
    → Option ServerFault
first_taken taken before [] = None
first_taken taken before (first ∷ rest) =
    first_of (taken before first) (first_taken taken (before ++ first ∷ []) rest)

unfoldable pub listens_of : List Data → Result (List Listen) ServerFault
listens_of tables =
    and_then (each listen_in 1 tables) (λ listens.
    fault_or (first_taken taken_port [] listens) (Ok listens))

abbrev pub listens_at : Option Data → Result (List Listen) ServerFault
listens_at None = Ok (default_listen ∷ [])
listens_at (Some value) =
    and_then (ok_or (tables_of 16 value) (BadValue part.Head key.Listen)) listens_of

unfoldable pub listens_in : Data → Result (List Listen) ServerFault
listens_in file = listens_at (member_in file key.Listen)

unfoldable pub networks_of : List Data → Result (List Network) ServerFault
networks_of tables =
    and_then (each network_in 1 tables) (λ networks.
    fault_or (first_taken taken_prefix [] networks) (Ok networks))

abbrev pub networks_at : Option Data → Result (List Network) ServerFault
networks_at None = Ok []
networks_at (Some value) =
    and_then (ok_or (tables_of 256 value) (BadValue part.Head key.Network)) networks_of

unfoldable pub networks_in : Data → Result (List Network) ServerFault
networks_in file = networks_at (member_in file key.Network)

-- the table that the file may have under a key
abbrev pub table_of : Data → Option Data
table_of (table members) = Some (table members)
table_of _ = None

abbrev pub option_at : {T : Type 0} → Key → (Data → Result T ServerFault) → Option Data
    → Result (Option T) ServerFault
option_at key part_in None = Ok None
option_at key part_in (Some value) =
    and_then (ok_or (table_of value) (BadValue part.Head key)) (λ found.
    and_then (part_in found) (λ found. Ok (Some found)))

-- by default a socket in the state folder, for the server's user alone
abbrev pub default_control : ControlSocket
default_control = record { path = None; mode = 384; group = None }

unfoldable pub socket_in : Data → Result ControlSocket ServerFault
socket_in value =
    fault_or (unknown_in part.Control value)
    (and_then (path_or_none_in part.Control value key.Socket) (λ path.
    and_then (port_in part.Control value key.Mode 384) (λ mode.
    and_then (group_in part.Control value) (λ group.
    Ok (record { path = path; mode = mode; group = group })))))

abbrev pub control_at : Option Data → Result ControlSocket ServerFault
control_at None = Ok default_control
control_at (Some value) = and_then (ok_or (table_of value) (BadValue part.Head key.Control)) socket_in

unfoldable pub control_in : Data → Result ControlSocket ServerFault
control_in file = control_at (member_in file key.Control)

unfoldable pub page_in : Data → Result Web ServerFault
page_in value =
    fault_or (unknown_in part.Web value)
    (and_then (address_in part.Web value own_address) (λ address.
    and_then (needed_port_in part.Web value key.Port) (λ port.
    Ok (record { address = address; port = port }))))

unfoldable pub web_in : Data → Result (Option Web) ServerFault
web_in file = option_at key.Web page_in (member_in file key.Web)

unfoldable pub asks_in : Data → Result AskSettings ServerFault
asks_in value =
    fault_or (unknown_in part.Ask value)
    (and_then (address_in part.Ask value own_address) (λ address.
    and_then (needed_port_in part.Ask value key.Port) (λ port.
    and_then (path_in part.Ask value key.TokenFile) (λ token.
    and_then (client_in part.Ask value) (λ client.
    Ok (record { address = address; port = port; token_file = token; client = client }))))))

unfoldable pub ask_in : Data → Result (Option AskSettings) ServerFault
ask_in file = option_at key.Ask asks_in (member_in file key.Ask)

unfoldable pub readers_in : Data → Result Trust ServerFault
readers_in value =
    fault_or (unknown_in part.Trust value)
    (and_then (flag_in part.Trust value key.ReadableAccounts) (λ readable.
    Ok (record { readable_accounts = readable })))

-- by default no other user may read the account file
abbrev pub trust_at : Option Data → Result Trust ServerFault
trust_at None = Ok (record { readable_accounts = false })
trust_at (Some value) = and_then (ok_or (table_of value) (BadValue part.Head key.Trust)) readers_in

unfoldable pub trust_in : Data → Result Trust ServerFault
trust_in file = trust_at (member_in file key.Trust)

-- the contents of the file, or its first fault: of the head, of the tables `listen` in order, of
-- the tables `network`, of `control`, of `web`, of `ask`, of `trust`
unfoldable pub server_of_file : Data → Result Server ServerFault
server_of_file file =
    and_then (head_in file) (λ head.
    and_then (listens_in file) (λ listens.
    and_then (networks_in file) (λ networks.
    and_then (control_in file) (λ control.
    and_then (web_in file) (λ web.
    and_then (ask_in file) (λ ask.
    and_then (trust_in file) (λ trust.
    Ok (record {
      accounts = head.accounts;
      state = head.state;
      new_history = head.new_history;
      sync = head.sync;
      archive = head.archive;
      archive_megabytes = head.archive_megabytes;
      listens = listens;
      networks = networks;
      control = control;
      web = web;
      ask = ask;
      trust = trust;
    }))))))))

abbrev pub server_of_parsed : Option Data → Result Server ServerFault
server_of_parsed None = Err NotToml
server_of_parsed (Some file) = server_of_file file

-- the contents of a server's file from its text
abbrev pub server_of_text : List ℕ → Result Server ServerFault
server_of_text text = server_of_parsed (file_of text)

-- the fault of the network with this number, counted from 0
abbrev pub unknown_client_at : Option ℕ → Option ServerFault
unknown_client_at None = None
unknown_client_at (Some index) = Some (UnknownClient (part.Network (index + 1)) key.Client)

-- the first network whose client is not one of a configuration
unfoldable pub unknown_client : List Network → Configuration → Option ServerFault
unknown_client networks config =
    unknown_client_at
    (position (λ network. not (is_some (client_number config network.client))) networks)

-- whether the client of this number may ask without a password
abbrev pub is_trusted_at : Configuration → (number : ℕ) → Bool
is_trusted_at config number =
    option_map_or (λ client. client.trusted) (slice_get config.clients number) false

-- what is wrong with the client that asks count as from, by its number
abbrev pub asker_fault_at : Configuration → Option ℕ → Option ServerFault
asker_fault_at config None = Some (UnknownClient part.Ask key.Client)
asker_fault_at config (Some number) =
    if is_trusted_at config number then None else Some (UntrustedClient part.Ask key.Client)

abbrev pub asker_fault : Option AskSettings → Configuration → Option ServerFault
asker_fault None config = None
asker_fault (Some ask) config = asker_fault_at config (client_number config ask.client)

-- whether the client with this number need not sign
abbrev pub is_unsigned_at : Configuration → Option ℕ → Bool
is_unsigned_at config None = false
is_unsigned_at config (Some number) =
    option_map_or (λ client. not client.signed) (slice_get config.clients number) false

-- whether the client of this address need not sign, under the guard of version 3
abbrev pub need_not_sign : Configuration → (address : List ℕ) → Bool
need_not_sign config address =
    is_strict config.settings.version && is_unsigned_at config (client_number config address)

-- the first network whose client need not sign
unfoldable pub unsigned_client : List Network → Configuration → Option ServerFault
unsigned_client networks config =
    option_map (λ index. UnsignedClient (part.Network (index + 1)) key.Client)
    (position (λ network. need_not_sign config network.client) networks)

-- the address of a client itself
abbrev pub own_address_of : Client → Ipv4Addr
own_address_of client = record { octets = client.address }

-- whether the networks give a client's own address to another client
abbrev pub shadows : List Network → Ipv4Addr → Bool
shadows networks address =
    not (option_map_or (same_octets (ipv4_octets address)) (client_of networks (V4 address)) false)

-- the first client of a configuration whose own address stands for another one
unfoldable pub shadowed_client : List Network → Configuration → Option ServerFault
shadowed_client networks config =
    option_map ShadowedClient (find (shadows networks) (map own_address_of config.clients))
