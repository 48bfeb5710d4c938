-- The keys of a server's file, their tables, and the values that each may have.
use Rattle.std.specs.Prelude.{ℕ, List, [], ◌∷◌, Bool, false, not, ◌==◌, ◌&&◌, ◌||◌, nat_le, length, codes, bytes_eq}
use Rattle.std.specs.List.{list_all, list_any}
use Rattle.rld_config.specs.declared.key.Key.{Key}
use Rattle.rld_config.specs.declared.key.Key.TheVariants.{Accounts, State, StateMustExist, Sync, Archive, ArchiveMegabytes, Listen, Network, Control, Web, Ask, Trust, Address, Auth, Acct, Receivers, StatusServer, Prefix, Client, Socket, Mode, Group, Port, TokenFile, ReadableAccounts}
use Rattle.rld_config.specs.declared.part.Part.{Part}
use Rattle.rld_config.specs.declared.part.Part.TheVariants.{Head, Listen as OfListen, Network as OfNetwork, Control as OfControl, Web as OfWeb, Ask as OfAsk, Trust as OfTrust}

-- the key as it is in the file
abbrev pub key_name : Key → List ℕ
key_name Accounts = codes "accounts"
key_name State = codes "state"
key_name StateMustExist = codes "state_must_exist"
key_name Sync = codes "sync"
key_name Archive = codes "archive"
key_name ArchiveMegabytes = codes "archive_megabytes"
key_name Listen = codes "listen"
key_name Network = codes "network"
key_name Control = codes "control"
key_name Web = codes "web"
key_name Ask = codes "ask"
key_name Trust = codes "trust"
key_name Address = codes "address"
key_name Auth = codes "auth"
key_name Acct = codes "acct"
key_name Receivers = codes "receivers"
key_name StatusServer = codes "status_server"
key_name Prefix = codes "prefix"
key_name Client = codes "client"
key_name Socket = codes "socket"
key_name Mode = codes "mode"
key_name Group = codes "group"
key_name Port = codes "port"
key_name TokenFile = codes "token_file"
key_name ReadableAccounts = codes "readable_accounts"

-- the keys that a table may have
abbrev pub keys_of : Part → List Key
keys_of Head = Accounts ∷ State ∷ StateMustExist ∷ Sync ∷ Archive ∷ ArchiveMegabytes ∷ Listen ∷ Network ∷ Control ∷ Web ∷ Ask ∷ Trust ∷ []
keys_of (OfListen number) = Address ∷ Auth ∷ Acct ∷ Receivers ∷ StatusServer ∷ []
keys_of (OfNetwork number) = Prefix ∷ Client ∷ []
keys_of OfControl = Socket ∷ Mode ∷ Group ∷ []
keys_of OfWeb = Address ∷ Port ∷ []
keys_of OfAsk = Address ∷ Port ∷ TokenFile ∷ Client ∷ []
keys_of OfTrust = ReadableAccounts ∷ []

-- whether a table may have a key of this name
abbrev pub knows : Part → (name : List ℕ) → Bool
knows part name = list_any (λ key. bytes_eq name (key_name key)) (keys_of part)

abbrev pub is_between : ℕ → ℕ → ℕ → Bool
is_between least most number = nat_le least number && nat_le number most

-- 0o600, 0o660 or 0o666: a socket's owner may write to it, alone or with his group or with
-- everybody
abbrev pub is_mode : ℕ → Bool
is_mode number = number == 384 || number == 432 || number == 438

-- a number that the key may have: days or megabytes of an archive, a port, how many receivers, a mode
abbrev pub takes_number : Key → ℕ → Bool
takes_number Archive number = is_between 1 36500 number
takes_number ArchiveMegabytes number = is_between 1 65535 number
takes_number Auth number = is_between 1 65535 number
takes_number Acct number = is_between 1 65535 number
takes_number Port number = is_between 1 65535 number
takes_number Receivers number = is_between 1 16 number
takes_number Mode number = is_mode number
takes_number _ number = false

abbrev pub has_no_nul : List ℕ → Bool
has_no_nul text = list_all (λ octet. not (octet == 0)) text

-- a path: 1 to 4,095 octets without NUL
abbrev pub is_path : List ℕ → Bool
is_path text = is_between 1 4095 (length text) && has_no_nul text

-- the name of a group: 1 to 32 octets without NUL
abbrev pub is_group : List ℕ → Bool
is_group text = is_between 1 32 (length text) && has_no_nul text
