-- The fields of an account file: their keys, and which values each may have.
use Rattle.std.specs.Prelude.{ℕ, List, Bool, false, not, ◌==◌, ◌&&◌, nat_le, length, codes}
use Rattle.std.specs.List.{list_all}
use Rattle.rsl_accounts.specs.declared.field.Field.{Field}
use Rattle.rsl_accounts.specs.declared.field.Field.TheVariants.{Version, Shards, ReserveSecs, LiveSecs, GraceSecs, ClosedSecs, KeepSecs, Client, Account, Address, Secret, Name, Password, Signed, Trusted, Disconnect, Port, Places, Ports, ServiceType, FramedProtocol, SessionTimeout, IdleTimeout, OwnLive, OwnGrace, InterimSecs, Disabled, Reply, Profile, PortLimit, Station, DelayTime}

-- the key of the field in the file
abbrev pub field_key : Field → List ℕ
field_key Version = codes "version"
field_key Shards = codes "shards"
field_key ReserveSecs = codes "reserve_secs"
field_key LiveSecs = codes "live_secs"
field_key GraceSecs = codes "grace_secs"
field_key ClosedSecs = codes "closed_secs"
field_key KeepSecs = codes "keep_secs"
field_key Client = codes "client"
field_key Account = codes "account"
field_key Address = codes "address"
field_key Secret = codes "secret"
field_key Signed = codes "signed"
field_key Trusted = codes "trusted"
field_key Disconnect = codes "disconnect"
field_key Port = codes "port"
field_key Name = codes "name"
field_key Password = codes "password"
field_key Places = codes "places"
field_key Ports = codes "ports"
field_key ServiceType = codes "service_type"
field_key FramedProtocol = codes "framed_protocol"
field_key SessionTimeout = codes "session_timeout"
field_key IdleTimeout = codes "idle_timeout"
field_key OwnLive = codes "live_secs"
field_key OwnGrace = codes "grace_secs"
field_key InterimSecs = codes "interim_secs"
field_key Disabled = codes "disabled"
field_key Reply = codes "reply"
field_key Profile = codes "profile"
field_key PortLimit = codes "port_limit"
field_key Station = codes "station"
field_key DelayTime = codes "delay_time"

abbrev pub is_between : ℕ → ℕ → ℕ → Bool
is_between least most number = nat_le least number && nat_le number most

-- whether the number is within the field's limits
abbrev pub takes_number : Field → ℕ → Bool
takes_number Version number = is_between 1 3 number
takes_number Shards number = is_between 1 4 number
takes_number ReserveSecs number = is_between 1 86400 number
takes_number LiveSecs number = is_between 1 86400 number
takes_number GraceSecs number = is_between 1 86400 number
takes_number ClosedSecs number = is_between 1 86400 number
takes_number KeepSecs number = is_between 1 86400 number
takes_number Port number = is_between 1 65535 number
takes_number Places number = is_between 0 64 number
takes_number Ports number = is_between 1 16 number
takes_number ServiceType number = is_between 1 4294967295 number
takes_number FramedProtocol number = is_between 1 4294967295 number
takes_number SessionTimeout number = is_between 1 4294967295 number
takes_number IdleTimeout number = is_between 1 4294967295 number
takes_number OwnLive number = is_between 1 86400 number
takes_number OwnGrace number = is_between 1 86400 number
takes_number InterimSecs number = is_between 60 86400 number
takes_number _ number = false

-- whether this number of tables is within the field's limits
abbrev pub takes_count : Field → ℕ → Bool
takes_count Client count = is_between 1 256 count
takes_count Account count = is_between 1 16384 count
takes_count _ count = false

abbrev pub has_no_nul : List ℕ → Bool
has_no_nul text = list_all (λ octet. not (octet == 0)) text

-- each octet is a visible ASCII character
abbrev pub is_visible : List ℕ → Bool
is_visible text = list_all (λ octet. is_between 33 126 octet) text

-- 1 to 128 octets without NUL
abbrev pub is_secret : List ℕ → Bool
is_secret text = is_between 1 128 (length text) && has_no_nul text

-- 1 to 64 octets, each a visible ASCII character
abbrev pub is_name : List ℕ → Bool
is_name text = is_between 1 64 (length text) && is_visible text

-- whether the text is within the field's limits
abbrev pub takes_text : Field → List ℕ → Bool
takes_text Secret text = is_secret text
takes_text Password text = is_secret text
takes_text Name text = is_name text
takes_text _ text = false
