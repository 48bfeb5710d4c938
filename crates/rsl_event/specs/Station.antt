-- The station of a request: the device that its access server names by a Calling-Station-Id (RFC 2865
-- section 5.31). A request for an account that does not count by stations has none.
use Rattle.std.specs.Prelude.{ℕ, ◌&&◌, nat_le, List, length, if◌then◌else◌, Option, Some, None}
use Rattle.rsl_accounts.specs.Configuration.{Configuration, counts_stations}
use Rattle.rsl_wire.specs.Attributes.{Attribute, first_of}
use Rattle.rsl_event.specs.declared.codes.TheConstants.{CALLING_STATION_ID, MAX_STATION_LEN}

-- a value of 1 to 64 octets is a station
abbrev pub if_station : Option (List ℕ) → Option (List ℕ)
if_station None = None
if_station (Some value) =
    if nat_le 1 (length value) && nat_le (length value) MAX_STATION_LEN then Some value else None

-- the station of a request by its attributes: the first Calling-Station-Id
abbrev pub station_in : Configuration → (account : ℕ) → List Attribute → Option (List ℕ)
station_in config account attributes =
    if counts_stations config account then if_station (first_of CALLING_STATION_ID attributes) else None
