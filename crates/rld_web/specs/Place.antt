-- The names of the server in a request.
use Rattle.std.specs.Prelude.{ℕ, Bool, true, false, ◌||◌, List, ◌++◌, codes, decimal, Option, Some, None, bytes_eq}
use Rattle.std.specs.Net.Addr.{ipv4_octets}
use Rattle.std.specs.Net.Socket.{v4_ip, v4_port}
use Rattle.std.specs.Net.Text.{ipv4_text, socket_v4_text}
use Rattle.std.specs.declared.net.socket_addr.SocketAddrV4.{SocketAddrV4}
use Rattle.http.specs.declared.request.Parts.{Parts}
use Rattle.http_header.specs.FieldValue.{FieldValue}
use Rattle.http_header.specs.HeaderMap.{get}
use Rattle.http_uri.specs.Uri.{uri_authority}

-- the octets of a field, if it is there
abbrev pub field_octets : Option FieldValue → Option (List ℕ)
field_octets None = None
field_octets (Some value) = Some value.bytes

-- the target's authority, else the field
abbrev pub first_of : (authority field : Option (List ℕ)) → Option (List ℕ)
first_of (Some authority) field = Some authority
first_of None field = field

-- the host of a request: its target's, else its first Host (RFC 9112 section 3.2.2)
abbrev pub host_of : Parts → Option (List ℕ)
host_of head = first_of (uri_authority head.uri) (field_octets (get head.headers (codes "host")))

-- the address or `localhost`, with the port or without
abbrev pub is_name_of : SocketAddrV4 → (host : List ℕ) → Bool
is_name_of place host =
    bytes_eq host (ipv4_text (ipv4_octets (v4_ip place)))
    || bytes_eq host (socket_v4_text place)
    || bytes_eq host (codes "localhost")
    || bytes_eq host (codes "localhost:" ++ decimal (v4_port place))

abbrev pub is_asked_for : SocketAddrV4 → (host : Option (List ℕ)) → Bool
is_asked_for place None = false
is_asked_for place (Some host) = is_name_of place host
