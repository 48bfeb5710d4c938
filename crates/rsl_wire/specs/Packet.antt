-- A packet in a datagram (RFC 2865 section 3).
--
--     octet  0        1            2 and 3   4 to 19         20 to Length - 1   from Length on
--            Code     Identifier   Length    Authenticator   Attributes         padding
use Rattle.std.specs.Prelude.{◌≡◌, ℕ, ◌+◌, ◌<◌, ◌≤◌, ◌||◌, List, [], ◌∷◌, ◌++◌, length, drop, take, nat_lt, slice_index, Result, Ok, Err, if◌then◌else◌}
use Rattle.std.specs.Int.{w16, from_be_bytes, to_be_bytes}
use Rattle.rsl_wire.specs.declared.packet.WireFault.{WireFault}
use Rattle.rsl_wire.specs.declared.packet.WireFault.TheVariants.{Short, BadLength}

-- the fields of a packet, with its attributes still as octets
pub record Fields : Type 0 where
  pub code : ℕ
  pub id : ℕ
  pub authenticator : List ℕ
  pub attributes : List ℕ

-- fields that a packet can have: Code and Identifier are octets, the Authenticator has 16, and the
-- whole has 20 to 4,096
pub record IsPacket (fields : Fields) : Type 0 where
  pub code : fields.code < 256
  pub id : fields.id < 256
  pub authenticator : length fields.authenticator ≡ 16
  pub whole : 20 + length fields.attributes ≤ 4096

-- the octets of a packet: Length is that of the whole, high octet first
abbrev pub packet_octets : Fields → List ℕ
packet_octets fields =
    fields.code ∷ fields.id ∷ to_be_bytes w16 (20 + length fields.attributes)
    ++ fields.authenticator ++ fields.attributes

-- the grammar of a datagram: it is a packet with these fields, and padding
pub record IsDatagram (datagram : List ℕ) (fields : Fields) (padding : List ℕ) : Type 0 where
  pub packet : IsPacket fields
  pub octets : datagram ≡ packet_octets fields ++ padding

-- the Length field of a datagram
abbrev pub length_field : List ℕ → ℕ
length_field datagram = from_be_bytes w16 (slice_index datagram 2 ∷ slice_index datagram 3 ∷ [])

-- The fields of a datagram, or why it has none. It computes what the grammar says: `read` is proved
-- against both.
unfoldable pub packet_of : List ℕ → Result Fields WireFault
packet_of datagram =
    if nat_lt (length datagram) 20 then Err Short
    else if nat_lt (length_field datagram) 20 || nat_lt 4096 (length_field datagram)
    || nat_lt (length datagram) (length_field datagram)
    then Err BadLength
    else Ok (record {
      code = slice_index datagram 0;
      id = slice_index datagram 1;
      authenticator = take 16 (drop 4 datagram);
      attributes = drop 20 (take (length_field datagram) datagram);
    })
