-- The attributes of a reply as lines, each with its octets.
use Rattle.std.specs.Prelude.{ℕ, ◌==◌, ◌&&◌, not, Bool, if◌then◌else◌, List, [], ◌++◌, codes, Result, Ok, Err}
use Rattle.std.specs.List.{flat_map}
use Rattle.rsl_wire.specs.Attributes.{Attribute, attribute_octets, attribute_of, attributes_in}
use Rattle.rsl_wire.specs.Packet.{Fields, packet_of}
use Rattle.rsl_wire.specs.declared.packet.WireFault.{WireFault}
use Rattle.rld_values.specs.Values.{hex}
use Rattle.rsl_reply.specs.declared.dictionary.Dictionary.{Dictionary}
use Rattle.rld_attributes.specs.Written.{pair, written}

-- the attributes of a packet
abbrev pub attributes_read : Result Fields WireFault → List Attribute
attributes_read (Ok fields) = attributes_in fields.attributes
attributes_read (Err fault) = []

abbrev pub attributes_of : (packet : List ℕ) → List Attribute
attributes_of packet = attributes_read (packet_of packet)

-- those that each packet has anew are left out: Message-Authenticator, Class and Proxy-State
abbrev pub is_lasting : (kind : ℕ) → Bool
is_lasting kind = not (kind == 80) && not (kind == 25) && not (kind == 33)

-- `NAME = VALUE`, a tab, and the octets in hexadecimal digits
unfoldable pub listed_line : Dictionary → (kind : ℕ) (value : List ℕ) → List ℕ
listed_line names kind value =
    pair (written names kind value)
    ++ (codes "\t" ++ (hex (attribute_octets (attribute_of kind value)) ++ codes "\n"))

abbrev pub line_of : Dictionary → Attribute → List ℕ
line_of names attribute =
    if is_lasting attribute.kind then listed_line names attribute.kind attribute.value else []

abbrev pub listed : Dictionary → List Attribute → List ℕ
listed names attributes = flat_map (line_of names) attributes
