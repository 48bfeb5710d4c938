-- Attributes that are to be written.
use Rattle.std.specs.Prelude.{◌+◌, ◌≤◌, List, length}
use Rattle.std.specs.List.{AllByRecursion}
use Rattle.rsl_wire.specs.Attributes.{Attribute, attribute_of, list_octets}
use Rattle.rsl_wire.specs.declared.attr.Attr.{Attr}

-- an attribute without its value's address in memory
abbrev pub seen : Attr → Attribute
seen attribute = attribute_of attribute.kind attribute.value.now

-- every value has at most 253 octets, and the whole packet at most 4,096
pub record FitsPacket (attributes : List Attribute) : Type 0 where
  pub values : AllByRecursion (λ attribute. length attribute.value ≤ 253) attributes
  pub whole : 20 + length (list_octets attributes) ≤ 4096
