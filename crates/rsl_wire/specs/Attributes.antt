-- The attributes of a packet (RFC 2865 section 5).
use Rattle.std.specs.Prelude.{◌≡◌, ℕ, zero, suc, ◌+◌, ◌-◌, ◌<◌, ◌≤◌, ◌||◌, ◌⊎◌, List, [], ◌∷◌, ◌++◌, length, drop, take, nat_lt, ◌==◌, Bool, Option, Some, None, Result, Ok, Err, if◌then◌else◌}
use Rattle.std.specs.List.{flat_map, before_first, AllByRecursion}
use Rattle.std.specs.Option.{option_map_or}
use Rattle.std.specs.Result.{result_unwrap_or}
use Rattle.std.specs.Int.{w32, from_be_bytes}

-- an attribute: its Type and its Value
pub record Attribute : Type 0 where
  pub kind : ℕ
  pub value : List ℕ

abbrev pub attribute_of : ℕ → List ℕ → Attribute
attribute_of kind value = record { kind = kind; value = value }

-- the octets of an attribute: Type, Length of the three together, Value
abbrev pub attribute_octets : Attribute → List ℕ
attribute_octets attribute = attribute.kind ∷ (2 + length attribute.value) ∷ attribute.value

-- an attribute that octets can hold: the Type is an octet, and so is the Length
pub record IsAttribute (attribute : Attribute) : Type 0 where
  pub kind : attribute.kind < 256
  pub value : length attribute.value ≤ 253

-- the octets of attributes, one after another
abbrev pub list_octets : List Attribute → List ℕ
list_octets attributes = flat_map attribute_octets attributes

-- the grammar of a list of attributes: the octets are these attributes, joined
pub record AreAttributes (octets : List ℕ) (attributes : List Attribute) : Type 0 where
  pub each : AllByRecursion IsAttribute attributes
  pub joined : octets ≡ list_octets attributes

-- octets that no attribute begins: the Length is missing, under 2, or past the end of the octets
abbrev pub BeginsBad : List ℕ → Type 0
BeginsBad [] = ⊥
BeginsBad (kind ∷ []) = Unit {0}
BeginsBad (kind ∷ len ∷ rest) = (len < 2) ⊎ (2 + length rest < len)

-- the list is malformed at this offset: attributes stand up to it, and none begins there
pub record IsBadAt (octets : List ℕ) (at : ℕ) : Type 0 where
  pub front : List Attribute
  pub rest : List ℕ
  pub each : AllByRecursion IsAttribute front
  pub joined : octets ≡ list_octets front ++ rest
  pub offset : at ≡ length (list_octets front)
  pub bad : BeginsBad rest

-- the first attribute of the octets, and the octets after it
abbrev pub first_attribute : List ℕ → Option (Attribute × List ℕ)
first_attribute [] = None
first_attribute (kind ∷ []) = None
first_attribute (kind ∷ len ∷ rest) =
    if nat_lt len 2 || nat_lt (2 + length rest) len then None
    else Some (attribute_of kind (take (len - 2) rest), drop (len - 2) rest)

-- an attribute before those read after it, where a fault's offset counts from the attribute
abbrev pub with_first : Attribute → Result (List Attribute) ℕ → Result (List Attribute) ℕ
with_first first (Ok rest) = Ok (first ∷ rest)
with_first first (Err at) = Err (length (attribute_octets first) + at)

-- the attributes of the octets, at most `most`, or the offset of the first bad one
unfoldable pub list_from : ℕ → List ℕ → Result (List Attribute) ℕ
list_from most [] = Ok []
list_from zero (kind ∷ rest) = Err 0
list_from (suc most) (kind ∷ rest) =
    option_map_or (λ found. with_first found.0 (list_from most found.1)) (first_attribute (kind
    ∷ rest)) (Err 0)

-- The attribute list of the octets, or the offset of the first bad attribute. It computes what the
-- grammar says: `Packet::attributes` is proved against both.
abbrev pub attribute_list : List ℕ → Result (List Attribute) ℕ
attribute_list octets = list_from (length octets) octets

-- the attributes of octets that are well formed
abbrev pub attributes_in : List ℕ → List Attribute
attributes_in octets = result_unwrap_or (attribute_list octets) []

-- whether an attribute is of this Type
abbrev pub is_kind : ℕ → Attribute → Bool
is_kind kind attribute = attribute.kind == kind

-- the value of the first attribute of a Type
abbrev pub first_of : ℕ → List Attribute → Option (List ℕ)
first_of kind [] = None
first_of kind (attribute ∷ attributes) =
    if attribute.kind == kind then Some attribute.value else first_of kind attributes

-- how many octets the attributes before the first of a Type have, or all of them if none has it
unfoldable pub octets_before : ℕ → List Attribute → ℕ
octets_before kind attributes = length (list_octets (before_first (is_kind kind) attributes))

-- a value of four octets as a number, the high octet first (RFC 2865 section 5)
abbrev pub number_in : Option (List ℕ) → Option ℕ
number_in None = None
number_in (Some value) = if length value == 4 then Some (from_be_bytes w32 value) else None
