-- The occurrences of the attributes of one Type.
use Rattle.std.specs.Prelude.{◌≡◌, ℕ, List, Option, option_map}
use Rattle.std.specs.Borrow.{Bor}
use Rattle.rsl_wire.specs.Attributes.{Attribute, first_of}
use Rattle.rsl_event.specs.Request.{attribute_count}
use Rattle.rsl_event.specs.declared.occurrences.Occurrences.{Occurrences}

-- a value without its address in memory
abbrev pub value_of : Option (Bor (List ℕ)) → Option (List ℕ)
value_of value = option_map (λ octets. octets.now) value

-- how many attributes of a Type there are, and the value of the first
pub record AreOf (kind : ℕ) (attributes : List Attribute) (noted : Occurrences) : Type 0 where
  pub count : noted.count ≡ attribute_count kind attributes
  pub first : value_of noted.first ≡ first_of kind attributes
