-- Attributes that a line may have.
use Rattle.std.specs.Prelude.{ℕ, List, [], ◌∷◌, Option, Some, None}
use Rattle.rsl_wire.specs.Attributes.{Attribute, attribute_of}

-- an attribute whose value is a text, if there is one
abbrev pub text_attribute : (kind : ℕ) → (text : Option (List ℕ)) → List Attribute
text_attribute kind None = []
text_attribute kind (Some text) = attribute_of kind text ∷ []
