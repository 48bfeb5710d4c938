-- Values in JSON (RFC 8259). Each character of a string is one octet, since names and ids may be
-- any octets.
use Rattle.std.specs.Prelude.{ℕ, ◌==◌, List, [], ◌∷◌, ◌++◌, codes, if◌then◌else◌}
use Rattle.std.specs.Fmt.{decimal}
use Rattle.std.specs.List.{flat_map}
use Rattle.rld_values.specs.Values.{hex, is_between}

-- an octet of a string (section 7): a quote and a backslash have a backslash before them, any other
-- printable ASCII character stands for itself, and any other octet is `\u00` and two hexadecimal
-- digits
abbrev pub json_octet : ℕ → List ℕ
json_octet octet =
    if octet == 34 then codes "\\\""
    else if octet == 92 then codes "\\\\"
    else if is_between 32 126 octet then octet ∷ []
    else codes "\\u00" ++ hex (octet ∷ [])

unfoldable pub json_string : List ℕ → List ℕ
json_string octets = codes "\"" ++ (flat_map json_octet octets ++ codes "\"")

-- the start of a member after another one
unfoldable pub member_front : (name : List ℕ) → List ℕ
member_front name = codes ",\"" ++ (name ++ codes "\":")

unfoldable pub number_member : (name : List ℕ) → ℕ → List ℕ
number_member name number = member_front name ++ decimal number

unfoldable pub string_member : (name octets : List ℕ) → List ℕ
string_member name octets = member_front name ++ json_string octets
