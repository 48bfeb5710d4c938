-- Text in HTML (WHATWG HTML 13.1.2.3 and 13.1.4).
use Rattle.std.specs.Prelude.{ℕ, ◌==◌, Bool, not, ◌||◌, List, [], ◌∷◌, ◌++◌, codes, if◌then◌else◌}
use Rattle.std.specs.List.{flat_map}

-- an octet of text between tags or in a quoted attribute: what could begin a tag or a reference, or
-- end the attribute, is a reference
abbrev pub html_octet : ℕ → List ℕ
html_octet octet =
    if octet == 60 then codes "&lt;"
    else if octet == 62 then codes "&gt;"
    else if octet == 38 then codes "&amp;"
    else if octet == 34 then codes "&quot;"
    else if octet == 39 then codes "&#39;"
    else octet ∷ []

-- the octet neither begins or ends a tag, nor ends an attribute
abbrev pub is_no_markup : ℕ → Bool
is_no_markup octet = not (octet == 60 || octet == 62 || octet == 34 || octet == 39)

-- text in which nothing is markup
abbrev pub html_text : List ℕ → List ℕ
html_text octets = flat_map html_octet octets

-- a dash and a middle dot, in UTF-8
abbrev pub dash : List ℕ
dash = 226 ∷ 128 ∷ 147 ∷ []

abbrev pub middle_dot : List ℕ
middle_dot = 194 ∷ 183 ∷ []

-- what stands where there is nothing to say
unfoldable pub soft_dash : List ℕ
soft_dash = codes "<span class=\"soft\">" ++ (dash ++ codes "</span>")
