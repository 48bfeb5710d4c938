-- Access servers as octets: the client's number, and the name after a tag of its kind.
use Rattle.std.specs.Prelude.{ℕ, ◌≤◌, List, [], ◌∷◌, ◌++◌, length, nat_eq, Ok, if◌then◌else◌}
use Rattle.rld_spelling.specs.declared.fault.Cause.TheVariants.{CutShort, NoClient, UnknownTag}
use Rattle.rld_spelling.specs.Field.{Field, Reading, fault_at, made_of, both, seen_as, short, short_at}
use Rattle.rld_spelling.specs.Numbers.{number_octets, below}
use Rattle.rsl_event.specs.declared.nas.Nas.{Nas}
use Rattle.rsl_event.specs.declared.nas.NasName.{NasName}
use Rattle.rsl_event.specs.declared.nas.NasName.TheVariants.{Identifier, Address, Unnamed}

unfoldable pub name_octets : NasName → List ℕ
name_octets (Identifier name) = 0 ∷ short.spell name
name_octets (Address address) = 1 ∷ short.spell address
name_octets Unnamed = 2 ∷ []

abbrev pub name_behind : (tag : ℕ) → List ℕ → Reading NasName
name_behind tag rest =
    if nat_eq tag 0 then made_of (λ name. Identifier name) (short_at rest)
    else (if nat_eq tag 1 then made_of (λ address. Address address) (short_at rest)
    else (if nat_eq tag 2 then Ok (Unnamed, rest)
    else fault_at UnknownTag (tag ∷ rest)))

unfoldable pub name_at : List ℕ → Reading NasName
name_at [] = fault_at CutShort []
name_at (tag ∷ rest) = name_behind tag rest

-- a name that has a spelling: at most 253 octets, like the value of an attribute
abbrev pub NameFits : NasName → Type 0
NameFits (Identifier name) = length name ≤ 253
NameFits (Address address) = length address ≤ 253
NameFits Unnamed = Unit {0}

abbrev pub name_field : Field NasName
name_field = record { spell = name_octets; read = name_at; Fits = NameFits }

abbrev pub nas_of : ℕ × NasName → Nas
nas_of parts = record { client = parts.0; name = parts.1 }

abbrev pub nas_parts : Nas → ℕ × NasName
nas_parts nas = (nas.client, nas.name)

unfoldable pub nas_octets : Nas → List ℕ
nas_octets nas = number_octets nas.client ++ name_octets nas.name

abbrev pub nas_as : (clients : ℕ) → Field Nas
nas_as clients = seen_as nas_of nas_parts (both (below NoClient clients) name_field)

unfoldable pub nas_at : (clients : ℕ) → List ℕ → Reading Nas
nas_at clients octets = (nas_as clients).read octets

-- an access server of one of `clients` clients
abbrev pub nas_field : (clients : ℕ) → Field Nas
nas_field clients =
    record { spell = nas_octets; read = nas_at clients; Fits = (nas_as clients).Fits }
