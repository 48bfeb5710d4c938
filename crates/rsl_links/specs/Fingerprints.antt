-- A fingerprint of an access server's name, with which one comparison rules out most others: equal
-- access servers have equal ones.
use Rattle.std.specs.Prelude.{ℕ, ◌+◌, ◌*◌, ◌%◌, ◌^◌, List, [], ◌∷◌, map}
use Rattle.rsl_event.specs.declared.nas.Nas.{Nas}
use Rattle.rsl_event.specs.declared.nas.NasName.{NasName}
use Rattle.rsl_event.specs.declared.nas.NasName.TheVariants.{Identifier, Address, Unnamed}

-- the fingerprint of octets after those of a fingerprint
unfoldable pub fingerprint_with : ℕ → List ℕ → ℕ
fingerprint_with fingerprint [] = fingerprint
fingerprint_with fingerprint (octet ∷ octets) = fingerprint_with (((fingerprint * 31) % 2 ^ 32 + octet) % 2 ^ 32) octets

abbrev pub name_octets : NasName → List ℕ
name_octets (Identifier name) = name
name_octets (Address address) = address
name_octets Unnamed = []

abbrev pub fingerprint_of : Nas → ℕ
fingerprint_of nas = fingerprint_with nas.client (name_octets nas.name)

abbrev pub fingerprints_of : List Nas → List ℕ
fingerprints_of servers = map fingerprint_of servers
