-- The key of an Access-Request as octets: the address and the port of its source, its Identifier
-- and its Request Authenticator (RFC 2865 section 3).
use Rattle.std.specs.Prelude.{ℕ, List, ◌∷◌, ◌++◌}
use Rattle.std.specs.Int.{w16, to_be_bytes}
use Rattle.rld_spelling.specs.Field.{Field, Reading, both, seen_as, fixed, octet}
use Rattle.rld_spelling.specs.Numbers.{pair}
use Rattle.rsl_event.specs.declared.event.Key.{Key}

abbrev pub key_of : List ℕ × (ℕ × (ℕ × List ℕ)) → Key
key_of parts = record {
  source = record { address = parts.0; port = parts.1.0 };
  id = parts.1.1.0;
  authenticator = parts.1.1.1;
}

abbrev pub key_parts : Key → List ℕ × (ℕ × (ℕ × List ℕ))
key_parts key = (key.source.address, (key.source.port, (key.id, key.authenticator)))

unfoldable pub key_octets : Key → List ℕ
key_octets key = key.source.address ++ (to_be_bytes w16 key.source.port ++ (key.id ∷ key.authenticator))

abbrev pub key_as : Field Key
key_as = seen_as key_of key_parts (both (fixed 4) (both pair (both octet (fixed 16))))

unfoldable pub key_at : List ℕ → Reading Key
key_at octets = key_as.read octets

abbrev pub key_field : Field Key
key_field = record { spell = key_octets; read = key_at; Fits = key_as.Fits }
