-- A fingerprint of 8 octets, with which one comparison rules out most asks and sessions: equal ones
-- have equal fingerprints.
use Rattle.std.specs.Prelude.{ℕ, ◌+◌, ◌*◌, ◌%◌, ◌^◌, List, [], ◌∷◌, take, drop}
use Rattle.std.specs.Int.{w64, from_be_bytes}
use Rattle.rsl_event.specs.declared.event.Key.{Key}

unfoldable pub key_fingerprint : Key → ℕ
key_fingerprint key =
    ((from_be_bytes w64 (take 8 key.authenticator)
    + from_be_bytes w64 (drop 8 key.authenticator)) % 2 ^ 64
    + (key.id * 65536 + key.source.port)) % 2 ^ 64

-- the fingerprint of octets after those of a fingerprint
unfoldable pub octets_after : ℕ → List ℕ → ℕ
octets_after print [] = print
octets_after print (octet ∷ octets) = octets_after (((print * 31) % 2 ^ 64 + octet) % 2 ^ 64) octets

abbrev pub id_fingerprint : List ℕ → ℕ
id_fingerprint id = octets_after 0 id
