-- Message-Authenticator (RFC 3579 section 3.2): HMAC-MD5 keyed by the secret over Code, Identifier,
-- Length, Request Authenticator and Attributes, where its own value counts as sixteen zero octets.
-- `at` is the offset of the value in the packet, at least 20.
use Rattle.std.specs.Prelude.{ℕ, ◌+◌, Bool, List, ◌++◌, take, drop, replicate}
use Rattle.std.specs.Str.{bytes_eq}
use Rattle.rsl_auth.specs.Authenticator.{authenticator}
use Rattle.rsl_auth.specs.Hmac.{hmac_md5}

-- the sixteen octets at an offset
abbrev pub value_at : (packet : List ℕ) (at : ℕ) → List ℕ
value_at packet at = take 16 (drop at packet)

-- the packet with this value at the offset
abbrev pub with_value : (packet : List ℕ) (at : ℕ) (value : List ℕ) → List ℕ
with_value packet at value = take at packet ++ value ++ drop (at + 16) packet

-- HMAC-MD5(Secret, (Code, Identifier, Length, Request Authenticator, Attributes with sixteen zero
-- octets at the offset))
unfoldable pub signature : (packet : List ℕ) (at : ℕ) (request_auth secret : List ℕ) → List ℕ
signature packet at request_auth secret =
    hmac_md5 secret (take 4 packet ++ request_auth
    ++ drop 20 (with_value packet at (replicate 16 0)))

-- the packet with its signature
unfoldable pub signed : (packet : List ℕ) (at : ℕ) (request_auth secret : List ℕ) → List ℕ
signed packet at request_auth secret =
    with_value packet at (signature packet at request_auth secret)

-- whether a request has its signature at the offset
unfoldable pub is_signed : (packet : List ℕ) (at : ℕ) (secret : List ℕ) → Bool
is_signed packet at secret =
    bytes_eq (value_at packet at) (signature packet at (authenticator packet) secret)
