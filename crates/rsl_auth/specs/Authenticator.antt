-- The authenticators of packets (RFC 2865 section 3, RFC 2866 section 3). A packet is all of its
-- octets: Code, Identifier and Length are the first 4, the Authenticator is the next 16, and the
-- Attributes are the rest.
use Rattle.std.specs.Prelude.{Bool, ℕ, List, ◌++◌, take, drop, replicate}
use Rattle.std.specs.Str.{bytes_eq}
use Rattle.md5.specs.Md5.{md5}

-- octets 4 to 19
abbrev pub authenticator : List ℕ → List ℕ
authenticator packet = take 16 (drop 4 packet)

-- MD5(Code, Identifier, Length, Request Authenticator, Attributes, Secret)
unfoldable pub response_authenticator : (packet request_auth secret : List ℕ) → List ℕ
response_authenticator packet request_auth secret =
    md5 (take 4 packet ++ request_auth ++ drop 20 packet ++ secret)

-- the packet with its Response Authenticator in octets 4 to 19
unfoldable pub sealed : (packet request_auth secret : List ℕ) → List ℕ
sealed packet request_auth secret =
    take 4 packet ++ response_authenticator packet request_auth secret ++ drop 20 packet

-- the Authenticator of an Accounting-Request: MD5(Code, Identifier, Length, sixteen zero octets,
-- Attributes, Secret)
abbrev pub accounting_authenticator : (packet secret : List ℕ) → List ℕ
accounting_authenticator packet secret = response_authenticator packet (replicate 16 0) secret

-- whether octets 4 to 19 of an Accounting-Request are its Authenticator
unfoldable pub is_accounting_authentic : (packet secret : List ℕ) → Bool
is_accounting_authentic packet secret =
    bytes_eq (authenticator packet) (accounting_authenticator packet secret)
