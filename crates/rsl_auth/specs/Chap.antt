-- CHAP-Password (RFC 2865 section 5.3): a CHAP Ident of 1 octet and a response of 16.
use Rattle.std.specs.Prelude.{ℕ, ◌==◌, Bool, ◌&&◌, List, ◌∷◌, ◌++◌, length, drop, slice_index}
use Rattle.std.specs.Str.{bytes_eq}
use Rattle.md5.specs.Md5.{md5}

-- MD5(CHAP Ident, password, challenge)
unfoldable pub chap_response : (ident : ℕ) (password challenge : List ℕ) → List ℕ
chap_response ident password challenge = md5 (ident ∷ password ++ challenge)

-- whether a value answers the challenge with this password
unfoldable pub matches_chap : (value challenge password : List ℕ) → Bool
matches_chap value challenge password =
    length value == 17
    && bytes_eq (drop 1 value) (chap_response (slice_index value 0) password challenge)
