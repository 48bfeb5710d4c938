-- User-Password (RFC 2865 section 5.2). The password p1, p2, .. of 16 octets each is hidden as
-- c(1), c(2), .. with c(1) = p1 xor MD5(S, RA) and c(i) = pi xor MD5(S, c(i-1)), where S is the
-- secret and RA the Request Authenticator.
use Rattle.std.specs.Prelude.{◌≡◌, ℕ, zero, suc, ◌-◌, ◌/◌, ◌%◌, ◌≤◌, ◌==◌, nat_eq, nat_le, Bool, ◌&&◌, List, [], ◌∷◌, ◌++◌, length, take, drop, replicate, bit_xor, if◌then◌else◌}
use Rattle.std.specs.List.{starts_with, list_all}
use Rattle.md5.specs.Md5.{md5}

-- how many NULs pad a password: the fewest that make a multiple of 16 octets, and 16 for the empty
-- one
abbrev pub nuls_after : (length : ℕ) → ℕ
nuls_after n = if n == 0 then 16 else (16 - n % 16) % 16

-- the padded password: p1, p2, .. joined
abbrev pub padded_password : List ℕ → List ℕ
padded_password password = password ++ replicate (nuls_after (length password)) 0

-- each octet xor the octet at its index in the other list
abbrev pub xor_octets : List ℕ → List ℕ → List ℕ
xor_octets [] others = []
xor_octets (x ∷ octets) [] = []
xor_octets (x ∷ octets) (y ∷ others) = bit_xor x y ∷ xor_octets octets others

-- a block xor MD5(S, before): `before` is RA at the first block and then the hidden block before
unfoldable pub masked : (block secret before : List ℕ) → List ℕ
masked block secret before = xor_octets block (md5 (secret ++ before))

-- c(1), c(2), .. of the first blocks of octets, joined
unfoldable pub hidden_blocks : (blocks : ℕ) (octets secret before : List ℕ) → List ℕ
hidden_blocks zero octets secret before = []
hidden_blocks (suc blocks) octets secret before =
    masked (take 16 octets) secret before
    ++ hidden_blocks blocks (drop 16 octets) secret (masked (take 16 octets) secret before)

-- p1, p2, .. of the first hidden blocks of a value, joined
unfoldable pub revealed_blocks : (blocks : ℕ) (value secret before : List ℕ) → List ℕ
revealed_blocks zero value secret before = []
revealed_blocks (suc blocks) value secret before =
    masked (take 16 value) secret before
    ++ revealed_blocks blocks (drop 16 value) secret (take 16 value)

-- the value that hides a password
unfoldable pub hidden : (password secret request_auth : List ℕ) → List ℕ
hidden password secret request_auth =
    hidden_blocks (length (padded_password password) / 16) (padded_password password) secret
    request_auth

-- the octets that a value hides
unfoldable pub revealed : (value secret request_auth : List ℕ) → List ℕ
revealed value secret request_auth = revealed_blocks (length value / 16) value secret request_auth

-- a value has 16, 32, .. or 128 octets
abbrev pub IsPasswordLength : ℕ → Type 0
IsPasswordLength n = (n % 16 ≡ 0) × (16 ≤ n) × (n ≤ 128)

-- `IsPasswordLength` as a test
abbrev pub is_password_length : ℕ → Bool
is_password_length n = n % 16 == 0 && nat_le 16 n && nat_le n 128

-- whether each octet is NUL
abbrev pub are_nuls : List ℕ → Bool
are_nuls octets = list_all (λ octet. octet == 0) octets

-- octets are the password followed by NULs alone
abbrev pub IsPadded : (octets password : List ℕ) → Type 0
IsPadded octets password = (zeros : ℕ) × (octets ≡ password ++ replicate zeros 0)

-- `IsPadded` as a test
abbrev pub is_padded : (octets password : List ℕ) → Bool
is_padded octets password =
    starts_with nat_eq octets password && are_nuls (drop (length password) octets)

-- whether a value hides this password
unfoldable pub matches_password : (value secret request_auth password : List ℕ) → Bool
matches_password value secret request_auth password =
    is_password_length (length value) && is_padded (revealed value secret request_auth) password
