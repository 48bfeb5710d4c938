-- HMAC-MD5 (RFC 2104 section 2): MD5(K xor opad, MD5(K xor ipad, message)), where K is the key
-- padded with zeros to the 64 octets of an MD5 block. A key of more than 64 octets is hashed first.
use Rattle.std.specs.Prelude.{ℕ, ◌-◌, nat_le, if◌then◌else◌, List, ◌++◌, length, map, replicate, bit_xor}
use Rattle.md5.specs.Md5.{Holds, md5}
use Rattle.rsl_auth.specs.declared.hmac.HmacKey.{HmacKey}

-- the key, or its digest if it has more than 64 octets
abbrev pub short_key : (key : List ℕ) → List ℕ
short_key key = if nat_le (length key) 64 then key else md5 key

-- K: the key, padded with zeros
abbrev pub key_block : (key : List ℕ) → List ℕ
key_block key = short_key key ++ replicate (64 - length (short_key key)) 0

-- a block xor a pad, one octet repeated
abbrev pub padded : (block : List ℕ) (pad : ℕ) → List ℕ
padded block pad = map (λ octet. bit_xor octet pad) block

-- K xor a pad
abbrev pub key_xor : (key : List ℕ) (pad : ℕ) → List ℕ
key_xor key pad = padded (key_block key) pad

-- ipad is 0x36 and opad 0x5c
unfoldable pub hmac_md5 : (key message : List ℕ) → List ℕ
hmac_md5 key message = md5 (key_xor key 0x5c ++ md5 (key_xor key 0x36 ++ message))

-- what is kept of a key: the digests after K xor ipad and after K xor opad
pub record IsKeyOf (key : List ℕ) (kept : HmacKey) : Type 0 where
  pub inner : Holds kept.inner (key_xor key 0x36)
  pub outer : Holds kept.outer (key_xor key 0x5c)
