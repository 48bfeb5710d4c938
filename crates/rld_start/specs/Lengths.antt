-- A frame whose length is spoilt.
use Rattle.std.specs.Prelude.{◌≡◌, ℕ, ◌≤◌, List, length, drop, take}
use Rattle.md5.specs.Md5.{md5}

-- a digest is that of a prefix of octets
pub record HasFront (sum octets : List ℕ) : Type 0 where
  pub len : ℕ
  pub is : sum ≡ md5 (take len octets)

-- After the 4 octets of a length comes the digest of a prefix of what follows these 20: of a
-- payload that is whole. What a torn write leaves has no such prefix, whoever chose the names in
-- it, except by a collision of MD5.
pub record HasSpoiltLength (octets : List ℕ) : Type 0 where
  pub head : 20 ≤ length octets
  pub front : HasFront (take 16 (drop 4 octets)) (drop 20 octets)
