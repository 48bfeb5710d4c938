-- The length of a digest.
use Rattle.std.proofs.Common.{◌≡◌, ℕ, List, length, refl}
use Rattle.md5.specs.Md5.{md5, digest_bytes}

pub length-md5 : (message : List ℕ) → length (md5 message) ≡ 16
unfolding md5 digest_bytes
length-md5 message = refl
