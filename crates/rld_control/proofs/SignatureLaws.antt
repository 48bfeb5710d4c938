-- The value of a Message-Authenticator stands where it was written.
use Rattle.std.proofs.Common.{◌≡◌, ℕ, ◌+◌, ◌≤◌, List, ◌++◌, length, take, drop, refl, ap, ◌∙◌, arith, append_assoc}
use Rattle.std.proofs.lemmas.List.{length-take-le, take_at, drop_at}
use Rattle.md5.specs.Md5.{md5, digest_bytes}
use Rattle.rsl_auth.specs.Hmac.{hmac_md5}
use Rattle.rsl_auth.specs.Signature.{signature, signed, value_at}

-- a signature is a digest of 16 octets
length-signature : (packet : List ℕ) (at : ℕ) (request_auth secret : List ℕ) → length (signature packet at request_auth secret) ≡ 16
unfolding signature hmac_md5 md5 digest_bytes
length-signature packet at request_auth secret = refl

-- the value that was signed stands where it was written
pub value_at_signed : (packet : List ℕ) (at : ℕ) (request_auth secret : List ℕ) → at + 16 ≤ length packet
    → value_at (signed packet at request_auth secret) at ≡ signature packet at request_auth secret
unfolding signed
value_at_signed packet at request_auth secret within =
    let value : List ℕ = signature packet at request_auth secret in
    let rest : List ℕ = drop (at + 16) packet in
    ap (λ (x : List ℕ). take 16 (drop at x)) (append_assoc (take at packet) value rest)
    ∙ ap (λ (x : List ℕ). take 16 x) (drop_at (take at packet) (value ++ rest) at (length-take-le at packet (omega arith)))
    ∙ take_at value rest 16 (length-signature packet at request_auth secret)
