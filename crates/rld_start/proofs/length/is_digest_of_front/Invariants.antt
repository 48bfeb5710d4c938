use Rattle.std.proofs.Common.{◌≡◌, ℕ, ◌<◌, take}
use Rattle.md5.specs.Md5.{Holds, md5}
use Rattle.rld_start.proofs.length.is_digest_of_front.Given as goal

-- the hasher has the octets that were looked at, and no shorter front has the digest
abbrev pub invariant-loop-octet : goal.invariant-loop-octet
invariant-loop-octet l = record {
  holds : Holds l.hasher (take l.octet-index l.octets);
  none : (len : ℕ) → len < l.octet-index → l.sum ≡ md5 (take len l.octets) → ⊥;
}
