use Rattle.std.proofs.Common.{◌≡◌, ℕ, ◌<◌, length, get_or, bit_xor}
use Rattle.rsl_auth.proofs.password.mask.Given as goal

abbrev pub invariant-loop-i : goal.invariant-loop-i
invariant-loop-i l = record {
  whole : length l.octets ≡ 16;
  done : (k : ℕ) → k < l.i → get_or l.octets k 0 ≡ bit_xor (get_or l.block k 0) (get_or l.digest k 0);
}
