use Rattle.std.proofs.Common.{◌≡◌, ◌++◌, map, take, drop, bit_xor}
use Rattle.rsl_auth.proofs.hmac.padded.Given as goal

-- the octets that the loop has passed are xor the pad, and the others as before
abbrev pub invariant-loop-octet : goal.invariant-loop-octet
invariant-loop-octet l =
    l.octet-items
    ≡ map (λ octet. bit_xor octet l.pad) (take l.octet-index l.initial.octet-items) ++ drop l.octet-index l.initial.octet-items
