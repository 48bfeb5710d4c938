-- A Message-Authenticator of 16 octets ends within the attributes.
use Rattle.std.proofs.Common.{◌≡◌, ℕ, ◌+◌, ◌≤◌, List, [], length, unwrap_or, Option, Some, None, arith}
use Rattle.std.specs.Prelude.{IfSome}

-- a value that is there, if it is not empty
pub long_within : (offset whole : ℕ) (first : Option (List ℕ)) → length (unwrap_or first []) ≡ 16 → IfSome first (λ value. offset + 2 + length value ≤ whole) → offset + 18 ≤ whole
long_within offset whole None long within = absurd (omega arith)
long_within offset whole (Some value) long within = omega (arith, long, within)
