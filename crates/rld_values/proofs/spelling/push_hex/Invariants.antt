use Rattle.std.proofs.Common.{◌≡◌, ◌++◌, take}
use Rattle.rld_values.specs.Values.{hex}
use Rattle.rld_values.proofs.spelling.push_hex.Given as goal

-- the digits of the octets that were looked at
abbrev pub invariant-loop-octet : goal.invariant-loop-octet
invariant-loop-octet l = l.out.items ≡ l.fn.out.items ++ hex (take l.octet-index l.octets)
