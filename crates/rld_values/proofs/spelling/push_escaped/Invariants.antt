use Rattle.std.proofs.Common.{◌≡◌, ◌++◌, take}
use Rattle.rld_values.specs.Values.{escaped}
use Rattle.rld_values.proofs.spelling.push_escaped.Given as goal

-- the octets that were looked at, escaped
abbrev pub invariant-loop-octet : goal.invariant-loop-octet
invariant-loop-octet l = l.out.items ≡ l.fn.out.items ++ escaped (take l.octet-index l.octets)
