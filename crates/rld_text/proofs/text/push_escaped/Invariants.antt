use Rattle.std.proofs.Common.{◌≡◌, ◌++◌, take}
use Rattle.std.specs.List.{flat_map}
use Rattle.rld_text.specs.Text.{escaped_octet}
use Rattle.rld_text.proofs.text.push_escaped.Given as goal

-- the octets that were looked at, escaped
abbrev pub invariant-loop-octet : goal.invariant-loop-octet
invariant-loop-octet l = l.out.items ≡ l.fn.out.items ++ flat_map escaped_octet (take l.octet-index l.octets)
