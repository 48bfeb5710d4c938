use Rattle.std.proofs.Common.{◌≡◌, ◌++◌, take}
use Rattle.std.specs.List.{flat_map}
use Rattle.rld_text.specs.Json.{json_octet}
use Rattle.rld_text.proofs.json.push_octets.Given as goal

-- the octets that were looked at
abbrev pub invariant-loop-octet : goal.invariant-loop-octet
invariant-loop-octet l = l.out.items ≡ l.fn.out.items ++ flat_map json_octet (take l.octet-index l.octets)
