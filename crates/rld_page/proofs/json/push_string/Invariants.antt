use Rattle.std.proofs.Common.{◌≡◌, ◌++◌, take}
use Rattle.std.specs.List.{flat_map}
use Rattle.rld_page.specs.Json.{json_octet}
use Rattle.rld_page.proofs.json.push_string.Given as goal

-- the octets that were looked at are written
abbrev pub invariant-loop-octet : goal.invariant-loop-octet
invariant-loop-octet l = l.out.items ≡ l.fn.out.items ++ flat_map json_octet (take l.octet-index l.octets)
