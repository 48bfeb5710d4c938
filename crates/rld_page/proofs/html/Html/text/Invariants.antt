use Rattle.std.proofs.Common.{◌≡◌, ◌++◌, take}
use Rattle.std.specs.List.{flat_map}
use Rattle.rld_page.specs.Html.{html_octet}
use Rattle.rld_page.proofs.html.Html.text.Given as goal

-- the octets that were looked at are written
abbrev pub invariant-loop-octet : goal.invariant-loop-octet
invariant-loop-octet l = l.self ≡ l.fn.self ++ flat_map html_octet (take l.octet-index l.text)
