use Rattle.std.proofs.Common.{◌≡◌, ◌++◌, length, take}
use Rattle.std.specs.List.{flat_map}
use Rattle.rld_spelling.specs.Numbers.{number_octets}
use Rattle.rld_spelling.specs.Books.{link_octets}
use Rattle.rld_spelling.proofs.book.push_links.Given as goal

abbrev pub invariant-loop-link : goal.invariant-loop-link
invariant-loop-link l =
    l.out.items ≡ l.fn.out.items ++ (number_octets (length l.links) ++ flat_map link_octets (take l.link-index l.links))
