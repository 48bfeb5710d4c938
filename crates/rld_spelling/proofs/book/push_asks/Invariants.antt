use Rattle.std.proofs.Common.{◌≡◌, ◌++◌, length, take}
use Rattle.std.specs.List.{flat_map}
use Rattle.rld_spelling.specs.Numbers.{number_octets}
use Rattle.rld_spelling.specs.Books.{kept_ask_octets}
use Rattle.rld_spelling.proofs.book.push_asks.Given as goal

abbrev pub invariant-loop-ask : goal.invariant-loop-ask
invariant-loop-ask l =
    l.out.items ≡ l.fn.out.items ++ (number_octets (length l.asks) ++ flat_map kept_ask_octets (take l.ask-index l.asks))
