use Rattle.std.proofs.Common.{◌≡◌, take}
use Rattle.rld_books.specs.Carried.{asks_on}
use Rattle.rld_books.specs.Numbers.{number_in}
use Rattle.rld_books.proofs.carry.asks_of.Given as goal

-- those of the asks that were looked at
abbrev pub invariant-loop-ask : goal.invariant-loop-ask
invariant-loop-ask l = l.made.items ≡ asks_on (number_in l.numbers) (take l.ask-index l.asks)
