use Rattle.std.proofs.Common.{◌≡◌, ◌++◌, take, drop, map}
use Rattle.rld_books.specs.Cut.{cut_ask}
use Rattle.rld_books.proofs.server_books.cutting.cut_asks.Given as goal

-- the asks that the loop has passed are cut, and the others are as before
abbrev pub invariant-loop-ask : goal.invariant-loop-ask
invariant-loop-ask l =
    l.asks ≡ map (cut_ask l.now) (take l.ask-index l.initial.asks) ++ drop l.ask-index l.initial.asks
