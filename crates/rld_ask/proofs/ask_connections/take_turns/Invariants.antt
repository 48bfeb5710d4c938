use Rattle.std.proofs.Common.{◌≡◌, ◌++◌, Ok, map, take}
use Rattle.rld_ask.specs.Asking.{asks_in}
use Rattle.rld_ask.proofs.ask_connections.take_turns.Given as goal

-- the asks so far are those of the connections that have had their turn
abbrev pub invariant-loop-index : goal.invariant-loop-index
invariant-loop-index g l =
    map Ok l.asks.items ≡ map Ok l.initial.asks.items ++ asks_in (take l.index l.connections)
