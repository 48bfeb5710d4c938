use Rattle.std.proofs.Common.{◌≡◌, take, drop}
use Rattle.rld_ask.specs.Asking.{AreTold}
use Rattle.rld_ask.proofs.Gathering.{answers_left}
use Rattle.rld_ask.proofs.ask_connections.answer_each.Given as goal

-- those that had their turn are told, and the others are as they were
abbrev pub invariant-loop-index : goal.invariant-loop-index
invariant-loop-index l =
    AreTold l.names (take l.index l.initial.connections) l.answers (take l.index l.connections)
    × (drop l.index l.connections ≡ drop l.index l.initial.connections)
    × (l.left ≡ answers_left (take l.index l.initial.connections) l.answers)
