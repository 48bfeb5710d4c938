use Rattle.std.proofs.Common.{◌≡◌, ◌++◌, length, take}
use Rattle.std.specs.List.{flat_map}
use Rattle.rld_spelling.specs.Numbers.{number_octets}
use Rattle.rld_spelling.specs.Moves.{move_octets}
use Rattle.rld_spelling.proofs.moves.Counts.push_each.Given as goal

abbrev pub invariant-loop-moved : goal.invariant-loop-moved
invariant-loop-moved l =
    l.out.items ≡ l.fn.out.items ++ (number_octets (length l.moves) ++ flat_map move_octets (take l.moved-index l.moves))
