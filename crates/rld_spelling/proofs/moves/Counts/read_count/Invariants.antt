use Rattle.std.proofs.Common.{◌≡◌, ◌-◌}
use Rattle.rld_spelling.specs.Lists.{values_at}
use Rattle.rld_spelling.proofs.Callers.{with_front}
use Rattle.rld_spelling.specs.Moves.{move_at}
use Rattle.rld_spelling.proofs.moves.Counts.read_count.Given as goal

abbrev pub invariant-loop : goal.invariant-loop
invariant-loop l =
    with_front (l.moves.items) (values_at (move_at l.self) (l.count - l.counter) l.reader) ≡ values_at (move_at l.self) l.count l.fn.reader
