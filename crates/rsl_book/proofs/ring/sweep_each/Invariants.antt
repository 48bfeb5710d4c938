use Rattle.std.proofs.Common.{◌≡◌, ◌++◌, take, drop, map}
use Rattle.rsl_book.specs.Seen.{sweep_kept}
use Rattle.rsl_book.proofs.ring.sweep_each.Given as goal

abbrev pub invariant-loop-index : goal.invariant-loop-index
invariant-loop-index g l = l.all ≡ map (sweep_kept l.servers l.nas l.delay l.now) (take l.index l.initial.all) ++ drop l.index l.initial.all
