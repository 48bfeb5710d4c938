use Rattle.std.proofs.Common.{◌≡◌, take}
use Rattle.rsl_book.specs.Seen.{all_seen}
use Rattle.rsl_book.proofs.ring.Ring.is_same.Given as goal

abbrev pub invariant-loop-index : goal.invariant-loop-index
invariant-loop-index g l = take l.index (all_seen l.servers l.self.items) ≡ take l.index (all_seen l.others l.other.items)
