use Rattle.std.proofs.Common.{◌≡◌}
use Rattle.rsl_links.specs.Ranked.{IsOldestUpto, touched_in}
use Rattle.rsl_links.proofs.order.Order.oldest_between.Given as goal

abbrev pub invariant-loop-rank : goal.invariant-loop-rank
invariant-loop-rank l =
    record {
      oldest : IsOldestUpto l.slots.slots.items l.self.slots.items l.first l.rank l.oldest;
      touched : l.touched ≡ touched_in l.slots.slots.items l.self.slots.items l.oldest;
    }
