use Rattle.std.proofs.Common.{◌≡◌, take}
use Rattle.rsl_links.proofs.list.LinkList.try_copy.Given as goal

abbrev pub invariant-loop-at : goal.invariant-loop-at
invariant-loop-at l =
    record {
      items : l.copy.items ≡ take l.at l.self.items;
      room : l.copy.room ≡ l.room;
    }
