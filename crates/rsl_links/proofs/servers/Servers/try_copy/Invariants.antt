use Rattle.std.proofs.Common.{◌≡◌, take}
use Rattle.rsl_links.proofs.servers.Servers.try_copy.Given as goal

abbrev pub invariant-loop-nas : goal.invariant-loop-nas
invariant-loop-nas l = l.table.items ≡ take l.nas-index l.nas-items
