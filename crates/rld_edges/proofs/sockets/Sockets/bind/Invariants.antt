use Rattle.std.proofs.Common.{◌≡◌, map, take}
use Rattle.rld_edges.specs.Sockets.{pair_for, pair_seen}
use Rattle.rld_edges.proofs.sockets.Sockets.bind.Given as goal

abbrev pub invariant-loop-listen : goal.invariant-loop-listen
invariant-loop-listen g l = map pair_seen l.pairs.items ≡ map pair_for (take l.listen-index l.listens)
