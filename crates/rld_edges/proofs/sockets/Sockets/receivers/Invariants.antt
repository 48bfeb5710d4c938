use Rattle.std.proofs.Common.{◌≡◌, map, take}
use Rattle.std.specs.List.{flat_map}
use Rattle.rld_edges.specs.Jobs.{jobs_on, seen}
use Rattle.rld_edges.proofs.sockets.Sockets.receivers.Given as goal

abbrev pub invariant-loop-pair : goal.invariant-loop-pair
invariant-loop-pair l = map seen l.jobs.items ≡ flat_map jobs_on (take l.pair-index l.self.pairs.items)
