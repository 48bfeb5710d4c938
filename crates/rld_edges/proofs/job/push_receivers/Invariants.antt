use Rattle.std.proofs.Common.{◌≡◌, ◌++◌, map}
use Rattle.rld_edges.specs.Jobs.{receivers_on, seen}
use Rattle.rld_edges.proofs.job.push_receivers.Given as goal

abbrev pub invariant-loop : goal.invariant-loop
invariant-loop l = map seen l.jobs.items ≡ map seen l.initial.jobs.items ++ receivers_on l.socket l.port l.counter
