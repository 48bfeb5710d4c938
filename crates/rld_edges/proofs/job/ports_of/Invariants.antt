use Rattle.std.proofs.Common.{◌≡◌, ◌++◌, drop}
use Rattle.std.specs.List.{filter_map}
use Rattle.rld_edges.specs.Jobs.{port_of}
use Rattle.rld_edges.proofs.job.ports_of.Given as goal

abbrev pub invariant-loop-job : goal.invariant-loop-job
invariant-loop-job l = filter_map port_of l.jobs ≡ l.ports.items ++ filter_map port_of (drop l.job-index l.jobs)
